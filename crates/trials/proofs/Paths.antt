-- The route of one hop, and no path from an area from which nothing is open.
use Rattle.std.proofs.Common.{◌≢◌, ℕ, List, [], ◌∷◌, sym, refl, ◌∙◌, subst, inl, inr, arith}
use Rattle.routes.specs.Paths.{Area, Relation, Path, Before, IsRoute}

pub no_path : (O : Relation) (p q : ℕ) (xs : List ℕ) → ((b : ℕ) → O p b → ⊥) → p ≢ q → Path O p q xs → ⊥
no_path O p q [] shut apart h = h.0
no_path O p q (a ∷ []) shut apart h = apart (sym h.0.1 ∙ h.0.2)
no_path O p q (a ∷ b ∷ xs) shut apart h = shut b (subst (λ (c : ℕ). O c b) h.0.1 h.0.2.0.2)

first : (O : Relation) (p q : ℕ) → p ≢ q → (ys : List ℕ) → Path O p q ys → Before (p ∷ q ∷ []) ys
first O p q apart [] h = absurd h.0
first O p q apart (a ∷ []) h = absurd (apart (sym h.0.1 ∙ h.0.2))
first O p q apart (a ∷ b ∷ []) h = inr (refl, inr (sym h.0.1, inr (sym h.0.2.1, tt)))
first O p q apart (a ∷ b ∷ c ∷ ys) h = inl (omega arith)

-- where the direction is open it is the route
pub direct : (O : Relation) (p q : ℕ) → Area p → Area q → p ≢ q → O p q → IsRoute O p q (p ∷ q ∷ [])
direct O p q a b apart o = (((a, refl, ((a, b, o), refl)), ((λ e. apart (sym e), tt), (tt, tt))), first O p q apart)
