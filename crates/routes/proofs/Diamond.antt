-- The example of two ways through four areas.
use Rattle.std.proofs.Common.{◌≡◌, ℕ, true, List, [], ◌∷◌, sym, refl, subst, inl, inr, arith}
use Rattle.std.proofs.lemmas.Bool.{false≢true, cases_order}
use Rattle.routes.specs.Example.{Example, diamond}
use Rattle.routes.specs.Paths.{Holds, Path, Before}

-- from 0 one does not get to 3 at once, nor to 0
not_to : (x b : ℕ) → x ≡ 0 → diamond x b ≡ true → (b ≡ 3 → ⊥) × (b ≡ 0 → ⊥)
not_to x b e h =
    let g : diamond 0 b ≡ true = subst (λ z. diamond z b ≡ true) e h in
    (λ k. false≢true (subst (λ z. diamond 0 z ≡ true) k g), λ k. false≢true (subst (λ z. diamond 0 z ≡ true) k g))

best : (ys : List ℕ) → Path (Holds diamond) 0 3 ys → Before (0 ∷ 1 ∷ 3 ∷ []) ys
best [] h = absurd h.0
best (x ∷ []) h = absurd (omega (arith, h.0.1, h.0.2))
best (x ∷ b ∷ []) h = absurd ((not_to x b h.0.1 h.0.2.0.2).0 h.0.2.1)
best (x ∷ b ∷ c ∷ []) h =
    let n : b ≡ 0 → ⊥ = (not_to x b h.0.1 h.0.2.0.2).1 in
    inr (
      refl,
      inr (
        sym h.0.1,
        elim (cases_order 1 b) [
          | inl e ↦ inr (e, inr (sym h.0.2.1.1, tt))
          | inr o ↦ elim o [ inl l ↦ inl l | inr l ↦ absurd (omega arith) ]
        ],
      ),
    )
best (x ∷ b ∷ c ∷ d ∷ ys) h = inl (omega arith)

pub example : Example
example = record {
  lowest = (
    (
      (omega arith, refl, ((omega arith, omega arith, refl), ((omega arith, omega arith, refl), refl))),
      ((λ e. omega arith, (λ e. omega arith, tt)), ((λ e. omega arith, tt), (tt, tt))),
    ),
    best,
  );
}
