-- The flags of a grid: all shut, and after one write.
use Rattle.std.proofs.Common.{◌≡◌, ℕ, ◌+◌, ◌*◌, Bool, false, ◌&&◌, eqb, ltb, replicate, refl, inl, inr}
use mathlib.Core.Path.{fun_ext}
use Rattle.std.proofs.lemmas.Bool.{cases_eq, cond-true, cond-false, and_from, and_left, and_right, eq-eqb, ne_eqb, lt-ltb}
use Rattle.routes.proofs.Made.{blank}
use Rattle.routes.specs.Grids.{turned, shut, flag}
use Rattle.routes.specs.Paths.{Area}

pub none_open : flag (replicate 256 false) ≡ shut
none_open = fun_ext (λ a. fun_ext (λ b. and_right _ _ (blank 256 (16 * a + b) false)))

module _ (f : ℕ → ℕ → Bool) (p q : ℕ) (v : Bool) where
  pub turned_here : Area p → Area q → turned f p q v p q ≡ v
  turned_here lp lq =
      cond-true _ v (f p q) (and_from _ _ (and_from _ _ (lt-ltb p 16 lp) (lt-ltb q 16 lq)) (and_from _ _ (eq-eqb p p refl) (eq-eqb q q refl)))

  pub turned_other : (a b : ℕ) → (a ≡ p → b ≡ q → ⊥) → turned f p q v a b ≡ f a b
  turned_other a b n = cond-false _ v (f a b) (and_right (ltb p 16 && ltb q 16) _ (elim (cases_eq a p) [
    | inl e ↦ and_right (eqb a p) _ (ne_eqb b q (n e))
    | inr m ↦ and_left _ (eqb b q) (ne_eqb a p m)
  ]))
