-- What an array holds that is made of one value, or by calls that change nothing.
use Rattle.std.proofs.Common.{◌≡◌, ℕ, zero, suc, ◌+◌, ◌<◌, ◌≤◌, List, get_or, replicate, sym, subst, inl, inr, arith}
use Rattle.std.proofs.lemmas.Bool.{cases_eq, cases_lt}
use Rattle.std.proofs.lemmas.List.{get_or-replicate, get_or_past, length-replicate}
use Rattle.std.specs.Array.{IsFromFnResult, IsFromFnResultFrom}
use Rattle.std.specs.Fn.{Mut, Called}

pub blank : {A : Type 0} (n k : ℕ) (x : A) → get_or (replicate n x) k x ≡ x
blank n k x = elim (cases_lt k n) [ inl l ↦ get_or-replicate n k x x l | inr l ↦ get_or_past (replicate n x) k x (rw length-replicate l) ]

module _ {F B : Type 0} (g : Mut F (ℕ × Unit {0}) B) (f : F) (ys : List B) (P : ℕ → B → Type 0) (m : ℕ) (calls : (k : ℕ) (y : B) (q : F) → k < m → Called g f (k, tt) y q → (q ≡ f) × P k y) where
  made_from : (i n : ℕ) → i + n ≡ m → IsFromFnResultFrom g f ys i n → (k : ℕ) (d : B) → i ≤ k → k < m → P k (get_or ys k d)
  made_from i zero s e k d l u = absurd (omega arith)
  made_from i (suc n) s e k d l u =
      let r = calls i e.1 e.0 (omega arith) e.3 in
      elim (cases_eq i k) [
        | inl z ↦ subst (λ j. P j (get_or ys j d)) z (subst (P i) (sym (e.2.1 d)) r.1)
        | inr z ↦ made_from (i + 1) n (omega arith) (subst (λ p. IsFromFnResultFrom g p ys (i + 1) n) r.0 e.4) k d (omega arith) u
      ]

  pub made : IsFromFnResult g f ys m → (k : ℕ) (d : B) → k < m → P k (get_or ys k d)
  made e k d l = made_from 0 m (omega arith) e.each k d (omega arith) l
