-- Every executable pair is one of the round under way; so while quiet there is none.
use Rattle.std.proofs.Common.{◌≡◌, ℕ, Bool, ◌&&◌, leb, List, [], ◌∷◌, ◌++◌, pos, ◌+ℤ◌, ◌-ℤ◌, sym, ap, ◌∙◌, subst, inl, inr, Some, None, Option}
use Rattle.matching.specs.declared.round.Round.{Round}
use lib.Signed.{le_z}
use mathlib.Core.Path.{fun_ext}
use Rattle.std.proofs.lemmas.Bool.{cases_eq}
use Rattle.book.specs.declared.rows.Order.{Order}
use Rattle.capacity.proofs.Puts.{other_way, put_else}
use Rattle.capacity.specs.declared.figures.Figures.{Figures}
use Rattle.capacity.specs.Directions.{put}
use Rattle.capacity.specs.Meaning.{Capacity, atc, noticed}
use Rattle.flows.specs.Flows.{open_in, OpenIn}
use Rattle.matching.specs.declared.round.Round.TheVariants.{Regular, Batch}
use Rattle.matching.specs.Orders.{Concerns}
use Rattle.routes.specs.Laws.{Reach}
use Rattle.routes.specs.Paths.{Holds}
use Rattle.history.specs.Standing.{◌∈◌}
use Rattle.history.proofs.Facing.{Facing}
use Rattle.history.proofs.Members.{in_push}

-- a pair of the round under way
abbrev pub InPhase : Option Round → Order → Order → Type 0
InPhase None b o = ⊥
InPhase (Some r) b o = Concerns r b o

abbrev pub Clear : Capacity → List Order → Option Round → Type 0
Clear m os ph = (b o : Order) → Facing m os b o → InPhase ph b o

-- the orders of the one stand in the other
abbrev pub Part : List Order → List Order → Type 0
Part xs ys = (x : Order) → x ∈ xs → x ∈ ys

-- in every contract but c the same directions are open
abbrev pub SameElsewhere : Capacity → Capacity → ℕ → Type 0
SameElsewhere m n c = (k : ℕ) → (k ≡ c → ⊥) → open_in n k ≡ open_in m k

pub open_less : (m n : Capacity) (k a b : ℕ) → open_in n k ≡ open_in m k → Reach (OpenIn n k) a b → Reach (OpenIn m k) a b
open_less m n k a b e r = subst (λ (f : ℕ → ℕ → Bool). Reach (Holds f) a b) e r

pub notice_elsewhere : (m : Capacity) (k x y : ℕ) (f : Figures) → SameElsewhere m (noticed m k x y f) k
notice_elsewhere m k x y f c n = fun_ext (λ a. fun_ext (λ b. ap (λ z. leb c 23 && (m.joins a b && le_z (pos 1) z)) (same a b)))
  where
    other : (g : ℕ → ℕ → ℕ → ℕ) (u v a b : ℕ) → put g k x y u v c a b ≡ g c a b
    other g u v a b = put_else g k x y u v c a b (other_way k x y c a b (λ e _ _. n e)) (other_way k y x c a b (λ e _ _. n e))

    same : (a b : ℕ) → atc (noticed m k x y f) c a b ≡ atc m c a b
    same a b =
        let p = other m.ntc f.ntc f.ntc_back a b in
        let q = other m.aac f.aac f.aac_back a b in
        let r = other m.aac f.aac f.aac_back b a in
        λ i. ((pos (p i) -ℤ pos (q i)) +ℤ pos (r i)) -ℤ (pos (m.held c a b) +ℤ m.net c a b)

-- fewer orders
pub clear_part : (m : Capacity) (os xs : List Order) → Clear m os None → Part xs os → Clear m xs None
clear_part m os xs none part b o f = none b o (record { buy_in = part b f.buy_in; sell_in = part o f.sell_in; meets = f.meets; leads = f.leads })

-- one order more, which is incoming
pub clear_push : (m : Capacity) (os xs : List Order) (z : Order) → Clear m os None → Part xs os → Clear m (xs ++ z ∷ []) (Some (Regular z.contract z.number))
clear_push m os xs z none part b o f =
    elim (in_push b z xs f.buy_in) [
      | inr e ↦ (ap (λ (y : Order). y.contract) (sym e), inl (ap (λ (y : Order). y.number) (sym e)))
      | inl i ↦ elim (in_push o z xs f.sell_in) [
        | inr e ↦ (f.meets.one_contract ∙ ap (λ (y : Order). y.contract) (sym e), inr (ap (λ (y : Order). y.number) (sym e)))
        | inl j ↦ absurd (none b o (record { buy_in = part b i; sell_in = part o j; meets = f.meets; leads = f.leads }))
      ]
    ]

-- other directions open in one contract
pub clear_batch : (m n : Capacity) (os : List Order) (c : ℕ) → Clear m os None → SameElsewhere m n c → Clear n os (Some (Batch c))
clear_batch m n os c none same b o f =
    elim (cases_eq b.contract c) [
      | inl e ↦ e
      | inr d ↦ absurd (none b o (record { buy_in = f.buy_in; sell_in = f.sell_in; meets = f.meets; leads = open_less m n b.contract o.area b.area (same b.contract d) f.leads }))
    ]
