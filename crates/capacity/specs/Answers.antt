-- What a register answers, and when it refuses.
use Rattle.std.specs.Prelude.{ℕ, Bool, cond, not, ◌&&◌, ◌||◌, List, [], ◌∷◌, pos, Some, None, Option, ◌==◌, int_lt, nat_lt}
use Rattle.capacity.specs.declared.figures.Figures.{Figures}
use Rattle.capacity.specs.Faults.{Refusal, refusal}
use Rattle.capacity.specs.Meaning.{Capacity, atc}

-- a figure x of one direction: none where the contract is above 23 or no connector joins the areas
abbrev pub asked : {X : Type 0} → Capacity → ℕ → ℕ → ℕ → X → Option X
asked m c a b x = cond (nat_lt 23 c) None (cond (m.joins a b) (Some x) None)

abbrev pub take_tests : Capacity → ℕ → ℕ → ℕ → ℕ → List (Bool × Refusal)
take_tests m c a b q =
    (nat_lt 23 c, refusal 2 c a b None)
    ∷ (nat_lt q 1 || nat_lt 99999 q, refusal 6 c a b None)
    ∷ (not (m.joins a b), refusal 11 c a b None)
    ∷ (int_lt (atc m c a b) (pos q), refusal 13 c a b (Some (atc m c a b)))
    ∷ []

-- whether a figure is above 99,999
abbrev pub large : Figures → Bool
large f = (nat_lt 99999 f.ntc || nat_lt 99999 f.ntc_back) || (nat_lt 99999 f.aac || nat_lt 99999 f.aac_back)

abbrev pub notice_tests : Capacity → ℕ → ℕ → ℕ → Figures → List (Bool × Refusal)
notice_tests m c a b f =
    (nat_lt 23 c, refusal 2 c a b None)
    ∷ (not (m.joins a b), refusal 11 c a b None)
    ∷ (large f, refusal 12 c a b None)
    ∷ (not (m.noted c a b) && (m.room == 0), refusal 14 c a b None)
    ∷ []
