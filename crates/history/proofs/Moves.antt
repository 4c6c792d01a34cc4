-- The net use of the areas after each event, from what was sold, bought and granted.
use Rattle.std.proofs.Common.{◌≡◌, ℕ, ◌+◌, List, [], ◌∷◌, pos, ◌+ℤ◌, ◌-ℤ◌, refl, arith}
use Rattle.std.proofs.lemmas.Int.{ints}
use Rattle.capacity.specs.Meaning.{Capacity, taken}
use Rattle.flows.proofs.Granted.{carried_on}
use Rattle.flows.specs.Balance.{net_out}
use Rattle.flows.specs.Flows.{carried}
use Rattle.session.specs.State.{State}
use Rattle.events.specs.declared.events.Event.{Event}
use Rattle.history.specs.Laws.{Balanced}
use Rattle.history.specs.Standing.{sold, bought, granted_out, granted_in}

-- a trade leaves the connectors as they are
joins_on : (c q : ℕ) (m : Capacity) (a : ℕ) (xs : List ℕ) → (carried_on c q m a xs).joins ≡ m.joins
joins_on c q m a [] = refl
joins_on c q m a (b ∷ xs) = joins_on c q (taken m c a b q) b xs

pub carried_joins : (m : Capacity) (c q : ℕ) (xs : List ℕ) → (carried m c q xs).joins ≡ m.joins
carried_joins m c q [] = refl
carried_joins m c q (a ∷ xs) = joins_on c q m a xs

-- from s to n each area carries x more out and y less
module _ (m : Capacity) (h : List Event) (s : State) (before : Balanced m h s) where
  abbrev More : Capacity → (ℕ → ℕ → ℕ) → (ℕ → ℕ → ℕ) → Type 0
  More n x y = (c a : ℕ) → net_out n c a +ℤ pos (y c a) ≡ net_out s.capacity c a +ℤ pos (x c a)

  pub more_granted : (n : Capacity) (x y : ℕ → ℕ → ℕ) → More n x y → (c a : ℕ) → net_out n c a -ℤ net_out m c a ≡ (pos (sold c a h) -ℤ pos (bought c a h)) +ℤ (pos (x c a + granted_out c a h) -ℤ pos (y c a + granted_in c a h))
  more_granted n x y e c a = omega (arith, ints, before c a, e c a)

  pub more_sold : (n : Capacity) (x y : ℕ → ℕ → ℕ) → More n x y → (c a : ℕ) → net_out n c a -ℤ net_out m c a ≡ (pos (x c a + sold c a h) -ℤ pos (y c a + bought c a h)) +ℤ (pos (granted_out c a h) -ℤ pos (granted_in c a h))
  more_sold n x y e c a = omega (arith, ints, before c a, e c a)

  -- nothing granted, and nothing sold
  pub none_granted : (c a : ℕ) → net_out s.capacity c a -ℤ net_out m c a ≡ (pos (sold c a h) -ℤ pos (bought c a h)) +ℤ (pos (0 + granted_out c a h) -ℤ pos (0 + granted_in c a h))
  none_granted = more_granted s.capacity (λ c a. 0) (λ c a. 0) (λ c a. refl)

  pub none_sold : (c a : ℕ) → net_out s.capacity c a -ℤ net_out m c a ≡ (pos (0 + sold c a h) -ℤ pos (0 + bought c a h)) +ℤ (pos (granted_out c a h) -ℤ pos (granted_in c a h))
  none_sold = more_sold s.capacity (λ c a. 0) (λ c a. 0) (λ c a. refl)
