-- What holds after every list of events.
use Rattle.std.proofs.Common.{◌≡◌, ℕ, ◌+◌, ◌≤◌, true, List, [], ◌∷◌, ◌++◌, subst, arith, Some, None, Option}
use Rattle.matching.specs.declared.round.Round.{Round}
use Rattle.std.proofs.ByRecursion.{All-push}
use Rattle.std.proofs.lemmas.Int.{ints}
use Rattle.book.proofs.Numbers.{distinct_push}
use Rattle.book.specs.declared.rows.Order.{Order}
use Rattle.book.specs.Orderly.{Fit, Lacks, Orderly}
use Rattle.book.specs.Orders.{is_ioc}
use Rattle.capacity.specs.Meaning.{Capacity, Sound}
use Rattle.flows.proofs.Balance.{Net, sound_net}
use Rattle.trades.specs.Deals.{traded_contract}
use Rattle.session.specs.State.{State, fresh}
use Rattle.events.specs.declared.events.Event.{Event}
use Rattle.history.specs.Laws.{Balanced, Covered}
use Rattle.history.specs.Standing.{◌∈◌, standing, steps, bound, smaller}
use Rattle.history.proofs.Agreeing.{Agree, agree_none, Lone}
use Rattle.history.proofs.Clear.{Clear}

-- which orders may be IOC: the incoming one of a round, and none while quiet
abbrev pub MayBeIoc : Option Round → Order → Type 0
MayBeIoc None x = ⊥
MayBeIoc (Some r) x = Lone r x

-- what a round has had of steps, and what it may have still
abbrev pub Within : List Event → Option Round → Type 0
Within h None = steps h ≤ bound h + 1
Within h (Some r) = steps h + smaller (traded_contract r) (standing h) ≤ bound h

pub record Inv (m : Capacity) (h : List Event) (s : State) : Type 0 where
  pub net : Net s.capacity.joins
  pub orderly : Orderly s.book
  pub clear : Clear s.capacity s.book s.round
  pub agree : Agree s.book (standing h)
  pub lone : (x : Order) → x ∈ s.book → is_ioc x.kind ≡ true → MayBeIoc s.round x
  pub balanced : Balanced m h s
  pub covered : Covered h s
  pub within : Within h s.round

pub at_first : (m : Capacity) (n : ℕ) → Sound m → Inv m [] (fresh n m)
at_first m n sound = record {
  net = sound_net m sound;
  orderly = record { fit = tt; distinct = tt };
  clear = λ b o f. f.buy_in;
  agree = agree_none;
  lone = λ x i k. i;
  balanced = λ c a. omega (arith, ints);
  covered = tt;
  within = omega arith;
}

-- what the invariant says while quiet
module _ (m : Capacity) (h : List Event) (s : State) (inv : Inv m h s) (quiet : s.round ≡ None) where
  pub clear_quiet : Clear s.capacity s.book None
  clear_quiet = subst (Clear s.capacity s.book) quiet inv.clear

  pub none_ioc : (x : Order) → x ∈ s.book → is_ioc x.kind ≡ true → ⊥
  none_ioc x i k = subst (λ (ph : Option Round). MayBeIoc ph x) quiet (inv.lone x i k)

  pub within_quiet : steps h ≤ bound h + 1
  within_quiet = subst (Within h) quiet inv.within

-- one order more
pub orderly_push : (os : List Order) (o : Order) → Orderly os → Fit o → Lacks o.number os → Orderly (os ++ o ∷ [])
orderly_push os o h f l = record { fit = All-push Fit os o h.fit f; distinct = distinct_push os o h.distinct l }

pub same_few : (n : ℕ) → 0 + n ≤ n
same_few n = omega arith
