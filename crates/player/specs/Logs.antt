-- What a log of events holds: for the contracts of the private functions.
use Rattle.std.specs.Prelude.{◌≡◌, ℕ, ◌+◌, ◌≤◌, List, [], ◌∷◌, ◌++◌, vec_items, vec_len, vec_capacity, MatchResult, Some, Option}
use Rattle.std.specs.Option.{option_map}
use Rattle.std.specs.Result.{result_ok}
use Rattle.events.specs.declared.events.Event.{Event}
use Rattle.player.specs.declared.logs.EventLog.{EventLog}

-- the events, where there was memory enough for all of them
abbrev pub told : EventLog → Option (List Event)
told l = option_map vec_items (result_ok l.events)

-- it has all events, and has room for n more
abbrev pub Room : EventLog → ℕ → Type 0
Room l n = MatchResult l.events (λ v. vec_len v + n ≤ vec_capacity v) (λ e. ⊥)

-- the event is added: where there is memory enough for the events of b, there was for those of a;
-- and where a has room for this one and n more, b has room for those
pub record Adds (a : EventLog) (e : Event) (b : EventLog) : Type 0 where
  pub adds : (g : List Event) → told b ≡ Some g → (f : List Event) × (told a ≡ Some f) × (g ≡ f ++ e ∷ [])
  pub fits : (n : ℕ) → Room a (1 + n) → Room b n
