-- What a log is told of a turn.
use Rattle.std.specs.Prelude.{◌≡◌, ℕ, Bool, true, false, List}
use Rattle.session.specs.Rounds.{Logged, Noted}
use Rattle.session.specs.State.{State}
use Rattle.events.specs.declared.calls.Call.{Call}
use Rattle.events.specs.declared.events.Event.{Event}
use Rattle.events.specs.declared.events.Event.TheVariants.{Called}
use Rattle.events.specs.declared.making.Left.{Left}
use Rattle.events.specs.declared.making.Left.TheVariants.{Quiet, Round}
use Rattle.events.specs.Events.{Answer}
use Rattle.events.specs.Turns.{Turned}

-- A turn is performed, and a log told of the call and then of each trade; C and N say what noting a call and noting a trade make of it.
pub record Performed {L : Type 0} (C : L → Event → L → Type 0) (N : L → Logged → L → Type 0) (s : State) (p : ℕ) (k : Call) (before : L) (a : Answer) (after : L) (t : State) : Type 0 where
  pub trades : List Logged
  pub turn : Turned s p k a trades t
  pub told : L
  pub call_noted : C before (Called p k a) told
  pub trades_noted : Noted N told trades after

-- the pass is of a round where one follows, and of a quiet session where none does
abbrev pub LeftBy : Bool → ℕ → Left → Type 0
LeftBy b p (Quiet pass) = (b ≡ false) × (pass.number ≡ p)
LeftBy b p (Round pass) = (b ≡ true) × (pass.number ≡ p)
