-- A round follows, and its end is heard; or none does.
use Rattle.std.proofs.Common.{◌≡◌, true, false, rules}
use Rattle.events.specs.Events.{round_follows}
use Rattle.player.proofs.Hearing.{round_heard, call_heard, same_pass}
use Rattle.player.proofs.telling.take_turn.Goals.{then-begins_round, else-begins_round}
use Rattle.player.proofs.telling.take_turn.Goals as goal

pub returns-then-follows-clause-turn : goal.returns-then-follows-clause-turn
returns-then-follows-clause-turn g c =
    let b : round_follows c.args.call.now c.perform-answer.result.0 ≡ true = elim c.if-begins_round.branch [ then-begins_round w ↦ search rules | else-begins_round w ↦ search rules ] in
    round_heard g.S.EventSink.hears _ _ _ _ _ _ _ c.perform-answer.ensures.performed c.requires b _ c.hear.ensures

pub returns-then-follows-clause-told : goal.returns-then-follows-clause-told
returns-then-follows-clause-told g c = same_pass g.S.EventSink.hears _ _ _ _ _ _ _ c.perform-answer.ensures.performed c.requires

pub returns-else-follows-clause-turn : goal.returns-else-follows-clause-turn
returns-else-follows-clause-turn g c =
    let b : round_follows c.args.call.now c.perform-answer.result.0 ≡ false = elim c.if-begins_round.branch [ then-begins_round w ↦ search rules | else-begins_round w ↦ search rules ] in
    call_heard g.S.EventSink.hears _ _ _ _ _ _ _ c.perform-answer.ensures.performed c.requires b

pub returns-else-follows-clause-told : goal.returns-else-follows-clause-told
returns-else-follows-clause-told g c = same_pass g.S.EventSink.hears _ _ _ _ _ _ _ c.perform-answer.ensures.performed c.requires
