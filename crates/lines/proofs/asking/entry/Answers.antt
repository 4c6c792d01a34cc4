-- Side and kind stand in their words, and the numbers of the line are the rest.
use Rattle.std.proofs.Common.{Some, w32, rules}
use Rattle.std.proofs.lemmas.Int.{to_z-of_z}
use Rattle.reading.specs.Making.{at}
use Rattle.lines.specs.Asking.{side_word, kind_word}
use Rattle.lines.proofs.Asked.{entry_is, stood}
use Rattle.lines.proofs.asking.entry.Goals as goal

pub returns-clause-call : goal.returns-clause-call
returns-clause-call c =
    let zs = c.in_ok-numbers.numbers in
    let side = stood side_word _ _ _ (Some c.in_ok-side.side) c.word_ahead.ensures c.in_ok-side.ensures.ok_part c.side_of-side.ensures in
    let kind = stood kind_word _ _ _ (Some c.in_ok-kind.kind) c.word_ahead-2.ensures c.in_ok-kind.ensures.ok_part c.kind_of-kind.ensures in
    let same = entry_is c.in_ok-side.side c.in_ok-kind.kind zs c.sizes-counts.result _ c.sizes-counts.ensures (to_z-of_z w32 (at zs 6) (search rules)) in
    (Some c.in_ok-side.side, Some c.in_ok-kind.kind, (side, kind, (zs, (c.in_ok-numbers.ensures.numbers, same))))
