use Rattle.std.proofs.Common.{length, refl, rules, true-eqb, false-eqb}
use Rattle.reading.proofs.Cuts.{no_lines, first_line}
use Rattle.reading.proofs.reader.Reader.next_line.Goals as goal

pub returns-then-is_empty : goal.returns-then-is_empty
returns-then-is_empty c =
    (no_lines c.args.self.now.rest.now (true-eqb (length c.args.self.now.rest.now) 0 c.if-is_empty.ensures), search rules)

pub returns : goal.returns
returns c =
    let some = false-eqb (length c.args.self.now.rest.now) 0 c.if-is_empty.ensures in
    ((c.parted.result.0.now, (rw c.unwrap_or-self.ensures (first_line c.args.self.now.rest.now _ c.parted.result.1 _ some refl c.parted.ensures), refl)), refl, refl)
