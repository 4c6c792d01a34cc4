-- What `read_digits` leaves to show.
use Rattle.std.proofs.Common.{length, sym, ap, ◌∙◌, arith, true-eqb, false-eqb, eqb-true}
use Rattle.std.proofs.lemmas.Int.{ints}
use Rattle.std.proofs.lemmas.Str.Parse.{digits_value_short}
use Rattle.numbers.proofs.Laws.{own}
use Rattle.numbers.proofs.Bodies.{only_digits, no_rest}
use Rattle.numbers.proofs.Scanned.{sixteen}
use Rattle.numbers.proofs.scan.read_digits.Goals as goal
use Rattle.numbers.proofs.scan.read_digits.Goals.{then-is_empty-via-then-is_empty, then-is_empty-via-else-is_empty+then-not-is_empty}

pub returns-then-is_empty : goal.returns-then-is_empty
returns-then-is_empty c = λ d.
    let e = only_digits _ _ _ c.digits_then.ensures d in
    elim c.then-is_empty.branch [
      | then-is_empty-via-then-is_empty w ↦ omega (arith, ap length e.0, d.0, eqb-true _ _ (sym c.is_empty.ensures ∙ w.if-is_empty.true))
      | then-is_empty-via-else-is_empty+then-not-is_empty w ↦ omega (arith, ap length e.1, false-eqb _ _ w.if-not-is_empty.ensures)
    ]

pub read_on-requires : goal.read_on-requires
read_on-requires c =
    let e = no_rest c.args.s.bytes.now _ _ c.digits_then.ensures (true-eqb _ _ c.if-not-is_empty.ensures) in
    (c.digits_then.ensures.digits, sixteen _ (omega (arith, ap length e)))

pub overflow_cast-result : goal.overflow_cast-result
overflow_cast-result c =
    let e = no_rest c.args.s.bytes.now _ _ c.digits_then.ensures (true-eqb _ _ c.if-not-is_empty.ensures) in
    omega (arith, ints, digits_value_short own c.digits_then.result.0.now 16 c.digits_then.ensures.digits (omega (arith, ap length e)))

pub returns : goal.returns
returns c =
    let e = no_rest c.args.s.bytes.now _ _ c.digits_then.ensures (true-eqb _ _ c.if-not-is_empty.ensures) in
    rw e (
      (omega (arith, false-eqb _ _ c.if-is_empty.ensures), c.digits_then.ensures.digits),
      omega (arith, ints, digits_value_short own c.digits_then.result.0.now 16 c.digits_then.ensures.digits (omega (arith, ap length e))),
    )
