-- What `scan_body` leaves to show.
use Rattle.std.proofs.Common.{length, ap, ◌∙◌, arith, false-eqb}
use Rattle.std.proofs.lemmas.Int.{ints}
use Rattle.numbers.specs.Numerals.{number_on}
use Rattle.numbers.proofs.Scanned.{sixteen}
use Rattle.numbers.proofs.Bodies.{no_decimals, no_exponent, body, lengths, room_for, power_small}
use Rattle.numbers.proofs.scan.scan_body.Goals as goal

pub returns-in_err-decimals : goal.returns-in_err-decimals
returns-in_err-decimals c = rw c.from_residual.ensures (no_decimals _ _ _ c.digits_then.ensures c.in_err-decimals.ensures)

pub returns-in_err-power : goal.returns-in_err-power
returns-in_err-power c = rw c.from_residual-in_err-power.ensures (no_exponent _ _ _ c.digits_then.ensures _ _ c.in_ok-decimals.ensures c.in_err-power.ensures)

pub read_on-requires : goal.read_on-requires
read_on-requires c = (c.digits_then.ensures.digits, sixteen _ (omega (arith, c.args.s.short, lengths _ _ _ c.digits_then.ensures _ _ c.in_ok-decimals.ensures)))

pub read_on-requires-2 : goal.read_on-requires-2
read_on-requires-2 c = (
  c.in_ok-decimals.ensures.digits,
  room_for _ _ _ c.read_on.ensures c.digits_then.ensures.digits (omega (arith, c.args.s.short, lengths _ _ _ c.digits_then.ensures _ _ c.in_ok-decimals.ensures)),
)

pub overflow_sub-result : goal.overflow_sub-result
overflow_sub-result c =
    let l = lengths _ _ _ c.digits_then.ensures _ _ c.in_ok-decimals.ensures in
    let p = c.in_ok-power.ensures in
    omega (arith, ints, c.args.s.short, l, p.value, power_small p.tail p.proper (omega (arith, c.args.s.short, l, ap length p.joined)))

pub invariant_of-result : goal.invariant_of-result
invariant_of-result c =
    let l = lengths _ _ _ c.digits_then.ensures _ _ c.in_ok-decimals.ensures in
    let p = c.in_ok-power.ensures in
    let s = power_small p.tail p.proper (omega (arith, c.args.s.short, l, ap length p.joined)) in
    record { near = (omega (arith, ints, c.args.s.short, l, p.value, s), omega (arith, ints, c.args.s.short, l, p.value, s)) }

pub returns : goal.returns
returns c =
    let l = lengths _ _ _ c.digits_then.ensures _ _ c.in_ok-decimals.ensures in
    let p = c.in_ok-power.ensures in
    let s = power_small p.tail p.proper (omega (arith, c.args.s.short, l, ap length p.joined)) in
    body _ _ _ c.digits_then.ensures _ _ c.in_ok-decimals.ensures _ _ _ (omega (arith, false-eqb _ _ c.if-is_empty.ensures)) p
    (c.read_on-2.ensures ∙ ap (λ x. number_on x c.in_ok-decimals.decimals.now) c.read_on.ensures)
    (omega (arith, ints, c.args.s.short, l, p.value, s))
