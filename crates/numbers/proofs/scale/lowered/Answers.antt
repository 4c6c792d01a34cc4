-- What `lowered` leaves to show.
use Rattle.std.proofs.Common.{◌^◌, ◌<◌, arith}
use Rattle.numbers.proofs.Laws.{ten_pos}
use Rattle.numbers.proofs.Scaling.{lower_high, lower_left}
use Rattle.numbers.proofs.scale.lowered.Goals as goal

pub returns-in_err-power : goal.returns-in_err-power
returns-in_err-power c = let h : 10 ^ c.args.by < 2 ^ 64 → ⊥ = c.in_err-power.ensures in rw c.from_residual.ensures (lower_high c.args.m (10 ^ c.args.by) (omega arith) (omega arith))

pub nonzero_rem-m : goal.nonzero_rem-m
nonzero_rem-m c = omega (arith, ten_pos c.args.by, c.in_ok-power.ensures)

pub returns-else-m-power-eq0 : goal.returns-else-m-power-eq0
returns-else-m-power-eq0 c = rw (c.in_ok-power.ensures.1) at (lower_left c.args.m c.in_ok-power.power (omega arith))
