-- What `read_on` leaves to show.
use Rattle.std.proofs.Common.{◌<◌, length, arith}
use Rattle.numbers.proofs.Laws.{left_more, room_now}
use Rattle.numbers.proofs.scan.read_on.Goals as goal

pub overflow_mul-n : goal.overflow_mul-n
overflow_mul-n c =
    let h : c.loop-d.d-index < length c.args.ds.now = omega arith in
    let l = left_more _ _ c.args.ds.now c.loop-d.d-index h c.loop-d.invariant in
    omega (arith, room_now _ _ l.1.room)

pub overflow_add-n : goal.overflow_add-n
overflow_add-n c =
    let h : c.loop-d.d-index < length c.args.ds.now = omega arith in
    let l = left_more _ _ c.args.ds.now c.loop-d.d-index h c.loop-d.invariant in
    omega (arith, room_now _ _ l.1.room)

pub loop-d-preserved : goal.loop-d-preserved
loop-d-preserved c =
    let h : c.loop-d.d-index < length c.args.ds.now = omega arith in
    rw c.from.ensures (left_more _ _ c.args.ds.now c.loop-d.d-index h c.loop-d.invariant).1
