-- The formula in 64 bits: figures are small, and what is held has 32.
use Rattle.std.proofs.Common.{arith}
use Rattle.std.proofs.lemmas.Int.{ints}
use Rattle.capacity.proofs.pair.Pair.atc.Goals as goal

pub overflow_sub-result-3 : goal.overflow_sub-result-3
overflow_sub-result-3 c =
    let h = c.ranges.held.fits in
    let s = c.args.self.small_there in
    let t = c.args.self.small_back in
    omega (arith, ints)

pub returns : goal.returns
returns c =
    let h = c.ranges.held.fits in
    let s = c.args.self.small_there in
    let t = c.args.self.small_back in
    omega (arith, ints)
