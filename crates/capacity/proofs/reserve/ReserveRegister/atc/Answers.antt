-- The ATC of a layer, from the ATC and the held figure below.
use Rattle.std.proofs.Common.{arith}
use Rattle.std.proofs.lemmas.Int.{ints}
use Rattle.capacity.specs.Meaning.{reserved}
use Rattle.capacity.specs.Shapes.{kept_of}
use Rattle.capacity.proofs.Layers.{asked_some, asked_known, atc_bounds}
use Rattle.capacity.proofs.reserve.ReserveRegister.atc.Goals as goal

pub overflow_sub-result : goal.overflow_sub-result
overflow_sub-result g c =
    let m = g.R.Register.meaning c.args.self.now.below in
    let s = g.R.Register.sound c.args.self.now.below in
    let d = c.args.direction in
    let e = asked_some m d.contract d.from d.to _ _ c.in_ok-held.ensures in
    let f = asked_some m d.contract d.from d.to _ _ c.in_ok-atc.ensures in
    let h = s.held_range d.contract d.from d.to in
    let k = atc_bounds m s d.contract d.from d.to in
    omega (arith, ints)

pub returns : goal.returns
returns g c =
    let m = g.R.Register.meaning c.args.self.now.below in
    let s = g.R.Register.sound c.args.self.now.below in
    let d = c.args.direction in
    let e = asked_some m d.contract d.from d.to _ _ c.in_ok-held.ensures in
    let f = asked_some m d.contract d.from d.to _ _ c.in_ok-atc.ensures in
    let h = s.held_range d.contract d.from d.to in
    let k = atc_bounds m s d.contract d.from d.to in
    asked_known (reserved m (kept_of c.args.self.now.wishes)) d.contract d.from d.to _ _ e.0 e.1 (omega (arith, ints))
