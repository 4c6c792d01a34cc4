-- A take from the table: refused by its tests, or carried out.
use Rattle.std.proofs.Common.{Err, refl, ap, ◌∙◌}
use Rattle.std.proofs.lemmas.Result.{err_from_is_err_and}
use Rattle.capacity.specs.Answers.{take_tests}
use Rattle.capacity.specs.Shapes.{table_of}
use Rattle.capacity.specs.Soundness.{table_sound}
use Rattle.capacity.proofs.Calls.{refused, take_served, take_leaves}
use Rattle.capacity.proofs.table.calls.FullTableRegister.take.Goals as goal

pub returns-in_err-check_take : goal.returns-in_err-check_take
returns-in_err-check_take c =
    let d = c.args.direction in
    let m = table_of c.args.self.now in
    let p = err_from_is_err_and c.from_residual.result c.from_residual.ensures.1 in
    let r = refused (take_tests m d.contract d.from d.to c.args.quantity) m _ _ _ (p.1 ∙ ap Err p.2) (c.in_err-check_take.ensures.answer m c.atc-flow.ensures) in
    record { answer = r.0; after = r.1; memory = tt }

pub pair-pair-requires : goal.pair-pair-requires
pair-pair-requires c =
    let t = c.args.self.now in
    let d = c.args.direction in
    take_served t.links.joined (table_of t) d.contract d.from d.to c.args.quantity refl (c.in_ok-check_take.ensures.answer (table_of t) c.atc-flow.ensures)

pub put-requires : goal.put-requires
put-requires c =
    let t = c.args.self.now in
    let d = c.args.direction in
    take_served t.links.joined (table_of t) d.contract d.from d.to c.args.quantity refl (c.in_ok-check_take.ensures.answer (table_of t) c.atc-flow.ensures)

pub returns-clause-answer : goal.returns-clause-answer
returns-clause-answer c = c.in_ok-check_take.ensures.answer (table_of c.args.self.now) c.atc-flow.ensures

pub returns-clause-after : goal.returns-clause-after
returns-clause-after c =
    let t = c.args.self.now in
    let m = table_of t in
    let d = c.args.direction in
    let e = c.in_ok-check_take.ensures.answer m c.atc-flow.ensures in
    take_leaves m _ d.contract d.from d.to c.args.quantity _ _ _ _ (table_sound t) e c.pair-pair.ensures c.taken.ensures.there c.taken.ensures.back c.put.ensures
