-- A notice to the table: refused by its tests, or written.
use Rattle.std.proofs.Common.{Err, refl, ap, ◌∙◌}
use Rattle.std.proofs.lemmas.Result.{err_from_is_err_and}
use Rattle.capacity.specs.Answers.{notice_tests}
use Rattle.capacity.specs.Shapes.{table_of}
use Rattle.capacity.specs.Soundness.{table_sound}
use Rattle.capacity.specs.Tables.{linked}
use Rattle.capacity.proofs.Calls.{refused, notice_served, notice_leaves}
use Rattle.capacity.proofs.Filled.{served_noted}
use Rattle.capacity.proofs.table.calls.FullTableRegister.notice.Goals as goal

pub returns-in_err-check_notice : goal.returns-in_err-check_notice
returns-in_err-check_notice c =
    let t = c.args.self.now in
    let d = c.args.direction in
    let m = table_of t in
    let p = err_from_is_err_and c.from_residual.result c.from_residual.ensures.1 in
    let r = refused (notice_tests m d.contract d.from d.to c.args.figures) m _ _ _ (p.1 ∙ ap Err p.2) (c.in_err-check_notice.ensures m c.joins-joined.ensures (λ p o l. served_noted (linked t.links.joined) d.contract d.from d.to _ c.joins-joined.ensures p o)) in
    record { answer = r.0; after = r.1; memory = tt }

pub pair-pair-requires : goal.pair-pair-requires
pair-pair-requires c =
    let t = c.args.self.now in
    let d = c.args.direction in
    notice_served t.links.joined (table_of t) d.contract d.from d.to c.args.figures refl (c.in_ok-check_notice.ensures (table_of t) c.joins-joined.ensures (λ p o l. served_noted (linked t.links.joined) d.contract d.from d.to _ c.joins-joined.ensures p o))

pub put-requires : goal.put-requires
put-requires c =
    let t = c.args.self.now in
    let d = c.args.direction in
    notice_served t.links.joined (table_of t) d.contract d.from d.to c.args.figures refl (c.in_ok-check_notice.ensures (table_of t) c.joins-joined.ensures (λ p o l. served_noted (linked t.links.joined) d.contract d.from d.to _ c.joins-joined.ensures p o))

pub returns : goal.returns
returns c =
    let t = c.args.self.now in
    let m = table_of t in
    let d = c.args.direction in
    let e = c.in_ok-check_notice.ensures m c.joins-joined.ensures (λ p o l. served_noted (linked t.links.joined) d.contract d.from d.to _ c.joins-joined.ensures p o) in
    record {
      answer = e;
      after = notice_leaves m _ d.contract d.from d.to c.args.figures _ _ _ _ (table_sound t) e c.pair-pair.ensures c.noticed.ensures.there c.noticed.ensures.back c.put.ensures;
      memory = tt;
    }
