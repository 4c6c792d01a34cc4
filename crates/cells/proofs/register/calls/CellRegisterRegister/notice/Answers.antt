-- A notice to the cells: refused by its tests, or written.
use Rattle.std.proofs.Common.{◌≡◌, ◌-◌, ◌≤◌, Bool, true, false, not, ◌&&◌, eqb, length, Err, sym, refl, ap, ◌∙◌}
use Rattle.std.proofs.lemmas.Result.{err_from_is_err_and, IfOk-from_err}
use Rattle.capacity.specs.declared.direction.Direction.{Direction}
use Rattle.capacity.specs.declared.figures.Figures.{Figures}
use Rattle.capacity.specs.Answers.{large, notice_tests}
use Rattle.capacity.specs.declared.side.Side.{Side}
use Rattle.capacity.specs.Pairs.{figured}
use Rattle.capacity.specs.Tables.{linked, on}
use Rattle.capacity.proofs.Calls.{refused, notice_served, notice_sides, notice_leaves}
use Rattle.capacity.proofs.Passes.{answered_passes}
use Rattle.capacity.proofs.Sided.{on_known}
use Rattle.cells.specs.declared.register.CellRegister.{CellRegister}
use Rattle.cells.specs.Cells.{noted_in}
use Rattle.cells.specs.Shapes.{in_use, cells_of}
use Rattle.cells.specs.Soundness.{cells_sound}
use Rattle.cells.proofs.Held.{room_left}
use Rattle.cells.proofs.Lent.{set_sides, set_spare}
use Rattle.cells.specs.Lent.{spare_chains}
use Rattle.cells.proofs.register.calls.CellRegisterRegister.notice.Goals as goal

-- what the register says of a pair that exists, of a notice that nothing else refuses
room : (t : CellRegister) (d : Direction) (f : Figures) {j full : Bool} → (on (linked t.map.now.links.joined) d.contract d.from d.to ≡ true → large f ≡ false → full ≡ (not (noted_in (in_use t) d.contract d.from d.to) && eqb (length t.cells.now - t.count) 0)) → j ≡ linked t.map.now.links.joined d.from d.to → d.contract ≤ 23 → j ≡ true → large f ≡ false → full ≡ (not ((cells_of t).noted d.contract d.from d.to) && eqb (cells_of t).room 0)
room t d f e p h o l =
    let known = on_known (linked t.map.now.links.joined) d.contract d.from d.to h (sym p ∙ o) in
    rw known (e known l)

pub returns-in_err-check_notice : goal.returns-in_err-check_notice
returns-in_err-check_notice c =
    let t = c.args.self.now in
    let d = c.args.direction in
    let m = cells_of t in
    let p = err_from_is_err_and c.from_residual.result c.from_residual.ensures.1 in
    let r = refused (notice_tests m d.contract d.from d.to c.args.figures) m _ _ _ (p.1 ∙ ap Err p.2) (c.in_err-check_notice.ensures m c.joins-joined.ensures (room t d c.args.figures c.lacks_cell-full.ensures c.joins-joined.ensures)) in
    record { answer = r.0; after = r.1; memory = spare_chains.none c.args.self.now; refused = rw p.1 refl; set = IfOk-from_err c.from_residual.result _ c.from_residual.ensures.0; same_cells = refl }

pub pair-pair-requires : goal.pair-pair-requires
pair-pair-requires c =
    let t = c.args.self.now in
    let d = c.args.direction in
    notice_served t.map.now.links.joined (cells_of t) d.contract d.from d.to c.args.figures refl (c.in_ok-check_notice.ensures (cells_of t) c.joins-joined.ensures (room t d c.args.figures c.lacks_cell-full.ensures c.joins-joined.ensures))

pub put-requires : goal.put-requires
put-requires c =
    let t = c.args.self.now in
    let d = c.args.direction in
    let m = cells_of t in
    let e = c.in_ok-check_notice.ensures m c.joins-joined.ensures (room t d c.args.figures c.lacks_cell-full.ensures c.joins-joined.ensures) in
    record {
      served = notice_served t.map.now.links.joined m d.contract d.from d.to c.args.figures refl e;
      room = room_left t.cells.now t.count d.contract d.from d.to _ (answered_passes (notice_tests m d.contract d.from d.to c.args.figures) e).1.1.1.0;
    }

pub returns : goal.returns
returns c =
    let t = c.args.self.now in
    let m = cells_of t in
    let d = c.args.direction in
    let f = c.args.figures in
    let pair = c.pair-pair.ensures in
    let e = c.in_ok-check_notice.ensures m c.joins-joined.ensures (room t d c.args.figures c.lacks_cell-full.ensures c.joins-joined.ensures) in
    let sides = notice_sides m d.contract d.from d.to f _ _ _ _ e c.noticed.ensures.there c.noticed.ensures.back in
    record {
      answer = e;
      after = notice_leaves m _ d.contract d.from d.to f _ _ _ _ (cells_sound t) e pair.shows c.noticed.ensures.there c.noticed.ensures.back c.put.ensures.meaning;
      memory = set_spare t _ d _ _ c.put.ensures.set c.put.ensures.same_cells;
      refused = tt;
      set = set_sides t _ d _ _ _ _ c.put.ensures.set
          (sides.0 ∙ ap (λ (s : Side). figured s f.ntc f.aac) pair.there)
          (sides.1 ∙ ap (λ (s : Side). figured s f.ntc_back f.aac_back) pair.back);
      same_cells = c.put.ensures.same_cells;
    }
