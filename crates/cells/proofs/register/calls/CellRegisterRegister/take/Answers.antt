-- A take from the cells: refused by its tests, or carried out.
use Rattle.std.proofs.Common.{◌≡◌, ℕ, Ok, Err, None, refl, ap, ◌∙◌}
use Rattle.std.proofs.lemmas.Bool.{and_parts, both_ways}
use Rattle.std.proofs.lemmas.Result.{err_from_is_err_and, IfOk-from_err}
use Rattle.std.specs.List.{position}
use Rattle.capacity.specs.declared.direction.Direction.{Direction}
use Rattle.capacity.specs.declared.side.Side.{Side}
use Rattle.capacity.specs.Answers.{take_tests}
use Rattle.capacity.specs.Pairs.{taken_there, taken_back}
use Rattle.capacity.specs.Tests.{answered}
use Rattle.capacity.proofs.Calls.{refused, take_served, take_noted, take_sides, take_leaves}
use Rattle.cells.specs.declared.register.CellRegister.{CellRegister}
use Rattle.cells.specs.Cells.{names}
use Rattle.cells.specs.Lent.{side_of, spare_chains}
use Rattle.cells.specs.Shapes.{in_use, cells_of}
use Rattle.cells.specs.Soundness.{cells_sound}
use Rattle.cells.proofs.Held.{noted_none}
use Rattle.cells.proofs.Lent.{set_sides, set_spare, set_in_use}
use Rattle.cells.proofs.register.calls.CellRegisterRegister.take.Goals as goal

-- the pair of a take that no test refuses has a cell
some_cell : (t : CellRegister) (d : Direction) (n : ℕ) → Ok tt ≡ answered (take_tests (cells_of t) d.contract d.from d.to n) → None ≡ position (λ x. names x d.contract d.from d.to) (in_use t) → ⊥
some_cell t d n e none =
    let noted = take_noted (cells_of t) d.contract d.from d.to n (cells_sound t) e in
    both_ways _ (noted_none (in_use t) d.contract d.from d.to none) (and_parts _ _ noted).1

pub returns-in_err-check_take : goal.returns-in_err-check_take
returns-in_err-check_take c =
    let d = c.args.direction in
    let m = cells_of c.args.self.now in
    let p = err_from_is_err_and c.from_residual.result c.from_residual.ensures.1 in
    let r = refused (take_tests m d.contract d.from d.to c.args.quantity) m _ _ _ (p.1 ∙ ap Err p.2) (c.in_err-check_take.ensures.answer m c.atc-flow.ensures) in
    record { answer = r.0; after = r.1; memory = spare_chains.none c.args.self.now; refused = rw p.1 refl; set = IfOk-from_err c.from_residual.result _ c.from_residual.ensures.0; count = refl; same_cells = refl }

pub pair-pair-requires : goal.pair-pair-requires
pair-pair-requires c =
    let t = c.args.self.now in
    let d = c.args.direction in
    take_served t.map.now.links.joined (cells_of t) d.contract d.from d.to c.args.quantity refl (c.in_ok-check_take.ensures.answer (cells_of t) c.atc-flow.ensures)

pub put-requires : goal.put-requires
put-requires c =
    let t = c.args.self.now in
    let d = c.args.direction in
    let e = c.in_ok-check_take.ensures.answer (cells_of t) c.atc-flow.ensures in
    record {
      served = take_served t.map.now.links.joined (cells_of t) d.contract d.from d.to c.args.quantity refl e;
      room = λ none. absurd (some_cell t d c.args.quantity e none);
    }

pub returns : goal.returns
returns c =
    let t = c.args.self.now in
    let m = cells_of t in
    let d = c.args.direction in
    let n = c.args.quantity in
    let pair = c.pair-pair.ensures in
    let e = c.in_ok-check_take.ensures.answer m c.atc-flow.ensures in
    let sides = take_sides m d.contract d.from d.to n _ _ _ _ e pair.shows c.taken.ensures.there c.taken.ensures.back in
    record {
      answer = e;
      after = take_leaves m _ d.contract d.from d.to n _ _ _ _ (cells_sound t) e pair.shows c.taken.ensures.there c.taken.ensures.back c.put.ensures.meaning;
      memory = set_spare t _ d _ _ c.put.ensures.set c.put.ensures.same_cells;
      refused = tt;
      set = set_sides t _ d _ _ _ _ c.put.ensures.set
          (sides.0 ∙ ap (λ (s : Side). taken_there s c.pair-pair.result.back n) pair.there ∙ ap (λ (s : Side). taken_there (side_of t d) s n) pair.back)
          (sides.1 ∙ ap (λ (s : Side). taken_back s n) pair.back);
      count = set_in_use t _ d _ _ (some_cell t d n e) c.put.ensures.set;
      same_cells = c.put.ensures.same_cells;
    }
