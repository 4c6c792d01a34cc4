-- Whether a notice finds no cell.
use Rattle.std.proofs.Common.{◌≡◌, ℕ, ◌-◌, ◌∙◌, false, not, ◌&&◌, eqb, leb, Bool, arith}
use Rattle.std.proofs.lemmas.Bool.Decides.{nat_tests}
use Rattle.cells.specs.Shapes.{in_use}
use Rattle.cells.proofs.Held.{noted_is}
use Rattle.cells.proofs.register.CellRegister.full.Goals as goal

full : (m n : ℕ) (t : Bool) → t ≡ false → leb m n ≡ (not t && eqb (m - n) 0)
full m n t e = rw e (grind (arith, nat_tests))

pub returns-then-is_none : goal.returns-then-is_none
returns-then-is_none c =
    let d = c.args.direction in
    full _ _ _ (noted_is (in_use c.args.self.now) d.contract d.from d.to c.find.result c.find.ensures ∙ c.if-is_none.ensures)

pub returns-else-is_none : goal.returns-else-is_none
returns-else-is_none c =
    let d = c.args.direction in
    let e = noted_is (in_use c.args.self.now) d.contract d.from d.to c.find.result c.find.ensures ∙ c.if-is_none.ensures in
    rw e c.if-is_none.false
