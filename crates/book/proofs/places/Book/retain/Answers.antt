-- How `Book::retain` meets its contract.
use Rattle.std.proofs.Common.{rules, ◌≡◌, ℕ, ◌<◌, length, take, get_or, set, filter, sym, refl, ap, ◌∙◌, arith, length-take}
use Rattle.std.proofs.lemmas.Fn.{says_at}
use Rattle.book.specs.Ranks.{blank}
use Rattle.book.proofs.Fronts.{first_rows}
use Rattle.book.proofs.Keeping.{Kept, kept_first, kept_at, kept_yes, kept_no}
use Rattle.book.proofs.places.Book.retain.Goals as goal
use Rattle.book.proofs.places.Book.retain.Goals.{then-keep, else-keep}

pub loop-at-init : goal.loop-at-init
loop-at-init g c = record { len = refl; few = omega arith; kept = λ p agree. kept_first p _ }

pub loop-at-preserved : goal.loop-at-preserved
loop-at-preserved g c = record {
  len = elim c.if-keep.branch [
    | then-keep w ↦ ap (λ b. b.len) w.self-is ∙ w.move_row.ensures.count ∙ c.loop-at.invariant.len
    | else-keep w ↦ ap (λ b. b.len) w.self-is ∙ c.loop-at.invariant.len
  ];
  few = elim c.if-keep.branch [
    | then-keep w ↦ omega (arith, w.kept-is, c.loop-at.invariant.few)
    | else-keep w ↦ omega (arith, w.kept-is, c.loop-at.invariant.few)
  ];
  kept =
      λ p agree.
      let xs = c.args.self.now.rows in
      let ys = c.loop-at.self.rows in
      let i : ℕ = c.loop-at.at in
      let k : ℕ = c.loop-at.kept in
      let s : Kept p xs i k ys = c.loop-at.invariant.kept p agree in
      let l : i < length xs = omega (arith, c.len-at-end.ensures.count, length-take c.args.self.now.len xs) in
      let all : length ys ≡ length xs = search rules in
      let m : i < length ys = omega arith in
      let row : get_or ys i blank ≡ get_or xs i blank = kept_at p xs i k ys s l m in
      let y = ap p (sym row) ∙ sym (agree _ _ (says_at g.F.Fn c.keep.ensures refl)) in
      elim c.if-keep.branch [
        | then-keep w ↦ kept_yes p xs i k ys s l m c.if-keep.kept c.if-keep.self.rows (y ∙ w.if-keep.true) w.kept-is (ap (λ b. b.rows) w.self-is ∙ w.move_row.ensures.rows ∙ ap (set ys k) row)
        | else-keep w ↦ kept_no p xs i k ys s l m c.if-keep.kept c.if-keep.self.rows (y ∙ w.if-keep.false) w.kept-is (ap (λ b. b.rows) w.self-is)
      ];
}

pub returns : goal.returns
returns g c =
    let b = c.args.self.now in
    let at : ℕ = c.loop-at.at in
    let e : at ≡ length (take b.len b.rows) = omega (arith, c.loop-at-test.false, c.loop-at.auto.at-end, c.len-at-end.ensures.count) in
    λ p agree. (c.loop-at.invariant.kept p agree).front ∙ ap (filter p) (sym (first_rows b.rows b.len at e))
