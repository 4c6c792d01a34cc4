-- How `Book::strike` meets its contract.
use Rattle.std.proofs.Common.{sym, ◌∙◌, take, get_or, subst, arith}
use Rattle.std.specs.List.{AllByRecursion}
use Rattle.std.proofs.ByRecursion.{All-get_or, All-set}
use Rattle.book.specs.Icebergs.{IcedIfShown}
use Rattle.book.specs.Ranks.{blank}
use Rattle.book.specs.Trades.{struck}
use Rattle.book.proofs.Striking.{mark, struck_one, struck_not}
use Rattle.book.proofs.places.Book.strike.Goals as goal
use Rattle.book.proofs.places.Book.strike.Goals.{then-is_one_of, else-is_one_of}

pub loop-row-preserved : goal.loop-row-preserved
loop-row-preserved c =
    let b = c.args.buy in
    let s = c.args.sell in
    let q = c.args.quantity in
    let es = take c.len-n.result c.args.self.now.rows in
    let xs = c.loop-row.row-items in
    let i = c.loop-row.row-index in
    let o = get_or xs i blank in
    let inv = c.loop-row.invariant in
    let All = AllByRecursion IcedIfShown in
    let iced : All es → IcedIfShown o = λ h. All-get_or IcedIfShown xs i blank (omega (arith, c.loop-row-test.true, c.loop-row.auto.row-items)) (inv.iced h) in
    elim c.if-is_one_of.branch [
      | then-is_one_of w ↦
          let new = w.trade.new.self in
          record {
            after = w.row-items-is ∙ mark (struck b s q) es xs i blank c.loop-row-test.true c.loop-row.auto.row-items inv.after new (w.trade.ensures.after ∙ struck_one b s q o (sym w.if-is_one_of.ensures));
            iced = λ h. subst All (sym w.row-items-is) (All-set IcedIfShown xs i new (w.trade.ensures.iced (iced h)) (inv.iced h));
          }
      | else-is_one_of w ↦ record {
        after = w.row-items-is ∙ mark (struck b s q) es xs i blank c.loop-row-test.true c.loop-row.auto.row-items inv.after o (struck_not b s q o (sym w.if-is_one_of.ensures));
        iced = λ h. subst All (sym w.row-items-is) (All-set IcedIfShown xs i o (iced h) (inv.iced h));
      }
    ]
