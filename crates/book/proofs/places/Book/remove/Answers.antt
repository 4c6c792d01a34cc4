-- How `Book::remove` meets its contract.
use Rattle.std.proofs.Common.{◌≡◌, ◌-◌, take, sym, ap, ◌∙◌, subst}
use Rattle.std.specs.List.{AllByRecursion}
use Rattle.book.specs.Icebergs.{Iced}
use Rattle.book.specs.Orderly.{Orderly}
use Rattle.book.specs.Places.{orders, without}
use Rattle.book.proofs.Fronts.{taken_out}
use Rattle.book.proofs.Lasting.{all_without}
use Rattle.book.proofs.Orderliness.{orderly_without}
use Rattle.book.proofs.places.Book.remove.Goals as goal

pub returns-then-at-n : goal.returns-then-at-n
returns-then-at-n c =
    let b = c.args.self.now in
    let k = c.len-n.result in
    let e : orders (record { rows = c.copy_within.new.self; len = k - 1 }) ≡ without (orders b) c.args.at = ap (take (k - 1)) c.copy_within.ensures.after ∙ taken_out b.rows b.len k c.args.at c.len-n.ensures.count c.if-at-n.true in
    record {
      after = e;
      orderly = λ f. subst Orderly (sym e) (orderly_without (orders b) c.args.at f);
      iced = λ h. subst (AllByRecursion Iced) (sym e) (all_without Iced (orders b) c.args.at h);
    }
