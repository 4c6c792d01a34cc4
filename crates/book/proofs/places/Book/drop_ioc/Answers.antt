-- How `Book::drop_ioc` meets its contract.
use Rattle.std.proofs.Common.{◌≡◌, filter, sym, subst, rules}
use Rattle.std.specs.List.{AllByRecursion}
use Rattle.std.proofs.ByRecursion.{all_kept_by}
use Rattle.book.specs.Icebergs.{Iced}
use Rattle.book.specs.Orderly.{Orderly}
use Rattle.book.specs.Orders.{rests}
use Rattle.book.specs.Places.{orders}
use Rattle.book.proofs.Orderliness.{orderly_kept}
use Rattle.book.proofs.places.Book.drop_ioc.Goals as goal

pub returns : goal.returns
returns c =
    let p = rests c.args.incoming in
    let e : orders c.retain.new.self ≡ filter p (orders c.args.self.now) = search rules in
    record {
      after = e;
      orderly = λ f. subst Orderly (sym e) (orderly_kept p _ f);
      iced = λ h. subst (AllByRecursion Iced) (sym e) (all_kept_by p Iced _ h);
    }
