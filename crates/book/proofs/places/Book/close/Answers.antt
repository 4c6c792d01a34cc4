-- How `Book::close` meets its contract.
use Rattle.std.proofs.Common.{◌≡◌, length, filter, sym, refl, ap, subst, arith, rules}
use Rattle.std.proofs.lemmas.List.Filters.{length-filter_both}
use Rattle.std.specs.List.{AllByRecursion}
use Rattle.std.proofs.ByRecursion.{all_kept_by}
use Rattle.book.specs.Icebergs.{Iced}
use Rattle.book.specs.Orderly.{Orderly}
use Rattle.book.specs.Places.{orders, of_contract, not_of_contract}
use Rattle.book.proofs.Orderliness.{orderly_kept}
use Rattle.book.proofs.places.Book.close.Goals as goal

pub overflow_sub-result : goal.overflow_sub-result
overflow_sub-result c =
    let k = c.args.contract in
    let os = orders c.args.self.now in
    let e : orders c.retain.new.self ≡ filter (not_of_contract k) os = search rules in
    omega (arith, ap length e, length-filter_both (of_contract k) (not_of_contract k) (λ o. refl) os)

pub returns : goal.returns
returns c =
    let k = c.args.contract in
    let os = orders c.args.self.now in
    let e : orders c.retain.new.self ≡ filter (not_of_contract k) os = search rules in
    record {
      answer = omega (arith, ap length e, length-filter_both (of_contract k) (not_of_contract k) (λ o. refl) os);
      after = e;
      orderly = λ f. subst Orderly (sym e) (orderly_kept (not_of_contract k) os f);
      iced = λ h. subst (AllByRecursion Iced) (sym e) (all_kept_by (not_of_contract k) Iced os h);
    }
