-- How `Book::trade` meets its contract.
use Rattle.std.proofs.Common.{◌≡◌, sym, ap, ◌∙◌, subst, rules}
use Rattle.book.specs.Orderly.{Orderly}
use Rattle.book.specs.Places.{orders}
use Rattle.book.specs.Trades.{renewable, renewed_by, settled_rows}
use Rattle.book.proofs.Lasting.{settled_same, all_iced}
use Rattle.book.proofs.Orderliness.{orderly_settled}
use Rattle.book.proofs.Renewing.{iced_while_shown}
use Rattle.book.proofs.places.Book.trade.Goals as goal

pub returns : goal.returns
returns c =
    let b = c.args.buy in
    let s = c.args.sell in
    let q = c.args.quantity in
    let os = orders c.args.self.now in
    let e : orders c.renew.new.self ≡ settled_rows b s q os = c.renew.ensures.after ∙ ap (renewed_by renewable) c.strike.ensures.after in
    record {
      after = λ h. e ∙ settled_same b s q os h;
      rows = e;
      orderly = λ h. subst Orderly (sym (e ∙ settled_same b s q os h.fit)) (orderly_settled b s q os h);
      iced = all_iced os;
      still_iced = λ h. c.renew.ensures.iced (c.strike.ensures.iced (iced_while_shown os h));
      examples = search rules;
    }
