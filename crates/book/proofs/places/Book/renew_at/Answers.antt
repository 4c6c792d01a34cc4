-- How `Book::renew_at` meets its contract.
use Rattle.std.proofs.Common.{◌≡◌, true, [], ◌∷◌, ◌++◌, get_or, sym, ap, ◌∙◌, subst, arith, length-take, get_or-take}
use Rattle.std.specs.List.{AllByRecursion}
use Rattle.std.proofs.ByRecursion.{All-append}
use Rattle.std.proofs.lemmas.Bool.{cond-true}
use Rattle.book.specs.Icebergs.{IcedIfShown}
use Rattle.book.specs.Places.{orders, without}
use Rattle.book.specs.Ranks.{blank, order_at}
use Rattle.book.specs.Trades.{renewable, renewal}
use Rattle.book.proofs.Fronts.{changed_last}
use Rattle.book.proofs.Lasting.{all_without}
use Rattle.book.proofs.Renewing.{is_iced}
use Rattle.book.proofs.places.Book.renew_at.Goals as goal

pub returns-then-renew-clause-after : goal.returns-then-renew-clause-after
returns-then-renew-clause-after c =
    let b = c.args.self.now in
    let at = c.args.at in
    let os = orders b in
    let row = get_or b.rows at blank in
    let e : order_at os at ≡ row = get_or-take b.len b.rows at blank (omega (arith, c.requires, length-take b.len b.rows)) in
    let y : renewable row ≡ true = sym c.if-renew.ensures.answer in
    changed_last b.rows b.len at c.renew.new.self (orders c.make_newest.new.self) c.requires c.make_newest.ensures
    ∙ ap (λ t. without os at ++ t ∷ []) (c.renew.ensures.after ∙ cond-true _ _ _ y)
    ∙ ap (λ t. without os at ++ t) (sym (ap renewal e ∙ cond-true _ _ _ y))

pub returns-then-renew-clause-iced : goal.returns-then-renew-clause-iced
returns-then-renew-clause-iced c =
    let b = c.args.self.now in
    let at = c.args.at in
    let new = c.renew.new.self in
    λ h. subst (AllByRecursion IcedIfShown) (sym (changed_last b.rows b.len at new (orders c.make_newest.new.self) c.requires c.make_newest.ensures))
    (All-append IcedIfShown (without (orders b) at) (new ∷ []) (all_without IcedIfShown (orders b) at h) (λ y. is_iced new (c.renew.ensures.iced (sym c.if-renew.ensures.answer)), tt))
