-- How `Book::renew` meets its contract.
use Rattle.std.proofs.Common.{◌≡◌, ℕ, ◌+◌, ◌<◌, ◌++◌, map, length, get_or, take, filter, sym, ap, ◌∙◌, subst, arith, length-take, get_or-take}
use Rattle.std.specs.List.{AllByRecursion}
use Rattle.std.proofs.lemmas.List.{append-nil}
use Rattle.std.proofs.Math.Seq.{take-length}
use Rattle.book.specs.Icebergs.{IcedIfShown}
use Rattle.book.specs.Orders.{shows, next_slice}
use Rattle.book.specs.Places.{orders, without}
use Rattle.book.specs.Ranks.{blank, order_at}
use Rattle.book.specs.Trades.{renewable, renewal}
use Rattle.book.proofs.Renewing.{none_left, renewals_more, all_iced_now}
use Rattle.book.proofs.Sifting.{sifted_in, sifted_at, sifted_keep, sifted_drop, sifted_last}
use Rattle.book.proofs.places.Book.renew.Goals as goal
use Rattle.book.proofs.places.Book.renew.Goals.{then-shows, else-shows}

pub loop-row-preserved : goal.loop-row-preserved
loop-row-preserved c =
    let os = orders c.args.self.now in
    let i : ℕ = c.loop-row._row in
    let at : ℕ = c.loop-row.at in
    let b = c.loop-row.self in
    let now = orders b in
    let back = map next_slice (filter renewable (take i os)) in
    let more = map next_slice (filter renewable (take (i + 1) os)) in
    let inv = c.loop-row.invariant in
    let l : i < length os = omega (arith, c.len-row-end.ensures.count) in
    let in' : at < length now = sifted_in shows os i at back now inv.sifted l in
    let o = get_or os i blank in
    let row : order_at now at ≡ o = sifted_at shows os i at back now inv.sifted l in
    let e : order_at now at ≡ get_or b.rows at blank = get_or-take b.len b.rows at blank (omega (arith, in', length-take b.len b.rows)) in
    let All = AllByRecursion IcedIfShown in
    elim c.if-shows.branch [
      | then-shows w ↦
          let y = ap shows (sym row ∙ e) ∙ sym w.if-shows.ensures in
          record {
            sifted = sifted_keep shows os i at back now inv.sifted l c.if-shows.at more (orders c.if-shows.self) y w.at-is (ap orders w.self-is) (renewals_more os i l ∙ ap (λ t. back ++ t) (none_left o y) ∙ append-nil back);
            iced = λ h. subst All (sym (ap orders w.self-is)) (inv.iced h);
          }
      | else-shows w ↦
          let n = ap shows (sym row ∙ e) ∙ sym w.if-shows.ensures in
          record {
            sifted = sifted_drop shows os i at back now inv.sifted l c.if-shows.at (renewal o) more (orders c.if-shows.self) n w.at-is (ap orders w.self-is ∙ w.renew_at.ensures.after ∙ ap (λ t. without now at ++ renewal t) row) (renewals_more os i l);
            iced = λ h. subst All (sym (ap orders w.self-is)) (w.renew_at.ensures.iced (inv.iced h));
          }
    ]

pub returns-clause-iced : goal.returns-clause-iced
returns-clause-iced c =
    let os = orders c.args.self.now in
    let inv = c.loop-row.invariant in
    let e : c.loop-row._row ≡ length os = omega (arith, c.len-row-end.ensures.count) in
    λ h. all_iced_now os (orders c.loop-row.self) (sifted_last shows os c.loop-row._row c.loop-row.at _ (orders c.loop-row.self) e inv.sifted ∙ ap (λ t. filter shows os ++ map next_slice (filter renewable t)) (ap (λ n. take n os) e ∙ take-length os)) (inv.iced h)
