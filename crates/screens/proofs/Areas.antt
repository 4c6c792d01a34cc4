-- The areas, one after another.
use Rattle.std.proofs.Common.{ℕ, suc, ◌+◌, List, [], ◌++◌, sym, refl, ap, ◌∙◌, subst, add-one, append_assoc, append-nil}
use Rattle.book.specs.declared.rows.Side.TheVariants.{Buy, Sell}
use Rattle.reading.specs.Printing.{Line, LineReadsBack}
use Rattle.reading.specs.Sinks.{Hearing, Whole}
use Rattle.session.specs.State.{State}
use Rattle.screens.proofs.Printing.{lines_heard}
use Rattle.screens.proofs.Ranges.{all_joined}
use Rattle.screens.specs.Printing.{HeardBack}
use Rattle.screens.specs.Screens.{CapacityView, BookView, Then, AreasView}

module _ {S : Type 0} (hears : Hearing S) (whole : Whole hears) (m : State) (c : ℕ) where
  -- the capacity view and the areas below n are heard
  abbrev pub Below : ℕ → S → S → Type 0
  Below n = HeardBack hears (Then (CapacityView m c) (AreasView m c n))

  pub none_below : (s t : S) → HeardBack hears (CapacityView m c) s t → Below 0 s t
  unfolding AreasView
  none_below s t (ls, p, back, h) = (ls, (ls, [], p, refl, sym (append-nil ls)), back, h)

  pub area_more : (n : ℕ) (s t u v : S) → Below n s t → HeardBack hears (BookView m c n Buy) t u → HeardBack hears (BookView m c n Sell) u v → Below (n + 1) s v
  unfolding AreasView
  area_more n s t u v (ls, (front, rest, p, q, e), r, h) (buys, b, rb, hb) (sells, l, rs, hs) =
      let all = rest ++ (buys ++ sells) in
      let more : AreasView m c (suc n) all = (rest, buys ++ sells, q, (buys, sells, b, l, refl), refl) in
      let next : AreasView m c (n + 1) all = subst (λ (k : ℕ). AreasView m c k all) (sym (add-one n)) more in (
        ls ++ (buys ++ sells),
        (front, all, p, next, ap (λ (x : List Line). x ++ (buys ++ sells)) e ∙ append_assoc front rest (buys ++ sells)),
        all_joined LineReadsBack ls (buys ++ sells) r (all_joined LineReadsBack buys sells rb rs),
        lines_heard hears whole ls (buys ++ sells) s t v h (lines_heard hears whole buys sells t u v hb hs),
      )
