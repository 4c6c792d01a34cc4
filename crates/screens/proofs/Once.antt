-- What is printed of a contract is determined by the session.
use Rattle.std.proofs.Common.{◌≡◌, ℕ, zero, suc, Bool, List, ◌++◌, map, length, sym, ap, ◌∙◌, subst}
use Rattle.book.specs.declared.rows.Side.{Side}
use Rattle.book.specs.declared.rows.Side.TheVariants.{Buy, Sell}
use Rattle.ranking.proofs.Laws.{one_ranking}
use Rattle.ranking.specs.Order.{StrictOrder}
use Rattle.ranking.specs.Ranking.{Ranking}
use Rattle.reading.specs.Printing.{Line}
use Rattle.session.specs.State.{State}
use Rattle.views.proofs.Gathering.{one_list}
use Rattle.views.specs.Books.{Shows, BookLines}
use Rattle.views.specs.Capacities.{CapacityLines}
use Rattle.views.specs.Ranks.{capacity_before, capacity_ordered, book_before, book_ordered}
use Rattle.views.specs.Single.{one_shown}
use Rattle.screens.specs.Lines.{capacity_line, book_line}
use Rattle.screens.specs.Screens.{ViewLines, CapacityView, BookView, Then, AreaView, AreasView, Screen}

-- there is one such list of lines
abbrev One : (List Line → Type 0) → Type 0
One P = (t u : List Line) → P t → P u → t ≡ u

one_view : {A : Type 0} (precedes : A → A → Bool) → StrictOrder precedes → (Lines : List A → Type 0) → ((xs ys : List A) → Lines xs → Lines ys → xs ≡ ys) → (printed : A → Line) → One (ViewLines precedes Lines printed)
one_view {A} precedes o Lines one printed t u h k =
    let also : Ranking precedes h.lines k.ranked = subst (λ (xs : List A). Ranking precedes xs k.ranked) (one k.lines h.lines k.all h.all) k.ranks in
    h.lines_are ∙ ap (map printed) (one_ranking precedes o h.lines h.ranked k.ranked h.ranks also) ∙ sym k.lines_are

one_then : (P Q : List Line → Type 0) → One P → One Q → One (Then P Q)
one_then P Q p q t u h k = h.4 ∙ ap (λ (x : List Line). x ++ h.1) (p h.0 k.0 h.2 k.2) ∙ ap (λ (x : List Line). k.0 ++ x) (q h.1 k.1 h.3 k.3) ∙ sym k.4

module _ (s : State) (c : ℕ) where
  one_capacity : One (CapacityView s c)
  one_capacity = one_view capacity_before capacity_ordered (CapacityLines s c) (λ xs ys p q. p ∙ sym q) (capacity_line c)

  one_book : (a : ℕ) (side : Side) → One (BookView s c a side)
  one_book a side = one_view book_before book_ordered (BookLines s c a side) (one_list (Shows s.capacity s.book c a side) (one_shown s.capacity s.book c a side) (length s.book)) (book_line c a)

  one_area : (a : ℕ) → One (AreaView s c a)
  one_area a = one_then (BookView s c a Buy) (BookView s c a Sell) (one_book a Buy) (one_book a Sell)

  one_areas : (n : ℕ) → One (AreasView s c n)
  unfolding AreasView
  one_areas zero t u h k = h ∙ sym k
  one_areas (suc n) t u h k = one_then (AreasView s c n) (AreaView s c n) (one_areas n) (one_area n) t u h k

  pub one_screen : One (Screen s c)
  one_screen = one_then (CapacityView s c) (AreasView s c 16) one_capacity (one_areas 16)
