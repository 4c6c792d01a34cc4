-- What a view shows of an order, read over a grid of the contract's open directions.
use Rattle.std.proofs.Common.{◌≡◌, ℕ, Bool, List, ℤ, pos, Some, sym, refl, ap, subst}
use Rattle.book.specs.declared.rows.Order.{Order}
use Rattle.book.specs.declared.rows.Side.{Side}
use Rattle.book.specs.Places.{nth}
use Rattle.book.specs.Ranks.{order_at}
use Rattle.capacity.specs.Meaning.{Capacity}
use Rattle.flows.specs.Flows.{open_in, OpenIn, least}
use Rattle.routes.specs.Paths.{Relation, Holds, Path, IsRoute}
use Rattle.trades.proofs.Dealing.{stands}
use Rattle.views.specs.Books.{way, Wanted, Line}

module _ (m : Capacity) (os : List Order) (c a : ℕ) (s : Side) (i : ℕ) (o : Order) (e : Some o ≡ nth os i) where
  is : o ≡ order_at os i
  is = sym (stands os i o e)

  module _ (f : ℕ → ℕ → Bool) (here : f ≡ open_in m c) (p : ℕ × ℕ) (ends : p ≡ way s a o.area) where
    over : Holds f ≡ OpenIn m c
    over = ap Holds here

    pub shown : (l : ℤ) (q : ℕ) (xs : List ℕ) → l ≡ o.limit → Wanted c s o → IsRoute (Holds f) p.0 p.1 xs
        → ((x y : ℕ) → Path (OpenIn m c) x y xs → pos q ≡ least m c (pos o.shown) xs)
        → Line m c a s i (order_at os i) (record { side = s; limit = l; place = i; quantity = q })
    shown l q xs limit wanted route least_is =
        let over-grid : IsRoute (OpenIn m c) p.0 p.1 xs = subst (λ (O : Relation). IsRoute O p.0 p.1 xs) over route in
        let on_route : IsRoute (OpenIn m c) (way s a o.area).0 (way s a o.area).1 xs = subst (λ (w : ℕ × ℕ). IsRoute (OpenIn m c) w.0 w.1 xs) ends over-grid in
        subst (λ (u : Order). Line m c a s i u (record { side = s; limit = l; place = i; quantity = q })) is
        (record { wanted = wanted; side = refl; limit = limit; place = refl; route = xs; along = on_route; quantity = least_is p.0 p.1 over-grid.0 })
