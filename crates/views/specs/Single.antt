-- What a view shows at a place is one thing only.
use Rattle.std.specs.Prelude.{◌≡◌, ℕ, List, pos, Some, None, Option, refl}
use Rattle.std.proofs.Common.{sym, ap, ◌∙◌}
use Rattle.book.specs.declared.rows.Order.{Order}
use Rattle.book.specs.declared.rows.Side.{Side}
use Rattle.book.specs.Ranks.{order_at}
use Rattle.capacity.specs.Meaning.{Capacity}
use Rattle.flows.specs.Flows.{OpenIn, least}
use Rattle.routes.proofs.Unique.{one_route}
use Rattle.trades.proofs.Once.{pos_same}
use Rattle.views.specs.declared.lines.BookLine.{BookLine}
use Rattle.views.specs.declared.lines.CapacityLine.{CapacityLine}
use Rattle.views.specs.Books.{Line, Shows}
use Rattle.views.specs.Capacities.{ShowsDirection}
use Rattle.views.specs.Gathered.{line_if}

one_if : {A : Type 0} (o p : Option A) → line_if o ≡ line_if p → o ≡ p
one_if None None e = refl
one_if None (Some y) e = cc
one_if (Some x) None e = cc
one_if (Some x) (Some y) e = cc

pub one_direction : (m : Capacity) (c i : ℕ) (o p : Option CapacityLine) → ShowsDirection m c i o → ShowsDirection m c i p → o ≡ p
one_direction m c i o p h k = one_if o p (h ∙ sym k)

same_parts : (x y : BookLine) → x.side ≡ y.side → x.limit ≡ y.limit → x.place ≡ y.place → x.quantity ≡ y.quantity → x ≡ y
same_parts x y a b c d = λ i. record { side = a i; limit = b i; place = c i; quantity = d i }

pub same_line : (m : Capacity) (c a : ℕ) (s : Side) (i : ℕ) (o : Order) (x y : BookLine) → Line m c a s i o x → Line m c a s i o y → x ≡ y
same_line m c a s i o x y h k =
    let route : h.route ≡ k.route = one_route (OpenIn m c) _ _ h.route k.route h.along k.along in
    let quantity = pos_same x.quantity y.quantity (h.quantity ∙ ap (least m c (pos o.shown)) route ∙ sym k.quantity) in
    same_parts x y (h.side ∙ sym k.side) (h.limit ∙ sym k.limit) (h.place ∙ sym k.place) quantity

pub one_shown : (m : Capacity) (os : List Order) (c a : ℕ) (s : Side) (i : ℕ) (o p : Option BookLine) → Shows m os c a s i o → Shows m os c a s i p → o ≡ p
one_shown m os c a s i None None h k = refl
one_shown m os c a s i None (Some y) h k = absurd (h (k.wanted, (k.route, k.along.0)))
one_shown m os c a s i (Some x) None h k = absurd (k (h.wanted, (h.route, h.along.0)))
one_shown m os c a s i (Some x) (Some y) h k = ap Some (same_line m c a s i (order_at os i) x y h k)
