-- A round has one next trade at most, along one route; and none where no pair is left.
use Rattle.std.proofs.Common.{◌≡◌, ℕ, min, List, length, ℤ, pos, sym, ap, ◌∙◌, subst}
use Rattle.book.specs.declared.rows.Order.{Order}
use Rattle.book.specs.Ranks.{order_at}
use Rattle.capacity.specs.Meaning.{Capacity}
use Rattle.flows.specs.Flows.{OpenIn, least}
use Rattle.matching.specs.declared.round.Round.{Round}
use Rattle.matching.specs.Pairs.{InRound}
use Rattle.matching.proofs.Unique.{one_chosen}
use Rattle.routes.specs.Paths.{IsRoute}
use Rattle.routes.proofs.Unique.{one_route}
use Rattle.trades.specs.declared.trade.Trade.{Trade}
use Rattle.trades.specs.Deals.{traded_contract, price, Deals}

pub pos_same : (a b : ℕ) → pos a ≡ pos b → a ≡ b
pos_same a b e = cc

-- trades with the same parts
same_parts : (x y : Trade) → x.contract ≡ y.contract → x.buy ≡ y.buy → x.sell ≡ y.sell → x.buyer ≡ y.buyer → x.seller ≡ y.seller → x.price ≡ y.price → x.quantity ≡ y.quantity → x.areas ≡ y.areas → x ≡ y
same_parts x y a b c d e f g h = λ n. record { contract = a n; buy = b n; sell = c n; buyer = d n; seller = e n; price = f n; quantity = g n; areas = h n }

pub one_deal : (m : Capacity) (os : List Order) (r : Round) (x : Trade) (xs : List ℕ) (x' : Trade) (xs' : List ℕ) → Deals m os r x xs → Deals m os r x' xs' → (x ≡ x') × (xs ≡ xs')
one_deal m os r x xs x' xs' h k =
    let O = OpenIn m (traded_contract r) in
    let same = one_chosen O r os h.i h.j k.i k.j h.chosen k.chosen in
    let b : order_at os h.i ≡ order_at os k.i = ap (order_at os) same.0 in
    let s : order_at os h.j ≡ order_at os k.j = ap (order_at os) same.1 in
    let route_from : IsRoute O (order_at os k.j).area (order_at os h.i).area xs = subst (λ (o : Order). IsRoute O o.area (order_at os h.i).area xs) s h.route in
    let route_here : IsRoute O (order_at os k.j).area (order_at os k.i).area xs = subst (λ (o : Order). IsRoute O (order_at os k.j).area o.area xs) b route_from in
    let along : xs ≡ xs' = one_route O _ _ xs xs' route_here k.route in
    let priced : price r h.i h.j (order_at os h.i) (order_at os h.j) ≡ price r k.i k.j (order_at os k.i) (order_at os k.j) =
    ap (λ (i : ℕ). price r i h.j (order_at os i) (order_at os h.j)) same.0 ∙ ap (λ (j : ℕ). price r k.i j (order_at os k.i) (order_at os j)) same.1 in
    let least_of : List ℕ → Order → Order → ℤ = λ ys o p. least m (traded_contract r) (pos (min o.shown p.shown)) ys in
    let flows : least_of xs (order_at os h.i) (order_at os h.j) ≡ least_of xs' (order_at os k.i) (order_at os k.j) =
    ap (λ (ys : List ℕ). least_of ys (order_at os h.i) (order_at os h.j)) along ∙ ap (λ (o : Order). least_of xs' o (order_at os h.j)) b ∙ ap (least_of xs' (order_at os k.i)) s in (
      same_parts x x'
          (h.contract ∙ sym k.contract)
          (h.buy ∙ ap (λ (o : Order). o.number) b ∙ sym k.buy)
          (h.sell ∙ ap (λ (o : Order). o.number) s ∙ sym k.sell)
          (h.buyer ∙ ap (λ (o : Order). o.area) b ∙ sym k.buyer)
          (h.seller ∙ ap (λ (o : Order). o.area) s ∙ sym k.seller)
          (h.at_price ∙ priced ∙ sym k.at_price)
          (pos_same _ _ (h.quantity ∙ flows ∙ sym k.quantity))
          (h.areas ∙ ap length along ∙ sym k.areas),
      along,
    )

-- a deal is of a pair of the round
pub deal_or_none : (m : Capacity) (os : List Order) (r : Round) (x : Trade) (xs : List ℕ) → Deals m os r x xs → ((i j : ℕ) → InRound (OpenIn m (traded_contract r)) r os i j → ⊥) → ⊥
deal_or_none m os r x xs d none = none d.i d.j d.chosen.pair
