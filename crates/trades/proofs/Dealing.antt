-- A pair that is chosen over a grid, its orders and its route, as a deal over the register's meaning.
use Rattle.std.proofs.Common.{◌≡◌, ℕ, zero, suc, ◌<◌, min, Bool, List, [], ◌∷◌, length, ℤ, pos, Some, None, sym, ap, ◌∙◌, subst, arith}
use Rattle.book.specs.declared.rows.Order.{Order}
use Rattle.book.specs.Places.{nth}
use Rattle.book.specs.Ranks.{order_at}
use Rattle.capacity.specs.Meaning.{Capacity}
use Rattle.flows.specs.Flows.{open_in, OpenIn, least}
use Rattle.matching.specs.declared.round.Round.{Round}
use Rattle.matching.specs.declared.round.Round.TheVariants.{Regular, Batch}
use Rattle.matching.specs.Pairs.{Executable, InRound, Chosen}
use Rattle.routes.specs.Paths.{Relation, Holds, Path, IsRoute}
use Rattle.trades.specs.Deals.{traded_contract, price, Deals}

pub executable : (O : Relation) (r : Round) (os : List Order) (i j : ℕ) → InRound O r os i j → Executable O os i j
executable O (Regular c n) os i j h = h.0
executable O (Batch c) os i j h = h.0

-- an order that stands at a place
pub stands : (os : List Order) (i : ℕ) (o : Order) → Some o ≡ nth os i → order_at os i ≡ o
stands [] i o e = cc
stands (x ∷ os) zero o e = cc
stands (x ∷ os) (suc i) o e = stands os i o e

pub none_past : (os : List Order) (i : ℕ) → None ≡ nth os i → i < length os → ⊥
none_past [] i e h = omega arith
none_past (x ∷ os) zero e h = cc
none_past (x ∷ os) (suc i) e h = none_past os i e (omega arith)

-- a path joins the areas of the pair
pub path_leads : (f : ℕ → ℕ → Bool) (r : Round) (os : List Order) (i j : ℕ) (b s : Order) → Chosen (Holds f) r os i j → Some b ≡ nth os i → Some s ≡ nth os j → ((xs : List ℕ) → Path (Holds f) s.area b.area xs → ⊥) → ⊥
path_leads f r os i j b s h eb es none =
    let leads = (executable (Holds f) r os i j h.pair).leads in
    none leads.0 (rw (ap (λ (o : Order). o.area) (stands os i b eb), ap (λ (o : Order). o.area) (stands os j s es)) at leads.1)

-- the parts of a deal, put together
pub dealt : (m : Capacity) (os : List Order) (r : Round) (f : ℕ → ℕ → Bool) (i j c : ℕ) (b s : Order) (p : ℤ) (q n : ℕ) (xs : List ℕ)
    → c ≡ traded_contract r → f ≡ open_in m c → Chosen (Holds f) r os i j → Some b ≡ nth os i → Some s ≡ nth os j → p ≡ price r i j b s
    → IsRoute (Holds f) s.area b.area xs → ((x y : ℕ) → Path (OpenIn m c) x y xs → pos q ≡ least m c (pos (min b.shown s.shown)) xs) → n ≡ length xs
    → Deals m os r (record { contract = c; buy = b.number; sell = s.number; buyer = b.area; seller = s.area; price = p; quantity = q; areas = n }) xs
dealt m os r f i j c b s p q n xs ec ef h eb es ep route least_is en =
    let over : OpenIn m c ≡ OpenIn m (traded_contract r) = ap (OpenIn m) ec in
    let here : Holds f ≡ OpenIn m (traded_contract r) = ap Holds ef ∙ over in
    let ob = stands os i b eb in
    let os' = stands os j s es in
    let on_route : IsRoute (OpenIn m (traded_contract r)) s.area b.area xs = subst (λ (O : Relation). IsRoute O s.area b.area xs) here route in
    let path : Path (OpenIn m c) s.area b.area xs = subst (λ (O : Relation). Path O s.area b.area xs) (ap Holds ef) route.0 in
    record {
      i = i;
      j = j;
      chosen = subst (λ (O : Relation). Chosen O r os i j) here h;
      contract = ec;
      buy = sym (ap (λ (o : Order). o.number) ob);
      sell = sym (ap (λ (o : Order). o.number) os');
      buyer = sym (ap (λ (o : Order). o.area) ob);
      seller = sym (ap (λ (o : Order). o.area) os');
      at_price = ep ∙ rw (ob, os');
      route = rw (ob, os') on_route;
      areas = en;
      quantity = rw (ob, os', sym ec) (least_is s.area b.area path);
    }
