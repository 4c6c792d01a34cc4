-- The figures of a view's lines are in range, so that each line reads back.
use Rattle.std.proofs.Common.{◌≡◌, ℕ, zero, suc, ◌<◌, ◌≤◌, Bool, true, false, cond, List, [], ◌∷◌, ◌++◌, map, length, take, pos, negsuc, ◌≤ℤ◌, Some, None, Ok, Option, refl, sym, subst, arith}
use mathlib.Core.Logic.{∥∥₁_elim}
use Rattle.std.proofs.Props.{props}
use Rattle.std.specs.List.{AllByRecursion}
use Rattle.std.proofs.ByRecursion.{All-get_or}
use Rattle.std.proofs.lemmas.Int.{ints}
use Rattle.book.specs.declared.rows.Order.{Order}
use Rattle.book.specs.declared.rows.Side.{Side}
use Rattle.book.specs.Orderly.{InLimits, Fit, Orderly}
use Rattle.book.specs.Ranks.{blank, order_at}
use Rattle.capacity.specs.Tests.{answered}
use Rattle.capacity.proofs.Passes.{answered_passes}
use Rattle.capacity.specs.Meaning.{Capacity, atc, Sound}
use Rattle.flows.specs.Flows.{OpenIn, least}
use Rattle.flows.proofs.Least.{least_low}
use Rattle.ranking.specs.Ranking.{PutIn, Shuffled}
use Rattle.reading.specs.Printing.{Line, LineReadsBack}
use Rattle.reading.proofs.Printing.{plain_back, amount_back, flow_back, price_back}
use Rattle.routes.specs.Paths.{Path}
use Rattle.session.proofs.Carrying.{shown_range}
use Rattle.views.specs.declared.lines.BookLine.{BookLine}
use Rattle.views.specs.declared.lines.CapacityLine.{CapacityLine}
use Rattle.views.specs.Books.{Shows, BookLines, area_tests}
use Rattle.views.specs.Ranks.{book_before}
use Rattle.views.specs.Views.{Viewed}
use Rattle.views.specs.Capacities.{line_of, lines_from, capacity_lines, contract_tests}
use Rattle.session.specs.State.{State}
use Rattle.std.proofs.lemmas.Bool.{ltb-false}
use Rattle.views.specs.Gathered.{line_if, each_below, Gathered}
use Rattle.screens.specs.Lines.{capacity_line, book_line}

module _ {A : Type 0} (P : A → Type 0) where
  pub all_joined : (xs ys : List A) → AllByRecursion P xs → AllByRecursion P ys → AllByRecursion P (xs ++ ys)
  all_joined [] ys h k = k
  all_joined (x ∷ xs) ys h k = (h.0, all_joined xs ys h.1 k)

  all_front : (xs ys : List A) → AllByRecursion P (xs ++ ys) → AllByRecursion P xs
  all_front [] ys h = tt
  all_front (x ∷ xs) ys h = (h.0, all_front xs ys h.1)

  all_rest : (xs ys : List A) → AllByRecursion P (xs ++ ys) → AllByRecursion P ys
  all_rest [] ys h = h
  all_rest (x ∷ xs) ys h = all_rest xs ys h.1

  all_put : (x : A) (xs ys : List A) → PutIn x xs ys → P x → AllByRecursion P xs → AllByRecursion P ys
  all_put x xs ys p h k =
      let both : AllByRecursion P (p.front ++ p.back) = subst (AllByRecursion P) p.without k in
      subst (AllByRecursion P) (sym p.with_it) (all_joined p.front (x ∷ p.back) (all_front p.front p.back both) (h, all_rest p.front p.back both))

  -- what holds of all holds of them in any order
  pub all_shuffled : (xs ys : List A) → Shuffled xs ys → AllByRecursion P xs → AllByRecursion P ys
  all_shuffled [] ys e h = subst (AllByRecursion P) (sym e) tt
  all_shuffled (x ∷ xs) ys s h = all_put x s.0 ys s.1.0 h.0 (all_shuffled xs s.0 s.1.1 h.1)

  all_if : (o : Option A) → ((x : A) → o ≡ Some x → P x) → AllByRecursion P (line_if o)
  all_if None h = tt
  all_if (Some x) h = (h x refl, tt)

  each_all : (n : ℕ) (f : ℕ → List A) → ((i : ℕ) → i < n → AllByRecursion P (f i)) → AllByRecursion P (each_below n f)
  unfolding each_below
  each_all zero f h = tt
  each_all (suc n) f h = all_joined (f n) (each_below n f) (h n (omega arith)) (each_all n f (λ i l. h i (omega arith)))

  gathered_all : (Tells : ℕ → Option A → Type 0) (n : ℕ) (xs : List A) → ((i : ℕ) (x : A) → i < n → Tells i (Some x) → P x) → Gathered Tells n xs → AllByRecursion P xs
  unfolding Gathered
  gathered_all Tells zero xs h g = subst (AllByRecursion P) (sym g) tt
  gathered_all Tells (suc n) xs h g =
      let one : AllByRecursion P (line_if g.0) = all_if g.0 (λ x e. h n x (omega arith) (subst (Tells n) e g.2)) in
      subst (AllByRecursion P) (sym g.4) (all_joined (line_if g.0) g.1 one (gathered_all Tells n g.1 (λ i x l t. h i x (omega arith) t) g.3))

-- the figures of a line of the capacity view are in range
abbrev pub FewFlows : CapacityLine → Type 0
FewFlows x = (x.from ≤ 15) × (x.to ≤ 15) × (negsuc 2147483647 ≤ℤ x.atc) × (x.atc ≤ℤ pos 2147483647)

atc_range : (m : Capacity) → Sound m → (c a b : ℕ) → (negsuc 2147483647 ≤ℤ atc m c a b) × (atc m c a b ≤ℤ pos 2147483647)
atc_range m s c a b = (
  omega (arith, ints, s.ntc_range c a b, s.aac_range c a b, s.aac_range c b a, s.held_range c a b, s.net_low c a b, s.net_high c a b),
  omega (arith, ints, s.ntc_range c a b, s.aac_range c a b, s.aac_range c b a, s.held_range c a b, s.net_low c a b, s.net_high c a b),
)

few_if : (t : Bool) (x : CapacityLine) → FewFlows x → AllByRecursion FewFlows (cond t (x ∷ []) [])
few_if true x h = (h, tt)
few_if false x h = tt

pub capacity_range : (m : Capacity) → Sound m → (c : ℕ) → AllByRecursion FewFlows (capacity_lines m c)
capacity_range m s c =
    each_all FewFlows 16 (lines_from m c) (λ a l. each_all FewFlows 16 (line_of m c a) (λ b k. few_if (m.joins a b) (record { from = a; to = b; atc = atc m c a b }) (omega arith, omega arith, (atc_range m s c a b).0, (atc_range m s c a b).1)))

-- and those of a line of the book view
abbrev pub FewUnits : BookLine → Type 0
FewUnits x = InLimits x.limit × (x.place ≤ 127) × (x.quantity ≤ 9999)

few_prop : (x : BookLine) → IsProp (FewUnits x)
few_prop x = Prim.hlevel props

-- a quantity along a route is at most the shown part
along_few : (m : Capacity) (c p q n k : ℕ) (xs : List ℕ) → Path (OpenIn m c) p q xs → pos k ≡ least m c (pos n) xs → k ≤ n
along_few m c p q n k [] path e = absurd path.0
along_few m c p q n k (a ∷ xs) path e =
    let low : (pos k ≤ℤ pos n) = (least_low m c k (pos n) a xs (omega (arith, ints, e))).0 in
    omega (arith, ints, low)

line_few : (m : Capacity) (os : List Order) (c a : ℕ) (s : Side) (i : ℕ) (x : BookLine) → length os ≤ 128 → Orderly os → i < length os → Shows m os c a s i (Some x) → FewUnits x
line_few m os c a s i x few o l h =
    let fit : Fit (order_at os i) = All-get_or Fit os i blank l o.fit in
    let shown = shown_range os i o.fit l in
    let k : x.quantity ≤ (order_at os i).shown = along_few m c _ _ _ _ h.route h.along.0 h.quantity in
    (subst InLimits (sym h.limit) fit.1.0, omega (arith, h.place, l, few), omega (arith, k, shown))

book_range : (m : Capacity) (os : List Order) (c a : ℕ) (s : Side) (xs : List BookLine) → length os ≤ 128 → ∥ Orderly os ∥₁ → Gathered (Shows m os c a s) (length os) xs → AllByRecursion FewUnits xs
book_range m os c a s xs few t g =
    gathered_all FewUnits (Shows m os c a s) (length os) xs (λ i x l h. ∥∥₁_elim t (few_prop x) (λ o. line_few m os c a s i x few o l h)) g

-- so are those of a view as it ranks
pub view_range : (s : State) (c a : ℕ) (side : Side) (before after : List BookLine) (n : ℕ) → length s.book ≤ 128 → ∥ Orderly s.book ∥₁ → Viewed book_before (area_tests s c a) (BookLines s c a side) before (Ok n) after → AllByRecursion FewUnits (take n after)
view_range s c a side before after n few t v =
    all_shuffled FewUnits v.1.0 (take n after) v.1.3.ranked.all (book_range s.capacity s.book c a side v.1.0 few t v.1.1)

-- what each line is printed as reads back
pub all_back : {A : Type 0} (P : A → Type 0) (printed : A → Line) → ((x : A) → P x → LineReadsBack (printed x)) → (xs : List A) → AllByRecursion P xs → AllByRecursion LineReadsBack (map printed xs)
all_back P printed h [] a = tt
all_back P printed h (x ∷ xs) a = (h x a.0, all_back P printed h xs a.1)

-- a contract that can be viewed is one
pub contract_few : (s : State) (c : ℕ) → answered (contract_tests s c) ≡ Ok tt → c ≤ 23
contract_few s c e = ltb-false 23 c (answered_passes (contract_tests s c) (sym e)).0

pub capacity_back : (c : ℕ) (x : CapacityLine) → c ≤ 23 → FewFlows x → LineReadsBack (capacity_line c x)
capacity_back c x few h =
    (plain_back c (omega arith), (plain_back x.from (omega (arith, h.0)), (plain_back x.to (omega (arith, h.1)), (flow_back x.atc h.2 h.3, tt))))

pub book_back : (c a : ℕ) (x : BookLine) → c ≤ 23 → a ≤ 15 → FewUnits x → LineReadsBack (book_line c a x)
book_back c a x few area h =
    (plain_back c (omega arith), (plain_back a (omega arith), (plain_back x.place (omega (arith, h.1)), (price_back x.limit (omega (arith, ints, h.0)) (omega (arith, ints, h.0)), (amount_back x.quantity (omega (arith, h.2)), tt)))))
