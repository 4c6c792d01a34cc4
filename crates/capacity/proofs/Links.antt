-- The tables of a map: none, one more connector, one figure set, and how many connectors there are.
use Rattle.std.proofs.Common.{◌≡◌, ℕ, zero, suc, ◌+◌, ◌*◌, ◌<◌, ◌≤◌, min, max, Bool, true, false, cond, ◌||◌, List, length, set, replicate, sym, refl, ap, ◌∙◌, ⊎_elim, arith, get_or-set_other, get_or-set_same}
use Rattle.std.proofs.lemmas.Bool.Decides.{nat_tests}
use Rattle.std.proofs.lemmas.Bool.{cases_eq, or_from, le-ltb, lt-leb, ne_eqb}
use Rattle.capacity.specs.Directions.{is_way}
use Rattle.capacity.specs.Network.{Network, sum_below, connectors, connect_tests}
use Rattle.capacity.specs.Tables.{linked, kept_in}
use Rattle.capacity.proofs.Lists.{get_d_same}
use Rattle.capacity.proofs.Passes.{Passes}

-- ---- sums

pub sum_same : (n : ℕ) (f g : ℕ → ℕ) → ((i : ℕ) → i < n → g i ≡ f i) → sum_below n g ≡ sum_below n f
unfolding sum_below
sum_same zero f g h = refl
sum_same (suc n) f g h =
    let e = sum_same n f g (λ i l. h i (omega arith)) in
    let z = h n (omega arith) in
    omega arith

-- one place has one more
pub sum_more : (n k : ℕ) (f g : ℕ → ℕ) → k < n → ((i : ℕ) → i < n → (i ≡ k → ⊥) → g i ≡ f i) → g k ≡ f k + 1 → sum_below n g ≡ sum_below n f + 1
unfolding sum_below
sum_more zero k f g l h e = absurd (omega arith)
sum_more (suc n) k f g l h e =
    ⊎_elim
    (λ (s : k ≡ n).
    let t = sum_same n f g (λ i m. h i (omega arith) (omega arith)) in
    let z : g n ≡ f n + 1 = rw (sym s) e in
    omega arith)
    (λ (d : k ≡ n → ⊥).
    let t = sum_more n k f g (omega arith) (λ i m ne. h i (omega arith) ne) e in
    let z = h n (omega arith) (λ s. d (sym s)) in
    omega arith)
    (cases_eq k n)

pub sum_none : (n : ℕ) (f : ℕ → ℕ) → ((i : ℕ) → f i ≡ 0) → sum_below n f ≡ 0
unfolding sum_below
sum_none zero f h = refl
sum_none (suc n) f h = let e = sum_none n f h in let z = h n in omega arith

-- ---- how many connectors

pub no_connectors : (j : ℕ → ℕ → Bool) → ((a b : ℕ) → j a b ≡ false) → connectors j ≡ 0
unfolding connectors
no_connectors j h = sum_none 16 _ (λ a. sum_none a _ (λ b. rw (h a b) refl))

-- g joins what j joins, and one pair more
pub one_connector : (j g : ℕ → ℕ → Bool) (low high : ℕ) → low < high → high < 16 → ((a b : ℕ) → b < a → (a ≡ high → b ≡ low → ⊥) → g a b ≡ j a b) → g high low ≡ true → j high low ≡ false → connectors g ≡ connectors j + 1
unfolding connectors
one_connector j g low high l t h e f =
    sum_more 16 high _ _ t
    (λ a m ne. sum_same a _ _ (λ b k. ap (λ x. cond x 1 0) (h a b k (λ s _. ne s))))
    (sum_more high low _ _ l (λ b k ne. ap (λ x. cond x 1 0) (h high b k (λ _ s. ne s))) (rw (e, f) refl))

-- ---- the table of joined areas

pub none_linked : (n a b : ℕ) → linked (replicate n false) a b ≡ false
none_linked n a b = rw get_d_same (grind (arith, nat_tests))

pub linked_set : (js : List Bool) (x y : ℕ) → x ≤ 15 → y ≤ 15 → (x ≡ y → ⊥) → length js ≡ 256 → (a b : ℕ) → linked (set js (16 * min x y + max x y) true) a b ≡ ((is_way x y a b || is_way y x a b) || linked js a b)
linked_set js x y p q ne len a b =
    ⊎_elim
    (λ (e : 16 * min a b + max a b ≡ 16 * min x y + max x y).
    let s = get_or-set_same js (16 * min x y + max x y) true false (omega arith) in rw (e, s) (grind (arith, nat_tests)))
    (λ (e : 16 * min a b + max a b ≡ 16 * min x y + max x y → ⊥).
    let s = get_or-set_other js (16 * min x y + max x y) (16 * min a b + max a b) true false e in rw s (grind (arith, nat_tests)))
    (cases_eq (16 * min a b + max a b) (16 * min x y + max x y))

pub linked_high : (js : List Bool) (x y : ℕ) → linked js (max x y) (min x y) ≡ linked js x y
linked_high js x y =
    let l : min (max x y) (min x y) ≡ min x y = omega arith in
    let h : max (max x y) (min x y) ≡ max x y = omega arith in
    rw (l, h) refl

pub count_set : (js : List Bool) (x y : ℕ) → x ≤ 15 → y ≤ 15 → (x ≡ y → ⊥) → length js ≡ 256 → linked js x y ≡ false → connectors (linked (set js (16 * min x y + max x y) true)) ≡ connectors (linked js) + 1
count_set js x y p q ne len f =
    one_connector (linked js) (linked (set js (16 * min x y + max x y) true)) (min x y) (max x y) (omega arith) (omega arith)
    (λ a b l away. linked_set js x y p q ne len a b ∙ other a b l away (linked js a b))
    (linked_set js x y p q ne len (max x y) (min x y) ∙ here (linked js (max x y) (min x y)))
    (linked_high js x y ∙ f)
  where
    other : (a b : ℕ) → b < a → (a ≡ max x y → b ≡ min x y → ⊥) → (t : Bool) → ((is_way x y a b || is_way y x a b) || t) ≡ t
    other a b l away t = grind (arith, nat_tests)

    here : (t : Bool) → ((is_way x y (max x y) (min x y) || is_way y x (max x y) (min x y)) || t) ≡ true
    here t = grind (arith, nat_tests)

-- ---- the table of what is kept back

pub none_kept : (n a b : ℕ) → kept_in (replicate n 0) a b ≡ 0
none_kept n a b = rw get_d_same (grind (arith, nat_tests))

-- ---- a connector that no test refuses

pub connect_passes : (m : Network) (x y v w : ℕ) → v ≤ 99999 → w ≤ 99999 → x ≤ 15 → y ≤ 15 → (x ≡ y → ⊥) → m.joins x y ≡ false → connectors m.joins < 32 → Passes (connect_tests m x y v w)
connect_passes m x y v w hv hw hx hy ne free few = (
  or_from _ _ (le-ltb 99999 v hv) (le-ltb 99999 w hw),
  (
    or_from _ _ (or_from _ _ (le-ltb 15 x hx) (or_from _ _ (le-ltb 15 y hy) (ne_eqb x y ne))) (or_from _ _ free (lt-leb 32 _ few)),
    tt,
  ),
)
