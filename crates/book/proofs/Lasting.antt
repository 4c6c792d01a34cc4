-- Orders that are fit stay so through trades and renewals.
use Rattle.std.proofs.Common.{◌≡◌, ℕ, zero, suc, ◌+◌, ◌-◌, ◌*◌, ◌<◌, ◌≤◌, min, Bool, true, false, cond, not, ◌&&◌, ◌||◌, eqb, ltb, leb, List, [], ◌∷◌, ◌++◌, map, length, take, drop, ℤ, pos, negsuc, filter, sym, refl, ap, ◌∙◌, subst, inl, inr, suc-mul, mul-zero, zero-mul, mul-suc, arith}
use lib.Signed.{lt_z}
use Rattle.std.specs.List.{AllByRecursion}
use Rattle.std.proofs.ByRecursion.{All-append, kept_by_passes, All-map, All-weaker, all_kept_by, All-push, All-take, All-drop}
use Rattle.std.proofs.lemmas.Int.{ints}
use Rattle.std.proofs.lemmas.Bool.{cases_Bool, cases_lt, and_parts, and_from, and_left, and_right, ltb-true, lt-ltb, le-leb, not-true, not_from_false, ltb-false, cond-true, cond-false}
use Rattle.book.specs.declared.rows.Side.{Side}
use Rattle.book.specs.declared.rows.Side.TheVariants.{Buy, Sell}
use Rattle.book.specs.declared.rows.Kind.{Kind}
use Rattle.book.specs.declared.rows.Kind.TheVariants.{Non, Ioc, Ice}
use Rattle.book.specs.declared.rows.Order.{Order}
use Rattle.book.specs.Orders.{shows, run_out, next_slice, lessened, is_ice, beyond, moved}
use Rattle.book.specs.Orderly.{InLimits, Parted, Lasts, Fit}
use Rattle.book.specs.Icebergs.{Iced}
use Rattle.book.specs.Places.{appended, without}
use Rattle.book.specs.Trades.{struck, renewable, settled, settled_rows}

not_beyond : (z : ℤ) → InLimits z → beyond z ≡ false
not_beyond z h =
    let a = h.0 in
    let b = h.1 in
    let x : lt_z z (negsuc 999998) ≡ false = grind (arith, ints) in
    let y : lt_z (pos 999999) z ≡ false = grind (arith, ints) in
    simp (x, y)

between : (s : Side) (l : ℤ) (d e : ℕ) → d ≤ e → InLimits l → InLimits (moved s l e) → InLimits (moved s l d)
between Buy l d e h a b = (omega (arith, ints), omega (arith, ints))
between Sell l d e h a b = (omega (arith, ints), omega (arith, ints))

twice : (s : Side) (l : ℤ) (d e f : ℕ) → f ≡ e + d → moved s l f ≡ moved s (moved s l d) e
twice Buy l d e f h = omega (arith, ints)
twice Sell l d e f h = omega (arith, ints)

-- a trade
less_parted : (k : Kind) (q : ℕ) (o : Order) → Parted k o → Parted k (lessened q o)
less_parted Non q o h = ap (λ n. n - q) h
less_parted Ioc q o h = ap (λ n. n - q) h
less_parted Ice q o h = record {
  peaked = omega (arith, h.peaked);
  within = omega (arith, h.within);
  further = h.further;
  enough = omega (arith, h.enough);
  last = h.last;
}

lasts_struck : (b s q : ℕ) (o : Order) → Lasts o → Lasts (struck b s q o)
lasts_struck b s q o h =
    elim (cases_Bool (eqb o.number b || eqb o.number s)) [
      | inl y ↦ subst Lasts (sym (cond-true _ _ _ y)) (h.0, less_parted o.kind q o h.1, omega (arith, h.2))
      | inr n ↦ subst Lasts (sym (cond-false _ _ _ n)) h
    ]

-- a renewal
record Next (k : Kind) (o : Order) : Type 0 where
  iced : is_ice k ≡ true
  peak : 0 < o.peak
  limit : InLimits (moved o.side o.limit o.delta)
  parted : Parted k (next_slice o)

some_peak : (m p q : ℕ) → 0 < q → q ≤ m * p → 0 < p
some_peak m p q h k =
    elim (cases_lt 0 p) [
      | inl y ↦ y
      | inr n ↦ let e : p ≡ 0 = omega arith in absurd (omega (arith, ap (λ r. m * r) e, mul-zero m))
    ]

next_iced : (o : Order) → o.shown ≤ 0 → 0 < o.«open» → InLimits o.limit → (m : ℕ) → o.«open» ≤ o.shown + m * o.peak → InLimits (moved o.side o.limit (o.delta * m)) → Next Ice o
next_iced o none some a zero h b = absurd (omega (arith, zero-mul o.peak))
next_iced o none some a (suc m) h b =
    let e : o.delta * suc m ≡ o.delta * m + o.delta = mul-suc o.delta m in
    let p = some_peak (suc m) o.peak o.«open» some (omega arith) in
    record {
      iced = refl;
      peak = p;
      limit = between o.side o.limit o.delta (o.delta * suc m) (omega (arith, e)) a b;
      parted = record {
        peaked = omega arith;
        within = omega arith;
        further = m;
        enough = omega (arith, suc-mul m o.peak);
        last = subst InLimits (twice o.side o.limit o.delta (o.delta * m) (o.delta * suc m) e) b;
      };
    }

next_parted : (k : Kind) (o : Order) → o.shown ≤ 0 → 0 < o.«open» → InLimits o.limit → Parted k o → Next k o
next_parted Non o none some a h = absurd (omega (arith, h))
next_parted Ioc o none some a h = absurd (omega (arith, h))
next_parted Ice o none some a h = next_iced o none some a h.further h.enough h.last

next : (o : Order) → run_out o ≡ true → Lasts o → Next o.kind o
next o y h =
    let p = and_parts (not (shows o)) (ltb 0 o.«open») y in
    next_parted o.kind o (ltb-false 0 o.shown (not-true (shows o) p.0)) (ltb-true 0 o.«open» p.1) h.0 h.1

renewable_same : (o : Order) → Lasts o → renewable o ≡ run_out o
renewable_same o h =
    elim (cases_Bool (run_out o)) [
      | inl y ↦
          let n = next o y h in
          and_from _ _ n.iced (and_from _ _ y (and_from _ _ (lt-ltb 0 o.peak n.peak) (not_from_false _ (not_beyond _ n.limit)))) ∙ sym y
      | inr z ↦ and_right _ _ (and_left _ _ z) ∙ sym z
    ]

next_fit : (o : Order) → (run_out o ≡ true) × Lasts o → Fit (next_slice o)
next_fit o h =
    let n = next o h.0 h.1 in
    let some = ltb-true 0 o.«open» (and_parts (not (shows o)) (ltb 0 o.«open») h.0).1 in
    let p = n.peak in
    (lt-ltb 0 (min o.peak o.«open») (omega arith), (n.limit, n.parted, h.1.2))

-- what shows and lasts is an iceberg if its kind says so
iced_kind : (k : Kind) (o : Order) → shows o ≡ true → Parted k o → (is_ice k && (shows o && (leb o.shown o.peak && leb o.shown o.«open»))) ≡ is_ice k
iced_kind Non o y h = refl
iced_kind Ioc o y h = refl
iced_kind Ice o y h = and_from _ _ y (and_from _ _ (le-leb o.shown o.peak h.peaked) (le-leb o.shown o.«open» h.within))

pub all_iced : (os : List Order) → AllByRecursion Fit os → AllByRecursion Iced os
all_iced os h = All-weaker Fit Iced (λ o f. iced_kind o.kind o f.0 f.1.1) os h

-- lists
pub all_both : {X : Type 0} (P Q : X → Type 0) (xs : List X) → AllByRecursion P xs → AllByRecursion Q xs → AllByRecursion (λ x. P x × Q x) xs
all_both P Q [] h k = tt
all_both P Q (x ∷ xs) h k = ((h.0, k.0), all_both P Q xs h.1 k.1)

kept_same : {X : Type 0} (p q : X → Bool) (P : X → Type 0) → ((x : X) → P x → p x ≡ q x) → (xs : List X) → AllByRecursion P xs → filter p xs ≡ filter q xs
kept_same p q P e [] h = refl
kept_same p q P e (x ∷ xs) h =
    ap (λ t. cond t (x ∷ filter p xs) (filter p xs)) (e x h.0) ∙ ap (λ r. cond (q x) (x ∷ r) r) (kept_same p q P e xs h.1)

lasting : (os : List Order) → AllByRecursion Fit os → AllByRecursion Lasts os
lasting os h = All-weaker Fit Lasts (λ o f. f.1) os h

lasts_map : (b s q : ℕ) (os : List Order) → AllByRecursion Fit os → AllByRecursion Lasts (map (struck b s q) os)
lasts_map b s q os h = All-map Lasts (struck b s q) os (All-weaker Lasts (λ o. Lasts (struck b s q o)) (lasts_struck b s q) os (lasting os h))

-- in a book of fit orders all that has run out can be renewed
pub settled_same : (b s q : ℕ) (os : List Order) → AllByRecursion Fit os → settled_rows b s q os ≡ settled b s q os
settled_same b s q os h =
    let ys = map (struck b s q) os in
    ap (λ r. filter shows ys ++ map next_slice r) (kept_same renewable run_out Lasts renewable_same ys (lasts_map b s q os h))

pub fit_settled : (b s q : ℕ) (os : List Order) → AllByRecursion Fit os → AllByRecursion Fit (settled b s q os)
fit_settled b s q os h =
    let ys = map (struck b s q) os in
    let l = lasts_map b s q os h in
    let out = filter run_out ys in
    All-append Fit (filter shows ys) (map next_slice out)
    (all_both (λ o. shows o ≡ true) Lasts (filter shows ys) (kept_by_passes shows ys) (all_kept_by shows Lasts ys l))
    (All-map Fit next_slice out (All-weaker (λ o. (run_out o ≡ true) × Lasts o) (λ o. Fit (next_slice o)) next_fit out (all_both (λ o. run_out o ≡ true) Lasts out (kept_by_passes run_out ys) (all_kept_by run_out Lasts ys l))))

pub all_without : {X : Type 0} (P : X → Type 0) (xs : List X) (i : ℕ) → AllByRecursion P xs → AllByRecursion P (without xs i)
all_without P xs i h = All-append P (take i xs) (drop (i + 1) xs) (All-take P i xs h) (All-drop P (i + 1) xs h)

pub all_appended : (P : Order → Type 0) (os : List Order) (o : Order) → AllByRecursion P os → P o → AllByRecursion P (appended os o)
all_appended P os o h k =
    elim (cases_Bool (ltb (length os) 128)) [
      | inl y ↦ subst (AllByRecursion P) (sym (cond-true _ (os ++ o ∷ []) os y)) (All-push P os o h k)
      | inr n ↦ subst (AllByRecursion P) (sym (cond-false _ (os ++ o ∷ []) os n)) h
    ]
