-- What an order shows and its limit, by how much of it was traded: at its entry, within a slice and at the next one.
use Rattle.std.proofs.Common.{◌≡◌, ℕ, ◌+◌, ◌-◌, ◌*◌, ◌/◌, ◌%◌, ◌<◌, ◌≤◌, min, ℤ, sym, refl, ap, ◌∙◌, mod-lt, mul-zero, div-add-mod', arith}
use native.Mathlib.Nat.{zero-mod, zero-div}
use lib.Arith.{digits_div, digits_mod}
use Rattle.std.proofs.lemmas.Int.{ints}
use Rattle.book.specs.declared.rows.Side.{Side}
use Rattle.book.specs.declared.rows.Side.TheVariants.{Buy, Sell}
use Rattle.book.specs.declared.rows.Kind.{Kind}
use Rattle.book.specs.declared.rows.Kind.TheVariants.{Non, Ioc, Ice}
use Rattle.book.specs.declared.rows.OrderTerms.{OrderTerms}
use Rattle.book.specs.Orders.{first_slice, moved}
use Rattle.history.specs.Standing.{limit_after}

-- an order of the peak p, of which n was traded and r is open, shows v: all of it, or what is left of the peak
abbrev pub Slice : Kind → ℕ → ℕ → ℕ → ℕ → Type 0
Slice Non p v r n = v ≡ r
Slice Ioc p v r n = v ≡ r
Slice Ice p v r n = (1 ≤ p) × (v ≡ min (p - n % p) r)

same_quot : (n q p : ℕ) → n % p + q < p → ((n + q) / p ≡ n / p) × ((n + q) % p ≡ n % p + q)
same_quot n q p l =
    let e : n + q ≡ n / p * p + (n % p + q) = omega (arith, div-add-mod' n p) in
    (ap (λ z. z / p) e ∙ digits_div (n / p) l, ap (λ z. z % p) e ∙ digits_mod (n / p) l)

next_quot : (n q p : ℕ) → 0 < p → n % p + q ≡ p → ((n + q) / p ≡ n / p + 1) × ((n + q) % p ≡ 0)
next_quot n q p l k =
    let e : n + q ≡ (n / p + 1) * p + 0 = omega (arith, div-add-mod' n p) in
    (ap (λ z. z / p) e ∙ digits_div (n / p + 1) l, ap (λ z. z % p) e ∙ digits_mod (n / p + 1) l)

-- what is open shows in part
pub slice_some : (k : Kind) (p v r n : ℕ) → Slice k p v r n → 1 ≤ r → (1 ≤ v) × (v ≤ r)
slice_some Non p v r n h l = (omega arith, omega arith)
slice_some Ioc p v r n h l = (omega arith, omega arith)
slice_some Ice p v r n h l =
    let a : 1 ≤ p = h.0 in
    let e : v ≡ min (p - n % p) r = h.1 in
    (omega (arith, mod-lt n a), omega arith)

-- as it is entered
pub first_few : (k : Kind) (p q : ℕ) → first_slice k p q ≤ q
first_few Non p q = omega arith
first_few Ioc p q = omega arith
first_few Ice p q = omega arith

pub slice_first : (k : Kind) (p q : ℕ) → 1 ≤ first_slice k p q → Slice k p (first_slice k p q) q 0
slice_first Non p q h = refl
slice_first Ioc p q h = refl
slice_first Ice p q h = (omega arith, omega (arith, zero-mod p))

moved_none : (d : Side) (l : ℤ) (n : ℕ) → n ≡ 0 → l ≡ moved d l n
moved_none Buy l n e = omega (arith, ints)
moved_none Sell l n e = omega (arith, ints)

pub limit_first : (k : Kind) (t : OrderTerms) → t.limit ≡ limit_after k t 0
limit_first Non t = refl
limit_first Ioc t = refl
limit_first Ice t = moved_none t.side t.limit (t.delta * (0 / t.peak)) (ap (λ z. t.delta * z) (zero-div t.peak) ∙ mul-zero t.delta)

-- a trade of less than is shown
pub slice_kept : (k : Kind) (p v r n q : ℕ) → Slice k p v r n → q < v → Slice k p (v - q) (r - q) (n + q)
slice_kept Non p v r n q h l = omega arith
slice_kept Ioc p v r n q h l = omega arith
slice_kept Ice p v r n q h l =
    let a : 1 ≤ p = h.0 in
    let e : v ≡ min (p - n % p) r = h.1 in
    let b : (n + q) % p ≡ n % p + q = (same_quot n q p (omega arith)).1 in
    (a, omega arith)

pub limit_kept : (k : Kind) (t : OrderTerms) (v r n q : ℕ) → Slice k t.peak v r n → q < v → limit_after k t n ≡ limit_after k t (n + q)
limit_kept Non t v r n q h l = refl
limit_kept Ioc t v r n q h l = refl
limit_kept Ice t v r n q h l =
    let e : v ≡ min (t.peak - n % t.peak) r = h.1 in
    ap (λ z. moved t.side t.limit (t.delta * z)) (sym (same_quot n q t.peak (omega arith)).0)

-- a trade of all that is shown, and of less than is open
pub slice_next : (k : Kind) (p v r n q : ℕ) → Slice k p v r n → v ≡ q → q < r → Slice k p (min p (r - q)) (r - q) (n + q)
slice_next Non p v r n q h e l = absurd (omega arith)
slice_next Ioc p v r n q h e l = absurd (omega arith)
slice_next Ice p v r n q h e l =
    let a : 1 ≤ p = h.0 in
    let f : v ≡ min (p - n % p) r = h.1 in
    let m : n % p < p = mod-lt n a in
    let b : (n + q) % p ≡ 0 = (next_quot n q p a (omega arith)).1 in
    (a, omega arith)

moved_on : (d : Side) (l : ℤ) (a b : ℕ) → moved d (moved d l a) b ≡ moved d l (a + b)
moved_on Buy l a b = omega (arith, ints)
moved_on Sell l a b = omega (arith, ints)

once_more : (d x y : ℕ) → y ≡ x + 1 → d * x + d ≡ d * y
once_more d x y e = rw e (omega arith)

pub limit_next : (k : Kind) (t : OrderTerms) (v r n q : ℕ) → Slice k t.peak v r n → v ≡ q → q < r → moved t.side (limit_after k t n) t.delta ≡ limit_after k t (n + q)
limit_next Non t v r n q h e l = absurd (omega arith)
limit_next Ioc t v r n q h e l = absurd (omega arith)
limit_next Ice t v r n q h e l =
    let a : 1 ≤ t.peak = h.0 in
    let f : v ≡ min (t.peak - n % t.peak) r = h.1 in
    let m : n % t.peak < t.peak = mod-lt n a in
    let b : (n + q) / t.peak ≡ n / t.peak + 1 = (next_quot n q t.peak a (omega arith)).0 in
    moved_on t.side t.limit (t.delta * (n / t.peak)) t.delta ∙ ap (moved t.side t.limit) (once_more t.delta (n / t.peak) ((n + q) / t.peak) b)
