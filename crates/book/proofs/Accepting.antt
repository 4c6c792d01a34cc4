-- An order entered on terms that are not refused is fit.
use Rattle.std.proofs.Common.{◌≡◌, ℕ, ◌+◌, ◌-◌, ◌*◌, ◌/◌, ◌<◌, ◌≤◌, min, Bool, true, false, cond, ◌||◌, ltb, ℤ, pos, negsuc, Some, None, refl, mod-lt, div-add-mod', arith}
use lib.Signed.{lt_z}
use Rattle.std.proofs.lemmas.Int.{ints}
use Rattle.std.proofs.lemmas.Bool.{or_parts, ltb-false, lt-ltb}
use Rattle.book.specs.declared.rows.Side.{Side}
use Rattle.book.specs.declared.rows.Kind.{Kind}
use Rattle.book.specs.declared.rows.Kind.TheVariants.{Non, Ioc, Ice}
use Rattle.book.specs.declared.rows.OrderTerms.{OrderTerms}
use Rattle.book.specs.Orders.{beyond, entered}
use Rattle.book.specs.Orderly.{InLimits, Fit}
use Rattle.book.specs.Terms.{refusal, ill_sliced, last_limit}

limits : (z : ℤ) → beyond z ≡ false → InLimits z
limits z h =
    let p = or_parts (lt_z z (negsuc 999998)) (lt_z (pos 999999) z) h in
    let a : lt_z z (negsuc 999998) ≡ false = p.0 in
    let b : lt_z (pos 999999) z ≡ false = p.1 in
    (grind (arith, ints), grind (arith, ints))

enough : (q p : ℕ) → 0 < p → q ≤ min p q + (q - 1) / p * p
enough q p h = omega (arith, div-add-mod' (q - 1) p, mod-lt (q - 1) h)

-- none of three tests applied
none_of : (a b c : Bool) (x y z : ℕ) → cond a (Some x) (cond b (Some y) (cond c (Some z) None)) ≡ None → (a ≡ false) × (b ≡ false) × (c ≡ false)
none_of true b c x y z e = cc
none_of false true c x y z e = cc
none_of false false true x y z e = cc
none_of false false false x y z e = (refl, refl, refl)

abbrev terms : Kind → Side → ℤ → ℕ → ℕ → ℕ → OrderTerms
terms k s l q p d = record { kind = k; side = s; limit = l; quantity = q; peak = p; delta = d }

by_kind : (n m c a : ℕ) (k : Kind) (s : Side) (l : ℤ) (q p d : ℕ) → beyond l ≡ false → 1 ≤ q → q ≤ 9999 → ill_sliced k (terms k s l q p d) ≡ false → Fit (entered n m c a (terms k s l q p d))
by_kind n m c a Non s l q p d h some few g = (lt-ltb 0 q (omega arith), (limits l h, refl, few))
by_kind n m c a Ioc s l q p d h some few g = (lt-ltb 0 q (omega arith), (limits l h, refl, few))
by_kind n m c a Ice s l q p d h some few g =
    let t = terms Ice s l q p d in
    let u = or_parts (ltb p 50 || ltb q p) (ltb 500 d || beyond (last_limit t)) g in
    let v = or_parts (ltb p 50) (ltb q p) u.0 in
    let w = or_parts (ltb 500 d) (beyond (last_limit t)) u.1 in
    let large : 50 ≤ p = ltb-false p 50 v.0 in (
      lt-ltb 0 (min p q) (omega arith),
      (
        limits l h,
        record {
          peaked = omega arith;
          within = omega arith;
          further = (q - 1) / p;
          enough = enough q p (omega arith);
          last = limits (last_limit t) w.1;
        },
        few,
      ),
    )

pub accepted : (n m c a : ℕ) (t : OrderTerms) → refusal t ≡ None → Fit (entered n m c a t)
accepted n m c a t e =
    let f = none_of (beyond t.limit) (ltb t.quantity 1 || ltb 9999 t.quantity) (ill_sliced t.kind t) 5 6 7 e in
    let g = or_parts (ltb t.quantity 1) (ltb 9999 t.quantity) f.1 in
    by_kind n m c a t.kind t.side t.limit t.quantity t.peak t.delta f.0 (ltb-false t.quantity 1 g.0) (ltb-false 9999 t.quantity g.1) f.2
