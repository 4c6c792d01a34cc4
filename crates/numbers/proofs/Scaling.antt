-- From a number to a count of units.
use Rattle.std.proofs.Common.{◌≡◌, ℕ, zero, suc, ◌+◌, ◌*◌, ◌%◌, ◌^◌, ◌<◌, ◌≤◌, List, ℤ, pos, negsuc, ◌+ℤ◌, ◌≤ℤ◌, nat_abs, Some, None, Ok, Err, Option, Result, sym, refl, ap, ◌∙◌, subst, mul_assoc, arith, pow-add, MatchOption, MatchResult, zero-mul, suc-mul, w64, SFits}
use native.Mathlib.Nat.{eq_of_mul-eq-mul_right, pow-le-pow_right}
use Rattle.std.proofs.lemmas.Int.{ints}
use Rattle.std.proofs.Math.Nat.{mul-mod_left}
use Rattle.std.specs.Option.{ok_or}
use Rattle.std.specs.Result.{OkIff, result_ok}
use Rattle.numbers.specs.declared.Unit.{Unit as Measure}
use Rattle.numbers.specs.declared.Unit.TheVariants.{Count, Megawatt, Euro}
use Rattle.numbers.specs.declared.NumberFault.{NumberFault}
use Rattle.numbers.specs.declared.NumberFault.TheVariants.{Form, Fraction, Range}
use Rattle.numbers.specs.Numerals.{Power, rise, fall, places, Counts}
use Rattle.numbers.specs.Numerals.Mark.{none, plus, minus}
use Rattle.numbers.specs.Numerals.Power.{bare, power}
use Rattle.numbers.specs.Reading.{scale_of}
use Rattle.numbers.specs.Scans.{exponent, BodyIs, Lifted, Unlifted, SizeIs, NoSize}
use Rattle.numbers.proofs.Laws.{ten_pos}

pub ok_or_cases : {A E : Type 0} (o : Option A) (e : E) (r : Result A E) (P : Type 0) (Q K : A → Type 0) (F : E → Type 0) → r ≡ ok_or o e → MatchOption o P Q → (P → F e) → ((n : A) → Q n → K n) → MatchResult r K F
ok_or_cases None e r P Q K F v h f g = subst (λ x. MatchResult x K F) (sym v) (f h)
ok_or_cases (Some n) e r P Q K F v h f g = subst (λ x. MatchResult x K F) (sym v) (g n h)

-- powers of ten past 64 bits
pub ten_high : (k : ℕ) → 20 ≤ k → 2 ^ 64 ≤ 10 ^ k
ten_high k h = let p : 10 ^ 20 ≤ 10 ^ k = pow-le-pow_right (omega arith) h in omega arith

pub ten_low : (k : ℕ) → 10 ^ k < 2 ^ 64 → k < 20
ten_low k h = grind (arith, ten_high k)

pub no_fit : {A E : Type 0} (r : Result A E) (P : Type 0) (v : A) → OkIff r P v → result_ok r ≡ None → P → ⊥
no_fit (Ok x) P v h e p = cc
no_fit (Err d) P v h e p = h p

pub lower_high : (m p : ℕ) → 0 < m → m < p → (n : ℕ) → n * p ≡ m → ⊥
lower_high m p h q zero e = omega (arith, zero-mul p)
lower_high m p h q (suc n) e = omega (arith, suc-mul n p)

pub lower_left : (m p : ℕ) → 0 < m % p → (n : ℕ) → n * p ≡ m → ⊥
lower_left m p h n e = omega (arith, ap (λ x. x % p) e, mul-mod_left n p)

-- a power of ten by its sign
pub lifted_up : (m : ℕ) (k : ℤ) (n : ℕ) → pos 0 ≤ℤ k → n ≡ m * 10 ^ nat_abs k → Lifted m k n
lifted_up m (pos k) n h e = e
lifted_up m (negsuc k) n h e = absurd (omega (arith, ints))

split_power : (n i j k : ℕ) → i + j ≡ k → n * 10 ^ k ≡ (n * 10 ^ i) * 10 ^ j
split_power n i j k e = ap (λ x. n * x) (ap (λ x. 10 ^ x) (sym e) ∙ pow-add 10 i j) ∙ sym (mul_assoc n (10 ^ i) (10 ^ j))

-- m * 10 ^ k is n, where k is a - b
lift : (m a b n : ℕ) (k : ℤ) → k +ℤ pos b ≡ pos a → Lifted m k n → m * 10 ^ a ≡ n * 10 ^ b
lift m a b n (pos k) e h = split_power m k b a (omega (arith, ints)) ∙ ap (λ x. x * 10 ^ b) (sym h)
lift m a b n (negsuc k) e h = ap (λ x. x * 10 ^ a) (sym h) ∙ sym (split_power n (suc k) a b (omega (arith, ints)))

lifted : (m a b n : ℕ) (k : ℤ) → k +ℤ pos b ≡ pos a → m * 10 ^ a ≡ n * 10 ^ b → Lifted m k n
lifted m a b n (pos k) e h = eq_of_mul-eq-mul_right (10 ^ b) (ten_pos b) _ _ (sym h ∙ split_power m k b a (omega (arith, ints)))
lifted m a b n (negsuc k) e h = eq_of_mul-eq-mul_right (10 ^ a) (ten_pos a) _ _ (sym (split_power n (suc k) a b (omega (arith, ints))) ∙ sym h)

exponent_is : (t : Power) → exponent t +ℤ pos (fall t) ≡ pos (rise t)
exponent_is bare = omega (arith, ints)
exponent_is (power l none ds) = omega (arith, ints)
exponent_is (power l plus ds) = omega (arith, ints)
exponent_is (power l minus ds) = omega (arith, ints)

module _ (s : List ℕ) (unit : Measure) (m : ℕ) (e : ℤ) (h : BodyIs s m e) where
  shifted : e +ℤ pos (scale_of unit) +ℤ pos (fall h.numeral.tail + places h.numeral) ≡ pos (rise h.numeral.tail + scale_of unit)
  shifted = omega (arith, ints, h.power, exponent_is h.numeral.tail)

  counts : (n : ℕ) → Lifted m (e +ℤ pos (scale_of unit)) n → Counts h.numeral (scale_of unit) n
  counts n l = subst (λ x. x * 10 ^ (rise h.numeral.tail + scale_of unit) ≡ n * 10 ^ (fall h.numeral.tail + places h.numeral)) h.number (lift m _ _ n _ shifted l)

  no_counts : (n : ℕ) → Counts h.numeral (scale_of unit) n → Lifted m (e +ℤ pos (scale_of unit)) n
  no_counts n c = lifted m _ _ n _ shifted (subst (λ x. x * 10 ^ (rise h.numeral.tail + scale_of unit) ≡ n * 10 ^ (fall h.numeral.tail + places h.numeral)) (sym h.number) c)

  pub size_is : (n : ℕ) (z : ℤ) → Lifted m (e +ℤ pos (scale_of unit)) n → z ≡ pos n → SizeIs s unit z
  size_is n z l v = record { numeral = h.numeral; proper = h.proper; joined = h.joined; size = n; counts = counts n l; value = v }

  pub no_size : (f : NumberFault) → Unlifted m (e +ℤ pos (scale_of unit)) f → NoSize s unit f
  no_size Form x = absurd x
  no_size Fraction x = (h.numeral, (h.proper, h.joined, λ n c. x n (no_counts n c)))
  no_size Range x = (x.0, (size_is x.0 _ x.1.0 refl, x.1.1))

unfit : (n : ℕ) → (SFits w64 (pos n) → ⊥) → 2147483648 < n
unfit n f = grind (arith, ints)

-- a size in 64 bits, of which one too large for a sign is too large
pub sized : {E : Type 0} (s : List ℕ) (unit : Measure) (m : ℕ) (e : ℤ) (h : BodyIs s m e) (n : ℕ) (t : Result ℤ E) (r : Result ℤ NumberFault) → Lifted m (e +ℤ pos (scale_of unit)) n → OkIff t (SFits w64 (pos n)) (pos n) → MatchResult t (λ x. r ≡ Ok x) (λ _. r ≡ Err Range) → MatchResult r (SizeIs s unit) (NoSize s unit)
sized s unit m e h n (Ok x) r l o q = rw q (size_is s unit m e h n x l o.1)
sized s unit m e h n (Err d) r l o q = rw q (no_size s unit m e h Range (n, (l, unfit n o)))

pub scale_small : (unit : Measure) → scale_of unit ≤ 2
scale_small Count = omega arith
scale_small Megawatt = omega arith
scale_small Euro = omega arith
