-- What is printed is read back, and is ASCII.
use Rattle.std.proofs.Common.{◌≡◌, ℕ, ◌+◌, ◌*◌, ◌/◌, ◌%◌, ◌^◌, ◌<◌, ◌≤◌, Bool, true, false, List, [], ◌∷◌, ◌++◌, length, ℤ, pos, negsuc, nat_abs, Ok, decimal, codes, sym, refl, ap, ◌∙◌, append-nil, arith, length-append}
use Rattle.std.specs.Str.{IsAscii}
use Rattle.std.proofs.lemmas.Int.{ints}
use Rattle.std.proofs.lemmas.Fmt.{digits_decimal, digits_value-decimal, decimal_nonempty, decimal_digit, length-decimal-le, IsAscii-decimal}
use Rattle.std.proofs.lemmas.Str.{IsAscii-append}
use Rattle.std.proofs.lemmas.Str.Ascii.{IsAscii-nil, IsAscii-cons}
use Rattle.numbers.specs.declared.Unit.{Unit as Measure}
use Rattle.numbers.specs.declared.Unit.TheVariants.{Count, Megawatt, Euro}
use Rattle.numbers.specs.Numerals.{Digit, AllDigits, number_on, minus_text, point_text, signed_as}
use Rattle.numbers.specs.Numerals.Power.{bare}
use Rattle.numbers.specs.Printing.{is_below, shown_size, shown}
use Rattle.numbers.specs.Reading.{scale_of, Means, InRange, Answers}
use Rattle.numbers.proofs.Laws.{own}
use Rattle.numbers.proofs.Bodies.{number_on_append}

sign_is : (z : ℤ) → z ≡ signed_as (is_below z) (nat_abs z)
sign_is (pos n) = refl
sign_is (negsuc n) = refl

minus_length : (b : Bool) → length (minus_text b) ≤ 1
minus_length true = omega arith
minus_length false = omega arith

point_length : (ds : List ℕ) → length (point_text ds) ≤ length ds + 1
point_length [] = omega arith
point_length (d ∷ ds) = omega arith

-- a sign, a whole part w and the digits ds
module _ (unit : Measure) (z : ℤ) (few : nat_abs z ≤ 2 ^ 31) where
  written : (w : ℕ) (ds bs : List ℕ) → w ≤ nat_abs z → AllDigits ds → length ds ≡ scale_of unit → length ds ≤ 2 → number_on w ds ≡ nat_abs z → bs ≡ minus_text (is_below z) ++ (decimal w ++ point_text ds) → Means bs unit z
  written w ds bs le digits long short number e =
      let big : w < 2 ^ 64 = omega arith in
      let whole : number_on 0 (decimal w) ≡ w = digits_value-decimal own w big in
      let l : length (decimal w) ≤ 10 = length-decimal-le 10 w (omega arith) (omega arith) big in
      let k : length bs ≤ 16 = omega (arith, minus_length (is_below z), point_length ds, simp length-append at (ap length e)) in
      record {
        numeral = record { negative = is_below z; whole = decimal w; decimals = ds; tail = bare };
        size = nat_abs z;
        writes = (
          k,
          ((decimal_nonempty w big, digits_decimal own w big), digits, tt),
          ap (λ x. minus_text (is_below z) ++ (decimal w ++ x)) (append-nil (point_text ds)) ∙ sym e,
        );
        counts = ap (λ x. x * 10 ^ (0 + scale_of unit)) (number_on_append 0 (decimal w) ds ∙ ap (λ x. number_on x ds) whole ∙ number) ∙ ap (λ x. nat_abs z * 10 ^ (0 + x)) (sym long);
        value = sign_is z;
      }

digit_byte : (d : ℕ) → d < 10 → Digit (48 + d)
digit_byte d h = (omega arith, omega arith)

pub printed : (unit : Measure) (z : ℤ) → nat_abs z ≤ 2 ^ 31 → Means (shown unit z) unit z
printed Count z few = written Count z few (nat_abs z) [] _ (omega arith) tt refl (omega arith) refl (ap (λ x. minus_text (is_below z) ++ x) (sym (append-nil (decimal (nat_abs z)))))
printed Megawatt z few =
    let n = nat_abs z in
    let d : n % 10 < 10 = omega arith in
    written Megawatt z few (n / 10) ((48 + n % 10) ∷ []) _ (omega arith) (digit_byte _ d, tt) refl (omega arith) (omega arith)
    (ap (λ x. minus_text (is_below z) ++ (decimal (n / 10) ++ (46 ∷ x))) (decimal_digit _ d))
printed Euro z few =
    let n = nat_abs z in
    let d : n % 10 < 10 = omega arith in
    let t : n / 10 % 10 < 10 = omega arith in
    written Euro z few (n / 100) ((48 + n / 10 % 10) ∷ (48 + n % 10) ∷ []) _ (omega arith) (digit_byte _ t, (digit_byte _ d, tt)) refl (omega arith) (omega arith)
    (ap (λ x. minus_text (is_below z) ++ (decimal (n / 100) ++ (46 ∷ (x ++ decimal (n % 10))))) (decimal_digit _ t)
    ∙ ap (λ x. minus_text (is_below z) ++ (decimal (n / 100) ++ (46 ∷ (48 + n / 10 % 10) ∷ x))) (decimal_digit _ d))

size_few : (sign : Bool) (z : ℤ) → InRange sign z → nat_abs z ≤ 2 ^ 31
size_few true z r = omega (arith, ints)
size_few false z r = omega (arith, ints)

pub back : (unit : Measure) (sign : Bool) (z : ℤ) → InRange sign z → Answers (shown unit z) unit sign (Ok z)
back unit sign z r = (printed unit z (size_few sign z r), r)

-- ---- ASCII

minus_ascii : (b : Bool) → IsAscii (minus_text b)
minus_ascii true = IsAscii-cons 45 [] (omega arith) IsAscii-nil
minus_ascii false = IsAscii-nil

-- a point and more
after_point : (bs : List ℕ) → IsAscii bs → IsAscii (codes "." ++ bs)
after_point bs h = IsAscii-cons 46 bs (omega arith) h

size_ascii : (unit : Measure) (n : ℕ) → n ≤ 2 ^ 31 → IsAscii (shown_size unit n)
size_ascii Count n few = IsAscii-decimal n (omega arith)
size_ascii Megawatt n few =
    IsAscii-append (decimal (n / 10)) _ (IsAscii-decimal (n / 10) (omega arith))
    (after_point (decimal (n % 10)) (IsAscii-decimal (n % 10) (omega arith)))
size_ascii Euro n few =
    IsAscii-append (decimal (n / 100)) _ (IsAscii-decimal (n / 100) (omega arith))
    (after_point (decimal (n / 10 % 10) ++ decimal (n % 10))
    (IsAscii-append (decimal (n / 10 % 10)) (decimal (n % 10)) (IsAscii-decimal (n / 10 % 10) (omega arith)) (IsAscii-decimal (n % 10) (omega arith))))

pub shown_ascii : (unit : Measure) (sign : Bool) (z : ℤ) → InRange sign z → IsAscii (shown unit z)
shown_ascii unit sign z r = IsAscii-append (minus_text (is_below z)) (shown_size unit (nat_abs z)) (minus_ascii (is_below z)) (size_ascii unit (nat_abs z) (size_few sign z r))
