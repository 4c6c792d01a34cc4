-- Words that are written out. The exponent's digits stay a variable, so that no power of ten is worked out.
use Rattle.std.proofs.Common.{◌≡◌, ℕ, zero, suc, ◌+◌, ◌*◌, ◌^◌, ◌≤◌, Bool, true, false, List, [], ◌∷◌, length, pos, Ok, Err, codes, sym, refl, suc-mul, zero-mul, mul-one, arith, lit<, lit≤}
use native.Mathlib.Nat.{pow-le-pow_right}
use Rattle.std.proofs.lemmas.Int.{ints}
use Rattle.numbers.specs.declared.Unit.TheVariants.{Euro}
use Rattle.numbers.specs.declared.NumberFault.TheVariants.{Form, Fraction, Range}
use Rattle.numbers.specs.Numerals.{Digit, SomeDigits, number_on, Numeral, Writes}
use Rattle.numbers.specs.Numerals.Letter.{small, capital}
use Rattle.numbers.specs.Numerals.Mark.{none, minus}
use Rattle.numbers.specs.Numerals.Power.{bare, power}
use Rattle.numbers.specs.Scans.{Splits, LonePoint}
use Rattle.numbers.specs.Reading.{InRange, Answers}
use Rattle.numbers.specs.Examples.{Examples}
use Rattle.numbers.proofs.Bodies.{no_decimals}
use Rattle.numbers.proofs.Once.{means_at, unread}

nought : Digit 48
nought = (lit≤ tt, lit≤ tt)

one : Digit 49
one = (lit≤ tt, lit≤ tt)

two : Digit 50
two = (lit≤ tt, lit≤ tt)

three : Digit 51
three = (lit≤ tt, lit≤ tt)

nine : Digit 57
nine = (lit≤ tt, lit≤ tt)

nines : SomeDigits (codes "999999999")
nines = (lit< tt, (nine, (nine, (nine, (nine, (nine, (nine, (nine, (nine, (nine, tt))))))))))

no_hundred : (n x : ℕ) → 1000 ≤ x → 1 * 10 ^ 2 ≡ n * x → ⊥
no_hundred zero x h e = omega (arith, zero-mul x)
no_hundred (suc n) x h e = omega (arith, suc-mul n x)

module _ (ds : List ℕ) (digits : SomeDigits ds) (short : length ds ≤ 13) where
  nothing : Answers (48 ∷ 101 ∷ ds) Euro true (Ok (pos 0))
  nothing = (
    record {
      numeral = record { negative = false; whole = 48 ∷ []; decimals = []; tail = power small none ds };
      size = 0;
      writes = (omega arith, ((lit< tt, (nought, tt)), tt, digits), refl);
      counts = zero-mul (10 ^ (number_on 0 ds + 2));
      value = refl;
    },
    (omega (arith, ints), omega (arith, ints)),
  )

  huge : 10 ≤ number_on 0 ds → Answers (49 ∷ 101 ∷ ds) Euro true (Err Range)
  huge h =
      let n = 1 * 10 ^ (number_on 0 ds + 2) in
      let k : 12 ≤ number_on 0 ds + 2 = omega arith in
      let p : 10 ^ 12 ≤ 10 ^ (number_on 0 ds + 2) = pow-le-pow_right (lit< tt) k in (
        pos n,
        (
          record {
            numeral = record { negative = false; whole = 49 ∷ []; decimals = []; tail = power small none ds };
            size = n;
            writes = (omega arith, ((lit< tt, (one, tt)), tt, digits), refl);
            counts = sym (mul-one n);
            value = refl;
          },
          λ r. omega (arith, ints, r.1),
        ),
      )

  tiny : 3 ≤ number_on 0 ds → Answers (49 ∷ 101 ∷ 45 ∷ ds) Euro true (Err Fraction)
  tiny h =
      let w : Numeral = record { negative = false; whole = 49 ∷ []; decimals = []; tail = power small minus ds } in
      let k : Writes (49 ∷ 101 ∷ 45 ∷ ds) w = (omega arith, ((lit< tt, (one, tt)), tt, digits), refl) in
      let j : 3 ≤ number_on 0 ds + 0 = omega arith in
      let p : 10 ^ 3 ≤ 10 ^ (number_on 0 ds + 0) = pow-le-pow_right (lit< tt) j in
      ((w, k), λ z m. no_hundred m.size (10 ^ (number_on 0 ds + 0)) p (means_at w k m))

unfinished : Answers (codes "1.") Euro true (Err Form)
unfinished p =
    let s : Splits (codes "1.") (codes "1") (codes ".") = record { joined = refl; digits = (one, tt); stops = λ d. omega (arith, d.0) } in
    let l : LonePoint (codes ".") = record { rest = []; joined = refl; stops = λ d. omega arith } in
    unread false (codes "1.") Euro (lit≤ tt) (λ e. λ z. omega arith) Form (no_decimals _ _ _ s l) p

minus_nought : (sign : Bool) → InRange sign (pos 0) → Answers (codes "-0") Euro sign (Ok (pos 0))
minus_nought sign r = (
  record {
    numeral = record { negative = true; whole = codes "0"; decimals = []; tail = bare };
    size = 0;
    writes = (lit≤ tt, ((lit< tt, (nought, tt)), tt, tt), refl);
    counts = refl;
    value = refl;
  },
  r,
)

pub examples : Examples
examples = (
  (
    record {
      numeral = record { negative = false; whole = codes "1"; decimals = []; tail = power capital minus (codes "2") };
      size = 1;
      writes = (lit≤ tt, ((lit< tt, (one, tt)), tt, (lit< tt, (two, tt))), refl);
      counts = refl;
      value = refl;
    },
    (omega (arith, ints), omega (arith, ints)),
  ),
  (
    record {
      numeral = record { negative = false; whole = codes "12"; decimals = []; tail = power capital none (codes "2") };
      size = 120000;
      writes = (lit≤ tt, ((lit< tt, (one, (two, tt))), tt, (lit< tt, (two, tt))), refl);
      counts = refl;
      value = refl;
    },
    (omega (arith, ints), omega (arith, ints)),
  ),
  minus_nought true (omega (arith, ints), omega (arith, ints)),
  minus_nought false (omega (arith, ints), omega (arith, ints)),
  tiny (codes "3") (lit< tt, (three, tt)) (lit≤ tt) (lit≤ tt),
  unfinished,
  nothing (codes "999999999") nines (lit≤ tt),
  huge (codes "999999999") nines (lit≤ tt) (lit≤ tt),
  tiny (codes "999999999") nines (lit≤ tt) (lit≤ tt),
)
