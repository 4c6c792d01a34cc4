-- How the parts of a number are put together, and that they come apart in one way.
use Rattle.std.proofs.Common.{◌≡◌, ℕ, ◌+◌, ◌-◌, ◌*◌, ◌^◌, ◌<◌, ◌≤◌, Bool, true, false, List, [], ◌∷◌, ◌++◌, length, get_or, ℤ, pos, negsuc, ◌+ℤ◌, ◌≤ℤ◌, append-nil, sym, refl, ap, ◌∙◌, subst, mul-le-mul_right, arith, lit≤, length-append, pow-add}
use native.Mathlib.Nat.{pow-le-pow_right}
use Rattle.std.proofs.lemmas.Int.{ints}
use Rattle.std.proofs.lemmas.Str.Parse.{digits_value_short}
use Rattle.numbers.specs.Numerals.{Letter, letter_byte, AllDigits, SomeDigits, number_on, Mark, Power, Numeral, mark_text, point_text, power_text, body_text, ProperPower, Proper, lowers, signed_as}
use Rattle.numbers.specs.Numerals.Letter.{small, capital}
use Rattle.numbers.specs.Numerals.Mark.{none, plus, minus}
use Rattle.numbers.specs.Numerals.Power.{bare, power}
use Rattle.numbers.specs.Scans.{NoDigit, Lacks, Splits, Pointed, LonePoint, exponent, PowerIs, NoPower, BodyIs, NoBody}
use Rattle.numbers.proofs.Laws.{heads, tails, own}
use Rattle.numbers.proofs.Scanned.{digit_first}

-- numbers
pub number_on_append : (n : ℕ) (xs ys : List ℕ) → number_on n (xs ++ ys) ≡ number_on (number_on n xs) ys
number_on_append n [] ys = refl
number_on_append n (x ∷ xs) ys = number_on_append (n * 10 + (x - 48)) xs ys

pub room_for : (xs ys : List ℕ) (n : ℕ) → n ≡ number_on 0 xs → AllDigits xs → length xs + length ys ≤ 16 → (n + 1) * 10 ^ length ys ≤ 9223372036854775808
room_for xs ys n e a h =
    let l : number_on 0 xs < 10 ^ length xs = digits_value_short own xs (length xs) a (omega arith) in
    let q : (n + 1) * 10 ^ length ys ≤ 10 ^ length xs * 10 ^ length ys = mul-le-mul_right (10 ^ length ys) (omega arith) in
    let p : 10 ^ (length xs + length ys) ≤ 10 ^ 16 = pow-le-pow_right (omega arith) h in
    omega (arith, pow-add 10 (length xs) (length ys))

-- digits end where they end
pub one_split : (a b c d : List ℕ) → AllDigits a → NoDigit b → AllDigits c → NoDigit d → a ++ b ≡ c ++ d → (a ≡ c) × (b ≡ d)
one_split [] b [] d p q r s e = (refl, e)
one_split [] b (y ∷ c) d p q r s e = absurd (subst NoDigit e q r.0)
one_split (x ∷ a) b [] d p q r s e = absurd (subst NoDigit (sym e) s p.0)
one_split (x ∷ a) b (y ∷ c) d p q r s e =
    let t = one_split a b c d p.1 q r.1 s (tails _ _ _ _ e) in
    (ap (λ l. x ∷ l) t.0 ∙ ap (λ z. z ∷ c) (heads _ _ _ _ e), t.1)

-- a text of digits alone has no rest, and the other way round
pub only_digits : (s ds rest : List ℕ) → Splits s ds rest → SomeDigits s → (s ≡ ds) × ([] ≡ rest)
only_digits s ds rest h d = one_split s [] ds rest d.1 (λ x. omega arith) h.digits h.stops (append-nil s ∙ h.joined)

pub no_rest : (s ds rest : List ℕ) → Splits s ds rest → length rest ≡ 0 → s ≡ ds
no_rest s ds [] h e = h.joined ∙ append-nil ds
no_rest s ds (x ∷ rest) h e = absurd (omega arith)

letter_high : (l : Letter) → 58 ≤ letter_byte l
letter_high small = lit≤ tt
letter_high capital = lit≤ tt

pub no_digit_power : (t : Power) → ProperPower t → NoDigit (power_text t)
no_digit_power bare p = λ d. omega arith
no_digit_power (power l m ds) p = λ d. omega (arith, letter_high l)

pub no_digit_point : (ds : List ℕ) (t : Power) → ProperPower t → NoDigit (point_text ds ++ power_text t)
no_digit_point [] t p = no_digit_power t p
no_digit_point (d ∷ ds) t p = λ g. omega arith

pub no_point_power : (t : Power) → Lacks 46 (power_text t)
no_point_power bare = λ e. omega arith
no_point_power (power l m ds) = λ e. omega (arith, letter_high l)

pub body_lacks : (w : Numeral) → Proper w → Lacks 45 (body_text w)
body_lacks w p = λ e. omega (arith, digit_first w.whole (point_text w.decimals ++ power_text w.tail) p.0)

lone_not : (ds : List ℕ) (t : Power) (r : List ℕ) → AllDigits ds → NoDigit r → point_text ds ++ power_text t ≡ 46 ∷ r → ⊥
lone_not [] t r a n e = no_point_power t (ap (λ x. get_or x 0 0) e)
lone_not (d ∷ ds) t r a n e = subst NoDigit (sym (tails _ _ _ _ e)) n a.0

pub tail_at : (ds : List ℕ) (t : Power) (es r : List ℕ) → AllDigits ds → ProperPower t → AllDigits es → NoDigit r → (length es ≡ 0 → Lacks 46 r) → point_text ds ++ power_text t ≡ point_text es ++ r → (ds ≡ es) × (power_text t ≡ r)
tail_at [] t [] r a p b n q e = (refl, e)
tail_at [] t (x ∷ es) r a p b n q e = absurd (no_point_power t (ap (λ x. get_or x 0 0) e))
tail_at (d ∷ ds) t [] r a p b n q e = absurd (q refl (ap (λ x. get_or x 0 0) (sym e)))
tail_at (d ∷ ds) t (x ∷ es) r a p b n q e = one_split (d ∷ ds) (power_text t) (x ∷ es) r a (no_digit_power t p) b n (tails _ _ _ _ e)

pub point_length : (ds : List ℕ) → length ds ≤ length (point_text ds)
point_length [] = omega arith
point_length (d ∷ ds) = omega arith

-- a word with no sign whose whole part was found
module _ (s whole rest : List ℕ) (h : Splits s whole rest) where
  parts_at : (w : Numeral) → Proper w → body_text w ≡ s → (w.whole ≡ whole) × (point_text w.decimals ++ power_text w.tail ≡ rest)
  parts_at w p e = one_split w.whole _ whole rest p.0.1 (no_digit_point w.decimals w.tail p.2) h.digits h.stops (e ∙ h.joined)

  pub no_decimals : LonePoint rest → NoBody s
  no_decimals l w p e = lone_not w.decimals w.tail l.rest p.1 l.stops ((parts_at w p e).1 ∙ l.joined)

  module _ (ds r : List ℕ) (q : Pointed rest ds r) where
    pub no_exponent : NoPower r → NoBody s
    no_exponent n w p e = n w.tail p.2 (tail_at w.decimals w.tail ds r p.1 p.2 q.digits q.stops q.pointless ((parts_at w p e).1 ∙ q.joined)).1

    pub body : (m : ℕ) (e k : ℤ) → 0 < length whole → PowerIs r k → m ≡ number_on (number_on 0 whole) ds → e +ℤ pos (length ds) ≡ k → BodyIs s m e
    body m e k z t g f = record {
      numeral = record { negative = false; whole = whole; decimals = ds; tail = t.tail };
      proper = ((z, h.digits), q.digits, t.proper);
      joined = ap (λ x. whole ++ (point_text ds ++ x)) t.joined ∙ ap (λ x. whole ++ x) (sym q.joined) ∙ sym h.joined;
      number = g ∙ sym (number_on_append 0 whole ds);
      power = f ∙ t.value;
    }

    pub lengths : length whole + (length ds + length r) ≤ length s
    lengths = omega (arith, point_length ds, simp length-append at (ap length h.joined), simp length-append at (ap length q.joined))

mark_length : (m : Mark) (ds : List ℕ) → length ds ≤ length (mark_text m ++ ds)
mark_length none ds = omega arith
mark_length plus ds = omega arith
mark_length minus ds = omega arith

signed_small : (b : Bool) (n m : ℕ) → n < m → (negsuc m ≤ℤ signed_as b n) × (signed_as b n ≤ℤ pos m)
signed_small true n m h = (omega (arith, ints), omega (arith, ints))
signed_small false n m h = (omega (arith, ints), omega (arith, ints))

pub power_small : (t : Power) → ProperPower t → length (power_text t) ≤ 16 → (negsuc (10 ^ 16) ≤ℤ exponent t) × (exponent t ≤ℤ pos (10 ^ 16))
power_small bare p h = (omega (arith, ints), omega (arith, ints))
power_small (power l m ds) p h = signed_small (lowers m) (number_on 0 ds) (10 ^ 16) (digits_value_short own ds 16 p.1 (omega (arith, mark_length m ds)))
