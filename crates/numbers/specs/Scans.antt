-- What the steps of reading a word find: for the contracts of private functions, and `Fitted` for `Figure`.
use Rattle.std.specs.Prelude.{◌≡◌, ℕ, suc, ◌*◌, ◌^◌, ◌<◌, Bool, List, ◌∷◌, ◌++◌, length, ℤ, pos, negsuc, ◌+ℤ◌, ◌≤ℤ◌, Ok, Err, Result, ◌≢◌, slice_index}
use Rattle.numbers.specs.declared.Unit.{Unit as Measure}
use Rattle.numbers.specs.declared.NumberFault.{NumberFault}
use Rattle.numbers.specs.declared.NumberFault.TheVariants.{Form, Fraction, Range}
use Rattle.numbers.specs.Numerals.{Digit, AllDigits, number_on, lowers, Power, Numeral, point_text, power_text, body_text, ProperPower, Proper, Counts, mantissa, places, signed_as}
use Rattle.numbers.specs.Numerals.Power.{bare, power}
use Rattle.numbers.specs.Reading.{scale_of, WellFormed, Means, InRange}

-- no digit comes first; b does not
abbrev pub NoDigit : List ℕ → Type 0
NoDigit s = Digit (slice_index s 0) → ⊥

abbrev pub Lacks : ℕ → List ℕ → Type 0
Lacks b s = slice_index s 0 ≡ b → ⊥

-- front is all the digits at the front of s
pub record Splits (s front rest : List ℕ) : Type 0 where
  pub joined : s ≡ front ++ rest
  pub digits : AllDigits front
  pub stops : NoDigit rest

-- ds is what stands after a point at the front of s
pub record Pointed (s ds rest : List ℕ) : Type 0 where
  pub joined : s ≡ point_text ds ++ rest
  pub digits : AllDigits ds
  pub stops : NoDigit rest
  pub pointless : length ds ≡ 0 → Lacks 46 rest

-- s is a point with no digit after it
pub record LonePoint (s : List ℕ) : Type 0 where
  pub rest : List ℕ
  pub joined : s ≡ 46 ∷ rest
  pub stops : NoDigit rest

-- the power of ten that an exponent writes
abbrev pub exponent : Power → ℤ
exponent bare = pos 0
exponent (power letter mark ds) = signed_as (lowers mark) (number_on 0 ds)

-- s is an exponent, or empty, that writes the power e of ten
pub record PowerIs (s : List ℕ) (e : ℤ) : Type 0 where
  pub tail : Power
  pub proper : ProperPower tail
  pub joined : power_text tail ≡ s
  pub value : e ≡ exponent tail

abbrev pub NoPower : List ℕ → Type 0
NoPower s = (t : Power) → ProperPower t → power_text t ≢ s

-- an exponent of at most 16 bytes, with room to move the point
abbrev pub Near : ℤ → Type 0
Near e = (negsuc (2 ^ 60) ≤ℤ e) × (e ≤ℤ pos (2 ^ 60))

-- s writes, with no sign, a number that is m * 10 ^ e
pub record BodyIs (s : List ℕ) (m : ℕ) (e : ℤ) : Type 0 where
  pub numeral : Numeral
  pub proper : Proper numeral
  pub joined : body_text numeral ≡ s
  pub number : m ≡ mantissa numeral
  pub power : e +ℤ pos (places numeral) ≡ exponent numeral.tail

abbrev pub NoBody : List ℕ → Type 0
NoBody s = (w : Numeral) → Proper w → body_text w ≢ s

-- n is m * 10 ^ k
abbrev pub Lifted : ℕ → ℤ → ℕ → Type 0
Lifted m (pos k) n = n ≡ m * 10 ^ k
Lifted m (negsuc k) n = n * 10 ^ suc k ≡ m

-- that is no whole number, or too large whatever its sign
abbrev pub Unlifted : ℕ → ℤ → NumberFault → Type 0
Unlifted m k Form = ⊥
Unlifted m k Fraction = (n : ℕ) → Lifted m k n → ⊥
Unlifted m k Range = (n : ℕ) × (Lifted m k n × (2147483648 < n))

-- s writes, with no sign, z units
pub record SizeIs (s : List ℕ) (unit : Measure) (z : ℤ) : Type 0 where
  pub numeral : Numeral
  pub proper : Proper numeral
  pub joined : body_text numeral ≡ s
  pub size : ℕ
  pub counts : Counts numeral (scale_of unit) size
  pub value : z ≡ pos size

-- s writes no number of units at most 2 ^ 31
abbrev pub NoSize : List ℕ → Measure → NumberFault → Type 0
NoSize s unit Form = NoBody s
NoSize s unit Fraction = (w : Numeral) × (Proper w × (body_text w ≡ s) × ((n : ℕ) → Counts w (scale_of unit) n → ⊥))
NoSize s unit Range = (n : ℕ) × (SizeIs s unit (pos n) × (2147483648 < n))

-- the word bs is no number of units at most 2 ^ 31, apart from its sign
abbrev pub Unread : List ℕ → Measure → NumberFault → Type 0
Unread bs unit Form = WellFormed bs → ⊥
Unread bs unit Fraction = WellFormed bs × ((z : ℤ) → Means bs unit z → ⊥)
Unread bs unit Range = (b : Bool) × (n : ℕ) × (Means bs unit (signed_as b n) × (2147483648 < n))

-- r is y where that is in range
abbrev pub Fitted : Bool → ℤ → Result ℤ NumberFault → Type 0
Fitted sign y (Ok z) = (z ≡ y) × InRange sign z
Fitted sign y (Err e) = (e ≡ Range) × (InRange sign y → ⊥)
