-- What a word is read as, in a unit.
use Rattle.std.specs.Prelude.{◌≡◌, ℕ, Bool, true, false, List, ℤ, pos, negsuc, ◌≤ℤ◌, Ok, Err, Result}
use Rattle.numbers.specs.declared.Unit.{Unit as Measure}
use Rattle.numbers.specs.declared.Unit.TheVariants.{Count, Megawatt, Euro}
use Rattle.numbers.specs.declared.NumberFault.{NumberFault}
use Rattle.numbers.specs.declared.NumberFault.TheVariants.{Form, Fraction, Range}
use Rattle.numbers.specs.Numerals.{Numeral, Writes, Counts, signed_as}

-- the decimals of a unit: a MW is ten units, a euro a hundred
abbrev pub scale_of : Measure → ℕ
scale_of Count = 0
scale_of Megawatt = 1
scale_of Euro = 2

-- the number of a refusal
abbrev pub fault_number : NumberFault → ℕ
fault_number Form = 18
fault_number Fraction = 19
fault_number Range = 20

abbrev pub WellFormed : List ℕ → Type 0
WellFormed bs = (w : Numeral) × Writes bs w

-- the word bs is z units
pub record Means (bs : List ℕ) (unit : Measure) (z : ℤ) : Type 0 where
  pub numeral : Numeral
  pub size : ℕ
  pub writes : Writes bs numeral
  pub counts : Counts numeral (scale_of unit) size
  pub value : z ≡ signed_as numeral.negative size

-- 32 signed bits, or not below nought where no sign is allowed
abbrev pub lowest : Bool → ℤ
lowest true = negsuc 2147483647
lowest false = pos 0

abbrev pub InRange : Bool → ℤ → Type 0
InRange sign z = (lowest sign ≤ℤ z) × (z ≤ℤ pos 2147483647)

abbrev pub Answers : List ℕ → Measure → Bool → Result ℤ NumberFault → Type 0
Answers bs unit sign (Ok z) = Means bs unit z × InRange sign z
Answers bs unit sign (Err Form) = WellFormed bs → ⊥
Answers bs unit sign (Err Fraction) = WellFormed bs × ((z : ℤ) → Means bs unit z → ⊥)
Answers bs unit sign (Err Range) = (z : ℤ) × (Means bs unit z × (InRange sign z → ⊥))

-- an answer without a sign as one with a sign
abbrev pub as_signed : Result ℕ NumberFault → Result ℤ NumberFault
as_signed (Ok n) = Ok (pos n)
as_signed (Err e) = Err e
