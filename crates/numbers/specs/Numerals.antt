-- How a number is written, and how many units it is.
use Rattle.std.specs.Prelude.{◌≡◌, ℕ, ◌+◌, ◌-◌, ◌*◌, ◌^◌, ◌<◌, ◌≤◌, Bool, true, false, cond, List, [], ◌∷◌, ◌++◌, length, ℤ, pos, neg_ℤ, codes}

-- the bytes of 0 to 9
abbrev pub Digit : ℕ → Type 0
Digit c = (48 ≤ c) × (c ≤ 57)

abbrev pub AllDigits : List ℕ → Type 0
AllDigits [] = Unit {0}
AllDigits (c ∷ cs) = Digit c × AllDigits cs

abbrev pub SomeDigits : List ℕ → Type 0
SomeDigits ds = (0 < length ds) × AllDigits ds

-- the number that digits write, where n stands before them
abbrev pub number_on : ℕ → List ℕ → ℕ
number_on n [] = n
number_on n (c ∷ cs) = number_on (n * 10 + (c - 48)) cs

pub data Letter : Type 0 where
  small : Letter
  capital : Letter

pub data Mark : Type 0 where
  none : Mark
  plus : Mark
  minus : Mark

-- what may follow the digits: nothing, or an exponent
pub data Power : Type 0 where
  bare : Power
  power : Letter → Mark → List ℕ → Power

-- a number as it is written; with no decimals it has no point
pub record Numeral : Type 0 where
  pub negative : Bool
  pub whole : List ℕ
  pub decimals : List ℕ
  pub tail : Power

abbrev pub minus_text : Bool → List ℕ
minus_text true = codes "-"
minus_text false = []

abbrev pub point_text : List ℕ → List ℕ
point_text [] = []
point_text (d ∷ ds) = codes "." ++ (d ∷ ds)

-- the bytes of e and E
abbrev pub letter_byte : Letter → ℕ
letter_byte small = 101
letter_byte capital = 69

abbrev pub mark_text : Mark → List ℕ
mark_text none = []
mark_text plus = codes "+"
mark_text minus = codes "-"

abbrev pub power_text : Power → List ℕ
power_text bare = []
power_text (power letter mark ds) = letter_byte letter ∷ (mark_text mark ++ ds)

abbrev pub body_text : Numeral → List ℕ
body_text w = w.whole ++ (point_text w.decimals ++ power_text w.tail)

abbrev pub text : Numeral → List ℕ
text w = minus_text w.negative ++ body_text w

abbrev pub ProperPower : Power → Type 0
ProperPower bare = Unit {0}
ProperPower (power letter mark ds) = SomeDigits ds

abbrev pub Proper : Numeral → Type 0
Proper w = SomeDigits w.whole × AllDigits w.decimals × ProperPower w.tail

-- bs is a word of at most 16 bytes that writes w
abbrev pub Writes : List ℕ → Numeral → Type 0
Writes bs w = (length bs ≤ 16) × Proper w × (text w ≡ bs)

-- all the digits as one number, and how many of them stand after the point
abbrev pub mantissa : Numeral → ℕ
mantissa w = number_on 0 (w.whole ++ w.decimals)

abbrev pub places : Numeral → ℕ
places w = length w.decimals

-- whether an exponent with that sign lowers the number
abbrev pub lowers : Mark → Bool
lowers none = false
lowers plus = false
lowers minus = true

-- the exponent is the difference of rise and fall, one of which is 0
abbrev pub rise : Power → ℕ
rise bare = 0
rise (power letter mark ds) = cond (lowers mark) 0 (number_on 0 ds)

abbrev pub fall : Power → ℕ
fall bare = 0
fall (power letter mark ds) = cond (lowers mark) (number_on 0 ds) 0

-- apart from its sign w is n units, of which 10 ^ scale make one:
-- n is mantissa * 10 ^ (rise - fall - places) * 10 ^ scale
abbrev pub Counts : Numeral → ℕ → ℕ → Type 0
Counts w scale n = mantissa w * 10 ^ (rise w.tail + scale) ≡ n * 10 ^ (fall w.tail + places w)

abbrev pub signed_as : Bool → ℕ → ℤ
signed_as true n = neg_ℤ (pos n)
signed_as false n = pos n
