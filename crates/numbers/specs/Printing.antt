-- How a count of units is printed: a minus where it is below nought, the whole part, a point and as many digits as the unit has decimals.
use Rattle.std.specs.Prelude.{ℕ, ◌/◌, ◌%◌, Bool, true, false, List, ◌++◌, ℤ, pos, negsuc, codes, decimal, unsigned_abs}
use Rattle.numbers.specs.declared.Unit.{Unit as Measure}
use Rattle.numbers.specs.declared.Unit.TheVariants.{Count, Megawatt, Euro}
use Rattle.numbers.specs.declared.text.Shown.{Shown}
use Rattle.numbers.specs.Numerals.{minus_text}

abbrev pub is_below : ℤ → Bool
is_below (pos n) = false
is_below (negsuc n) = true

-- n units, without a sign
abbrev pub shown_size : Measure → ℕ → List ℕ
shown_size Count n = decimal n
shown_size Megawatt n = decimal (n / 10) ++ (codes "." ++ decimal (n % 10))
shown_size Euro n = decimal (n / 100) ++ (codes "." ++ (decimal (n / 10 % 10) ++ decimal (n % 10)))

abbrev pub shown : Measure → ℤ → List ℕ
shown unit z = minus_text (is_below z) ++ shown_size unit (unsigned_abs z)

-- the bytes of a printed count
abbrev pub text_of : Shown → List ℕ
text_of s = s.text.bytes
