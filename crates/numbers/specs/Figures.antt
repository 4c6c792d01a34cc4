-- What a type of counts keeps of the counts, and that 32 bits with a sign and 31 bits without one keep it.
use Rattle.std.specs.Prelude.{◌≡◌, ℕ, ℤ, pos, Ok, Err, Result, refl}
use Rattle.numbers.specs.declared.NumberFault.{NumberFault}
use Rattle.numbers.specs.Reading.{as_signed}

pub record FigureLaws {F : Type 0} (value : F → ℤ) (answer : Result F NumberFault → Result ℤ NumberFault) : Type 0 where
  pub found : (x : F) → answer (Ok x) ≡ Ok (value x)
  pub refused : (e : NumberFault) → answer (Err e) ≡ Err e
  pub once : (q r : Result F NumberFault) → answer q ≡ answer r → q ≡ r

pub signed_laws : FigureLaws {F = ℤ} (λ z. z) (λ r. r)
signed_laws = record { found = λ x. refl; refused = λ e. refl; once = λ q r e. e }

same_unsigned : (q r : Result ℕ NumberFault) → as_signed q ≡ as_signed r → q ≡ r
same_unsigned (Ok m) (Ok n) e = cc
same_unsigned (Ok m) (Err f) e = cc
same_unsigned (Err f) (Ok n) e = cc
same_unsigned (Err f) (Err g) e = cc

pub unsigned_laws : FigureLaws {F = ℕ} (λ n. pos n) as_signed
unsigned_laws = record { found = λ x. refl; refused = λ e. refl; once = same_unsigned }
