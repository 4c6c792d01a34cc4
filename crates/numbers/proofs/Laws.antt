-- Lists, digits and powers of ten.
use Rattle.std.proofs.Common.{◌≡◌, ℕ, suc, ◌+◌, ◌-◌, ◌*◌, ◌^◌, ◌<◌, ◌≤◌, List, ◌∷◌, length, get_or, drop, sym, ap, ◌∙◌, subst, mul-le-mul_right, mul_assoc, mul_comm, mul-le-mul_left, pow-suc, arith, rules}
use native.Mathlib.Nat.{one-le-pow}
use Rattle.std.proofs.lemmas.List.{drop_more, drop_all}
use Rattle.std.specs.Int.{IsInRange}
use Rattle.std.specs.Str.Parse.{digits_value}
use Rattle.std.proofs.lemmas.Str.Parse.{IsNumeralModel, numerals_by_fold, numerals_by_value, tells_by_index}
use Rattle.numbers.specs.Numerals.{Digit, AllDigits, number_on}

pub heads : (b c : ℕ) (s t : List ℕ) → ◌≡◌ {A = List ℕ} (b ∷ s) (c ∷ t) → b ≡ c
heads b c s t e = cc

pub tails : (b c : ℕ) (s t : List ℕ) → ◌≡◌ {A = List ℕ} (b ∷ s) (c ∷ t) → s ≡ t
tails b c s t e = cc

pub ten_pos : (k : ℕ) → 0 < 10 ^ k
ten_pos k = one-le-pow k 10 (omega arith)

-- the library's words for digits and the number that they write
pub own : IsNumeralModel AllDigits (number_on 0)
own = numerals_by_fold _ (search rules) number_on (search rules)

by_index : IsNumeralModel (λ ds. (i : ℕ) → i < length ds → IsInRange 48 57 (get_or ds i 0)) (digits_value 10)
by_index = numerals_by_value _ tells_by_index

pub digits_from : (ds : List ℕ) → ((i : ℕ) → i < length ds → Digit (get_or ds i 0)) → AllDigits ds
digits_from ds f = own.from ds (by_index.to ds f)

-- what is left to read of a number, with room for it
pub record Left (m : ℕ) (n : ℕ) (ds : List ℕ) : Type 0 where
  pub same : number_on n ds ≡ m
  pub digits : AllDigits ds
  pub room : (n + 1) * 10 ^ length ds ≤ 2 ^ 63

room_step : (n d k : ℕ) → d ≤ 9 → (n + 1) * 10 ^ suc k ≤ 2 ^ 63 → (n * 10 + d + 1) * 10 ^ k ≤ 2 ^ 63
room_step n d k h r =
    let p : 10 ^ suc k ≡ 10 ^ k * 10 = pow-suc 10 k in
    let q : (n * 10 + d + 1) * 10 ^ k ≤ ((n + 1) * 10) * 10 ^ k = mul-le-mul_right (10 ^ k) (omega arith) in
    let e : ((n + 1) * 10) * 10 ^ k ≡ (n + 1) * 10 ^ suc k = mul_assoc (n + 1) 10 (10 ^ k) ∙ ap (λ x. (n + 1) * x) (mul_comm 10 (10 ^ k) ∙ sym p) in
    omega arith

pub room_now : (n k : ℕ) → (n + 1) * 10 ^ k ≤ 2 ^ 63 → n + 1 ≤ 2 ^ 63
room_now n k r =
    let p : (n + 1) * 1 ≤ (n + 1) * 10 ^ k = mul-le-mul_left (n + 1) (ten_pos k) in
    omega arith

pub left_step : (m n c : ℕ) (cs : List ℕ) → Left m n (c ∷ cs) → Digit c × Left m (n * 10 + (c - 48)) cs
left_step m n c cs h = (
  h.digits.0,
  record {
    same = h.same;
    digits = h.digits.1;
    room = room_step n (c - 48) (length cs) (omega (arith, h.digits.0)) h.room;
  },
)

pub left_more : (m n : ℕ) (s : List ℕ) (i : ℕ) → i < length s → Left m n (drop i s) → Digit (get_or s i 0) × Left m (n * 10 + (get_or s i 0 - 48)) (drop (i + 1) s)
left_more m n s i h l = left_step m n _ _ (subst (Left m n) (drop_more s i 0 h) l)

pub left_all : (m n : ℕ) (s : List ℕ) (i : ℕ) → length s ≤ i → Left m n (drop i s) → n ≡ m
left_all m n s i h l = (subst (Left m n) (drop_all i s h) l).same
