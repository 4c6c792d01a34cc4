-- What the steps of a scan find, and that nothing else fits.
use Rattle.std.proofs.Common.{◌≡◌, ℕ, zero, suc, ◌-◌, ◌*◌, ◌^◌, ◌<◌, ◌≤◌, Bool, true, false, ◌⊎◌, List, [], ◌∷◌, ◌++◌, length, get_or, take, drop, get_or-take, Some, None, Option, ℤ, pos, sym, refl, ap, ◌∙◌, subst, inl, inr, arith, lit<, take-append-drop, MatchOption}
use native.Mathlib.Nat.{pow-le-pow_right}
use Rattle.std.specs.Char.{is_ascii_digit}
use Rattle.std.specs.List.{prefix_len}
use Rattle.std.proofs.lemmas.Bool.Decides.{nat_tests}
use Rattle.std.proofs.lemmas.List.{take_all}
use Rattle.std.proofs.lemmas.List.Folds.{length-prefix_len}
use Rattle.std.proofs.lemmas.List.Sums.{prefix_len-le-length, prefix_len_passes, prefix_len_stops}
use Rattle.std.proofs.lemmas.Slice.{first_rest}
use Rattle.numbers.specs.Numerals.{Letter, letter_byte, Digit, AllDigits, SomeDigits, number_on, Mark, mark_text, minus_text, lowers, signed_as}
use Rattle.numbers.specs.Numerals.Letter.{small, capital}
use Rattle.numbers.specs.Numerals.Mark.{none, plus, minus}
use Rattle.numbers.specs.Numerals.Power.{bare, power}
use Rattle.numbers.specs.Scans.{NoDigit, Splits, Lacks, PowerIs, NoPower}
use Rattle.numbers.proofs.Laws.{heads, tails, digits_from}

-- what stands after the first byte, and after the first two
abbrev pub after : List ℕ → List ℕ
after s = take (length s - 1) (drop 1 s)

abbrev pub after_two : List ℕ → List ℕ
after_two s = take (length s - 2) (drop 2 s)

pub begins : (s : List ℕ) (b : ℕ) → 0 < length s → get_or s 0 0 ≡ b → s ≡ b ∷ after s
begins s b h e = first_rest s 0 h ∙ ap (λ x. x ∷ after s) e

goes_on : (s : List ℕ) (b : ℕ) → 2 ≤ length s → get_or s 1 0 ≡ b → after s ≡ b ∷ after_two s
goes_on [] b h e = absurd (omega arith)
goes_on (x ∷ []) b h e = absurd (omega arith)
goes_on (x ∷ y ∷ t) b h e = take_all _ (y ∷ t) (omega arith) ∙ ap (λ z. z ∷ t) e ∙ ap (λ z. b ∷ z) (sym (take_all _ t (omega arith)))

lacks_second : (s : List ℕ) (b : ℕ) → 0 < b → (get_or s 1 0 ≡ b → ⊥) → Lacks b (after s)
lacks_second [] b h f = λ e. omega arith
lacks_second (x ∷ []) b h f = λ e. omega arith
lacks_second (x ∷ y ∷ t) b h f = subst (Lacks b) (sym (goes_on (x ∷ y ∷ t) y (omega arith) refl)) f

pub no_digit_at : (s : List ℕ) (i : ℕ) → i ≤ length s → (i < length s → Digit (get_or s i 0) → ⊥) → NoDigit (drop i s)
no_digit_at [] zero h f = λ d. omega arith
no_digit_at [] (suc i) h f = λ d. omega arith
no_digit_at (c ∷ s) zero h f = f (omega arith)
no_digit_at (c ∷ s) (suc i) h f = no_digit_at s i (omega arith) (λ l d. f (omega arith) d)

pub sixteen : (k : ℕ) → k ≤ 16 → 1 * 10 ^ k ≤ 9223372036854775808
sixteen k h = let p : 10 ^ k ≤ 10 ^ 16 = pow-le-pow_right (omega arith) h in omega arith

pub digit_first : (ds r : List ℕ) → SomeDigits ds → Digit (get_or (ds ++ r) 0 0)
digit_first [] r d = absurd (omega arith)
digit_first (x ∷ ds) r d = d.1.0

digit_head : (ds : List ℕ) → SomeDigits ds → Digit (get_or ds 0 0)
digit_head [] d = absurd (omega arith)
digit_head (x ∷ ds) d = d.1.0

pub digits_lack : (ds : List ℕ) → SomeDigits ds → Lacks 45 ds × Lacks 43 ds
digits_lack ds d = (λ e. omega (arith, digit_head ds d), λ e. omega (arith, digit_head ds d))

first : (s t : List ℕ) → s ≡ t → get_or s 0 0 ≡ get_or t 0 0
first s t e = ap (λ x. get_or x 0 0) e

-- a sign ends where it ends
pub sign_at : (a b : Bool) (s t : List ℕ) → Lacks 45 s → (b ≡ false → Lacks 45 t) → minus_text a ++ s ≡ minus_text b ++ t → (a ≡ b) × (s ≡ t)
sign_at true true s t p q e = (refl, tails _ _ _ _ e)
sign_at true false s t p q e = absurd (q refl (sym (first _ t e)))
sign_at false true s t p q e = absurd (p (first s _ e))
sign_at false false s t p q e = (refl, e)

pub mark_at : (m n : Mark) (ds t : List ℕ) → SomeDigits ds → (n ≡ none → Lacks 45 t × Lacks 43 t) → mark_text m ++ ds ≡ mark_text n ++ t → (m ≡ n) × (ds ≡ t)
mark_at none none ds t p q e = (refl, e)
mark_at none plus ds t p q e = absurd ((digits_lack ds p).1 (first ds _ e))
mark_at none minus ds t p q e = absurd ((digits_lack ds p).0 (first ds _ e))
mark_at plus none ds t p q e = absurd ((q refl).1 (sym (first _ t e)))
mark_at plus plus ds t p q e = (refl, tails _ _ _ _ e)
mark_at plus minus ds t p q e = absurd (omega (arith, heads _ _ _ _ e))
mark_at minus none ds t p q e = absurd ((q refl).0 (sym (first _ t e)))
mark_at minus plus ds t p q e = absurd (omega (arith, heads _ _ _ _ e))
mark_at minus minus ds t p q e = (refl, tails _ _ _ _ e)

-- what stands after a first byte, and that a byte does not come first
pub lacks_short : (b : ℕ) (s : List ℕ) → length s < 1 → 0 < b → Lacks b s
lacks_short b [] h k = λ e. omega arith
lacks_short b (c ∷ s) h k = absurd (omega arith)

-- rest is what follows the sign of an exponent at the front of s
pub record MarkedBy (s : List ℕ) (mark : Mark) (rest : List ℕ) : Type 0 where
  pub joined : s ≡ mark_text mark ++ rest
  pub signless : mark ≡ none → Lacks 45 rest × Lacks 43 rest

pub marked_minus : (s : List ℕ) → 2 ≤ length s → get_or s 1 0 ≡ 45 → MarkedBy (after s) minus (after_two s)
marked_minus s h e = record { joined = goes_on s 45 h e; signless = λ z. absurd (cc) }

pub marked_plus : (s : List ℕ) → 2 ≤ length s → get_or s 1 0 ≡ 43 → MarkedBy (after s) plus (after_two s)
marked_plus s h e = record { joined = goes_on s 43 h e; signless = λ z. absurd (cc) }

pub marked_none : (s : List ℕ) → (get_or s 1 0 ≡ 45 → ⊥) → (get_or s 1 0 ≡ 43 → ⊥) → MarkedBy (after s) none (after s)
marked_none s h k = record { joined = refl; signless = λ z. (lacks_second s 45 (lit< tt) h, lacks_second s 43 (lit< tt) k) }

-- an exponent

letter_of : (b : ℕ) → (b ≡ 101) ⊎ (b ≡ 69) → (l : Letter) × (letter_byte l ≡ b)
letter_of b (inl e) = (small, sym e)
letter_of b (inr e) = (capital, sym e)

module _ (s : List ℕ) (some : 0 < length s) (mark : Mark) (ds : List ℕ) (h : MarkedBy (after s) mark ds) where
  pub power_at : (get_or s 0 0 ≡ 101) ⊎ (get_or s 0 0 ≡ 69) → (e : ℤ) → SomeDigits ds → e ≡ signed_as (lowers mark) (number_on 0 ds) → PowerIs s e
  power_at q e d v =
      let k = letter_of (get_or s 0 0) q in
      record {
        tail = power k.0 mark ds;
        proper = d;
        joined = ap (λ x. x ∷ (mark_text mark ++ ds)) k.1 ∙ ap (λ x. get_or s 0 0 ∷ x) (sym h.joined) ∙ sym (first_rest s 0 some);
        value = v;
      }

  pub no_power : (SomeDigits ds → ⊥) → NoPower s
  no_power f bare p e = omega (arith, ap length e)
  no_power f (power k m es) p e = f (subst SomeDigits (mark_at m mark es ds p h.signless (tails _ _ _ _ (e ∙ first_rest s 0 some) ∙ h.joined)).1 p)

  -- the digits of an exponent that does not fall
  pub power_risen : (get_or s 0 0 ≡ 101) ⊎ (get_or s 0 0 ≡ 69) → lowers mark ≡ false → (r : Option ℤ) → MatchOption r (SomeDigits ds → ⊥) (λ n. SomeDigits ds × (n ≡ pos (number_on 0 ds))) → MatchOption r (NoPower s) (PowerIs s)
  power_risen q l None f = no_power f
  power_risen q l (Some n) f = power_at q n f.0 (f.1 ∙ ap (λ b. signed_as b (number_on 0 ds)) (sym l))

digit_true : (c : ℕ) → is_ascii_digit c ≡ true → Digit c
digit_true c h = (grind (arith, nat_tests), grind (arith, nat_tests))

digit_false : (c : ℕ) → is_ascii_digit c ≡ false → Digit c → ⊥
digit_false c h d = grind (arith, nat_tests)

front_digit : (s : List ℕ) (i : ℕ) → i < prefix_len is_ascii_digit s → Digit (get_or (take (prefix_len is_ascii_digit s) s) i 0)
front_digit s i h = rw (get_or-take _ s i 0) (digit_true _ (prefix_len_passes is_ascii_digit s i 0 h))

-- the digits at the front
pub front_splits : (s front rest : List ℕ) → front ≡ take (prefix_len is_ascii_digit s) s → rest ≡ drop (prefix_len is_ascii_digit s) s → Splits s front rest
front_splits s front rest p q =
    let n = prefix_len is_ascii_digit s in
    let le : n ≤ length s = prefix_len-le-length is_ascii_digit s in
    record {
      joined = sym (take-append-drop n s) ∙ ap (λ x. x ++ drop n s) (sym p) ∙ ap (λ x. front ++ x) (sym q);
      digits = subst AllDigits (sym p) (digits_from (take n s) (λ i h. front_digit s i (omega (arith, length-prefix_len is_ascii_digit s))));
      stops = subst NoDigit (sym q) (no_digit_at s n le (λ h. digit_false _ (prefix_len_stops is_ascii_digit s 0 h)));
    }
