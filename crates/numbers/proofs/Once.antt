-- A word has one answer, and what a scan found gives it.
use Rattle.std.proofs.Common.{◌≡◌, ℕ, ◌+◌, ◌^◌, ◌≤◌, Bool, true, false, List, ◌++◌, length, ℤ, pos, neg_ℤ, Ok, Err, Result, sym, refl, ap, ◌∙◌, subst, arith, MatchResult}
use native.Mathlib.Nat.{eq_of_mul-eq-mul_right}
use Rattle.numbers.specs.declared.Unit.{Unit as Measure}
use Rattle.numbers.specs.declared.NumberFault.{NumberFault}
use Rattle.numbers.specs.declared.NumberFault.TheVariants.{Form, Fraction, Range}
use Rattle.numbers.specs.Numerals.{Letter, letter_byte, Power, Numeral, minus_text, power_text, body_text, text, ProperPower, Proper, Writes, Counts, fall, places, signed_as}
use Rattle.numbers.specs.Numerals.Letter.{small, capital}
use Rattle.numbers.specs.Numerals.Power.{bare, power}
use Rattle.numbers.specs.Scans.{Lacks, SizeIs, NoBody, NoSize, Unread}
use Rattle.numbers.specs.Reading.{scale_of, WellFormed, Means, InRange, Answers}
use Rattle.numbers.specs.Figures.{FigureLaws}
use Rattle.numbers.proofs.Laws.{heads, tails, ten_pos}
use Rattle.numbers.proofs.Scanned.{digits_lack, sign_at, mark_at}
use Rattle.numbers.proofs.Bodies.{one_split, tail_at, no_digit_point, no_digit_power, no_point_power, body_lacks}

letter_once : (l k : Letter) → letter_byte l ≡ letter_byte k → l ≡ k
letter_once small small e = refl
letter_once small capital e = absurd (omega arith)
letter_once capital small e = absurd (omega arith)
letter_once capital capital e = refl

power_once : (s t : Power) → ProperPower s → ProperPower t → power_text s ≡ power_text t → s ≡ t
power_once bare bare p q e = refl
power_once bare (power k n es) p q e = absurd (omega (arith, ap length e))
power_once (power l m ds) bare p q e = absurd (omega (arith, ap length e))
power_once (power l m ds) (power k n es) p q e =
    let h = mark_at m n ds es p (λ z. digits_lack es q) (tails _ _ _ _ e) in
    let a : l ≡ k = letter_once l k (heads _ _ _ _ e) in
    λ i. power (a i) (h.0 i) (h.1 i)

pub text_once : (v w : Numeral) → Proper v → Proper w → text v ≡ text w → v ≡ w
text_once v w p q e =
    let s = sign_at v.negative w.negative (body_text v) (body_text w) (body_lacks v p) (λ z. body_lacks w q) e in
    let b = one_split v.whole _ w.whole _ p.0.1 (no_digit_point v.decimals v.tail p.2) q.0.1 (no_digit_point w.decimals w.tail q.2) s.1 in
    let d = tail_at v.decimals v.tail w.decimals (power_text w.tail) p.1 p.2 q.1 (no_digit_power w.tail q.2) (λ z. no_point_power w.tail) b.1 in
    let t = power_once v.tail w.tail p.2 q.2 d.1 in
    λ i. record { negative = s.0 i; whole = b.0 i; decimals = d.0 i; tail = t i }

pub writes_once : (bs : List ℕ) (v w : Numeral) → Writes bs v → Writes bs w → v ≡ w
writes_once bs v w p q = text_once v w p.1 q.1 (p.2 ∙ sym q.2)

counts_once : (w : Numeral) (scale m n : ℕ) → Counts w scale m → Counts w scale n → m ≡ n
counts_once w scale m n p q = eq_of_mul-eq-mul_right (10 ^ (fall w.tail + places w)) (ten_pos (fall w.tail + places w)) m n (sym p ∙ q)

pub means_at : {bs : List ℕ} {unit : Measure} {z : ℤ} (w : Numeral) → Writes bs w → (m : Means bs unit z) → Counts w (scale_of unit) m.size
means_at {bs} {unit} w h m = subst (λ x. Counts x (scale_of unit) m.size) (writes_once bs m.numeral w m.writes h) m.counts

means_once : (bs : List ℕ) (unit : Measure) (y z : ℤ) → Means bs unit y → Means bs unit z → y ≡ z
means_once bs unit y z p q =
    let c : p.size ≡ q.size = counts_once q.numeral (scale_of unit) p.size q.size (means_at q.numeral q.writes p) q.counts in
    p.value ∙ ap (λ x. signed_as x.negative p.size) (writes_once bs p.numeral q.numeral p.writes q.writes) ∙ ap (signed_as q.numeral.negative) c ∙ sym q.value

pub one_answer : (bs : List ℕ) (unit : Measure) (sign : Bool) (q r : Result ℤ NumberFault) → Answers bs unit sign q → Answers bs unit sign r → q ≡ r
one_answer bs unit sign (Ok y) (Ok z) p q = ap Ok (means_once bs unit y z p.0 q.0)
one_answer bs unit sign (Ok y) (Err Form) p q = absurd (q (p.0.numeral, p.0.writes))
one_answer bs unit sign (Ok y) (Err Fraction) p q = absurd (q.1 y p.0)
one_answer bs unit sign (Ok y) (Err Range) p q = absurd (q.1.1 (subst (InRange sign) (means_once bs unit y q.0 p.0 q.1.0) p.1))
one_answer bs unit sign (Err Form) (Ok z) p q = absurd (p (q.0.numeral, q.0.writes))
one_answer bs unit sign (Err Fraction) (Ok z) p q = absurd (p.1 z q.0)
one_answer bs unit sign (Err Range) (Ok z) p q = absurd (p.1.1 (subst (InRange sign) (means_once bs unit z p.0 q.0 p.1.0) q.1))
one_answer bs unit sign (Err Form) (Err Form) p q = refl
one_answer bs unit sign (Err Form) (Err Fraction) p q = absurd (p q.0)
one_answer bs unit sign (Err Form) (Err Range) p q = absurd (p (q.1.0.numeral, q.1.0.writes))
one_answer bs unit sign (Err Fraction) (Err Form) p q = absurd (q p.0)
one_answer bs unit sign (Err Fraction) (Err Fraction) p q = refl
one_answer bs unit sign (Err Fraction) (Err Range) p q = absurd (p.1 q.0 q.1.0)
one_answer bs unit sign (Err Range) (Err Form) p q = absurd (q (p.1.0.numeral, p.1.0.writes))
one_answer bs unit sign (Err Range) (Err Fraction) p q = absurd (q.1 p.0 p.1.0)
one_answer bs unit sign (Err Range) (Err Range) p q = refl

pub only : {F : Type 0} {value : F → ℤ} {answer : Result F NumberFault → Result ℤ NumberFault} → FigureLaws value answer → (bs : List ℕ) (unit : Measure) (sign : Bool) (r : Result F NumberFault) → Answers bs unit sign (answer r) → (q : Result F NumberFault) → Answers bs unit sign (answer q) → q ≡ r
only laws bs unit sign r h q a = laws.once q r (one_answer bs unit sign _ _ a h)

abbrev pub signed : Bool → ℤ → ℤ
signed true z = neg_ℤ z
signed false z = z

signed_is : (b : Bool) (n : ℕ) → signed b (pos n) ≡ signed_as b n
signed_is true n = refl
signed_is false n = refl

-- from a word without its sign to the word
module _ (b : Bool) (body : List ℕ) (unit : Measure) (short : length (minus_text b ++ body) ≤ 16) where
  abbrev with_sign : Numeral → Numeral
  with_sign w = record { negative = b; whole = w.whole; decimals = w.decimals; tail = w.tail }

  writes : (w : Numeral) → Proper w → body_text w ≡ body → Writes (minus_text b ++ body) (with_sign w)
  writes w p e = (short, p, ap (λ x. minus_text b ++ x) e)

  pub means : (n z : ℤ) → SizeIs body unit n → z ≡ signed b n → Means (minus_text b ++ body) unit z
  means n z h v = record {
    numeral = with_sign h.numeral;
    size = h.size;
    writes = writes h.numeral h.proper h.joined;
    counts = h.counts;
    value = v ∙ ap (signed b) h.value ∙ signed_is b h.size;
  }

  module _ (signless : b ≡ false → Lacks 45 body) where
    no_word : NoBody body → WellFormed (minus_text b ++ body) → ⊥
    no_word f h = f h.0 h.1.1 (sign_at h.0.negative b (body_text h.0) body (body_lacks h.0 h.1.1) signless h.1.2).1

    pub unread : (e : NumberFault) → NoSize body unit e → Unread (minus_text b ++ body) unit e
    unread Form f = no_word f
    unread Fraction f = ((with_sign f.0, writes f.0 f.1.0 f.1.1), λ z m. f.1.2 m.size (means_at (with_sign f.0) (writes f.0 f.1.0 f.1.1) m))
    unread Range f = (b, f.0, (means (pos f.0) _ f.1.0 (sym (signed_is b f.0)), f.1.1))

pub unsigned : (body : List ℕ) (unit : Measure) → length body ≤ 16 → Lacks 45 body → (r : Result ℤ NumberFault) → MatchResult r (SizeIs body unit) (NoSize body unit) → MatchResult r (Means body unit) (Unread body unit)
unsigned body unit short h (Ok z) s = means false body unit short z z s refl
unsigned body unit short h (Err e) s = unread false body unit short (λ _. h) e s
