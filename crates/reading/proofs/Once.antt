-- A line is read in one way.
use Rattle.std.proofs.Common.{◌≡◌, ℕ, zero, suc, ◌+◌, false, true, List, [], ◌∷◌, length, ℤ, Ok, Err, Result, sym, refl, ap, ◌∙◌}
use Rattle.numbers.specs.declared.NumberFault.{NumberFault}
use Rattle.numbers.proofs.Once.{one_answer}
use Rattle.reading.specs.declared.faults.WordFault.{WordFault}
use Rattle.reading.specs.declared.faults.WordFault.TheVariants.{Form, Number}
use Rattle.reading.specs.declared.fields.Field.{Field}
use Rattle.reading.specs.declared.fields.Field.TheVariants.{Count, Signed, Letters}
use Rattle.reading.specs.Fields.{WordAnswers, Read, Faulty, Numbers}
use Rattle.reading.specs.Making.{Makes}

-- ---- one word

one_number : (u : Field) (w : List ℕ) (r r' : Result ℤ NumberFault) → WordAnswers u w r → WordAnswers u w r' → r ≡ r'
one_number (Count u) w r r' h k = one_answer w u false r r' h k
one_number (Signed u) w r r' h k = one_answer w u true r r' h k
one_number Letters w (Ok y) (Ok z) h k = ap Ok (h ∙ sym k)
one_number Letters w (Ok y) (Err g) h k = absurd k
one_number Letters w (Err f) r' h k = absurd h

-- a result is one of two
pub not_both : {A T : Type 0} (x : A) (y : T) → ◌≡◌ {A = Result A T} (Ok x) (Err y) → ⊥
not_both x y e = cc

number_or_none : (u : Field) (w : List ℕ) (z : ℤ) (f : NumberFault) → WordAnswers u w (Ok z) → WordAnswers u w (Err f) → ⊥
number_or_none u w z f h k = not_both z f (one_number u w (Ok z) (Err f) h k)

-- ---- the words of a line, one after another

all_read : (us : List Field) (ws : List (List ℕ)) (zs : List ℤ) → Read us ws zs [] → length ws ≡ length us
all_read [] ws zs (e, p) = ap length e
all_read (u ∷ us) ws zs (w, ws₁, z, zs₁, (e, p, a, q)) = rw (e, all_read us ws₁ zs₁ q) refl

read_once : (us : List Field) (ws rest : List (List ℕ)) (zs zs' : List ℤ) → Read us ws zs rest → Read us ws zs' rest → zs ≡ zs'
read_once [] ws rest zs zs' h k = h.1 ∙ sym k.1
read_once (u ∷ us) ws rest zs zs' (w, ws₁, z, zs₁, (e, p, a, q)) (w', ws₂, z', zs₂, (e', p', a', q')) =
    let word : w ≡ w' = cc in
    let words : ws₁ ≡ ws₂ = cc in
    let first = one_number u w (Ok z) (Ok z') a (rw word a') in
    let others = read_once us ws₁ rest zs₁ zs₂ q (rw words q') in
    cc

faulty_once : (us : List Field) (ws : List (List ℕ)) (j k : ℕ) (f g : NumberFault) → Faulty us ws j f → Faulty us ws k g → (j ≡ k) × (f ≡ g)
faulty_once [] ws j k f g h h' = absurd h
faulty_once (u ∷ us) [] j k f g h h' = absurd h
faulty_once (u ∷ us) (w ∷ ws) zero zero f g h h' = let same = one_number u w (Err f) (Err g) h h' in (refl, cc)
faulty_once (u ∷ us) (w ∷ ws) zero (suc k) f g h h' = absurd (number_or_none u w h'.0.0 f h'.0.1 h)
faulty_once (u ∷ us) (w ∷ ws) (suc j) zero f g h h' = absurd (number_or_none u w h.0.0 g h.0.1 h')
faulty_once (u ∷ us) (w ∷ ws) (suc j) (suc k) f g h h' = let same = faulty_once us ws j k f g h.1 h'.1 in (ap suc same.0, same.1)

read_or_faulty : (us : List Field) (ws rest : List (List ℕ)) (zs : List ℤ) (k : ℕ) (f : NumberFault) → Read us ws zs rest → Faulty us ws k f → ⊥
read_or_faulty [] ws rest zs k f h h' = h'
read_or_faulty (u ∷ us) [] rest zs k f h h' = h'
read_or_faulty (u ∷ us) (w ∷ ws) rest zs zero f (w₁, ws₁, z, zs₁, (e, p, a, q)) h' = let word : w ≡ w₁ = cc in number_or_none u w z f (rw word a) h'
read_or_faulty (u ∷ us) (w ∷ ws) rest zs (suc k) f (w₁, ws₁, z, zs₁, (e, p, a, q)) h' = let words : ws ≡ ws₁ = cc in read_or_faulty us ws rest zs₁ k f (rw words q) h'.1

-- a wrong number of words is no other fault, and no numbers
one_reading : (i : ℕ) (us : List Field) (ws : List (List ℕ)) (r r' : Result (List ℤ) WordFault) → Numbers i us ws r → Numbers i us ws r' → r ≡ r'
one_reading i us ws (Ok zs) (Ok zs') h k = ap Ok (read_once us ws [] zs zs' h k)
one_reading i us ws (Ok zs) (Err Form) h k = absurd (k (all_read us ws zs h))
one_reading i us ws (Ok zs) (Err (Number n f)) h k = absurd (read_or_faulty us ws [] zs k.1.0 f h k.1.1.0)
one_reading i us ws (Err Form) (Ok zs) h k = absurd (h (all_read us ws zs k))
one_reading i us ws (Err Form) (Err Form) h k = refl
one_reading i us ws (Err Form) (Err (Number n f)) h k = absurd (h k.0)
one_reading i us ws (Err (Number n f)) (Ok zs) h k = absurd (read_or_faulty us ws [] zs h.1.0 f k h.1.1.0)
one_reading i us ws (Err (Number n f)) (Err Form) h k = absurd (k h.0)
one_reading i us ws (Err (Number n f)) (Err (Number m g)) h k =
    let same = faulty_once us ws h.1.0 k.1.0 f g h.1.1.0 k.1.1.0 in
    let at : n ≡ m = h.1.1.1 ∙ ap (λ (j : ℕ). i + (j + 1)) same.0 ∙ sym k.1.1.1 in
    let by : f ≡ g = same.1 in
    cc

-- ---- what is made of the numbers

pub one_making : {X : Type 0} (i : ℕ) (us : List Field) (make : List ℤ → X) (ws : List (List ℕ)) (r r' : Result X WordFault) → Makes i us make ws r → Makes i us make ws r' → r ≡ r'
one_making i us make ws (Ok x) (Ok y) (zs, (h, e)) (zs', (k, e')) = let same = one_reading i us ws (Ok zs) (Ok zs') h k in cc
one_making i us make ws (Ok x) (Err g) (zs, (h, e)) k = let same = one_reading i us ws (Ok zs) (Err g) h k in cc
one_making i us make ws (Err f) (Ok y) h (zs, (k, e)) = let same = one_reading i us ws (Err f) (Ok zs) h k in cc
one_making i us make ws (Err f) (Err g) h k = let same = one_reading i us ws (Err f) (Err g) h k in cc
