-- A text cut at a byte: its first piece, what follows, and how many pieces there are.
use Rattle.std.proofs.Common.{◌≡◌, ℕ, zero, suc, ◌+◌, ◌-◌, ◌<◌, ◌≤◌, Bool, true, false, cond, eqb, List, [], ◌∷◌, length, get_or, take, drop, Some, None, Option, unwrap_or, sym, refl, ap, ◌∙◌, add-one, arith, count_by, length-drop, length-take, Bor}
use Rattle.std.specs.List.{position, position_or_len}
use Rattle.std.proofs.lemmas.Grind.{common_steps}
use Rattle.std.proofs.lemmas.List.{take_all}
use Rattle.std.proofs.lemmas.List.Quantifiers.{position-Some}
use Rattle.std.proofs.lemmas.List.Sums.{fails_before_first, sum_by-cons}
use Rattle.reading.specs.Text.{cut, onto, lines, Parted}

-- none of the first n bytes is b
abbrev pub NotBefore : ℕ → List ℕ → ℕ → Type 0
NotBefore b xs n = (k : ℕ) → k < n → eqb (get_or xs k 0) b ≡ false

later : (b c : ℕ) (cs : List ℕ) (n : ℕ) → NotBefore b (c ∷ cs) (suc n) → NotBefore b cs n
later b c cs n h k l = h (suc k) (omega arith)

cut_whole : (b : ℕ) (xs : List ℕ) → NotBefore b xs (length xs) → cut b ([] ∷ []) xs ≡ xs ∷ []
cut_whole b [] h = refl
cut_whole b (c ∷ cs) h = rw (h 0 (omega arith)) (ap (onto c) (cut_whole b cs (later b c cs (length cs) h)))

cut_last : (b : ℕ) (xs : List ℕ) → 0 < length xs → NotBefore b xs (length xs) → cut b [] xs ≡ xs ∷ []
cut_last b [] l h = absurd (omega arith)
cut_last b (c ∷ []) l h = rw (h 0 (omega arith))
cut_last b (c ∷ d ∷ ds) l h =
    rw (h 0 (omega arith)) (ap (onto c) (cut_last b (d ∷ ds) (omega arith) (later b c (d ∷ ds) (suc (length ds)) h)))

cut_at : (b : ℕ) (e : List (List ℕ)) (xs : List ℕ) (n : ℕ) → n < length xs → NotBefore b xs n → eqb (get_or xs n 0) b ≡ true → cut b e xs ≡ take n xs ∷ cut b e (drop (suc n) xs)
cut_at b e [] n l h f = absurd (omega arith)
cut_at b e (c ∷ cs) zero l h f = rw f
cut_at b e (c ∷ cs) (suc n) l h f = rw (h 0 (omega arith)) (ap (onto c) (cut_at b e cs n (omega arith) (later b c cs n h) f))

-- a text in which b does not stand
pub parted_whole : (b : ℕ) (s : List ℕ) → position (λ c. eqb c b) s ≡ None → Parted b s s None
parted_whole b s none =
    let past : length s ≤ position_or_len (λ c. eqb c b) s = grind (arith, common_steps) in
    let whole : NotBefore b s (length s) = λ k lt. fails_before_first (λ c. eqb c b) s k 0 (omega arith) in
    (refl, cut_whole b s whole, λ some. cut_last b s some whole)

-- what follows place n of a text
abbrev pub after : List ℕ → ℕ → List ℕ
after s n = take (length s - (n + 1)) (drop (n + 1) s)

pub parted_first : (b : ℕ) (s : List ℕ) (n : ℕ) → position (λ c. eqb c b) s ≡ Some n
    → ((e : List (List ℕ)) → cut b e s ≡ take n s ∷ cut b e (after s n)) × (length (take n s) + (length (after s n) + 1) ≡ length s)
parted_first b s n at =
    let (inside, here, before) = position-Some (λ c. eqb c b) s n 0 at in
    let r : after s n ≡ drop (n + 1) s = take_all (length s - (n + 1)) (drop (n + 1) s) (simp length-drop (omega arith)) in
    ((λ e. rw (r, add-one) (cut_at b e s n inside before here)), rw r (simp (length-take, length-drop) (omega arith)))

pub no_lines : (s : List ℕ) → length s ≡ 0 → lines s ≡ []
no_lines [] h = refl
no_lines (c ∷ cs) h = absurd (omega arith)

-- the first line of a text, and the lines of what follows it
pub first_line : (s front : List ℕ) (back : Option (Bor (List ℕ))) (nothing : Bor (List ℕ)) → (length s ≡ 0 → ⊥) → nothing.now ≡ [] → Parted 10 s front back → lines s ≡ front ∷ lines (unwrap_or back nothing).now
first_line s front None nothing some e p = rw (e, p.0) (p.2 (omega arith))
first_line s front (Some back) nothing some e p = p.0 []

-- a byte before some pieces makes no new one
as_many : (c : ℕ) (ps : List (List ℕ)) (n : ℕ) → length ps ≡ n + 1 → length (onto c ps) ≡ n + 1
as_many c [] n e = absurd (omega arith)
as_many c (p ∷ ps) n e = e

-- there is one word more than spaces
pub how_many : (b : ℕ) (xs : List ℕ) → length (cut b ([] ∷ []) xs) ≡ count_by (λ c. eqb c b) xs + 1
how_many b [] = refl
how_many b (c ∷ cs) =
    let more = how_many b cs in
    let k = count_by (λ c. eqb c b) cs in
    let one : (v : Bool) → length (cond v ([] ∷ cut b ([] ∷ []) cs) (onto c (cut b ([] ∷ []) cs))) ≡ (cond v 1 0 + k) + 1 =
    λ v. elim v as (λ v. length (cond v ([] ∷ cut b ([] ∷ []) cs) (onto c (cut b ([] ∷ []) cs))) ≡ (cond v 1 0 + k) + 1) [
      | true ↦ omega (arith, more)
      | false ↦ omega (arith, as_many c (cut b ([] ∷ []) cs) k more)
    ] in
    one (eqb c b) ∙ ap (λ n. n + 1) (sym (sum_by-cons (λ x. cond (eqb x b) 1 0) c cs))
