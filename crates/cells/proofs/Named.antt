-- Which cells are for a pair: the two directions of a connector name one pair.
use Rattle.std.proofs.Common.{◌≡◌, ℕ, ◌<◌, ◌≤◌, Bool, true, false, cond, not, ◌||◌, List, length, get_or, Some, None, sym, refl, ap, ◌∙◌, ⊎_elim, arith}
use Rattle.std.proofs.Math.Bool.{or_comm}
use Rattle.std.proofs.lemmas.Bool.{cases_lt, lt-ltb, or_cases}
use Rattle.std.proofs.lemmas.List.Sums.{fails_before_first}
use Rattle.std.specs.List.{position, position_or_len}
use Rattle.capacity.specs.Directions.{is_way_in}
use Rattle.capacity.proofs.Puts.{same_way, way_back, other_way}
use Rattle.cells.specs.declared.cell.Cell.{Cell}
use Rattle.cells.specs.Cells.{names}

-- whether (c, a, b) is a direction of the pair of p and q in contract k
abbrev pub of_pair : ℕ → ℕ → ℕ → ℕ → ℕ → ℕ → Bool
of_pair k p q c a b = is_way_in k p q c a b || is_way_in k q p c a b

pub of_pair_back : (k p q c a b : ℕ) → of_pair k p q c b a ≡ of_pair k p q c a b
of_pair_back k p q c a b = rw (way_back k p q c a b, way_back k q p c a b) (or_comm (is_way_in k q p c a b) (is_way_in k p q c a b))

pub names_back : (x : Cell) (c a b : ℕ) → names x c b a ≡ names x c a b
names_back x c a b = of_pair_back x.direction.contract x.direction.from x.direction.to c a b

-- a cell is for both directions of a pair or for none
pub names_both : (x : Cell) (k p q c a b : ℕ) → of_pair k p q c a b ≡ true → names x c a b ≡ names x k p q
names_both x k p q c a b t =
    ⊎_elim
    (λ (e : is_way_in k p q c a b ≡ true). let s = same_way k p q c a b e in rw (s.0, s.1, s.2) refl)
    (λ (e : is_way_in k q p c a b ≡ true).
    let s = same_way k q p c a b e in
    rw (s.0, s.1, s.2) (names_back x k p q))
    (or_cases (is_way_in k p q c a b) (is_way_in k q p c a b) t)

-- a cell that is for a pair is for no other
pub names_one : (x : Cell) (k p q c a b : ℕ) → names x k p q ≡ true → names x c a b ≡ of_pair k p q c a b
names_one x k p q c a b t =
    ⊎_elim
    (λ (e : is_way_in x.direction.contract x.direction.from x.direction.to k p q ≡ true).
    let s = same_way x.direction.contract x.direction.from x.direction.to k p q e in rw (s.0, s.1, s.2) refl)
    (λ (e : is_way_in x.direction.contract x.direction.to x.direction.from k p q ≡ true).
    let s = same_way x.direction.contract x.direction.to x.direction.from k p q e in
    rw (s.0, s.1, s.2) (or_comm (is_way_in x.direction.contract x.direction.from x.direction.to c a b) (is_way_in x.direction.contract x.direction.to x.direction.from c a b)))
    (or_cases (is_way_in x.direction.contract x.direction.from x.direction.to k p q) (is_way_in x.direction.contract x.direction.to x.direction.from k p q) t)

-- the cell of a pair has the way back in its other direction
pub turned : (x : Cell) (c a b : ℕ) → (a ≡ b → ⊥) → names x c a b ≡ true → is_way_in x.direction.contract x.direction.from x.direction.to c b a ≡ not (is_way_in x.direction.contract x.direction.from x.direction.to c a b)
turned x c a b ne t =
    ⊎_elim
    (λ (e : is_way_in k p q c a b ≡ true).
    let s = same_way k p q c a b e in
    rw e (other_way k p q c b a (λ _ f _. ne (s.1 ∙ sym f))))
    (λ (e : is_way_in k q p c a b ≡ true).
    let s = same_way k q p c a b e in
    rw (way_back k p q c a b, e, other_way k p q c a b (λ _ f _. ne (f ∙ sym s.2))) refl)
    (or_cases (is_way_in k p q c a b) (is_way_in k q p c a b) t)
  where
    k : ℕ
    k = x.direction.contract

    p : ℕ
    p = x.direction.from

    q : ℕ
    q = x.direction.to

-- where none is found, none passes
pub none_found : {X : Type 0} (t : X → Bool) (xs : List X) (d : X) → None ≡ position t xs → (k : ℕ) → k < length xs → t (get_or xs k d) ≡ false
none_found t xs d e k l =
    ⊎_elim
    (λ (h : position_or_len t xs < length xs).
    let s : None ≡ Some (position_or_len t xs) = e ∙ ap (λ (b : Bool). cond b (Some (position_or_len t xs)) None) (lt-ltb _ _ h) in
    absurd cc)
    (λ (h : length xs ≤ position_or_len t xs). fails_before_first t xs k d (omega arith))
    (cases_lt (position_or_len t xs) (length xs))
