-- What the cells say of a direction, and once the cell of its pair is written.
use Rattle.std.proofs.Common.{◌≡◌, ℕ, ◌<◌, Bool, true, false, cond, ◌||◌, List, [], ◌∷◌, ◌++◌, length, get_or, set, Some, None, sym, refl, ap, ◌∙◌, ⊎_elim, arith, length-set, length-append, get_or-set_other, get_or-set_same}
use Rattle.std.proofs.Math.ListN.{get_or-append}
use Rattle.std.proofs.Math.Seq.{get_or-append_seam}
use Rattle.std.proofs.lemmas.Bool.{cases_Bool, or_parts}
use Rattle.std.proofs.lemmas.List.Quantifiers.{position-Some}
use Rattle.std.proofs.lemmas.List.Recursion.{found_at, found_nowhere, found_set_other, found_push_other}
use Rattle.std.specs.List.{position}
use Rattle.capacity.specs.Directions.{is_way_in, put}
use Rattle.capacity.proofs.Puts.{put_else}
use Rattle.cells.specs.declared.cell.Cell.{Cell}
use Rattle.cells.specs.Cells.{names, first_says}
use Rattle.cells.proofs.Named.{of_pair, names_both, names_one, none_found}

-- what a cell for a pair says of one of its directions
abbrev pub says : {X : Type 0} → (Cell → X) → (Cell → X) → ℕ → ℕ → ℕ → Cell → X
says g h c a b x = cond (is_way_in x.direction.contract x.direction.from x.direction.to c a b) (g x) (h x)

step : {X : Type 0} (p q : Bool) (v w f : X) → cond p v (cond q w f) ≡ cond (p || q) (cond p v w) f
step true q v w f = refl
step false true v w f = refl
step false false v w f = refl

steps : {X : Type 0} (g h : Cell → X) (z : X) (c a b : ℕ) (x : Cell) (xs : List Cell) → first_says g h z (x ∷ xs) c a b ≡ cond (names x c a b) (says g h c a b x) (first_says g h z xs c a b)
steps g h z c a b x xs = step (is_way_in x.direction.contract x.direction.from x.direction.to c a b) (is_way_in x.direction.contract x.direction.to x.direction.from c a b) (g x) (h x) (first_says g h z xs c a b)

-- the first cell for the pair counts
pub says_at : {X : Type 0} (g h : Cell → X) (z : X) (ys : List Cell) (c a b i : ℕ) (d : Cell) → i < length ys → ((k : ℕ) → k < i → names (get_or ys k d) c a b ≡ false) → names (get_or ys i d) c a b ≡ true → first_says g h z ys c a b ≡ says g h c a b (get_or ys i d)
says_at g h z ys c a b i d = found_at (λ xs. first_says g h z xs c a b) (λ x. names x c a b) (says g h c a b) z refl (steps g h z c a b) ys i d

pub says_nothing : {X : Type 0} (g h : Cell → X) (z : X) (ys : List Cell) (c a b : ℕ) (d : Cell) → ((k : ℕ) → k < length ys → names (get_or ys k d) c a b ≡ false) → first_says g h z ys c a b ≡ z
says_nothing g h z ys c a b d = found_nowhere (λ xs. first_says g h z xs c a b) (λ x. names x c a b) (says g h c a b) z refl (steps g h z c a b) ys d

-- a direction of the pair that v is for
pick : {X : Type 0} (p q : Bool) (v w f : X) → (p || q) ≡ true → cond p v w ≡ cond p v (cond q w f)
pick true q v w f e = refl
pick false true v w f e = refl
pick false false v w f e = absurd cc

-- v in the place of the first cell for its pair
pub said_set : {X : Type 0} (g h : Cell → X) (z : X) (ys : List Cell) (v : Cell) (i : ℕ) → position (λ x. names x v.direction.contract v.direction.from v.direction.to) ys ≡ Some i → (c a b : ℕ) → first_says g h z (set ys i v) c a b ≡ put (first_says g h z ys) v.direction.contract v.direction.from v.direction.to (g v) (h v) c a b
said_set {X} g h z ys v i e c a b = ⊎_elim here other (cases_Bool (of_pair k p q c a b))
  where
    k : ℕ
    k = v.direction.contract

    p : ℕ
    p = v.direction.from

    q : ℕ
    q = v.direction.to

    s : (i < length ys) × (names (get_or ys i v) k p q ≡ true) × ((n : ℕ) → n < i → names (get_or ys n v) k p q ≡ false)
    s = position-Some (λ x. names x k p q) ys i v e

    here : of_pair k p q c a b ≡ true → first_says g h z (set ys i v) c a b ≡ put (first_says g h z ys) k p q (g v) (h v) c a b
    here t =
        says_at g h z (set ys i v) c a b i v (rw (length-set ys i v) s.0)
        (λ n l. rw (get_or-set_other ys i n v v (λ f. omega arith)) (names_both (get_or ys n v) k p q c a b t ∙ s.2 n l))
        (rw (get_or-set_same ys i v v s.0) t)
        ∙ ap (says g h c a b) (get_or-set_same ys i v v s.0)
        ∙ pick (is_way_in k p q c a b) (is_way_in k q p c a b) (g v) (h v) (first_says g h z ys c a b) t

    other : of_pair k p q c a b ≡ false → first_says g h z (set ys i v) c a b ≡ put (first_says g h z ys) k p q (g v) (h v) c a b
    other t =
        let r = or_parts (is_way_in k p q c a b) (is_way_in k q p c a b) t in
        found_set_other (λ xs. first_says g h z xs c a b) (λ x. names x c a b) (says g h c a b) z refl (steps g h z c a b) ys i v v (names_one (get_or ys i v) k p q c a b s.1 ∙ t) t
        ∙ sym (put_else (first_says g h z ys) k p q (g v) (h v) c a b r.0 r.1)

-- v after the cells, where none is for its pair
pub said_push : {X : Type 0} (g h : Cell → X) (z : X) (ys : List Cell) (v : Cell) → None ≡ position (λ x. names x v.direction.contract v.direction.from v.direction.to) ys → (c a b : ℕ) → first_says g h z (ys ++ v ∷ []) c a b ≡ put (first_says g h z ys) v.direction.contract v.direction.from v.direction.to (g v) (h v) c a b
said_push {X} g h z ys v e c a b = ⊎_elim here other (cases_Bool (of_pair k p q c a b))
  where
    k : ℕ
    k = v.direction.contract

    p : ℕ
    p = v.direction.from

    q : ℕ
    q = v.direction.to

    last : get_or (ys ++ v ∷ []) (length ys) v ≡ v
    last = get_or-append_seam ys v [] v

    here : of_pair k p q c a b ≡ true → first_says g h z (ys ++ v ∷ []) c a b ≡ put (first_says g h z ys) k p q (g v) (h v) c a b
    here t =
        says_at g h z (ys ++ v ∷ []) c a b (length ys) v (rw (length-append ys (v ∷ [])) (omega arith))
        (λ n l. rw (get_or-append ys (v ∷ []) v n l) (names_both (get_or ys n v) k p q c a b t ∙ none_found (λ x. names x k p q) ys v e n l))
        (rw last t)
        ∙ ap (says g h c a b) last
        ∙ pick (is_way_in k p q c a b) (is_way_in k q p c a b) (g v) (h v) (first_says g h z ys c a b) t

    other : of_pair k p q c a b ≡ false → first_says g h z (ys ++ v ∷ []) c a b ≡ put (first_says g h z ys) k p q (g v) (h v) c a b
    other t =
        let r = or_parts (is_way_in k p q c a b) (is_way_in k q p c a b) t in
        found_push_other (λ xs. first_says g h z xs c a b) (λ x. names x c a b) (says g h c a b) z refl (steps g h z c a b) ys v t
        ∙ sym (put_else (first_says g h z ys) k p q (g v) (h v) c a b r.0 r.1)
