-- A list in the first places of an array.
use Rattle.std.proofs.Common.{◌≡◌, ℕ, ◌+◌, ◌-◌, ◌<◌, ◌≤◌, List, [], ◌∷◌, ◌++◌, length, take, drop, set, sym, ap, ◌∙◌, arith, length-take, length-append, append_assoc, add-one}
use Rattle.std.proofs.lemmas.List.{take_at, take-set, drop-set-lt, get_or-set_same, take-take, take-append-drop, drop-take, length-drop}
use Rattle.std.proofs.lemmas.Bool.{lt-ltb, cond-true}
use Rattle.std.specs.List.{copy_within}
use Rattle.std.proofs.lemmas.List.Edits.{take-paste}
use Rattle.std.proofs.lemmas.Slice.{take-put_mid}
use Rattle.std.proofs.Math.Seq.{drop-cons, take-set-lt}
use borrow.Rule.Slice.PartMut.{mid_of, put_mid, same_len_mid}
use Rattle.book.specs.Places.{appended, without}
use Rattle.book.specs.Ranks.{blank, order_at}
use Rattle.book.specs.declared.rows.Order.{Order}

-- a row that has room
pub with_room : (os : List Order) (o : Order) → length os < 128 → appended os o ≡ os ++ o ∷ []
with_room os o h = cond-true _ _ _ (lt-ltb _ _ h)

-- the first n rows are k rows
pub first_rows : {X : Type 0} (xs : List X) (n k : ℕ) → k ≡ length (take n xs) → take n xs ≡ take k xs
first_rows xs n k e = sym (ap (take k) (sym (take-append-drop n xs)) ∙ take_at (take n xs) (drop n xs) k (sym e))

-- the rows from `at` on moved one down, and one fewer
pub taken_out : {X : Type 0} (xs : List X) (n k at : ℕ) → k ≡ length (take n xs) → at < k → take (k - 1) (copy_within xs (at + 1) k at) ≡ without (take n xs) at
taken_out xs n k at e h =
    let m : ℕ = k - (at + 1) in
    let few : at ≤ length xs = omega (arith, length-take n xs) in
    let rest : m ≤ length (drop (at + 1) xs) = omega (arith, length-take n xs, length-drop (at + 1) xs) in
    let last : k - 1 ≡ at + m = omega arith in
    let all : k ≡ at + 1 + m = omega arith in
    let low : at ≤ k = omega arith in
    let front : take n xs ≡ take k xs = first_rows xs n k e in
    ap (λ j. take j (copy_within xs (at + 1) k at)) last
    ∙ take-paste xs at (drop (at + 1) xs) m few rest
    ∙ ap (λ r. r ++ take m (drop (at + 1) xs)) (sym (take-take at k xs low))
    ∙ ap (λ r. take at (take k xs) ++ r) (sym (ap (λ j. drop (at + 1) (take j xs)) all ∙ drop-take (at + 1) m xs))
    ∙ ap (λ r. without r at) (sym front)

-- the rows from `at` on turned by one: that at `at` comes last
pub turned : (xs ys : List Order) (n k at : ℕ) → k ≡ length (take n xs) → at < k → ys ≡ drop 1 (mid_of at (k - at) xs) ++ take 1 (mid_of at (k - at) xs) → take n (put_mid at (k - at) xs ys) ≡ without (take n xs) at ++ order_at (take n xs) at ∷ []
turned xs ys n k at e h f =
    let os = take n xs in
    let all : k ≡ at + (k - at) = omega arith in
    let part : mid_of at (k - at) xs ≡ drop at os = sym (ap (λ j. drop at (take j xs)) all ∙ drop-take at (k - at) xs) ∙ ap (drop at) (sym (first_rows xs n k e)) in
    let split : drop at os ≡ order_at os at ∷ drop (at + 1) os = rw add-one (drop-cons os at blank (omega (arith, e))) in
    let new : ys ≡ drop (at + 1) os ++ order_at os at ∷ [] = f ∙ ap (λ t. drop 1 t ++ take 1 t) (part ∙ split) in
    let long : length ys ≡ k - at = omega (arith, ap length new, length-append (drop (at + 1) os) (order_at os at ∷ []), length-drop (at + 1) os, e) in
    let few : at ≤ length xs = omega (arith, e, length-take n xs) in
    let same : length (put_mid at (k - at) xs ys) ≡ length xs = same_len_mid at (k - at) xs ys (omega (arith, e, long, ap length part, length-drop at os)) in
    first_rows (put_mid at (k - at) xs ys) n k (omega (arith, e, length-take n xs, length-take n (put_mid at (k - at) xs ys), same))
    ∙ take-put_mid at (k - at) xs ys k (omega (arith, long)) few
    ∙ ap (λ t. t ++ ys) (sym (take-take at k xs (omega arith)) ∙ ap (take at) (sym (first_rows xs n k e)))
    ∙ ap (λ t. take at os ++ t) new
    ∙ sym (append_assoc (take at os) (drop (at + 1) os) (order_at os at ∷ []))

-- a row changed, and then put last
pub changed_last : (xs : List Order) (n at : ℕ) (v : Order) (new : List Order) → at < length (take n xs) → new ≡ without (take n (set xs at v)) at ++ order_at (take n (set xs at v)) at ∷ [] → new ≡ without (take n xs) at ++ v ∷ []
changed_last xs n at v new h e =
    let os = take n xs in
    let k : at < n = omega (arith, h, length-take n xs) in
    let same : take n (set xs at v) ≡ set os at v = take-set-lt n xs at v k in
    e
    ∙ ap (λ t. without t at ++ order_at t at ∷ []) same
    ∙ ap (λ t. (t ++ drop (at + 1) (set os at v)) ++ order_at (set os at v) at ∷ []) (take-set os at v)
    ∙ ap (λ t. (take at os ++ t) ++ order_at (set os at v) at ∷ []) (drop-set-lt (at + 1) os at v (omega arith))
    ∙ ap (λ t. without os at ++ t ∷ []) (get_or-set_same os at v blank h)
