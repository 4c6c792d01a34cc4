-- Of one number there is one order in a book, and to take it out by its place is to leave out its number.
use Rattle.std.proofs.Common.{◌≡◌, ℕ, zero, suc, ◌+◌, ◌<◌, Bool, true, not, eqb, List, [], ◌∷◌, ◌++◌, length, take, drop, Some, filter, sym, refl, ap, ◌∙◌, subst, inl, inr, arith}
use Rattle.std.specs.List.{AllByRecursion}
use Rattle.std.proofs.lemmas.Bool.{cond-true, cond-false, both_ways, and_parts, eq-eqb, ne_eqb, eqb-true, not-true, not_from_true, not_from_false}
use Rattle.book.specs.declared.rows.Order.{Order}
use Rattle.book.specs.Orderly.{Distinct}
use Rattle.book.specs.Places.{place, without, numbered, numbered_of, Placed}
use Rattle.book.specs.Ranks.{order_at, blank}
use Rattle.book.proofs.Searches.{placed_by}
use Rattle.history.specs.Standing.{◌∈◌}

pub all_in : {X : Type 0} (P : X → Type 0) (xs : List X) → AllByRecursion P xs → (x : X) → x ∈ xs → P x
all_in P [] h x i = absurd i
all_in P (y ∷ ys) h x i = elim i [ inl e ↦ subst P e h.0 | inr j ↦ all_in P ys h.1 x j ]

pub in_all : {X : Type 0} (P : X → Type 0) (xs : List X) → ((x : X) → x ∈ xs → P x) → AllByRecursion P xs
in_all P [] h = tt
in_all P (y ∷ ys) h = (h y (inl refl), in_all P ys (λ x i. h x (inr i)))

pub at_in : (os : List Order) (i : ℕ) → i < length os → order_at os i ∈ os
at_in [] i h = absurd (omega arith)
at_in (o ∷ os) zero h = inl refl
at_in (o ∷ os) (suc i) h = inr (at_in os i (omega arith))

pub one_order : (os : List Order) → Distinct os → (x y : Order) → x ∈ os → y ∈ os → x.number ≡ y.number → x ≡ y
one_order [] d x y i j e = absurd i
one_order (o ∷ os) d x y i j e =
    elim i [
      | inl p ↦ elim j [ inl q ↦ sym p ∙ q | inr q ↦ absurd (all_in _ os d.0 y q (sym e ∙ ap (λ (u : Order). u.number) (sym p))) ]
      | inr p ↦ elim j [ inl q ↦ absurd (all_in _ os d.0 x p (e ∙ ap (λ (u : Order). u.number) (sym q))) | inr q ↦ one_order os d.1 x y p q e ]
    ]

-- an order that is found by number and member stands there
pub found : (n m : ℕ) (os : List Order) (k : ℕ) → place (numbered_of n m) os ≡ Some k → (k < length os) × ((order_at os k).number ≡ n) × ((order_at os k).member ≡ m)
found n m os k e =
    let h : Placed (numbered_of n m) os (Some k) = placed_by (numbered_of n m) os (Some k) (sym e) in
    let o = order_at os k in
    let b = and_parts (eqb o.number n) (eqb o.member m) (h.1 blank) in
    (h.0, eqb-true o.number n b.0, eqb-true o.member m b.1)

pub kept_all : {X : Type 0} (p : X → Bool) (xs : List X) → AllByRecursion (λ x. p x ≡ true) xs → filter p xs ≡ xs
kept_all p [] h = refl
kept_all p (x ∷ xs) h = cond-true (p x) (x ∷ filter p xs) (filter p xs) h.0 ∙ ap (λ r. x ∷ r) (kept_all p xs h.1)

-- whether an order has another number than n
abbrev pub other : ℕ → Order → Bool
other n o = not (numbered n o)

pub is_other : (n : ℕ) (o : Order) → (o.number ≡ n → ⊥) → other n o ≡ true
is_other n o h = not_from_false (numbered n o) (ne_eqb o.number n h)

pub other_not : (n : ℕ) (o : Order) → other n o ≡ true → o.number ≡ n → ⊥
other_not n o h e = both_ways (numbered n o) (not-true (numbered n o) h) (eq-eqb o.number n e)

without_later : (o : Order) (os : List Order) (k : ℕ) → without (o ∷ os) (suc k) ≡ o ∷ without os k
without_later o os k = let e : suc k + 1 ≡ suc (k + 1) = omega arith in ap (λ j. o ∷ take k os ++ drop j (o ∷ os)) e

without_at : (n : ℕ) (os : List Order) → Distinct os → (k : ℕ) → k < length os → (order_at os k).number ≡ n → without os k ≡ filter (other n) os
without_at n [] d k h e = absurd (omega arith)
without_at n (o ∷ os) d zero h e =
    sym (cond-false (other n o) (o ∷ filter (other n) os) (filter (other n) os) (not_from_true (numbered n o) (eq-eqb o.number n e))
    ∙ kept_all (other n) os (in_all _ os (λ x i. is_other n x (λ z. all_in _ os d.0 x i (z ∙ sym e)))))
without_at n (o ∷ os) d (suc k) h e =
    without_later o os k
    ∙ ap (λ r. o ∷ r) (without_at n os d.1 k (omega arith) e)
    ∙ sym (cond-true (other n o) (o ∷ filter (other n) os) (filter (other n) os) (is_other n o (λ z. all_in _ os d.0 (order_at os k) (at_in os k (omega arith)) (e ∙ sym z))))

pub without_is : (n m : ℕ) (os : List Order) (k : ℕ) → Distinct os → place (numbered_of n m) os ≡ Some k → without os k ≡ filter (λ o. not (numbered n o)) os
without_is n m os k d e = let f = found n m os k e in without_at n os d k f.0 f.1
