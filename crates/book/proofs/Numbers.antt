-- No number comes twice, whatever is done to the book.
use Rattle.std.proofs.Common.{◌≡◌, ℕ, zero, suc, ◌+◌, ◌≤◌, Bool, true, false, ◌||◌, eqb, ltb, List, [], ◌∷◌, ◌++◌, map, length, take, drop, None, filter, sym, refl, ap, ◌∙◌, subst, inl, inr, arith}
use Rattle.std.specs.List.{AllByRecursion}
use Rattle.std.proofs.ByRecursion.{All-append, All-map, All-weaker, all_kept_by, All-push, All-take, All-drop}
use Rattle.std.proofs.lemmas.Bool.{cases_Bool, cond-true, cond-false, and_left, not_from_true, eqb-false}
use Rattle.book.specs.declared.rows.Order.{Order}
use Rattle.book.specs.Orders.{shows, run_out, next_slice}
use Rattle.book.specs.Orderly.{Lacks, Distinct}
use Rattle.book.specs.Places.{appended, without, place, numbered}
use Rattle.book.specs.Trades.{struck, settled}
use Rattle.book.proofs.Searches.{placed_by}
use Rattle.book.proofs.Lasting.{all_both}

distinct_drop : (j : ℕ) (os : List Order) → Distinct os → Distinct (drop j os)
distinct_drop zero os d = d
distinct_drop (suc j) [] d = tt
distinct_drop (suc j) (o ∷ os) d = distinct_drop j os d.1

distinct_cut : (i j : ℕ) (os : List Order) → i ≤ j → Distinct os → Distinct (take i os ++ drop j os)
distinct_cut zero j os h d = distinct_drop j os d
distinct_cut (suc i) zero os h d = absurd (omega arith)
distinct_cut (suc i) (suc j) [] h d = tt
distinct_cut (suc i) (suc j) (o ∷ os) h d =
    let P : Order → Type 0 = λ x. x.number ≡ o.number → ⊥ in
    (All-append P (take i os) (drop j os) (All-take P i os d.0) (All-drop P j os d.0), distinct_cut i j os (omega arith) d.1)

pub distinct_without : (os : List Order) (i : ℕ) → Distinct os → Distinct (without os i)
distinct_without os i d = distinct_cut i (i + 1) os (omega arith) d

pub distinct_kept : (p : Order → Bool) (os : List Order) → Distinct os → Distinct (filter p os)
distinct_kept p [] d = tt
distinct_kept p (o ∷ os) d =
    elim (cases_Bool (p o)) [
      | inl y ↦ subst Distinct (sym (cond-true (p o) (o ∷ filter p os) (filter p os) y)) (all_kept_by p (λ x. x.number ≡ o.number → ⊥) os d.0, distinct_kept p os d.1)
      | inr n ↦ subst Distinct (sym (cond-false (p o) (o ∷ filter p os) (filter p os) n)) (distinct_kept p os d.1)
    ]

pub distinct_push : (os : List Order) (o : Order) → Distinct os → Lacks o.number os → Distinct (os ++ o ∷ [])
distinct_push [] o d h = (tt, tt)
distinct_push (x ∷ os) o d h = (All-push (λ y. y.number ≡ x.number → ⊥) os o d.0 (λ e. h.0 (sym e)), distinct_push os o d.1 h.1)

-- a search that finds none says that there is none
pub lacks : (n : ℕ) (os : List Order) → place (numbered n) os ≡ None → Lacks n os
lacks n os e = All-weaker (λ o. numbered n o ≡ false) (λ o. o.number ≡ n → ⊥) (λ o h. eqb-false o.number n h) os (placed_by (numbered n) os None (sym e))

pub distinct_appended : (os : List Order) (o : Order) → Distinct os → place (numbered o.number) os ≡ None → Distinct (appended os o)
distinct_appended os o d e =
    elim (cases_Bool (ltb (length os) 128)) [
      | inl y ↦ subst Distinct (sym (cond-true _ (os ++ o ∷ []) os y)) (distinct_push os o d (lacks o.number os e))
      | inr n ↦ subst Distinct (sym (cond-false _ (os ++ o ∷ []) os n)) d
    ]

-- a change that keeps numbers
module _ (f : Order → Order) (same : (o : Order) → (f o).number ≡ o.number) where
  lacks_map : (n : ℕ) (os : List Order) → Lacks n os → Lacks n (map f os)
  lacks_map n os h = All-map (λ o. o.number ≡ n → ⊥) f os (All-weaker (λ o. o.number ≡ n → ⊥) (λ o. (f o).number ≡ n → ⊥) (λ o ne e. ne (sym (same o) ∙ e)) os h)

  distinct_map : (os : List Order) → Distinct os → Distinct (map f os)
  distinct_map [] d = tt
  distinct_map (o ∷ os) d = (lacks_map (f o).number os (subst (λ n. Lacks n os) (sym (same o)) d.0), distinct_map os d.1)

distinct_both : (xs ys : List Order) → Distinct xs → Distinct ys → AllByRecursion (λ x. Lacks x.number ys) xs → Distinct (xs ++ ys)
distinct_both [] ys d e h = e
distinct_both (x ∷ xs) ys d e h = (All-append (λ y. y.number ≡ x.number → ⊥) xs ys d.0 h.0, distinct_both xs ys d.1 e h.1)

-- two parts of one book have no number in common
apart_lack : (p q : Order → Bool) → ((o : Order) → p o ≡ true → q o ≡ false) → (os : List Order) → Distinct os → AllByRecursion (λ x. Lacks x.number (filter q os)) (filter p os)
apart_lack p q apart [] d = tt
apart_lack p q apart (o ∷ os) d =
    let more = apart_lack p q apart os d.1 in
    let L : List Order → Order → Type 0 = λ r x. Lacks x.number r in
    let G : List Order → List Order → Type 0 = λ xs ys. AllByRecursion (L ys) xs in
    elim (cases_Bool (p o)) [
      | inl y ↦
          subst (λ xs. G xs (filter q (o ∷ os))) (sym (cond-true (p o) (o ∷ filter p os) (filter p os) y))
          (subst (λ ys. G (o ∷ filter p os) ys) (sym (cond-false (q o) (o ∷ filter q os) (filter q os) (apart o y)))
          (all_kept_by q (λ x. x.number ≡ o.number → ⊥) os d.0, more))
      | inr n ↦
          subst (λ xs. G xs (filter q (o ∷ os))) (sym (cond-false (p o) (o ∷ filter p os) (filter p os) n))
          (elim (cases_Bool (q o)) [
            | inl z ↦
                subst (λ ys. G (filter p os) ys) (sym (cond-true (q o) (o ∷ filter q os) (filter q os) z))
                (all_both (λ x. o.number ≡ x.number → ⊥) (L (filter q os)) (filter p os)
                (All-weaker (λ x. x.number ≡ o.number → ⊥) (λ x. o.number ≡ x.number → ⊥) (λ x ne e. ne (sym e)) (filter p os) (all_kept_by p (λ x. x.number ≡ o.number → ⊥) os d.0))
                more)
            | inr z ↦ subst (λ ys. G (filter p os) ys) (sym (cond-false (q o) (o ∷ filter q os) (filter q os) z)) more
          ])
    ]

same_struck : (b s q : ℕ) (o : Order) → (struck b s q o).number ≡ o.number
same_struck b s q o =
    elim (cases_Bool (eqb o.number b || eqb o.number s)) [
      | inl y ↦ ap (λ (r : Order). r.number) (cond-true _ _ _ y)
      | inr n ↦ ap (λ (r : Order). r.number) (cond-false _ _ _ n)
    ]

shown_not_out : (o : Order) → shows o ≡ true → run_out o ≡ false
shown_not_out o y = and_left _ _ (not_from_true _ y)

pub distinct_settled : (b s q : ℕ) (os : List Order) → Distinct os → Distinct (settled b s q os)
distinct_settled b s q os d =
    let ys = map (struck b s q) os in
    let e = distinct_map (struck b s q) (same_struck b s q) os d in
    let out = filter run_out ys in
    distinct_both (filter shows ys) (map next_slice out)
    (distinct_kept shows ys e)
    (distinct_map next_slice (λ o. refl) out (distinct_kept run_out ys e))
    (All-weaker (λ x. Lacks x.number out) (λ x. Lacks x.number (map next_slice out)) (λ x h. lacks_map next_slice (λ o. refl) x.number out h) (filter shows ys) (apart_lack shows run_out shown_not_out ys e))
