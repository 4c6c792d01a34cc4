-- Rows that are gone through from the first: those that pass a test are moved to the front, in their order.
use Rattle.std.proofs.Common.{◌≡◌, ℕ, ◌+◌, ◌<◌, ◌≤◌, Bool, true, false, List, [], ◌∷◌, ◌++◌, length, get_or, set, take, drop, filter, sym, refl, ap, ◌∙◌, arith}
use Rattle.std.proofs.lemmas.List.{append-nil, take_more_set, drop-set-lt, drop_more}
use Rattle.std.proofs.lemmas.List.Elements.{filter_more}
use Rattle.std.proofs.lemmas.Bool.{cond-true, cond-false}
use Rattle.book.specs.declared.rows.Order.{Order}
use Rattle.book.specs.Ranks.{blank}

-- of the rows xs the first i are gone through: the k of them that passed stand in front, and the others as they were
pub record Kept (p : Order → Bool) (xs : List Order) (i k : ℕ) (ys : List Order) : Type 0 where
  pub few : k ≤ i
  pub front : take k ys ≡ filter p (take i xs)
  pub rest : drop i ys ≡ drop i xs

pub kept_first : (p : Order → Bool) (xs : List Order) → Kept p xs 0 0 xs
kept_first p xs = record { few = omega arith; front = refl; rest = refl }

module _ (p : Order → Bool) (xs : List Order) (i k : ℕ) (ys : List Order) (s : Kept p xs i k ys) (l : i < length xs) (m : i < length ys) where
  abbrev o : Order
  o = get_or xs i blank

  -- the row at i is still the one that it was
  pub kept_at : get_or ys i blank ≡ o
  kept_at = ap (λ t. get_or t 0 blank) (sym (drop_more ys i blank m) ∙ s.rest ∙ drop_more xs i blank l)

  after : drop (i + 1) ys ≡ drop (i + 1) xs
  after = ap (drop 1) (sym (drop_more ys i blank m) ∙ s.rest ∙ drop_more xs i blank l)

  pub kept_yes : (a : ℕ) (new : List Order) → p o ≡ true → a ≡ k + 1 → new ≡ set ys k o → Kept p xs (i + 1) a new
  kept_yes a new y e f =
      let longer : filter p (take (i + 1) xs) ≡ filter p (take i xs) ++ o ∷ [] = filter_more p xs i blank l ∙ ap (λ t. filter p (take i xs) ++ t) (cond-true _ _ _ y) in
      record {
        few = omega (arith, e, s.few);
        front = ap (take a) f ∙ ap (λ n. take n (set ys k o)) e ∙ take_more_set ys k o (omega (arith, s.few, m)) ∙ ap (λ t. t ++ o ∷ []) s.front ∙ sym longer;
        rest = ap (drop (i + 1)) f ∙ drop-set-lt (i + 1) ys k o (omega (arith, s.few)) ∙ after;
      }

  pub kept_no : (a : ℕ) (new : List Order) → p o ≡ false → a ≡ k → new ≡ ys → Kept p xs (i + 1) a new
  kept_no a new n e f =
      let same : filter p (take (i + 1) xs) ≡ filter p (take i xs) = filter_more p xs i blank l ∙ ap (λ t. filter p (take i xs) ++ t) (cond-false _ _ _ n) ∙ append-nil _ in
      record {
        few = omega (arith, e, s.few);
        front = ap (take a) f ∙ ap (λ t. take t ys) e ∙ s.front ∙ sym same;
        rest = ap (drop (i + 1)) f ∙ after;
      }
