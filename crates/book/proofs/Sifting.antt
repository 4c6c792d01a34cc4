-- A book that is gone through from the oldest order: what passes a test keeps its place, what does not leaves, and may leave something at the end.
use Rattle.std.proofs.Common.{◌≡◌, ℕ, ◌+◌, ◌<◌, ◌≤◌, Bool, true, false, List, [], ◌∷◌, ◌++◌, length, get_or, take, drop, filter, sym, refl, ap, ◌∙◌, arith, add-one}
use Rattle.std.proofs.Math.Seq.{take-append_seam, drop-append-add, get_or-append_seam, drop-cons, take-length, drop-length}
use Rattle.std.proofs.lemmas.List.{append-nil, append_assoc, length-append}
use Rattle.std.proofs.lemmas.List.Elements.{filter_more}
use Rattle.std.proofs.lemmas.Bool.{cond-true, cond-false}
use Rattle.book.specs.declared.rows.Order.{Order}
use Rattle.book.specs.Places.{without}
use Rattle.book.specs.Ranks.{blank, order_at}

-- of the orders os the first i are gone through: those of them that passed stand before `at`, then the others as they were, then what was put at the end
pub record Sifted (p : Order → Bool) (os : List Order) (i at : ℕ) (back now : List Order) : Type 0 where
  pub few : at ≤ i
  pub place : at ≡ length (filter p (take i os))
  pub rows : now ≡ filter p (take i os) ++ (drop i os ++ back)

without_seam : {X : Type 0} (xs : List X) (y : X) (ys : List X) → without (xs ++ y ∷ ys) (length xs) ≡ xs ++ ys
without_seam xs y ys =
    ap (λ t. t ++ drop (length xs + 1) (xs ++ y ∷ ys)) (take-append_seam xs (y ∷ ys))
    ∙ ap (λ t. xs ++ t) (drop-append-add xs (y ∷ ys) 1)

pub sifted_first : (p : Order → Bool) (os : List Order) → Sifted p os 0 0 [] os
sifted_first p os = record { few = omega arith; place = refl; rows = sym (append-nil os) }

module _ (p : Order → Bool) (os : List Order) (i at : ℕ) (back now : List Order) (s : Sifted p os i at back now) (l : i < length os) where
  abbrev o : Order
  o = get_or os i blank

  abbrev front : List Order
  front = filter p (take i os)

  abbrev rest : List Order
  rest = drop (i + 1) os

  here : drop i os ≡ o ∷ rest
  here = rw add-one (drop-cons os i blank l)

  split : now ≡ front ++ (o ∷ (rest ++ back))
  split = s.rows ∙ ap (λ t. front ++ (t ++ back)) here

  pub sifted_in : at < length now
  sifted_in = omega (arith, s.place, ap length split, length-append front (o ∷ (rest ++ back)))

  -- the order at `at` is the next one
  pub sifted_at : order_at now at ≡ o
  sifted_at = ap (λ t. get_or now t blank) s.place ∙ ap (λ t. get_or t (length front) blank) split ∙ get_or-append_seam front o (rest ++ back) blank

  pub sifted_keep : (a : ℕ) (more new : List Order) → p o ≡ true → a ≡ at + 1 → new ≡ now → more ≡ back → Sifted p os (i + 1) a more new
  sifted_keep a more new y e f g =
      let longer : filter p (take (i + 1) os) ≡ front ++ o ∷ [] = filter_more p os i blank l ∙ ap (λ t. front ++ t) (cond-true _ _ _ y) in
      record {
        few = omega (arith, e, s.few);
        place = omega (arith, e, s.place, ap length longer, length-append front (o ∷ []));
        rows =
            f ∙ split ∙ sym (append_assoc front (o ∷ []) (rest ++ back)) ∙ ap (λ t. t ++ (rest ++ back)) (sym longer)
            ∙ ap (λ t. filter p (take (i + 1) os) ++ (rest ++ t)) (sym g);
      }

  pub sifted_drop : (a : ℕ) (last more new : List Order) → p o ≡ false → a ≡ at → new ≡ without now at ++ last → more ≡ back ++ last → Sifted p os (i + 1) a more new
  sifted_drop a last more new n e f g =
      let same : filter p (take (i + 1) os) ≡ front = filter_more p os i blank l ∙ ap (λ t. front ++ t) (cond-false _ _ _ n) ∙ append-nil _ in
      let out : without now at ≡ front ++ (rest ++ back) = ap (without now) s.place ∙ ap (λ t. without t (length front)) split ∙ without_seam front o (rest ++ back) in
      record {
        few = omega (arith, e, s.few);
        place = e ∙ s.place ∙ ap length (sym same);
        rows =
            f ∙ ap (λ t. t ++ last) out ∙ append_assoc front (rest ++ back) last ∙ ap (λ t. front ++ t) (append_assoc rest back last)
            ∙ ap (λ t. front ++ (rest ++ t)) (sym g) ∙ ap (λ t. t ++ (rest ++ more)) (sym same);
      }

pub sifted_last : (p : Order → Bool) (os : List Order) (i at : ℕ) (back now : List Order) → i ≡ length os → Sifted p os i at back now → now ≡ filter p os ++ back
sifted_last p os i at back now e s =
    let r = rw e at s.rows in
    r
    ∙ ap (λ t. filter p t ++ (drop (length os) os ++ back)) (take-length os)
    ∙ ap (λ t. filter p os ++ (t ++ back)) (drop-length os)
