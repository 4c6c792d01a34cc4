-- What a sink hears, part after part.
use Rattle.std.proofs.Common.{◌≡◌, ℕ, ◌+◌, ◌<◌, List, [], ◌∷◌, ◌++◌, map, length, get_or, take, codes, sym, refl, ap, ◌∙◌, subst, append_assoc, append-nil}
use Rattle.std.proofs.lemmas.List.{take_more, map-append}
use Rattle.numbers.specs.Printing.{shown}
use Rattle.reading.specs.Printing.{Number, Line, numbers_text, line_text, lines_text}
use Rattle.reading.specs.Sinks.{Hearing, Whole}

pub numbers_text_append : (xs ys : List Number) → numbers_text (xs ++ ys) ≡ numbers_text xs ++ numbers_text ys
numbers_text_append [] ys = refl
numbers_text_append (x ∷ xs) ys =
    ap (λ (t : List ℕ). codes " " ++ (shown x.unit x.count ++ t)) (numbers_text_append xs ys)
    ∙ ap (λ (t : List ℕ). codes " " ++ t) (sym (append_assoc (shown x.unit x.count) (numbers_text xs) (numbers_text ys)))

pub lines_text_append : (xs ys : List Line) → lines_text (xs ++ ys) ≡ lines_text xs ++ lines_text ys
lines_text_append [] ys = refl
lines_text_append (x ∷ xs) ys = ap (λ (t : List ℕ). line_text x ++ t) (lines_text_append xs ys) ∙ sym (append_assoc (line_text x) (lines_text xs) (lines_text ys))

module _ {S : Type 0} (hears : Hearing S) (whole : Whole hears) where
  -- the same text by another equation
  pub heard_as : (s t : S) (a b : List ℕ) → a ≡ b → hears s a t → hears s b t
  heard_as s t a b e = subst (λ (x : List ℕ). hears s x t) e

  -- the numbers before place i, a space and the number there
  pub number_heard : {A : Type 0} (number : A → Number) (xs : List A) (i : ℕ) (d : A) (s t u v : S) → i < length xs → hears s (numbers_text (map number (take i xs))) t → hears t (codes " ") u → hears u (shown (number (get_or xs i d)).unit (number (get_or xs i d)).count) v → hears s (numbers_text (map number (take (i + 1) xs))) v
  number_heard {A = A} number xs i d s t u v l h k m =
      let x = number (get_or xs i d) in
      let before = numbers_text (map number (take i xs)) in
      let more : numbers_text (map number (take (i + 1) xs)) ≡ before ++ (codes " " ++ shown x.unit x.count) =
      ap (λ (ys : List A). numbers_text (map number ys)) (take_more xs i d l)
      ∙ ap numbers_text (map-append number (take i xs) (get_or xs i d ∷ []))
      ∙ numbers_text_append (map number (take i xs)) (x ∷ [])
      ∙ ap (λ (y : List ℕ). before ++ (codes " " ++ y)) (append-nil (shown x.unit x.count)) in
      heard_as s v _ _ (sym more) (whole.joined s t v before (codes " " ++ shown x.unit x.count) h (whole.joined t u v (codes " ") (shown x.unit x.count) k m))

  -- a letter, numbers, more numbers and the end of the line
  pub line_heard : (letter : List ℕ) (ns ms : List Number) (s t u v w : S) → hears s letter t → hears t (numbers_text ns) u → hears u (numbers_text ms) v → hears v (codes "\n") w → hears s (line_text (record { letter = letter; numbers = ns ++ ms })) w
  line_heard letter ns ms s t u v w h k m n =
      let all : hears t ((numbers_text ns ++ numbers_text ms) ++ codes "\n") w = whole.joined t v w _ _ (whole.joined t u v _ _ k m) n in
      whole.joined s t w _ _ h (heard_as t w _ _ (ap (λ (x : List ℕ). x ++ codes "\n") (sym (numbers_text_append ns ms))) all)
