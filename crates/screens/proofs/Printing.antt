-- A view that was lent lines enough, heard line after line.
use Rattle.std.proofs.Common.{◌≡◌, ℕ, ◌+◌, ◌<◌, ◌≤◌, Bool, List, [], ◌∷◌, ◌++◌, map, length, get_or, take, Ok, Err, sym, refl, ap, ◌∙◌, inl, inr, arith, append-nil}
use Rattle.std.specs.List.{AllByRecursion}
use Rattle.std.proofs.lemmas.List.{take_more, take_all, map-append}
use Rattle.capacity.specs.Tests.{answered}
use Rattle.reading.specs.Printing.{Line, line_text, lines_text, LineReadsBack}
use Rattle.reading.specs.Sinks.{Hearing, Whole}
use Rattle.reading.proofs.Heard.{heard_as, lines_text_append}
use Rattle.session.specs.Calls.{Test}
use Rattle.session.specs.Faults.{told}
use Rattle.session.specs.declared.faults.SessionFault.{SessionFault}
use Rattle.views.specs.Views.{Viewed}
use Rattle.screens.specs.Printing.{HeardBack}
use Rattle.screens.specs.Screens.{ViewLines}

-- refused by the tests, since there are lines enough
pub by_tests : {A : Type 0} (precedes : A → A → Bool) (ts : List Test) (Lines : List A → Type 0) (before after : List A) → ((xs : List A) → Lines xs → length xs ≤ length after) → (e : SessionFault) → Viewed precedes ts Lines before (Err e) after → answered ts ≡ Err (told e)
by_tests precedes ts Lines before after fits e v = elim v.0 [ inl p ↦ p | inr p ↦ absurd (omega (arith, fits p.2.0 p.2.1, p.2.2, ap length v.1)) ]

module _ {S : Type 0} (hears : Hearing S) (whole : Whole hears) where
  pub lines_heard : (ls ms : List Line) (s t u : S) → hears s (lines_text ls) t → hears t (lines_text ms) u → hears s (lines_text (ls ++ ms)) u
  lines_heard ls ms s t u h k = heard_as hears whole s u _ _ (sym (lines_text_append ls ms)) (whole.joined s t u (lines_text ls) (lines_text ms) h k)

  module _ {A : Type 0} (printed : A → Line) where
    -- the lines before place i are heard, and then the one there
    pub line_heard : (xs : List A) (i : ℕ) (d : A) (s t u : S) → i < length xs → hears s (lines_text (map printed (take i xs))) t → hears t (line_text (printed (get_or xs i d))) u → hears s (lines_text (map printed (take (i + 1) xs))) u
    line_heard xs i d s t u l h k =
        let x = get_or xs i d in
        let more : map printed (take (i + 1) xs) ≡ map printed (take i xs) ++ (printed x ∷ []) =
        ap (map printed) (take_more xs i d l) ∙ map-append printed (take i xs) (x ∷ []) in
        let one : hears t (lines_text (printed x ∷ [])) u = heard_as hears whole t u _ _ (sym (append-nil (line_text (printed x)))) k in
        heard_as hears whole s u _ _ (ap lines_text (sym more)) (lines_heard (map printed (take i xs)) (printed x ∷ []) s t u h one)

    pub all_heard : (xs : List A) (i : ℕ) (s t : S) → length xs ≤ i → hears s (lines_text (map printed (take i xs))) t → hears s (lines_text (map printed xs)) t
    all_heard xs i s t l h = heard_as hears whole s t _ _ (ap (λ (ys : List A). lines_text (map printed ys)) (take_all i xs l)) h

    -- the lines in use are those of the view
    pub view_heard : (precedes : A → A → Bool) (ts : List Test) (Lines : List A → Type 0) (before after : List A) (n : ℕ) (s t : S) → Viewed precedes ts Lines before (Ok n) after → AllByRecursion LineReadsBack (map printed (take n after)) → hears s (lines_text (map printed (take n after))) t → HeardBack hears (ViewLines precedes Lines printed) s t
    view_heard precedes ts Lines before after n s t v back h =
        (map printed (take n after), record { lines = v.1.0; all = v.1.1; ranked = take n after; ranks = v.1.3.ranked; lines_are = refl }, back, h)
