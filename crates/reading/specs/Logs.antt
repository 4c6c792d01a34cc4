-- What the text on the heap has heard, what room it has, and that it hears the whole.
use Rattle.std.specs.Prelude.{◌≡◌, ℕ, ◌+◌, ◌≤◌, List, ◌++◌, length, Some, Option, MatchResult, vec_items, vec_len, vec_capacity}
use Rattle.std.specs.Option.{option_map}
use Rattle.std.specs.Result.{result_ok}
use Rattle.std.proofs.Common.{sym, ap, ◌∙◌, subst, append-nil, append_assoc, length-append, add_assoc, zero-add}
use Rattle.reading.specs.declared.text.TextLog.{TextLog}
use Rattle.reading.specs.Sinks.{Whole}

-- the text that it has heard, where there was memory enough for all of it
abbrev pub heard : TextLog → Option (List ℕ)
heard l = option_map (λ v. vec_items v) (result_ok l.text)

-- it has heard all, and has room for n bytes more
abbrev pub Room : TextLog → ℕ → Type 0
Room l n = MatchResult l.text (λ v. vec_len v + n ≤ vec_capacity v) (λ e. ⊥)

-- where there is memory enough for b there was for a, and the text of b is that of a and then this;
-- and where a has room for this and n bytes more, b has room for those
pub record Hears (a : TextLog) (text : List ℕ) (b : TextLog) : Type 0 where
  pub adds : (x : List ℕ) → heard b ≡ Some x → (y : List ℕ) × (heard a ≡ Some y) × (x ≡ y ++ text)
  pub fits : (n : ℕ) → Room a (length text + n) → Room b n

then_adds : (s t u : TextLog) (a b : List ℕ) → Hears s a t → Hears t b u → (x : List ℕ) → heard u ≡ Some x → (y : List ℕ) × (heard s ≡ Some y) × (x ≡ y ++ (a ++ b))
then_adds s t u a b h k x e =
    let (y, before, f) = k.adds x e in
    let (z, first, g) = h.adds y before in
    (z, first, f ∙ ap (λ (w : List ℕ). w ++ b) g ∙ append_assoc z a b)

then_fits : (s t u : TextLog) (a b : List ℕ) → Hears s a t → Hears t b u → (n : ℕ) → Room s (length (a ++ b) + n) → Room u n
then_fits s t u a b h k n room =
    k.fits n (h.fits (length b + n) (subst (λ (m : ℕ). Room s m) (ap (λ (m : ℕ). m + n) (length-append a b) ∙ add_assoc (length a) (length b) n) room))

pub log_whole : Whole Hears
log_whole = record {
  nothing = λ s. record { adds = λ x e. (x, e, sym (append-nil x)); fits = λ n room. subst (λ (m : ℕ). Room s m) (zero-add n) room };
  joined = λ s t u a b h k. record { adds = then_adds s t u a b h k; fits = then_fits s t u a b h k };
}
