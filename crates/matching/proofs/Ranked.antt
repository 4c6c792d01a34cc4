-- The best place so far, one place on; and the pair that the best buy and the best sell make.
use Rattle.std.proofs.Common.{◌≡◌, ℕ, ◌+◌, ◌<◌, ◌≤◌, Bool, true, false, ◌⊎◌, List, length, Some, None, Option, Decides, sym, refl, ◌∙◌, subst, inl, inr, arith}
use Rattle.std.proofs.lemmas.Bool.{cases_lt, cases_eq}
use Rattle.std.proofs.lemmas.Bool.Decides.{not_from_Decides}
use Rattle.book.specs.declared.rows.Order.{Order}
use Rattle.book.specs.Ranks.{RanksAbove}
use Rattle.book.proofs.Ranking.{strict}
use Rattle.matching.specs.Bests.{Best, Higher, OneSide, Passes}

module _ (T : ℕ → Bool → Type 0) (os : List Order) (f : ℕ) where
  -- a place that does not pass
  pub passes_past : (b : Option ℕ) (k : ℕ) → Passes T os f k b → T k false → Passes T os f (k + 1) b
  passes_past None k h n = record {
    highest = λ m g l. elim (cases_lt m k) [ inl u ↦ h.highest m g u | inr u ↦ let e : k ≡ m = omega arith in subst (λ x. T x false) e n ];
  }
  passes_past (Some b) k h n = record {
    highest = (
      h.highest.0,
      h.highest.1,
      λ m g l. elim (cases_lt m k) [ inl u ↦ h.highest.2 m g u | inr u ↦ let e : k ≡ m = omega arith in inl (subst (λ x. T x false) e n) ],
    );
  }

  -- one that passes, and ranks above the best so far
  newer : (b k : ℕ) → Passes T os f k (Some b) → k < length os → T k true → RanksAbove os k b → Passes T os f (k + 1) (Some k)
  newer b k h i p a = record {
    highest = (
      i,
      p,
      λ m g l. elim (cases_lt m k) [
        | inl u ↦ elim (h.highest.2 m g u) [
          | inl n ↦ inl n
          | inr (inl e) ↦ inr (inr (subst (λ x. RanksAbove os k x) (sym e) a))
          | inr (inr r) ↦ inr (inr ((strict os).carries k b m a r))
        ]
        | inr u ↦ let e : m ≡ k = omega arith in inr (inl e)
      ],
    );
  }

  -- one that passes, and does not
  older : OneSide T os → (b k : ℕ) → Passes T os f k (Some b) → k < length os → T k true → (RanksAbove os k b → ⊥) → Passes T os f (k + 1) (Some b)
  older s b k h i p n =
      let w = h.highest in
      let above : (k ≡ b) ⊎ RanksAbove os b k = elim (cases_eq k b) [
        | inl e ↦ inl e
        | inr ne ↦ elim ((strict os).one_of k b i w.0 (s.1 k i p ∙ sym (s.1 b w.0 w.1)) ne) [ inl a ↦ absurd (n a) | inr a ↦ inr a ]
      ] in record {
        highest = (
          w.0,
          w.1,
          λ m g l. elim (cases_lt m k) [
            | inl u ↦ w.2 m g u
            | inr u ↦ let e : k ≡ m = omega arith in inr (subst (λ z. (z ≡ b) ⊎ RanksAbove os b z) e above)
          ],
        );
      }

  pub passes_more : OneSide T os → (b : Option ℕ) (k r : ℕ) → Passes T os f k b → k < length os → T k true → Higher os b k r → Passes T os f (k + 1) (Some r)
  passes_more s None k r h i p e = subst (λ x. Passes T os f (k + 1) (Some x)) (sym e) (record {
    highest = (i, p, λ m g l. elim (cases_lt m k) [ inl u ↦ inl (h.highest m g u) | inr u ↦ let e : m ≡ k = omega arith in inr (inl e) ]);
  })
  passes_more s (Some b) k r h i p (inl a) = subst (λ x. Passes T os f (k + 1) (Some x)) (sym a.0) (newer b k h i p a.1)
  passes_more s (Some b) k r h i p (inr a) = subst (λ x. Passes T os f (k + 1) (Some x)) (sym a.0) (older s b k h i p a.1)

  -- of fewer places
  pub passes_less : (b : Option ℕ) (n m : ℕ) → m ≤ n → Passes T os f n b → Passes T os f m b
  passes_less None n m e h = record { highest = λ k g l. h.highest k g (omega arith) }
  passes_less (Some b) n m e h = record { highest = (h.highest.0, h.highest.1, λ k g l. h.highest.2 k g (omega arith)) }

-- the best of the places at which the test decides P, none of which stands outside
pub best_of : {T : ℕ → Bool → Type 0} {os : List Order} {f n : ℕ} {r : Option ℕ} → Passes T os f n r → (P : ℕ → Type 0) → ((k : ℕ) (b : Bool) → T k b → Decides b (P k)) → ((k : ℕ) → k < length os → P k → (f ≤ k) × (k < n)) → Best P os r
best_of {r = None} h P says inside = λ k l p. let i = inside k l p in not_from_Decides false (says k false (h.highest k i.0 i.1)) refl p
best_of {r = Some b} h P says inside = (
  (says b true h.highest.1).0 refl,
  λ k l p. let i = inside k l p in elim (h.highest.2 k i.0 i.1) [ inl f ↦ absurd (not_from_Decides false (says k false f) refl p) | inr g ↦ g ],
)
