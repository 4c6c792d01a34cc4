-- How each exit of a view answers it; that it has one answer, and leaves one list of lines.
use Rattle.std.proofs.Common.{◌≡◌, ℕ, Bool, List, ◌++◌, length, take, drop, Ok, Err, Result, MatchResult, sym, refl, ap, ◌∙◌, subst, inl, inr, arith}
use Rattle.std.proofs.lemmas.List.{take-append-drop}
use Rattle.capacity.specs.Tests.{answered}
use Rattle.ranking.proofs.Laws.{one_ranking}
use Rattle.ranking.specs.Order.{StrictOrder}
use Rattle.session.specs.declared.faults.SessionFault.{SessionFault}
use Rattle.session.specs.declared.faults.SessionFault.TheVariants.{Places}
use Rattle.session.specs.Calls.{Test}
use Rattle.session.specs.Faults.{told}
use Rattle.views.specs.Views.{Held, TooFew, Written, Viewed, OnlyView}

-- an answer that refuses does not accept
not_both : {T : Type 0} (a : Result (Unit {0}) T) (e : T) → a ≡ Err e → a ≡ Ok tt → ⊥
not_both a e p q = let z : ◌≡◌ {A = ℕ} 0 1 = cc in omega arith

module _ {A : Type 0} (precedes : A → A → Bool) (o : StrictOrder precedes) (ts : List Test) (Lines : List A → Type 0) (one : (xs ys : List A) → Lines xs → Lines ys → xs ≡ ys) (before : List A) where
  fits_or_not : (n : ℕ) (after : List A) → TooFew Lines before → Written precedes Lines before n after → ⊥
  fits_or_not n after t w = omega (arith, t.2, w.2, ap length (one t.0 w.0 t.1 w.1))

  one_held : (xs : List A) (n k : ℕ) (u v : List A) → Held precedes xs before u n → Held precedes xs before v k → (n ≡ k) × (u ≡ v)
  one_held xs n k u v h g =
      let e : n ≡ k = h.count ∙ sym g.count in
      let also : Held precedes xs before v n = subst (λ (i : ℕ). Held precedes xs before v i) (sym e) g in
      let front : take n u ≡ take n v = one_ranking precedes o xs (take n u) (take n v) h.ranked also.ranked in
      let rest : drop n u ≡ drop n v = h.rest ∙ sym also.rest in
      (e, sym (take-append-drop n u) ∙ ap (λ (l : List A). l ++ drop n u) front ∙ ap (λ (l : List A). take n v ++ l) rest ∙ take-append-drop n v)

  one_written : (n k : ℕ) (u v : List A) → Written precedes Lines before n u → Written precedes Lines before k v → (n ≡ k) × (u ≡ v)
  one_written n k u v w z =
      let also : Held precedes w.0 before v k = subst (λ (l : List A). Held precedes l before v k) (one z.0 w.0 z.1 w.1) z.3 in
      one_held w.0 n k u v w.3 also

  one_refusal : (e f : SessionFault) (u v : List A) → Viewed precedes ts Lines before (Err e) u → Viewed precedes ts Lines before (Err f) v → told e ≡ told f
  one_refusal e f u v h g =
      elim h.0 [
        | inl p ↦ elim g.0 [ inl q ↦ cc | inr q ↦ absurd (not_both (answered ts) (told e) p q.0) ]
        | inr p ↦ elim g.0 [ inl q ↦ absurd (not_both (answered ts) (told f) q p.0) | inr q ↦ p.1 ∙ sym q.1 ]
      ]

  refused_or_written : (e : SessionFault) (n : ℕ) (u v : List A) → Viewed precedes ts Lines before (Err e) u → Viewed precedes ts Lines before (Ok n) v → ⊥
  refused_or_written e n u v h g =
      elim h.0 [
        | inl p ↦ not_both (answered ts) (told e) p g.0
        | inr p ↦ fits_or_not n v p.2 g.1
      ]

  pub only_view : (r : Result ℕ SessionFault) (after : List A) → Viewed precedes ts Lines before r after → OnlyView precedes ts Lines before r after
  only_view (Ok n) u h (Ok k) v g = let e = one_written k n v u g.1 h.1 in (ap Ok e.0, e.1)
  only_view (Ok n) u h (Err f) v g = absurd (refused_or_written f n v u g h)
  only_view (Err e) u h (Ok k) v g = absurd (refused_or_written e k u v h g)
  only_view (Err e) u h (Err f) v g = (ap Err (one_refusal f e v u g h), g.1 ∙ sym h.1)

  -- the answer, and that it is the only one
  abbrev pub Answers : Result ℕ SessionFault → List A → Type 0
  Answers r after = Viewed precedes ts Lines before r after × OnlyView precedes ts Lines before r after

  for_want : Ok tt ≡ answered ts → TooFew Lines before → Answers (Err Places) before
  for_want h t =
      let v : Viewed precedes ts Lines before (Err Places) before = (inr (sym h, refl, t), refl) in
      (v, only_view (Err Places) before v)

  by_lines : (n : ℕ) (after : List A) → Ok tt ≡ answered ts → Written precedes Lines before n after → Answers (Ok n) after
  by_lines n after h w =
      let v : Viewed precedes ts Lines before (Ok n) after = (sym h, w) in
      (v, only_view (Ok n) after v)

  -- the lines counted and put in, where All tells of them
  pub by_fill : (All : List A → Type 0) → ((xs : List A) → All xs → Lines xs) → Ok tt ≡ answered ts → (r : Result ℕ SessionFault) (after : List A)
      → MatchResult r (λ n. Written precedes All before n after) (λ e. (e ≡ Places) × TooFew All before × (after ≡ before)) → Answers r after
  by_fill All is h (Ok n) after w = by_lines n after h (w.0, is w.0 w.1, w.2, w.3)
  by_fill All is h (Err e) after w =
      subst (λ (f : SessionFault). Answers (Err f) after) (sym w.0) (subst (Answers (Err Places)) (sym w.2) (for_want h (w.1.0, is w.1.0 w.1.1, w.1.2)))
