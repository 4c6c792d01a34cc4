-- Levels begin with level 1, and a sweep gives one level more.
use Rattle.std.proofs.Common.{◌≡◌, ℕ, ◌+◌, ◌<◌, ◌≤◌, ◌≢◌, List, length, set, replicate, sym, ap, ◌∙◌, inl, inr, arith}
use Rattle.std.proofs.lemmas.Bool.{cases_eq, cases_lt}
use Rattle.std.proofs.lemmas.List.{get_or-set_same, get_or-set_other, length-set, get_or_past}
use Rattle.routes.proofs.Made.{blank}
use Rattle.routes.specs.Levels.{lv, Next, Levels}
use Rattle.routes.specs.Paths.{Relation, Hop}

module _ (O : Relation) (q : ℕ) (l : q < 16) where
  at : (k : ℕ) → k ≢ q → lv (set (replicate 16 0) q 1) k ≡ 0
  at k h = get_or-set_other (replicate 16 0) q k 1 0 h ∙ blank 16 k 0

  here : lv (set (replicate 16 0) q 1) q ≡ 1
  here = get_or-set_same (replicate 16 0) q 1 0 l

  at_most : (k : ℕ) → lv (set (replicate 16 0) q 1) k ≤ 1
  at_most k = elim (cases_eq k q) [
    | inl e ↦ let g : lv (set (replicate 16 0) q 1) k ≡ lv (set (replicate 16 0) q 1) q = ap (lv (set (replicate 16 0) q 1)) e in omega (arith, here)
    | inr n ↦ omega (arith, at k n)
  ]

  pub found_first : Levels O q (set (replicate 16 0) q 1) 1 1
  found_first = record {
    size = length-set (replicate 16 0) q 1;
    goal = l;
    first = here;
    only = λ a k h. elim (cases_eq a q) [ inl e ↦ e | inr n ↦ absurd (omega (arith, at a n)) ];
    most = at_most;
    onward = λ a m k h. absurd (omega (arith, at_most a));
    back = λ a b o p k. absurd (omega arith);
  }

module _ (O : Relation) (q : ℕ) (d e : List ℕ) (n : ℕ) (pos : 1 ≤ n) (f : Levels O q d n n) (long : length e ≡ 16) (next : (a : ℕ) → a < 16 → Next O d n a (lv e a)) where
  -- an area of level n or lower had it before
  was : (a : ℕ) → a < 16 → 0 < lv e a → lv e a < n + 1 → lv d a ≡ lv e a
  was a l p k = elim (cases_eq (lv d a) 0) [
    | inl z ↦ elim ((next a l).newly z) [ inl u ↦ absurd (omega (arith, u.0)) | inr u ↦ absurd (omega (arith, u.0)) ]
    | inr z ↦ sym ((next a l).kept (omega arith))
  ]

  above : (a : ℕ) → lv e a ≤ n + 1
  above a = elim (cases_lt a 16) [
    | inl l ↦ elim (cases_eq (lv d a) 0) [
      | inl z ↦ elim ((next a l).newly z) [ inl u ↦ omega (arith, u.0) | inr u ↦ omega (arith, u.0) ]
      | inr z ↦ let k : lv e a ≡ lv d a = (next a l).kept (omega arith) in omega (arith, f.most a)
    ]
    | inr l ↦ omega (arith, get_or_past e a 0 (omega arith))
  ]

  to : (a m : ℕ) → a < 16 → lv e a ≡ m + 2 → (b : ℕ) × Hop O a b × (lv e b ≡ m + 1)
  to a m l h = elim (cases_eq (lv d a) 0) [
    | inl z ↦ elim ((next a l).newly z) [
      | inl u ↦ absurd (omega (arith, u.0))
      | inr u ↦
          let r = u.1 in
          let g : lv d r.0 ≡ n = r.2 in
          let k : lv e r.0 ≡ lv d r.0 = (next r.0 r.1.1).kept (omega arith) in
          (r.0, r.1, omega (arith, u.0))
    ]
    | inr z ↦
        let k : lv e a ≡ lv d a = (next a l).kept (omega arith) in
        let r = f.onward a m l (omega arith) in
        let g : lv d r.0 ≡ m + 1 = r.2 in
        let j : lv e r.0 ≡ lv d r.0 = (next r.0 r.1.1).kept (omega arith) in
        (r.0, r.1, omega arith)
  ]

  from : (a b : ℕ) → Hop O a b → 0 < lv e b → lv e b < n + 1 → (0 < lv e a) × (lv e a ≤ lv e b + 1)
  from a b o p k =
      let w : lv d b ≡ lv e b = was b o.1 p k in
      elim (cases_eq (lv d a) 0) [
        | inl z ↦ elim ((next a o.0).newly z) [
          | inl u ↦ elim (cases_eq (lv d b) n) [
            | inl g ↦ absurd (u.1 b o g)
            | inr g ↦ let r = f.back a b o (omega arith) (omega arith) in absurd (omega (arith, r.0))
          ]
          | inr u ↦ elim (cases_eq (lv d b) n) [
            | inl g ↦ (omega (arith, u.0), omega (arith, u.0))
            | inr g ↦ let r = f.back a b o (omega arith) (omega arith) in absurd (omega (arith, r.0))
          ]
        ]
        | inr z ↦
            let j : lv e a ≡ lv d a = (next a o.0).kept (omega arith) in
            elim (cases_eq (lv d b) n) [
              | inl g ↦ (omega arith, omega (arith, f.most a))
              | inr g ↦ let r = f.back a b o (omega arith) (omega arith) in (omega arith, omega (arith, r.1))
            ]
      ]

  pub found_next : Levels O q e (n + 1) (n + 1)
  found_next = record {
    size = long;
    goal = f.goal;
    first = let k : lv d q ≡ 1 = f.first in (next q f.goal).kept (omega arith) ∙ k;
    only = λ a l h. f.only a l (was a l (omega arith) (omega arith) ∙ h);
    most = above;
    onward = to;
    back = from;
  }
