-- A step made at each hop of a list, by what goes through its neighbours two by two.
use Rattle.std.proofs.Common.{◌≡◌, ℕ, ◌<◌, ◌≤◌, List, [], ◌∷◌, length, get_or, take, drop, None, refl, sym, ap, ◌∙◌, subst, arith}
use Rattle.std.specs.Fn.{Mut, Called}
use Rattle.std.specs.Iterator.{FoldsItems, FoldTurn, Yields}
use Rattle.std.specs.List.{FoldsTo}
use Rattle.std.specs.Slice.ArrayWindows.{array_windows_parts, array_windows_steps}
use Rattle.std.specs.Slice.Iter.{windows_rest, windows_size}
use Rattle.std.specs.declared.slice.ArrayWindows.{ArrayWindows}
use denote.Ref.{Bor}
use Rattle.flows.specs.Hops.{along}

-- the areas that a walk over the pairs has still before it
abbrev pub ahead : ArrayWindows ℕ 2 → List ℕ
ahead w = windows_rest (array_windows_parts w)

abbrev pub TwoByTwo : ArrayWindows ℕ 2 → Type 0
TwoByTwo w = windows_size (array_windows_parts w) ≡ 2

module _ {S : Type 0} (h : S → ℕ → ℕ → S) where
  -- one hop made, the others are left
  along_more : (s : S) (xs : List ℕ) → 2 ≤ length xs → along h (h s (get_or (take 2 xs) 0 0) (get_or (take 2 xs) 1 0)) (drop 1 xs) ≡ along h s xs
  along_more s [] l = absurd (omega arith)
  along_more s (a ∷ []) l = absurd (omega arith)
  along_more s (a ∷ b ∷ xs) l = refl

  -- with one area left there is no more hop
  pub along_done : (s r : S) (xs : List ℕ) → length xs < 2 → along h s xs ≡ r → s ≡ r
  along_done s r [] l e = e
  along_done s r (a ∷ []) l e = e
  along_done s r (a ∷ b ∷ xs) l e = absurd (omega arith)

  module _ {F : Type 0} (g : Mut F (S × (Bor (List ℕ) × Unit {0})) S) (f : F) (calls : (s t : S) (x : Bor (List ℕ)) (k : F) → Called g f (s, (x, tt)) t k → (k ≡ f) × (t ≡ h s (get_or x.now 0 0) (get_or x.now 1 0))) where
    folded : (ws : List (Bor (List ℕ))) (v u e : ArrayWindows ℕ 2) → TwoByTwo v → Yields array_windows_steps v ws u → array_windows_steps u None e → (s r : S) (k : F) → FoldsTo {P = F × S} (FoldTurn g) (f, s) ws (k, r) → r ≡ along h s (ahead v)
    folded [] v u e two y n s r k t =
        let m = subst (λ z. array_windows_steps z None e) (sym y) n in
        let l : length (ahead v) < 2 = omega (arith, m.1.0, two) in
        sym (ap (λ (p : F × S). p.1) t) ∙ along_done s _ (ahead v) l refl
    folded (w ∷ ws) v u e two y n s r k t =
        let a = y.1 in
        let c = calls s t.0.1 w t.0.0 t.1 in
        let l : 2 ≤ length (ahead v) = omega (arith, a.1.0, two) in
        let i = folded ws y.0 u e (a.0 ∙ two) y.2 n t.0.1 r k (subst (λ q. FoldsTo {P = F × S} (FoldTurn g) (q, t.0.1) ws (k, r)) c.0 t.2) in
        let o = along_more s (ahead v) l in
        let b : w.now ≡ take 2 (ahead v) = rw two at a.1.1 in
        let d : ahead y.0 ≡ drop 1 (ahead v) = a.1.2 in
        i ∙ rw (c.1, b, d) o

    pub fold_along : (v : ArrayWindows ℕ 2) → TwoByTwo v → (s r : S) → FoldsItems array_windows_steps g v f s r → r ≡ along h s (ahead v)
    fold_along v two s r t = folded t.0 v _ _ two t.2.1.1 t.2.1.2 s r t.1 t.3
