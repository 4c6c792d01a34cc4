-- What it is for a direction to be open, and what a grid with the same directions says.
use Rattle.std.proofs.Common.{◌≡◌, ℕ, ◌+◌, ◌<◌, ◌≤◌, Bool, true, false, leb, ℤ, pos, negsuc, nat_abs, ◌≤ℤ◌, sym, refl, ap, ◌∙◌, subst, arith, below_more}
use lib.Signed.{le_z}
use Rattle.std.proofs.lemmas.Int.{ints}
use Rattle.std.proofs.lemmas.Bool.{and_parts, and_from, leb-true, le-leb, cond-true, cond-false}
use Rattle.capacity.specs.Meaning.{Capacity, atc}
use Rattle.routes.proofs.Flags.{turned_here, turned_other}
use Rattle.routes.specs.Grids.{turned}
use Rattle.routes.specs.Paths.{Holds, Path, IsRoute}
use Rattle.flows.specs.Flows.{open_in, OpenIn, flow}
use Rattle.flows.specs.Same.{SamePaths}

le_z_true : (x y : ℤ) → le_z x y ≡ true → x ≤ℤ y
le_z_true x y h = grind (arith, ints)

true_le_z : (x y : ℤ) → x ≤ℤ y → le_z x y ≡ true
true_le_z x y h = grind (arith, ints)

module _ (m : Capacity) (c a b : ℕ) where
  pub open_parts : OpenIn m c a b → (c ≤ 23) × (m.joins a b ≡ true) × (pos 1 ≤ℤ atc m c a b)
  open_parts h =
      let p = and_parts (leb c 23) _ h in
      let r = and_parts (m.joins a b) _ p.1 in
      (leb-true c 23 p.0, r.0, le_z_true (pos 1) (atc m c a b) r.1)

  pub parts_open : c ≤ 23 → m.joins a b ≡ true → pos 1 ≤ℤ atc m c a b → OpenIn m c a b
  parts_open h j f = and_from _ _ (le-leb c 23 h) (and_from _ _ j (true_le_z (pos 1) (atc m c a b) f))

  -- where a direction is open its flow is the ATC, and elsewhere it is 0
  pub flow_open : OpenIn m c a b → pos (flow m c a b) ≡ atc m c a b
  flow_open h = ap pos (cond-true _ (nat_abs (atc m c a b)) 0 h) ∙ whole (atc m c a b) (open_parts h).2
    where
      whole : (z : ℤ) → pos 1 ≤ℤ z → pos (nat_abs z) ≡ z
      whole (pos n) l = refl
      whole (negsuc n) l = omega (arith, ints)

  pub flow_shut : open_in m c a b ≡ false → flow m c a b ≡ 0
  flow_shut h = cond-false _ (nat_abs (atc m c a b)) 0 h

-- paths and routes depend on nothing but what is open
pub same_paths : (f g : ℕ → ℕ → Bool) → f ≡ g → SamePaths (Holds f) (Holds g)
same_paths f g e = record {
  path = λ p q xs. subst (λ (h : ℕ → ℕ → Bool). Path (Holds h) p q xs) e;
  path_back = λ p q xs. subst (λ (h : ℕ → ℕ → Bool). Path (Holds h) p q xs) (sym e);
  route = λ p q xs. subst (λ (h : ℕ → ℕ → Bool). IsRoute (Holds h) p q xs) e;
  route_back = λ p q xs. subst (λ (h : ℕ → ℕ → Bool). IsRoute (Holds h) p q xs) (sym e);
}

-- ---- filling a grid

module _ (f g : ℕ → ℕ → Bool) (p q : ℕ) (v : Bool) (e : g ≡ turned f p q v) where
  turned_at : (a b : ℕ) → g a b ≡ turned f p q v a b
  turned_at a b = ap (λ (k : ℕ → ℕ → Bool). k a b) e

  -- one more direction from p is as h has it
  pub row_more : (h : ℕ → Bool) → p < 16 → q < 16 → v ≡ h q → ((b : ℕ) → b < q → f p b ≡ h b) → (b : ℕ) → b < q + 1 → g p b ≡ h b
  row_more h lp lq is before =
      below_more (λ b. g p b ≡ h b) q
      (λ b l. turned_at p b ∙ turned_other f p q v p b (λ _ k. omega arith) ∙ before b l)
      (turned_at p q ∙ turned_here f p q v lp lq ∙ is)

  -- the directions from other areas stand
  pub rows_stand : (o : ℕ → ℕ → Bool) → ((a b : ℕ) → (a ≡ p → ⊥) → f a b ≡ o a b) → (a b : ℕ) → (a ≡ p → ⊥) → g a b ≡ o a b
  rows_stand o before a b n = turned_at a b ∙ turned_other f p q v a b (λ k _. n k) ∙ before a b n

-- one more row is as h has it
pub rows_more : (f g h : ℕ → ℕ → Bool) (p : ℕ) → ((b : ℕ) → b < 16 → g p b ≡ h p b) → ((a b : ℕ) → (a ≡ p → ⊥) → g a b ≡ f a b) → ((a : ℕ) → a < p → (b : ℕ) → b < 16 → f a b ≡ h a b) → (a : ℕ) → a < p + 1 → (b : ℕ) → b < 16 → g a b ≡ h a b
rows_more f g h p here others before =
    below_more (λ a. (b : ℕ) → b < 16 → g a b ≡ h a b) p (λ a l b k. others a b (λ e. omega arith) ∙ before a l b k) here
