-- Reaching one area from another, and the laws of paths whichever directions are open.
use Rattle.std.specs.Prelude.{◌≡◌, ℕ, Bool, List, [], ◌∷◌, ◌≢◌}
use Rattle.routes.specs.Paths.{Area, Relation, Holds, Hop, Walk, Path, IsRoute}

-- some walk leads from p to q
abbrev pub Reach : Relation → ℕ → ℕ → Type 0
Reach Open p q = (xs : List ℕ) × Walk Open p q xs

pub record ReachLaws (Open : Relation) : Type 0 where
  -- an area reaches itself, a hop is reaching, and reaching carries over
  pub here : (a : ℕ) → Area a → Reach Open a a
  pub hop : (a b : ℕ) → Hop Open a b → Reach Open a b
  pub join : (a b c : ℕ) → Reach Open a b → Reach Open b c → Reach Open a c
  -- where there is a walk there is a path, and a path is a walk
  pub path : (a b : ℕ) → Reach Open a b → (xs : List ℕ) × Path Open a b xs
  pub walk : (a b : ℕ) (xs : List ℕ) → Path Open a b xs → Reach Open a b
  -- from an area to itself there is one path: the area alone
  pub alone : (a : ℕ) (xs : List ℕ) → Path Open a a xs → xs ≡ a ∷ []

abbrev pub Reaches : Type 0
Reaches = (f : ℕ → ℕ → Bool) → ReachLaws (Holds f)

-- what is open between two different areas by the one is open by the other
abbrev pub Within : Relation → Relation → Type 0
Within Open Wider = (a b : ℕ) → Area a → Area b → (a ≢ b) → Open a b → Wider a b

-- paths and routes depend on nothing but the directions between different areas
pub record Alike (f g : ℕ → ℕ → Bool) : Type 0 where
  pub path : Within (Holds f) (Holds g) → (p q : ℕ) (xs : List ℕ) → Path (Holds f) p q xs → Path (Holds g) p q xs
  pub route : Within (Holds f) (Holds g) → Within (Holds g) (Holds f) → (p q : ℕ) (xs : List ℕ) → IsRoute (Holds f) p q xs → IsRoute (Holds g) p q xs
