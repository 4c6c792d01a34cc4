-- Levels, which count areas from one against the flow: for the contracts of the private functions that make and follow them.
use Rattle.std.specs.Prelude.{◌≡◌, ℕ, ◌+◌, ◌<◌, ◌≤◌, ◌⊎◌, List, length, ◌≢◌, slice_index}
use Rattle.routes.specs.Paths.{Area, Relation, Hop}

-- the level of an area; 0 where it has none
abbrev pub lv : List ℕ → ℕ → ℕ
lv d a = slice_index d a

-- no area of level n is open from a
abbrev pub NoneOpen : Relation → List ℕ → ℕ → ℕ → Type 0
NoneOpen Open d a n = (b : ℕ) → Hop Open a b → lv d b ≢ n

-- b is the lowest area of level n that is open from a
pub record LowestOpen (Open : Relation) (d : List ℕ) (a n b : ℕ) : Type 0 where
  pub opens : Hop Open a b
  pub level : lv d b ≡ n
  pub lowest : (c : ℕ) → c < b → Hop Open a c → lv d c ≢ n

-- the level l of an area a after a sweep of the levels d: an area that has a level keeps it, and one that has none
-- gets the level above n where an area of level n is open from it, and else still has none
pub record Next (Open : Relation) (d : List ℕ) (n a l : ℕ) : Type 0 where
  pub kept : 0 < lv d a → l ≡ lv d a
  pub newly : lv d a ≡ 0 → ((l ≡ 0) × NoneOpen Open d a n) ⊎ ((l ≡ n + 1) × ((b : ℕ) × Hop Open a b × (lv d b ≡ n)))

-- levels up to `top` are given: q alone has level 1, each area above level 1 leads to one a level lower,
-- and what leads to an area of a level below `done` has a level at most one higher
pub record Levels (Open : Relation) (q : ℕ) (d : List ℕ) (top done : ℕ) : Type 0 where
  pub size : length d ≡ 16
  pub goal : Area q
  pub first : lv d q ≡ 1
  pub only : (a : ℕ) → Area a → lv d a ≡ 1 → a ≡ q
  pub most : (a : ℕ) → lv d a ≤ top
  pub onward : (a m : ℕ) → Area a → lv d a ≡ m + 2 → (b : ℕ) × Hop Open a b × (lv d b ≡ m + 1)
  pub back : (a b : ℕ) → Hop Open a b → 0 < lv d b → lv d b < done → (0 < lv d a) × (lv d a ≤ lv d b + 1)

-- sixteen levels, and every one done
abbrev pub AllLevels : Relation → ℕ → List ℕ → Type 0
AllLevels Open q d = Levels Open q d 16 17
