-- How the crate's tables lie in memory: plain lists, read by direction.
use Rattle.std.specs.Prelude.{ℕ, ◌+◌, ◌*◌, min, max, Bool, false, cond, ◌&&◌, List, pos, ◌-ℤ◌, nat_le, nat_lt, slice_index, slice_index_or}
use Rattle.capacity.specs.declared.side.Side.{Side}
use Rattle.capacity.specs.Meaning.{Capacity}
use Rattle.capacity.specs.Sides.{no_side}

-- whether a connector joins a and b: each pair stands at its lower area first
abbrev pub linked : List Bool → ℕ → ℕ → Bool
linked js a b = nat_lt (min a b) (max a b) && (nat_le (max a b) 15 && slice_index_or js (16 * min a b + max a b) false)

-- what is kept back from a to b
abbrev pub kept_in : List ℕ → ℕ → ℕ → ℕ
kept_in ks a b = cond (nat_le a 15 && nat_le b 15) (slice_index ks (16 * a + b)) 0

-- whether the pair of a contract and a connector exists
abbrev pub on : (ℕ → ℕ → Bool) → ℕ → ℕ → ℕ → Bool
on j c a b = nat_le c 23 && j a b

-- where a direction of a contract stands
abbrev pub place : ℕ → ℕ → ℕ → ℕ
place c a b = 256 * c + (16 * a + b)

-- what stands at a place of a table
abbrev pub side_at : List Side → ℕ → ℕ → ℕ → Side
side_at ss c a b = slice_index_or ss (place c a b) no_side

-- one side of a pair, if the pair exists
abbrev pub shown : (ℕ → ℕ → Bool) → (ℕ → ℕ → ℕ → Side) → ℕ → ℕ → ℕ → Side
shown j s c a b = cond (on j c a b) (s c a b) no_side

-- a register with the sides s of the pairs that exist: NTC, AAC and what was used in each direction beyond the other
abbrev pub sided : (ℕ → ℕ → Bool) → (ℕ → ℕ → ℕ → Side) → (ℕ → ℕ → ℕ → Bool) → ℕ → Capacity
sided j s d n = record {
  joins = j;
  ntc = λ c a b. (shown j s c a b).ntc;
  aac = λ c a b. (shown j s c a b).aac;
  held = λ c a b. 0;
  net = λ c a b. pos (shown j s c a b).used -ℤ pos (shown j s c b a).used;
  noted = d;
  room = n;
}

-- what a full table holds
abbrev pub full : (ℕ → ℕ → Bool) → List Side → Capacity
full j ss = sided j (side_at ss) (on j) 0

-- every pair noted, all figures and use at nought, nothing held
abbrev pub fresh : (ℕ → ℕ → Bool) → Capacity
fresh j = record {
  joins = j;
  ntc = λ c a b. 0;
  aac = λ c a b. 0;
  held = λ c a b. 0;
  net = λ c a b. pos 0;
  noted = on j;
  room = 0;
}
