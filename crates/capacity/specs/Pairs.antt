-- What a register shows of the two directions of a connector, and what it holds once both are replaced.
use Rattle.std.specs.Prelude.{◌≡◌, ℕ, ◌+◌, ◌-◌, min, true, cond, ℤ, pos, ◌+ℤ◌, ◌-ℤ◌, int_lt}
use Rattle.capacity.specs.declared.side.Side.{Side}
use Rattle.capacity.specs.Directions.{put}
use Rattle.capacity.specs.Meaning.{Capacity}

-- what can still flow by s, with t the way back and h held
abbrev pub flow : Side → Side → ℕ → ℤ
flow s t h = ((pos s.ntc -ℤ pos s.aac) +ℤ pos t.aac) -ℤ (pos h +ℤ (pos s.used -ℤ pos t.used))

-- s once q more is taken, with t the way back: what was taken back is freed first
abbrev pub taken_there : Side → Side → ℕ → Side
taken_there s t q = record s { used = s.used + (q - min t.used q) }

abbrev pub taken_back : Side → ℕ → Side
taken_back t q = record t { used = t.used - min t.used q }

-- the two after a take of q is asked for: as they were if less can flow
abbrev pub there_after : Side → Side → ℕ → Side
there_after s t q = cond (int_lt (flow s t 0) (pos q)) s (taken_there s t q)

abbrev pub back_after : Side → Side → ℕ → Side
back_after s t q = cond (int_lt (flow s t 0) (pos q)) t (taken_back t q)

-- s with another NTC and AAC
abbrev pub figured : Side → ℕ → ℕ → Side
figured s n l = record s { ntc = n; aac = l }

-- m holds what s and t say from a to b and back, and nothing is held
pub record Shows (m : Capacity) (c a b : ℕ) (s t : Side) : Type 0 where
  pub ntc : s.ntc ≡ m.ntc c a b
  pub ntc_back : t.ntc ≡ m.ntc c b a
  pub aac : s.aac ≡ m.aac c a b
  pub aac_back : t.aac ≡ m.aac c b a
  pub net : pos s.used -ℤ pos t.used ≡ m.net c a b
  pub net_back : pos t.used -ℤ pos s.used ≡ m.net c b a
  pub free : m.held c a b ≡ 0

-- m with s from x to y in contract k and t the way back, the pair noted, and nothing else changed
abbrev pub paired : Capacity → ℕ → ℕ → ℕ → Side → Side → Capacity
paired m k x y s t = record {
  joins = m.joins;
  ntc = put m.ntc k x y s.ntc t.ntc;
  aac = put m.aac k x y s.aac t.aac;
  held = m.held;
  net = put m.net k x y (pos s.used -ℤ pos t.used) (pos t.used -ℤ pos s.used);
  noted = put m.noted k x y true true;
  room = cond (m.noted k x y) m.room (m.room - 1);
}
