-- What a capacity register holds, whatever its shape in memory, and what each call makes of it.
use Rattle.std.specs.Prelude.{◌≡◌, ℕ, ◌+◌, ◌-◌, ◌≤◌, min, Bool, true, false, cond, ◌≢◌, ℤ, pos, ◌+ℤ◌, ◌-ℤ◌, neg_ℤ, ◌≤ℤ◌}
use Rattle.capacity.specs.declared.figures.Figures.{Figures}
use Rattle.capacity.specs.Directions.{put}

-- Each figure goes by contract, then by the direction's two areas.
pub record Capacity : Type 0 where
  pub joins : ℕ → ℕ → Bool
  pub ntc : ℕ → ℕ → ℕ → ℕ
  pub aac : ℕ → ℕ → ℕ → ℕ
  pub held : ℕ → ℕ → ℕ → ℕ
  -- the net use, away from the first area
  pub net : ℕ → ℕ → ℕ → ℤ
  pub noted : ℕ → ℕ → ℕ → Bool
  -- how many more pairs of contract and connector can be noted
  pub room : ℕ

-- what can still flow from a to b; it may be negative
abbrev pub atc : Capacity → ℕ → ℕ → ℕ → ℤ
atc m c a b = ((pos (m.ntc c a b) -ℤ pos (m.aac c a b)) +ℤ pos (m.aac c b a)) -ℤ (pos (m.held c a b) +ℤ m.net c a b)

-- q more used from x to y in contract k, and nothing else changed
abbrev pub taken : Capacity → ℕ → ℕ → ℕ → ℕ → Capacity
taken m k x y q = record {
  joins = m.joins;
  ntc = m.ntc;
  aac = m.aac;
  held = m.held;
  net = put m.net k x y (m.net k x y +ℤ pos q) (m.net k y x -ℤ pos q);
  noted = m.noted;
  room = m.room;
}

-- the four figures of one connector in contract k replaced, the pair noted, and nothing else changed
abbrev pub noticed : Capacity → ℕ → ℕ → ℕ → Figures → Capacity
noticed m k x y f = record {
  joins = m.joins;
  ntc = put m.ntc k x y f.ntc f.ntc_back;
  aac = put m.aac k x y f.aac f.aac_back;
  held = m.held;
  net = m.net;
  noted = put m.noted k x y true true;
  room = cond (m.noted k x y) m.room (m.room - 1);
}

-- the same register with w more held in each direction, but never above 99,999
abbrev pub reserved : Capacity → (ℕ → ℕ → ℕ) → Capacity
reserved m w = record {
  joins = m.joins;
  ntc = m.ntc;
  aac = m.aac;
  held = λ c a b. min (m.held c a b + w a b) 99999;
  net = m.net;
  noted = m.noted;
  room = m.room;
}

-- What holds of every register.
pub record Sound (m : Capacity) : Type 0 where
  pub ntc_range : (c a b : ℕ) → m.ntc c a b ≤ 99999
  pub aac_range : (c a b : ℕ) → m.aac c a b ≤ 99999
  pub held_range : (c a b : ℕ) → m.held c a b ≤ 99999
  pub net_low : (c a b : ℕ) → neg_ℤ (pos 199998) ≤ℤ m.net c a b
  pub net_high : (c a b : ℕ) → m.net c a b ≤ℤ pos 199998
  pub two_ways : (c a b : ℕ) → m.net c b a ≡ neg_ℤ (m.net c a b)
  pub both_join : (a b : ℕ) → m.joins b a ≡ m.joins a b
  pub both_noted : (c a b : ℕ) → m.noted c b a ≡ m.noted c a b
  pub areas : (a b : ℕ) → m.joins a b ≡ true → (a ≤ 15) × (b ≤ 15)
  pub apart : (a b : ℕ) → m.joins a b ≡ true → a ≢ b
  pub noted_joined : (c a b : ℕ) → m.noted c a b ≡ true → (c ≤ 23) × (m.joins a b ≡ true)
  pub unnoted : (c a b : ℕ) → m.noted c a b ≡ false → (m.ntc c a b ≡ 0) × (m.aac c a b ≡ 0) × (m.net c a b ≡ pos 0)
  pub unjoined : (c a b : ℕ) → m.joins a b ≡ false → (m.ntc c a b ≡ 0) × (m.aac c a b ≡ 0) × (m.net c a b ≡ pos 0)
