-- That what a full table and a layer hold is sound: proofs, which each register hands over with its meaning.
use Rattle.std.specs.Prelude.{◌≡◌, ℕ, ◌≤◌, min, max, Bool, true, false, cond, ◌&&◌, List, pos, ◌-ℤ◌, ◌≢◌, nat_le, slice_index_or, refl}
use Rattle.std.proofs.Common.{ap, ◌∙◌, arith}
use Rattle.std.proofs.Math.Nat.{min_comm, max_comm}
use Rattle.std.proofs.lemmas.Int.{ints}
use Rattle.std.proofs.lemmas.Bool.{and_parts, and_right, ltb-true, leb-true}
use Rattle.capacity.specs.declared.reserve.Reserve.{Reserve}
use Rattle.capacity.specs.declared.side.Side.{Side}
use Rattle.capacity.specs.declared.table.FullTable.{FullTable}
use Rattle.capacity.specs.Meaning.{Capacity, Sound, reserved}
use Rattle.capacity.specs.Tables.{linked, on, place, side_at, shown, sided, full}
use Rattle.capacity.specs.Sides.{no_side, Small}
use Rattle.capacity.specs.Shapes.{table_of, layered}

pub linked_back : (js : List Bool) (a b : ℕ) → linked js b a ≡ linked js a b
linked_back js a b = rw (min_comm b a, max_comm b a) refl

pub linked_areas : (js : List Bool) (a b : ℕ) → linked js a b ≡ true → (a ≤ 15) × (b ≤ 15) × (a ≢ b)
linked_areas js a b e =
    let p = and_parts _ _ e in
    let q = and_parts _ _ p.1 in
    let l = ltb-true (min a b) (max a b) p.0 in
    let h = leb-true (max a b) 15 q.0 in
    (omega arith, omega arith, λ same. omega arith)

pub small_cond : (t : Bool) (v w : Side) → Small v → Small w → Small (cond t v w)
small_cond true v w h k = h
small_cond false v w h k = k

pub shown_on : (j : ℕ → ℕ → Bool) (s : ℕ → ℕ → ℕ → Side) (c a b : ℕ) → on j c a b ≡ true → shown j s c a b ≡ s c a b
shown_on j s c a b e = rw e refl

pub shown_off : (j : ℕ → ℕ → Bool) (s : ℕ → ℕ → ℕ → Side) (c a b : ℕ) → on j c a b ≡ false → shown j s c a b ≡ no_side
shown_off j s c a b e = rw e refl

pub shown_small : (j : ℕ → ℕ → Bool) (s : ℕ → ℕ → ℕ → Side) → ((c a b : ℕ) → Small (s c a b)) → (c a b : ℕ) → Small (shown j s c a b)
shown_small j s h c a b = small_cond (on j c a b) (s c a b) no_side (h c a b) (omega arith, omega arith, omega arith)

pub on_same : (js : List Bool) (c a b : ℕ) → on (linked js) c b a ≡ on (linked js) c a b
on_same js c a b = ap (λ t. nat_le c 23 && t) (linked_back js a b)

-- a register of sides is sound where these are small, and a pair that is not noted is at nought in both directions
pub sided_sound : (js : List Bool) (s : ℕ → ℕ → ℕ → Side) (d : ℕ → ℕ → ℕ → Bool) (n : ℕ) → ((c a b : ℕ) → Small (s c a b)) → ((c a b : ℕ) → d c b a ≡ d c a b) → ((c a b : ℕ) → d c a b ≡ true → on (linked js) c a b ≡ true) → ((c a b : ℕ) → d c a b ≡ false → shown (linked js) s c a b ≡ no_side) → Sound (sided (linked js) s d n)
sided_sound js s d n small back noted none = record {
  ntc_range = λ c a b. (few c a b).0;
  aac_range = λ c a b. (few c a b).1;
  held_range = λ c a b. omega arith;
  net_low = λ c a b. (let p = (few c a b).2 in let q = (few c b a).2 in omega (arith, ints));
  net_high = λ c a b. (let p = (few c a b).2 in let q = (few c b a).2 in omega (arith, ints));
  two_ways = λ c a b. omega (arith, ints);
  both_join = linked_back js;
  both_noted = back;
  areas = λ a b e. ((linked_areas js a b e).0, (linked_areas js a b e).1);
  apart = λ a b e. (linked_areas js a b e).2;
  noted_joined = λ c a b e. (let p = and_parts (nat_le c 23) (linked js a b) (noted c a b e) in (leb-true c 23 p.0, p.1));
  unnoted = λ c a b e. nought c a b (none c a b e) (none c b a (back c a b ∙ e));
  unjoined = λ c a b e. (let o = and_right (nat_le c 23) (linked js a b) e in nought c a b (shown_off (linked js) s c a b o) (shown_off (linked js) s c b a (on_same js c a b ∙ o)));
}
  where
    few : (c a b : ℕ) → Small (shown (linked js) s c a b)
    few = shown_small (linked js) s small

    nought : (c a b : ℕ) → shown (linked js) s c a b ≡ no_side → shown (linked js) s c b a ≡ no_side → ((shown (linked js) s c a b).ntc ≡ 0) × ((shown (linked js) s c a b).aac ≡ 0) × (pos (shown (linked js) s c a b).used -ℤ pos (shown (linked js) s c b a).used ≡ pos 0)
    nought c a b e f =
        (ap (λ (v : Side). v.ntc) e, ap (λ (v : Side). v.aac) e, ap (λ (v : Side). pos v.used -ℤ pos (shown (linked js) s c b a).used) e ∙ ap (λ (v : Side). pos 0 -ℤ pos v.used) f)

pub full_sound : (js : List Bool) (ss : List Side) → ((i : ℕ) → Small (slice_index_or ss i no_side)) → Sound (full (linked js) ss)
full_sound js ss h =
    sided_sound js (side_at ss) (on (linked js)) 0 (λ c a b. h (place c a b)) (on_same js) (λ c a b e. e) (λ c a b e. shown_off (linked js) (side_at ss) c a b e)

pub table_sound : (t : FullTable) → Sound (table_of t)
table_sound t = full_sound t.links.joined t.sides t.small

pub reserved_sound : (m : Capacity) (w : ℕ → ℕ → ℕ) → Sound m → Sound (reserved m w)
reserved_sound m w s = record {
  ntc_range = s.ntc_range;
  aac_range = s.aac_range;
  held_range = λ c a b. omega arith;
  net_low = s.net_low;
  net_high = s.net_high;
  two_ways = s.two_ways;
  both_join = s.both_join;
  both_noted = s.both_noted;
  areas = s.areas;
  apart = s.apart;
  noted_joined = s.noted_joined;
  unnoted = s.unnoted;
  unjoined = s.unjoined;
}

pub layered_sound : {R : Type 0} (m : R → Capacity) → ((r : R) → Sound (m r)) → (s : Reserve R) → Sound (layered m s)
layered_sound m h s = reserved_sound _ _ (h s.below)
