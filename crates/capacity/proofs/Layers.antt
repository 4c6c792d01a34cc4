-- What a register's answers tell, and a layer that keeps more back.
use Rattle.std.proofs.Common.{◌≡◌, ℕ, ◌≤◌, true, false, ℤ, pos, ◌+ℤ◌, ◌≤ℤ◌, Some, arith}
use lib.Signed.{lt_z}
use Rattle.std.proofs.lemmas.Int.{ints}
use Rattle.std.proofs.lemmas.Bool.Decides.{nat_tests}
use Rattle.std.proofs.lemmas.Bool.{le-ltb, ltb-false, or_parts, or_from, not-false, not_from_true}
use Rattle.capacity.specs.Meaning.{Capacity, atc, Sound, reserved}
use Rattle.capacity.specs.Answers.{asked, take_tests}
use Rattle.capacity.specs.Granted.{Granted}
use Rattle.capacity.proofs.Passes.{Passes}

-- ---- asking

pub asked_some : {X : Type 0} (m : Capacity) (c a b : ℕ) (x y : X) → Some x ≡ asked m c a b y → (c ≤ 23) × (m.joins a b ≡ true) × (x ≡ y)
asked_some m c a b x y e = grind (arith, nat_tests)

pub asked_known : {X : Type 0} (m : Capacity) (c a b : ℕ) (x y : X) → c ≤ 23 → m.joins a b ≡ true → x ≡ y → Some x ≡ asked m c a b y
asked_known m c a b x y h j e = grind (arith, nat_tests)

-- an ATC lies in 32 bits
pub atc_bounds : (m : Capacity) → Sound m → (c a b : ℕ) → (pos 0 ≤ℤ (atc m c a b +ℤ pos 499995)) × (atc m c a b ≤ℤ pos 399996)
atc_bounds m s c a b =
    let n = s.ntc_range c a b in
    let l = s.aac_range c a b in
    let k = s.aac_range c b a in
    let h = s.held_range c a b in
    let u = s.net_low c a b in
    let v = s.net_high c a b in
    (omega (arith, ints), omega (arith, ints))

-- ---- taking

le_lt_z : (x y : ℤ) → y ≤ℤ x → lt_z x y ≡ false
le_lt_z x y h = grind (arith, ints)

lt_z_le : (x y : ℤ) → lt_z x y ≡ false → y ≤ℤ x
lt_z_le x y h = grind (arith, ints)

pub granted_passes : (m : Capacity) (c a b q : ℕ) → Granted m c a b q → Passes (take_tests m c a b q)
granted_passes m c a b q g =
    (le-ltb 23 c g.contract, (or_from _ _ (le-ltb q 1 g.some) (le-ltb 99999 q g.few), (not_from_true _ g.joined, (le_lt_z _ _ g.flows, tt))))

pub passes_granted : (m : Capacity) (c a b q : ℕ) → Passes (take_tests m c a b q) → Granted m c a b q
passes_granted m c a b q p =
    let r = or_parts _ _ p.1.0 in
    record {
      contract = ltb-false 23 c p.0;
      some = ltb-false q 1 r.0;
      few = ltb-false 99999 q r.1;
      joined = not-false _ p.1.1.0;
      flows = lt_z_le _ _ p.1.1.1.0;
    }

-- ---- a layer

-- what a layer grants is granted below
pub granted_below : (m : Capacity) (w : ℕ → ℕ → ℕ) → Sound m → (c a b q : ℕ) → Granted (reserved m w) c a b q → Granted m c a b q
granted_below m w s c a b q g =
    let h = s.held_range c a b in
    let l = g.flows in
    record { contract = g.contract; some = g.some; few = g.few; joined = g.joined; flows = omega (arith, ints) }
