-- A call on a register that shows the two sides of a connector and replaces them.
use Rattle.std.proofs.Common.{◌≡◌, ℕ, Bool, true, false, cond, List, Ok, Err, pos, Result, sym, ap, ◌∙◌}
use lib.Signed.{lt_z}
use Rattle.std.proofs.lemmas.Bool.{not-false, ltb-false}
use Rattle.capacity.specs.declared.faults.RegisterFault.{RegisterFault}
use Rattle.capacity.specs.declared.figures.Figures.{Figures}
use Rattle.capacity.specs.declared.side.Side.{Side}
use Rattle.capacity.specs.Answers.{take_tests, notice_tests, large}
use Rattle.capacity.specs.Faults.{Refusal, told}
use Rattle.capacity.specs.Granted.{Served}
use Rattle.capacity.specs.Meaning.{Capacity, Sound, taken, noticed}
use Rattle.capacity.specs.Pairs.{flow, taken_there, taken_back, figured, Shows, paired}
use Rattle.capacity.specs.Tables.{linked}
use Rattle.capacity.specs.Tests.{answered, resulting, said}
use Rattle.capacity.proofs.Layers.{passes_granted}
use Rattle.capacity.proofs.Pairs.{shown_atc, granted_noted, paired_taken, paired_noticed}
use Rattle.capacity.proofs.Sided.{on_known, on_served}
use Rattle.capacity.proofs.Passes.{Passes, answered_passes, passes_resulting, refused_resulting}

-- a refusal that is handed on
pub refused : (ts : List (Bool × Refusal)) (m n : Capacity) (r : Result (Unit {0}) RegisterFault) (x : RegisterFault) → r ≡ Err x → Err (told x) ≡ answered ts → (said told r ≡ answered ts) × (m ≡ resulting ts m n)
refused ts m n r x p e = (ap (said told) p ∙ e, refused_resulting ts (told x) m n e)

-- the pair of a take that no test refuses exists
pub take_served : (js : List Bool) (m : Capacity) (c a b q : ℕ) → m.joins ≡ linked js → Ok tt ≡ answered (take_tests m c a b q) → Served (linked js) c a b
take_served js m c a b q j e =
    let p = answered_passes (take_tests m c a b q) e in
    on_served js c a b (on_known (linked js) c a b (ltb-false 23 c p.0) (ap (λ (f : ℕ → ℕ → Bool). f a b) (sym j) ∙ not-false _ p.1.1.0))

pub notice_served : (js : List Bool) (m : Capacity) (c a b : ℕ) (f : Figures) → m.joins ≡ linked js → Ok tt ≡ answered (notice_tests m c a b f) → Served (linked js) c a b
notice_served js m c a b f j e =
    let p = answered_passes (notice_tests m c a b f) e in
    on_served js c a b (on_known (linked js) c a b (ltb-false 23 c p.0) (ap (λ (g : ℕ → ℕ → Bool). g a b) (sym j) ∙ not-false _ p.1.0))

-- and is noted
pub take_noted : (m : Capacity) (c a b q : ℕ) → Sound m → Ok tt ≡ answered (take_tests m c a b q) → m.noted c a b ≡ true
take_noted m c a b q sound e = granted_noted m sound c a b q (passes_granted m c a b q (answered_passes (take_tests m c a b q) e))

-- what a take that no test refuses leaves of the two sides
pub take_sides : (m : Capacity) (c a b q : ℕ) (s t v w : Side) → Ok tt ≡ answered (take_tests m c a b q) → Shows m c a b s t → v ≡ cond (lt_z (flow s t 0) (pos q)) s (taken_there s t q) → w ≡ cond (lt_z (flow s t 0) (pos q)) t (taken_back t q) → (v ≡ taken_there s t q) × (w ≡ taken_back t q)
take_sides m c a b q s t v w e h hv hw =
    let flows : lt_z (flow s t 0) (pos q) ≡ false = rw (shown_atc m c a b s t h) (answered_passes (take_tests m c a b q) e).1.1.1.0 in (
      hv ∙ ap (λ (z : Bool). cond z s (taken_there s t q)) flows,
      hw ∙ ap (λ (z : Bool). cond z t (taken_back t q)) flows,
    )

-- and of the register
pub take_leaves : (m n : Capacity) (c a b q : ℕ) (s t v w : Side) → Sound m → Ok tt ≡ answered (take_tests m c a b q) → Shows m c a b s t → v ≡ cond (lt_z (flow s t 0) (pos q)) s (taken_there s t q) → w ≡ cond (lt_z (flow s t 0) (pos q)) t (taken_back t q) → n ≡ paired m c a b v w → n ≡ resulting (take_tests m c a b q) m (taken m c a b q)
take_leaves m n c a b q s t v w sound e h hv hw hn =
    hn
    ∙ ap (λ (z : Side). paired m c a b z w) sides.0
    ∙ ap (λ (z : Side). paired m c a b (taken_there s t q) z) sides.1
    ∙ paired_taken m c a b q s t h (sound.apart a b (not-false _ p.1.1.0)) d (sound.both_noted c a b ∙ d)
    ∙ passes_resulting (take_tests m c a b q) m (taken m c a b q) p
  where
    p : Passes (take_tests m c a b q)
    p = answered_passes (take_tests m c a b q) e

    d : m.noted c a b ≡ true
    d = take_noted m c a b q sound e

    sides : (v ≡ taken_there s t q) × (w ≡ taken_back t q)
    sides = take_sides m c a b q s t v w e h hv hw

-- what a notice that no test refuses leaves of the two sides
pub notice_sides : (m : Capacity) (c a b : ℕ) (f : Figures) (s t v w : Side) → Ok tt ≡ answered (notice_tests m c a b f) → v ≡ cond (large f) s (figured s f.ntc f.aac) → w ≡ cond (large f) t (figured t f.ntc_back f.aac_back) → (v ≡ figured s f.ntc f.aac) × (w ≡ figured t f.ntc_back f.aac_back)
notice_sides m c a b f s t v w e hv hw =
    let small : large f ≡ false = (answered_passes (notice_tests m c a b f) e).1.1.0 in (
      hv ∙ ap (λ (z : Bool). cond z s (figured s f.ntc f.aac)) small,
      hw ∙ ap (λ (z : Bool). cond z t (figured t f.ntc_back f.aac_back)) small,
    )

-- and of the register
pub notice_leaves : (m n : Capacity) (c a b : ℕ) (f : Figures) (s t v w : Side) → Sound m → Ok tt ≡ answered (notice_tests m c a b f) → Shows m c a b s t → v ≡ cond (large f) s (figured s f.ntc f.aac) → w ≡ cond (large f) t (figured t f.ntc_back f.aac_back) → n ≡ paired m c a b v w → n ≡ resulting (notice_tests m c a b f) m (noticed m c a b f)
notice_leaves m n c a b f s t v w sound e h hv hw hn =
    hn
    ∙ ap (λ (z : Side). paired m c a b z w) sides.0
    ∙ ap (λ (z : Side). paired m c a b (figured s f.ntc f.aac) z) sides.1
    ∙ paired_noticed m c a b f s t h (sound.apart a b (not-false _ p.1.0))
    ∙ passes_resulting (notice_tests m c a b f) m (noticed m c a b f) p
  where
    p : Passes (notice_tests m c a b f)
    p = answered_passes (notice_tests m c a b f) e

    sides : (v ≡ figured s f.ntc f.aac) × (w ≡ figured t f.ntc_back f.aac_back)
    sides = notice_sides m c a b f s t v w e hv hw
