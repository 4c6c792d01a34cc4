-- What `read_power` leaves to show.
use Rattle.std.proofs.Common.{◌≡◌, ◌≤◌, ◌⊎◌, length, get_or, arith, refl, rules, ltb-false, ltb-true}
use Rattle.std.proofs.lemmas.Int.{ints}
use Rattle.std.proofs.Math.ListN.{get_or-eq_default}
use Rattle.numbers.specs.Numerals.Mark.{none}
use Rattle.numbers.proofs.Scanned.{after, MarkedBy, marked_minus, marked_plus, marked_none, power_at, power_risen}
use Rattle.numbers.proofs.scan.read_power.Goals as goal

pub returns-in_ok-read_digits-in-101 : goal.returns-in_ok-read_digits-in-101
returns-in_ok-read_digits-in-101 c =
    let b : (get_or c.args.s.bytes.now 0 0 ≡ 101) ⊎ (get_or c.args.s.bytes.now 0 0 ≡ 69) = search rules in
    let d = c.in_ok-read_digits-in-101.ensures in
    power_at c.args.s.bytes.now (omega arith) _ _ (marked_minus c.args.s.bytes.now c.in-101.len_at_least (omega (arith, ltb-true, ltb-false))) b _ d.0 (omega (arith, ints, d.1))

pub returns-in-101-2 : goal.returns-in-101-2
returns-in-101-2 c =
    let b : (get_or c.args.s.bytes.now 0 0 ≡ 101) ⊎ (get_or c.args.s.bytes.now 0 0 ≡ 69) = search rules in
    power_risen c.args.s.bytes.now (omega arith) _ _ (marked_plus c.args.s.bytes.now c.in-101-2.len_at_least (omega (arith, ltb-true, ltb-false))) b refl _ c.read_digits-in-101-2.ensures

pub returns-in-101-3 : goal.returns-in-101-3
returns-in-101-3 c =
    let b : (get_or c.args.s.bytes.now 0 0 ≡ 101) ⊎ (get_or c.args.s.bytes.now 0 0 ≡ 69) = search rules in
    let past : length c.args.s.bytes.now ≤ 1 → get_or c.args.s.bytes.now 1 0 ≡ 0 = get_or-eq_default c.args.s.bytes.now 0 in
    let minus : get_or c.args.s.bytes.now 1 0 ≡ 45 → ⊥ = λ e. grind (arith, ltb-true, ltb-false) in
    let plus : get_or c.args.s.bytes.now 1 0 ≡ 43 → ⊥ = λ e. grind (arith, ltb-true, ltb-false) in
    let h : MarkedBy (after c.args.s.bytes.now) none (after c.args.s.bytes.now) = marked_none c.args.s.bytes.now minus plus in
    power_risen c.args.s.bytes.now (omega (arith, ltb-true, ltb-false)) _ _ h b refl _ c.read_digits-in-101-3.ensures
