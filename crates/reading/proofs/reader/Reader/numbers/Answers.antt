use Rattle.std.proofs.Common.{◌≡◌, ℕ, ◌+◌, ◌<◌, ◌≤◌, length, set, ℤ, sym, subst, arith, w32, to_z, of_z, rules}
use lib.ListN.{length-replicate}
use Rattle.std.proofs.lemmas.Int.{to_z-of_z}
use Rattle.std.proofs.lemmas.Result.{err_from_is_err_and}
use Rattle.reading.specs.Reading.{ahead}
use Rattle.reading.specs.Fields.{WordsRead}
use Rattle.reading.proofs.Numbering.{ReadSoFar, none_read, one_less, one_more, one_on, all_read, stopped, read_on}
use Rattle.reading.proofs.reader.Reader.numbers.Goals as goal

pub loop-i-init : goal.loop-i-init
loop-i-init g c = (none_read _ _ _, search rules, search rules, search rules, simp length-replicate (search rules))

pub loop-i-preserved : goal.loop-i-preserved
loop-i-preserved g c =
    let lu : c.loop-i.i < length c.args.fields = search rules in
    let lc : c.loop-i.i < length c.loop-i.numbers = omega arith in
    let one = c.in_ok-numbers.ensures in
    let z : ℤ = c.in_ok-numbers.field-0 in
    let same : to_z w32 (of_z w32 z) ≡ z = to_z-of_z w32 z (search rules) in
    let so = one_more c.args.fields _ (ahead c.loop-i.self) _ c.loop-i.numbers c.loop-i.i _ _ lu lc c.loop-i.invariant.0 one.2 in
    (subst (λ (y : ℤ). ReadSoFar c.args.fields (ahead c.args.self.now) (c.loop-i.i + 1) (ahead c.number.new.self) (set c.loop-i.numbers c.loop-i.i y)) (sym same) so, search rules, one_on c.loop-i.i c.args.self.now c.loop-i.self c.number.new.self _ z c.loop-i.invariant.2 one.1 one.2, omega (arith, one_less _ (ahead c.loop-i.self) (ahead c.number.new.self) _ one.2), search rules)

pub returns-in_err-numbers : goal.returns-in_err-numbers
returns-in_err-numbers g c =
    let lu : c.loop-i.i < length c.args.fields = search rules in
    let all : length (ahead c.args.self.now) ≡ length c.args.fields = search rules in
    let p = c.in_err-numbers.ensures in
    let e = err_from_is_err_and c.from_residual.result c.from_residual.ensures.1 in
    record {
      numbers = rw (e.1, e.2) (stopped c.args.fields _ (ahead c.loop-i.self) c.loop-i.numbers c.loop-i.i _ _ _ _ lu all c.loop-i.invariant.3 c.loop-i.invariant.2.1 c.loop-i.invariant.0 p.1);
      reads = rw (e.1, e.2) (read_on c.loop-i.i c.args.self.now c.loop-i.self c.number.new.self _ _ c.loop-i.invariant.2 p.2 p.1 (omega (arith, c.loop-i.invariant.3)));
      stays = search rules;
    }

pub returns : goal.returns
returns g c =
    let lu : length c.args.fields ≤ c.loop-i.i = search rules in
    let lc : length c.loop-i.numbers ≤ c.loop-i.i = omega arith in
    let e : length (ahead c.loop-i.self) ≡ 0 = omega (arith, c.loop-i.invariant.3) in
    let all : c.loop-i.i ≡ length c.args.fields = omega (arith, c.loop-i.invariant.3) in
    record {
      numbers = all_read c.args.fields _ _ c.loop-i.numbers c.loop-i.i lu lc e c.loop-i.invariant.0;
      reads = subst (λ (n : ℕ). WordsRead n c.args.self.now c.loop-i.self) all c.loop-i.invariant.2;
      stays = c.loop-i.invariant.1;
    }
