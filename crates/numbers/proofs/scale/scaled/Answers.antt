-- What `scaled` leaves to show.
use Rattle.std.proofs.Common.{◌≡◌, ◌*◌, ◌^◌, ◌≤ℤ◌, ◌+ℤ◌, pos, nat_abs, ap, ◌∙◌, arith}
use Rattle.std.proofs.lemmas.Int.{ints}
use Rattle.numbers.specs.Reading.{scale_of}
use Rattle.numbers.proofs.Scaling.{ok_or_cases, lifted_up, scale_small}
use Rattle.numbers.proofs.scale.scaled.Goals as goal

pub returns-else-by-lt0 : goal.returns-else-by-lt0
returns-else-by-lt0 c =
    let m = c.args.number.mantissa in
    let k = c.args.number.exponent +ℤ pos (scale_of c.args.unit) in
    let up : pos 0 ≤ℤ k = omega (arith, ints, scale_small c.args.unit) in
    let a : c.unsigned_abs-else-by-lt0.result ≡ nat_abs k = omega (arith, ints, c.unsigned_abs-else-by-lt0.ensures.value, scale_small c.args.unit) in
    let e : m * 10 ^ c.unsigned_abs-else-by-lt0.result ≡ m * 10 ^ nat_abs k = ap (λ x. m * 10 ^ x) a in
    ok_or_cases c.raised.result _ c.ok_or-else-by-lt0.result _ _ _ _ c.ok_or-else-by-lt0.ensures.value c.raised.ensures (λ h. (_, (lifted_up m k _ up e, omega arith))) (λ n h. lifted_up m k n up (h ∙ e))
