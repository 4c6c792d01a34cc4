-- What `read_amount` leaves to show.
use Rattle.std.proofs.Common.{◌≡◌, true, ◌∷◌, length, ℤ, pos, ◌-ℤ◌, w64, to_z, of_z, sym, subst, ap, arith, ltb-true, ltb-false}
use Rattle.std.proofs.lemmas.Int.{ints}
use Rattle.std.proofs.lemmas.Result.{err_from_is_err_and}
use Rattle.numbers.specs.Reading.{Means}
use Rattle.numbers.specs.Scans.{Unread, Lacks}
use Rattle.numbers.proofs.Scanned.{after, begins, lacks_short}
use Rattle.numbers.proofs.Once.{means, unread, unsigned}
use Rattle.numbers.proofs.read_amount.Goals as goal
use Rattle.numbers.proofs.read_amount.Goals.{in_default-via-then-word-lt1, in_default-via-else-word-lt1+in_default-1}

pub returns-in_err-read_size-in-45 : goal.returns-in_err-read_size-in-45
returns-in_err-read_size-in-45 c =
    let p = err_from_is_err_and c.from_residual.result c.from_residual.ensures.1 in
    let s = c.args.word.now in
    let b : s ≡ 45 ∷ after s = begins s 45 (omega (arith, ltb-true, ltb-false)) (omega (arith, ltb-true, ltb-false)) in
    let e = c.in_err-read_size-in-45.field-0.0 in
    rw (p.1, p.2) (subst (λ x. Unread x c.args.unit e) (sym b) (unread true (after s) c.args.unit (omega (arith, ap length b)) (λ z. absurd (cc)) e c.in_err-read_size-in-45.ensures))

pub returns-in_ok-read_size-in-45 : goal.returns-in_ok-read_size-in-45
returns-in_ok-read_size-in-45 c =
    let s = c.args.word.now in
    let b : s ≡ 45 ∷ after s = begins s 45 (omega (arith, ltb-true, ltb-false)) (omega (arith, ltb-true, ltb-false)) in
    let n = c.in_ok-read_size-in-45.field-0 in
    let z : ℤ = to_z w64 (of_z w64 (pos 0 -ℤ to_z w64 (of_z w64 n))) in
    subst (λ x. Means x c.args.unit z) (sym b) (means true (after s) c.args.unit (omega (arith, ap length b)) n z c.in_ok-read_size-in-45.ensures (omega (arith, ints, c.in_ok-read_size-in-45.ensures.value)))

pub returns-in_default : goal.returns-in_default
returns-in_default c =
    let s = c.args.word.now in
    let l : Lacks 45 s = elim c.in_default.branch [
      | in_default-via-then-word-lt1 w ↦ lacks_short 45 s (omega (arith, ltb-true, ltb-false)) (omega arith)
      | in_default-via-else-word-lt1+in_default-1 w ↦ λ e. omega (arith, ltb-true, ltb-false)
    ] in
    unsigned s c.args.unit (omega arith) l _ c.read_size-in_default.ensures
