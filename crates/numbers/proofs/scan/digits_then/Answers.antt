-- What `digits_then` leaves to show.
use Rattle.std.proofs.Common.{ap, ◌∙◌, arith, take, drop}
use Rattle.std.specs.Char.{is_ascii_digit}
use Rattle.std.proofs.lemmas.List.Sums.{prefix_len-le-length}
use Rattle.numbers.proofs.Scanned.{front_splits}
use Rattle.numbers.proofs.scan.digits_then.Goals as goal

pub split_at-requires : goal.split_at-requires
split_at-requires c = omega (arith, prefix_len-le-length is_ascii_digit c.args.s.now)

pub returns : goal.returns
returns c = front_splits _ _ _ (c.split_at.ensures.front ∙ ap (λ n. take n c.args.s.now) c.digit_run.ensures) (c.split_at.ensures.back ∙ ap (λ n. drop n c.args.s.now) c.digit_run.ensures)
