-- Nothing kept back.
use mathlib.Core.Path.{fun_ext}
use Rattle.capacity.proofs.Links.{none_kept}
use Rattle.capacity.proofs.map.wishes.Wishes.none.Goals as goal

pub returns : goal.returns
returns c = fun_ext (λ a. fun_ext (λ b. none_kept 256 a b))
