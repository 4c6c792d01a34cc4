-- Which contracts are closed, read off a list of flags.
use Rattle.std.proofs.Common.{◌≡◌, ℕ, Bool, false, get_or, replicate}
use mathlib.Core.Path.{fun_ext}
use Rattle.capacity.proofs.Lists.{get_d_same}

pub none_closed : (n : ℕ) → ◌≡◌ {A = ℕ → Bool} (λ k. get_or (replicate n false) k false) (λ k. false)
none_closed n = fun_ext (λ k. get_d_same n k false)
