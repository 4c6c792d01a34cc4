-- How `Pairing::best_buy` meets its contract.
use Rattle.std.proofs.Common.{rules, arith}
use Rattle.matching.proofs.Ranked.{best_of}
use Rattle.matching.proofs.pairs.Pairing.best_buy.Goals as goal

pub returns : goal.returns
returns c = best_of c.best.ensures _ (λ k b t. search rules) (λ k l p. (omega (arith, c.all-all.ensures), omega (arith, c.all-all.ensures)))
