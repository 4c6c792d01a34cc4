-- How `Pairing::best_sell` meets its contract.
use Rattle.std.proofs.Common.{rules}
use Rattle.matching.proofs.Ranked.{best_of}
use Rattle.matching.proofs.pairs.Pairing.best_sell.Goals as goal

pub returns : goal.returns
returns c = best_of c.best.ensures _ (λ k b t. search rules) (λ k l p. c.sells.ensures.whole k p)
