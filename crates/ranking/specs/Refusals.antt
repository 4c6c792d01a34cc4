-- The number that a refusal is known by.
use Rattle.std.specs.Prelude.{ℕ}
use Rattle.ranking.specs.declared.faults.RankingFault.{RankingFault}
use Rattle.ranking.specs.declared.faults.RankingFault.TheVariants.{Full}

abbrev pub fault_number : RankingFault → ℕ
fault_number Full = 15
