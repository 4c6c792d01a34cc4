-- Every change of the book keeps it orderly.
use Rattle.std.proofs.Common.{◌≡◌, ℕ, Bool, List, None, filter}
use Rattle.std.proofs.ByRecursion.{all_kept_by}
use Rattle.book.specs.declared.rows.Order.{Order}
use Rattle.book.specs.Orderly.{Fit, Orderly}
use Rattle.book.specs.Places.{appended, without, place, numbered}
use Rattle.book.specs.Trades.{settled}
use Rattle.book.proofs.Lasting.{fit_settled, all_without, all_appended}
use Rattle.book.proofs.Numbers.{distinct_appended, distinct_without, distinct_kept, distinct_settled}

pub orderly_appended : (os : List Order) (o : Order) → Orderly os → Fit o → place (numbered o.number) os ≡ None → Orderly (appended os o)
orderly_appended os o h f e = record { fit = all_appended Fit os o h.fit f; distinct = distinct_appended os o h.distinct e }

pub orderly_without : (os : List Order) (i : ℕ) → Orderly os → Orderly (without os i)
orderly_without os i h = record { fit = all_without Fit os i h.fit; distinct = distinct_without os i h.distinct }

pub orderly_kept : (p : Order → Bool) (os : List Order) → Orderly os → Orderly (filter p os)
orderly_kept p os h = record { fit = all_kept_by p Fit os h.fit; distinct = distinct_kept p os h.distinct }

pub orderly_settled : (b s q : ℕ) (os : List Order) → Orderly os → Orderly (settled b s q os)
orderly_settled b s q os h = record { fit = fit_settled b s q os h.fit; distinct = distinct_settled b s q os h.distinct }
