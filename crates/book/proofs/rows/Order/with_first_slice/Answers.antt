-- How `Order::with_first_slice` meets its contract: a first slice is an iceberg by its type.
use Rattle.book.proofs.Renewing.{is_iced}
use Rattle.book.proofs.rows.Order.with_first_slice.Goals as goal

pub returns-in-Some-clause-iced : goal.returns-in-Some-clause-iced
returns-in-Some-clause-iced c = λ y. is_iced c.row.result c.row.ensures.iced
