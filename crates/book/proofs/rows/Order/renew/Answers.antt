-- How `Order::renew` meets its contract: a next slice is an iceberg by its type.
use Rattle.book.proofs.rows.Order.renew.Goals as goal

pub returns-in-Some-clause-iced : goal.returns-in-Some-clause-iced
returns-in-Some-clause-iced c = λ y. c.row.ensures.iced
