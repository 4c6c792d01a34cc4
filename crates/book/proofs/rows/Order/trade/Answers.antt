-- How `Order::trade` meets its contract: what still shows is an iceberg by its type.
use Rattle.book.proofs.Renewing.{is_iced}
use Rattle.book.proofs.rows.Order.trade.Goals as goal

pub returns-in-Ok-clause-iced : goal.returns-in-Ok-clause-iced
returns-in-Ok-clause-iced c = λ h y. is_iced c.row.result c.row.ensures.iced
