-- How `Book::make_newest` meets its contract.
use Rattle.std.proofs.Common.{arith}
use Rattle.book.proofs.Fronts.{turned}
use Rattle.book.proofs.places.Book.make_newest.Goals as goal

pub returns : goal.returns
returns c =
    let b = c.args.self.now in
    turned b.rows c.rotate_left.new.self b.len c.len-n.result c.args.at c.len-n.ensures.count (omega (arith, c.requires, c.len-n.ensures.count)) c.rotate_left.ensures.after
