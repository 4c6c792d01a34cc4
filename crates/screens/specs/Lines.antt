-- How a line of each view is printed.
use Rattle.std.specs.Prelude.{ℕ, List, [], ◌∷◌, codes}
use Rattle.book.specs.declared.rows.Side.{Side}
use Rattle.book.specs.declared.rows.Side.TheVariants.{Buy, Sell}
use Rattle.reading.specs.Printing.{Line, plain, amount, flow, price}
use Rattle.views.specs.declared.lines.BookLine.{BookLine}
use Rattle.views.specs.declared.lines.CapacityLine.{CapacityLine}

-- contract, both areas, the ATC in MW
abbrev pub capacity_line : ℕ → CapacityLine → Line
capacity_line c x =
    record { letter = codes "A"; numbers = plain c ∷ plain x.from ∷ plain x.to ∷ flow x.atc ∷ [] }

abbrev pub side_letter : Side → List ℕ
side_letter Buy = codes "B"
side_letter Sell = codes "S"

-- contract, the area that it shows in, its place, the limit in euro and the quantity in MW
abbrev pub book_line : ℕ → ℕ → BookLine → Line
book_line c a x = record {
  letter = side_letter x.side;
  numbers = plain c ∷ plain a ∷ plain x.place ∷ price x.limit ∷ amount x.quantity ∷ [];
}
