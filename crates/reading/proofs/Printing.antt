-- A number in range of its reader reads back, and lines of such numbers are ASCII.
use Rattle.std.proofs.Common.{ℕ, ◌≤◌, List, [], ◌∷◌, ◌++◌, ℤ, pos, ◌≤ℤ◌, negsuc, codes, arith}
use Rattle.std.specs.List.{AllByRecursion}
use Rattle.std.specs.Str.{IsAscii}
use Rattle.std.proofs.lemmas.Int.{ints}
use Rattle.std.proofs.lemmas.Str.{IsAscii-append}
use Rattle.std.proofs.lemmas.Str.Ascii.{IsAscii-nil, IsAscii-cons}
use Rattle.numbers.specs.Reading.{InRange}
use Rattle.numbers.specs.Printing.{shown}
use Rattle.numbers.proofs.Printed.{back, shown_ascii}
use Rattle.reading.specs.Printing.{Number, plain, amount, flow, price, Line, numbers_text, line_text, lines_text, ReadsBack, LineReadsBack}

pub reads_back : (n : Number) → InRange n.signed n.count → ReadsBack n
reads_back n r = back n.unit n.signed n.count r

pub plain_back : (n : ℕ) → n ≤ 2147483647 → ReadsBack (plain n)
plain_back n few = reads_back (plain n) (omega (arith, ints), omega (arith, ints))

pub amount_back : (q : ℕ) → q ≤ 2147483647 → ReadsBack (amount q)
amount_back q few = reads_back (amount q) (omega (arith, ints), omega (arith, ints))

pub flow_back : (z : ℤ) → negsuc 2147483647 ≤ℤ z → z ≤ℤ pos 2147483647 → ReadsBack (flow z)
flow_back z low high = reads_back (flow z) (low, high)

pub price_back : (z : ℤ) → negsuc 2147483647 ≤ℤ z → z ≤ℤ pos 2147483647 → ReadsBack (price z)
price_back z low high = reads_back (price z) (low, high)

-- ---- ASCII

numbers_ascii : (ns : List Number) → AllByRecursion ReadsBack ns → IsAscii (numbers_text ns)
numbers_ascii [] h = IsAscii-nil
numbers_ascii (n ∷ ns) h =
    IsAscii-cons 32 _ (omega arith)
    (IsAscii-append (shown n.unit n.count) (numbers_text ns) (shown_ascii n.unit n.signed n.count h.0.1) (numbers_ascii ns h.1))

pub line_ascii : (l : Line) → IsAscii l.letter → LineReadsBack l → IsAscii (line_text l)
line_ascii l letter h =
    IsAscii-append l.letter (numbers_text l.numbers ++ codes "\n") letter
    (IsAscii-append (numbers_text l.numbers) (codes "\n") (numbers_ascii l.numbers h) (IsAscii-cons 10 [] (omega arith) IsAscii-nil))

pub lines_ascii : (ls : List Line) → AllByRecursion (λ l. IsAscii (line_text l)) ls → IsAscii (lines_text ls)
lines_ascii [] h = IsAscii-nil
lines_ascii (l ∷ ls) h = IsAscii-append (line_text l) (lines_text ls) h.0 (lines_ascii ls h.1)
