-- The loop of `Span::of`.
use Rattle.book.specs.Places.{orders}
use Rattle.matching.specs.Spans.{Covers}
use Rattle.matching.proofs.spans.Span.of.Given as goal

abbrev pub invariant-loop-at : goal.invariant-loop-at
invariant-loop-at l = Covers l.number (orders l.book) l.at l.span
