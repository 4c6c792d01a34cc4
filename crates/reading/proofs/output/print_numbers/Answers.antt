-- One number after another is heard.
use Rattle.std.proofs.Common.{◌≡◌, ◌∙◌, ℕ, List, ap, get_or}
use Rattle.numbers.specs.Printing.{shown, text_of}
use Rattle.reading.specs.Printing.{Number}
use Rattle.reading.proofs.Heard.{heard_as, number_heard}
use Rattle.reading.proofs.output.print_numbers.Goals as goal

pub loop-number-preserved : goal.loop-number-preserved
loop-number-preserved g c =
    let h = g.S.TextSink.hears in
    let w = g.S.TextSink.whole in
    let xs = c.args.numbers.now in
    let i = c.loop-number.number-index in
    let x = c.number-item.result in
    let at : x ≡ get_or xs i x = c.number-item.is in
    let n : Number = g.N.Printed.number (get_or xs i x) in
    let m : List ℕ = shown (g.N.Printed.number x).unit (g.N.Printed.number x).count in
    let e : text_of c.shown.result ≡ shown n.unit n.count = ◌∙◌ {b = m} c.shown.ensures (ap (λ y. shown (g.N.Printed.number y).unit (g.N.Printed.number y).count) at) in
    number_heard h w g.N.Printed.number xs i x c.args.out.now c.loop-number.out c.hear.new.self _ c.loop-number-test.true c.loop-number.invariant c.hear.ensures (heard_as h w _ _ _ _ (c.as_bytes.ensures ∙ e) c.hear-in-loop-number.ensures)
