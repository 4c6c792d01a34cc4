-- The log has heard what is printed and nothing else, and that is text.
use Rattle.std.proofs.Common.{◌≡◌, ℕ, List, [], ◌++◌, Some, vec_items, IsUtf8, sym, ap, ◌∙◌, subst}
use Rattle.std.specs.Option.{option_map}
use Rattle.std.specs.Result.{result_ok}
use Rattle.reading.specs.declared.text.TextLog.{TextLog}
use Rattle.reading.specs.Logs.{heard, Hears}
use Rattle.reading.specs.Printing.{lines_text}
use Rattle.runs.proofs.tests.printed.Goals as goal

all_heard : (a b : TextLog) (text x : List ℕ) → heard a ≡ Some [] → Hears a text b → heard b ≡ Some x → text ≡ x
all_heard a b text x first h e =
    let (y, before, joined) = h.adds x e in
    let nothing : y ≡ [] = cc in
    sym (joined ∙ ap (λ (z : List ℕ). z ++ text) nothing)

pub returns : goal.returns
returns c =
    let (lines, prints, hears) = c.run.ensures.prints in
    let bytes = vec_items c.in_ok-bytes.bytes in
    let answer : heard c.run.result.output ≡ Some bytes = ap (λ r. option_map (λ v. vec_items v) (result_ok r)) (sym c.into_text.ensures ∙ c.in_ok-bytes.was) in
    c.from_utf8.ensures.succeeds (subst IsUtf8 (all_heard c.new.result c.run.result.output (lines_text lines) bytes c.new.ensures hears answer) (c.run.ensures.text _ lines prints))
