-- Every direction of a connector has its line, since a register joins areas below 16 only.
use Rattle.std.proofs.Common.{ℕ, List, [], ◌∷◌, sym, subst, arith}
use Rattle.std.specs.List.{ContainsAt as Has}
use Rattle.std.proofs.ByRecursion.{has_push}
use Rattle.std.proofs.lemmas.Bool.{cond-true}
use Rattle.capacity.specs.Meaning.{Sound, atc}
use Rattle.session.specs.State.{State}
use Rattle.views.specs.declared.lines.CapacityLine.{CapacityLine}
use Rattle.views.specs.Capacities.{line_of, lines_from, NoneLeftOut}
use Rattle.views.proofs.Belows.{below_has}

pub none_left_out : (s : State) → Sound s.capacity → (c : ℕ) → NoneLeftOut s c
none_left_out s sound c a b h =
    let m = s.capacity in
    let x : CapacityLine = record { from = a; to = b; atc = atc m c a b } in
    let areas = sound.areas a b h in
    let here : Has (line_of m c a b) x = subst (λ (ys : List CapacityLine). Has ys x) (sym (cond-true (m.joins a b) (x ∷ []) [] h)) (has_push [] x) in
    below_has (lines_from m c) a 16 x (omega (arith, areas.0)) (below_has (line_of m c a) b 16 x (omega (arith, areas.1)) here)
