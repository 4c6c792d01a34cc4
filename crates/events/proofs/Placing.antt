-- A route fills the first of 16 places.
use Rattle.std.proofs.Common.{◌≡◌, ℕ, ◌-◌, ◌≤◌, List, [], ◌∷◌, ◌++◌, length, take, drop, replicate, Some, Ok, refl, sym, ap, ◌∙◌, subst}
use Rattle.std.specs.List.{AllByRecursion}
use Rattle.std.proofs.lemmas.List.{take_all, take_at}
use Rattle.routes.specs.Paths.{Relation, Area, Onward, Path}
use Rattle.routes.proofs.Repeats.{few}
use Rattle.trades.specs.declared.trade.Trade.{Trade}
use Rattle.session.specs.Rounds.{Logged, Makes}
use Rattle.session.specs.State.{State}
use Rattle.session.specs.Steps.{Trades}
use Rattle.session.proofs.Running.{areas_are}
use Rattle.events.specs.declared.events.Traded.{Traded}
use Rattle.events.specs.Events.{logged, places, in_places, PlacesAfter}

onward_areas : (O : Relation) (a q : ℕ) (xs : List ℕ) → Onward O a q xs → AllByRecursion Area xs
onward_areas O a q [] h = tt
onward_areas O a q (b ∷ xs) h = (h.0.1, onward_areas O b q xs h.1)

path_few : (O : Relation) (p q : ℕ) (xs : List ℕ) → Path O p q xs → length xs ≤ 16
path_few O p q [] h = absurd h.0
path_few O p q (a ∷ xs) h = few 16 (a ∷ xs) h.1 (h.0.0, onward_areas O a q xs h.0.2)

-- the first places are the route
first_places : (n : ℕ) (xs : List ℕ) → n ≡ length xs → length xs ≤ 16 → take n (places xs) ≡ xs
first_places n xs e l =
    let whole = take_all 16 xs l in
    take_at (take 16 xs) (replicate (16 - length xs) 0) n (ap length whole ∙ sym e) ∙ whole

-- a trade told in 16 places is told as it was made
pub told_whole : (s u : State) (x : Logged) → Makes s x u → logged x.trade (places x.route) ≡ x
told_whole s u x m =
    ap (λ (r : List ℕ). record { trade = x.trade; route = r }) (first_places x.trade.areas x.route m.deal.areas (path_few _ _ _ x.route m.deal.route.0))

-- so is the trade of a step, whose route stands in the places that the step was lent
pub step_told : (s : State) (before : List ℕ) (x : Trade) (after : List ℕ) (t : State) (y : Traded)
    → Trades s before x after t → y ≡ in_places (record { trade = x; route = take x.areas after })
    → Makes s (logged y.trade y.route) t × PlacesAfter before (Ok (Some y)) after
step_told s before x after t y d e =
    let made : Logged = record { trade = x; route = d.route } in
    let makes : Makes s made t = record { round = d.round; under_way = d.under_way; deal = d.deal; state = d.state } in
    let same : logged x (places d.route) ≡ made = told_whole s t made makes in
    let answer : y ≡ in_places made = e ∙ ap (λ (r : List ℕ). in_places (record { trade = x; route = r })) (areas_are s before x after t d) in
    let P : Logged → Type 0 = λ z. Makes s z t × ((places d.route ≡ places z.route) × (after ≡ z.route ++ drop (length z.route) before)) in
    subst (λ (z : Traded). Makes s (logged z.trade z.route) t × PlacesAfter before (Ok (Some z)) after) (sym answer)
    (subst P (sym same) (makes, (refl, d.places)))
