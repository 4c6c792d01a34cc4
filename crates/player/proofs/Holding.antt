-- A log that heard a list of events holds it, where there was memory enough.
use Rattle.std.proofs.Common.{◌≡◌, List, [], ◌∷◌, ◌++◌, vec_items, Some, Ok, Err, Result, Option, IfOk, refl, sym, ap, ◌∙◌, subst}
use Rattle.std.proofs.lemmas.List.{append-nil, append_assoc}
use Rattle.std.specs.Option.{option_map}
use Rattle.std.specs.Result.{result_ok}
use Rattle.events.specs.declared.events.Event.{Event}
use Rattle.player.specs.declared.logs.EventLog.{EventLog}
use Rattle.player.specs.Logs.{told, Adds}
use Rattle.player.specs.Sinks.{Heard}

added : (a : EventLog) (es : List Event) (b : EventLog) → Heard Adds a es b → (g : List Event) → told b ≡ Some g → (f : List Event) × (told a ≡ Some f) × (g ≡ f ++ es)
added a [] b same g e = (g, ap told (sym same) ∙ e, sym (append-nil g))
added a (e ∷ es) b (l, one, more) g q =
    let rest = added l es b more g q in
    let first = one.adds rest.0 rest.1 in
    (first.0, first.1, rest.2 ∙ ap (λ (x : List Event). x ++ es) first.2 ∙ append_assoc first.0 (e ∷ []) es)

if_ok : {T E : Type 0} (r : Result T E) (P : T → Type 0) → ((v : T) → r ≡ Ok v → P v) → IfOk r P
if_ok (Ok v) P f = f v refl
if_ok (Err e) P f = tt

none_first : (o : Option (List Event)) (f : List Event) → o ≡ Some [] → o ≡ Some f → f ≡ []
none_first o f h k = cc

-- what is so of the events that were heard is so of those that are held
pub held : (P : List Event → Type 0) (a b : EventLog) (es : List Event) → told a ≡ Some [] → Heard Adds a es b → P es → IfOk b.events (λ v. P (vec_items v))
held P a b es first heard p =
    if_ok b.events (λ v. P (vec_items v)) (λ v e.
    let all = added a es b heard (vec_items v) (ap (λ r. option_map vec_items (result_ok r)) e) in
    let same : vec_items v ≡ es = all.2 ∙ ap (λ (x : List Event). x ++ es) (none_first (told a) all.0 first all.1) in
    subst P (sym same) p)
