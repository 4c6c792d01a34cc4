-- Rows that have run out: what they leave as the newest, and that it is icebergs.
use Rattle.std.proofs.Common.{◌≡◌, ℕ, ◌+◌, ◌<◌, min, Bool, true, false, cond, not, ltb, List, [], ◌∷◌, ◌++◌, map, length, get_or, take, filter, sym, refl, ap, subst, ◌∙◌, arith}
use Rattle.std.specs.List.{AllByRecursion}
use Rattle.std.proofs.ByRecursion.{All-append, All-map, All-weaker, kept_by_passes}
use Rattle.std.proofs.lemmas.List.{map-append}
use Rattle.std.proofs.lemmas.List.Elements.{filter_more}
use Rattle.std.proofs.lemmas.Bool.{cond-false, and_parts, and_left, and_right, not_from_true, ltb-true, lt-ltb}
use Rattle.book.specs.declared.rows.Order.{Order}
use Rattle.book.specs.Icebergs.{is_iceberg, Iced, IcedIfShown}
use Rattle.book.specs.Orders.{is_ice, shows, run_out, next_slice}
use Rattle.book.specs.Ranks.{blank}
use Rattle.book.specs.Trades.{renewable, renewal, renewed_by}
use Rattle.book.proofs.Lasting.{all_both}

-- what shows is not to be renewed
shown_not : (o : Order) → shows o ≡ true → renewable o ≡ false
shown_not o y = and_right _ _ (and_left _ _ (and_left _ _ (not_from_true _ y)))

pub none_left : (o : Order) → shows o ≡ true → renewal o ≡ []
none_left o y = cond-false _ _ _ (shown_not o y)

map_cond : (b : Bool) (o : Order) → map next_slice (cond b (o ∷ []) []) ≡ cond b (next_slice o ∷ []) []
map_cond true o = refl
map_cond false o = refl

pub renewals_more : (os : List Order) (i : ℕ) → i < length os → map next_slice (filter renewable (take (i + 1) os)) ≡ map next_slice (filter renewable (take i os)) ++ renewal (get_or os i blank)
renewals_more os i l =
    let o = get_or os i blank in
    let front = filter renewable (take i os) in
    ap (map next_slice) (filter_more renewable os i blank l)
    ∙ map-append next_slice front (cond (renewable o) (o ∷ []) [])
    ∙ ap (λ t. map next_slice front ++ t) (map_cond (renewable o) o)

next_shows : (o : Order) → renewable o ≡ true → shows (next_slice o) ≡ true
next_shows o y =
    let a = and_parts (run_out o) _ (and_parts (is_ice o.kind) _ y).1 in
    let some = ltb-true 0 o.«open» (and_parts (not (shows o)) (ltb 0 o.«open») a.0).1 in
    let peak = ltb-true 0 o.peak (and_parts (ltb 0 o.peak) _ a.1).0 in
    lt-ltb 0 (min o.peak o.«open») (omega (arith, some, peak))

-- all show once what has run out is renewed or has left
all_show : (os : List Order) → AllByRecursion (λ o. shows o ≡ true) (renewed_by renewable os)
all_show os =
    let P : Order → Type 0 = λ o. shows o ≡ true in
    let out = filter renewable os in
    All-append P (filter shows os) (map next_slice out) (kept_by_passes shows os)
    (All-map P next_slice out (All-weaker (λ o. renewable o ≡ true) (λ o. P (next_slice o)) next_shows out (kept_by_passes renewable os)))

pub all_iced_now : (os now : List Order) → now ≡ renewed_by renewable os → AllByRecursion IcedIfShown now → AllByRecursion Iced now
all_iced_now os now e h =
    let P : Order → Type 0 = λ o. shows o ≡ true in
    All-weaker (λ o. IcedIfShown o × P o) Iced (λ o k. k.0 k.1) now (all_both IcedIfShown P now h (subst (AllByRecursion P) (sym e) (all_show os)))

pub iced_while_shown : (os : List Order) → AllByRecursion Iced os → AllByRecursion IcedIfShown os
iced_while_shown os h = All-weaker Iced IcedIfShown (λ o k y. k) os h

-- an iceberg is of kind ICE
pub is_iced : (o : Order) → is_iceberg o ≡ true → Iced o
is_iced o y = y ∙ sym (and_parts (is_ice o.kind) _ y).0
