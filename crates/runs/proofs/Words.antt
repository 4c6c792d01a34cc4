-- What the words of a line may be: a number without a sign is in range, and so is the place of a word at fault.
use Rattle.std.proofs.Common.{◌≡◌, ℕ, zero, suc, ◌+◌, ◌<◌, ◌≤◌, List, [], ◌∷◌, length, ℤ, nat_abs, Some, None, Ok, Err, Option, Result, ◌==◌, MatchBool, Bool, true, false, arith, sym, ap, ◌∙◌, subst}
use Rattle.std.proofs.lemmas.Int.{ints}
use Rattle.numbers.specs.declared.Unit.{Unit as Measure}
use Rattle.numbers.specs.declared.Unit.TheVariants as unit
use Rattle.numbers.specs.declared.NumberFault.{NumberFault}
use Rattle.book.specs.declared.rows.Kind.{Kind}
use Rattle.book.specs.declared.rows.Side.{Side}
use Rattle.events.specs.declared.calls.Call.{Call}
use Rattle.events.specs.declared.calls.Call.TheVariants.{Enter, Change, Withdraw, Request, Notice, Close}
use Rattle.reading.specs.declared.faults.WordFault.{WordFault}
use Rattle.reading.specs.declared.faults.WordFault.TheVariants.{Form, Number}
use Rattle.reading.specs.declared.fields.Field.{Field}
use Rattle.reading.specs.declared.fields.Field.TheVariants.{Count}
use Rattle.reading.specs.Fields.{WordAnswers, Faulty, first_letter, after_letter}
use Rattle.reading.specs.Making.{Makes, MakesOfCounts, sizes, link_fields, link}
use Rattle.lines.specs.Asking.{notice_fields, notice, request_fields, request, change_fields, change, withdrawal_fields, withdrawal, closing_fields, closing, entry_fields, entry, EntryBy, EntryLine, ByLetter, Asks}

-- the most that a reader without a sign reads
abbrev pub most : ℕ
most = 2147483647

-- ---- places

faulty_place : (us : List Field) (ws : List (List ℕ)) (k : ℕ) (f : NumberFault) → Faulty us ws k f → k < length us
faulty_place [] ws k f h = absurd h
faulty_place (u ∷ us) [] k f h = absurd h
faulty_place (u ∷ us) (w ∷ ws) zero f h = omega arith
faulty_place (u ∷ us) (w ∷ ws) (suc k) f h = let l = faulty_place us ws k f h.1 in omega arith

-- the place of a fault is within the line's first n words
abbrev pub Within : ℕ → WordFault → Type 0
Within n Form = Unit {0}
Within n (Number k f) = k ≤ n

within_more : (m n : ℕ) (e : WordFault) → m ≤ n → Within m e → Within n e
within_more m n Form l h = tt
within_more m n (Number k f) l h = omega arith

makes_within : {X : Type 0} (i : ℕ) (us : List Field) (make : List ℤ → X) (ws : List (List ℕ)) (e : WordFault) → Makes i us make ws (Err e) → Within (i + length us) e
makes_within i us make ws Form h = tt
makes_within i us make ws (Number k f) (same, (j, (at_j, is))) = let l = faulty_place us ws j f at_j in omega arith

form_within : {X : Type 0} (n : ℕ) (e : WordFault) → ◌≡◌ {A = Result X WordFault} (Err e) (Err Form) → Within n e
form_within n e h = let same : e ≡ Form = cc in subst (Within n) (sym same) tt

entry_within : (i : ℕ) (ws : List (List ℕ)) (d : Option Side) (k : Option Kind) (e : WordFault) → EntryBy i ws d k (Err e) → Within (i + 10) e
entry_within i ws None k e h = form_within (i + 10) e h
entry_within i ws (Some d) None e h = form_within (i + 10) e h
entry_within i ws (Some d) (Some k) e h = makes_within i entry_fields (entry d k) ws e h

by_bool : (b : Bool) (P Q R : Type 0) → (P → R) → (Q → R) → MatchBool b P Q → R
by_bool true P Q R f g h = f h
by_bool false P Q R f g h = g h

letter_within : (c : Option ℕ) (i : ℕ) (ws : List (List ℕ)) (e : WordFault) → ByLetter c i ws (Err e) → Within (i + 10) e
letter_within None i ws e h = form_within (i + 10) e h
letter_within (Some c) i ws e h =
    by_bool (c == 67) _ _ _ (λ m. within_more (i + 4) (i + 10) e (omega arith) (makes_within i change_fields change ws e m))
    (by_bool (c == 69) _ _ _ (λ (m : EntryLine i ws (Err e)). entry_within i ws m.0 m.1 e m.2.2)
    (by_bool (c == 75) _ _ _ (λ m. within_more (i + 1) (i + 10) e (omega arith) (makes_within i closing_fields (λ zs. closing (sizes zs)) ws e m))
    (by_bool (c == 78) _ _ _ (λ m. within_more (i + 7) (i + 10) e (omega arith) (makes_within i notice_fields (λ zs. notice (sizes zs)) ws e m))
    (by_bool (c == 87) _ _ _ (λ m. within_more (i + 2) (i + 10) e (omega arith) (makes_within i withdrawal_fields (λ zs. withdrawal (sizes zs)) ws e m))
    (by_bool (c == 88) _ _ _ (λ m. within_more (i + 4) (i + 10) e (omega arith) (makes_within i request_fields (λ zs. request (sizes zs)) ws e m))
    (form_within (i + 10) e)))))) h

-- of a line of calls, and of the words after an M
pub asks_within : (ws : List (List ℕ)) (e : WordFault) → Asks 0 ws (Err e) → Within 11 e
asks_within ws e h = letter_within (first_letter ws) 1 (after_letter ws) e h

pub link_within : (ws : List (List ℕ)) (e : WordFault) → MakesOfCounts 1 link_fields link ws (Err e) → Within 11 e
link_within ws e h = within_more 5 11 e (omega arith) (makes_within 1 link_fields (λ zs. link (sizes zs)) ws e h)

-- ---- numbers

-- what a word without a sign is read as
count_most : (u : Measure) (w : List ℕ) (z : ℤ) → WordAnswers (Count u) w (Ok z) → nat_abs z ≤ most
count_most u w z h = omega (arith, ints, h.1.0, h.1.1)

-- the number of an order that is entered was read
abbrev pub Named : Call → Type 0
Named (Enter e) = e.number ≤ most
Named (Change c) = Unit {0}
Named (Withdraw n m) = Unit {0}
Named (Request d q) = Unit {0}
Named (Notice d f) = Unit {0}
Named (Close c) = Unit {0}

entry_named : (i : ℕ) (ws : List (List ℕ)) (d : Side) (k : Kind) (c : Call) → Makes i entry_fields (entry d k) ws (Ok c) → Named c
entry_named i ws d k c (zs, ((w, ws', z, zs', (e, is, reads, rest)), made)) =
    subst Named (sym (made ∙ ap (entry d k) is)) (count_most unit.Count w z reads)

entered_named : (i : ℕ) (ws : List (List ℕ)) (d : Option Side) (k : Option Kind) (c : Call) → EntryBy i ws d k (Ok c) → Named c
entered_named i ws None k c h = cc
entered_named i ws (Some d) None c h = cc
entered_named i ws (Some d) (Some k) c h = entry_named i ws d k c h

letter_named : (l : Option ℕ) (i : ℕ) (ws : List (List ℕ)) (c : Call) → ByLetter l i ws (Ok c) → Named c
letter_named None i ws c h = cc
letter_named (Some l) i ws c h =
    by_bool (l == 67) _ _ _ (λ (m : Makes i change_fields change ws (Ok c)). subst Named (sym m.1.1) tt)
    (by_bool (l == 69) _ _ _ (λ (m : EntryLine i ws (Ok c)). entered_named i ws m.0 m.1 c m.2.2)
    (by_bool (l == 75) _ _ _ (λ (m : MakesOfCounts i closing_fields closing ws (Ok c)). subst Named (sym m.1.1) tt)
    (by_bool (l == 78) _ _ _ (λ (m : MakesOfCounts i notice_fields notice ws (Ok c)). subst Named (sym m.1.1) tt)
    (by_bool (l == 87) _ _ _ (λ (m : MakesOfCounts i withdrawal_fields withdrawal ws (Ok c)). subst Named (sym m.1.1) tt)
    (by_bool (l == 88) _ _ _ (λ (m : MakesOfCounts i request_fields request ws (Ok c)). subst Named (sym m.1.1) tt)
    (λ m. cc)))))) h

pub asks_named : (ws : List (List ℕ)) (c : Call) → Asks 0 ws (Ok c) → Named c
asks_named ws c h = letter_named (first_letter ws) 1 (after_letter ws) c h
