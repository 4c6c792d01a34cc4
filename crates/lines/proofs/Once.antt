-- A line asks for one thing.
use Rattle.std.proofs.Common.{◌≡◌, ℕ, ◌+◌, Bool, true, false, eqb, List, [], get_or, ℤ, Some, None, Err, MatchBool, Option, Result, sym, refl, ap, ◌∙◌, arith}
use Rattle.book.specs.declared.rows.Kind.{Kind}
use Rattle.book.specs.declared.rows.Kind.TheVariants.{Non, Ioc, Ice}
use Rattle.book.specs.declared.rows.Side.{Side}
use Rattle.book.specs.declared.rows.Side.TheVariants.{Buy, Sell}
use Rattle.events.specs.declared.calls.Call.{Call}
use Rattle.reading.specs.declared.faults.WordFault.{WordFault}
use Rattle.reading.specs.declared.faults.WordFault.TheVariants.{Form}
use Rattle.reading.specs.Fields.{first_letter, after_letter}
use Rattle.reading.specs.Making.{sizes}
use Rattle.reading.proofs.Once.{one_making}
use Rattle.lines.specs.Asking.{notice_fields, notice, request_fields, request, change_fields, change, withdrawal_fields, withdrawal, closing_fields, closing, entry_fields, entry, side_word, kind_word, Stands, EntryBy, EntryLine, ByLetter, Asks}

-- ---- side and kind

one_standing : {X : Type 0} (spelt : X → List ℕ) → ((x y : X) → spelt x ≡ spelt y → x ≡ y) → (w : List ℕ) (a b : Option X) → Stands spelt w a → Stands spelt w b → a ≡ b
one_standing spelt differ w None None h k = refl
one_standing spelt differ w None (Some y) h k = absurd (h y k)
one_standing spelt differ w (Some x) None h k = absurd (k x h)
one_standing spelt differ w (Some x) (Some y) h k = ap Some (differ x y (sym h ∙ k))

-- words with different first letters differ
first_letters : (v w : List ℕ) → v ≡ w → get_or v 0 0 ≡ get_or w 0 0
first_letters v w e = ap (λ (x : List ℕ). get_or x 0 0) e

sides_differ : (x y : Side) → side_word x ≡ side_word y → x ≡ y
sides_differ Buy Buy e = refl
sides_differ Buy Sell e = absurd (omega (arith, first_letters _ _ e))
sides_differ Sell Buy e = absurd (omega (arith, first_letters _ _ e))
sides_differ Sell Sell e = refl

kinds_differ : (x y : Kind) → kind_word x ≡ kind_word y → x ≡ y
kinds_differ Non Non e = refl
kinds_differ Ioc Ioc e = refl
kinds_differ Ice Ice e = refl
kinds_differ Non Ioc e = absurd (omega (arith, first_letters _ _ e))
kinds_differ Non Ice e = absurd (omega (arith, first_letters _ _ e))
kinds_differ Ioc Non e = absurd (omega (arith, first_letters _ _ e))
kinds_differ Ice Non e = absurd (omega (arith, first_letters _ _ e))
kinds_differ Ioc Ice e = absurd (omega (arith, ap (λ (x : List ℕ). get_or x 1 0) e))
kinds_differ Ice Ioc e = absurd (omega (arith, ap (λ (x : List ℕ). get_or x 1 0) e))

pub one_side : (w : List ℕ) (a b : Option Side) → Stands side_word w a → Stands side_word w b → a ≡ b
one_side = one_standing side_word sides_differ

pub one_kind : (w : List ℕ) (a b : Option Kind) → Stands kind_word w a → Stands kind_word w b → a ≡ b
one_kind = one_standing kind_word kinds_differ

-- ---- a call

-- P allows one answer at most
abbrev One : (Result Call WordFault → Type 0) → Type 0
One P = (r r' : Result Call WordFault) → P r → P r' → r ≡ r'

wrong_form : One (λ r. r ≡ Err Form)
wrong_form r r' h k = h ∙ sym k

one_entry_by : (i : ℕ) (ws : List (List ℕ)) (d : Option Side) (k : Option Kind) → One (EntryBy i ws d k)
one_entry_by i ws None k = wrong_form
one_entry_by i ws (Some d) None = wrong_form
one_entry_by i ws (Some d) (Some k) = one_making i entry_fields (entry d k) ws

one_entry : (i : ℕ) (ws : List (List ℕ)) → One (EntryLine i ws)
one_entry i ws r r' (d, k, (side, kind, by)) (d', k', (side', kind', by')) =
    let same_side = one_side (get_or ws 3 []) d d' side side' in
    let same_kind = one_kind (get_or ws 5 []) k k' kind kind' in
    one_entry_by i ws d k r r' by (rw (same_side, same_kind) by')

one_when : (b : Bool) (P Q : Result Call WordFault → Type 0) → One P → One Q → One (λ r. MatchBool b (P r) (Q r))
one_when true P Q p q = p
one_when false P Q p q = q

one_by_letter : (l : Option ℕ) (i : ℕ) (ws : List (List ℕ)) → One (ByLetter l i ws)
one_by_letter None i ws = wrong_form
one_by_letter (Some c) i ws =
    one_when (eqb c 67) _ _ (one_making i change_fields change ws)
    (one_when (eqb c 69) _ _ (one_entry i ws)
    (one_when (eqb c 75) _ _ (one_making i closing_fields (λ (zs : List ℤ). closing (sizes zs)) ws)
    (one_when (eqb c 78) _ _ (one_making i notice_fields (λ (zs : List ℤ). notice (sizes zs)) ws)
    (one_when (eqb c 87) _ _ (one_making i withdrawal_fields (λ (zs : List ℤ). withdrawal (sizes zs)) ws)
    (one_when (eqb c 88) _ _ (one_making i request_fields (λ (zs : List ℤ). request (sizes zs)) ws) wrong_form)))))

pub one_asking : (i : ℕ) (ws : List (List ℕ)) (r r' : Result Call WordFault) → Asks i ws r → Asks i ws r' → r ≡ r'
one_asking i ws = one_by_letter (first_letter ws) (i + 1) (after_letter ws)
