-- What a line comes to is determined by its words and the session, and what a script prints, and the session that it leaves, by the script.
use Rattle.std.proofs.Common.{◌≡◌, ℕ, ◌+◌, cond, eqb, List, [], ◌∷◌, ◌++◌, length, Some, Ok, Err, Option, Result, sym, refl, ap, ◌∙◌, subst, inl, inr, arith}
use Rattle.capacity.specs.declared.faults.MapFault.{MapFault}
use Rattle.capacity.specs.declared.faults.MapFault.TheVariants.{Kept, Connector}
use Rattle.capacity.specs.Faults.{MapRefusal, map_told}
use Rattle.capacity.specs.Meaning.{Capacity}
use Rattle.capacity.specs.Network.{Network, no_network}
use Rattle.capacity.specs.Tests.{said}
use Rattle.session.specs.Rounds.{Logged}
use Rattle.session.specs.State.{State, fresh}
use Rattle.events.specs.declared.calls.Call.{Call}
use Rattle.events.specs.Events.{Answer}
use Rattle.events.specs.Turns.{Turned}
use Rattle.history.proofs.OneTurn.{one_turn}
use Rattle.reading.specs.declared.faults.LinkFault.TheVariants.{Word, Map}
use Rattle.reading.specs.declared.links.Link.{Link}
use Rattle.reading.specs.Faults.{upward}
use Rattle.reading.specs.Fields.{after_letter}
use Rattle.reading.specs.Making.{sizes, link_fields, link}
use Rattle.reading.specs.Output.{mark_line}
use Rattle.reading.specs.Printing.{Line}
use Rattle.reading.specs.Text.{lines, words}
use Rattle.reading.proofs.Once.{not_both, one_making}
use Rattle.lines.proofs.Once.{one_asking}
use Rattle.runs.specs.Lines.{session_number, Outcome, unread, turn, LinesCome, all_printed, OneOutcome}
use Rattle.runs.specs.Maps.{Linked, Connects, OneLink, map_printed, register_on}
use Rattle.runs.specs.Runs.{CallLines, MapLines, Misformed, Headed, ComesTo, OnePrint}

-- ---- the lines of calls

module _ (p i : ℕ) (s : State) where
  same_turn : (k k' : Call) (a a' : Answer) (xs xs' : List Logged) (t t' : State) → k ≡ k' → Turned s p k a xs t → Turned s p k' a' xs' t' → (a ≡ a') × (xs ≡ xs') × (t ≡ t')
  same_turn k k' a a' xs xs' t t' e h h' = one_turn s p k a a' xs xs' t t' h (subst (λ (c : Call). Turned s p c a' xs' t') (sym e) h')

  pub one_outcome : (ws : List (List ℕ)) → OneOutcome p i s ws
  one_outcome ws (unread e) (unread e') t t' h k = let same = one_asking i ws (Err e) (Err e') h.0 k.0 in (cc, h.1 ∙ sym k.1)
  one_outcome ws (unread e) (turn c a xs r) t t' h k = absurd (not_both c e (one_asking i ws (Ok c) (Err e) k.0 h.0))
  one_outcome ws (turn c a xs r) (unread e) t t' h k = absurd (not_both c e (one_asking i ws (Ok c) (Err e) h.0 k.0))
  one_outcome ws (turn c a xs r) (turn c' a' xs' r') t t' (asks, turned, rest) (asks', turned', rest') =
      let asked = one_asking i ws (Ok c) (Ok c') asks asks' in
      let call : c ≡ c' = cc in
      let (answer, trades, after) = same_turn c c' a a' xs xs' t t' call turned turned' in
      let resting : r ≡ r' = rest ∙ ap (λ (u : State). length u.book) after ∙ sym rest' in
      (cc, after)

one_lines : (ls : List (List ℕ)) (s : State) (os os' : List Outcome) (t t' : State) → LinesCome s ls os t → LinesCome s ls os' t' → (os ≡ os') × (t ≡ t')
one_lines [] s os os' t t' h k = (h.0 ∙ sym k.0, h.1 ∙ sym k.1)
one_lines (l ∷ ls) s [] os' t t' h k = absurd h
one_lines (l ∷ ls) s (o ∷ os) [] t t' h k = absurd k
one_lines (l ∷ ls) s (o ∷ os) (o' ∷ os') t t' (u, first, rest) (u', first', rest') =
    let (outcome, after) = one_outcome session_number 0 s (words l) o o' u u' first first' in
    let (others, end) = one_lines ls u os os' t t' rest (subst (λ (v : State). LinesCome v ls os' t') (sym after) rest') in
    (cc, end)

one_calls : (m : Capacity) (n : ℕ) (ls : List (List ℕ)) (t t' : State) (out out' : List Line) → CallLines m n ls t out → CallLines m n ls t' out' → (t ≡ t') × (out ≡ out')
one_calls m n ls t t' out out' h k =
    let (same, end) = one_lines ls (fresh session_number m) h.outcomes k.outcomes t t' h.each k.each in
    (end, h.printed ∙ ap (all_printed n) same ∙ sym k.printed)

-- ---- the lines of the map

-- no two faults of a map tell the same
abbrev map_fault : MapRefusal → MapFault
map_fault r = cond (eqb r.number 12) (Kept r.from r.to) (Connector r.from r.to)

map_fault_told : (f : MapFault) → map_fault (map_told f) ≡ f
map_fault_told (Kept a b) = refl
map_fault_told (Connector a b) = refl

same_said : (a b : Result (Unit {0}) MapFault) → said map_told a ≡ said map_told b → a ≡ b
same_said (Ok x) (Ok y) e = refl
same_said (Ok x) (Err g) e = absurd (not_both tt (map_told g) e)
same_said (Err f) (Ok y) e = absurd (not_both tt (map_told f) (sym e))
same_said (Err f) (Err g) e = let told : map_told f ≡ map_told g = cc in ap Err (sym (map_fault_told f) ∙ ap map_fault told ∙ map_fault_told g)

one_connecting : (m : Network) (x : Link) (r r' : Linked) (m₁ m₂ : Network) → Connects m x r m₁ → Connects m x r' m₂ → (r ≡ r') × (m₁ ≡ m₂)
one_connecting m x r r' m₁ m₂ h k =
    (h.outcome ∙ ap (upward Map) (same_said h.answer k.answer (h.as_told ∙ sym k.as_told)) ∙ sym k.outcome, h.after ∙ sym k.after)

pub one_link : (i : ℕ) (m : Network) (ws : List (List ℕ)) → OneLink i m ws
one_link i m ws r r' m₁ m₂ (inl (e, (makes, is, after))) (inl (e', (makes', is', after'))) =
    let made = one_making i link_fields (λ zs. link (sizes zs)) ws (Err e) (Err e') makes makes' in
    let fault : e ≡ e' = cc in
    (is ∙ ap (λ z. Err (Word z)) fault ∙ sym is', after ∙ sym after')
one_link i m ws r r' m₁ m₂ (inl (e, (makes, is, after))) (inr (x, (makes', connects))) = absurd (not_both x e (one_making i link_fields (λ zs. link (sizes zs)) ws (Ok x) (Err e) makes' makes))
one_link i m ws r r' m₁ m₂ (inr (x, (makes, connects))) (inl (e, (makes', is, after))) = absurd (not_both x e (one_making i link_fields (λ zs. link (sizes zs)) ws (Ok x) (Err e) makes makes'))
one_link i m ws r r' m₁ m₂ (inr (x, (makes, connects))) (inr (x', (makes', connects'))) =
    let made = one_making i link_fields (λ zs. link (sizes zs)) ws (Ok x) (Ok x') makes makes' in
    let same : x ≡ x' = cc in
    one_connecting m x r r' m₁ m₂ connects (subst (λ (y : Link). Connects m y r' m₂) (sym same) connects')

-- ---- the whole script

one_map : (ls : List (List ℕ)) (m : Network) (n : ℕ) (t t' : State) (out out' : List Line) → MapLines m n ls t out → MapLines m n ls t' out' → (t ≡ t') × (out ≡ out')
one_map [] m n t t' out out' h k = one_calls (register_on m) n [] t t' out out' h k
one_map (l ∷ ls) m n t t' out out' (inl (letter, (r, m₁, more, (line, printed, rest)))) (inl (letter', (r', m₂, more', (line', printed', rest')))) =
    let (outcome, after) = one_link 1 m (after_letter (words l)) r r' m₁ m₂ line line' in
    let (end, others) = one_map ls m₁ (n + 1) t t' more more' rest (subst (λ (z : Network). MapLines z (n + 1) ls t' more') (sym after) rest') in
    (end, printed ∙ ap (λ (z : Linked). map_printed n z ++ more) outcome ∙ ap (λ (z : List Line). map_printed n r' ++ z) others ∙ sym printed')
one_map (l ∷ ls) m n t t' out out' (inl h) (inr k) = absurd (k.0 h.0)
one_map (l ∷ ls) m n t t' out out' (inr h) (inl k) = absurd (h.0 k.0)
one_map (l ∷ ls) m n t t' out out' (inr h) (inr k) = one_calls (register_on m) n (l ∷ ls) t t' out out' h.1 k.1

-- the lines that a run prints and the session that it leaves are the same as another's
abbrev Same : Option State → List Line → Option State → List Line → Type 0
Same t out t' out' = (t ≡ t') × (out ≡ out')

one_misformed : (n : ℕ) (t t' : Option State) (out out' : List Line) → Misformed n t out → Misformed n t' out' → Same t out t' out'
one_misformed n t t' out out' h k = (h.0 ∙ sym k.0, h.1 ∙ sym k.1)

one_heading : (ls : List (List ℕ)) (t t' : Option State) (out out' : List Line) → Headed ls t out → Headed ls t' out' → Same t out t' out'
one_heading [] t t' out out' h k = one_misformed 1 t t' out out' h k
one_heading (l ∷ ls) t t' out out' (inl (is, (u, (e, h)))) (inl (is', (u', (e', k)))) =
    let (end, text) = one_map ls no_network 2 u u' out out' h k in
    (e ∙ ap Some end ∙ sym e', text)
one_heading (l ∷ ls) t t' out out' (inl h) (inr k) = absurd (k.0 h.0)
one_heading (l ∷ ls) t t' out out' (inr h) (inl k) = absurd (h.0 k.0)
one_heading (l ∷ ls) t t' out out' (inr h) (inr k) = one_misformed 1 t t' out out' h.1 k.1

one_coming : (script : List ℕ) (t t' : Option State) (out out' : List Line) → ComesTo script t out → ComesTo script t' out' → Same t out t' out'
one_coming script t t' out out' (inl h) (inl k) = one_misformed 0 t t' out out' h.1 k.1
one_coming script t t' out out' (inl h) (inr k) = absurd (omega (arith, h.0, k.0))
one_coming script t t' out out' (inr h) (inl k) = absurd (omega (arith, h.0, k.0))
one_coming script t t' out out' (inr h) (inr k) = one_heading (lines script) t t' out out' h.1 k.1

pub one_print : (script : List ℕ) → OnePrint script
one_print script t t' out out' (rest, (printed, comes)) (rest', (printed', comes')) =
    let (end, same) = one_coming script t t' rest rest' comes comes' in
    (end, printed ∙ ap (λ (z : List Line). mark_line ∷ z) same ∙ sym printed')
