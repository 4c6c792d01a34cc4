-- What is printed line by line, put together.
use Rattle.std.proofs.Common.{◌≡◌, ℕ, ◌+◌, ◌<◌, ◌≤◌, Bool, true, false, List, [], ◌∷◌, ◌++◌, map, length, Some, None, Ok, Err, Decides, Option, Result, sym, refl, ap, ◌∙◌, subst, inl, inr, append_assoc, append-nil, arith}
use Rattle.std.proofs.lemmas.Bool.{true≢false}
use Rattle.capacity.specs.Meaning.{Capacity}
use Rattle.capacity.specs.Network.{Network, no_network}
use Rattle.session.specs.Rounds.{Logged, Noted}
use Rattle.session.specs.State.{State}
use Rattle.events.specs.declared.calls.Call.{Call}
use Rattle.events.specs.Events.{Answer, acceptance}
use Rattle.events.specs.Performing.{Performed}
use Rattle.reading.specs.declared.faults.WordFault.{WordFault}
use Rattle.reading.specs.declared.reader.Reader.{Reader}
use Rattle.reading.specs.Fields.{first_letter, after_letter, letter_below, LetterTaken, InLine}
use Rattle.reading.specs.Output.{mark, mark_line, refusal_line}
use Rattle.reading.specs.Printing.{Line, line_text, lines_text}
use Rattle.reading.specs.Reading.{unread, ahead, below, words_of, Begun, NextLine}
use Rattle.reading.specs.Sinks.{Hearing, Whole}
use Rattle.reading.proofs.Heard.{lines_text_append}
use Rattle.reading.specs.Text.{words}
use Rattle.lines.specs.declared.faults.LineFault.{LineFault}
use Rattle.lines.specs.declared.faults.LineFault.TheVariants.{Word, Session}
use Rattle.reading.specs.declared.faults.WordFault.TheVariants.{Form}
use Rattle.reading.specs.Faults.{upward, word_number, word_place}
use Rattle.lines.specs.Asking.{Asks, LineReadTo}
use Rattle.runs.specs.declared.output.Printer.{Printer}
use Rattle.runs.specs.Lines as outcome
use Rattle.runs.specs.Lines.{Outcome, line_answer, LineComes, LineRun, answer_line, trade_lines, printed, all_printed}
use Rattle.runs.specs.Maps.{Linked, MapLine, MapLineRun, map_printed, register_on}
use Rattle.runs.specs.Output.{trade_line}
use Rattle.runs.specs.Runs.{CallLines, MapLines, Misformed, Headed, Prints}
use Rattle.runs.proofs.Told.{as_answered}
use Rattle.runs.specs.Running.{FirstLine, HeaderRead, Allowing, PrintsSome, MapsBelow, CallsBelow, TurnsBelow, TurnRun, MapsRun, CallsRun, ScriptRun}

-- ---- the header

some_same : (x y : List ℕ) → Some x ≡ Some y → x ≡ y
some_same x y e = cc

-- whether the line at hand, which is the first, is mark and version
pub header_read : (s t : Reader) (line : List ℕ) (r : Bool) → NextLine s true t → Some line ≡ unread t → Decides r (line ≡ mark) → HeaderRead s r t
header_read s t line true first e d = rw first.0.1.0 ((sym (some_same line first.0.0 (e ∙ first.0.1.1)) ∙ d.0 refl, refl), first.1)
header_read s t line false first e d = rw first.0.1.0 (λ m. true≢false (sym (d.1 (some_same line first.0.0 (e ∙ first.0.1.1) ∙ m))))

-- ---- the map

no_letter : (ls : List (List ℕ)) → ls ≡ [] → letter_below ls ≡ Some 77 → ⊥
no_letter ls e m = let none : ◌≡◌ {A = Option ℕ} None (Some 77) = sym (ap letter_below e) ∙ m in cc

-- The line after the one at hand at s is an M line, and its letter is read at t.
pub record MLine (s t : Reader) : Type 0 where
  pub line : List ℕ
  pub next : below s ≡ line ∷ below t
  pub letter : first_letter (words line) ≡ Some 77
  pub rest : ahead t ≡ after_letter (words line)
  pub number : t.lines ≡ s.lines + 1
  pub one : t.words ≡ 1

pub m_line : (s h t : Reader) (there : Bool) (l : Option ℕ) → letter_below (below s) ≡ Some 77 → NextLine s there h → LetterTaken h l t → MLine s t
m_line s h t false l m (none, kept) k = absurd (no_letter (below s) none m)
m_line s h t true l m ((line, (next, at_hand)), number, unread) k =
    let at : ahead h ≡ words line = ap words_of at_hand in
    let letter : first_letter (words line) ≡ Some 77 = ap letter_below (sym next) ∙ m in
    record {
      line = line;
      next = next ∙ ap (λ x. line ∷ x) (sym k.stays.0);
      letter = letter;
      rest = k.rest ∙ ap after_letter at;
      number = k.stays.1 ∙ number;
      one = k.counted 77 (k.is ∙ ap first_letter at ∙ letter) ∙ ap (λ n. n + 1) unread;
    }

-- the map ends where another letter follows, or nothing
map_ended : (m : Network) (n : ℕ) (ls : List (List ℕ)) (x : State) (more : List Line) → (letter_below ls ≡ Some 77 → ⊥) → CallLines (register_on m) n ls x more → MapLines m n ls x more
map_ended m n [] x more other h = h
map_ended m n (l ∷ ls) x more other h = inr (other, h)

-- the last line that is printed for an outcome
pub ends_with : (n p i r : ℕ) (o : Outcome) (s t : State) (ws : List (List ℕ)) → LineComes p i s ws o t → r ≡ length t.book → printed n o ≡ trade_lines n o ++ answer_line n (line_answer o) r ∷ []
ends_with n p i r (outcome.unread e) s t ws h rests = refl
ends_with n p i r (outcome.turn k a xs q) s t ws h rests = ap (λ (j : ℕ). map trade_line xs ++ answer_line n (line_answer (outcome.turn k a xs q)) j ∷ []) (h.2 ∙ sym rests)

-- The line after the one at hand at s is at hand at t and carried out at u.
pub record OneLine (s t u : Reader) : Type 0 where
  pub line : List ℕ
  pub next : below s ≡ line ∷ below u
  pub all : ahead t ≡ words line
  pub number : t.lines ≡ s.lines + 1
  pub unread : t.words ≡ 0
  pub stays : u.lines ≡ t.lines

pub one_line : (s t u : Reader) → NextLine s true t → InLine t u → OneLine s t u
one_line s t u line (ls, ns) = record {
  line = line.0.0;
  next = line.0.1.0 ∙ ap (λ x. line.0.0 ∷ x) (sym ls);
  all = ap words_of line.0.1.1;
  number = line.1;
  unread = line.2;
  stays = ns;
}

headed : (ls ls' : List (List ℕ)) (x : State) (out : List Line) → FirstLine ls true ls' → MapLines no_network 2 ls' x out → Headed ls (Some x) out
headed [] ls' x out h k = absurd h
headed (l ∷ ls) ls' x out h k = inl (h.0, (x, (refl, subst (λ (z : List (List ℕ)). MapLines no_network 2 z x out) h.1 k)))

misheaded : (ls : List (List ℕ)) (out : List Line) → FirstLine ls false [] → Misformed 1 None out → Headed ls None out
misheaded [] out h k = k
misheaded (l ∷ ls) out h k = inr (h, k)

-- the line that refuses the form of a script as line n
abbrev pub form_line : ℕ → Line
form_line n = refusal_line n (word_number Form) (word_place Form)

module _ {S : Type 0} (H : Hearing S) (whole : Whole H) where
  -- ---- what a sink hears

  pub more_heard : (xs ys : List Line) (a b c : S) → H a (lines_text xs) b → H b (lines_text ys) c → H a (lines_text (xs ++ ys)) c
  more_heard xs ys a b c f g = subst (λ (t : List ℕ). H a t c) (sym (lines_text_append xs ys)) (whole.joined a b c (lines_text xs) (lines_text ys) f g)

  pub one_heard : (x : Line) (a b : S) → H a (line_text x) b → H a (lines_text (x ∷ [])) b
  one_heard x a b h = subst (λ (t : List ℕ). H a t b) (sym (append-nil (line_text x))) h

  -- what noting a trade makes of a printer
  abbrev pub Notes : Printer S → Logged → Printer S → Type 0
  Notes u x v = H u.sink (line_text (trade_line x)) v.sink

  -- the trades of a turn are printed one after another
  trades_heard : (xs : List Logged) (a b : Printer S) → Noted Notes a xs b → H a.sink (lines_text (map trade_line xs)) b.sink
  trades_heard [] a b e = subst (λ (u : Printer S). H a.sink [] u.sink) (sym e) (whole.nothing a.sink)
  trades_heard (x ∷ xs) a b (u, one, more) = whole.joined a.sink u.sink b.sink (line_text (trade_line x)) (lines_text (map trade_line xs)) one (trades_heard xs u b more)

  -- ---- one line

  pub turn_run : (s t : State) (p : ℕ) (r r' : Reader) (k : Call) (a : Answer) (answer : Result (Unit {0}) LineFault) (before after : Printer S)
      → answer ≡ upward Session (acceptance a) → Asks r.words (ahead r) (Ok k) → LineReadTo r (Ok k) r'
      → Performed (λ (u : Printer S) e (v : Printer S). v ≡ u) Notes s p k before a after t
      → TurnRun H s p r before.sink answer t r' after.sink
  turn_run s t p r r' k a answer before after is asks read did = record {
    outcome = outcome.turn k a did.trades (length t.book);
    comes = (asks, did.turn, refl);
    read = read;
    answered = is;
    told = as_answered (outcome.turn k a did.trades (length t.book)) answer is;
    heard = trades_heard did.trades before after (subst (λ (u : Printer S). Noted Notes u did.trades after) did.call_noted did.trades_noted);
  }

  pub unread_run : (s : State) (p : ℕ) (r r' : Reader) (e : WordFault) (fault : LineFault) (before : S)
      → fault ≡ Word e → Asks r.words (ahead r) (Err e) → LineReadTo r (Err e) r' → TurnRun H s p r before (Err fault) s r' before
  unread_run s p r r' e fault before is asks read = record {
    outcome = outcome.unread e;
    comes = (asks, refl);
    read = read;
    answered = ap Err is;
    told = as_answered (outcome.unread e) (Err fault) (ap Err is);
    heard = whole.nothing before;
  }

  pub line_run : (s t : State) (p n q : ℕ) (r r' : Reader) (answer : Result (Unit {0}) LineFault) (a b c : S)
      → TurnRun H s p r a answer t r' b → n ≡ r.lines → q ≡ length t.book → H b (line_text (answer_line n answer q)) c → LineRun H s p r a answer t r' c
  line_run s t p n q r r' answer a b c turn number rests last =
      let o = turn.outcome in
      let ending = answer_line r.lines (line_answer o) q in
      let ended : H b (line_text ending) c = rw (number, turn.answered) at last in
      record {
        outcome = o;
        comes = turn.comes;
        read = turn.read;
        answered = turn.answered;
        told = turn.told;
        heard = subst (λ (out : List Line). H a (lines_text out) c) (sym (ends_with r.lines p r.words q o s t (ahead r) turn.comes rests))
            (more_heard (trade_lines r.lines o) (ending ∷ []) a b c turn.heard (one_heard ending b c ended));
      }

  -- ---- one line after another

  pub none_printed : (P : Allowing) (a : S) → PrintsSome H P P a a
  none_printed P a = ([], (whole.nothing a, λ t more h. h))

  printed_on : (P Q R : Allowing) (a b c : S) → PrintsSome H P Q a b → PrintsSome H Q R b c → PrintsSome H P R a c
  printed_on P Q R a b c (x, (e, f)) (y, (g, h)) =
      (x ++ y, (more_heard x y a b c e g, λ t more r. rw append_assoc (f t (y ++ more) (h t more r))))

  -- one more M line, whose letter is read at t and whose words are read at u
  pub map_more : (P : Allowing) (m m' : Network) (s t u : Reader) (r : Linked) (a b c : S) → PrintsSome H P (MapsBelow m s) a b → MLine s t → MapLineRun H m t b r m' c → InLine t u → PrintsSome H P (MapsBelow m' u) a c
  map_more P m m' s t u r a b c so l run (ls, ns) =
      let e : below s ≡ l.line ∷ below u = l.next ∙ ap (λ x. l.line ∷ x) (sym ls) in
      let first : MapLine 1 m (ahead t) r m' = subst (λ (i : ℕ). MapLine i m (ahead t) r m') l.one run.comes in
      printed_on P (MapsBelow m s) (MapsBelow m' u) a b c so
      (map_printed t.lines r, (run.heard, λ x more k. rw (e, sym l.number) (inl (l.letter, (r, m', more, (subst (λ (x : List (List ℕ)). MapLine 1 m x r m') l.rest first, refl, rw ns at k))))))

  pub maps_done : (P : Allowing) (m : Network) (s : Reader) (a b : S) → PrintsSome H P (MapsBelow m s) a b → (letter_below (below s) ≡ Some 77 → ⊥) → PrintsSome H P (CallsBelow (register_on m) s) a b
  maps_done P m s a b (x, (e, f)) other = (x, (e, λ u more h. f u more (map_ended m (s.lines + 1) (below s) u more other h)))

  -- one more line of calls, at hand at t and carried out at u
  pub line_more : (P : Allowing) (x y : State) (p : ℕ) (s t u : Reader) (answer : Result (Unit {0}) LineFault) (a b c : S) → PrintsSome H P (TurnsBelow x s) a b → p ≡ 1 → OneLine s t u → LineRun H x p t b answer y u c → PrintsSome H P (TurnsBelow y u) a c
  line_more P x y p s t u answer a b c so number one run =
      let o = run.outcome in
      let comes : LineComes 1 0 x (words one.line) o y =
      subst (λ (z : List (List ℕ)). LineComes 1 0 x z o y) one.all (subst (λ (i : ℕ). LineComes 1 i x (ahead t) o y) one.unread (subst (λ (q : ℕ). LineComes q t.words x (ahead t) o y) number run.comes)) in
      printed_on P (TurnsBelow x s) (TurnsBelow y u) a b c so (
        printed t.lines o,
        (
          run.heard,
          λ z more k. rw (one.next, sym one.number) (record {
            outcomes = o ∷ k.outcomes;
            each = (y, comes, k.each);
            printed = ap (λ z. printed t.lines o ++ z) (k.printed ∙ ap (λ (i : ℕ). all_printed (i + 1) k.outcomes) one.stays);
          }),
        ),
      )

  pub lines_done : (P : Allowing) (x : State) (s t : Reader) (a b : S) → PrintsSome H P (TurnsBelow x s) a b → NextLine s false t → (out : List Line) × (H a (lines_text out) b × P x out)
  lines_done P x s t a b (out, (e, f)) (none, kept) =
      (out, (e, rw append-nil at (f x [] (rw none (record { outcomes = []; each = (refl, refl); printed = refl })))))

  -- ---- the script

  -- a script that is not too long, with its header read at h, its map at t, and its calls after that
  pub script_run : (script : List ℕ) (s h t : Reader) (m : Network) (register : Capacity) (x : State) (a b c : S) → length script ≤ 65536 → Begun script s → HeaderRead s true h → MapsRun H h a m t b → register ≡ register_on m → CallsRun H register t b x c → ScriptRun H script a (Some x) c
  script_run script s h t m register x a b c short begun (first, n) (y, (e, f)) on (z, (g, k)) =
      let two : h.lines + 1 ≡ 2 = omega (arith, begun.no_line) in
      let calls : CallsBelow (register_on m) t x z = subst (λ (r : Capacity). CallsBelow r t x z) on k in
      let maps : MapLines no_network 2 (below h) x (y ++ z) = subst (λ (i : ℕ). MapLines no_network i (below h) x (y ++ z)) two (f x z calls) in
      (y ++ z, (more_heard y z a b c e g, inr (short, rw (sym (begun.all_below short)) (headed (below s) (below h) x (y ++ z) first maps))))

  -- one that is too long is refused, and so is one with another first line, or with none
  pub too_long_run : (script : List ℕ) (a b : S) → 65536 < length script → H a (line_text (form_line 0)) b → ScriptRun H script a None b
  too_long_run script a b long h = (form_line 0 ∷ [], (one_heard (form_line 0) a b h, inl (long, (refl, refl))))

  pub no_header_run : (script : List ℕ) (s t : Reader) (a b : S) → length script ≤ 65536 → Begun script s → HeaderRead s false t → H a (line_text (form_line 1)) b → ScriptRun H script a None b
  no_header_run script s t a b short begun first h =
      let out = form_line 1 ∷ [] in
      (out, (one_heard (form_line 1) a b h, inr (short, subst (λ (ls : List (List ℕ)). Headed ls None out) (begun.all_below short) (misheaded (below s) out first (refl, refl)))))

  -- mark and version, and then what the lines of the script come to
  pub printed_run : (script : List ℕ) (t : Option State) (a b c : S) → H a (line_text mark_line) b → ScriptRun H script b t c → (out : List Line) × (Prints script t out × H a (lines_text out) c)
  printed_run script t a b c marked (rest, (heard, comes)) = (mark_line ∷ rest, ((rest, (refl, comes)), whole.joined a b c (line_text mark_line) (lines_text rest) marked heard))
