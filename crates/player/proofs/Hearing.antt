-- What is heard of a turn, and of turns one after another.
use Rattle.std.proofs.Common.{◌≡◌, ℕ, ◌+◌, ◌<◌, true, false, List, [], ◌∷◌, ◌++◌, map, reverse, length, get_or, take, None, Ok, sym, refl, ap, ◌∙◌, subst}
use Rattle.std.proofs.lemmas.List.{take_more, reverse-append}
use Rattle.session.specs.Rounds.{Logged, Noted}
use Rattle.session.specs.State.{State}
use Rattle.events.specs.declared.calls.Call.{Call}
use Rattle.events.specs.declared.events.Event.{Event}
use Rattle.events.specs.declared.events.Event.TheVariants.{Called, Stepped}
use Rattle.events.specs.Events.{Answer, round_follows}
use Rattle.events.specs.Performing.{Performed}
use Rattle.events.specs.Turns.{with_steps, with_turn}
use Rattle.player.specs.declared.telling.Telling.{Telling}
use Rattle.player.specs.Playing.{placed, Played}
use Rattle.player.specs.Sinks.{Heard, trade_event, TurnHeard}
use Rattle.player.proofs.Turns.{played_more}

module _ {S : Type 0} (H : S → Event → S → Type 0) where
  heard_last : (a b c : S) (es : List Event) (e : Event) → Heard H a es b → H b e c → Heard H a (es ++ e ∷ []) c
  heard_last a b c [] e same x = (c, subst (λ (y : S). H y e c) same x, refl)
  heard_last a b c (d ∷ es) e (l, one, more) x = (l, one, heard_last l b c es e more x)

  -- one event more, of a list newest first
  heard_more : (a b c : S) (h : List Event) (e : Event) → Heard H a (reverse h) b → H b e c → Heard H a (reverse (e ∷ h)) c
  heard_more a b c h e x y = subst (λ (es : List Event). Heard H a es c) (sym (reverse-append (e ∷ []) h)) (heard_last a b c (reverse h) e x y)

  -- what telling a call and a trade makes, as the code says it
  abbrev pub Calls : Telling S → Event → Telling S → Type 0
  Calls a e b = (b.pass ≡ a.pass) × H a.sink e b.sink

  abbrev pub Notes : Telling S → Logged → Telling S → Type 0
  Notes a x b = (b.pass ≡ a.pass) × H a.sink (trade_event a.pass x) b.sink

  -- the trades of a round are heard, and its end is still to be
  record StepsHeard (p : ℕ) (a : Telling S) (xs : List Logged) (b : Telling S) : Type 0 where
    pub pass : b.pass ≡ p
    pub heard : (o : S) (h : List Event) (c : S) → Heard H o (reverse h) a.sink → H b.sink (Stepped p 16 (Ok None)) c → Heard H o (reverse (with_steps p (map placed xs) h)) c

  steps_heard : (p : ℕ) (a : Telling S) (xs : List Logged) (b : Telling S) → a.pass ≡ p → Noted Notes a xs b → StepsHeard p a xs b
  steps_heard p a [] b e same = record {
    pass = ap (λ (l : Telling S). l.pass) same ∙ e;
    heard = λ o h c so end. heard_more o a.sink c h (Stepped p 16 (Ok None)) so (subst (λ (l : Telling S). H l.sink (Stepped p 16 (Ok None)) c) same end);
  }
  steps_heard p a (x ∷ xs) b e (l, one, more) =
      let rest = steps_heard p l xs b (one.0 ∙ e) more in
      let first : H a.sink (trade_event p x) l.sink = subst (λ (n : ℕ). H a.sink (trade_event n x) l.sink) e one.1 in
      record {
        pass = rest.pass;
        heard = λ o h c so end. rest.heard o (trade_event p x ∷ h) c (heard_more o a.sink l.sink h (trade_event p x) so first) end;
      }

  module _ (s : State) (p : ℕ) (k : Call) (before mid : Telling S) (a : Answer) (t : State) (did : Performed Calls Notes s p k before a mid t) (own : before.pass ≡ p) where
    steps : StepsHeard p did.told did.trades mid
    steps = steps_heard p did.told did.trades mid (did.call_noted.0 ∙ own) did.trades_noted

    pub same_pass : mid.pass ≡ before.pass
    same_pass = steps.pass ∙ sym own

    call : (o : S) (h : List Event) → Heard H o (reverse h) before.sink → Heard H o (reverse (Called p k a ∷ h)) did.told.sink
    call o h so = heard_more o before.sink did.told.sink h (Called p k a) so did.call_noted.1

    -- a round follows, and its end is heard
    pub round_heard : round_follows k a ≡ true → (c : S) → H mid.sink (Stepped mid.pass 16 (Ok None)) c → TurnHeard H s p k before.sink c t
    round_heard b c end =
        let last : H mid.sink (Stepped p 16 (Ok None)) c = subst (λ (n : ℕ). H mid.sink (Stepped n 16 (Ok None)) c) steps.pass end in
        record {
          answer = a;
          trades = did.trades;
          turn = did.turn;
          heard = λ o h so. rw b (steps.heard o (Called p k a ∷ h) c (call o h so) last);
        }

    -- none follows, and there is nothing more to hear
    pub call_heard : round_follows k a ≡ false → TurnHeard H s p k before.sink mid.sink t
    call_heard b =
        let none : did.trades ≡ [] = (rw b at did.turn.followed).0 in
        let same : mid ≡ did.told = rw none at did.trades_noted in
        record {
          answer = a;
          trades = did.trades;
          turn = did.turn;
          heard = λ o h so. rw (b, same) (call o h so);
        }

  -- from s and o these calls have been played, and their events heard
  pub record SoFar (p : ℕ) (s : State) (ks : List Call) (t : State) (o b : S) : Type 0 where
    pub events : List Event
    pub played : Played p s [] ks t events
    pub heard : Heard H o (reverse events) b

  pub one_more : (p q : ℕ) (s t u : State) (ks : List Call) (i : ℕ) (d : Call) (o a b : S)
      → i < length ks → q ≡ p → SoFar p s (take i ks) t o a → TurnHeard H t q (get_or ks i d) a b u → SoFar p s (take (i + 1) ks) u o b
  one_more p q s t u ks i d o a b l e so turn =
      let k = get_or ks i d in
      let now : TurnHeard H t p k a b u = subst (λ (n : ℕ). TurnHeard H t n k a b u) e turn in
      record {
        events = with_turn p k now.answer (map placed now.trades) so.events;
        played = rw (take_more ks i d l) (played_more p s [] (take i ks) t so.events k now.answer now.trades u so.played now.turn);
        heard = now.heard o so.events so.heard;
      }

  pub none_yet : (p : ℕ) (s : State) (o : S) → SoFar p s [] s o o
  none_yet p s o = record { events = []; played = (refl, refl); heard = refl }
