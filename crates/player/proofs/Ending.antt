-- The end of a session that was played.
use Rattle.std.proofs.Common.{◌≡◌, ℕ, ◌≤◌, true, eqb, eq-eqb, List, [], length, take, None, Ok, Err, Result, IsOk, MatchResult, reverse, sym, refl, ◌∙◌, subst}
use Rattle.std.proofs.lemmas.List.{reverse-reverse, take_all}
use Rattle.capacity.specs.Meaning.{Capacity, Sound}
use Rattle.session.specs.declared.passes.QuietPass.{QuietPass}
use Rattle.session.specs.declared.passes.Refused.{Refused}
use Rattle.session.specs.declared.state.Session.{Session}
use Rattle.session.specs.Calls.{ended, ending}
use Rattle.session.specs.State.{State, fresh, register_of}
use Rattle.events.specs.declared.calls.Call.{Call}
use Rattle.events.specs.declared.events.Event.{Event}
use Rattle.player.specs.Playing.{Played, GivesBack}
use Rattle.player.specs.Sinks.{Heard}
use Rattle.player.proofs.Hearing.{SoFar}
use Rattle.player.proofs.Turns.{played_quiet, gives_back}

-- a quiet session ends with a pass of its number
ends : (t : State) (p : ℕ) → t.round ≡ None → t.number ≡ p → ending t p ≡ Ok t.capacity
ends t p q e =
    let own : eqb p t.number ≡ true = eq-eqb p t.number (sym e) in
    rw (own, q) refl

-- and then its register is what came back
module _ {R : Type 0} (meaning : R → Capacity) where
  abbrev pub Returns : Result R (Session R × Refused QuietPass) → Capacity → Type 0
  Returns r c = IsOk r × ((x : R) → r ≡ Ok x → meaning x ≡ c)

  returned : (r : Result R (Session R × Refused QuietPass)) (c : Capacity) → ended meaning r ≡ Ok c → Returns r c
  returned (Ok y) c e = (refl, λ x h. cc)
  returned (Err f) c e = absurd (cc)

-- the register that comes back is the session's own
pub comes_out : {R : Type 0} (r : Result R (Session R × Refused QuietPass)) (o : R) → MatchResult r (λ x. x ≡ o) (λ e. register_of e.0 ≡ o) → (x : R) → r ≡ Ok x → x ≡ o
comes_out (Ok y) o h x e = let same : y ≡ x = cc in sym same ∙ h
comes_out (Err f) o h x e = absurd (cc)

-- all calls have been played
module _ {S : Type 0} (H : S → Event → S → Type 0) (m : Capacity) (n : ℕ) (s t : State) (ks : List Call) (i : ℕ) (o b : S)
    (first : s ≡ fresh n m) (long : length ks ≤ i) (so : SoFar H n s (take i ks) t o b) where
  all : Played n (fresh n m) [] ks t so.events
  all = rw (first, take_all i ks long) at so.played

  pub comes_back : {R : Type 0} (meaning : R → Capacity) (p : ℕ) (r : Result R (Session R × Refused QuietPass)) → p ≡ n → ended meaning r ≡ ending t p → Returns meaning r t.capacity
  comes_back meaning p r e end =
      let q = played_quiet n (fresh n m) [] ks t so.events refl all in
      returned meaning r t.capacity (end ∙ ends t p q.0 (q.1 ∙ sym e))

  pub whole : (c : Capacity) → Sound m → c ≡ t.capacity → (es : List Event) × GivesBack m n ks es c × Heard H o es b
  whole c sound e =
      let oldest = reverse so.events in
      let played : Played n (fresh n m) [] ks t (reverse oldest) = subst (λ (h : List Event). Played n (fresh n m) [] ks t h) (sym (reverse-reverse so.events)) all in
      (oldest, gives_back m n ks t oldest c sound played e, so.heard)
