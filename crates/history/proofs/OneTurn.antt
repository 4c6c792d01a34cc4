-- A turn has one answer, makes one list of trades and leaves one state.
use Rattle.std.proofs.Common.{◌≡◌, ℕ, Bool, true, false, List, [], ◌∷◌, sym, refl, ◌∙◌, subst}
use Rattle.session.specs.Rounds.{Logged, Ran}
use Rattle.session.specs.State.{State}
use Rattle.events.specs.declared.calls.Call.{Call}
use Rattle.events.specs.Events.{Answer, round_follows}
use Rattle.events.specs.Turns.{Follows, Turned}
use Rattle.history.proofs.Once.{one_trade, one_end, trade_or_end, one_answer}

one_run : (s : State) (xs xs' : List Logged) (t t' : State) → Ran s xs t → Ran s xs' t' → (xs ≡ xs') × (t ≡ t')
one_run s [] [] t t' h k = (refl, one_end s t t' h k)
one_run s [] (x ∷ xs') t t' h (u, makes, rest) = absurd (trade_or_end s x u t makes h)
one_run s (x ∷ xs) [] t t' (u, makes, rest) k = absurd (trade_or_end s x u t' makes k)
one_run s (x ∷ xs) (x' ∷ xs') t t' (u, makes, rest) (u', makes', rest') =
    let first = one_trade s x x' u u' makes makes' in
    let others = one_run u xs xs' t t' rest (subst (λ (v : State). Ran v xs' t') (sym first.1) rest') in
    (let e : x ≡ x' = first.0 in let f : xs ≡ xs' = others.0 in cc, others.1)

one_following : (b : Bool) (s : State) (xs xs' : List Logged) (t t' : State) → Follows b s xs t → Follows b s xs' t' → (xs ≡ xs') × (t ≡ t')
one_following true s xs xs' t t' h k = one_run s xs xs' t t' h k
one_following false s xs xs' t t' h k = (h.0 ∙ sym k.0, h.1 ∙ sym k.1)

pub one_turn : (s : State) (p : ℕ) (k : Call) (a a' : Answer) (xs xs' : List Logged) (t t' : State) → Turned s p k a xs t → Turned s p k a' xs' t' → (a ≡ a') × (xs ≡ xs') × (t ≡ t')
one_turn s p k a a' xs xs' t t' h h' =
    let call = (one_answer s p).0 k a a' h.called h'.called h.answered h'.answered in
    let at_call : Follows (round_follows k a') h.called xs' t' = subst (λ (u : State). Follows (round_follows k a') u xs' t') (sym call.1) h'.followed in
    let followed : Follows (round_follows k a) h.called xs' t' = subst (λ (b : Answer). Follows (round_follows k b) h.called xs' t') (sym call.0) at_call in
    let same = one_following (round_follows k a) h.called xs xs' t t' h.followed followed in
    (call.0, same.0, same.1)
