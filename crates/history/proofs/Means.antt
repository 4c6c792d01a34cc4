-- From the tests of a call to what it means that it is accepted.
use Rattle.std.proofs.Common.{◌≡◌, ℕ, Bool, false, not, ◌||◌, ltb, List, [], ◌∷◌, is_some, Some, None, Ok, Option, refl, ◌∙◌}
use Rattle.std.proofs.lemmas.Bool.{cond-false}
use Rattle.book.specs.declared.rows.OrderTerms.{OrderTerms}
use Rattle.book.specs.Orders.{beyond}
use Rattle.book.specs.Places.{place, numbered_of}
use Rattle.book.specs.Ranks.{order_at}
use Rattle.book.specs.Terms.{refusal, ill_sliced}
use Rattle.capacity.proofs.Layers.{passes_granted}
use Rattle.capacity.proofs.Passes.{Passes}
use Rattle.capacity.specs.Answers.{take_tests}
use Rattle.capacity.specs.declared.direction.Direction.{Direction}
use Rattle.capacity.specs.declared.figures.Figures.{Figures}
use Rattle.session.proofs.Deciding.{none_is}
use Rattle.session.specs.declared.entries.Change.{Change as AChange}
use Rattle.session.specs.declared.entries.Entry.{Entry}
use Rattle.session.specs.Calls.{raised, terms_with, ill_changed, changed, less}
use Rattle.session.specs.Faults.{Refusal, registers}
use Rattle.session.specs.State.{State}
use Rattle.events.specs.declared.calls.Call.TheVariants.{Enter, Change, Withdraw, Request, Notice, Close}
use Rattle.events.specs.Events.{Answered}
use Rattle.events.proofs.Tests.{passes, leads, quiet_before}
use Rattle.history.proofs.Accepted.{Enters, Changes, Withdraws, Requests, Notifies, Closes}

unrefused : (t : OrderTerms) → beyond t.limit ≡ false → (ltb t.quantity 1 || ltb 9999 t.quantity) ≡ false → ill_sliced t.kind t ≡ false → refusal t ≡ None
unrefused t a b c = cond-false _ _ _ a ∙ cond-false _ _ _ b ∙ cond-false _ _ _ c

unraised : {A : Type 0} (f : A → Refusal) (ts : List (Bool × A)) → Passes (raised f ts) → Passes ts
unraised f [] h = tt
unraised f (t ∷ ts) h = (h.0, unraised f ts h.1)

module _ (s : State) (p : ℕ) where
  pub enters : (e : Entry) (t : State) → Answered s p (Enter e) (Ok None) t → Enters s e t
  enters e t h =
      let b = (passes s p (Enter e) None t h).1.1.1.1 in
      record {
        quiet = quiet_before s p (Enter e) None t h;
        terms = unrefused e.terms b.0 b.1.0 b.1.1.0;
        new = none_is _ b.1.1.1.0;
        after = leads s p (Enter e) None t h;
      }

  pub changes : (c : AChange) (t : State) → Answered s p (Change c) (Ok None) t → Changes s c t
  changes c t h = go (place (numbered_of c.number c.member) s.book) refl (passes s p (Change c) None t h).1.1.1.0 (passes s p (Change c) None t h).1.1.1.1.0 (leads s p (Change c) None t h)
    where
      go : (x : Option ℕ) → place (numbered_of c.number c.member) s.book ≡ x → not (is_some x) ≡ false → ill_changed s.book c.limit c.quantity x ≡ false → t ≡ changed s c.limit c.quantity x → Changes s c t
      go None g b i d = cc
      go (Some k) g b i d =
          let ps = passes s p (Change c) None t h in
          record { quiet = quiet_before s p (Change c) None t h; k = k; there = g; terms = unrefused (terms_with (order_at s.book k) c.limit c.quantity) ps.1.0 ps.1.1.0 i; after = d }

  pub withdraws : (n i : ℕ) (t : State) → Answered s p (Withdraw n i) (Ok None) t → Withdraws s n i t
  withdraws n i t h = go (place (numbered_of n i) s.book) refl (passes s p (Withdraw n i) None t h).1.0 (leads s p (Withdraw n i) None t h)
    where
      go : (x : Option ℕ) → place (numbered_of n i) s.book ≡ x → not (is_some x) ≡ false → t ≡ record { number = s.number; round = s.round; closed = s.closed; book = less s.book x; capacity = s.capacity } → Withdraws s n i t
      go None g b d = cc
      go (Some k) g b d = record { quiet = quiet_before s p (Withdraw n i) None t h; k = k; there = g; after = d }

  pub requests : (d : Direction) (q : ℕ) (t : State) → Answered s p (Request d q) (Ok None) t → Requests s d q t
  requests d q t h =
      let k = Request d q in
      record {
        quiet = quiet_before s p k None t h;
        granted = passes_granted s.capacity d.contract d.from d.to q (unraised registers (take_tests s.capacity d.contract d.from d.to q) (passes s p k None t h).1.1);
        after = leads s p k None t h;
      }

  pub notifies : (d : Direction) (f : Figures) (t : State) → Answered s p (Notice d f) (Ok None) t → Notifies s d f t
  notifies d f t h = let k = Notice d f in record { quiet = quiet_before s p k None t h; after = leads s p k None t h }

  pub closes : (c n : ℕ) (t : State) → Answered s p (Close c) (Ok (Some n)) t → Closes s c t
  closes c n t h = let k = Close c in record { quiet = quiet_before s p k (Some n) t h; after = leads s p k (Some n) t h }
