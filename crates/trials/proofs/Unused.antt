-- Registers that nothing has used, and what can flow by one.
use Rattle.std.proofs.Common.{◌≡◌, ℕ, ◌+◌, ◌-◌, ◌≤◌, min, ◌⊎◌, Bool, true, false, cond, not, ◌&&◌, eqb, List, pos, refl, sym, subst, inl, inr, arith, ⊎_elim, ◌∙◌, ap}
use Rattle.std.proofs.lemmas.Bool.Decides.{nat_tests}
use Rattle.std.proofs.Math.Nat.{le_refl}
use Rattle.capacity.specs.Meaning.{Capacity, reserved}
use Rattle.capacity.specs.Network.{Network}
use Rattle.capacity.specs.Quotes.{flow_in, told_of, taken_from}
use Rattle.capacity.specs.Tables.{on, fresh}
use Rattle.cells.specs.Meaning.{unnoted}
use Rattle.events.specs.declared.calls.Call.{Call}
use Rattle.events.specs.declared.events.Event.{Event}
use Rattle.player.specs.Playing.{Plays}
use Rattle.trials.specs.Registers.{one_connector, two_connectors, Unused}
use Rattle.trials.specs.Rows.{Row, calls_in, events_of, Comes}
use Rattle.trials.specs.Trials.{flows}

-- an unused register, by its other fields
abbrev pub plain : Network → (ℕ → ℕ → ℕ → ℕ) → (ℕ → ℕ → ℕ → ℕ) → (ℕ → ℕ → ℕ → Bool) → ℕ → Capacity
plain n f g d r = record { joins = n.joins; ntc = f; aac = g; held = λ c a b. 0; net = λ c a b. pos 0; noted = d; room = r }

is_plain : (n : Network) (k : ℕ) (m : Capacity) → Unused n k m → plain n m.ntc m.aac m.noted m.room ≡ m
is_plain n k m u = λ i. record { joins = sym u.joins i; ntc = m.ntc; aac = m.aac; held = sym u.held i; net = sym u.net i; noted = m.noted; room = m.room }

-- one pair more can be noted
one_more : (n : Network) (d : ℕ → ℕ → ℕ → Bool) (r c a b : ℕ) → on n.joins c a b ≡ true → (d ≡ on n.joins) ⊎ (1 ≤ r) → (not (d c a b) && eqb r 0) ≡ false
one_more n d r c a b e (inl h) = let x : d c a b ≡ true = ap (λ (f : ℕ → ℕ → ℕ → Bool). f c a b) h ∙ e in rw x refl
one_more n d r c a b e (inr h) = grind (arith, nat_tests)

-- and after it, of pairs that exist, another
two_more : (n : Network) (d : ℕ → ℕ → ℕ → Bool) (r c a b x y : ℕ) → on n.joins c x y ≡ true → (d ≡ on n.joins) ⊎ (2 ≤ r) → (not (d c x y) && eqb (cond (d c a b) r (r - 1)) 0) ≡ false
two_more n d r c a b x y e (inl h) = let z : d c x y ≡ true = ap (λ (f : ℕ → ℕ → ℕ → Bool). f c x y) h ∙ e in rw z refl
two_more n d r c a b x y e (inr h) = grind (arith, nat_tests)

pub table : (n : Network) (k : ℕ) → Unused n k (fresh n.joins)
table n k = record { joins = refl; held = refl; net = refl; room = inl refl }

pub cells : (n : Network) (k : ℕ) → Unused n k (unnoted n.joins k)
cells n k = record { joins = refl; held = refl; net = refl; room = inr (le_refl k) }

-- a layer that keeps nothing back
pub layer : (n : Network) (k : ℕ) (m : Capacity) (w : ℕ → ℕ → ℕ) → ((a b : ℕ) → w a b ≡ 0) → Unused n k m → Unused n k (reserved m w)
layer n k m w none u = record {
  joins = u.joins;
  held = λ i c a b. nothing (m.held c a b) (w a b) (ap (λ (f : ℕ → ℕ → ℕ → ℕ). f c a b) u.held) (none a b) i;
  net = u.net;
  room = u.room;
}
  where
    nothing : (x y : ℕ) → x ≡ 0 → y ≡ 0 → min (x + y) 99999 ≡ 0
    nothing x y e f = omega arith

module _ (f g : ℕ → ℕ → ℕ → ℕ) (d : ℕ → ℕ → ℕ → Bool) (r : ℕ) (room : (not (d 3 0 1) && eqb r 0) ≡ false) where
  plain_noticed : flow_in (told_of (plain one_connector f g d r)) ≡ flows 150 50
  plain_noticed = rw room refl

  plain_taken : flow_in (taken_from (told_of (plain one_connector f g d r))) ≡ flows 120 80
  plain_taken = rw room refl

-- what holds of every plain register with one connector holds of every unused one
pub with_one : (P : Capacity → Type 0) → ((f g : ℕ → ℕ → ℕ → ℕ) (d : ℕ → ℕ → ℕ → Bool) (r : ℕ) → (not (d 3 0 1) && eqb r 0) ≡ false → P (plain one_connector f g d r)) → (m : Capacity) → Unused one_connector 1 m → P m
with_one P h m u = subst P (is_plain one_connector 1 m u) (h m.ntc m.aac m.noted m.room (one_more one_connector m.noted m.room 3 0 1 refl u.room))

-- what is played over cells by the calls of rows that come
pub over_cells : (n : Network) (k : ℕ) (rows : List Row) → ((m : Capacity) → Unused n k m → Comes m rows) → (o : Network) (ks : List Call) (p : ℕ) (es : List Event) → o ≡ n → ks ≡ calls_in rows → Plays (unnoted o.joins k) p ks es → es ≡ events_of p rows
over_cells n k rows all o ks p es e f h =
    (all (unnoted n.joins k) (cells n k)).only p es
    (subst (λ (l : List Call). Plays (unnoted n.joins k) p l es) f (subst (λ (x : Network). Plays (unnoted x.joins k) p ks es) e h))

pub noticed : (m : Capacity) → Unused one_connector 1 m → flow_in (told_of m) ≡ flows 150 50
noticed = with_one (λ m. flow_in (told_of m) ≡ flows 150 50) plain_noticed

pub taken : (m : Capacity) → Unused one_connector 1 m → flow_in (taken_from (told_of m)) ≡ flows 120 80
taken = with_one (λ m. flow_in (taken_from (told_of m)) ≡ flows 120 80) plain_taken

-- the same of two
pub with_two : (P : Capacity → Type 0) → ((f g : ℕ → ℕ → ℕ → ℕ) (d : ℕ → ℕ → ℕ → Bool) (r : ℕ) → (not (d 3 0 1) && eqb r 0) ≡ false → (not (d 3 0 2) && eqb (cond (d 3 0 1) r (r - 1)) 0) ≡ false → P (plain two_connectors f g d r)) → (m : Capacity) → Unused two_connectors 2 m → P m
with_two P h m u =
    subst P (is_plain two_connectors 2 m u)
    (h m.ntc m.aac m.noted m.room
    (one_more two_connectors m.noted m.room 3 0 1 refl (⊎_elim (λ e. inl e) (λ l. inr (omega arith)) u.room))
    (two_more two_connectors m.noted m.room 3 0 1 0 2 refl u.room))
