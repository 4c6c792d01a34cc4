-- A register whose two sides of a connector are replaced: what a take and a notice leave.
use Rattle.std.proofs.Common.{◌≡◌, ℕ, Bool, true, false, ℤ, pos, ◌+ℤ◌, ◌-ℤ◌, sym, refl, ap, ◌∙◌, ⊎_elim, arith}
use Rattle.std.proofs.lemmas.Int.{ints}
use Rattle.std.proofs.lemmas.Bool.{cases_Bool}
use Rattle.capacity.specs.declared.figures.Figures.{Figures}
use Rattle.capacity.specs.declared.side.Side.{Side}
use Rattle.capacity.specs.Directions.{put}
use Rattle.capacity.specs.Granted.{Granted}
use Rattle.capacity.specs.Meaning.{Capacity, Sound, atc, taken, noticed}
use Rattle.capacity.specs.Pairs.{flow, taken_there, taken_back, figured, Shows, paired}
use Rattle.capacity.proofs.Puts.{put_same, each}

-- a register with other NTCs, AACs, net use, notes and room
abbrev made : Capacity → (ℕ → ℕ → ℕ → ℕ) → (ℕ → ℕ → ℕ → ℕ) → (ℕ → ℕ → ℕ → ℤ) → (ℕ → ℕ → ℕ → Bool) → ℕ → Capacity
made m n l u d r = record { joins = m.joins; ntc = n; aac = l; held = m.held; net = u; noted = d; room = r }

pub made_same : (m : Capacity) (n n' l l' : ℕ → ℕ → ℕ → ℕ) (u u' : ℕ → ℕ → ℕ → ℤ) (d d' : ℕ → ℕ → ℕ → Bool) (r r' : ℕ) → n ≡ n' → l ≡ l' → u ≡ u' → d ≡ d' → r ≡ r' → made m n l u d r ≡ made m n' l' u' d' r'
made_same m n n' l l' u u' d d' r r' en el eu ed er =
    ap (λ (f : ℕ → ℕ → ℕ → ℕ). made m f l u d r) en
    ∙ ap (λ (f : ℕ → ℕ → ℕ → ℕ). made m n' f u d r) el
    ∙ ap (λ (f : ℕ → ℕ → ℕ → ℤ). made m n' l' f d r) eu
    ∙ ap (λ (f : ℕ → ℕ → ℕ → Bool). made m n' l' u' f r) ed
    ∙ ap (λ (k : ℕ). made m n' l' u' d' k) er

pub shown_atc : (m : Capacity) (c a b : ℕ) (s t : Side) → Shows m c a b s t → flow s t 0 ≡ atc m c a b
shown_atc m c a b s t h = rw (sym h.ntc, sym h.aac, sym h.aac_back, sym h.net, h.free) (omega (arith, ints))

-- a pair from which something can be taken is noted
pub granted_noted : (m : Capacity) → Sound m → (c a b q : ℕ) → Granted m c a b q → m.noted c a b ≡ true
granted_noted m s c a b q g =
    ⊎_elim
    (λ (t : m.noted c a b ≡ true). t)
    (λ (t : m.noted c a b ≡ false).
    let there = s.unnoted c a b t in
    let back = s.unnoted c b a (s.both_noted c a b ∙ t) in
    let f = g.flows in
    absurd (omega (arith, ints)))
    (cases_Bool (m.noted c a b))

pub paired_taken : (m : Capacity) (k x y q : ℕ) (s t : Side) → Shows m k x y s t → (x ≡ y → ⊥) → m.noted k x y ≡ true → m.noted k y x ≡ true → paired m k x y (taken_there s t q) (taken_back t q) ≡ taken m k x y q
paired_taken m k x y q s t h ne d d' =
    made_same m _ _ _ _ _ _ _ _ _ _
    (each _ _ (put_same m.ntc k x y s.ntc t.ntc ne (sym h.ntc) (sym h.ntc_back)))
    (each _ _ (put_same m.aac k x y s.aac t.aac ne (sym h.aac) (sym h.aac_back)))
    (ap (λ (z : ℤ). put m.net k x y z (pos (taken_back t q).used -ℤ pos (taken_there s t q).used)) there ∙ ap (λ (z : ℤ). put m.net k x y (m.net k x y +ℤ pos q) z) back)
    (each _ _ (put_same m.noted k x y true true ne d d'))
    (rw d refl)
  where
    there : pos (taken_there s t q).used -ℤ pos (taken_back t q).used ≡ m.net k x y +ℤ pos q
    there = rw (sym h.net) (omega (arith, ints))

    back : pos (taken_back t q).used -ℤ pos (taken_there s t q).used ≡ m.net k y x -ℤ pos q
    back = rw (sym h.net_back) (omega (arith, ints))

pub paired_noticed : (m : Capacity) (k x y : ℕ) (f : Figures) (s t : Side) → Shows m k x y s t → (x ≡ y → ⊥) → paired m k x y (figured s f.ntc f.aac) (figured t f.ntc_back f.aac_back) ≡ noticed m k x y f
paired_noticed m k x y f s t h ne =
    made_same m _ _ _ _ _ _ _ _ _ _ refl refl
    (each _ _ (put_same m.net k x y (pos s.used -ℤ pos t.used) (pos t.used -ℤ pos s.used) ne (sym h.net) (sym h.net_back)))
    refl refl
