-- A round under way: what it has made so far, and how a step carries that on.
use Rattle.std.proofs.Common.{◌≡◌, ℕ, Bool, true, false, not, ltb, ◌⊎◌, List, [], ◌∷◌, ◌++◌, length, take, drop, Ok, sym, refl, ap, ◌∙◌, subst, inl, inr}
use Rattle.std.proofs.Math.Seq.{take-append_seam}
use Rattle.std.proofs.lemmas.List.{append-nil, append_assoc}
use Rattle.capacity.specs.Tests.{answered}
use Rattle.trades.specs.declared.trade.Trade.{Trade}
use Rattle.session.specs.Faults.{own}
use Rattle.session.specs.State.{State}
use Rattle.session.specs.Steps.{round_here, step_tests, Trades, Ends}
use Rattle.session.specs.Rounds.{Logged, Makes, Ran, round_tests, Noted}

-- From s, with the log as it was before, the trades made have led to u; the pass has been taken unless nothing has happened yet.
pub record Going {L : Type 0} (N : L → Logged → L → Type 0) (s : State) (p : ℕ) (before after : L) (u : State) : Type 0 where
  pub made : List Logged
  pub noted : Noted N before made after
  pub rest : (ys : List Logged) (t : State) → Ran u ys t → Ran s (made ++ ys) t
  pub taken : ((after ≡ before) × (u ≡ s)) ⊎ ((round_here s p ≡ true) × (round_here u p ≡ true))

pub begun : {L : Type 0} (N : L → Logged → L → Type 0) (s : State) (p : ℕ) (log : L) → Going N s p log log s
begun N s p log = record { made = []; noted = refl; rest = λ ys t r. r; taken = inl (refl, refl) }

noted_more : {L : Type 0} (N : L → Logged → L → Type 0) (a b d : L) (xs : List Logged) (x : Logged) → Noted N a xs b → N b x d → Noted N a (xs ++ x ∷ []) d
noted_more {L} N a b d [] x e h = (d, subst (λ (y : L). N y x d) e h, refl)
noted_more N a b d (y ∷ xs) x (l, n, k) h = (l, n, noted_more N l b d xs x k h)

-- what the tests say of the round
passed : (b : Bool) (n : ℕ) → answered ((not b, own 1) ∷ (ltb n 16, own 15) ∷ []) ≡ Ok tt → b ≡ true
passed true n e = refl
passed false n e = cc

here : (b : Bool) → b ≡ true → answered ((not b, own 1) ∷ []) ≡ Ok tt
here true e = refl
here false e = cc

-- the areas of a trade's route, in the places
pub areas_are : (s : State) (ps : List ℕ) (x : Trade) (qs : List ℕ) (t : State) → (d : Trades s ps x qs t) → take x.areas qs ≡ d.route
areas_are s ps x qs t d = ap (λ (n : ℕ). take n qs) d.deal.areas ∙ ap (take (length d.route)) d.places ∙ take-append_seam d.route (drop (length d.route) ps)

-- the pass has been taken, whatever came before
was_here : {L : Type 0} (N : L → Logged → L → Type 0) (s : State) (p : ℕ) (before after : L) (u : State) → Going N s p before after u → round_here u p ≡ true → round_here s p ≡ true
was_here N s p before after u g h = elim g.taken [ inl e ↦ ap (λ (w : State). round_here w p) (sym e.1) ∙ h | inr e ↦ e.0 ]

pub trades_on : {L : Type 0} (N : L → Logged → L → Type 0) (s : State) (p q : ℕ) (before mid after : L) (u : State) (ps : List ℕ) (x : Trade) (qs : List ℕ) (v : State)
    → Going N s p before mid u → q ≡ p → answered (step_tests u q (length ps)) ≡ Ok tt → (d : Trades u ps x qs v) → N mid (record { trade = x; route = d.route }) after → Going N s p before after v
trades_on N s p q before mid after u ps x qs v g e ok d noted =
    let m : Logged = record { trade = x; route = d.route } in
    let now_here : round_here u p ≡ true = ap (round_here u) (sym e) ∙ passed (round_here u q) (length ps) ok in
    let makes : Makes u m v = record { round = d.round; under_way = d.under_way; deal = d.deal; state = d.state } in
    record {
      made = g.made ++ m ∷ [];
      noted = noted_more N before mid after g.made m g.noted noted;
      rest = λ ys t r. subst (λ (zs : List Logged). Ran s zs t) (sym (append_assoc g.made (m ∷ []) ys)) (g.rest (m ∷ ys) t (v, makes, r));
      taken = inr (was_here N s p before mid u g now_here, ap (λ (w : State). round_here w p) d.state ∙ now_here);
    }

pub ends_so : {L : Type 0} (N : L → Logged → L → Type 0) (s : State) (p q n : ℕ) (before after : L) (u t : State)
    → Going N s p before after u → q ≡ p → answered (step_tests u q n) ≡ Ok tt → Ends u t → (answered (round_tests s p) ≡ Ok tt) × ((xs : List Logged) × Noted N before xs after × Ran s xs t)
ends_so N s p q n before after u t g e ok ends =
    let now_here : round_here u p ≡ true = ap (round_here u) (sym e) ∙ passed (round_here u q) n ok in
    (here (round_here s p) (was_here N s p before after u g now_here), (g.made, g.noted, subst (λ (zs : List Logged). Ran s zs t) (append-nil g.made) (g.rest [] t ends)))
