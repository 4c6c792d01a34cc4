-- A trade of what a route can carry.
use Rattle.std.proofs.Common.{◌≡◌, ℕ, List, sym, refl, ◌∙◌, subst}
use Rattle.capacity.specs.Meaning.{Capacity, Sound}
use Rattle.flows.specs.Flows.{asked_along, carried, Carries}
use Rattle.flows.specs.Traded.{Traded}
use Rattle.flows.proofs.Backward.{carried_only_back, carried_elsewhere}
use Rattle.flows.proofs.Balance.{sound_net, carried_moves}
use Rattle.flows.proofs.Granted.{carried_granted}

pub carried_traded : (m : Capacity) → Sound m → (c x y n q : ℕ) (xs : List ℕ) → Carries m c x y n q xs → Traded m (carried m c q xs) c x y q xs
carried_traded m s c x y n q xs h = record {
  granted = refl;
  covered = (carried_granted m c x y n q xs h).1;
  moved = carried_moves m (sound_net m s) c q x y xs h.path;
  only_back = carried_only_back m c q x y xs h.path;
  elsewhere = carried_elsewhere m c q xs;
}

pub asked_traded : (m t : Capacity) → Sound m → (c x y n q : ℕ) (xs : List ℕ) → t ≡ asked_along m c q xs → Carries m c x y n q xs → Traded m t c x y q xs
asked_traded m t s c x y n q xs e h = subst (λ u. Traded m u c x y q xs) (sym (e ∙ (carried_granted m c x y n q xs h).0)) (carried_traded m s c x y n q xs h)
