-- The areas of a path are distinct, so the takes of a trade leave the ATCs of the other hops alone: every one is granted.
use Rattle.std.proofs.Common.{◌≡◌, ℕ, ◌≤◌, List, [], ◌∷◌, pos, ◌≤ℤ◌, sym, refl, ap, ◌∙◌, subst}
use Rattle.std.specs.List.{AllByRecursion}
use Rattle.capacity.proofs.Layers.{granted_passes}
use Rattle.capacity.proofs.Passes.{passes_resulting}
use Rattle.capacity.specs.Answers.{take_tests}
use Rattle.capacity.specs.Granted.{Granted}
use Rattle.capacity.specs.Meaning.{Capacity, atc, taken}
use Rattle.routes.specs.Paths.{Onward, NoRepeat}
use Rattle.flows.specs.Flows.{OpenIn, asked_take, asked_along, carried, NoneBelow, Carries}
use Rattle.flows.specs.Hops.{onward, EachOnward}
use Rattle.flows.proofs.Least.{EnoughOn, least_low}
use Rattle.flows.proofs.Opened.{open_parts}
use Rattle.flows.proofs.Taken.{atc_from, atc_apart, take_covered}

abbrev pub NotIn : ℕ → List ℕ → Type 0
NotIn a xs = AllByRecursion (λ b. b ≡ a → ⊥) xs

module _ (c q : ℕ) where
  abbrev pub carried_on : Capacity → ℕ → List ℕ → Capacity
  carried_on = onward (λ n a b. taken n c a b q)

  abbrev pub asked_on : Capacity → ℕ → List ℕ → Capacity
  asked_on = onward (asked_take c q)

  -- a take of q would be granted at each hop from a through the list
  abbrev pub GrantedOn : Capacity → ℕ → List ℕ → Type 0
  GrantedOn m = EachOnward (λ a b. Granted m c a b q)

  granted_after : (m : Capacity) (x y a b : ℕ) → (a ≡ x → ⊥) → (b ≡ x → ⊥) → Granted m c a b q → Granted (taken m c x y q) c a b q
  granted_after m x y a b n o g = record {
    contract = g.contract;
    some = g.some;
    few = g.few;
    joined = g.joined;
    flows = subst (λ z. pos q ≤ℤ z) (sym (atc_apart m c x y q c a b n o)) g.flows;
  }

  -- a take from an area that does not come again leaves the later hops granted
  pub granted_away : (m : Capacity) (x y a : ℕ) (xs : List ℕ) → NotIn x (a ∷ xs) → GrantedOn m a xs → GrantedOn (taken m c x y q) a xs
  granted_away m x y a [] n g = tt
  granted_away m x y a (b ∷ xs) n g = (granted_after m x y a b n.0 n.1.0 g.0, granted_away m x y b xs n.1 g.1)

  -- a trade beyond x leaves the ATCs from x alone
  pub carried_apart : (m : Capacity) (x y a : ℕ) (xs : List ℕ) → NotIn x (a ∷ xs) → atc (carried_on m a xs) c x y ≡ atc m c x y
  carried_apart m x y a [] n = refl
  carried_apart m x y a (b ∷ xs) n = carried_apart (taken m c a b q) x y b xs n.1 ∙ atc_from m c a b q c x y (λ e. n.0 (sym e)) (λ e. n.1.0 (sym e))

  asked_granted : (m : Capacity) (a : ℕ) (xs : List ℕ) → NoRepeat (a ∷ xs) → GrantedOn m a xs → asked_on m a xs ≡ carried_on m a xs
  asked_granted m a [] n g = refl
  asked_granted m a (b ∷ xs) n g =
      ap (λ t. asked_on t b xs) (sym (passes_resulting (take_tests m c a b q) m (taken m c a b q) (granted_passes m c a b q g.0)))
      ∙ asked_granted (taken m c a b q) b xs n.1 (granted_away m a b b xs n.0 g.1)

  granted_covered : (m : Capacity) (a : ℕ) (xs : List ℕ) → NoRepeat (a ∷ xs) → GrantedOn m a xs → EachOnward (λ x y. pos 0 ≤ℤ atc (carried_on m a xs) c x y) a xs
  granted_covered m a [] n g = tt
  granted_covered m a (b ∷ xs) n g = (
    subst (λ z. pos 0 ≤ℤ z) (sym (carried_apart (taken m c a b q) a b b xs n.0)) (take_covered m c a b q g.0.flows),
    granted_covered (taken m c a b q) b xs n.1 (granted_away m a b b xs n.0 g.1),
  )

  open_granted : (m : Capacity) (a y : ℕ) (xs : List ℕ) → 1 ≤ q → q ≤ 99999 → Onward (OpenIn m c) a y xs → EnoughOn m c q a xs → GrantedOn m a xs
  open_granted m a y [] l k o e = tt
  open_granted m a y (b ∷ xs) l k o e =
      let p = open_parts m c a b o.0.2 in
      (record { contract = p.0; some = l; few = k; joined = p.1; flows = e.0 }, open_granted m b y xs l k o.1 e.1)

-- what a route can carry is granted on each connector of it, and no ATC along it is then below nought
pub carried_granted : (m : Capacity) (c x y n q : ℕ) (xs : List ℕ) → Carries m c x y n q xs → (asked_along m c q xs ≡ carried m c q xs) × NoneBelow (carried m c q xs) c xs
carried_granted m c x y n q [] h = absurd h.path.0
carried_granted m c x y n q (a ∷ xs) h =
    let g = open_granted c q m a y xs h.some h.few h.path.0.2 (least_low m c q (pos n) a xs h.fits).1 in
    (asked_granted c q m a xs h.path.1 g, granted_covered c q m a xs h.path.1 g)
