-- What calls may leave of the memory that a register stands in.
use Rattle.std.specs.Prelude.{◌≡◌, refl}
use Rattle.std.proofs.Common.{◌∙◌}
use Rattle.capacity.specs.declared.reserve.Reserve.{Reserve}
use Rattle.capacity.specs.Shapes.{kept_of}

-- a relation that holds of no call at all, and of one call after another
pub record Chains {R : Type 0} (leaves : R → R → Type 0) : Type 0 where
  pub none : (r : R) → leaves r r
  pub next : (r s t : R) → leaves r s → leaves s t → leaves r t

-- of a register that owns its memory nothing is to be told
abbrev pub Anything : {R : Type 0} → R → R → Type 0
Anything r s = Unit {0}

pub anything_chains : {R : Type 0} → Chains {R = R} Anything
anything_chains = record { none = λ r. tt; next = λ r s t h k. tt }

-- a layer keeps back what it kept, and leaves what the register below it leaves
abbrev pub BelowLeaves : {R : Type 0} → (R → R → Type 0) → Reserve R → Reserve R → Type 0
BelowLeaves leaves r s = (kept_of s.wishes ≡ kept_of r.wishes) × leaves r.below s.below

pub below_chains : {R : Type 0} (leaves : R → R → Type 0) → Chains leaves → Chains (BelowLeaves leaves)
below_chains leaves h = record {
  none = λ r. (refl, h.none r.below);
  next = λ r s t a b. (b.0 ∙ a.0, h.next r.below s.below t.below a.1 b.1);
}
