-- The number of each refusal, and the values that it carries.
use Rattle.std.specs.Prelude.{ℕ, ℤ, Some, None, Option}
use Rattle.capacity.specs.declared.faults.RegisterFault.{RegisterFault}
use Rattle.capacity.specs.declared.faults.RegisterFault.TheVariants.{Contract, Quantity, Unjoined, Figure, Short, Full}
use Rattle.capacity.specs.declared.faults.MapFault.{MapFault}
use Rattle.capacity.specs.declared.faults.MapFault.TheVariants.{Kept, Connector}

-- A register's refusal; only 13 has an ATC.
pub record Refusal : Type 0 where
  pub number : ℕ
  pub contract : ℕ
  pub from : ℕ
  pub to : ℕ
  pub short_of : Option ℤ

abbrev pub refusal : ℕ → ℕ → ℕ → ℕ → Option ℤ → Refusal
refusal n c a b z = record { number = n; contract = c; from = a; to = b; short_of = z }

abbrev pub told : RegisterFault → Refusal
told (Contract d) = refusal 2 d.contract d.from d.to None
told (Quantity d) = refusal 6 d.contract d.from d.to None
told (Unjoined d) = refusal 11 d.contract d.from d.to None
told (Figure d) = refusal 12 d.contract d.from d.to None
told (Short d z) = refusal 13 d.contract d.from d.to (Some z)
told (Full d) = refusal 14 d.contract d.from d.to None

-- A map's refusal.
pub record MapRefusal : Type 0 where
  pub number : ℕ
  pub from : ℕ
  pub to : ℕ

abbrev pub map_refusal : ℕ → ℕ → ℕ → MapRefusal
map_refusal n a b = record { number = n; from = a; to = b }

abbrev pub map_told : MapFault → MapRefusal
map_told (Kept a b) = map_refusal 12 a b
map_told (Connector a b) = map_refusal 16 a b
