-- The number of each refusal, and what it carries.
use Rattle.std.specs.Prelude.{ℕ}
use Rattle.capacity.specs.Faults as register
use Rattle.book.specs.declared.faults.BookFault.{BookFault}
use Rattle.book.specs.declared.faults.BookFault.TheVariants as book
use Rattle.session.specs.declared.faults.SessionFault.{SessionFault}
use Rattle.session.specs.declared.faults.SessionFault.TheVariants.{Pass, Contract, Closed, Area, Limit, Quantity, Slices, Taken, Unknown, Full, Places, Register}

-- the session's own, by its number, or the register's whole
pub data Refusal : Type 0 where
  own : ℕ → Refusal
  registers : register.Refusal → Refusal

abbrev pub told : SessionFault → Refusal
told Pass = own 1
told Contract = own 2
told Closed = own 3
told Area = own 4
told Limit = own 5
told Quantity = own 6
told Slices = own 7
told Taken = own 8
told Unknown = own 9
told Full = own 10
told Places = own 15
told (Register f) = registers (register.told f)

abbrev pub number_of : Refusal → ℕ
number_of (own n) = n
number_of (registers f) = f.number

-- a fault of the book as the session's
abbrev pub risen : BookFault → SessionFault
risen book.Limit = Limit
risen book.Quantity = Quantity
risen book.Slices = Slices
risen book.Full = Full
