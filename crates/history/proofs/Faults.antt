-- What a refusal tells is its fault: no two faults tell the same.
use Rattle.std.proofs.Common.{◌≡◌, ℕ, cond, eqb, ℤ, pos, Some, None, Option, sym, refl, ap, ◌∙◌}
use Rattle.capacity.specs.declared.direction.Direction.{Direction}
use Rattle.capacity.specs.declared.faults.RegisterFault.{RegisterFault}
use Rattle.capacity.specs.declared.faults.RegisterFault.TheVariants as register
use Rattle.capacity.specs.Faults as capacity
use Rattle.session.specs.declared.faults.SessionFault.{SessionFault}
use Rattle.session.specs.declared.faults.SessionFault.TheVariants.{Pass, Contract, Closed, Area, Limit, Quantity, Slices, Taken, Unknown, Full, Places, Register}
use Rattle.session.specs.Faults.{Refusal, own, registers, told}

-- the fault of a number, and of a register's refusal
abbrev own_fault : ℕ → SessionFault
own_fault n =
    cond (eqb n 1) Pass
    (cond (eqb n 2) Contract
    (cond (eqb n 3) Closed
    (cond (eqb n 4) Area
    (cond (eqb n 5) Limit
    (cond (eqb n 6) Quantity
    (cond (eqb n 7) Slices
    (cond (eqb n 8) Taken
    (cond (eqb n 9) Unknown
    (cond (eqb n 10) Full Places)))))))))

abbrev atc_in : Option ℤ → ℤ
atc_in None = pos 0
atc_in (Some z) = z

abbrev register_fault : capacity.Refusal → RegisterFault
register_fault r =
    let d : Direction = record { contract = r.contract; from = r.from; to = r.to } in
    cond (eqb r.number 2) (register.Contract d)
    (cond (eqb r.number 6) (register.Quantity d)
    (cond (eqb r.number 11) (register.Unjoined d)
    (cond (eqb r.number 12) (register.Figure d)
    (cond (eqb r.number 13) (register.Short d (atc_in r.short_of))
    (register.Full d)))))

abbrev fault : Refusal → SessionFault
fault (own n) = own_fault n
fault (registers r) = Register (register_fault r)

register_told : (f : RegisterFault) → register_fault (capacity.told f) ≡ f
register_told (register.Contract d) = refl
register_told (register.Quantity d) = refl
register_told (register.Unjoined d) = refl
register_told (register.Figure d) = refl
register_told (register.Short d z) = refl
register_told (register.Full d) = refl

fault_told : (f : SessionFault) → fault (told f) ≡ f
fault_told Pass = refl
fault_told Contract = refl
fault_told Closed = refl
fault_told Area = refl
fault_told Limit = refl
fault_told Quantity = refl
fault_told Slices = refl
fault_told Taken = refl
fault_told Unknown = refl
fault_told Full = refl
fault_told Places = refl
fault_told (Register f) = ap Register (register_told f)

pub same_fault : (f g : SessionFault) → told f ≡ told g → f ≡ g
same_fault f g e = sym (fault_told f) ∙ ap fault e ∙ fault_told g
