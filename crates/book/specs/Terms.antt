-- The terms of an order, and which refusal they bring.
use Rattle.std.specs.Prelude.{ℕ, ◌-◌, ◌*◌, ◌/◌, Bool, not, ◌&&◌, ◌||◌, List, [], ◌∷◌, ◌++◌, ℤ, Option, ◌==◌, nat_lt}
use Rattle.book.specs.declared.rows.Kind.{Kind}
use Rattle.book.specs.declared.rows.Kind.TheVariants.{Non, Ioc, Ice}
use Rattle.book.specs.declared.rows.OrderTerms.{OrderTerms}
use Rattle.book.specs.Orders.{moved, beyond}
use Rattle.book.specs.Refusals.{first_refusing}

-- after the first slice come (quantity − 1) / peak more
abbrev pub last_limit : OrderTerms → ℤ
last_limit t = moved t.side t.limit (t.delta * ((t.quantity - 1) / t.peak))

-- peak and delta do not go with the kind, the quantity or the limit
abbrev pub ill_sliced : Kind → OrderTerms → Bool
ill_sliced Non t = not (t.peak == 0 && t.delta == 0)
ill_sliced Ioc t = not (t.peak == 0 && t.delta == 0)
ill_sliced Ice t = (nat_lt t.peak 50 || nat_lt t.quantity t.peak) || (nat_lt 500 t.delta || beyond (last_limit t))

abbrev pub size_tests : OrderTerms → List (Bool × ℕ)
size_tests t = (beyond t.limit, 5) ∷ (nat_lt t.quantity 1 || nat_lt 9999 t.quantity, 6) ∷ []

-- the same of a limit and a quantity alone
abbrev pub bounds_tests : ℤ → ℕ → List (Bool × ℕ)
bounds_tests l q = (beyond l, 5) ∷ (nat_lt q 1 || nat_lt 9999 q, 6) ∷ []

abbrev pub slice_tests : OrderTerms → List (Bool × ℕ)
slice_tests t = (ill_sliced t.kind t, 7) ∷ []

-- of an order's terms, the lowest number first
abbrev pub terms_tests : OrderTerms → List (Bool × ℕ)
terms_tests t = size_tests t ++ slice_tests t

abbrev pub size_refusal : OrderTerms → Option ℕ
size_refusal t = first_refusing (size_tests t)

abbrev pub bounds_refusal : ℤ → ℕ → Option ℕ
bounds_refusal l q = first_refusing (bounds_tests l q)

abbrev pub slice_refusal : OrderTerms → Option ℕ
slice_refusal t = first_refusing (slice_tests t)

-- the refusal of an order's terms, the lowest number first
abbrev pub refusal : OrderTerms → Option ℕ
refusal t = first_refusing (size_tests t ++ slice_tests t)
