-- Calls are equal where their numbers are.
use Rattle.std.proofs.Common.{◌≡◌, ℕ, List, ℤ, Option, refl, subst}
use Rattle.book.specs.declared.rows.Kind.{Kind}
use Rattle.book.specs.declared.rows.Side.{Side}
use Rattle.events.specs.declared.calls.Call.TheVariants.{Enter, Change}
use Rattle.reading.specs.Making.{sizes, at, count}
use Rattle.lines.specs.Asking.{change, entry, Stands}

pub change_is : (zs : List ℤ) (ns : List ℕ) (l : ℤ) → ns ≡ sizes zs → l ≡ at zs 2 → Change (record { number = count ns 0; member = count ns 1; limit = l; quantity = count ns 3 }) ≡ change zs
change_is zs ns l e f = rw (e, f) refl

pub entry_is : (d : Side) (k : Kind) (zs : List ℤ) (ns : List ℕ) (l : ℤ) → ns ≡ sizes zs → l ≡ at zs 6 → Enter (record {
  number = count ns 0;
  member = count ns 1;
  contract = count ns 2;
  area = count ns 4;
  terms = record { kind = k; side = d; limit = l; quantity = count ns 7; peak = count ns 8; delta = count ns 9 };
}) ≡ entry d k zs
entry_is d k zs ns l e f = rw (e, f) refl

-- what a word stands for, where it is the word at a place
pub stood : {X : Type 0} (spelt : X → List ℕ) (v w : List ℕ) (o p : Option X) → v ≡ w → o ≡ p → Stands spelt v o → Stands spelt w p
stood {X} spelt v w o p e f h = subst (λ (x : List ℕ). Stands spelt x p) e (subst (λ (q : Option X). Stands spelt v q) f h)
