-- Rows that a trade lowers in their places, a row at a time.
use Rattle.std.proofs.Common.{◌≡◌, ℕ, ◌+◌, ◌<◌, true, false, ◌||◌, eqb, List, ◌++◌, map, length, get_or, take, drop, set, sym, ap, ◌∙◌, arith}
use Rattle.std.proofs.lemmas.List.Edits.{map_over_more}
use Rattle.std.proofs.lemmas.Option.{get_or_from_slice_get, slice_get-get_or}
use Rattle.std.proofs.lemmas.Bool.{cond-true, cond-false}
use Rattle.book.specs.declared.rows.Order.{Order}
use Rattle.book.specs.Orders.{lessened}
use Rattle.book.specs.Trades.{struck}

-- a step on: es as they were, xs as they are
pub mark : (f : Order → Order) (es xs : List Order) (i : ℕ) (d : Order) → i < length es → length xs ≡ length es → xs ≡ map f (take i es) ++ drop i es → (v : Order) → v ≡ f (get_or xs i d) → set xs i v ≡ map f (take (i + 1) es) ++ drop (i + 1) es
mark f es xs i d h l inv v e =
    let k : i < length xs = omega arith in
    let x = get_or xs i d in
    ap (set xs i) e ∙ map_over_more f es xs i x h inv (sym (get_or_from_slice_get xs i x x (slice_get-get_or xs i d k)))

module _ (b s q : ℕ) (o : Order) where
  pub struck_one : (eqb o.number b || eqb o.number s) ≡ true → lessened q o ≡ struck b s q o
  struck_one h = sym (cond-true _ _ _ h)

  pub struck_not : (eqb o.number b || eqb o.number s) ≡ false → o ≡ struck b s q o
  struck_not h = sym (cond-false _ _ _ h)
