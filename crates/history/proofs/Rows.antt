-- Where the rows of the book after a trade come from.
use Rattle.std.proofs.Common.{◌≡◌, ℕ, Bool, true, false, cond, ◌||◌, eqb, ◌⊎◌, List, map, ℤ, ◌≤ℤ◌, filter, refl, ap, ◌∙◌, subst, inl, inr, arith}
use Rattle.std.proofs.lemmas.Int.{ints}
use Rattle.book.specs.declared.rows.Side.{Side}
use Rattle.book.specs.declared.rows.Side.TheVariants.{Buy, Sell}
use Rattle.book.specs.declared.rows.Order.{Order}
use Rattle.book.specs.Orders.{moved, lessened, next_slice, shows, run_out}
use Rattle.book.specs.Trades.{struck, settled}
use Rattle.history.specs.Standing.{◌∈◌}
use Rattle.history.proofs.Members.{in_append, in_left, in_right, in_kept, kept_in, in_map, map_in}

-- the limit l is no better than k for its side
abbrev pub NoBetter : Side → ℤ → ℤ → Type 0
NoBetter Buy l k = l ≤ℤ k
NoBetter Sell l k = k ≤ℤ l

-- x is the order y at a later time
pub record Later (x y : Order) : Type 0 where
  pub number : x.number ≡ y.number
  pub contract : x.contract ≡ y.contract
  pub side : x.side ≡ y.side
  pub area : x.area ≡ y.area
  pub kind : x.kind ≡ y.kind
  pub limit : NoBetter y.side x.limit y.limit

same_limit : (d : Side) (l : ℤ) → NoBetter d l l
same_limit Buy l = omega (arith, ints)
same_limit Sell l = omega (arith, ints)

moved_worse : (d : Side) (l : ℤ) (n : ℕ) → NoBetter d (moved d l n) l
moved_worse Buy l n = omega (arith, ints)
moved_worse Sell l n = omega (arith, ints)

-- whether n is the number of the buy b or of the sell s
abbrev pub traded_in : ℕ → ℕ → ℕ → Bool
traded_in b s n = eqb n b || eqb n s

-- the row y, lowered by q if t
abbrev pub lowered : Bool → ℕ → Order → Order
lowered t q y = cond t (lessened q y) y

lowered_later : (t : Bool) (q : ℕ) (y : Order) → Later (lowered t q y) y
lowered_later true q y = record { number = refl; contract = refl; side = refl; area = refl; kind = refl; limit = same_limit y.side y.limit }
lowered_later false q y = record { number = refl; contract = refl; side = refl; area = refl; kind = refl; limit = same_limit y.side y.limit }

next_later : (t : Bool) (q : ℕ) (y : Order) → Later (next_slice (lowered t q y)) y
next_later true q y = record { number = refl; contract = refl; side = refl; area = refl; kind = refl; limit = moved_worse y.side y.limit y.delta }
next_later false q y = record { number = refl; contract = refl; side = refl; area = refl; kind = refl; limit = moved_worse y.side y.limit y.delta }

-- x is the row y, lowered by q if t, as it shows still, or its next slice
abbrev pub Comes : Bool → ℕ → Order → Order → Type 0
Comes t q x y = ((lowered t q y ≡ x) × (shows (lowered t q y) ≡ true)) ⊎ ((next_slice (lowered t q y) ≡ x) × (run_out (lowered t q y) ≡ true))

pub comes_later : (t : Bool) (q : ℕ) (x y : Order) → Comes t q x y → Later x y
comes_later t q x y h =
    elim h [
      | inl e ↦ subst (λ (z : Order). Later z y) e.0 (lowered_later t q y)
      | inr e ↦ subst (λ (z : Order). Later z y) e.0 (next_later t q y)
    ]

-- a row after a trade of q between the orders b and s comes of one before it
pub settled_from : (b s q : ℕ) (x : Order) (book : List Order) → x ∈ settled b s q book → (y : Order) × (y ∈ book) × Comes (traded_in b s y.number) q x y
settled_from b s q x book h =
    let rows = map (struck b s q) book in
    elim (in_append x (filter shows rows) (map next_slice (filter run_out rows)) h) [
      | inl g ↦
          let k = in_kept shows x rows g in
          let r = in_map (struck b s q) x book k.0 in
          (r.0, r.1, inl (r.2, ap shows r.2 ∙ k.1))
      | inr g ↦
          let z = in_map next_slice x (filter run_out rows) g in
          let k = in_kept run_out z.0 rows z.1 in
          let r = in_map (struck b s q) z.0 book k.0 in
          (r.0, r.1, inr (ap next_slice r.2 ∙ z.2, ap run_out r.2 ∙ k.1))
    ]

-- and what comes of one before it is a row after it
pub settled_to : (b s q : ℕ) (x y : Order) (book : List Order) → y ∈ book → Comes (traded_in b s y.number) q x y → x ∈ settled b s q book
settled_to b s q x y book h c =
    let rows = map (struck b s q) book in
    let there = map_in (struck b s q) y book h in
    let z = struck b s q y in
    elim c [
      | inl e ↦ in_left x (filter shows rows) (map next_slice (filter run_out rows)) (subst (λ (u : Order). u ∈ filter shows rows) e.0 (kept_in shows z rows there e.1))
      | inr e ↦
          in_right x (filter shows rows) (map next_slice (filter run_out rows))
          (subst (λ (u : Order). u ∈ map next_slice (filter run_out rows)) e.0 (map_in next_slice z (filter run_out rows) (kept_in run_out z rows there e.1)))
    ]

pub settled_later : (b s q : ℕ) (x : Order) (book : List Order) → x ∈ settled b s q book → (y : Order) × (y ∈ book) × Later x y
settled_later b s q x book h =
    let r = settled_from b s q x book h in
    (r.0, r.1, comes_later (traded_in b s r.0.number) q x r.0 r.2)
