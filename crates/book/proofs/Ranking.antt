-- Rank is a strict order.
use Rattle.std.proofs.Common.{◌≡◌, ℕ, ◌⊎◌, List, ℤ, ◌∙◌, inl, inr, arith}
use Rattle.std.proofs.lemmas.Int.{ints}
use Rattle.book.specs.declared.rows.Side.{Side}
use Rattle.book.specs.declared.rows.Side.TheVariants.{Buy, Sell}
use Rattle.book.specs.declared.rows.Order.{Order}
use Rattle.book.specs.Ranks.{Sooner, Ahead, Strict, order_at}

sooner_not : (l : ℤ) (i : ℕ) → Sooner l l i i → ⊥
sooner_not l i (inl h) = omega (arith, ints)
sooner_not l i (inr h) = omega arith

sooner_on : (l k m : ℤ) (i j n : ℕ) → Sooner l k i j → Sooner k m j n → Sooner l m i n
sooner_on l k m i j n (inl a) (inl b) = inl (omega (arith, ints))
sooner_on l k m i j n (inl a) (inr b) = inl (omega (arith, ints))
sooner_on l k m i j n (inr a) (inl b) = inl (omega (arith, ints))
sooner_on l k m i j n (inr a) (inr b) = inr (a.0 ∙ b.0, omega arith)

sooner_one : (l k : ℤ) (i j : ℕ) → (i ≡ j → ⊥) → Sooner l k i j ⊎ Sooner k l j i
sooner_one l k i j ne = grind (arith, ints)

ahead_not : (a : Side) (l : ℤ) (i : ℕ) → Ahead a a l l i i → ⊥
ahead_not Buy l i h = sooner_not l i h
ahead_not Sell l i h = sooner_not l i h

-- of higher limits the mirror image: the older first, still
higher_on : (l k m : ℤ) (i j n : ℕ) → Sooner k l i j → Sooner m k j n → Sooner m l i n
higher_on l k m i j n (inl a) (inl b) = inl (omega (arith, ints))
higher_on l k m i j n (inl a) (inr b) = inl (omega (arith, ints))
higher_on l k m i j n (inr a) (inl b) = inl (omega (arith, ints))
higher_on l k m i j n (inr a) (inr b) = inr (b.0 ∙ a.0, omega arith)

ahead_on : (a b c : Side) (l k m : ℤ) (i j n : ℕ) → Ahead a b l k i j → Ahead b c k m j n → Ahead a c l m i n
ahead_on Buy Buy Buy l k m i j n p q = higher_on l k m i j n p q
ahead_on Buy Buy Sell l k m i j n p q = absurd q
ahead_on Buy Sell c l k m i j n p q = absurd p
ahead_on Sell Buy c l k m i j n p q = absurd p
ahead_on Sell Sell Buy l k m i j n p q = absurd q
ahead_on Sell Sell Sell l k m i j n p q = sooner_on l k m i j n p q

ahead_one : (a b : Side) (l k : ℤ) (i j : ℕ) → a ≡ b → (i ≡ j → ⊥) → Ahead a b l k i j ⊎ Ahead b a k l j i
ahead_one Buy Buy l k i j e ne = sooner_one k l i j ne
ahead_one Buy Sell l k i j e ne = cc
ahead_one Sell Buy l k i j e ne = cc
ahead_one Sell Sell l k i j e ne = sooner_one l k i j ne

pub strict : (os : List Order) → Strict os
strict os = record {
  never_itself = λ i h. ahead_not (order_at os i).side (order_at os i).limit i h.2;
  carries = λ i j k p q. (p.0, q.1, ahead_on (order_at os i).side (order_at os j).side (order_at os k).side (order_at os i).limit (order_at os j).limit (order_at os k).limit i j k p.2 q.2);
  one_of = λ i j h g e ne. elim (ahead_one (order_at os i).side (order_at os j).side (order_at os i).limit (order_at os j).limit i j e ne) [ inl a ↦ inl (h, g, a) | inr b ↦ inr (g, h, b) ];
}
