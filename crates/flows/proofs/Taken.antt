-- What a take does to the ATCs: less by as much where it was taken, and the same in every direction but the two of its connector.
use Rattle.std.proofs.Common.{◌≡◌, ℕ, false, ℤ, pos, ◌+ℤ◌, ◌-ℤ◌, ◌≤ℤ◌, arith}
use Rattle.std.proofs.lemmas.Int.{ints}
use Rattle.capacity.proofs.Puts.{other_way, put_there, put_else}
use Rattle.capacity.specs.Directions.{is_way_in}
use Rattle.capacity.specs.Meaning.{Capacity, atc, taken}

module _ (m : Capacity) (k x y q : ℕ) where
  abbrev after : Capacity
  after = taken m k x y q

  -- the net use stands where the direction is neither of the connector's two
  pub net_else : (c a b : ℕ) → is_way_in k x y c a b ≡ false → is_way_in k y x c a b ≡ false → after.net c a b ≡ m.net c a b
  net_else c a b = put_else m.net k x y (m.net k x y +ℤ pos q) (m.net k y x -ℤ pos q) c a b

  net_atc : (c a b : ℕ) → after.net c a b ≡ m.net c a b → atc after c a b ≡ atc m c a b
  net_atc c a b e = λ i. ((pos (m.ntc c a b) -ℤ pos (m.aac c a b)) +ℤ pos (m.aac c b a)) -ℤ (pos (m.held c a b) +ℤ e i)

  -- a direction from neither area of the connector
  pub atc_from : (c a b : ℕ) → (a ≡ x → ⊥) → (a ≡ y → ⊥) → atc after c a b ≡ atc m c a b
  atc_from c a b n o = net_atc c a b (net_else c a b (other_way k x y c a b (λ _ e _. n e)) (other_way k y x c a b (λ _ e _. o e)))

  -- a direction neither from nor to the area that the take leads from
  pub atc_apart : (c a b : ℕ) → (a ≡ x → ⊥) → (b ≡ x → ⊥) → atc after c a b ≡ atc m c a b
  atc_apart c a b n o = net_atc c a b (net_else c a b (other_way k x y c a b (λ _ e _. n e)) (other_way k y x c a b (λ _ _ e. o e)))

  pub atc_contract : (c a b : ℕ) → (c ≡ k → ⊥) → atc after c a b ≡ atc m c a b
  atc_contract c a b n = net_atc c a b (net_else c a b (other_way k x y c a b (λ e _ _. n e)) (other_way k y x c a b (λ e _ _. n e)))

  pub take_covered : pos q ≤ℤ atc m k x y → pos 0 ≤ℤ atc after k x y
  take_covered h =
      less ((pos (m.ntc k x y) -ℤ pos (m.aac k x y)) +ℤ pos (m.aac k y x)) (pos (m.held k x y)) (m.net k x y) (after.net k x y)
      (put_there m.net k x y (m.net k x y +ℤ pos q) (m.net k y x -ℤ pos q)) h
    where
      less : (n d u w : ℤ) → w ≡ u +ℤ pos q → pos q ≤ℤ (n -ℤ (d +ℤ u)) → pos 0 ≤ℤ (n -ℤ (d +ℤ w))
      less n d u w e h = omega (arith, ints)
