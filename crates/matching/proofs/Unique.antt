-- There is one chosen pair at most.
use Rattle.std.proofs.Common.{◌≡◌, ℕ, ◌⊎◌, List, sym, subst, inl, inr}
use Rattle.book.specs.declared.rows.Order.{Order}
use Rattle.book.specs.Ranks.{RanksAbove}
use Rattle.book.proofs.Ranking.{strict}
use Rattle.routes.specs.Paths.{Relation}
use Rattle.matching.specs.declared.round.Round.{Round}
use Rattle.matching.specs.Pairs.{InRound, Chosen}

-- of two places neither of which ranks below the other
same_best : (os : List Order) (i k : ℕ) → (k ≡ i) ⊎ RanksAbove os i k → (i ≡ k) ⊎ RanksAbove os k i → i ≡ k
same_best os i k (inl e) g = sym e
same_best os i k (inr a) (inl e) = e
same_best os i k (inr a) (inr b) = absurd ((strict os).never_itself i ((strict os).carries i k i a b))

pub one_chosen : (O : Relation) (round : Round) (os : List Order) (i j i' j' : ℕ) → Chosen O round os i j → Chosen O round os i' j' → (i ≡ i') × (j ≡ j')
one_chosen O round os i j i' j' h k =
    let e : i ≡ i' = same_best os i i' (h.best_buy i' j' k.pair) (k.best_buy i j h.pair) in
    let p : InRound O round os i j' = subst (λ x. InRound O round os x j') (sym e) k.pair in
    let q : InRound O round os i' j = subst (λ x. InRound O round os x j) e h.pair in
    (e, same_best os j j' (h.best_sell j' p) (k.best_sell j q))
