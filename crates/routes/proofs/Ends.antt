-- Where paths lead, and sizes that say where one reaches.
use Rattle.std.proofs.Common.{◌≡◌, ℕ, ◌<◌, List, [], ◌∷◌, subst, arith}
use Rattle.routes.specs.Paths.{Area, Relation, Onward, Path, Size}
use Rattle.routes.specs.Laws.{Reach}
use Rattle.routes.proofs.Reached.{reaching}

module _ (O : Relation) where
  onward_area : (a q : ℕ) (xs : List ℕ) → Area a → Onward O a q xs → Area q
  onward_area a q [] l h = subst Area h l
  onward_area a q (b ∷ xs) l h = onward_area b q xs h.0.1 h.1

  -- a path leads from an area to an area
  pub path_areas : (p q : ℕ) (xs : List ℕ) → Path O p q xs → Area p × Area q
  path_areas p q [] h = absurd h.0
  path_areas p q (x ∷ xs) h = (subst Area h.0.1 h.0.0, onward_area x q xs h.0.0 h.0.2)

  -- to a number that is no area every size is 0
  pub size_none : (a q n : ℕ) → (Area q → ⊥) → n ≡ 0 → Size O a q n
  size_none a q n f e = record {
    none = λ z xs h. f (path_areas a q xs h).1;
    some = λ g. absurd (omega arith);
    least = λ xs h. absurd (f (path_areas a q xs h).1);
    route = λ xs h. absurd (f (path_areas a q xs h.0).1);
  }

  pub size_reach : (a q n : ℕ) → Size O a q n → (0 < n → Reach O a q) × (Reach O a q → 0 < n)
  size_reach a q n s = (
    (λ g. let r = s.some g in (reaching O).walk a q r.0 r.1),
    (λ h. let r = (reaching O).path a q h in let z : n ≡ 0 → ⊥ = λ e. s.none e r.0 r.1 in omega arith),
  )
