-- Two relations of open directions with the same paths and the same routes.
use Rattle.std.specs.Prelude.{ℕ, List}
use Rattle.routes.specs.Paths.{Relation, Path, IsRoute}

pub record SamePaths (O P : Relation) : Type 0 where
  pub path : (p q : ℕ) (xs : List ℕ) → Path O p q xs → Path P p q xs
  pub path_back : (p q : ℕ) (xs : List ℕ) → Path P p q xs → Path O p q xs
  pub route : (p q : ℕ) (xs : List ℕ) → IsRoute O p q xs → IsRoute P p q xs
  pub route_back : (p q : ℕ) (xs : List ℕ) → IsRoute P p q xs → IsRoute O p q xs
