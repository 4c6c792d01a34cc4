-- Paths, routes and reaching carry over to a relation with the same directions open between different areas.
use Rattle.std.proofs.Common.{ℕ, Bool, List, [], ◌∷◌, sym}
use Rattle.routes.specs.Laws.{Reach, Within, Alike}
use Rattle.routes.specs.Paths.{Relation, Holds, Onward, NoRepeat, Path, IsRoute}
use Rattle.routes.proofs.Reached.{reaching}

module _ (O P : Relation) (w : Within O P) where
  onward_over : (a q : ℕ) (xs : List ℕ) → NoRepeat (a ∷ xs) → Onward O a q xs → Onward P a q xs
  onward_over a q [] u h = h
  onward_over a q (b ∷ xs) u h =
      let o = h.0 in
      ((o.0, o.1, w a b o.0 o.1 (λ e. u.0.0 (sym e)) o.2), onward_over b q xs u.1 h.1)

  pub path_over : (p q : ℕ) (xs : List ℕ) → Path O p q xs → Path P p q xs
  path_over p q [] h = absurd h.0
  path_over p q (a ∷ xs) h = ((h.0.0, h.0.1, onward_over a q xs h.1 h.0.2), h.1)

  pub reach_over : (p q : ℕ) → Reach O p q → Reach P p q
  reach_over p q h =
      let r = (reaching O).path p q h in
      (reaching P).walk p q r.0 (path_over p q r.0 r.1)

pub route_over : (O P : Relation) → Within O P → Within P O → (p q : ℕ) (xs : List ℕ) → IsRoute O p q xs → IsRoute P p q xs
route_over O P there back p q xs h = (path_over O P there p q xs h.0, λ ys k. h.1 ys (path_over P O back p q ys k))

pub alike : (f g : ℕ → ℕ → Bool) → Alike f g
alike f g = record { path = path_over (Holds f) (Holds g); route = route_over (Holds f) (Holds g) }
