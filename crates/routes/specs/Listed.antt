-- What sizes and a route hold.
use Rattle.std.specs.Prelude.{ℕ, List, take, slice_index}
use Rattle.routes.specs.declared.route.Route.{Route}
use Rattle.routes.specs.declared.sizes.Sizes.{Sizes}

-- the areas of a route, in order
abbrev pub listed : Route → List ℕ
listed r = take r.len r.areas

-- the size for an area
abbrev pub size_of : Sizes → ℕ → ℕ
size_of s a = slice_index s.sizes a
