-- What is made of what the numbers of a line make.
use Rattle.std.proofs.Common.{◌≡◌, ℕ, List, ℤ, Ok, ap, ◌∙◌}
use Rattle.reading.specs.declared.fields.Field.{Field}
use Rattle.reading.specs.Making.{Makes}

pub made : {X Y : Type 0} (f : X → Y) (i : ℕ) (fs : List Field) (make : List ℤ → X) (ws : List (List ℕ)) (x : X) (y : Y) → Makes i fs make ws (Ok x) → y ≡ f x → Makes i fs (λ zs. f (make zs)) ws (Ok y)
made f i fs make ws x y (zs, (read, e)) is = (zs, (read, is ∙ ap f e))
