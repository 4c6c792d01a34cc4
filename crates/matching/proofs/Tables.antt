-- What a table of sizes tells.
use Rattle.std.proofs.Common.{◌≡◌, ℕ, ◌<◌, List, [], ◌∷◌, length, sym, subst, inl, inr, arith}
use Rattle.std.proofs.lemmas.Bool.{cases_lt}
use Rattle.std.proofs.lemmas.Option.{slice_get_cases}
use Rattle.routes.specs.declared.sizes.Sizes.{Sizes}
use Rattle.routes.specs.Listed.{size_of}
use Rattle.routes.specs.Paths.{Area, Relation, Onward, Size}
use Rattle.matching.specs.Ways.{Way, Tells, Told, Leading}

module _ (O : Relation) where
  pub tells : (q : ℕ) (s : Sizes) → ((a : ℕ) → Size O a q (size_of s a)) → Tells O q s
  tells q s h a = (
    λ l. let r = (h a).some l in (r.0, r.1),
    λ w. elim (cases_lt 0 (size_of s a)) [ inl l ↦ l | inr l ↦ absurd ((h a).none (omega arith) w.0 w.1) ],
  )

  onward_end : (a q : ℕ) (xs : List ℕ) → Area a → Onward O a q xs → Area q
  onward_end a q [] l h = subst Area h l
  onward_end a q (b ∷ xs) l h = onward_end b q xs h.0.1 h.1

  -- a path ends in an area
  way_end : (p q : ℕ) → Way O p q → q < 16
  way_end p q ([], h) = absurd h.0
  way_end p q (a ∷ xs, h) = onward_end a q xs h.0.0 h.0.2

  -- the table says the same as paths
  module _ (t : List Sizes) (long : length t ≡ 16) (told : Told O t 16) where
    pub leads_way : (p q : ℕ) → Leading t p q → Way O p q
    leads_way p q h = elim (slice_get_cases t q).1 [
      | inl r ↦
          let k : q < 16 = omega (arith, r.1) in
          (told q r.0 k p).0 (rw (r.2, sym r.3) at h)
      | inr r ↦ absurd (rw r.1 at h)
    ]

    pub way_leads : (p q : ℕ) → Way O p q → Leading t p q
    way_leads p q w = elim (slice_get_cases t q).1 [
      | inl r ↦ let k = way_end p q w in rw r.2 (rw r.3 at ((told q r.0 k p).1 w))
      | inr r ↦ let k = way_end p q w in absurd (omega arith)
    ]
