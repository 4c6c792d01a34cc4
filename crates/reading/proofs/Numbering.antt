-- Number words read one after another: what is known once some of them are read.
use Rattle.std.proofs.Common.{◌≡◌, ℕ, suc, ◌+◌, ◌<◌, ◌≤◌, List, [], ◌∷◌, ◌++◌, length, get_or, take, drop, set, ℤ, Err, sym, refl, ap, ◌∙◌, append_assoc, append-nil, add-zero, zero-add, arith}
use Rattle.std.proofs.lemmas.List.{drop_more, drop-drop, take_all, drop_all, take_more_set}
use Rattle.numbers.specs.declared.NumberFault.{NumberFault}
use Rattle.reading.specs.declared.fields.Field.{Field}
use Rattle.reading.specs.declared.faults.WordFault.{WordFault}
use Rattle.reading.specs.declared.faults.WordFault.TheVariants.{Form, Number}
use Rattle.reading.specs.declared.reader.Reader.{Reader}
use Rattle.reading.specs.Reading.{ahead}
use Rattle.reading.specs.Fields.{Read, Faulty, Numbers, OneFault, WordsRead, StoppedAt}

-- Of the words ws₀, i are read as the first counts of cs, and the words ws are left.
pub record ReadSoFar (us : List Field) (ws₀ : List (List ℕ)) (i : ℕ) (ws : List (List ℕ)) (cs : List ℤ) : Type 0 where
  pub counts : (ns : List ℤ) (rest : List (List ℕ)) → Read (drop i us) ws ns rest → Read us ws₀ (take i cs ++ ns) rest
  pub faults : (k : ℕ) (f : NumberFault) → Faulty (drop i us) ws k f → Faulty us ws₀ (i + k) f

pub none_read : (us : List Field) (ws : List (List ℕ)) (cs : List ℤ) → ReadSoFar us ws 0 ws cs
none_read us ws cs = record { counts = λ ns rest h. h; faults = λ k f h. rw zero-add h }

-- the first of some words is read as a count of u
first_counted : (u : Field) (us : List Field) (ws ws' rest : List (List ℕ)) (n : ℤ) (ns : List ℤ) → Read (u ∷ []) ws (n ∷ []) ws' → Read us ws' ns rest → Read (u ∷ us) ws (n ∷ ns) rest
first_counted u us ws ws' rest n ns (w, ws₁, n₁, ns₁, (e, p, a, q)) h =
    let same : n₁ ≡ n = cc in
    (w, ws₁, n, ns, (e, refl, rw (sym same) a, rw q.0 h))

first_passed : (u : Field) (us : List Field) (ws ws' : List (List ℕ)) (n : ℤ) (k : ℕ) (f : NumberFault) → Read (u ∷ []) ws (n ∷ []) ws' → Faulty us ws' k f → Faulty (u ∷ us) ws (suc k) f
first_passed u us ws ws' n k f (w, ws₁, n₁, ns₁, (e, p, a, q)) h = rw e ((n₁, a), rw q.0 h)

pub one_less : (u : Field) (ws ws' : List (List ℕ)) (n : ℤ) → Read (u ∷ []) ws (n ∷ []) ws' → length ws ≡ suc (length ws')
one_less u ws ws' n (w, ws₁, n₁, ns₁, (e, p, a, q)) = rw (e, q.0)

pub one_more : (us : List Field) (ws₀ ws ws' : List (List ℕ)) (cs : List ℤ) (i : ℕ) (n : ℤ) (d : Field) → i < length us → i < length cs → ReadSoFar us ws₀ i ws cs → Read (get_or us i d ∷ []) ws (n ∷ []) ws' → ReadSoFar us ws₀ (i + 1) ws' (set cs i n)
one_more us ws₀ ws ws' cs i n d lu lc so one =
    let more : drop i us ≡ get_or us i d ∷ drop (i + 1) us = drop_more us i d lu in
    let filled : take (i + 1) (set cs i n) ≡ take i cs ++ n ∷ [] = take_more_set cs i n lc in
    record {
      counts = λ ns rest h. rw (filled, append_assoc) (so.counts (n ∷ ns) rest (rw more (first_counted (get_or us i d) (drop (i + 1) us) ws ws' rest n ns one h)));
      faults = λ k f h. let z : i + suc k ≡ (i + 1) + k = omega arith in rw (sym z) (so.faults (suc k) f (rw more (first_passed (get_or us i d) (drop (i + 1) us) ws ws' n k f one h)));
    }

pub all_read : (us : List Field) (ws₀ ws : List (List ℕ)) (cs : List ℤ) (i : ℕ) → length us ≤ i → length cs ≤ i → length ws ≡ 0 → ReadSoFar us ws₀ i ws cs → Read us ws₀ cs []
all_read us ws₀ [] cs i lu lc e so =
    let last : Read (drop i us) [] [] [] = rw (drop_all i us lu) (refl, refl) in
    rw (append-nil, take_all i cs lc) at (so.counts [] [] last)
all_read us ws₀ (w ∷ ws) cs i lu lc e so = absurd (omega arith)

-- the first of some words is no count of the unit that is asked for
first_faulty : (u : Field) (us : List Field) (ws : List (List ℕ)) (f : NumberFault) → Faulty (u ∷ []) ws 0 f → Faulty (u ∷ us) ws 0 f
first_faulty u us [] f h = h
first_faulty u us (w ∷ ws) f h = h

pub stopped : (us : List Field) (ws₀ ws : List (List ℕ)) (cs : List ℤ) (i before words : ℕ) (d : Field) (e : WordFault) → i < length us → length ws₀ ≡ length us → i + length ws ≡ length us → words ≡ before + i → ReadSoFar us ws₀ i ws cs → OneFault words (get_or us i d) ws e → Numbers before us ws₀ (Err e)
stopped us ws₀ ws cs i before words d Form l all left at so h = absurd (omega (arith, ap length h))
stopped us ws₀ ws cs i before words d (Number k f) l all left at so h =
    let here : Faulty (drop i us) ws 0 f = rw (drop_more us i d l) (first_faulty (get_or us i d) (drop (i + 1) us) ws f h.0) in
    (all, (i, (rw add-zero at (so.faults 0 f here), omega (arith, h.1))))

-- i words of the line are read, and then one more
pub one_on : (i : ℕ) (s t v : Reader) (u : Field) (z : ℤ) → WordsRead i s t → v.words ≡ t.words + 1 → Read (u ∷ []) (ahead t) (z ∷ []) (ahead v) → WordsRead (i + 1) s v
one_on i s t v u z (rest, counted) next (w, ws, z₁, zs, (e, p, a, q)) = (sym q.0 ∙ ap (drop 1) (sym e) ∙ ap (drop 1) rest ∙ drop-drop 1 i (ahead s), omega (arith, counted, next))

-- i words of the line are read, and then it is read up to the first word that is no number
pub read_on : (i : ℕ) (s t u : Reader) (e : WordFault) (d : Field) → WordsRead i s t → StoppedAt t e u → OneFault t.words d (ahead t) e → 0 < length (ahead t) → StoppedAt s e u
read_on i s t u Form d so h none left = absurd (omega (arith, ap length none))
read_on i s t u (Number k f) d (rest, counted) (j, (at, (more, count))) h left =
    (i + j, (omega (arith, at, counted), (more ∙ ap (drop j) rest ∙ drop-drop j i (ahead s), omega (arith, count, counted))))
