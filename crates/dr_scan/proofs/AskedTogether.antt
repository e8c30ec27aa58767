-- Rows of several segments of which a filter is asked together.
use Rattle.std.proofs.Common.{◌≡◌, ◌∙◌, sym, refl, ap, subst, ℕ, zero, suc, ◌+◌, ◌<◌, Bool, false, cond, ◌&&◌, List, [], ◌∷◌, ◌++◌, map, drop, take, length, get_or, slice_get, Option, Some, arith}
use Rattle.std.specs.List.{flat_map}
use Rattle.std.proofs.lemmas.List.{append-nil, drop_more, take_more, get_or_default}
use Rattle.std.proofs.lemmas.List.Concat.{flat_map-append, flat_map-cons}
use Rattle.std.proofs.lemmas.List.Elements.{filter-append}
use Rattle.std.proofs.lemmas.Option.{get_or_from_slice_get, unwrap_or-slice_get}
use Rattle.dr_base.specs.declared.row.Row.{Row}
use Rattle.dr_time.specs.Union.{union_holds}
use Rattle.dr_answers.specs.Selection.{passes, selects}
use Rattle.dr_ask.specs.Asked.{Asked}
use Rattle.dr_filter.specs.Condition.{Condition, matches}
use Rattle.dr_image.specs.Table.{Table, rows_of}
use Rattle.dr_columns.specs.Rows.{key_at}
use Rattle.dr_columns.specs.declared.selection.Selection.{Selection}
use Rattle.dr_scan.specs.Chosen.{AreTold, AreEachTold}
use Rattle.dr_scan.specs.Rows.{row_in, no_row}
use Rattle.dr_scan.specs.Together.{held, AreApart, AreLeft}
use Rattle.dr_scan.proofs.AtOnce.{told-at}
use Rattle.dr_scan.proofs.ImageRows.{counted, row-there}

-- ---- the rows that the intervals hold

module _ (q : Asked) where
  held-append : (a b : List Row) → held q (a ++ b) ≡ held q a ++ held q b
  held-append a b = filter-append (λ (r : Row). union_holds q.intervals r.key.time) a b

  pub held-next : (rows : List Row) (i : ℕ) (r : Row) (old lot new : List Row) → i < length rows → slice_get rows i ≡ Some r
      → new ≡ lot ++ held q (r ∷ []) → lot ≡ old ++ held q (take i rows) → new ≡ old ++ held q (take (i + 1) rows)
  held-next rows i r old lot new lt at more was =
      more ∙ ap (λ l. l ++ held q (r ∷ [])) was ∙ regroups old (held q (take i rows)) (held q (r ∷ []))
      ∙ ap (λ l. old ++ l) (sym (held-append (take i rows) (r ∷ [])) ∙ ap (λ y. held q (take i rows ++ y ∷ [])) (sym (get_or_from_slice_get rows i r r at)) ∙ ap (held q) (sym (take_more rows i r lt)))
    where
      regroups : (a b c : List Row) → (a ++ b) ++ c ≡ a ++ (b ++ c)
      regroups [] b c = refl
      regroups (x ∷ a) b c = ap (λ l. x ∷ l) (regroups a b c)

  -- of rows that lie apart none is held
  nothing-held : (rows : List Row) → AreApart q rows → held q rows ≡ []
  nothing-held [] apart = refl
  nothing-held (r ∷ rows) apart = ap (λ b. cond b (r ∷ held q rows) (held q rows)) apart.0 ∙ nothing-held rows apart.1

  pub none-held : (rows lot : List Row) → AreApart q rows → lot ≡ lot ++ held q rows
  none-held rows lot apart = sym (ap (λ l. lot ++ l) (nothing-held rows apart) ∙ append-nil lot)

  pub apart-left : (passed : List Bool) (next : ℕ) (rows rest : List Row) → AreApart q rows → AreLeft q passed next (rows ++ rest) → AreLeft q passed next rest
  apart-left passed next rows rest apart left = left ∙ ap (map (λ (r : Row). passes q.filter r.key)) (held-append rows rest ∙ ap (λ l. l ++ held q rest) (nothing-held rows apart))

  pub apart-told : (rows : List Row) (i : ℕ) → AreApart q rows → i < length rows → false ≡ selects q (row_in rows i).key
  apart-told [] i apart lt = absurd (omega (arith, lt))
  apart-told (r ∷ rows) zero apart lt = ap (λ b. b && passes q.filter r.key) (sym apart.0)
  apart-told (r ∷ rows) (suc i) apart lt = apart-told rows i apart.1 (omega (arith, lt))

  every : (rows : List Row) → ((i : ℕ) → i < length rows → union_holds q.intervals (row_in rows i).key.time ≡ false) → AreApart q rows
  every [] each = tt
  every (r ∷ rows) each = (each 0 (omega arith), every rows (λ i lt. each (suc i) (omega (arith, lt))))

  -- the rows of an image
  pub apart-there : (t : Table) (rows : List Row) → rows_of t ≡ rows → ((i : ℕ) → i < length t.times → union_holds q.intervals (key_at t i).time ≡ false) → AreApart q rows
  apart-there t rows is out = every rows (λ i lt.
      let within : i < length t.times = subst (λ n. i < n) (counted t rows is) lt in
      ap (λ (r : Row). union_holds q.intervals r.key.time) (row-there t rows is i within) ∙ out i within)

  pub held-behind : (segments : List (List Row)) (i : ℕ) (rows lot new : List Row) → i < length segments → rows ≡ get_or segments i rows
      → new ≡ lot ++ held q rows → lot ≡ flat_map (held q) (take i segments) → new ≡ flat_map (held q) (take (i + 1) segments)
  held-behind segments i rows lot new lt is more was =
      more ∙ ap (λ l. l ++ held q rows) was ∙ ap (λ l. flat_map (held q) (take i segments) ++ l) (sym (flat_map-cons (held q) rows [] ∙ append-nil (held q rows)))
      ∙ sym (flat_map-append (held q) (take i segments) (rows ∷ [])) ∙ ap (λ y. flat_map (held q) (take i segments ++ y ∷ [])) is ∙ ap (flat_map (held q)) (sym (take_more segments i rows lt))

  -- those of all segments, one after another
  pub held-all : (segments : List (List Row)) → flat_map (held q) segments ≡ held q (flat_map (λ rows. rows) segments)
  held-all [] = refl
  held-all (g ∷ gs) =
      flat_map-cons (held q) g gs ∙ ap (λ l. held q g ++ l) (held-all gs) ∙ sym (held-append g (flat_map (λ rows. rows) gs)) ∙ ap (held q) (sym (flat_map-cons (λ (rows : List Row). rows) g gs))

-- ---- and of each segment

pub truths-told : (q : Asked) (rows : List Row) (told : List Bool) → told ≡ map (λ r. selects q r.key) rows → (i : ℕ) → i < length rows → get_or told i false ≡ selects q (row_in rows i).key
truths-told q rows told is i lt =
    told-at (λ (r : Row). selects q r.key) rows i (row_in rows i) told is lt (unwrap_or-slice_get rows i no_row ∙ get_or_default rows i no_row (row_in rows i) lt)

pub each-more : (q : Asked) (ts : List (Option Selection)) (gs : List (List Row)) (t : Option Selection) (g : List Row) → AreEachTold q ts gs → AreTold t q g → AreEachTold q (ts ++ t ∷ []) (gs ++ g ∷ [])
each-more q [] [] t g all one = (one, tt)
each-more q [] (x ∷ gs) t g all one = absurd all
each-more q (x ∷ ts) [] t g all one = absurd all
each-more q (x ∷ ts) (y ∷ gs) t g all one = (all.0, each-more q ts gs t g all.1 one)

pub each-long : (q : Asked) (ts : List (Option Selection)) (gs : List (List Row)) → AreEachTold q ts gs → length ts ≡ length gs
each-long q [] [] all = refl
each-long q [] (x ∷ gs) all = absurd all
each-long q (x ∷ ts) [] all = absurd all
each-long q (x ∷ ts) (y ∷ gs) all = ap suc (each-long q ts gs all.1)

pub each-at : (q : Asked) (ts : List (Option Selection)) (gs : List (List Row)) (i : ℕ) (t : Option Selection) (g : List Row) → AreEachTold q ts gs → i < length gs → t ≡ get_or ts i t → g ≡ get_or gs i g → AreTold t q g
each-at q [] [] i t g all lt is is_g = absurd (omega (arith, lt))
each-at q [] (x ∷ gs) i t g all lt is is_g = absurd all
each-at q (x ∷ ts) [] i t g all lt is is_g = absurd all
each-at q (x ∷ ts) (y ∷ gs) zero t g all lt is is_g = subst (λ a. AreTold a q g) (sym is) (subst (λ b. AreTold x q b) (sym is_g) all.0)
each-at q (x ∷ ts) (y ∷ gs) (suc i) t g all lt is is_g = each-at q ts gs i t g all.1 (omega (arith, lt)) is is_g

pub each-next : (q : Asked) (told more : List (Option Selection)) (segments : List (List Row)) (i : ℕ) (t : Option Selection) (g : List Row) → i < length segments → g ≡ get_or segments i g
    → more ≡ told ++ t ∷ [] → AreEachTold q told (take i segments) → AreTold t q g → AreEachTold q more (take (i + 1) segments)
each-next q told more segments i t g lt is pushed all one =
    subst (λ ts. AreEachTold q ts (take (i + 1) segments)) (sym pushed)
    (subst (AreEachTold q (told ++ t ∷ [])) (ap (λ x. take i segments ++ x ∷ []) is ∙ sym (take_more segments i g lt)) (each-more q told (take i segments) t g all one))

-- ---- what is told of the rows that are left

pub all-left : (q : Asked) (c : Condition) (lot : List Row) (segments : List (List Row)) (passed : List Bool) → q.filter ≡ Some c
    → passed ≡ map (λ r. matches r.key.time r.key.dims c) lot → lot ≡ flat_map (held q) segments → AreLeft q passed 0 (flat_map (λ rows. rows) segments)
all-left q c lot segments passed filter is held_lot =
    is ∙ ap (map (λ (r : Row). passes (Some c) r.key)) (held_lot ∙ held-all q segments)
    ∙ ap (λ f. map (λ (r : Row). passes f r.key) (held q (flat_map (λ (rows : List Row). rows) segments))) (sym filter)

pub left-of-rows : (q : Asked) (passed : List Bool) (next : ℕ) (rows rest : List Row) (i : ℕ) (r : Row) → i < length rows → slice_get rows i ≡ Some r
    → AreLeft q passed next (drop i rows ++ rest) → AreLeft q passed next (r ∷ (drop (i + 1) rows ++ rest))
left-of-rows q passed next rows rest i r lt at left =
    subst (λ l. AreLeft q passed next (l ++ rest)) (drop_more rows i r lt ∙ ap (λ y. y ∷ drop (i + 1) rows) (get_or_from_slice_get rows i r r at)) left

pub left-of-each : (q : Asked) (passed : List Bool) (next : ℕ) (segments : List (List Row)) (i : ℕ) (g : List Row) → i < length segments → g ≡ get_or segments i g
    → AreLeft q passed next (flat_map (λ rows. rows) (drop i segments)) → AreLeft q passed next (g ++ flat_map (λ rows. rows) (drop (i + 1) segments))
left-of-each q passed next segments i g lt is left =
    subst (AreLeft q passed next)
    (ap (flat_map (λ (rows : List Row). rows)) (drop_more segments i g lt ∙ ap (λ y. y ∷ drop (i + 1) segments) (sym is)) ∙ flat_map-cons (λ (rows : List Row). rows) g (drop (i + 1) segments)) left
