-- The places of rows that are selected, and such places in order.
use Rattle.std.proofs.Common.{◌≡◌, ◌∙◌, sym, refl, ap, subst, ℕ, zero, suc, ◌+◌, ◌<◌, true, false, cond, List, [], ◌∷◌, ◌++◌, map, length, take, drop, get_or, Option, Some, None, append_assoc, arith}
use Rattle.std.proofs.lemmas.List.{length-append}
use Rattle.std.specs.List.{AllByRecursion, fold}
use Rattle.std.specs.Ordering.{match_ordering}
use Rattle.std.specs.declared.cmp.Ordering.{Ordering}
use Rattle.std.specs.declared.cmp.Ordering.TheVariants.{Less, Equal, Greater}
use Rattle.dr_answers.specs.Given.{limited}
use Rattle.dr_answers.specs.InOrder.{put_by, in_order_by}
use Rattle.dr_answers.specs.Selection.{selected, selects}
use Rattle.dr_ask.specs.Asked.{Asked}
use Rattle.dr_ask.specs.declared.time_order.TimeOrder.{TimeOrder}
use Rattle.dr_base.specs.declared.row.Row.{Row}
use Rattle.dr_scan.specs.declared.row_place.RowPlace.{RowPlace}
use Rattle.dr_scan.specs.Entries.{by_time, times_cmp}
use Rattle.dr_scan.specs.Places.{all_selected, places_cmp, places_in, places_over, row_of, rows_at, IsPlace}
use Rattle.dr_scan.specs.Rows.{row_in}

-- ---- a row behind others, and a segment behind others

row_behind : (pre : List Row) (r : Row) (rest : List Row) → row_in (pre ++ r ∷ rest) (length pre) ≡ r
row_behind [] r rest = refl
row_behind (p ∷ pre) r rest = row_behind pre r rest

segment_behind : (pre : List (List Row)) (g : List Row) (rest : List (List Row)) → rows_at (pre ++ g ∷ rest) (length pre) ≡ g
segment_behind [] g rest = refl
segment_behind (p ∷ pre) g rest = segment_behind pre g rest

is_within : {A : Type 0} (pre : List A) (x : A) (rest : List A) → length pre < length (pre ++ x ∷ rest)
is_within pre x rest = omega (arith, length-append pre (x ∷ rest))

one_longer : {A : Type 0} (pre : List A) (x : A) → length (pre ++ x ∷ []) ≡ length pre + 1
one_longer pre x = length-append pre (x ∷ [])

pub rows_at-get_or : (gs : List (List Row)) (i : ℕ) (d : List Row) → i < length gs → rows_at gs i ≡ get_or gs i d
rows_at-get_or [] i d less = absurd (omega arith)
rows_at-get_or (g ∷ gs) zero d less = refl
rows_at-get_or (g ∷ gs) (suc i) d less = rows_at-get_or gs i d (omega arith)

-- ---- the places of the rows of segments

-- the places of these rows
pub record ArePlaces (segments : List (List Row)) (ps : List RowPlace) (found : List Row) : Type 0 where
  pub rows : map (row_of segments) ps ≡ found
  pub there : AllByRecursion (IsPlace segments) ps

module _ (q : Asked) (segments : List (List Row)) where
  together : (ps qs : List RowPlace) (rs ss : List Row) → ArePlaces segments ps rs → ArePlaces segments qs ss → ArePlaces segments (ps ++ qs) (rs ++ ss)
  together [] qs rs ss a b = subst (λ (t : List Row). ArePlaces segments qs (t ++ ss)) a.rows b
  together (p ∷ ps) qs rs ss a b =
      let rest = together ps qs (map (row_of segments) ps) ss (record { rows = refl; there = a.there.1 }) b in
      let made : ArePlaces segments (p ∷ (ps ++ qs)) ((row_of segments p ∷ map (row_of segments) ps) ++ ss) = record { rows = ap (λ t. row_of segments p ∷ t) rest.rows; there = (a.there.0, rest.there) } in
      subst (λ (t : List Row). ArePlaces segments (p ∷ (ps ++ qs)) (t ++ ss)) a.rows made

  in_rows : (i : ℕ) → i < length segments → (pre rest : List Row) → rows_at segments i ≡ pre ++ rest → ArePlaces segments (places_in q i (length pre) rest) (selected q rest)
  in_rows i lt pre [] e = record { rows = refl; there = tt }
  in_rows i lt pre (r ∷ rest) e =
      let p : RowPlace = record { time = r.key.time; segment = i; row = length pre } in
      let next : ArePlaces segments (places_in q i (length pre + 1) rest) (selected q rest) =
      subst (λ n. ArePlaces segments (places_in q i n rest) (selected q rest)) (one_longer pre r) (in_rows i lt (pre ++ r ∷ []) rest (e ∙ sym (append_assoc pre (r ∷ []) rest))) in
      let is : row_of segments p ≡ r = ap (λ rows. row_in rows (length pre)) e ∙ row_behind pre r rest in
      let within : length pre < length (rows_at segments i) = subst (λ (rs : List Row). length pre < length rs) (sym e) (is_within pre r rest) in
      let there : IsPlace segments p = record { segment = lt; row = within; time = ap (λ (x : Row). x.key.time) (sym is) } in
      elim (selects q r.key) as (λ b. ArePlaces segments (cond b (p ∷ places_in q i (length pre + 1) rest) (places_in q i (length pre + 1) rest)) (cond b (r ∷ selected q rest) (selected q rest)))
      [ true ↦ record { rows = λ j. is j ∷ next.rows j; there = (there, next.there) } | false ↦ next ]

  in_segments : (pre rest : List (List Row)) → segments ≡ pre ++ rest → ArePlaces segments (places_over q (length pre) rest) (all_selected q rest)
  in_segments pre [] e = record { rows = refl; there = tt }
  in_segments pre (g ∷ rest) e =
      let next : ArePlaces segments (places_over q (length pre + 1) rest) (all_selected q rest) =
      subst (λ n. ArePlaces segments (places_over q n rest) (all_selected q rest)) (one_longer pre g) (in_segments (pre ++ g ∷ []) rest (e ∙ sym (append_assoc pre (g ∷ []) rest))) in
      let lt : length pre < length segments = subst (λ (gs : List (List Row)). length pre < length gs) (sym e) (is_within pre g rest) in
      let rows : rows_at segments (length pre) ≡ g = ap (λ gs. rows_at gs (length pre)) e ∙ segment_behind pre g rest in
      together (places_in q (length pre) 0 g) (places_over q (length pre + 1) rest) (selected q g) (all_selected q rest) (in_rows (length pre) lt [] g rows) next

  pub are-places_over : ArePlaces segments (places_over q 0 segments) (all_selected q segments)
  are-places_over = in_segments [] segments refl

-- ---- in order

module _ (segments : List (List Row)) (order : TimeOrder) where
  abbrev by_row : Row → Row → Ordering
  by_row a b = times_cmp order a.key.time b.key.time

  same_cmp : (p s : RowPlace) → IsPlace segments p → IsPlace segments s → places_cmp order p s ≡ by_row (row_of segments p) (row_of segments s)
  same_cmp p s a b = λ i. times_cmp order (a.time i) (b.time i)

  put-rows : (ps : List RowPlace) (p : RowPlace) → AllByRecursion (IsPlace segments) ps → IsPlace segments p → map (row_of segments) (put_by (places_cmp order) ps p) ≡ put_by by_row (map (row_of segments) ps) (row_of segments p)
  put-rows [] p all one = refl
  put-rows (s ∷ ss) p all one =
      let f = row_of segments in
      let rest = put-rows ss p all.1 one in
      (elim (places_cmp order p s) as (λ o. map f (match_ordering o (p ∷ s ∷ ss) (s ∷ put_by (places_cmp order) ss p) (s ∷ put_by (places_cmp order) ss p))
      ≡ match_ordering o (f p ∷ f s ∷ map f ss) (f s ∷ put_by by_row (map f ss) (f p)) (f s ∷ put_by by_row (map f ss) (f p)))
      [ Less ↦ refl | Equal ↦ ap (λ t. f s ∷ t) rest | Greater ↦ ap (λ t. f s ∷ t) rest ])
      ∙ ap (λ o. match_ordering o (f p ∷ f s ∷ map f ss) (f s ∷ put_by by_row (map f ss) (f p)) (f s ∷ put_by by_row (map f ss) (f p))) (same_cmp p s one all.0)

  put-there : (ps : List RowPlace) (p : RowPlace) → AllByRecursion (IsPlace segments) ps → IsPlace segments p → AllByRecursion (IsPlace segments) (put_by (places_cmp order) ps p)
  put-there [] p all one = (one, tt)
  put-there (s ∷ ss) p all one =
      let rest = put-there ss p all.1 one in
      elim (places_cmp order p s) as (λ o. AllByRecursion (IsPlace segments) (match_ordering o (p ∷ s ∷ ss) (s ∷ put_by (places_cmp order) ss p) (s ∷ put_by (places_cmp order) ss p)))
      [ Less ↦ (one, all) | Equal ↦ (all.0, rest) | Greater ↦ (all.0, rest) ]

  on-places : (done ps : List RowPlace) (rows : List Row) → AllByRecursion (IsPlace segments) done → AllByRecursion (IsPlace segments) ps → map (row_of segments) ps ≡ rows
      → ArePlaces segments (fold (put_by (places_cmp order)) done ps) (fold (put_by by_row) (map (row_of segments) done) rows)
  on-places done [] rows all left e = subst (λ rs. ArePlaces segments done (fold (put_by by_row) (map (row_of segments) done) rs)) e (record { rows = refl; there = all })
  on-places done (p ∷ ps) rows all left e =
      let more = on-places (put_by (places_cmp order) done p) ps (map (row_of segments) ps) (put-there done p all left.0) left.1 refl in
      let first = subst (λ (rs : List Row). ArePlaces segments (fold (put_by (places_cmp order)) (put_by (places_cmp order) done p) ps) (fold (put_by by_row) rs (map (row_of segments) ps))) (put-rows done p all left.0) more in
      subst (λ rs. ArePlaces segments (fold (put_by (places_cmp order)) done (p ∷ ps)) (fold (put_by by_row) (map (row_of segments) done) rs)) e first

  pub are-in_order : (ps : List RowPlace) (rows : List Row) → ArePlaces segments ps rows → ArePlaces segments (in_order_by (places_cmp order) ps) (by_time order rows)
  are-in_order ps rows a = on-places [] ps rows tt a.there a.rows

-- ---- some of them

module _ (segments : List (List Row)) where
  are-dropped : (n : ℕ) (ps : List RowPlace) (rows : List Row) → ArePlaces segments ps rows → ArePlaces segments (drop n ps) (drop n rows)
  are-dropped zero ps rows a = a
  are-dropped (suc n) [] rows a = subst (λ (rs : List Row). ArePlaces segments [] (drop (suc n) rs)) a.rows (record { rows = refl; there = tt })
  are-dropped (suc n) (p ∷ ps) rows a = subst (λ (rs : List Row). ArePlaces segments (drop n ps) (drop (suc n) rs)) a.rows (are-dropped n ps (map (row_of segments) ps) (record { rows = refl; there = a.there.1 }))

  are-taken : (n : ℕ) (ps : List RowPlace) (rows : List Row) → ArePlaces segments ps rows → ArePlaces segments (take n ps) (take n rows)
  are-taken zero ps rows a = record { rows = refl; there = tt }
  are-taken (suc n) [] rows a = subst (λ (rs : List Row). ArePlaces segments [] (take (suc n) rs)) a.rows (record { rows = refl; there = tt })
  are-taken (suc n) (p ∷ ps) rows a =
      let rest = are-taken n ps (map (row_of segments) ps) (record { rows = refl; there = a.there.1 }) in
      subst (λ (rs : List Row). ArePlaces segments (p ∷ take n ps) (take (suc n) rs)) a.rows (record { rows = ap (λ t. row_of segments p ∷ t) rest.rows; there = (a.there.0, rest.there) })

  are-limited : (limit : Option ℕ) (ps : List RowPlace) (rows : List Row) → ArePlaces segments ps rows → ArePlaces segments (limited limit ps) (limited limit rows)
  are-limited None ps rows a = a
  are-limited (Some n) ps rows a = are-taken n ps rows a

  pub are-given : (offset : ℕ) (limit : Option ℕ) (ps : List RowPlace) (rows : List Row) → ArePlaces segments ps rows → ArePlaces segments (limited limit (drop offset ps)) (limited limit (drop offset rows))
  are-given offset limit ps rows a = are-limited limit (drop offset ps) (drop offset rows) (are-dropped offset ps rows a)
