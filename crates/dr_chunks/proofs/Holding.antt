-- What a chunk holds after one more event, after a seal, and after a merge.
use Rattle.std.proofs.Common.{◌≡◌, ◌∙◌, sym, refl, ap, subst, ℕ, ℤ, ◌+◌, ◌-◌, ◌<◌, ◌≤◌, Bool, true, false, List, [], ◌∷◌, ◌++◌, length, map, take, drop, cond, arith}
use Rattle.std.specs.List.{fold, flat_map, AllByRecursion}
use Rattle.std.specs.Ordering.{int_eq}
use Rattle.std.proofs.lemmas.List.{map-append, append-nil, take_all, length-drop, length-append}
use Rattle.std.proofs.lemmas.List.Elements.{filter-append}
use Rattle.dr_base.specs.declared.event.Event.{Event}
use Rattle.dr_base.specs.declared.row.Row.{Row}
use Rattle.dr_agg.specs.Rollup.{add_row, rollup, rollup_onto, all_rows, join}
use Rattle.dr_agg.proofs.RollupLaws.{rollup_onto_push, rollup-all_rows}
use Rattle.dr_schema.specs.Columns.{kinds_of}
use Rattle.dr_schema.specs.declared.schema.Schema.{Schema}
use Rattle.dr_rollup.specs.OpenRows.{OpenRows, rows_with, with_rows}
use Rattle.dr_chunks.specs.declared.chunk.Chunk.{Chunk}
use Rattle.dr_fragment.specs.declared.fragment.Fragment.{Fragment}
use Rattle.dr_chunks.specs.declared.sealed_range.SealedRange.{SealedRange}
use Rattle.dr_rollup.specs.Unrolled.{unrolled, rolled_up}
use Rattle.dr_cuts.specs.Chunks.{chunk, chunk_list}
use Rattle.dr_cuts.specs.State.{Range, Tile, open_from, open_events, events_of}
use Rattle.dr_chunks.specs.Ranges.{fragment_of}
use Rattle.dr_merge.specs.Joined.{joined}
use Rattle.dr_chunks.specs.Held.{range_of, ranges_of, index_of, Holds, with_one, with_open_sealed, open_fragment}
use Rattle.dr_cuts.proofs.Each.{All-push, All-left, All-right, All-append}
use Rattle.dr_cuts.proofs.Tiles.{end_from, tile-end, tile-start, tile-more, tile-append, tile-right, tile-left, tile-some, end_from-append, joined-events, drop-push, events_of-push}

-- ---- rows of events

-- the rollup with one more event
pub rolled_up-push : (schema : Schema) (es : List Event) (e : Event) → rolled_up schema (es ++ e ∷ []) ≡ add_row schema.rollup (kinds_of schema) (rolled_up schema es) (unrolled schema e)
rolled_up-push schema es e =
    ap (rollup schema.rollup (kinds_of schema)) (map-append (unrolled schema) es (e ∷ []))
    ∙ rollup_onto_push schema.rollup (kinds_of schema) [] (map (unrolled schema) es) (unrolled schema e)

-- ---- the list of a chunk with one more event

list-push : (schema : Schema) (es : List Event) (e : Event) (k : ℤ) (b : Bool) → int_eq (chunk schema e) k ≡ b → chunk_list schema (es ++ e ∷ []) k ≡ chunk_list schema es k ++ cond b (e ∷ []) []
list-push schema es e k b h = filter-append (λ x. int_eq (chunk schema x) k) es (e ∷ []) ∙ ap (λ c. chunk_list schema es k ++ cond c (e ∷ []) []) h

pub own-list : (schema : Schema) (es : List Event) (e : Event) (k : ℤ) → int_eq (chunk schema e) k ≡ true → chunk_list schema (es ++ e ∷ []) k ≡ chunk_list schema es k ++ e ∷ []
own-list schema es e k h = list-push schema es e k true h

pub other-list : (schema : Schema) (es : List Event) (e : Event) (k : ℤ) → int_eq (chunk schema e) k ≡ false → chunk_list schema (es ++ e ∷ []) k ≡ chunk_list schema es k
other-list schema es e k h = list-push schema es e k false h ∙ append-nil (chunk_list schema es k)

-- another chunk holds what it held
pub holds-other : (schema : Schema) (es : List Event) (e : Event) (c : Chunk) → int_eq (chunk schema e) c.start ≡ false → Holds schema es c → Holds schema (es ++ e ∷ []) c
holds-other schema es e c h held =
    let same = sym (other-list schema es e c.start h) in
    record {
      events = held.events ∙ ap (λ (l : List Event). length l) same;
      tiled = held.tiled;
      sealed = subst (λ (l : List Event). AllByRecursion (λ s. s.fragment ≡ record { chunk = c.start; from = (range_of s).from; to = (range_of s).to; rows = rolled_up schema (events_of l (range_of s)) }) c.sealed) same held.sealed;
      open_range = held.open_range ∙ ap (λ (l : List Event). index_of schema (rolled_up schema (open_events l (ranges_of c)))) same;
    }

-- sealed ranges stay as they are
sealed-push : (schema : Schema) (k : ℤ) (l : List Event) (e : Event) (from : ℕ) (ss : List SealedRange) → Tile from (length l) (map range_of ss)
    → AllByRecursion (λ s. s.fragment ≡ record { chunk = k; from = (range_of s).from; to = (range_of s).to; rows = rolled_up schema (events_of l (range_of s)) }) ss
    → AllByRecursion (λ s. s.fragment ≡ record { chunk = k; from = (range_of s).from; to = (range_of s).to; rows = rolled_up schema (events_of (l ++ e ∷ []) (range_of s)) }) ss
sealed-push schema k l e from [] tiled h = tt
sealed-push schema k l e from (s ∷ ss) tiled h =
    let some : (range_of s).from < (range_of s).to = tiled.1 in
    let past : (range_of s).to ≤ end_from (range_of s).to (map range_of ss) = tile-start (range_of s).to (length l) (map range_of ss) tiled.2 in
    let within : end_from (range_of s).to (map range_of ss) ≤ length l = tile-end (range_of s).to (length l) (map range_of ss) tiled.2 in
    let same : events_of (l ++ e ∷ []) (range_of s) ≡ events_of l (range_of s) = events_of-push l e (range_of s) (omega arith) (omega arith) in (
      h.0 ∙ ap (λ (es : List Event). record { chunk = k; from = (range_of s).from; to = (range_of s).to; rows = rolled_up schema es }) (sym same),
      sealed-push schema k l e (range_of s).to ss tiled.2 h.1,
    )

-- the event's own chunk has one more row
pub holds-own : (schema : Schema) (es : List Event) (e : Event) (c : Chunk) → int_eq (chunk schema e) c.start ≡ true → Holds schema es c
    → Holds schema (es ++ e ∷ []) (with_one e c)
holds-own schema es e c h held =
    let l : List Event = chunk_list schema es c.start in
    let same : chunk_list schema (es ++ e ∷ []) c.start ≡ l ++ e ∷ [] = own-list schema es e c.start h in
    let tiled : Tile 0 (length l) (ranges_of c) = subst (λ (n : ℕ). Tile 0 n (ranges_of c)) held.events held.tiled in
    let open_at : open_from (ranges_of c) ≤ length l = tile-end 0 (length l) (ranges_of c) tiled in
    record {
      events = ap (λ (n : ℕ). n + 1) held.events ∙ sym (length-append l (e ∷ [])) ∙ ap (λ (m : List Event). length m) (sym same);
      tiled = tile-more 0 c.events (c.events + 1) (ranges_of c) (omega arith) held.tiled;
      sealed = subst (λ (m : List Event). AllByRecursion (λ s. s.fragment ≡ record { chunk = c.start; from = (range_of s).from; to = (range_of s).to; rows = rolled_up schema (events_of m (range_of s)) }) c.sealed) (sym same)
          (sealed-push schema c.start l e 0 c.sealed tiled held.sealed);
      open_range = ap (λ (x : OpenRows). with_rows x (rows_with x e)) held.open_range
          ∙ ap (index_of schema) (sym (rolled_up-push schema (open_events l (ranges_of c)) e)
          ∙ ap (rolled_up schema) (sym (drop-push l e (open_from (ranges_of c)) open_at) ∙ ap (λ (m : List Event). open_events m (ranges_of c)) (sym same)));
    }

-- ---- a seal

-- the open range becomes a sealed one
pub holds-sealed : (schema : Schema) (es : List Event) (serial : ℕ) (c : Chunk) → open_from (ranges_of c) < c.events → Holds schema es c → Holds schema es (with_open_sealed serial c)
unfolding rollup_onto
holds-sealed schema es serial c some held =
    let l : List Event = chunk_list schema es c.start in
    let new : SealedRange = record { serial = serial; version = 0; fragment = open_fragment c } in
    let from : ℕ = open_from (ranges_of c) in
    let ranges : map range_of (c.sealed ++ new ∷ []) ≡ ranges_of c ++ range_of new ∷ [] = map-append range_of c.sealed (new ∷ []) in
    let last : open_from (map range_of (c.sealed ++ new ∷ [])) ≡ c.events = ap (end_from 0) ranges ∙ end_from-append 0 (ranges_of c) (range_of new ∷ []) in
    let long : length (drop from l) ≡ length l - from = length-drop from l in
    let count : c.events ≡ length l = held.events in
    let all : take (c.events - from) (drop from l) ≡ drop from l = take_all (c.events - from) (drop from l) (omega arith) in
    let none : drop c.events l ≡ [] = ap (λ n. drop n l) count ∙ drop-length l in
    record {
      events = held.events;
      tiled = subst (λ (rs : List Range). Tile 0 c.events rs) (sym ranges) (tile-append 0 c.events (ranges_of c) (range_of new ∷ []) held.tiled (refl, some, le_itself c.events));
      sealed = All-push (λ s. s.fragment ≡ fragment_of schema es c.start (range_of s)) c.sealed new held.sealed
          (ap (λ (rs : List Row). record { chunk = c.start; from = from; to = c.events; rows = rs }) (ap (λ (x : OpenRows). x.rows) held.open_range ∙ ap (rolled_up schema) (sym all)));
      open_range = ap (λ (x : OpenRows). with_rows x []) held.open_range ∙ ap (λ (m : List Event). index_of schema (rolled_up schema m)) (sym (ap (λ (n : ℕ). drop n l) last ∙ none));
    }
  where
    drop-length : {A : Type 0} (xs : List A) → drop (length xs) xs ≡ []
    drop-length [] = refl
    drop-length (x ∷ xs) = drop-length xs

    le_itself : (n : ℕ) → n ≤ n
    le_itself n = omega arith

-- ---- a merge

-- the rollups of adjacent ranges are joined to that of the range from the first to the last
pub join-rolled_up : (schema : Schema) (l : List Event) (rs : List Range) → join schema.rollup (kinds_of schema) (map (λ r. rolled_up schema (events_of l r)) rs) ≡ rolled_up schema (flat_map (events_of l) rs)
join-rolled_up schema l rs =
    ap (join schema.rollup (kinds_of schema)) (lists rs)
    ∙ sym (rollup-all_rows schema.rollup (kinds_of schema) (map (λ r. map (unrolled schema) (events_of l r)) rs))
    ∙ ap (rollup schema.rollup (kinds_of schema)) (rows rs)
  where
    lists : (rs : List Range) → map (λ r. rolled_up schema (events_of l r)) rs ≡ map (rollup schema.rollup (kinds_of schema)) (map (λ r. map (unrolled schema) (events_of l r)) rs)
    lists [] = refl
    lists (r ∷ rs) = ap (λ ls. rolled_up schema (events_of l r) ∷ ls) (lists rs)

    rows : (rs : List Range) → all_rows (map (λ r. map (unrolled schema) (events_of l r)) rs) ≡ map (unrolled schema) (flat_map (events_of l) rs)
    rows [] = refl
    rows (r ∷ rs) = ap (λ ls. map (unrolled schema) (events_of l r) ++ ls) (rows rs) ∙ sym (map-append (unrolled schema) (events_of l r) (flat_map (events_of l) rs))

-- each sealed range has the rollup of its events
abbrev HasRollup : Schema → ℤ → List Event → SealedRange → Type 0
HasRollup schema k l s = s.fragment ≡ record { chunk = k; from = (range_of s).from; to = (range_of s).to; rows = rolled_up schema (events_of l (range_of s)) }

abbrev Fragments_are : Schema → ℤ → List Event → List SealedRange → Type 0
Fragments_are schema k l ss = AllByRecursion (HasRollup schema k l) ss

lt-same : {a b x y : ℕ} → a ≡ x → b ≡ y → x < y → a < b
lt-same p q lt = omega arith

input-rows : (schema : Schema) (k : ℤ) (l : List Event) (ss : List SealedRange) → Fragments_are schema k l ss
    → map (λ f. f.rows) (map (λ s. s.fragment) ss) ≡ map (λ r. rolled_up schema (events_of l r)) (map range_of ss)
input-rows schema k l [] h = refl
input-rows schema k l (s ∷ ss) h = λ i. (h.0 i).rows ∷ input-rows schema k l ss h.1 i

last-input : (to : ℕ) (ss : List SealedRange) → fold (λ to f. f.to) to (map (λ s. s.fragment) ss) ≡ end_from to (map range_of ss)
last-input to [] = refl
last-input to (s ∷ ss) = last-input s.fragment.to ss

-- what adjacent sealed ranges are joined to is the fragment of the range from the first to the last
pub joined-is : (schema : Schema) (k : ℤ) (l : List Event) (from : ℕ) (s : SealedRange) (ss : List SealedRange) → Tile from (length l) (map range_of (s ∷ ss)) → Fragments_are schema k l (s ∷ ss)
    → joined schema k (map (λ s. s.fragment) (s ∷ ss))
    ≡ record { chunk = k; from = s.fragment.from; to = end_from s.fragment.to (map range_of ss); rows = rolled_up schema (take (end_from s.fragment.to (map range_of ss) - s.fragment.from) (drop s.fragment.from l)) }
joined-is schema k l from s ss tiled h =
    let at : Tile s.fragment.from (length l) (map range_of (s ∷ ss)) = (refl, tiled.1, tiled.2) in
    let rows = ap (join schema.rollup (kinds_of schema)) (input-rows schema k l (s ∷ ss) h) ∙ join-rolled_up schema l (map range_of (s ∷ ss)) ∙ ap (rolled_up schema) (joined-events l s.fragment.from (map range_of (s ∷ ss)) at) in
    let end = last-input s.fragment.to ss in
    λ i. record { chunk = k; from = s.fragment.from; to = end i; rows = rows i }

-- the joined range in the place of adjacent sealed ones
pub holds-replaced : (schema : Schema) (es : List Event) (c : Chunk) (before : List SealedRange) (s : SealedRange) (ss after : List SealedRange) (new : SealedRange) (publications : ℕ)
    → c.sealed ≡ before ++ ((s ∷ ss) ++ after) → Holds schema es c
    → new.fragment ≡ joined schema c.start (map (λ s. s.fragment) (s ∷ ss))
    → Holds schema es (record c { sealed = before ++ (new ∷ after); publications = publications }) × (open_from (map range_of (before ++ (new ∷ after))) ≡ open_from (ranges_of c))
holds-replaced schema es c before s ss after new publications parts held is =
    let l : List Event = chunk_list schema es c.start in
    let inner : List SealedRange = s ∷ ss in
    let ranges : ranges_of c ≡ map range_of before ++ (map range_of inner ++ map range_of after) = ap (map range_of) parts ∙ map-append range_of before (inner ++ after) ∙ ap (λ rs. map range_of before ++ rs) (map-append range_of inner after) in
    let tiled : Tile 0 c.events (map range_of before ++ (map range_of inner ++ map range_of after)) = subst (λ (rs : List Range). Tile 0 c.events rs) ranges held.tiled in
    let at : ℕ = end_from 0 (map range_of before) in
    let tiled_before : Tile 0 c.events (map range_of before) = tile-left 0 c.events (map range_of before) (map range_of inner ++ map range_of after) tiled in
    let tiled_rest : Tile at c.events (map range_of inner ++ map range_of after) = tile-right 0 c.events (map range_of before) (map range_of inner ++ map range_of after) tiled in
    let tiled_inner : Tile at c.events (map range_of inner) = tile-left at c.events (map range_of inner) (map range_of after) tiled_rest in
    let tiled_after : Tile (end_from at (map range_of inner)) c.events (map range_of after) = tile-right at c.events (map range_of inner) (map range_of after) tiled_rest in
    let some = tile-some at c.events (range_of s) (map range_of ss) tiled_inner in
    let held_parts : Fragments_are schema c.start l (before ++ (inner ++ after)) = subst (λ (xs : List SealedRange). Fragments_are schema c.start l xs) parts held.sealed in
    let held_rest : Fragments_are schema c.start l (inner ++ after) = All-right (HasRollup schema c.start l) before (inner ++ after) held_parts in
    let new_is = is ∙ joined-is schema c.start l at s ss (subst (λ (n : ℕ). Tile at n (map range_of inner)) held.events tiled_inner) (All-left (HasRollup schema c.start l) inner after held_rest) in
    let new_from : new.fragment.from ≡ at = ap (λ (f : Fragment). f.from) new_is ∙ some.0 in
    let new_to : new.fragment.to ≡ end_from at (map range_of inner) = ap (λ (f : Fragment). f.to) new_is in
    let new_some : new.fragment.from < new.fragment.to = lt-same new_from new_to some.1 in
    let new_ranges : map range_of (before ++ (new ∷ after)) ≡ map range_of before ++ (range_of new ∷ map range_of after) = map-append range_of before (new ∷ after) in
    let end : open_from (map range_of (before ++ (new ∷ after))) ≡ open_from (ranges_of c) =
    ap (end_from 0) new_ranges ∙ end_from-append 0 (map range_of before) (range_of new ∷ map range_of after) ∙ ap (λ (n : ℕ). end_from n (map range_of after)) new_to
    ∙ sym (ap (end_from 0) ranges ∙ end_from-append 0 (map range_of before) (map range_of inner ++ map range_of after) ∙ end_from-append at (map range_of inner) (map range_of after)) in
    let new_fragment : new.fragment ≡ fragment_of schema es c.start (range_of new) =
    new_is ∙ ap (λ (p : ℕ × ℕ). record { chunk = c.start; from = p.0; to = p.1; rows = rolled_up schema (take (p.1 - p.0) (drop p.0 l)) })
    (λ i. (ap (λ (f : Fragment). f.from) (sym new_is) i, ap (λ (f : Fragment). f.to) (sym new_is) i)) in (
      record {
        events = held.events;
        tiled = subst (λ (rs : List Range). Tile 0 c.events rs) (sym new_ranges)
            (tile-append 0 c.events (map range_of before) (range_of new ∷ map range_of after) tiled_before
            (new_from, new_some, subst (λ (n : ℕ). Tile n c.events (map range_of after)) (sym new_to) tiled_after));
        sealed = All-append (HasRollup schema c.start l) before (new ∷ after) (All-left (HasRollup schema c.start l) before (inner ++ after) held_parts) (new_fragment, All-right (HasRollup schema c.start l) inner after held_rest);
        open_range = held.open_range ∙ ap (λ (n : ℕ). index_of schema (rolled_up schema (drop n l))) (sym end);
      },
      end,
    )
