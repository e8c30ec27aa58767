-- The rows over cuts of events: what is combined from all of them is what is combined from the events, each as a row of its own.
use Rattle.std.proofs.Common.{◌≡◌, ◌∙◌, sym, refl, ap, ℤ, true, false, ℕ, ◌-◌, ◌≤◌, List, [], ◌∷◌, ◌++◌, length, take, drop, nat_lt, map, cond, arith}
use Rattle.std.proofs.lemmas.List.{append-nil, take_all, drop_all, length-drop}
use Rattle.std.proofs.lemmas.List.Concat.{flat_map-append}
use Rattle.std.proofs.lemmas.Bool.Decides.{nat_tests}
use Rattle.std.specs.List.{flat_map, AllByRecursion}
use Rattle.dr_base.specs.declared.event.Event.{Event}
use Rattle.dr_base.specs.declared.row.Row.{Row}
use Rattle.dr_schema.specs.declared.schema.Schema.{Schema}
use Rattle.dr_schema.specs.Columns.{kinds_of}
use Rattle.dr_rollup.specs.Unrolled.{unrolled, rolled_up}
use Rattle.dr_cuts.specs.Chunks.{chunk, chunk_list, chunks}
use Rattle.dr_cuts.specs.State.{Range, Cut, AreCuts, IsTiled, events_of, open_from}
use Rattle.dr_cuts.specs.Segments.{events_in, infos, infos_of_cut, sealed_info, open_info, rows_over}
use Rattle.dr_cuts.proofs.Each.{All-same}
use Rattle.dr_cuts.proofs.Tiles.{tiled-events}
use Rattle.dr_cuts.proofs.Totals.{Combines, total, total-map, total-flat_map, total-same, total-rollup, Joins}
use Rattle.dr_cuts.proofs.Parts.{total-parts, rising-values, Covers-values_onto}

-- the rows over cuts
abbrev pub cut_rows : Schema → List Event → List Cut → List Row
cut_rows schema es cuts = rows_over schema es (infos schema es cuts)

-- ---- the events of the ranges of a cut are those of its chunk

events-sealed : (schema : Schema) (es : List Event) (k : ℤ) (rs : List Range) → flat_map (events_in schema es) (map (sealed_info schema es k) rs) ≡ flat_map (events_of (chunk_list schema es k)) rs
events-sealed schema es k [] = refl
events-sealed schema es k (r ∷ rs) = ap (λ l. events_of (chunk_list schema es k) r ++ l) (events-sealed schema es k rs)

events-open : (schema : Schema) (es : List Event) (k : ℤ) (from : ℕ)
    → flat_map (events_in schema es) (cond (nat_lt from (length (chunk_list schema es k))) (open_info schema es k from ∷ []) []) ≡ drop from (chunk_list schema es k)
events-open schema es k from =
    let l : List Event = chunk_list schema es k in
    let long : length (drop from l) ≡ length l - from = length-drop from l in
    elim (nat_lt from (length l)) as (λ b. nat_lt from (length l) ≡ b → flat_map (events_in schema es) (cond b (open_info schema es k from ∷ []) []) ≡ drop from l) [
      | true ↦ λ h. append-nil (take (length l - from) (drop from l)) ∙ take_all (length l - from) (drop from l) (omega arith)
      | false ↦ λ h. let past : length l ≤ from = grind (arith, nat_tests) in sym (drop_all from l past)
    ] refl

events-of_cut : (schema : Schema) (es : List Event) (cut : Cut) → IsTiled schema es cut → flat_map (events_in schema es) (infos_of_cut schema es cut) ≡ chunk_list schema es cut.chunk
events-of_cut schema es cut tiled =
    let l : List Event = chunk_list schema es cut.chunk in
    flat_map-append (events_in schema es) (map (sealed_info schema es cut.chunk) cut.sealed) _
    ∙ (λ i. events-sealed schema es cut.chunk cut.sealed i ++ events-open schema es cut.chunk (open_from cut.sealed) i)
    ∙ tiled-events l 0 cut.sealed tiled

-- ---- a total over the rows of cuts is that over the raw events

total-each : {A M : Type 0} (op : M → M → M) (e : M) (f g : A → M) (xs : List A) → AllByRecursion (λ x. f x ≡ g x) xs → total op e f xs ≡ total op e g xs
total-each op e f g [] h = refl
total-each op e f g (x ∷ xs) h = λ i. op (h.0 i) (total-each op e f g xs h.1 i)

total-of_cut : {M : Type 0} {op : M → M → M} {e : M} (k : Combines op e) (f : Row → M) (schema : Schema) → (schema.rollup ≡ true → Joins op (kinds_of schema) f) → (es : List Event) (cut : Cut) → IsTiled schema es cut
    → total op e (λ r. total op e f (rolled_up schema (events_in schema es r))) (infos_of_cut schema es cut) ≡ total op e (λ x. f (unrolled schema x)) (chunk_list schema es cut.chunk)
total-of_cut {op = op} {e = e} k f schema law es cut tiled =
    let u : Event → Row = unrolled schema in
    total-same op e _ _ (λ r. total-rollup k f schema.rollup (kinds_of schema) law (map u (events_in schema es r)) ∙ total-map op e f u (events_in schema es r)) (infos_of_cut schema es cut)
    ∙ sym (total-flat_map k (λ x. f (u x)) (events_in schema es) (infos_of_cut schema es cut))
    ∙ ap (total op e (λ x. f (u x))) (events-of_cut schema es cut tiled)

pub total-cut_rows : {M : Type 0} {op : M → M → M} {e : M} (k : Combines op e) (f : Row → M) (schema : Schema) → (schema.rollup ≡ true → Joins op (kinds_of schema) f) → (es : List Event) (cuts : List Cut) → AreCuts schema es cuts
    → total op e f (cut_rows schema es cuts) ≡ total op e f (map (unrolled schema) es)
total-cut_rows {op = op} {e = e} k f schema law es cuts are =
    let u : Event → Row = unrolled schema in
    total-flat_map k f (λ r. rolled_up schema (events_in schema es r)) (infos schema es cuts)
    ∙ total-flat_map k (λ r. total op e f (rolled_up schema (events_in schema es r))) (infos_of_cut schema es) cuts
    ∙ total-each op e _ (λ c. total op e (λ x. f (u x)) (chunk_list schema es c.chunk)) cuts
    (All-same (IsTiled schema es) _ (λ c. total-of_cut k f schema law es c) cuts are.tiled)
    ∙ sym (total-map op e (λ j. total op e (λ x. f (u x)) (chunk_list schema es j)) (λ c. c.chunk) cuts)
    ∙ ap (total op e (λ j. total op e (λ x. f (u x)) (chunk_list schema es j))) are.chunks
    ∙ total-parts k (chunk schema) (λ x. f (u x)) (chunks schema es) es (rising-values (chunk schema) es) (Covers-values_onto (chunk schema) [] es)
    ∙ sym (total-map op e f u es)
