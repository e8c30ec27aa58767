-- The fragment that the inputs of a job are joined to has an image.
use Rattle.std.proofs.Common.{◌≡◌, sym, subst, refl, ℕ, ℤ, ◌-◌, ◌^◌, ◌<◌, ◌≤◌, Bool, false, List, [], ◌∷◌, ◌++◌, length, map, length-append, arith}
use Rattle.std.specs.Prelude.{fold}
use Rattle.std.specs.List.{AllByRecursion}
use Rattle.std.proofs.lemmas.List.Elements.{recursion_from_All}
use Rattle.dr_base.specs.declared.row.Row.{Row}
use Rattle.dr_time.specs.Instant.{IsInstant}
use Rattle.dr_agg.specs.Rollup.{all_rows, join}
use Rattle.dr_schema.specs.Columns.{kinds_of}
use Rattle.dr_schema.specs.declared.schema.Schema.{Schema}
use Rattle.dr_image.specs.Sealed.{HasImage, IsRowOf}
use Rattle.dr_segment.specs.Encoding.{sealed}
use Rattle.dr_fragment.specs.declared.fragment.Fragment.{Fragment}
use Rattle.dr_merge.specs.declared.job.Job.{Job}
use Rattle.dr_merge.specs.Joined.{first_from, last_to, sealed_fragment, AreAdjacent, IsJobOf, joined_fragment}
use Rattle.dr_merge.proofs.Rolled.{frame, in_frame, all_in, IsFramed, rollup_has_image}

abbrev pub HasImages : Schema → List Fragment → Type 0
HasImages schema fs = AllByRecursion (λ f. HasImage (sealed_fragment schema f)) fs

abbrev pub rows_in : List Fragment → List (List Row)
rows_in fs = map (λ f. f.rows) fs

abbrev pub rows_joined : Schema → List Fragment → List Row
rows_joined schema fs = join schema.rollup (kinds_of schema) (rows_in fs)

-- how many rows adjacent fragments have, and where they end
abbrev pub Spans : Bool → ℕ → ℕ → ℕ → Type 0
Spans combines from to rows = (1 ≤ rows) × (rows ≤ to - from) × (combines ≡ false → rows ≡ to - from)

unfoldable end_of : ℕ → List Fragment → ℕ
end_of to fs = fold (λ t f. f.to) to fs

spans : (schema : Schema) (f : Fragment) (fs : List Fragment) → AreAdjacent (f ∷ fs) → HasImages schema (f ∷ fs) → Spans schema.rollup f.from (end_of f.to fs) (length (all_rows (rows_in (f ∷ fs))))
unfolding end_of
spans schema f [] near has =
    let one = has.0 in
    let long = length-append f.rows [] in
    (omega (arith, one.some_row, long), omega (arith, one.few_rows, long), λ apart. omega (arith, one.each_event apart, long))
spans schema f (g ∷ fs) near has =
    let one = has.0 in
    let more = spans schema g fs near.1 has.1 in
    let long = length-append f.rows (all_rows (rows_in (g ∷ fs))) in
    (omega (arith, one.some_row, long), omega (arith, one.some_row, one.few_rows, more.0, more.1, near.0, long), λ apart. omega (arith, one.some_row, one.each_event apart, more.0, more.1, more.2 apart, near.0, long))

end_fits : (schema : Schema) (f : Fragment) (fs : List Fragment) → HasImages schema (f ∷ fs) → end_of f.to fs < 2 ^ 64
unfolding end_of
end_fits schema f [] has = has.0.to_fits
end_fits schema f (g ∷ fs) has = end_fits schema g fs has.1

pub all-append : {A : Type 0} (P : A → Type 0) (xs ys : List A) → AllByRecursion P xs → AllByRecursion P ys → AllByRecursion P (xs ++ ys)
all-append P [] ys px py = py
all-append P (x ∷ xs) ys px py = (px.0, all-append P xs ys px.1 py)

-- the rows of a fragment that has an image are of the schema and the chunk
rows_framed : (schema : Schema) (k : ℤ) (f : Fragment) → f.chunk ≡ k → HasImage (sealed_fragment schema f) → AllByRecursion (IsRowOf (frame schema k)) f.rows
rows_framed schema k f in_chunk has =
    subst (λ c. AllByRecursion (IsRowOf (frame schema c)) f.rows) in_chunk
    (all_in (IsRowOf (sealed_fragment schema f)) (IsRowOf (frame schema f.chunk)) (in_frame schema f.chunk f.from f.to f.rows) f.rows (recursion_from_All (IsRowOf (sealed_fragment schema f)) f.rows has.rows))

all_framed : (schema : Schema) (k : ℤ) (fs : List Fragment) → AllByRecursion (λ f. f.chunk ≡ k) fs → HasImages schema fs → AllByRecursion (IsRowOf (frame schema k)) (all_rows (rows_in fs))
all_framed schema k [] in_chunk has = tt
all_framed schema k (f ∷ fs) in_chunk has =
    all-append (IsRowOf (frame schema k)) f.rows (all_rows (rows_in fs)) (rows_framed schema k f in_chunk.0 has.0) (all_framed schema k fs in_chunk.1 has.1)

some-join : (schema : Schema) (k : ℤ) (f : Fragment) (fs : List Fragment) → AllByRecursion (λ f. f.chunk ≡ k) (f ∷ fs) → AreAdjacent (f ∷ fs) → HasImages schema (f ∷ fs)
    → (to : ℕ) → to ≡ end_of f.to fs → HasImage (sealed schema k f.from to (rows_joined schema (f ∷ fs)))
some-join schema k f fs in_chunk near has to e =
    let one = has.0 in
    let long = spans schema f fs near has in
    let framed : IsFramed schema k f.from to = record {
      some_dimension = one.some_dimension;
      few_dimensions = one.few_dimensions;
      few_metrics = one.few_metrics;
      chunk = subst IsInstant in_chunk.0 one.chunk;
      from_fits = one.from_fits;
      to_fits = subst (λ n. n < 2 ^ 64) (sym e) (end_fits schema f fs has);
    } in
    rollup_has_image schema k f.from to (all_rows (rows_in (f ∷ fs))) framed long.0 (subst (λ n. length (all_rows (rows_in (f ∷ fs))) ≤ n - f.from) (sym e) long.1)
    (λ apart. subst (λ n. length (all_rows (rows_in (f ∷ fs))) ≡ n - f.from) (sym e) (long.2 apart)) (all_framed schema k (f ∷ fs) in_chunk has)

joined_any : (schema : Schema) (k : ℤ) (fs : List Fragment) → 0 < length fs → AllByRecursion (λ f. f.chunk ≡ k) fs → AreAdjacent fs → HasImages schema fs → HasImage (sealed schema k (first_from fs) (last_to fs) (rows_joined schema fs))
unfolding end_of
joined_any schema k [] some in_chunk near has = absurd (omega arith)
joined_any schema k (f ∷ fs) some in_chunk near has = some-join schema k f fs in_chunk near has (end_of f.to fs) refl

pub joined_has_image : (schema : Schema) (job : Job) → IsJobOf schema job → HasImage (sealed_fragment schema (joined_fragment schema job))
joined_has_image schema job is = joined_any schema job.chunk job.inputs is.some is.chunk is.adjacent is.images
