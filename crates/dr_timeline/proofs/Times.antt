-- The times of the rows over cuts of events: each is a time, and their span is that of the events.
use Rattle.std.proofs.Common.{◌≡◌, ◌∙◌, refl, ℤ, ◌≤ℤ◌, Bool, true, false, not, List, [], ◌∷◌, map, fold, Option, Some, None, IfSome, ◌&&◌, arith}
use Rattle.std.specs.Prelude.{int_le}
use Rattle.std.specs.List.{list_any, AllByRecursion}
use Rattle.std.proofs.lemmas.Bool.{or_parts, or_from}
use Rattle.std.proofs.lemmas.Int.{ints, clamps}
use Rattle.std.specs.Int.{int_min, int_max}
use Rattle.dr_base.specs.declared.event.Event.{Event}
use Rattle.dr_base.specs.declared.key.Key.{Key}
use Rattle.dr_base.specs.declared.row.Row.{Row}
use Rattle.dr_time.specs.Instant.{IsInstant, first_instant, last_instant}
use Rattle.dr_gran.specs.Truncation.{truncation}
use Rattle.dr_gran.proofs.TruncationLemmas.{truncation_bounds}
use Rattle.dr_schema.specs.declared.schema.Schema.{Schema}
use Rattle.dr_schema.specs.Fits.{FitsSchema}
use Rattle.dr_rollup.specs.Unrolled.{unrolled}
use Rattle.dr_answers.specs.Span.{wider, span}
use Rattle.dr_answers.proofs.Spans.{same_span}
use Rattle.dr_cuts.specs.State.{Cut, AreCuts}
use Rattle.dr_cuts.proofs.CutRows.{cut_rows}
use Rattle.dr_cuts.proofs.Matching.{keys-cut_rows}

-- ---- the times of rows

abbrev pub AtInstants : List Row → Type 0
AtInstants rows = AllByRecursion (λ r. IsInstant r.key.time) rows

-- a time before the first or past the last
abbrev is_outside : Key → Bool
is_outside k = not (int_le first_instant k.time && int_le k.time last_instant)

inside : (t : ℤ) (a b : Bool) → int_le first_instant t ≡ a → int_le t last_instant ≡ b → not (a && b) ≡ false → IsInstant t
inside t true true low high h = (omega (arith, ints), omega (arith, ints))
inside t true false low high h = absurd (cc)
inside t false b low high h = absurd (cc)

int_le-true : (a b : ℤ) → a ≤ℤ b → int_le a b ≡ true
int_le-true a b h = at (int_le a b) refl
  where
    at : (x : Bool) → int_le a b ≡ x → int_le a b ≡ true
    at true e = e
    at false e = absurd (omega (arith, ints, h))

not_outside : (t : ℤ) → IsInstant t → (not (int_le first_instant t && int_le t last_instant)) ≡ false
not_outside t h =
    let low = int_le-true first_instant t h.0 in
    let high = int_le-true t last_instant h.1 in
    λ i. not (low i && high i)

all-inside : (rows : List Row) → list_any (λ r. is_outside r.key) rows ≡ false → AtInstants rows
all-inside [] h = tt
all-inside (r ∷ rows) h =
    let parts = or_parts (is_outside r.key) (list_any (λ x. is_outside x.key) rows) h in
    (inside r.key.time _ _ refl refl parts.0, all-inside rows parts.1)

none-outside : (rows : List Row) → AtInstants rows → list_any (λ r. is_outside r.key) rows ≡ false
none-outside [] h = refl
none-outside (r ∷ rows) h = or_from (is_outside r.key) (list_any (λ x. is_outside x.key) rows) (not_outside r.key.time h.0) (none-outside rows h.1)

-- events that fit the schema, each as a row of its own
pub times-unrolled : (schema : Schema) (es : List Event) → AllByRecursion (FitsSchema schema) es → AtInstants (map (unrolled schema) es)
times-unrolled schema [] h = tt
times-unrolled schema (e ∷ es) h =
    let bounds = truncation_bounds schema.query_granularity e.time (truncation schema.query_granularity e.time) h.0.time refl in
    ((bounds.0, omega (arith, ints, bounds.1, h.0.time.1)), times-unrolled schema es h.1)

pub times-cut_rows : (schema : Schema) (es : List Event) (cuts : List Cut) → AreCuts schema es cuts → AllByRecursion (FitsSchema schema) es → AtInstants (cut_rows schema es cuts)
times-cut_rows schema es cuts are fit =
    all-inside (cut_rows schema es cuts) (keys-cut_rows schema es cuts are is_outside ∙ none-outside (map (unrolled schema) es) (times-unrolled schema es fit))

-- ---- their span

abbrev pub EndsAtInstants : Option (ℤ × ℤ) → Type 0
EndsAtInstants span = IfSome span (λ s. IsInstant s.0 × IsInstant s.1)

least : (a b : ℤ) → IsInstant a → IsInstant b → IsInstant (int_min a b)
least a b p q = (omega (arith, ints, clamps, p.0, q.0), omega (arith, ints, clamps, p.1, q.1))

greatest : (a b : ℤ) → IsInstant a → IsInstant b → IsInstant (int_max a b)
greatest a b p q = (omega (arith, ints, clamps, p.0, q.0), omega (arith, ints, clamps, p.1, q.1))

pub wider-ends : (s : Option (ℤ × ℤ)) (t : ℤ) → EndsAtInstants s → IsInstant t → EndsAtInstants (wider s (Some (t, t)))
wider-ends None t h p = (p, p)
wider-ends (Some s) t h p = (least s.0 t h.0 p, greatest s.1 t h.1 p)

ends-from : (s : Option (ℤ × ℤ)) (rows : List Row) → EndsAtInstants s → AtInstants rows → EndsAtInstants (fold wider s (map (λ r. Some (r.key.time, r.key.time)) rows))
ends-from s [] h all = h
ends-from s (r ∷ rows) h all = ends-from (wider s (Some (r.key.time, r.key.time))) rows (wider-ends s r.key.time h all.0) all.1

pub ends-unrolled : (schema : Schema) (es : List Event) → AllByRecursion (FitsSchema schema) es → EndsAtInstants (span (map (unrolled schema) es))
ends-unrolled schema es fit = ends-from None (map (unrolled schema) es) tt (times-unrolled schema es fit)

pub span-cut_rows : (schema : Schema) (es : List Event) (cuts : List Cut) → AreCuts schema es cuts → span (cut_rows schema es cuts) ≡ span (map (unrolled schema) es)
span-cut_rows schema es cuts are = same_span (cut_rows schema es cuts) (map (unrolled schema) es) (keys-cut_rows schema es cuts are)
