-- The span of truncated times is that of the times, truncated.
use Rattle.std.proofs.Common.{◌≡◌, ◌∙◌, sym, refl, ap, ℤ, ◌≤ℤ◌, Bool, true, false, List, [], ◌∷◌, map, Option, Some, None, arith}
use Rattle.std.specs.Prelude.{int_le}
use Rattle.std.specs.List.{fold, AllByRecursion}
use Rattle.std.specs.Int.{int_min, int_max}
use Rattle.std.proofs.lemmas.Int.{ints, clamps}
use Rattle.dr_base.specs.declared.event.Event.{Event}
use Rattle.dr_time.specs.Instant.{IsInstant}
use Rattle.dr_gran.specs.declared.gran.Gran.{Gran}
use Rattle.dr_gran.specs.Truncation.{truncation}
use Rattle.dr_gran.proofs.TruncationLemmas.{IsTruncation-truncation}
use Rattle.dr_schema.specs.declared.schema.Schema.{Schema}
use Rattle.dr_schema.specs.Fits.{FitsSchema}
use Rattle.dr_rollup.specs.Unrolled.{unrolled}
use Rattle.dr_answers.specs.Span.{wider, span}
use Rattle.dr_chunks.specs.Times.{times}
use Rattle.dr_timeline.proofs.Times.{EndsAtInstants, wider-ends}

-- ---- truncation keeps the order of times

rises : (g : Gran) (t u : ℤ) → IsInstant t → IsInstant u → t ≤ℤ u → truncation g t ≤ℤ truncation g u
rises g t u a b h =
    let low = IsTruncation-truncation g t (omega (arith, ints, a.0)) in
    (IsTruncation-truncation g u (omega (arith, ints, b.0))).greatest (truncation g t) low.starts (omega (arith, ints, low.not_after, h))

least-truncated : (g : Gran) (t u : ℤ) → IsInstant t → IsInstant u → int_min (truncation g t) (truncation g u) ≡ truncation g (int_min t u)
least-truncated g t u a b = at (int_le t u) refl
  where
    at : (x : Bool) → int_le t u ≡ x → int_min (truncation g t) (truncation g u) ≡ truncation g (int_min t u)
    at true e =
        let h : t ≤ℤ u = omega (arith, ints) in
        let r = rises g t u a b h in
        let is : int_min t u ≡ t = omega (arith, ints, clamps) in
        let first : int_min (truncation g t) (truncation g u) ≡ truncation g t = omega (arith, ints, clamps) in
        first ∙ ap (truncation g) (sym is)
    at false e =
        let h : u ≤ℤ t = omega (arith, ints) in
        let r = rises g u t b a h in
        let is : int_min t u ≡ u = omega (arith, ints, clamps) in
        let first : int_min (truncation g t) (truncation g u) ≡ truncation g u = omega (arith, ints, clamps) in
        first ∙ ap (truncation g) (sym is)

greatest-truncated : (g : Gran) (t u : ℤ) → IsInstant t → IsInstant u → int_max (truncation g t) (truncation g u) ≡ truncation g (int_max t u)
greatest-truncated g t u a b = at (int_le t u) refl
  where
    at : (x : Bool) → int_le t u ≡ x → int_max (truncation g t) (truncation g u) ≡ truncation g (int_max t u)
    at true e =
        let h : t ≤ℤ u = omega (arith, ints) in
        let r = rises g t u a b h in
        let is : int_max t u ≡ u = omega (arith, ints, clamps) in
        let first : int_max (truncation g t) (truncation g u) ≡ truncation g u = omega (arith, ints, clamps) in
        first ∙ ap (truncation g) (sym is)
    at false e =
        let h : u ≤ℤ t = omega (arith, ints) in
        let r = rises g u t b a h in
        let is : int_max t u ≡ t = omega (arith, ints, clamps) in
        let first : int_max (truncation g t) (truncation g u) ≡ truncation g t = omega (arith, ints, clamps) in
        first ∙ ap (truncation g) (sym is)

-- ---- a span, truncated

abbrev pub span_truncated : Gran → Option (ℤ × ℤ) → Option (ℤ × ℤ)
span_truncated g None = None
span_truncated g (Some s) = Some (truncation g s.0, truncation g s.1)

wider-truncated : (g : Gran) (s : Option (ℤ × ℤ)) (t : ℤ) → EndsAtInstants s → IsInstant t
    → wider (span_truncated g s) (Some (truncation g t, truncation g t)) ≡ span_truncated g (wider s (Some (t, t)))
wider-truncated g None t h p = refl
wider-truncated g (Some s) t h p = λ i. Some (least-truncated g s.0 t h.0 p i, greatest-truncated g s.1 t h.1 p i)

abbrev time_of : Event → Option (ℤ × ℤ)
time_of e = Some (e.time, e.time)

ends-on : (schema : Schema) (s : Option (ℤ × ℤ)) (es : List Event) → EndsAtInstants s → AllByRecursion (FitsSchema schema) es → EndsAtInstants (fold wider s (map time_of es))
ends-on schema s [] h fit = h
ends-on schema s (e ∷ es) h fit = ends-on schema (wider s (Some (e.time, e.time))) es (wider-ends s e.time h fit.0.time) fit.1

-- the times of events that fit the schema
pub ends-times : (schema : Schema) (es : List Event) → AllByRecursion (FitsSchema schema) es → EndsAtInstants (times es)
ends-times schema es fit = ends-on schema None es tt fit

span-on : (schema : Schema) (s : Option (ℤ × ℤ)) (es : List Event) → EndsAtInstants s → AllByRecursion (FitsSchema schema) es
    → fold wider (span_truncated schema.query_granularity s) (map (λ r. Some (r.key.time, r.key.time)) (map (unrolled schema) es)) ≡ span_truncated schema.query_granularity (fold wider s (map time_of es))
span-on schema s [] h fit = refl
span-on schema s (e ∷ es) h fit =
    ap (λ (from : Option (ℤ × ℤ)). fold wider from (map (λ r. Some (r.key.time, r.key.time)) (map (unrolled schema) es))) (wider-truncated schema.query_granularity s e.time h fit.0.time)
    ∙ span-on schema (wider s (Some (e.time, e.time))) es (wider-ends s e.time h fit.0.time) fit.1

pub span-times : (schema : Schema) (es : List Event) → AllByRecursion (FitsSchema schema) es → span (map (unrolled schema) es) ≡ span_truncated schema.query_granularity (times es)
span-times schema es fit = span-on schema None es tt fit
