use Rattle.std.proofs.Common.{◌≡◌, ◌∙◌, ℕ, ◌+◌, ◌≤◌, ◌≤ℤ◌, ◌<ℤ◌, inl, inr, map, ap, sym, subst, pos, get_or, arith, rules, FitsSigned, w64}
use Rattle.std.proofs.lemmas.Int.{to_z-of_z}
use Rattle.std.proofs.lemmas.Bool.{cases_lt}
use Rattle.dr_time.specs.Instant.{IsInstant, first_instant}
use Rattle.dr_image.specs.Words.{long}
use Rattle.dr_ask.specs.Asked.{asked}
use Rattle.dr_answers.specs.Groups.{bucket}
use Rattle.dr_columns.specs.Rows.{key_at}
use Rattle.dr_columns.proofs.ValueLemmas.{key-time}
use Rattle.dr_columns.proofs.RunLemmas.{lies-same, spanned, time-bounds}
use Rattle.dr_columns.proofs.runs.run_end.Goals as goal

cases_eq' : {P : Type 0} (from i : ℕ) → from ≤ i → (from ≡ i → P) → (from + 1 ≤ i → P) → P
cases_eq' from i le same more = elim (cases_lt from i) [ inl lt ↦ more (omega (arith, lt)) | inr ge ↦ same (omega (arith, le, ge)) ]

pub returns-then-lies_between-2-clause-same : goal.returns-then-lies_between-2-clause-same
returns-then-lies_between-2-clause-same c = λ i le lt.
    let t = c.args.view.now in
    let q = asked c.args.query.now in
    let f : FitsSigned w64 c.truncate-start.result = search rules in
    let g : FitsSigned w64 c.bucket_end-end.result = search rules in
    let h : FitsSigned w64 c.min_time.result = search rules in
    let k : FitsSigned w64 c.max_time.result = search rules in
    let m : FitsSigned w64 c.time_at-time.result = search rules in
    let low = simp to_z-of_z at (sym c.lies_between.ensures ∙ c.if-lies_between.true) in
    let high = simp to_z-of_z at (sym c.lies_between-then-lies_between.ensures ∙ c.if-lies_between-2.true) in
    let start = simp to_z-of_z at c.truncate-start.ensures.value in
    let end = simp to_z-of_z at c.bucket_end-end.ensures.value in
    let instant : IsInstant c.time_at-time.result = c.time_at-time.ensures.instant in
    let first : first_instant ≤ℤ c.truncate-start.result = c.truncate-start.ensures.low in
    let time : c.time_at-time.result ≡ (key_at t c.args.from).time = c.time_at-time.ensures.value in
    let b = time-bounds t i c.min_time.result c.max_time.result (omega (arith, lt, c.row_count-count.ensures.value)) c.min_time.ensures.least c.max_time.ensures.greatest in
    let s = spanned c.truncate-start.result c.bucket_end-end.result c.min_time.result c.max_time.result (key_at t i).time low high b.0 b.1 in
    lies-same q c.time_at-time.result (key_at t i).time c.truncate-start.result c.bucket_end-end.result instant start end first s.0 s.1 ∙ ap (bucket q) time

pub returns-clause-same : goal.returns-clause-same
returns-clause-same c = λ i le lt.
    let t = c.args.view.now in
    let q = asked c.args.query.now in
    let f : FitsSigned w64 c.truncate-start.result = search rules in
    let g : FitsSigned w64 c.bucket_end-end.result = search rules in
    let m : FitsSigned w64 c.time_at-time.result = search rules in
    let start = simp to_z-of_z at c.truncate-start.ensures.value in
    let end = simp to_z-of_z at c.bucket_end-end.ensures.value in
    let instant : IsInstant c.time_at-time.result = c.time_at-time.ensures.instant in
    let first : first_instant ≤ℤ c.truncate-start.result = c.truncate-start.ensures.low in
    let time : c.time_at-time.result ≡ (key_at t c.args.from).time = c.time_at-time.ensures.value in
    let at : get_or (map long c.times.result.now) i (pos 0) ≡ (key_at t i).time = ap (λ l. get_or l i (pos 0)) c.times.ensures ∙ sym (key-time t i) in
    cases_eq' c.args.from i le
    (λ same. ap (λ k. bucket q (key_at t k).time) (sym same))
    (λ more.
    let b = simp to_z-of_z at (c.end_between.ensures.between i more lt) in
    lies-same q c.time_at-time.result (key_at t i).time c.truncate-start.result c.bucket_end-end.result instant start end first (subst (λ x. c.truncate-start.result ≤ℤ x) at b.0) (subst (λ x. x <ℤ c.bucket_end-end.result) at b.1) ∙ ap (bucket q) time)
