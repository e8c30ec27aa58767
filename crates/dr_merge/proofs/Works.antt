-- What the work of a job gives, by the image that was written.
use Rattle.std.proofs.Common.{◌≡◌, ◌∙◌, sym, refl, ap, ℕ, ◌+◌, ◌<◌, ◌≤◌, true, false, List, [], ◌∷◌, ◌++◌, length, map, take, get_or, append-nil, append_assoc, Ok, Err, arith}
use Rattle.std.specs.Prelude.{nat_le, if◌then◌else◌}
use Rattle.std.proofs.lemmas.Bool.Decides.{nat_tests}
use Rattle.std.proofs.lemmas.List.{take_more}
use Rattle.dr_base.specs.Reading.{passed}
use Rattle.dr_base.specs.declared.row.Row.{Row}
use Rattle.dr_agg.specs.Rollup.{all_rows, join}
use Rattle.dr_schema.specs.Columns.{kinds_of}
use Rattle.dr_fragment.specs.declared.fragment.Fragment.{Fragment}
use Rattle.dr_schema.specs.declared.schema.Schema.{Schema}
use Rattle.dr_image.specs.declared.image_error.ImageError.TheVariants as written
use Rattle.dr_image.specs.Sealed.{Sealed}
use Rattle.dr_image.specs.Image.{image}
use Rattle.dr_image.specs.Laws.{IsImageOf}
use Rattle.dr_segment.specs.Encoding.{sealed, encoded}
use Rattle.dr_merge.specs.declared.job.Job.{Job}
use Rattle.dr_merge.specs.declared.merge_error.MergeError.{MergeError}
use Rattle.dr_merge.specs.declared.merge_error.MergeError.TheVariants.{ImageTooLarge}
use Rattle.dr_merge.specs.Refusal.{not_written}
use Rattle.dr_merge.specs.Joined.{IsJobOf, first_from, last_to, joined_fragment, sealed_fragment, worked}
use Rattle.dr_merge.proofs.Joins.{joined_has_image}

-- lists of rows and one more
all_rows-push : (lists : List (List Row)) (rows : List Row) → all_rows (lists ++ rows ∷ []) ≡ all_rows lists ++ rows
all_rows-push [] rows = append-nil rows
all_rows-push (l ∷ ls) rows = ap (λ rs. l ++ rs) (all_rows-push ls rows) ∙ sym (append_assoc l (all_rows ls) rows)

pub all_rows_more : (lists : List (List Row)) (i : ℕ) (rows : List Row) → i < length lists → rows ≡ get_or lists i rows → all_rows (take (i + 1) lists) ≡ all_rows (take i lists) ++ rows
all_rows_more lists i rows lt is = ap all_rows (take_more lists i rows lt ∙ ap (λ (rs : List Row). take i lists ++ rs ∷ []) (sym is)) ∙ all_rows-push (take i lists) rows

-- what was written is the image, and no larger than it may be
encoded_ok : (most : ℕ) (s : Sealed) (bytes : List ℕ) → passed not_written (encoded most s) ≡ Ok bytes → (nat_le (length (image s)) most ≡ true) × (bytes ≡ image s)
encoded_ok most s bytes =
    elim (nat_le (length (image s)) most) as (λ b. nat_le (length (image s)) most ≡ b → passed not_written (if b then Ok (image s) else Err written.ImageTooLarge) ≡ Ok bytes → (nat_le (length (image s)) most ≡ true) × (bytes ≡ image s))
    [ true ↦ λ t e. (t, cc) | false ↦ λ t e. absurd cc ] refl

pub is_image : (schema : Schema) (job : Job) (s : Sealed) (bytes : List ℕ) → IsJobOf schema job → s ≡ sealed_fragment schema (joined_fragment schema job) → schema.limits.max_image_bytes ≤ 1073741824
    → passed not_written (encoded schema.limits.max_image_bytes s) ≡ Ok bytes → IsImageOf bytes (sealed_fragment schema (joined_fragment schema job))
is_image schema job s bytes of same few e =
    let most : ℕ = schema.limits.max_image_bytes in
    let t : Sealed = sealed_fragment schema (joined_fragment schema job) in
    let p = encoded_ok most t bytes (ap (λ (u : Sealed). passed not_written (encoded most u)) (sym same) ∙ e) in record {
      has = joined_has_image schema job of;
      few = let h = p.0 in let long = ap length p.1 in grind (arith, nat_tests);
      is = p.1;
    }

pub worked_ok : (schema : Schema) (job : Job) (s : Sealed) (bytes : List ℕ) → s ≡ sealed_fragment schema (joined_fragment schema job) → passed not_written (encoded schema.limits.max_image_bytes s) ≡ Ok bytes → worked schema job ≡ Ok (joined_fragment schema job)
worked_ok schema job s bytes same e =
    let most : ℕ = schema.limits.max_image_bytes in
    let t : Sealed = sealed_fragment schema (joined_fragment schema job) in
    let p = encoded_ok most t bytes (ap (λ (u : Sealed). passed not_written (encoded most u)) (sym same) ∙ e) in
    rw p.0

pub worked_err : (schema : Schema) (job : Job) (s : Sealed) (e : MergeError) → s ≡ sealed_fragment schema (joined_fragment schema job) → passed not_written (encoded schema.limits.max_image_bytes s) ≡ Err e → worked schema job ≡ Err e
worked_err schema job s e same h =
    let most : ℕ = schema.limits.max_image_bytes in
    let t : Sealed = sealed_fragment schema (joined_fragment schema job) in
    elim (nat_le (length (image t)) most) as (λ b. passed not_written (if b then Ok (image t) else Err written.ImageTooLarge) ≡ Err e → (if b then Ok (joined_fragment schema job) else Err ImageTooLarge) ≡ Err e)
    [ true ↦ λ g. absurd cc | false ↦ λ g. cc ] (ap (λ (u : Sealed). passed not_written (encoded most u)) (sym same) ∙ h)

-- the range that is written is the joined one
pub same_range : (schema : Schema) (job : Job) (inputs : List Fragment) (from to : ℕ) (rows : List Row) → inputs ≡ job.inputs → from ≡ first_from inputs → to ≡ last_to inputs → rows ≡ join schema.rollup (kinds_of schema) (map (λ f. f.rows) inputs)
    → sealed schema job.chunk from to rows ≡ sealed_fragment schema (joined_fragment schema job)
same_range schema job inputs from to rows same from_is to_is rows_are =
    let start = from_is ∙ ap first_from same in
    let end = to_is ∙ ap last_to same in
    let all = rows_are ∙ ap (λ (fs : List Fragment). join schema.rollup (kinds_of schema) (map (λ f. f.rows) fs)) same in
    λ i. sealed schema job.chunk (start i) (end i) (all i)
