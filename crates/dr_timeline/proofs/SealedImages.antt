-- The image of a sealed range that is kept.
use Rattle.std.proofs.Common.{◌≡◌, ◌∙◌, sym, refl, ap, subst, ℕ, zero, suc, ℤ, true, false, cond, List, [], ◌∷◌, length, map, slice_get, option_map, Option, Some, None, Ok, Err, ◌≤◌, arith}
use Rattle.std.specs.Prelude.{nat_le}
use Rattle.std.specs.List.{AllByRecursion}
use Rattle.dr_base.specs.Reading.{passed}
use Rattle.dr_base.specs.declared.event.Event.{Event}
use Rattle.dr_schema.specs.declared.schema.Schema.{Schema}
use Rattle.dr_image.specs.Image.{image}
use Rattle.dr_image.specs.declared.image_error.ImageError.TheVariants as no_image
use Rattle.dr_segment.specs.Encoding.{encoded}
use Rattle.dr_fragment.specs.declared.fragment.Fragment.{Fragment}
use Rattle.dr_merge.specs.Joined.{sealed_fragment}
use Rattle.dr_cuts.specs.Chunks.{chunks}
use Rattle.dr_cuts.specs.State.{sealed_in}
use Rattle.dr_chunks.specs.declared.chunk.Chunk.{Chunk}
use Rattle.dr_chunks.specs.declared.sealed_range.SealedRange.{SealedRange}
use Rattle.dr_chunks.specs.Held.{range_of, ranges_of, cut_of, Holds, chunk_at}
use Rattle.dr_chunks.specs.Ranges.{fragment_of}
use Rattle.dr_chunks.proofs.Changes.{sealed_in-cuts}
use Rattle.dr_timeline.specs.declared.timeline_error.TimelineError.TheVariants.{ImageTooLarge, NoSuchRange}
use Rattle.dr_timeline.specs.Imaging.{image_of, image_where, image_at, not_written}
use Rattle.dr_timeline.proofs.Keeping.{holds-chunk_at}
use Rattle.dr_timeline.proofs.Standing.{seen}

-- what is written, or that it is too large
pub image_of-encoded : (schema : Schema) (f : Fragment) → passed not_written (encoded schema.limits.max_image_bytes (sealed_fragment schema f)) ≡ image_of schema f
image_of-encoded schema f =
    elim (nat_le (length (image (sealed_fragment schema f))) schema.limits.max_image_bytes)
    as (λ b. passed not_written (cond b (Ok (image (sealed_fragment schema f))) (Err no_image.ImageTooLarge)) ≡ cond b (Ok (image (sealed_fragment schema f))) (Err ImageTooLarge))
    [ true ↦ refl | false ↦ refl ]

-- ---- the range at a place

got-map : (ss : List SealedRange) (place : ℕ) → slice_get (map range_of ss) place ≡ option_map range_of (slice_get ss place)
got-map [] place = refl
got-map (s ∷ ss) zero = refl
got-map (s ∷ ss) (suc place) = got-map ss place

all-got : (P : SealedRange → Type 0) (ss : List SealedRange) (place : ℕ) (x : SealedRange) → AllByRecursion P ss → slice_get ss place ≡ Some x → P x
all-got P [] place x all is = absurd cc
all-got P (s ∷ ss) zero x all is = let same : s ≡ x = cc in subst P same all.0
all-got P (s ∷ ss) (suc place) x all is = all-got P ss place x all.1 is

-- behind the last one there is none
pub past-last : (ss : List SealedRange) (place : ℕ) → length ss ≤ place → slice_get ss place ≡ None
past-last [] place le = refl
past-last (s ∷ ss) zero le = absurd (omega arith)
past-last (s ∷ ss) (suc place) le = past-last ss place (omega arith)

-- the range that a state shows there
shown-range : (schema : Schema) (cs : List Chunk) (k : ℤ) (c : Chunk) (place : ℕ) (found : Option SealedRange) → chunk_at schema k cs ≡ c → slice_get c.sealed place ≡ found → slice_get (sealed_in k (map cut_of cs)) place ≡ option_map range_of found
shown-range schema cs k c place found here is = ap (λ rs. slice_get rs place) (sealed_in-cuts schema cs k ∙ ap ranges_of here) ∙ got-map c.sealed place ∙ ap (option_map range_of) is

-- there is none
pub image-nowhere : (schema : Schema) (es : List Event) (cs : List Chunk) (serials commits lost thrown : ℕ) (k : ℤ) (c : Chunk) (place : ℕ) → chunk_at schema k cs ≡ c → slice_get c.sealed place ≡ None
    → image_at (seen schema es cs serials commits lost thrown) k place ≡ Err NoSuchRange
image-nowhere schema es cs serials commits lost thrown k c place here none =
    ap (image_where (seen schema es cs serials commits lost thrown) k) (shown-range schema cs k c place None here none)

-- the range there is that of the fragment
pub image-there : (schema : Schema) (es : List Event) (cs : List Chunk) (serials commits lost thrown : ℕ) (k : ℤ) (c : Chunk) (place : ℕ) (x : SealedRange) → chunk_at schema k cs ≡ c → map (λ c. c.start) cs ≡ chunks schema es → AllByRecursion (Holds schema es) cs
    → slice_get c.sealed place ≡ Some x → image_at (seen schema es cs serials commits lost thrown) k place ≡ image_of schema x.fragment
image-there schema es cs serials commits lost thrown k c place x here starts each at =
    let held = holds-chunk_at schema es cs k starts each in
    let start : c.start ≡ k = ap (λ (d : Chunk). d.start) (sym here) ∙ held.1 in
    let sealed : AllByRecursion (λ s. s.fragment ≡ fragment_of schema es k (range_of s)) c.sealed =
    subst (λ (j : ℤ). AllByRecursion (λ s. s.fragment ≡ fragment_of schema es j (range_of s)) c.sealed) start (subst (Holds schema es) here held.0).sealed in
    ap (image_where (seen schema es cs serials commits lost thrown) k) (shown-range schema cs k c place (Some x) here at)
    ∙ ap (image_of schema) (sym (all-got (λ s. s.fragment ≡ fragment_of schema es k (range_of s)) c.sealed place x sealed at))
