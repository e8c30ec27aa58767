use Rattle.std.proofs.Common.{◌≡◌, ◌∙◌, sym, ap, subst, refl, Some, None, ℕ, ◌+◌, List, slice_get, w64}
use Rattle.std.specs.Prelude.{Result}
use Rattle.std.proofs.lemmas.Int.{to_z-of_z}
use Rattle.std.proofs.lemmas.Option.{slice_get-get_or}
use Rattle.dr_base.specs.Reading.{GivesUnless}
use Rattle.dr_cuts.specs.State.{State}
use Rattle.dr_chunks.specs.declared.chunk.Chunk.{Chunk}
use Rattle.dr_chunks.specs.declared.sealed_range.SealedRange.{SealedRange}
use Rattle.dr_chunks.specs.Held.{chunk_at}
use Rattle.dr_chunks.proofs.Places.{chunk_at-in, chunk_at-none}
use Rattle.dr_timeline.specs.declared.timeline_error.TimelineError.{TimelineError}
use Rattle.dr_timeline.specs.Imaging.{image_of, image_at}
use Rattle.dr_timeline.specs.Refusal.{is_memory}
use Rattle.dr_timeline.proofs.SealedImages.{past-last, image-nowhere, image-there}
use Rattle.dr_timeline.proofs.timeline.Timeline.image.Goals as goal

-- there is no such chunk
pub returns-in_default : goal.returns-in_default
returns-in_default c = λ _.
    let t = c.self.inside in
    let found = sym (rw (to_z-of_z w64 c.args.chunk c.ranges.chunk) at c.in_default.ensures) in
    ap (λ (s : State). image_at s c.args.chunk c.args.place) (sym c.self.view_is)
    ∙ image-nowhere t.spec t.stream.items t.chunks (t.seals + t.commits) t.commits t.unparseable t.thrown_away c.args.chunk (chunk_at t.spec c.args.chunk t.chunks) c.args.place refl
    (ap (λ (d : Chunk). slice_get d.sealed c.args.place) (chunk_at-none t.spec t.chunks c.args.chunk found))

-- it has no such range
pub returns-in_default-get : goal.returns-in_default-get
returns-in_default-get c = λ _.
    let t = c.self.inside in
    let found = sym (rw (to_z-of_z w64 c.args.chunk c.ranges.chunk) at c.in-Some.ensures) in
    let none : slice_get c.in-Some.there.now.sealed c.args.place ≡ None = ap (λ (ss : List SealedRange). slice_get ss c.args.place) (sym c.as_slice.ensures) ∙ past-last c.as_slice.result.now c.args.place c.in_default-get.ensures.lookup.3 in
    ap (λ (s : State). image_at s c.args.chunk c.args.place) (sym c.self.view_is)
    ∙ image-nowhere t.spec t.stream.items t.chunks (t.seals + t.commits) t.commits t.unparseable t.thrown_away c.args.chunk c.in-Some.there.now c.args.place
    (chunk_at-in t.spec t.chunks c.args.chunk c.in-Some.there.now found) none

-- its range
pub returns : goal.returns
returns c =
    let t = c.self.inside in
    let k = c.self.invariant in
    let found = sym (rw (to_z-of_z w64 c.args.chunk c.ranges.chunk) at c.in-Some.ensures) in
    let at : slice_get c.in-Some.there.now.sealed c.args.place ≡ Some c.in-Some-get.range.now = ap (λ (ss : List SealedRange). slice_get ss c.args.place) (sym c.as_slice.ensures) ∙ slice_get-get_or c.as_slice.result.now c.args.place c.in-Some-get.range.now c.in-Some-get.ensures.lookup.3.0 ∙ ap Some (sym c.in-Some-get.ensures.lookup.1) in
    let shown = image-there t.spec t.stream.items t.chunks (t.seals + t.commits) t.commits t.unparseable t.thrown_away c.args.chunk c.in-Some.there.now c.args.place c.in-Some-get.range.now
    (chunk_at-in t.spec t.chunks c.args.chunk c.in-Some.there.now found) k.starts k.each at in
    let same = (λ i. image_of (c.schema.ensures.value i) c.in-Some-get.range.now.fragment) ∙ sym shown ∙ ap (λ (s : State). image_at s c.args.chunk c.args.place) c.self.view_is in
    subst (λ (r : Result (List ℕ) TimelineError). GivesUnless is_memory (λ bytes. bytes.items) c.image_of.result r) same c.image_of.ensures
