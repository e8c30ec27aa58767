use Rattle.std.proofs.Common.{◌≡◌, ◌∙◌, sym, ap, subst, refl, w64}
use Rattle.std.proofs.lemmas.Int.{to_z-of_z}
use Rattle.std.specs.List.{AllByRecursion}
use Rattle.std.specs.Map.{values_of}
use Rattle.dr_chunks.specs.declared.sealed_range.SealedRange.{SealedRange}
use Rattle.std.proofs.Common.{List}
use Rattle.dr_chunks.specs.Held.{at_start, chunk_in, with_range}
use Rattle.dr_chunks.proofs.Places.{some-there, written-over, keyed-written, kept-start, looked-up}
use Rattle.dr_chunks.proofs.chunks.Chunks.replace.Goals as goal

pub unwrap-chunk-requires : goal.unwrap-chunk-requires
unwrap-chunk-requires c =
    let value = rw (to_z-of_z w64 c.args.start c.ranges.start) at c.get_mut.ensures.value in
    some-there c.args.start c.self.inside.0.entries c.self.invariant c.get_mut.ensures.ordered c.get_mut.result value (rw (← c.self.view_is) at c.requires.chunk)

pub replace-requires-clause-within : goal.replace-requires-clause-within
replace-requires-clause-within c =
    let k = c.args.start in
    let es = c.self.inside.0.entries in
    let x = c.unwrap-chunk.result.now in
    let there = sym (rw (to_z-of_z w64 k c.ranges.start, c.unwrap-chunk.ensures) at c.get_mut.ensures.value) in
    let found = sym (ap (chunk_in k) c.self.view_is) ∙ sym (looked-up k es c.self.invariant c.get_mut.ensures.ordered) ∙ there in
    rw found at c.requires.within

pub invariant_of-self : goal.invariant_of-self
invariant_of-self c =
    let k = c.args.start in
    let es = c.self.inside.0.entries in
    let x = c.unwrap-chunk.result.now in
    let n = record x { sealed = c.replace.new.self; publications = c.args.publications } in
    let there = sym (rw (to_z-of_z w64 k c.ranges.start, c.unwrap-chunk.ensures) at c.get_mut.ensures.value) in
    let written = rw (to_z-of_z w64 k c.ranges.start) at (c.get_mut.follows.holds n).0 in
    subst (λ l. AllByRecursion (λ e. e.1.start ≡ e.0) l) (sym written) (keyed-written k es n c.self.invariant (kept-start k es x n c.self.invariant there refl))

pub returns : goal.returns
returns c = λ schema.
    let k = c.args.start in
    let es = c.self.inside.0.entries in
    let x = c.unwrap-chunk.result.now in
    let n = record x { sealed = c.replace.new.self; publications = c.args.publications } in
    let change = with_range c.args.place c.args.count c.args.publications c.args.range in
    let there = sym (rw (to_z-of_z w64 k c.ranges.start, c.unwrap-chunk.ensures) at c.get_mut.ensures.value) in
    let written = rw (to_z-of_z w64 k c.ranges.start) at (c.get_mut.follows.holds n).0 in
    ap values_of written
    ∙ written-over k schema es change x n c.self.invariant c.get_mut.ensures.ordered there (ap (λ (ss : List SealedRange). record x { sealed = ss; publications = c.args.publications }) c.replace.ensures)
    ∙ ap (at_start schema change k) c.self.view_is
