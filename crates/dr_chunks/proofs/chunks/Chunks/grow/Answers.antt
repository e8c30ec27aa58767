use Rattle.std.proofs.Common.{◌≡◌, ◌∙◌, sym, ap, subst, w64}
use Rattle.std.proofs.lemmas.Int.{to_z-of_z}
use Rattle.std.proofs.lemmas.Result.{on_ok_weaker, on_err_weaker}
use Rattle.std.proofs.lemmas.Map.Steps.{set_value_same}
use Rattle.std.specs.List.{AllByRecursion}
use Rattle.std.specs.Map.{values_of, set_value}
use Rattle.std.specs.BTreeMap.{is_at}
use Rattle.std.specs.Ordering.{int_cmp}
use Rattle.dr_chunks.specs.declared.chunk.Chunk.{Chunk}
use Rattle.dr_chunks.specs.Held.{no_chunk, at_start, chunk_in, grown, is_full, seals_of, with_one}
use Rattle.dr_chunks.proofs.Places.{written-over, keyed-written, kept-start, same-start, grown-start, looked-up, chunk_at-in, chunk_at-none, put-new, keyed-put}
use Rattle.dr_chunks.proofs.chunks.Chunks.grow.Goals as goal

-- ---- the chunk is there

pub invariant_of-self : goal.invariant_of-self
invariant_of-self c =
    let k = c.args.start in
    let es = c.self.inside.0.entries in
    let x = c.in-Some.chunk.now in
    let n = c.grow.new.self in
    let change = grown c.args.serial c.args.event.now in
    let there = sym (rw (to_z-of_z w64 k c.ranges.start) at c.in-Some.ensures.value) in
    let written = rw (to_z-of_z w64 k c.ranges.start) at (c.get_mut.follows.holds n).0 in
    let same = same-start c.grow.result x n change (grown-start c.args.serial c.args.event.now) c.grow.ensures.ok c.grow.ensures.err in
    subst (λ l. AllByRecursion (λ e. e.1.start ≡ e.0) l) (sym written) (keyed-written k es n c.self.invariant (kept-start k es x n c.self.invariant there same))

pub returns-in-Some-clause-ok : goal.returns-in-Some-clause-ok
returns-in-Some-clause-ok c =
    let k = c.args.start in
    let es = c.self.inside.0.entries in
    let x = c.in-Some.chunk.now in
    let n = c.grow.new.self in
    let change = grown c.args.serial c.args.event.now in
    let there = sym (rw (to_z-of_z w64 k c.ranges.start) at c.in-Some.ensures.value) in
    let written = rw (to_z-of_z w64 k c.ranges.start) at (c.get_mut.follows.holds n).0 in
    on_ok_weaker c.grow.result (λ e.
    ap values_of written ∙ written-over k c.args.schema.now es change x n c.self.invariant c.in-Some.ensures.ordered there e
    ∙ ap (at_start c.args.schema.now change k) c.self.view_is) c.grow.ensures.ok

pub returns-in-Some-clause-seals : goal.returns-in-Some-clause-seals
returns-in-Some-clause-seals c =
    let k = c.args.start in
    let es = c.self.inside.0.entries in
    let x = c.in-Some.chunk.now in
    let there = sym (rw (to_z-of_z w64 k c.ranges.start) at c.in-Some.ensures.value) in
    let found = sym (ap (chunk_in k) c.self.view_is) ∙ sym (looked-up k es c.self.invariant c.in-Some.ensures.ordered) ∙ there in
    rw (chunk_at-in c.args.schema.now c.args.self.now k x found) c.grow.ensures.seals

pub returns-in-Some-clause-err : goal.returns-in-Some-clause-err
returns-in-Some-clause-err c =
    let k = c.args.start in
    let es = c.self.inside.0.entries in
    let x = c.in-Some.chunk.now in
    let n = c.grow.new.self in
    let there = sym (rw (to_z-of_z w64 k c.ranges.start) at c.in-Some.ensures.value) in
    let written = rw (to_z-of_z w64 k c.ranges.start) at (c.get_mut.follows.holds n).0 in
    on_err_weaker c.grow.result (λ e. ap values_of (written ∙ ap (set_value (is_at (int_cmp k)) es) e ∙ set_value_same (is_at (int_cmp k)) es x there) ∙ c.self.view_is) c.grow.ensures.err

-- ---- it is new

pub invariant_of-self-2 : goal.invariant_of-self-2
invariant_of-self-2 c =
    let k = c.args.start in
    let es = c.self.inside.0.entries in
    let v = c.grow-2.new.self in
    let change = grown c.args.serial c.args.event.now in
    let entries = rw (to_z-of_z w64 k c.ranges.start, c.get_mut.follows.holds-at-none) at c.in_ok-insert.ensures.entries in
    let fresh = rw (to_z-of_z w64 k c.ranges.start) at c.in_ok-chunk.ensures in
    let new : v ≡ change (no_chunk c.args.schema.now k) = c.in_ok-seals.ensures.ok ∙ ap change fresh in
    let start : v.start ≡ k = ap (λ (d : Chunk). d.start) new ∙ grown-start c.args.serial c.args.event.now (no_chunk c.args.schema.now k) in
    subst (λ l. AllByRecursion (λ e. e.1.start ≡ e.0) l) (sym entries) (keyed-put k es v c.self.invariant start)

pub returns-clause-ok : goal.returns-clause-ok
returns-clause-ok c =
    let k = c.args.start in
    let es = c.self.inside.0.entries in
    let v = c.grow-2.new.self in
    let change = grown c.args.serial c.args.event.now in
    let none = sym (rw (to_z-of_z w64 k c.ranges.start) at c.in_default.ensures.value) in
    let entries = rw (to_z-of_z w64 k c.ranges.start, c.get_mut.follows.holds-at-none) at c.in_ok-insert.ensures.entries in
    let fresh = rw (to_z-of_z w64 k c.ranges.start) at c.in_ok-chunk.ensures in
    let new : v ≡ change (no_chunk c.args.schema.now k) = c.in_ok-seals.ensures.ok ∙ ap change fresh in
    ap values_of entries ∙ put-new k c.args.schema.now es change v c.self.invariant none new ∙ ap (at_start c.args.schema.now change k) c.self.view_is

pub returns-clause-seals : goal.returns-clause-seals
returns-clause-seals c =
    let k = c.args.start in
    let es = c.self.inside.0.entries in
    let none = sym (rw (to_z-of_z w64 k c.ranges.start) at c.in_default.ensures.value) in
    let fresh = rw (to_z-of_z w64 k c.ranges.start) at c.in_ok-chunk.ensures in
    let found = sym (ap (chunk_in k) c.self.view_is) ∙ sym (looked-up k es c.self.invariant c.in_default.ensures.ordered) ∙ none in
    c.in_ok-seals.ensures.seals
    ∙ ap (λ (x : Chunk). seals_of (is_full (with_one c.args.event.now x))) (fresh ∙ sym (chunk_at-none c.args.schema.now c.args.self.now k found))
