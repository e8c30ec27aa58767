use Rattle.std.proofs.Common.{◌≡◌, ◌∙◌, sym, ap, subst, refl, w64}
use Rattle.std.proofs.lemmas.Int.{to_z-of_z}
use Rattle.std.proofs.lemmas.Result.{on_ok_weaker, on_err_weaker}
use Rattle.std.proofs.lemmas.Map.Steps.{set_value_same}
use Rattle.std.specs.List.{AllByRecursion}
use Rattle.std.specs.Map.{values_of, set_value}
use Rattle.std.specs.BTreeMap.{is_at}
use Rattle.std.specs.Ordering.{int_cmp}
use Rattle.dr_chunks.specs.Held.{at_start, with_open_sealed}
use Rattle.dr_chunks.proofs.Places.{some-there, written-over, keyed-written, kept-start, same-start}
use Rattle.dr_chunks.proofs.chunks.Chunks.seal.Goals as goal

pub unwrap-chunk-requires : goal.unwrap-chunk-requires
unwrap-chunk-requires c =
    let value = rw (to_z-of_z w64 c.args.start c.ranges.start) at c.get_mut.ensures.value in
    some-there c.args.start c.self.inside.0.entries c.self.invariant c.get_mut.ensures.ordered c.get_mut.result value (rw (← c.self.view_is) at c.requires)

pub invariant_of-self : goal.invariant_of-self
invariant_of-self c =
    let k = c.args.start in
    let es = c.self.inside.0.entries in
    let x = c.unwrap-chunk.result.now in
    let n = c.seal.new.self in
    let there = sym (rw (to_z-of_z w64 k c.ranges.start, c.unwrap-chunk.ensures) at c.get_mut.ensures.value) in
    let written = rw (to_z-of_z w64 k c.ranges.start) at (c.get_mut.follows.holds n).0 in
    let same = same-start c.seal.result x n (with_open_sealed c.args.serial) (λ d. refl) c.seal.ensures.ok c.seal.ensures.err in
    subst (λ l. AllByRecursion (λ e. e.1.start ≡ e.0) l) (sym written) (keyed-written k es n c.self.invariant (kept-start k es x n c.self.invariant there same))

pub returns-clause-ok : goal.returns-clause-ok
returns-clause-ok c = λ schema.
    let k = c.args.start in
    let es = c.self.inside.0.entries in
    let x = c.unwrap-chunk.result.now in
    let n = c.seal.new.self in
    let there = sym (rw (to_z-of_z w64 k c.ranges.start, c.unwrap-chunk.ensures) at c.get_mut.ensures.value) in
    let written = rw (to_z-of_z w64 k c.ranges.start) at (c.get_mut.follows.holds n).0 in
    on_ok_weaker c.seal.result (λ e.
    ap values_of written ∙ written-over k schema es (with_open_sealed c.args.serial) x n c.self.invariant c.get_mut.ensures.ordered there e
    ∙ ap (at_start schema (with_open_sealed c.args.serial) k) c.self.view_is) c.seal.ensures.ok

pub returns-clause-err : goal.returns-clause-err
returns-clause-err c =
    let k = c.args.start in
    let es = c.self.inside.0.entries in
    let x = c.unwrap-chunk.result.now in
    let n = c.seal.new.self in
    let there = sym (rw (to_z-of_z w64 k c.ranges.start, c.unwrap-chunk.ensures) at c.get_mut.ensures.value) in
    let written = rw (to_z-of_z w64 k c.ranges.start) at (c.get_mut.follows.holds n).0 in
    on_err_weaker c.seal.result (λ e. ap values_of (written ∙ ap (set_value (is_at (int_cmp k)) es) e ∙ set_value_same (is_at (int_cmp k)) es x there) ∙ c.self.view_is) c.seal.ensures.err
