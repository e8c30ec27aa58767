use Rattle.std.proofs.Common.{◌∙◌, refl, sym, subst, ◌&&◌}
use Rattle.std.specs.Int.RustNames.{bit_and}
use Rattle.std.proofs.lemmas.List.{with_items_is}
use Rattle.dr_rowindex.specs.Truths.{truths, Joined}
use Rattle.dr_bits.proofs.BitLemmas.{bit-and}
use Rattle.dr_rowindex.proofs.TruthLemmas.{same-words, joined-sets}
use Rattle.dr_rowindex.proofs.ZeroLemmas.{none-kept}
use Rattle.dr_rowindex.proofs.row_set.RowSet.and.Goals as goal

pub keep_bits-self-inside-requires : goal.keep_bits-self-inside-requires
keep_bits-self-inside-requires c =
    same-words c.args.self.now c.args.other.now c.self.inside.words.items c.other.inside.words.items c.as_mut_slice.result.now c.as_slice.result.now c.self.inside.count c.other.inside.count
    c.self.view_is c.other.view_is c.requires c.self.invariant.0 c.other.invariant.0 c.as_mut_slice.ensures.value c.as_slice.ensures.value

pub returns-then-self : goal.returns-then-self
returns-then-self c =
    subst (λ l. Joined (λ a b. a && b) c.args.other.now c.args.self.now (truths l c.self.inside.count)) (sym (with_items_is c.self.inside.words c.keep_bits-self-inside.new.words (c.keep_bits-self-inside.ensures.count ∙ c.as_mut_slice.ensures.len)))
    (joined-sets bit_and (λ a b. a && b) c.args.self.now c.args.other.now c.self.inside.words.items c.other.inside.words.items c.as_mut_slice.result.now c.as_slice.result.now c.keep_bits-self-inside.new.words c.self.inside.count c.other.inside.count
    bit-and c.self.view_is c.other.view_is c.requires c.self.invariant.0 c.as_mut_slice.ensures.value c.as_slice.ensures.value c.keep_bits-self-inside.ensures.each)

pub returns-else-self : goal.returns-else-self
returns-else-self c = none-kept (λ a b. a && b) c.args.self.now c.args.other.now c.self.inside.words.items c.self.inside.count c.self.view_is (c.self.invariant.1 c.if-self.false) (λ b. refl)
