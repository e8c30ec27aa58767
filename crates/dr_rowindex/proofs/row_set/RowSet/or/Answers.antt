use Rattle.std.proofs.Common.{◌∙◌, refl, sym, subst, ◌||◌}
use Rattle.std.specs.Int.RustNames.{bit_or}
use Rattle.std.proofs.lemmas.List.{with_items_is}
use Rattle.dr_rowindex.specs.Truths.{truths, Joined}
use Rattle.dr_bits.proofs.BitLemmas.{bit-or}
use Rattle.dr_rowindex.proofs.TruthLemmas.{same-words, joined-sets}
use Rattle.dr_rowindex.proofs.ZeroLemmas.{none-joined}
use Rattle.dr_rowindex.proofs.row_set.RowSet.or.Goals as goal

pub add_bits-requires : goal.add_bits-requires
add_bits-requires c =
    same-words c.args.self.now c.args.other.now c.self.inside.words.items c.other.inside.words.items c.as_mut_slice.result.now c.as_slice.result.now c.self.inside.count c.other.inside.count
    c.self.view_is c.other.view_is c.requires c.self.invariant.0 c.other.invariant.0 c.as_mut_slice.ensures.value c.as_slice.ensures.value

pub returns-then-other : goal.returns-then-other
returns-then-other c =
    subst (λ l. Joined (λ a b. a || b) c.args.other.now c.args.self.now (truths l c.self.inside.count)) (sym (with_items_is c.self.inside.words c.add_bits.new.words (c.add_bits.ensures.count ∙ c.as_mut_slice.ensures.len)))
    (joined-sets bit_or (λ a b. a || b) c.args.self.now c.args.other.now c.self.inside.words.items c.other.inside.words.items c.as_mut_slice.result.now c.as_slice.result.now c.add_bits.new.words c.self.inside.count c.other.inside.count
    bit-or c.self.view_is c.other.view_is c.requires c.self.invariant.0 c.as_mut_slice.ensures.value c.as_slice.ensures.value c.add_bits.ensures.each)

pub returns-else-other : goal.returns-else-other
returns-else-other c = none-joined (λ a b. a || b) c.args.self.now c.args.other.now c.other.inside.words.items c.other.inside.count c.other.view_is (c.other.invariant.1 c.if-other.false) refl refl
