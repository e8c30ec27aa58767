use Rattle.std.proofs.Common.{◌∙◌, refl, sym, subst, ◌&&◌, not}
use Rattle.std.specs.Int.RustNames.{bit_and, bit_xor}
use Rattle.std.proofs.lemmas.List.{with_items_is}
use Rattle.dr_rowindex.specs.Truths.{truths, Joined}
use Rattle.dr_bits.proofs.BitLemmas.{bit-first}
use Rattle.dr_rowindex.proofs.TruthLemmas.{same-words, joined-sets}
use Rattle.dr_rowindex.proofs.ZeroLemmas.{none-kept, none-joined}
use Rattle.dr_rowindex.proofs.row_set.RowSet.and_not.Goals as goal
use Rattle.dr_rowindex.proofs.row_set.RowSet.and_not.Goals.{else-self-via-then-self+else-other, else-self-via-else-self}

pub drop_bits-self-inside-requires : goal.drop_bits-self-inside-requires
drop_bits-self-inside-requires c =
    same-words c.args.self.now c.args.other.now c.self.inside.words.items c.other.inside.words.items c.as_mut_slice.result.now c.as_slice.result.now c.self.inside.count c.other.inside.count
    c.self.view_is c.other.view_is c.requires c.self.invariant.0 c.other.invariant.0 c.as_mut_slice.ensures.value c.as_slice.ensures.value

pub returns-then-other : goal.returns-then-other
returns-then-other c =
    subst (λ l. Joined (λ a b. a && not b) c.args.other.now c.args.self.now (truths l c.self.inside.count)) (sym (with_items_is c.self.inside.words c.drop_bits-self-inside.new.words (c.drop_bits-self-inside.ensures.count ∙ c.as_mut_slice.ensures.len)))
    (joined-sets (λ w v. bit_xor w (bit_and w v)) (λ a b. a && not b) c.args.self.now c.args.other.now c.self.inside.words.items c.other.inside.words.items c.as_mut_slice.result.now c.as_slice.result.now c.drop_bits-self-inside.new.words c.self.inside.count c.other.inside.count
    bit-first c.self.view_is c.other.view_is c.requires c.self.invariant.0 c.as_mut_slice.ensures.value c.as_slice.ensures.value c.drop_bits-self-inside.ensures.each)

pub returns-else-self : goal.returns-else-self
returns-else-self c = elim c.else-self.branch [
  | else-self-via-then-self+else-other w ↦ none-joined (λ a b. a && not b) c.args.self.now c.args.other.now c.other.inside.words.items c.other.inside.count c.other.view_is (c.other.invariant.1 w.if-other.false) refl refl
  | else-self-via-else-self w ↦ none-kept (λ a b. a && not b) c.args.self.now c.args.other.now c.self.inside.words.items c.self.inside.count c.self.view_is (c.self.invariant.1 w.if-self.false) (λ b. refl)
]
