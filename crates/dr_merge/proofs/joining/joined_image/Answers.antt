use Rattle.std.proofs.Common.{FitsSigned, List, rules, subst, sym, ◌∙◌}
use Rattle.std.specs.Int.{w64}
use Rattle.std.specs.List.{AllByRecursion}
use Rattle.std.proofs.lemmas.Int.{to_z-of_z}
use Rattle.dr_base.specs.Reading.{GivesUnless, passed}
use Rattle.dr_fragment.specs.declared.fragment.Fragment.{Fragment}
use Rattle.dr_image.specs.Sealed.{Sealed, HasImage}
use Rattle.dr_segment.specs.Encoding.{encoded}
use Rattle.dr_merge.specs.Joined.{sealed_fragment}
use Rattle.dr_merge.specs.Refusal.{is_memory, not_written}
use Rattle.dr_merge.proofs.Alone.{join-alone}
use Rattle.dr_merge.proofs.Works.{same_range}
use Rattle.dr_merge.proofs.joining.joined_image.Goals as goal

pub returns-in-Some-clause-gives : goal.returns-in-Some-clause-gives
returns-in-Some-clause-gives c =
    let fits : FitsSigned w64 c.args.job.now.chunk = search rules in
    let gives = simp to_z-of_z at c.written.ensures.gives in
    let images = subst (λ (fs : List Fragment). AllByRecursion (λ f. HasImage (sealed_fragment c.args.schema.now f)) fs) (sym c.as_slice-inputs.ensures) c.requires.images in
    let joins = join-alone c.args.schema.now c.as_slice-inputs.result.now c.in-Some.rows.now images c.in-Some.ensures in
    let same = same_range c.args.schema.now c.args.job.now c.as_slice-inputs.result.now c.first_from-from.result c.last_to-to.result c.in-Some.rows.now c.as_slice-inputs.ensures c.first_from-from.ensures c.last_to-to.ensures joins in
    subst (λ (s : Sealed). GivesUnless is_memory (λ bytes. bytes.items) c.written.result (passed not_written (encoded c.args.schema.now.limits.max_image_bytes s))) same gives

pub returns-clause-gives : goal.returns-clause-gives
returns-clause-gives c =
    let fits : FitsSigned w64 c.args.job.now.chunk = search rules in
    let gives = simp to_z-of_z at c.written-2.ensures.gives in
    let same = same_range c.args.schema.now c.args.job.now c.as_slice-inputs.result.now c.first_from-from.result c.last_to-to.result c.deref.result.now c.as_slice-inputs.ensures c.first_from-from.ensures c.last_to-to.ensures (c.deref.ensures.value ∙ c.in_ok-rows.ensures) in
    subst (λ (s : Sealed). GivesUnless is_memory (λ bytes. bytes.items) c.written-2.result (passed not_written (encoded c.args.schema.now.limits.max_image_bytes s))) same gives
