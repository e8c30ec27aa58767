use Rattle.std.proofs.Common.{ap, refl, sym, ◌∙◌, Ok}
use Rattle.dr_image.specs.Sealed.{Sealed}
use Rattle.dr_merge.specs.Joined.{joined_fragment, sealed_fragment}
use Rattle.dr_merge.proofs.Works.{is_image, worked_ok}
use Rattle.dr_merge.proofs.joining.work.Goals as goal

pub of_known_image-requires : goal.of_known_image-requires
of_known_image-requires c =
    let s : Sealed = sealed_fragment c.args.schema.now (joined_fragment c.args.schema.now c.args.job.now) in
    record { sealed = s; is = is_image c.args.schema.now c.args.job.now s c.in_ok-image.image.items c.requires refl c.in_ok-image.ensures.small c.in_ok-image.ensures.gives }

pub returns : goal.returns
returns c =
    let s : Sealed = sealed_fragment c.args.schema.now (joined_fragment c.args.schema.now c.args.job.now) in
    let is = is_image c.args.schema.now c.args.job.now s c.in_ok-image.image.items c.requires refl c.in_ok-image.ensures.small c.in_ok-image.ensures.gives in
    worked_ok c.args.schema.now c.args.job.now s c.in_ok-image.image.items refl c.in_ok-image.ensures.gives ∙ ap Ok (sym (c.of_known_image.ensures.rows s is))
