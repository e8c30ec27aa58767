use Rattle.std.proofs.Common.{◌≡◌, ◌∙◌, sym, ap, subst, arith, Ok}
use Rattle.dr_image.specs.declared.layout.Layout.{Layout}
use Rattle.dr_image.specs.Layout.{read_table}
use Rattle.dr_image.specs.Laws.{sealed_by}
use Rattle.dr_image.specs.Checked.{Opens}
use Rattle.dr_image.proofs.LawLemmas.{opens_at, image_framed, image_opened, image_sealed, ok_by, ok_gives}
use Rattle.dr_image.proofs.segment_view.SegmentView.of_image.Goals as goal

pub unwrap-layout-requires : goal.unwrap-layout-requires
unwrap-layout-requires c = ok_by c.of.result (c.of.ensures.framed ∙ image_framed c.args.bytes.now c.requires)

same : (c : goal.After-unwrap-layout) → c.unwrap-layout.result.bytes.now ≡ c.args.bytes.now
same c = ok_gives (λ (k : Layout). k.bytes.now ≡ c.args.bytes.now) c.of.result c.unwrap-layout.result c.of.ensures.bytes c.unwrap-layout.ensures

pub invariant_of-result : goal.invariant_of-result
invariant_of-result c = subst Opens (sym (same c)) (opens_at c.args.bytes.now (λ i. omega (arith, c.type_inv.bytes i)) (image_opened c.args.bytes.now c.requires))

pub returns-clause-value : goal.returns-clause-value
returns-clause-value c = image_opened c.args.bytes.now c.requires ∙ ap (λ k. Ok (read_table k)) (sym (same c))

pub returns-clause-rows : goal.returns-clause-rows
returns-clause-rows c = λ s is. ap (λ k. sealed_by (read_table k)) (same c) ∙ image_sealed c.args.bytes.now s is
