use Rattle.std.proofs.Common.{◌≡◌, ◌∙◌, ◌&&◌, ◌+◌, ◌∷◌, sym, true, false, refl, ap, Bool, drop}
use Rattle.std.proofs.lemmas.List.{drop_more, drop_all}
use Rattle.dr_rowindex.proofs.TellLemmas.{with-more, with-all}
use Rattle.dr_having.specs.declared.group_outputs.GroupOutputs.{GroupOutputs}
use Rattle.dr_having.specs.OutputMeets.{output_meets, outputs_meet}
use Rattle.dr_having.proofs.choosing.holding.Goals as goal

regroups : (x y z : Bool) → ((x && y) && z) ≡ (x && (y && z))
regroups true y z = refl
regroups false y z = refl

all : (x : Bool) → (x && true) ≡ x
all true = refl
all false = refl

pub loop-output-preserved : goal.loop-output-preserved
loop-output-preserved c =
    let outputs = c.args.outputs.now in
    let i = c.loop-output.output-index in
    let output = c.output-item.result in
    with-more (λ a b. a && b) (λ (g : GroupOutputs). output_meets g.dims g.values output) (λ g. outputs_meet g.dims g.values (drop i outputs)) (λ g. outputs_meet g.dims g.values (drop (i + 1) outputs))
    (λ g. outputs_meet g.dims g.values outputs) c.args.lot.now.groups.now c.loop-output.set c.in_ok-found.field-0 c.and.new.self regroups c.in_ok-found.ensures c.and.ensures c.loop-output.invariant
    (λ g. ap (outputs_meet g.dims g.values) (drop_more outputs i output c.loop-output-test.true ∙ ap (λ o. o ∷ drop (i + 1) outputs) (sym c.output-item.is)))

pub returns : goal.returns
returns c =
    let outputs = c.args.outputs.now in
    let i = c.loop-output.output-index in
    with-all (λ a b. a && b) true (λ (g : GroupOutputs). outputs_meet g.dims g.values (drop i outputs)) (λ g. outputs_meet g.dims g.values outputs) c.args.lot.now.groups.now c.loop-output.set all
    (λ g. ap (outputs_meet g.dims g.values) (drop_all i outputs c.loop-output-test.false)) c.loop-output.invariant
