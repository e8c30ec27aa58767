use Rattle.std.proofs.Common.{arith, ◌-◌, ◌∙◌}
use Rattle.dr_outputs.proofs.Places.{found-from, found-first}
use Rattle.dr_outputs.proofs.output_names.first_places.Goals as goal

pub returns : goal.returns
returns c = λ name. found-first c.args.names.now c.loop-place.place name _ c.loop-place-test.false (c.loop-place.invariant.1 name)

pub loop-place-preserved : goal.loop-place-preserved
loop-place-preserved c =
    let was = c.loop-place.invariant in
    let some = c.loop-place-test.true in (
      (let within = was.0 in omega (arith, within)),
      λ name. found-from (λ k. k.now) c.as_str.result (c.loop-place.place - 1) name c.loop-place.places.entries c.insert.new.self.entries c.args.names.now c.loop-place.place c.index-names-place.result
          (omega (arith, some)) was.0 (c.as_str.ensures ∙ c.index-names-place.is) c.in_ok-insert.ensures.entries (was.1 name),
    )
