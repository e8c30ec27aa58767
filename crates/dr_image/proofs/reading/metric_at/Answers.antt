use Rattle.std.proofs.Common.{◌∙◌, sym, ap, map, arith, rules, [], List, ℤ, pos, length, ◌<◌, FitsSigned}
use Rattle.std.specs.Prelude.{Some, slice_get}
use Rattle.std.specs.Int.{w64}
use Rattle.std.proofs.lemmas.Int.{to_z-of_z}
use Rattle.std.proofs.lemmas.List.{length-map, get_or-map}
use Rattle.std.proofs.lemmas.Option.{slice_get-get_or}
use Rattle.dr_image.specs.Words.{long}
use Rattle.dr_image.proofs.LayoutLemmas.{times_seen}
use Rattle.dr_image.proofs.reading.metric_at.Goals as goal

pub returns : goal.returns
returns c =
    let cells = c.metric.result.now in
    let n = times_seen c.args.layout.now.bytes.now in
    let len = c.metric.ensures.len in
    let lt : c.args.i < length cells = omega (arith, c.requires.row) in
    let lt' : c.args.i < length (map long cells) = omega (arith, length-map cells long) in
    let fits : FitsSigned w64 c.signed.result = search rules in
    ap (λ (xs : List ℤ). slice_get xs c.args.i) (sym c.metric.ensures.value) ∙ slice_get-get_or (map long cells) c.args.i (pos 0) lt'
    ∙ ap Some (get_or-map long cells c.args.i [] (pos 0) lt ∙ sym c.signed.ensures ∙ sym (to_z-of_z w64 c.signed.result fits))
