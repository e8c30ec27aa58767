use Rattle.std.proofs.Common.{◌∙◌, ap, sym, [], map, arith}
use Rattle.std.specs.Str.{chars}
use Rattle.std.proofs.Math.ListN.{get_or-map}
use Rattle.std.proofs.lemmas.List.{length-map}
use Rattle.dr_places.proofs.OwnLemmas.{spelled-more, spelled-all}
use Rattle.dr_places.proofs.own_texts.letters_of_each.Goals as goal

pub loop-row-preserved : goal.loop-row-preserved
loop-row-preserved c =
    let at = c.loop-row in
    let all = c.args.texts.now in
    let texts = map (λ t. t.now) all in
    let own = get_or-map (λ t. t.now) all at.row (record { ref_ptr = (0, 0); now = [] }) in
    spelled-more at.row texts at.letters.items _ c.in_ok-own.own c.in_ok-push.ensures.items (c.in_ok-own.ensures.letters ∙ ap chars (sym own)) at.invariant

pub returns : goal.returns
returns c =
    let all = c.args.texts.now in
    spelled-all c.loop-row.row (map (λ t. t.now) all) c.loop-row.letters.items (omega (arith, c.loop-row-test.false, c.loop-row.auto.row-end, length-map all (λ t. t.now))) c.loop-row.invariant
