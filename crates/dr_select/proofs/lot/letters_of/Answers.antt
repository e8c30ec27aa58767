use Rattle.std.proofs.Common.{◌≡◌, ◌∙◌, sym, map, subst}
use Rattle.std.specs.List.{All}
use Rattle.std.proofs.lemmas.List.Elements.{All-push}
use Rattle.dr_select.specs.Rows.{value_of}
use Rattle.dr_select.specs.declared.placed_letters.PlacedLetters.{PlacedLetters}
use Rattle.dr_select.proofs.lot.letters_of.Goals as goal

pub loop-place-preserved : goal.loop-place-preserved
loop-place-preserved c =
    let all = All-push (λ (o : PlacedLetters). o.letters.0 ≡ map (value_of o.place) c.args.rows.now) c.loop-place.found.items _ c.loop-place.invariant (c.in_ok-letters.ensures ∙ c.in_ok-values.ensures) in
    subst (All (λ (o : PlacedLetters). o.letters.0 ≡ map (value_of o.place) c.args.rows.now)) (sym c.in_ok-push.ensures.items) all
