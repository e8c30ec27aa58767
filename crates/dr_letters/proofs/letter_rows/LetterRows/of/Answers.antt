use Rattle.std.proofs.Common.{◌≡◌, sym, subst, length}
use Rattle.dr_letters.specs.Places.{ArePlaces}
use Rattle.dr_letters.specs.States.{AreRests}
use Rattle.dr_letters.proofs.letter_rows.LetterRows.of.Goals as goal

pub invariant_of-result : goal.invariant_of-result
invariant_of-result c =
    let texts = c.in_ok-texts.texts in
    let n = length c.in_ok-places.places.items in
    let same = c.each_text.ensures in
    let rests = subst (λ l. AreRests l n c.in_ok-places.rests.items) same c.in_ok-places.ensures.rests in
    let lent = subst (AreRests texts n) (sym c.as_slice.ensures.value) rests in
    let count : length texts ≡ c.text_count.result = sym c.text_count.ensures in (
      subst (λ l. ArePlaces l c.in_ok-places.places.items) same c.in_ok-places.ensures.places,
      (c.in_ok-long.ensures.short texts n count lent, (c.in_ok-long.ensures.long texts n count lent, c.in_ok-places.ensures.few)),
    )
