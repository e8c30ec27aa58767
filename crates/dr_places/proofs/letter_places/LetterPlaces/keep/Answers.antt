use Rattle.std.proofs.Common.{◌≡◌, ◌∙◌, sym, ap, subst, ◌+◌, ◌<◌, ◌==◌, ◌&&◌, length, get_or}
use Rattle.dr_places.specs.Places.{truth_in}
use Rattle.dr_places.specs.Digits.{AreCharacters}
use Rattle.dr_places.proofs.LetterLemmas.{letter-kept, scalar-below}
use Rattle.dr_places.proofs.letter_places.LetterPlaces.keep.Goals as goal

pub returns-clause-each : goal.returns-clause-each
returns-clause-each c k from to within =
    let p = c.self.inside in
    let inv = c.self.invariant in
    let cs = c.as_slice-letters.result.now in
    let here : cs ≡ c.args.self.now = c.as_slice-letters.ensures.value ∙ c.self.view_is in
    let at = c.args.lo + k in
    let there : at < length cs = subst (λ l. at < length l) (sym here) within in
    let bound = subst AreCharacters (sym c.as_slice-letters.ensures.value) inv.0 at there in
    letter-kept (get_or cs at 0) c.args.letter p.lowest.divisor p.lowest.count p.second.divisor p.second.count p.third.divisor p.third.count p.highest.divisor p.highest.count
    (truth_in c.args.words.now k) (truth_in c.keep.new.words k) (truth_in c.keep-2.new.words k) (truth_in c.keep-3.new.words k) (truth_in c.keep-4.new.words k)
    bound (scalar-below c.args.letter c.ranges.letter.0)
    inv.1.divisor_is inv.1.count_is inv.2.divisor_is inv.2.count_is inv.3.divisor_is inv.3.count_is inv.4.divisor_is inv.4.count_is
    (c.keep.ensures.each k from to there) (c.keep-2.ensures.each k from to there) (c.keep-3.ensures.each k from to there) (c.keep-4.ensures.each k from to there)
    ∙ ap (λ l. truth_in c.args.words.now k && (get_or l at 0 == c.args.letter)) here
