use Rattle.std.proofs.Common.{◌<◌, ◌-◌, ◌∙◌, [], sym, ap, map, length, get_or, arith}
use Rattle.std.proofs.lemmas.List.{get_or_default}
use Rattle.std.proofs.lemmas.Slice.Eq.{bytes_eq-Decides}
use Rattle.dr_predicate.specs.Match.{passes}
use Rattle.dr_rowindex.proofs.text_order.passes_at.Goals as goal

pub returns-then-eq : goal.returns-then-eq
returns-then-eq c r =
    let rows = c.args.rows.now in
    let k = c.args.k in
    let texts = map (λ t. t.now) c.args.texts.now in
    let less : k - 1 < length rows = omega (arith, c.requires.within, c.if-k-gt0.true) in
    let same = (bytes_eq-Decides _ _).0 (sym c.if-eq.ensures) in
    c.requires.before r c.if-k-gt0.true
    ∙ ap (passes c.args.test.now)
    (ap (λ i. get_or texts i []) (get_or_default rows (k - 1) r 0 less) ∙ sym c.text_at.ensures ∙ same ∙ c.text_at-text.ensures ∙ ap (λ i. get_or texts i []) (get_or_default rows k 0 r c.requires.within))
