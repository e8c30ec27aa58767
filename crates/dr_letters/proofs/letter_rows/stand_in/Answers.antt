use Rattle.std.proofs.Common.{◌≡◌, ◌∙◌, sym, ap, ◌-◌, ◌&&◌, true, false, get_or, drop}
use Rattle.dr_like.specs.Like.{letter_fits, first_and_rest}
use Rattle.dr_letters.specs.declared.asked_letter.AskedLetter.{AskedLetter}
use Rattle.dr_letters.specs.Pieces.{asks}
use Rattle.dr_letters.proofs.PieceLemmas.{asks-next, asks-none}
use Rattle.dr_letters.proofs.letter_rows.stand_in.Goals as goal

abbrev other : AskedLetter
other = record { place = 0; letter = 0 }

pub returns-then-not-stands_in : goal.returns-then-not-stands_in
returns-then-not-stands_in c = λ t same.
    let at = c.loop-k in
    let fails : asks c.args.spare (get_or c.args.letters.now at.k other) t ≡ false =
    ap (λ cs. first_and_rest (letter_fits (get_or c.args.letters.now at.k other).letter) (λ more. true) (drop ((get_or c.args.letters.now at.k other).place - c.args.spare) cs)) (sym same) ∙ sym c.stands_in.ensures ∙ c.if-not-stands_in.true in
    sym (asks-none c.args.spare c.args.letters.now at.k other t c.loop-k-test.true fails)

pub loop-k-preserved : goal.loop-k-preserved
loop-k-preserved c = λ t same.
    let at = c.loop-k in
    let stands : asks c.args.spare (get_or c.args.letters.now at.k other) t ≡ true =
    ap (λ cs. first_and_rest (letter_fits (get_or c.args.letters.now at.k other).letter) (λ more. true) (drop ((get_or c.args.letters.now at.k other).place - c.args.spare) cs)) (sym same) ∙ sym c.stands_in.ensures ∙ c.if-not-stands_in.false in
    asks-next c.args.spare c.args.letters.now at.k other t c.loop-k-test.true ∙ ap (λ b. b && asks c.args.spare (get_or c.args.letters.now at.k other) t) (at.invariant t same) ∙ stands
