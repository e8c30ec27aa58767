use Rattle.std.proofs.Common.{◌≡◌, ◌∙◌, sym, ap, subst, true, Ok, Err}
use Rattle.std.specs.Str.{all_ascii_digits}
use Rattle.std.proofs.lemmas.Str.Parse.{parse_digits}
use Rattle.dr_events.proofs.SignedTexts.{own}
use Rattle.dr_requests.specs.declared.command_error.CommandError.TheVariants.{BadCommand}
use Rattle.dr_requests.specs.Request.{number_in}
use Rattle.dr_requests.proofs.WordLemmas.{ReadsNumber, bounded, digits_utf8, no_number, same_digits}
use Rattle.dr_requests.proofs.words.number_in.Goals as goal

pub returns-then-not-are_digits : goal.returns-then-not-are_digits
returns-then-not-are_digits c = λ _. no_number c.args.word.now (sym (same_digits c.args.word.now) ∙ sym c.are_digits.ensures ∙ c.if-not-are_digits.true)

pub returns-in-Ok-parse : goal.returns-in-Ok-parse
returns-in-Ok-parse c =
    let text = c.in-Ok.digits.now in
    let is = c.in-Ok.ensures.cases.0 in
    let digits : all_ascii_digits text ≡ true = ap all_ascii_digits is ∙ sym (same_digits c.args.word.now) ∙ sym c.are_digits.ensures ∙ c.if-not-are_digits.false in
    let read = bounded text c.parse.result digits (parse_digits own 64 text c.parse.result c.parse.ensures.value.0 digits) in
    subst (λ w. number_in w ≡ Ok c.in-Ok-parse.number) is (subst (ReadsNumber text) c.in-Ok-parse.is read)

pub returns-in-Err-parse : goal.returns-in-Err-parse
returns-in-Err-parse c =
    let text = c.in-Ok.digits.now in
    let is = c.in-Ok.ensures.cases.0 in
    let digits : all_ascii_digits text ≡ true = ap all_ascii_digits is ∙ sym (same_digits c.args.word.now) ∙ sym c.are_digits.ensures ∙ c.if-not-are_digits.false in
    let read = bounded text c.parse.result digits (parse_digits own 64 text c.parse.result c.parse.ensures.value.0 digits) in
    λ _. subst (λ w. number_in w ≡ Err BadCommand) is (subst (ReadsNumber text) c.in-Err-parse.is read)

pub returns-in-Err : goal.returns-in-Err
returns-in-Err c =
    absurd (c.in-Err.ensures.cases.0 (digits_utf8 c.args.word.now (sym (same_digits c.args.word.now) ∙ sym c.are_digits.ensures ∙ c.if-not-are_digits.false)))
