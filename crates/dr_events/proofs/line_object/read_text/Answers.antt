use Rattle.std.proofs.Common.{◌≡◌, ◌∙◌, refl, sym, ap, [], ◌∷◌, Some, false, arith}
use Rattle.std.proofs.lemmas.Result.{err_from_is_err_and}
use Rattle.json.specs.Token.{Token}
use Rattle.json.specs.Lex.{tokens}
use Rattle.json.specs.Reads.{token_of}
use Rattle.dr_events.specs.Passed.{begins_object}
use Rattle.dr_events.proofs.LineObjects.{text_read, text_and_more, text_refused, text_no_object}
use Rattle.dr_events.proofs.line_object.read_text.Goals as goal

pub returns-then-not-takes_object-clause-err : goal.returns-then-not-takes_object-clause-err
returns-then-not-takes_object-clause-err c =
    let other : begins_object (tokens c.args.text.now) ≡ false = rw (← c.in_ok-reader.ensures.ok) (grind arith) in
    λ _. (refl, text_no_object c.args.text.now other)

pub returns-in_err-read_members-clause-err : goal.returns-in_err-read_members-clause-err
returns-in_err-read_members-clause-err c =
    let opened : tokens c.args.text.now ≡ Token.begin_object ∷ c.takes_object.new.reader = sym c.in_ok-reader.ensures.ok ∙ c.takes_object.ensures.rest (grind arith) in
    let p = err_from_is_err_and c.from_residual-in_err-read_members.result c.from_residual-in_err-read_members.ensures.1 in
    rw (p.1, p.2) (λ h. let both = c.in_err-read_members.ensures.err h in (both.0, text_refused c.args.text.now c.takes_object.new.reader opened both.1))

pub returns-in-None-clause-ok : goal.returns-in-None-clause-ok
returns-in-None-clause-ok c =
    let opened : tokens c.args.text.now ≡ Token.begin_object ∷ c.takes_object.new.reader = sym c.in_ok-reader.ensures.ok ∙ c.takes_object.ensures.rest (grind arith) in
    let ended : c.read_members.new.reader ≡ [] = grind arith in
    let done = c.in_ok-read_members.ensures.ok in
    (done.0, text_read c.args.text.now c.takes_object.new.reader done.0 opened (done.1 ∙ ap (λ ts. Some (done.0, ts)) ended), done.2)

pub returns-in-Some-clause-err : goal.returns-in-Some-clause-err
returns-in-Some-clause-err c =
    let opened : tokens c.args.text.now ≡ Token.begin_object ∷ c.takes_object.new.reader = sym c.in_ok-reader.ensures.ok ∙ c.takes_object.ensures.rest (grind arith) in
    let more : c.read_members.new.reader ≡ token_of c.in-Some.field-0 ∷ c.next.new.self = grind arith in
    let done = c.in_ok-read_members.ensures.ok in
    λ _. (refl, text_and_more c.args.text.now c.takes_object.new.reader c.next.new.self (token_of c.in-Some.field-0) done.0 opened (done.1 ∙ ap (λ ts. Some (done.0, ts)) more))
