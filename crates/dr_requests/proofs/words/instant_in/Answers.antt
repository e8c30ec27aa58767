use Rattle.std.proofs.Common.{◌≡◌, ◌∙◌, sym, ap, subst, rules}
use Rattle.std.specs.Prelude.{IfOk}
use Rattle.std.specs.Str.{IsUtf8}
use Rattle.dr_time.specs.Instant.{IsInstant, instant_of}
use Rattle.dr_requests.proofs.WordLemmas.{in_range, instant_spelled, instant_unspelled}
use Rattle.dr_requests.proofs.words.instant_in.Goals as goal

pub returns-in-Ok : goal.returns-in-Ok
returns-in-Ok c =
    let text : IsUtf8 c.args.word.now = search rules in
    let read : c.parse_instant.result ≡ instant_of c.args.word.now = c.parse_instant.ensures ∙ ap instant_of c.in-Ok.ensures.cases.0 in
    record {
      value = read ∙ sym (instant_spelled c.args.word.now text);
      range = subst (λ r. IfOk r IsInstant) (sym read) (in_range c.args.word.now);
    }

pub returns-in-Err : goal.returns-in-Err
returns-in-Err c = record { value = sym (instant_unspelled c.args.word.now c.in-Err.ensures.cases.0); range = tt }
