use Rattle.std.proofs.Common.{◌∙◌, sym, refl, ap, []}
use Rattle.std.specs.Str.{chars}
use Rattle.std.proofs.lemmas.Str.{chars_past_char, IsUtf8-past_char}
use lib.Utf8.{encodes}
use Rattle.dr_patterns.specs.Sides.{some_at, some_within}
use Rattle.dr_patterns.proofs.Behind.{found-here, found-later, found-nowhere, never}
use Rattle.dr_patterns.proofs.Ended.{no_chars}
use Rattle.dr_patterns.proofs.edges.Edges.meet_behind_run.Goals as goal

pub returns-then-is_empty : goal.returns-then-is_empty
returns-then-is_empty c =
    sym (ap (λ es. some_within c.args.self.now.0 es c.args.text.now) (c.is_empty.ensures.0 c.if-is_empty.true) ∙ never (λ cs. some_at c.args.self.now.0 [] (encodes cs)) (λ cs. refl) (chars c.args.text.now))

pub loop-letters-preserved : goal.loop-letters-preserved
loop-letters-preserved c =
    let other = sym (ap (some_at c.args.self.now.0 c.args.self.now.1) c.as_str.ensures) ∙ sym c.meet.ensures ∙ c.loop-letters-test.true in
    let more = chars_past_char c.loop-letters.letters.rest.now c.next.new.self.rest.now c.in-Some.field-0 c.loop-letters.invariant.rest_utf8 c.in-Some.ensures.steps.0 in
    record {
      same = sym (found-later (some_at c.args.self.now.0 c.args.self.now.1) c.loop-letters.letters.rest.now c.next.new.self.rest.now c.in-Some.field-0 c.loop-letters.invariant.rest_utf8 other more) ∙ c.loop-letters.invariant.same;
      rest_utf8 = IsUtf8-past_char c.loop-letters.letters.rest.now c.next.new.self.rest.now c.in-Some.field-0 c.loop-letters.invariant.rest_utf8 c.in-Some.ensures.steps.0;
    }

pub returns-in_default : goal.returns-in_default
returns-in_default c =
    let other = sym (ap (some_at c.args.self.now.0 c.args.self.now.1) c.as_str.ensures) ∙ sym c.meet.ensures ∙ c.loop-letters-test.true in
    let end = no_chars c.loop-letters.letters.rest.now c.in_default.ensures.steps.0.0 in
    sym (found-nowhere (some_at c.args.self.now.0 c.args.self.now.1) c.loop-letters.letters.rest.now c.loop-letters.invariant.rest_utf8 other end) ∙ c.loop-letters.invariant.same

pub returns : goal.returns
returns c =
    let here = sym (ap (some_at c.args.self.now.0 c.args.self.now.1) c.as_str.ensures) ∙ sym c.meet.ensures ∙ c.loop-letters-test.false in
    sym (found-here (some_at c.args.self.now.0 c.args.self.now.1) c.loop-letters.letters.rest.now c.loop-letters.invariant.rest_utf8 here) ∙ c.loop-letters.invariant.same
