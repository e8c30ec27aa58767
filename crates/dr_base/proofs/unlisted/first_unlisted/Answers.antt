use Rattle.std.proofs.Common.{◌∙◌, sym}
use Rattle.dr_base.proofs.UnlistedKeys.{unlisted-passes, unlisted-stops, unlisted-ends}
use Rattle.dr_base.proofs.unlisted.first_unlisted.Goals as goal

pub returns-then-not-passes : goal.returns-then-not-passes
returns-then-not-passes c =
    let test = rw c.as_str.ensures.value at (sym c.passes.ensures ∙ c.if-not-passes.true) in
    rw c.as_str-then-not-passes.ensures.value
    (sym (unlisted-stops (λ t. t.now) c.args.listed.now (c.in-Some.key.now, c.in-Some.value.now) c.loop-key.key-iterator c.next.new.self c.in-Some.ensures.steps test) ∙ c.loop-key.invariant)

pub loop-key-preserved : goal.loop-key-preserved
loop-key-preserved c =
    let test = rw c.as_str.ensures.value at (sym c.passes.ensures ∙ c.if-not-passes.false) in
    sym (unlisted-passes (λ t. t.now) c.args.listed.now (c.in-Some.key.now, c.in-Some.value.now) c.loop-key.key-iterator c.next.new.self c.in-Some.ensures.steps test) ∙ c.loop-key.invariant

pub returns : goal.returns
returns c = sym (unlisted-ends (λ t. t.now) c.args.listed.now c.loop-key.key-iterator c.in-None.ensures.steps.0) ∙ c.loop-key.invariant
