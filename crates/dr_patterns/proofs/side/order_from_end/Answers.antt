use Rattle.std.proofs.Common.{◌∙◌, sym, rules}
use Rattle.std.specs.Char.{IsScalar}
use Rattle.std.specs.Str.{chars}
use Rattle.dr_patterns.proofs.Ended.{order-differs, order-same, order-right_ends, order-left_ends, order-both_end, utf8_before, chars_before, no_chars}
use Rattle.dr_patterns.proofs.side.order_from_end.Goals as goal

pub returns-in_default-next_back : goal.returns-in_default-next_back
returns-in_default-next_back c =
    let scalar : IsScalar c.in-Some.last = search rules in
    let left = chars_before c.loop-last.left.rest.now c.next_back.new.self.rest.now c.in-Some.last c.loop-last.invariant.left_utf8 scalar c.in-Some.ensures.steps in
    let right = no_chars c.loop-last.right.rest.now c.in_default-next_back.ensures.steps.0 in
    sym (order-right_ends (chars c.loop-last.left.rest.now) (chars c.loop-last.right.rest.now) (chars c.next_back.new.self.rest.now) c.in-Some.last left right) ∙ c.loop-last.invariant.same

pub returns-then-last-found : goal.returns-then-last-found
returns-then-last-found c =
    let scalar : IsScalar c.in-Some.last = search rules in
    let other : IsScalar c.in-Some-next_back.found = search rules in
    let left = chars_before c.loop-last.left.rest.now c.next_back.new.self.rest.now c.in-Some.last c.loop-last.invariant.left_utf8 scalar c.in-Some.ensures.steps in
    let right = chars_before c.loop-last.right.rest.now c.next_back-in-Some.new.self.rest.now c.in-Some-next_back.found c.loop-last.invariant.right_utf8 other c.in-Some-next_back.ensures.steps in
    c.cmp.ensures
    ∙ sym (order-differs (chars c.loop-last.left.rest.now) (chars c.loop-last.right.rest.now) (chars c.next_back.new.self.rest.now) (chars c.next_back-in-Some.new.self.rest.now) c.in-Some.last c.in-Some-next_back.found left right c.if-last-found.true)
    ∙ c.loop-last.invariant.same

pub loop-last-preserved : goal.loop-last-preserved
loop-last-preserved c =
    let scalar : IsScalar c.in-Some.last = search rules in
    let other : IsScalar c.in-Some-next_back.found = search rules in
    let left = chars_before c.loop-last.left.rest.now c.next_back.new.self.rest.now c.in-Some.last c.loop-last.invariant.left_utf8 scalar c.in-Some.ensures.steps in
    let right = chars_before c.loop-last.right.rest.now c.next_back-in-Some.new.self.rest.now c.in-Some-next_back.found c.loop-last.invariant.right_utf8 other c.in-Some-next_back.ensures.steps in
    record {
      same = sym (order-same (chars c.loop-last.left.rest.now) (chars c.loop-last.right.rest.now) (chars c.next_back.new.self.rest.now) (chars c.next_back-in-Some.new.self.rest.now) c.in-Some.last c.in-Some-next_back.found left right c.if-last-found.false) ∙ c.loop-last.invariant.same;
      left_utf8 = utf8_before c.loop-last.left.rest.now c.next_back.new.self.rest.now c.in-Some.last c.loop-last.invariant.left_utf8 scalar c.in-Some.ensures.steps;
      right_utf8 = utf8_before c.loop-last.right.rest.now c.next_back-in-Some.new.self.rest.now c.in-Some-next_back.found c.loop-last.invariant.right_utf8 other c.in-Some-next_back.ensures.steps;
    }

pub returns-in-Some-next_back-2 : goal.returns-in-Some-next_back-2
returns-in-Some-next_back-2 c =
    let other : IsScalar c.in-Some-next_back-2.field-0 = search rules in
    let left = no_chars c.loop-last.left.rest.now c.in_default.ensures.steps.0 in
    let right = chars_before c.loop-last.right.rest.now c.next_back-2.new.self.rest.now c.in-Some-next_back-2.field-0 c.loop-last.invariant.right_utf8 other c.in-Some-next_back-2.ensures.steps in
    sym (order-left_ends (chars c.loop-last.left.rest.now) (chars c.loop-last.right.rest.now) (chars c.next_back-2.new.self.rest.now) c.in-Some-next_back-2.field-0 left right) ∙ c.loop-last.invariant.same

pub returns-in-None : goal.returns-in-None
returns-in-None c =
    let left = no_chars c.loop-last.left.rest.now c.in_default.ensures.steps.0 in
    let right = no_chars c.loop-last.right.rest.now c.in-None.ensures.steps.0 in
    sym (order-both_end (chars c.loop-last.left.rest.now) (chars c.loop-last.right.rest.now) left right) ∙ c.loop-last.invariant.same
