use Rattle.std.proofs.Common.{◌≡◌, ℕ, [], refl, ◌∙◌}
use Rattle.std.proofs.lemmas.Result.{err_from_is_err_and}
use Rattle.dr_lines.specs.Failures.{failures_of}
use Rattle.dr_lines.proofs.LineSteps.{counts-none, counts-more}
use Rattle.dr_script.specs.Replies.{seen}
use Rattle.dr_script.proofs.ScriptSteps.{begins, flushes, answers_line, breaks, ends, fails, fails_lost}
use Rattle.dr_script.proofs.script.answer_lines.Goals as goal

-- no call failed in a step, nor before
same_count : (a b c : ℕ) → a ≡ b → b ≡ c → a ≡ c
same_count a b c x y = x ∙ y

pub lines-init : goal.lines-init
lines-init g c = record { so_far = begins _ _ _ _; failures = refl; reads = refl; counted = counts-none _ _ }

pub returns-in_err-flush_unless_line-clause-answers : goal.returns-in_err-flush_unless_line-clause-answers
returns-in_err-flush_unless_line-clause-answers g c =
    let p = err_from_is_err_and c.from_residual.result c.from_residual.ensures.1 in
    let lost = c.in_err-flush_unless_line.ensures.bytes in
    rw p.1 (breaks _ _ _ _ _ _ _ _ _ _ lost.0 [] _ p.0 (flushes _ _ _ _ _ _ _ _ _ lost.0 _ c.lines.invariant.so_far lost.1) c.lines.invariant.reads)

pub returns-in_err-put-in-Some-Err-clause-answers : goal.returns-in_err-put-in-Some-Err-clause-answers
returns-in_err-put-in-Some-Err-clause-answers g c =
    let at = flushes _ _ _ _ _ _ _ _ _ _ _ c.lines.invariant.so_far c.in_ok-flush_unless_line.ensures.bytes in
    let p = err_from_is_err_and c.from_residual-in_err-put-in-Some-Err.result c.from_residual-in_err-put-in-Some-Err.ensures.1 in
    let turn = rw c.in-Some-Err.field-0-is at c.in-Some-Err.ensures.turn in
    let told = rw turn.0 at c.in_err-put-in-Some-Err.ensures.bytes in
    let failed = rw c.lines.invariant.reads at turn.2 in
    rw p.1 (fails_lost _ _ _ _ _ _ _ _ _ _ _ _ told.0 [] _ p.0 at turn.1 failed told.1)

pub returns-in-Some-Err-clause-answers : goal.returns-in-Some-Err-clause-answers
returns-in-Some-Err-clause-answers g c =
    let at = flushes _ _ _ _ _ _ _ _ _ _ _ c.lines.invariant.so_far c.in_ok-flush_unless_line.ensures.bytes in
    let turn = rw c.in-Some-Err.field-0-is at c.in-Some-Err.ensures.turn in
    let told = rw turn.0 at c.in_ok-put-in-Some-Err.ensures.bytes in
    let failed = rw c.lines.invariant.reads at turn.2 in
    fails _ _ _ _ _ _ _ _ _ _ _ _ _ _ at turn.1 failed told

pub returns-in-None-clause-answers : goal.returns-in-None-clause-answers
returns-in-None-clause-answers g c =
    let at = flushes _ _ _ _ _ _ _ _ _ _ _ c.lines.invariant.so_far c.in_ok-flush_unless_line.ensures.bytes in
    ends _ _ _ _ _ _ _ _ _ _ _ _ at c.in-None.ensures.turn.0 (same_count (failures_of c.next_reply.new.reader) (failures_of c.lines.reader) (failures_of c.args.reader.now) c.in-None.ensures.turn.1 c.lines.invariant.reads)

pub lines-preserved : goal.lines-preserved
lines-preserved g c =
    let at = flushes _ _ _ _ _ _ _ _ _ _ _ c.lines.invariant.so_far c.in_ok-flush_unless_line.ensures.bytes in
    let turn = rw c.in-Some-Ok.field-0-is at c.in-Some-Ok.ensures.turn in
    record {
      so_far = rw c.is_refused-is_refused.ensures
          (answers_line _ _ _ _ _ _ _ _ _ _ _ _ _ turn.0 (seen c.in-Some-Ok.reply) at turn.1 turn.2 c.in_ok-put.ensures.bytes);
      failures = same_count (failures_of c.put-in-lines.new.writer) (failures_of c.flush_unless_line.new.writer) (failures_of c.args.writer.now) c.in_ok-put.ensures.failures
          (same_count (failures_of c.flush_unless_line.new.writer) (failures_of c.lines.writer) (failures_of c.args.writer.now) c.in_ok-flush_unless_line.ensures.failures c.lines.invariant.failures);
      reads = same_count (failures_of c.next_reply.new.reader) (failures_of c.lines.reader) (failures_of c.args.reader.now) turn.3 c.lines.invariant.reads;
      counted = counts-more _ _ _ _ _ _ c.lines.invariant.counted c.next_reply.ensures.reads;
    }

pub returns-in_err-put-clause-answers : goal.returns-in_err-put-clause-answers
returns-in_err-put-clause-answers g c =
    let at = flushes _ _ _ _ _ _ _ _ _ _ _ c.lines.invariant.so_far c.in_ok-flush_unless_line.ensures.bytes in
    let p = err_from_is_err_and c.from_residual-in_err-put.result c.from_residual-in_err-put.ensures.1 in
    let turn = rw c.in-Some-Ok.field-0-is at c.in-Some-Ok.ensures.turn in
    let lost = c.in_err-put.ensures.bytes in
    rw p.1
    (breaks _ _ _ _ _ _ _ _ _ _ lost.0 [] _ p.0
    (answers_line _ _ _ _ _ _ _ _ _ _ _ lost.0 _ turn.0 (seen c.in-Some-Ok.reply) at turn.1 turn.2 lost.1) (same_count (failures_of c.next_reply.new.reader) (failures_of c.lines.reader) (failures_of c.args.reader.now) turn.3 c.lines.invariant.reads))
