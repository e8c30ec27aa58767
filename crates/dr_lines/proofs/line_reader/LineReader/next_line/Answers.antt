use Rattle.std.proofs.Common.{◌≤◌, ◌<◌, ◌∙◌, ℕ, subst, sym, arith}
use Rattle.std.proofs.lemmas.Bool.{false≢true}
use Rattle.dr_lines.specs.Failures.{inner_of, reads_of}
use Rattle.dr_lines.specs.Lines.{CountsReads}
use Rattle.dr_lines.proofs.LineSteps.{counts-more, after_fill, answers_whole, answers_last, goes_on}
use Rattle.dr_lines.proofs.line_reader.LineReader.next_line.Goals as goal

-- a part is taken of what was ahead, or was read before
less : (a b c : ℕ) → a < b → b ≤ c → a < c
less a b c x y = omega arith

at_most : (a b c : ℕ) → a < b → b ≤ c → a ≤ c
at_most a b c x y = omega arith

pub returns-then-is_spent-clause-answer : goal.returns-then-is_spent-clause-answer
returns-then-is_spent-clause-answer g c =
    let known = g.R.Read.remaining (inner_of c.fill.new.reader) in
    let so_far = after_fill _ _ known c.parts.self c.fill.new.self c.parts.invariant.so_far c.fill.ensures.bytes c.fill.ensures.line in
    rw c.last_line.ensures.answer (answers_last _ known c.fill.new.self so_far (c.is_spent.ensures.0 c.if-is_spent.true) (c.in-Ok.ensures.end (c.is_spent.ensures.0 c.if-is_spent.true)) c.last_line.ensures.bound)

pub returns-then-take_part-clause-answer : goal.returns-then-take_part-clause-answer
returns-then-take_part-clause-answer g c =
    let known = g.R.Read.remaining (inner_of c.fill.new.reader) in
    let so_far = after_fill _ _ known c.parts.self c.fill.new.self c.parts.invariant.so_far c.fill.ensures.bytes c.fill.ensures.line in
    let taken = rw c.if-take_part.true at c.take_part.ensures.part in
    rw c.whole_line.ensures.answer (answers_whole _ known c.fill.new.self c.take_part.new.self so_far taken c.whole_line.ensures.bound)

pub returns-then-take_part-clause-nearer : goal.returns-then-take_part-clause-nearer
returns-then-take_part-clause-nearer g c =
    let taken = c.take_part.ensures.nearer (λ e. false≢true (c.if-is_spent.ensures.1 e)) in
    λ found. less _ _ _ (less _ _ _ taken c.in-Ok.ensures.nearer) c.parts.invariant.nearer

pub parts-smaller : goal.parts-smaller
parts-smaller g c =
    let taken = c.take_part.ensures.nearer (λ e. false≢true (c.if-is_spent.ensures.1 e)) in
    less _ _ _ taken c.in-Ok.ensures.nearer

pub parts-preserved : goal.parts-preserved
parts-preserved g c =
    let known = g.R.Read.remaining (inner_of c.fill.new.reader) in
    let so_far = after_fill _ _ known c.parts.self c.fill.new.self c.parts.invariant.so_far c.fill.ensures.bytes c.fill.ensures.line in
    let taken = rw c.if-take_part.false at c.take_part.ensures.part in
    let fewer = c.take_part.ensures.nearer (λ e. false≢true (c.if-is_spent.ensures.1 e)) in
    record {
      so_far = goes_on _ known c.fill.new.self c.take_part.new.self so_far taken;
      failures = c.in-Ok.ensures.failures ∙ c.parts.invariant.failures;
      reads = counts-more c.args.self.now.reads c.parts.self.reads c.take_part.new.self.reads (reads_of c.args.reader.now) (reads_of c.parts.reader) (reads_of c.fill.new.reader) c.parts.invariant.reads
          (subst (λ made. CountsReads c.parts.self.reads made (reads_of c.parts.reader) (reads_of c.fill.new.reader)) (sym c.take_part.ensures.reads) c.fill.ensures.reads);
      nearer = at_most _ _ _ (less _ _ _ fewer c.in-Ok.ensures.nearer) c.parts.invariant.nearer;
    }
