use Rattle.std.proofs.Common.{[], ◌∷◌, ◌++◌}
use Rattle.std.specs.Prelude.{decimal}
use Rattle.std.proofs.lemmas.Result.{err_from_is_err_and}
use Rattle.dr_lines.proofs.WrittenLemmas.{Puts-parts, lost_parts}
use Rattle.dr_script.proofs.reply.put_number.Goals as goal

pub returns-in_err-put-clause-bytes : goal.returns-in_err-put-clause-bytes
returns-in_err-put-clause-bytes g c =
    let p = err_from_is_err_and c.from_residual.result c.from_residual.ensures.1 in
    let put = c.in_err-put.ensures.bytes in
    let digits = decimal c.args.number in
    rw (p.1) (put.0 ++ (digits ++ 10 ∷ []), lost_parts _ _ c.args.lines.now c.args.word.now digits (10 ∷ []) put.0 put.1)

pub returns-clause-bytes : goal.returns-clause-bytes
returns-clause-bytes g c =
    let digits = decimal c.args.number in
    let line = rw (c.as_bytes.ensures.value, c.format.ensures.text) at c.put_line.ensures.bytes in
    Puts-parts _ _ _ c.args.lines.now c.args.word.now digits (10 ∷ []) c.put.new.self c.put_line.new.self c.put_line.result
    c.in_ok-put.ensures.bytes line
