use Rattle.std.proofs.Common.{[], ◌∷◌, ◌++◌}
use Rattle.std.proofs.lemmas.Result.{err_from_is_err_and}
use Rattle.dr_lines.proofs.WrittenLemmas.{Puts-trans, lost_with}
use Rattle.dr_script.proofs.hexadecimal.put_hexadecimal_line.Goals as goal

pub returns-in_err-put_hexadecimal-clause-bytes : goal.returns-in_err-put_hexadecimal-clause-bytes
returns-in_err-put_hexadecimal-clause-bytes g c =
    let p = err_from_is_err_and c.from_residual.result c.from_residual.ensures.1 in
    let bytes = c.in_err-put_hexadecimal.ensures.bytes in
    rw p.1 (bytes.0 ++ 10 ∷ [], lost_with _ _ _ bytes.0 (10 ∷ []) bytes.1)

pub returns-clause-bytes : goal.returns-clause-bytes
returns-clause-bytes g c = Puts-trans _ _ _ _ c.put_hexadecimal.new.lines (10 ∷ []) c.put.new.self c.put.result c.in_ok-put_hexadecimal.ensures.bytes c.put.ensures.bytes
