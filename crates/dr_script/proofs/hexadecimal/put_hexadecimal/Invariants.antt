use Rattle.std.proofs.Common.{◌≡◌, ◌-◌, ◌≤◌, ◌++◌, length, take}
use Rattle.dr_lines.specs.Failures.{failures_of, inner_of}
use Rattle.dr_lines.specs.Written.{Writes}
use Rattle.hex.specs.Hex.{encode_lower}
use Rattle.dr_script.proofs.hexadecimal.put_hexadecimal.Given as goal

abbrev pub invariant-loop-done : goal.invariant-loop-done
invariant-loop-done g l = record {
  within : l.done ≤ length l.bytes;
  taken : Writes (g.W.Write.contents (inner_of l.fn.writer)) (g.W.Write.contents (inner_of l.writer)) (l.fn.lines ++ encode_lower (take l.done l.bytes)) l.lines;
  failures : failures_of l.writer ≡ failures_of l.fn.writer;
}

abbrev pub decreases-loop-done : goal.decreases-loop-done
decreases-loop-done g l = length l.initial.bytes - l.done
