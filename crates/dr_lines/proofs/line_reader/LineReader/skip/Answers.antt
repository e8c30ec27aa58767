use Rattle.std.proofs.Common.{◌≤◌, length, drop, slice_range, ap, arith}
use Rattle.dr_lines.specs.Lines.{Reading}
use Rattle.dr_lines.proofs.Ranges.{drop-slice_range}
use Rattle.dr_lines.proofs.line_reader.LineReader.skip.Goals as goal

pub returns : goal.returns
returns c =
    let i = c.self.inside in
    let same = ap (λ (r : Reading). length r.ahead) c.self.view_is in
    let within : c.args.count ≤ length (slice_range i.buffer.items i.start i.end) = omega arith in
    rw (drop-slice_range i.buffer.items i.start i.end c.args.count within)
    (ap (λ (r : Reading). record r { ahead = drop c.args.count r.ahead }) c.self.view_is)
