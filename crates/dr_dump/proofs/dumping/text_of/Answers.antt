use Rattle.std.proofs.Common.{◌∙◌, ◌++◌, sym, ap, map, arith}
use Rattle.std.specs.List.{flat_map, range_with_len}
use Rattle.std.proofs.lemmas.List.{flat_map_more}
use Rattle.std.proofs.lemmas.List.FromFn.{map-range_with_len_more}
use Rattle.dr_image.specs.Table.{row_at}
use Rattle.dr_dump.specs.Dump.{head_line, row_line}
use Rattle.dr_dump.proofs.dumping.text_of.Goals as goal

pub loop-i-preserved : goal.loop-i-preserved
loop-i-preserved c =
    let t = c.args.view.now in
    let i = c.loop-i.i in
    c.in_ok-text-2.ensures ∙ ap (λ l. l ++ row_line (row_at t i)) c.loop-i.invariant ∙ flat_map_more row_line (head_line t) (map (row_at t) (range_with_len 0 i)) (row_at t i)
    ∙ ap (λ l. head_line t ++ flat_map row_line l) (sym (map-range_with_len_more (row_at t) 0 i i (omega arith)))
