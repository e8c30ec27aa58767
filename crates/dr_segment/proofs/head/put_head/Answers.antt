use Rattle.std.proofs.Common.{◌∙◌, ap, ◌++◌, rules, FitsSigned}
use Rattle.std.specs.Int.{w64}
use Rattle.std.proofs.lemmas.Int.{to_z-of_z}
use Rattle.dr_segment.specs.Heads.{two_bytes}
use Rattle.dr_segment.proofs.WritingLemmas.{ten_pieces}
use Rattle.dr_segment.proofs.head.put_head.Goals as goal

pub returns : goal.returns
returns c =
    let fits : FitsSigned w64 c.args.head.now.chunk = search rules in
    let chunk = simp to_z-of_z at c.in_ok-put_long.ensures in
    ten_pieces c.args.out.now.items _ _ _ _ _ _ _ _ _ _ _ _ _ _ _ _ _ _ _ _
    c.in_ok-put_word.ensures c.in_ok-put_half.ensures (c.in_ok-put_half-2.ensures ∙ ap (λ k. c.put_half.new.out.items ++ two_bytes k) c.mark.ensures) c.in_ok-put_wide.ensures chunk
    c.in_ok-put_wide-2.ensures c.in_ok-put_wide-3.ensures c.in_ok-put_half-3.ensures c.in_ok-put_half-4.ensures c.in_ok-put_count.ensures
