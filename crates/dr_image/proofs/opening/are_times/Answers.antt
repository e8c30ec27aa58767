use Rattle.std.proofs.Common.{◌≡◌, ◌∙◌, sym, ap, map, rules, FitsSigned}
use Rattle.std.specs.Int.{w64}
use Rattle.std.proofs.lemmas.Int.{to_z-of_z}
use Rattle.dr_image.specs.declared.header.Header.{Header}
use Rattle.dr_image.specs.Words.{long}
use Rattle.dr_image.specs.Layout.{read_table}
use Rattle.dr_image.specs.Opening.{times_fit}
use Rattle.dr_image.proofs.LayoutLemmas.{chunk_in}
use Rattle.dr_image.proofs.opening.are_times.Goals as goal

pub returns : goal.returns
returns c =
    let bytes = c.args.layout.now.bytes.now in
    let fits : FitsSigned w64 c.header.result.chunk = search rules in
    let fit : c.do_times_fit.result ≡ times_fit c.header.result.chunk (map long c.times.result.now) = simp to_z-of_z at c.do_times_fit.ensures in
    let chunk : c.header.result.chunk ≡ (read_table bytes).chunk = ap (λ (h : Header). h.chunk) c.header.ensures ∙ sym (chunk_in bytes) in
    fit ∙ (λ i. times_fit (chunk i) (c.times.ensures.value i))
