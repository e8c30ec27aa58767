use Rattle.std.proofs.Common.{◌≡◌, ◌∙◌, sym, rules}
use Rattle.dr_partial.proofs.grouping.is_group_at.Goals as goal

pub returns-then-group-bucket : goal.returns-then-group-bucket
returns-then-group-bucket c = λ h.
    let row = c.in-Some.group.now in
    let time : row.key.time ≡ c.args.bucket = search rules in
    let dims = sym c.as_slice.ensures ∙ c.are_values.ensures h in
    (row, sym c.in-Some.ensures, λ i. record { time = time i; dims = dims i })
