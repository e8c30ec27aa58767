use Rattle.std.proofs.Common.{◌∙◌, ◌++◌, List, ap}
use Rattle.json.specs.Token.{Token}
use Rattle.dr_image.specs.Table.{row_at}
use Rattle.dr_dump.specs.Dump.{row_data}
use Rattle.dr_dump.specs.Written.{data_tokens}
use Rattle.dr_dump.proofs.RowLemmas.{line_put}
use Rattle.dr_dump.proofs.dumping.with_row.Goals as goal

pub returns : goal.returns
returns c =
    let row = row_data (row_at c.args.view.now c.args.i) in
    let before = c.in_ok-write_row.ensures.0 ∙ c.new-out.ensures.before in
    let tokens = c.in_ok-write_row.ensures.1 ∙ ap (λ (ts : List Token). ts ++ data_tokens row) c.new-out.ensures.tokens in
    line_put c.args.text.items c.into_inner-text.result.items c.push.new.self.items c.write_row.new.out.before c.write_row.new.out.tokens row before tokens c.into_inner-text.ensures.items c.in_ok-push.ensures.items
