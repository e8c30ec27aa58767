use Rattle.std.proofs.Common.{◌∙◌, ap, List, ◌++◌}
use Rattle.json.specs.Token.{Token}
use Rattle.serde_json.specs.Data.{array}
use Rattle.serde_json.specs.View.{items_of}
use Rattle.dr_ask.specs.Asked.{asked}
use Rattle.dr_writer.specs.declared.output.Output.{Output}
use Rattle.dr_writer.specs.Written.{data_tokens, groups_data}
use Rattle.dr_writer.proofs.TokensLaws.{printed}
use Rattle.dr_writer.proofs.writing.text_of.Goals as goal

pub returns : goal.returns
returns c =
    let q = asked c.args.query.now in
    let groups = c.args.groups.now in
    let before = c.in_ok-write_groups.ensures.0 ∙ c.new-out.ensures.before ∙ c.new.ensures.items in
    let first = ap (λ (ts : List Token). ts ++ data_tokens (array (items_of (groups_data q.shape c.as_slice.result.now groups)))) c.new-out.ensures.tokens in
    let all = c.in_ok-write_groups.ensures.1 ∙ first ∙ ap (λ (os : List Output). data_tokens (array (items_of (groups_data q.shape os groups)))) c.as_slice.ensures.value in
    printed q c.in_ok-outputs.outputs.items groups c.write_groups.new.out.before c.into_inner.result.items c.write_groups.new.out.tokens c.in_ok-outputs.ensures before all c.into_inner.ensures.items
