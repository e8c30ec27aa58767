use Rattle.std.proofs.Common.{◌∙◌, ap, List, ◌++◌}
use Rattle.json.specs.Token.{Token}
use Rattle.serde_json.specs.Data.{array}
use Rattle.serde_json.specs.View.{items_of}
use Rattle.dr_ask.specs.Asked.{asked_shape}
use Rattle.dr_writer.specs.Written.{data_tokens}
use Rattle.dr_scan.specs.ScanText.{entries_data}
use Rattle.dr_scan.proofs.EntryTokens.{printed}
use Rattle.dr_scan.proofs.entries_writing.scan_text.Goals as goal

pub returns : goal.returns
returns c =
    let d = array (items_of (entries_data (asked_shape c.args.query.now.shape) c.args.entries.now)) in
    let before = c.in_ok-write_list.ensures.0 ∙ c.new-out.ensures.before ∙ c.new.ensures.items in
    let tokens = c.in_ok-write_list.ensures.1 ∙ ap (λ (ts : List Token). ts ++ data_tokens d) c.new-out.ensures.tokens in
    printed d c.write_list.new.out.before c.into_inner.result.items c.write_list.new.out.tokens before tokens c.into_inner.ensures.items
