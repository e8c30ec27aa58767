use Rattle.std.proofs.Common.{◌∙◌, ap, List, ℕ, ◌++◌}
use Rattle.std.specs.Prelude.{codes, Some}
use Rattle.std.proofs.lemmas.Result.{on_ok_weaker}
use Rattle.serde_json.specs.Data.{string}
use Rattle.dr_writer.specs.Written.{member_tokens}
use Rattle.dr_writer.proofs.group_writing.write_stamp.Goals as goal

pub returns : goal.returns
returns c =
    on_ok_weaker c.write_text.result
    (λ w. (w.0, w.1 ∙ ap (λ (text : List ℕ). c.args.out.now.tokens ++ member_tokens (codes "timestamp") (Some (string text))) (c.as_str.ensures ∙ c.args.stamp.now.printed)))
    c.write_text.ensures
