use Rattle.std.proofs.Common.{◌≡◌, ◌∙◌, sym, Result, Ok, Err, IfOk, List, ℕ}
use Rattle.dr_columns.proofs.ValueLemmas.{value-known, unknown}
use Rattle.dr_columns.proofs.grouping.value_of.Goals as goal

same_text : {E : Type 0} (r : Result (List ℕ) E) (a b : List ℕ) → a ≡ b → IfOk r (λ t. t ≡ a) → IfOk r (λ t. t ≡ b)
same_text (Ok t) a b e h = h ∙ e
same_text (Err x) a b e h = tt

pub returns-in-Some : goal.returns-in-Some
returns-in-Some c = same_text c.from_str.result _ _ (c.dim.ensures ∙ value-known c.args.view.now c.args.place c.in-Some.d c.args.i c.in-Some.ensures) c.from_str.ensures

pub returns-in-None : goal.returns-in-None
returns-in-None c = same_text c.from_str-in-None.result _ _ (sym (unknown c.args.view.now c.args.place c.args.i c.in-None.ensures)) c.from_str-in-None.ensures
