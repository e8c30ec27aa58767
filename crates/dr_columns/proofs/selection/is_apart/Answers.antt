use Rattle.std.proofs.Common.{◌≡◌, ◌∙◌, ap, sym, int_lt, true, rules, FitsSigned, w64}
use Rattle.std.proofs.lemmas.Int.{to_z-of_z}
use Rattle.dr_time.specs.Union.{union_first_from}
use Rattle.dr_columns.specs.Rows.{key_at}
use Rattle.dr_columns.proofs.RunLemmas.{apart, none-apart, time-bounds, time-from}
use Rattle.dr_columns.proofs.selection.is_apart.Goals as goal

pub returns-in-Some : goal.returns-in-Some
returns-in-Some c = λ less i lt.
    let t = c.args.view.now in
    let us = c.args.union.now in
    let low : FitsSigned w64 c.min_time.result = search rules in
    let high : FitsSigned w64 c.max_time.result = search rules in
    let there : FitsSigned w64 c.in-Some.time = search rules in
    let less' : int_lt c.max_time.result c.in-Some.time ≡ true = sym (λ j. int_lt (to_z-of_z w64 c.max_time.result high j) (to_z-of_z w64 c.in-Some.time there j)) ∙ less in
    let b = time-bounds t i c.min_time.result c.max_time.result lt c.min_time.ensures.least c.max_time.ensures.greatest in
    apart us c.min_time.result c.max_time.result (key_at t i).time c.in-Some.time (c.in-Some.ensures ∙ ap (λ z. union_first_from z us) (to_z-of_z w64 c.min_time.result low)) b.0 b.1 less'

pub returns-in-None : goal.returns-in-None
returns-in-None c = λ yes i lt.
    let t = c.args.view.now in
    let us = c.args.union.now in
    let low : FitsSigned w64 c.min_time.result = search rules in
    let b = time-from t i c.min_time.result lt c.min_time.ensures.least in
    none-apart us c.min_time.result (key_at t i).time (c.in-None.ensures ∙ ap (λ z. union_first_from z us) (to_z-of_z w64 c.min_time.result low)) b
