use Rattle.std.proofs.Common.{◌∙◌, ap, sym, [], length, unwrap_or, ◌==◌}
use Rattle.std.specs.Cmp.Lexicographic.{bytes_decides}
use Rattle.std.proofs.lemmas.Option.{slice_get-get_or}
use Rattle.dr_partial.proofs.Runs.{absent, no-bytes}
use Rattle.dr_partial.proofs.selecting.is_value_there.Goals as goal

pub returns-in-Some : goal.returns-in-Some
returns-in-Some c = λ h.
    (bytes_decides c.args.value.now c.in-Some.text.now).0 (sym c.eq.ensures ∙ h)
    ∙ c.in-Some.ensures.lookup.1 ∙ sym (ap (λ o. unwrap_or o []) (slice_get-get_or c.args.dims.now c.args.place c.in-Some.text.now c.in-Some.ensures.lookup.3.0))

pub returns-in-None : goal.returns-in-None
returns-in-None c = λ h.
    no-bytes c.args.value.now (ap (λ l. length l == 0) (sym c.as_str.ensures) ∙ sym c.is_empty.ensures ∙ h)
    ∙ sym (ap (λ o. unwrap_or o []) (absent c.args.dims.now c.args.place c.in-None.ensures.lookup.3))
