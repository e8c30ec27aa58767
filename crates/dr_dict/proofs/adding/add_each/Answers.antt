use Rattle.std.proofs.Common.{◌≡◌, ◌∙◌, sym, ap, ◌∷◌, ◌||◌, ◌+◌, length, take, map, string_bytes, bytes_eq, drop}
use Rattle.std.specs.List.{list_any}
use Rattle.std.proofs.lemmas.List.{drop_more}
use Rattle.dr_base.proofs.Truths.{or_regroups}
use Rattle.dr_dict.proofs.AddedTexts.{found-added, stays-first}
use Rattle.dr_dict.proofs.adding.add_each.Goals as goal

pub loop-text-preserved : goal.loop-text-preserved
loop-text-preserved c =
    let texts = c.args.texts.now in
    let i = c.loop-text.text-index in
    let text = c.text-item.result in
    let old = c.loop-text.set in
    let was = c.loop-text.invariant in
    let told = c.in_ok-add_str.ensures in
    let rest = drop (i + 1) texts in
    let split : drop i texts ≡ text ∷ rest = drop_more texts i text c.loop-text-test.true ∙ ap (λ t. t ∷ rest) (sym c.text-item.is) in
    let first = stays-first c.args.set.now old c.add_str.new.self c.as_str.result.now c.in_ok-add_str.field-0 told.added told.same was.1 was.2 in (
      (λ other.
          ap (λ b. b || list_any (bytes_eq other) (map string_bytes rest)) (found-added old c.add_str.new.self c.as_str.result.now other c.in_ok-add_str.field-0 told.is_new told.added told.same)
          ∙ sym (or_regroups (list_any (bytes_eq other) old) (bytes_eq other c.as_str.result.now) (list_any (bytes_eq other) (map string_bytes rest)))
          ∙ ap (λ s. list_any (bytes_eq other) old || (bytes_eq other s || list_any (bytes_eq other) (map string_bytes rest))) c.as_str.ensures.value
          ∙ ap (λ l. list_any (bytes_eq other) old || list_any (bytes_eq other) (map string_bytes l)) (sym split)
          ∙ was.0 other),
      first.0,
      first.1,
    )

pub returns-in_err-add_str-clause-behind : goal.returns-in_err-add_str-clause-behind
returns-in_err-add_str-clause-behind c = ap (take (length c.args.set.now)) c.in_err-add_str.ensures.err ∙ c.loop-text.invariant.2

pub returns-clause-behind : goal.returns-clause-behind
returns-clause-behind c = c.loop-text.invariant.2
