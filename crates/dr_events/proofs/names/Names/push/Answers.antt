use Rattle.std.proofs.Common.{◌≡◌, ◌∙◌, sym, ap, subst, [], ◌∷◌, ◌++◌, length, map, Some, false, bytes_eq, string_bytes}
use Rattle.std.specs.Prelude.{slice_get}
use Rattle.std.specs.List.{IsDistinct, list_any}
use Rattle.std.proofs.lemmas.List.{length-map}
use Rattle.dr_dict.proofs.Texts.{distinct-push}
use Rattle.dr_events.proofs.FoundNames.{place-last, name-inserted}
use Rattle.dr_events.proofs.names.Names.push.Goals as goal

grown : (c : goal.In_ok-insert) → map string_bytes c.insert.new.self.keys ≡ c.args.self.now ++ c.args.name.now ∷ []
grown c =
    let names = c.args.self.now in
    let keys = c.self.inside.0.keys in
    let copy = c.in_ok-copy.copy in
    let copied : string_bytes copy ≡ c.args.name.now = c.in_ok-copy.ensures.ok in
    let new : list_any (bytes_eq (string_bytes copy)) (map string_bytes keys) ≡ false = ap (λ t. list_any (bytes_eq t) (map string_bytes keys)) copied ∙ ap (list_any (bytes_eq c.args.name.now)) c.self.view_is ∙ c.requires in
    ap (map string_bytes) c.in_ok-insert.ensures.keys ∙ name-inserted string_bytes keys copy new ∙ ap (λ ts. ts ++ string_bytes copy ∷ []) c.self.view_is ∙ ap (λ t. names ++ t ∷ []) copied

pub invariant_of-self-2 : goal.invariant_of-self-2
invariant_of-self-2 c = subst (IsDistinct bytes_eq) (sym (grown c)) (distinct-push c.args.self.now c.args.name.now (subst (IsDistinct bytes_eq) c.self.view_is c.self.invariant) c.requires)

pub returns-clause-place : goal.returns-clause-place
returns-clause-place c =
    let long = ap length (sym c.self.view_is) ∙ length-map c.self.inside.0.keys string_bytes ∙ sym c.len-place.ensures.len in
    subst (λ n. slice_get (map string_bytes c.insert.new.self.keys) n ≡ Some c.args.name.now) long (subst (λ ts. slice_get ts (length c.args.self.now) ≡ Some c.args.name.now) (sym (grown c)) (place-last c.args.self.now c.args.name.now))

pub returns-clause-kept : goal.returns-clause-kept
returns-clause-kept c = (c.args.name.now ∷ [], grown c)
