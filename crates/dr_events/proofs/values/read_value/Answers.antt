use Rattle.std.proofs.Common.{◌≡◌, [], ◌∷◌, length, None, refl, ap, ◌∙◌, arith}
use Rattle.json.specs.Json.{parse_map, items, members, value}
use Rattle.json.specs.Reads.{token_of}
use Rattle.json.proofs.Grammar.{value_is, value-begin_array, value-begin_object}
use Rattle.serde_json.specs.Data.{array, object}
use Rattle.serde_json.specs.Read.{of_json, converted}
use Rattle.dr_events.proofs.Conversions.{converted-array, converted-object, rest_some, rest_none}
use Rattle.dr_events.proofs.values.read_value.Goals as goal

pub returns-in_err-token-clause-err : goal.returns-in_err-token-clause-err
returns-in_err-token-clause-err c =
    let empty : c.args.reader.now ≡ [] = grind arith in
    let none : converted of_json (value 126 c.args.reader.now) ≡ None = ap (converted of_json) (ap (value 126) empty ∙ value_is 126 []) in
    grind (arith, none)

pub returns-in_err-pass_items-in-List-clause-err : goal.returns-in_err-pass_items-in-List-clause-err
returns-in_err-pass_items-in-List-clause-err c =
    let r = c.next.new.self in
    let first : c.args.reader.now ≡ token_of c.in_ok-token.token ∷ r = grind arith in
    let opened = ap (converted of_json) (ap (value 126) (first ∙ ap (λ k. k ∷ r) c.in-List.ensures) ∙ value-begin_array 126 r (omega arith)) ∙ converted-array (items (value 125) (length r) r) in
    let none = opened ∙ ap (parse_map array) (rest_none _ c.in_err-pass_items-in-List.ensures.value) in
    grind (arith, none)

pub returns-in_err-pass_members-in-Object-clause-err : goal.returns-in_err-pass_members-in-Object-clause-err
returns-in_err-pass_members-in-Object-clause-err c =
    let r = c.next.new.self in
    let first : c.args.reader.now ≡ token_of c.in_ok-token.token ∷ r = grind arith in
    let opened = ap (converted of_json) (ap (value 126) (first ∙ ap (λ k. k ∷ r) c.in-Object.ensures) ∙ value-begin_object 126 r (omega arith)) ∙ converted-object (members (value 125) (length r) r) in
    let none = opened ∙ ap (parse_map object) (rest_none _ c.in_err-pass_members-in-Object.ensures.value) in
    grind (arith, none)

pub returns-in_ok-pass_items-in-List-clause-value : goal.returns-in_ok-pass_items-in-List-clause-value
returns-in_ok-pass_items-in-List-clause-value c =
    let r = c.next.new.self in
    let first : c.args.reader.now ≡ token_of c.in_ok-token.token ∷ r = grind arith in
    let opened = ap (converted of_json) (ap (value 126) (first ∙ ap (λ k. k ∷ r) c.in-List.ensures) ∙ value-begin_array 126 r (omega arith)) ∙ converted-array (items (value 125) (length r) r) in
    let found = rest_some _ _ c.in_ok-pass_items-in-List.ensures.value in
    (array found.0, opened ∙ ap (parse_map array) found.1, refl)

pub returns-in_ok-pass_members-in-Object-clause-value : goal.returns-in_ok-pass_members-in-Object-clause-value
returns-in_ok-pass_members-in-Object-clause-value c =
    let r = c.next.new.self in
    let first : c.args.reader.now ≡ token_of c.in_ok-token.token ∷ r = grind arith in
    let opened = ap (converted of_json) (ap (value 126) (first ∙ ap (λ k. k ∷ r) c.in-Object.ensures) ∙ value-begin_object 126 r (omega arith)) ∙ converted-object (members (value 125) (length r) r) in
    let found = rest_some _ _ c.in_ok-pass_members-in-Object.ensures.value in
    (object found.0, opened ∙ ap (parse_map object) found.1, refl)
