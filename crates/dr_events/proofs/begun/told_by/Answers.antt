use Rattle.std.proofs.Common.{◌≡◌, ℕ, List, ◌∷◌, None, option_map, refl, ap, ◌∙◌, arith}
use Rattle.json.specs.Token.{Token}
use Rattle.json.specs.Json.{value}
use Rattle.json.specs.Reads.{token_of}
use Rattle.json.proofs.Grammar.{value_is}
use Rattle.serde_json.specs.Data.{null, boolean, number, string}
use Rattle.serde_json.specs.Read.{number_of, of_json, converted}
use Rattle.dr_events.specs.Scalars.{data_of}
use Rattle.dr_events.proofs.Conversions.{number_some, number_none}
use Rattle.dr_events.proofs.begun.told_by.Goals as goal

pub returns-in-Null : goal.returns-in-Null
returns-in-Null c =
    (null, (λ depth ts. ap (λ t. converted of_json (value depth (token_of t ∷ ts))) c.in-Null.is ∙ ap (converted of_json) (value_is depth (Token.null ∷ ts))), refl)

pub returns-in-Bool : goal.returns-in-Bool
returns-in-Bool c =
    let b = c.in-Bool.truth in
    (boolean b, (λ depth ts. ap (λ t. converted of_json (value depth (token_of t ∷ ts))) c.in-Bool.is ∙ ap (converted of_json) (value_is depth (Token.boolean b ∷ ts))), refl)

pub returns-in-String : goal.returns-in-String
returns-in-String c =
    let s = c.in-String.text.now in
    (string s, (λ depth ts. ap (λ t. converted of_json (value depth (token_of t ∷ ts))) c.in-String.is ∙ ap (converted of_json) (value_is depth (Token.string s ∷ ts))), refl)

pub returns-in-Some : goal.returns-in-Some
returns-in-Some c =
    let s = c.in-Number.text.now in
    let n = number_some (number_of s) (data_of c.in-Some.number) c.in-Some.ensures in (
      number n.0,
      (λ depth ts. ap (λ t. converted of_json (value depth (token_of t ∷ ts))) c.in-Number.is ∙ ap (converted of_json) (value_is depth (Token.number s ∷ ts)) ∙ ap (λ o. option_map (λ b. (b, ts)) (option_map number o)) n.1),
      n.2,
    )

pub returns-in-None : goal.returns-in-None
returns-in-None c =
    let s = c.in-Number.text.now in
    λ depth ts. ap (λ t. converted of_json (value depth (token_of t ∷ ts))) c.in-Number.is ∙ ap (converted of_json) (value_is depth (Token.number s ∷ ts)) ∙ ap (λ o. option_map (λ b. (b, ts)) (option_map number o)) (number_none (number_of s) c.in-None.ensures)

pub returns-in-EndObject : goal.returns-in-EndObject
returns-in-EndObject c =
    let none : (depth : ℕ) (ts : List Token) → value depth (token_of c.args.token ∷ ts) ≡ None = λ depth ts. rw (value_is depth (token_of c.args.token ∷ ts)) (grind arith) in
    λ depth ts. ap (converted of_json) (none depth ts)
