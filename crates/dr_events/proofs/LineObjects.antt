-- The object of a text and of a line, by its tokens.
use Rattle.std.proofs.Common.{◌≡◌, ◌∙◌, refl, ap, ℕ, List, [], ◌∷◌, length, false, Option, Some, None, Ok, Err, arith}
use Rattle.std.specs.Prelude.{option_map, option_and_then}
use Rattle.std.specs.Str.{IsUtf8}
use Rattle.std.proofs.lemmas.Str.{is_utf8-from_IsUtf8}
use Rattle.json.specs.Token.{Token}
use Rattle.json.specs.Lex.{tokens}
use Rattle.json.specs.Json as json
use Rattle.json.specs.Json.{Parse, parse_map, members, value, value_with, if_last}
use Rattle.json.proofs.Grammar.{value_is, value-begin_object}
use Rattle.serde_json.specs.Data.{Num, Data, Items, Members, number, array, object}
use Rattle.serde_json.specs.Read.{number_of, of_json, of_items, converted}
use Rattle.dr_base.specs.Json.{json_of}
use Rattle.dr_base.proofs.JsonTexts.{not_json}
use Rattle.dr_events.specs.declared.unparseable.Unparseable.TheVariants.{NotAnObject}
use Rattle.dr_events.specs.EventOf.{object_of}
use Rattle.dr_events.specs.Passed.{begins_object, members_at, object_in, object_in_text}
use Rattle.dr_events.proofs.Conversions.{converted_some, refused, converted-object}

abbrev whole : Option (json.Json × List Token) → Option Data
whole o = option_and_then of_json (option_and_then (λ p. if_last p.0 p.1) o)

whole_read : (o : Option (json.Json × List Token)) (d : Data) → converted of_json o ≡ Some (d, []) → whole o ≡ Some d
whole_read o d e = let j = converted_some of_json o d [] e in ap whole j.1 ∙ j.2

whole_and_more : (o : Option (json.Json × List Token)) (d : Data) (t : Token) (r : List Token) → converted of_json o ≡ Some (d, t ∷ r) → whole o ≡ None
whole_and_more o d t r e = ap whole (converted_some of_json o d (t ∷ r) e).1

whole_refused : (o : Option (json.Json × List Token)) → converted of_json o ≡ None → whole o ≡ None
whole_refused None e = refl
whole_refused (Some (j, [])) e = refused [] (of_json j) e
whole_refused (Some (j, t ∷ r)) e = refl

opened : (text : List ℕ) (r : List Token) → tokens text ≡ Token.begin_object ∷ r → converted of_json (value 127 (tokens text)) ≡ parse_map object (members_at r)
opened text r is = ap (converted of_json) (ap (value 127) is ∙ value-begin_object 127 r (omega arith)) ∙ converted-object (members (value 126) (length r) r)

-- a text of an object and nothing behind it
pub text_read : (text : List ℕ) (r : List Token) (ms : Members) → tokens text ≡ Token.begin_object ∷ r → members_at r ≡ Some (ms, []) → object_in_text text ≡ Ok (object ms)
text_read text r ms is e = ap object_in (whole_read (value 127 (tokens text)) (object ms) (opened text r is ∙ ap (parse_map object) e))

-- something behind it
pub text_and_more : (text : List ℕ) (r s : List Token) (t : Token) (ms : Members) → tokens text ≡ Token.begin_object ∷ r → members_at r ≡ Some (ms, t ∷ s) → object_in_text text ≡ Err NotAnObject
text_and_more text r s t ms is e = ap object_in (whole_and_more (value 127 (tokens text)) (object ms) t s (opened text r is ∙ ap (parse_map object) e))

-- members that are none
pub text_refused : (text : List ℕ) (r : List Token) → tokens text ≡ Token.begin_object ∷ r → members_at r ≡ None → object_in_text text ≡ Err NotAnObject
text_refused text r is e = ap object_in (whole_refused (value 127 (tokens text)) (opened text r is ∙ ap (parse_map object) e))

-- ---- a text of something else

no_number : (o : Option Num) → object_in (option_map number o) ≡ Err NotAnObject
no_number None = refl
no_number (Some n) = refl

no_list : (o : Option Items) → object_in (option_map array o) ≡ Err NotAnObject
no_list None = refl
no_list (Some ds) = refl

alone : (j : json.Json) (ts : List Token) → object_in (of_json j) ≡ Err NotAnObject → object_in (whole (Some (j, ts))) ≡ Err NotAnObject
alone j [] h = h
alone j (t ∷ ts) h = refl

no_array : (o : Option (json.Items × List Token)) → object_in (whole (parse_map json.array o)) ≡ Err NotAnObject
no_array None = refl
no_array (Some (js, ts)) = alone (json.array js) ts (no_list (of_items js))

by_token : (a : Parse json.Items) (o : Parse json.Members) (ts : List Token) → begins_object ts ≡ false → object_in (whole (value_with a o ts)) ≡ Err NotAnObject
by_token a o [] h = refl
by_token a o (Token.begin_object ∷ ts) h = cc
by_token a o (Token.end_object ∷ ts) h = refl
by_token a o (Token.begin_array ∷ ts) h = no_array (a ts)
by_token a o (Token.end_array ∷ ts) h = refl
by_token a o (Token.key s ∷ ts) h = refl
by_token a o (Token.string s ∷ ts) h = alone (json.string s) ts refl
by_token a o (Token.number s ∷ ts) h = alone (json.number s) ts (no_number (number_of s))
by_token a o (Token.boolean b ∷ ts) h = alone (json.boolean b) ts refl
by_token a o (Token.null ∷ ts) h = alone json.null ts refl
by_token a o (Token.bad ∷ ts) h = refl

pub text_no_object : (text : List ℕ) → begins_object (tokens text) ≡ false → object_in_text text ≡ Err NotAnObject
text_no_object text h = ap (λ o. object_in (whole o)) (value_is 127 (tokens text)) ∙ by_token _ _ (tokens text) h

-- ---- the bytes of a line

pub object_of-text : (bytes text : List ℕ) → text ≡ bytes → IsUtf8 bytes → object_of bytes ≡ object_in_text text
unfolding object_of json_of
object_of-text bytes text same utf8 = rw (same, is_utf8-from_IsUtf8 bytes utf8) refl

pub object_of-no_text : (bytes : List ℕ) → (IsUtf8 bytes → ⊥) → object_of bytes ≡ Err NotAnObject
unfolding object_of
object_of-no_text bytes fails = rw (not_json bytes (λ utf8. absurd (fails utf8))) refl
