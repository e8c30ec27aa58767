-- Bytes that are JSON, and bytes that are not.
use Rattle.std.proofs.Common.{◌≡◌, ℕ, List, Bool, true, false, refl, Some, None, Ok, Err}
use Rattle.std.specs.Str.{is_utf8, IsUtf8}
use Rattle.std.proofs.lemmas.Str.{is_utf8-from_IsUtf8, IsUtf8-from_is_utf8}
use Rattle.serde_json.specs.Data.{Data}
use Rattle.serde_json.specs.Read.{read}
use Rattle.dr_base.specs.declared.base_error.BaseError.TheVariants.{NotJson}
use Rattle.dr_base.specs.Json.{json_of}

pub is_json : (bytes : List ℕ) (d : Data) → IsUtf8 bytes → read bytes ≡ Some d → json_of bytes ≡ Ok d
unfolding json_of
is_json bytes d text e = rw (is_utf8-from_IsUtf8 bytes text, e) refl

at_test : (bytes : List ℕ) (b : Bool) → is_utf8 bytes ≡ b → (IsUtf8 bytes → read bytes ≡ None) → json_of bytes ≡ Err NotJson
unfolding json_of
at_test bytes true e h = let n = h (IsUtf8-from_is_utf8 bytes e) in rw (e, n) refl
at_test bytes false e h = rw e refl

pub not_json : (bytes : List ℕ) → (IsUtf8 bytes → read bytes ≡ None) → json_of bytes ≡ Err NotJson
not_json bytes h = at_test bytes (is_utf8 bytes) refl h

pub ruleset json_steps = (is_json, not_json)
