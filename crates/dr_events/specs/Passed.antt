-- What a text is by its tokens: whether an object begins, its members, and what follows a value that was passed over. No public
-- contract cites this file.
use Rattle.std.specs.Prelude.{◌≡◌, ℕ, List, [], ◌∷◌, length, Bool, true, false, Option, Some, None, option_map, Result}
use Rattle.json.specs.Token.{Token}
use Rattle.json.specs.Json.{members, value}
use Rattle.serde_json.specs.Data.{Data, Members, no_members}
use Rattle.serde_json.specs.Read.{read, of_json, of_members, converted}
use Rattle.dr_base.specs.Reading.{◌>>=◌, passed}
use Rattle.dr_base.specs.Json.{or_not_json}
use Rattle.dr_events.specs.declared.begun.Begun.{Begun}
use Rattle.dr_events.specs.declared.begun.Begun.TheVariants.{Whole, List as ListBegun, Object as ObjectBegun, Wrong}
use Rattle.dr_events.specs.Scalars.{data_of, plain}
use Rattle.dr_events.specs.declared.unparseable.Unparseable.{Unparseable}
use Rattle.dr_events.specs.declared.unparseable.Unparseable.TheVariants.{NotAnObject}
use Rattle.dr_events.specs.EventOf.{as_event}

abbrev pub rest : {A : Type 0} → Option (A × List Token) → Option (List Token)
rest read = option_map (λ p. p.1) read

abbrev pub begins_object : List Token → Bool
begins_object [] = false
begins_object (Token.begin_object ∷ ts) = true
begins_object (Token.end_object ∷ ts) = false
begins_object (Token.begin_array ∷ ts) = false
begins_object (Token.end_array ∷ ts) = false
begins_object (Token.key s ∷ ts) = false
begins_object (Token.string s ∷ ts) = false
begins_object (Token.number s ∷ ts) = false
begins_object (Token.boolean b ∷ ts) = false
begins_object (Token.null ∷ ts) = false
begins_object (Token.bad ∷ ts) = false

-- what a token tells of the value that begins with it: all that columns see of it, that a list or an object begins, or that there is no value
abbrev pub Begins : Token → Begun → Type 0
Begins t (Whole s) = (d : Data) × ((depth : ℕ) (ts : List Token) → converted of_json (value depth (t ∷ ts)) ≡ Some (d, ts)) × (plain d ≡ data_of s)
Begins t ListBegun = t ≡ Token.begin_array
Begins t ObjectBegun = t ≡ Token.begin_object
Begins t Wrong = (depth : ℕ) (ts : List Token) → converted of_json (value depth (t ∷ ts)) ≡ None

-- the members that follow the brace of the outermost object
abbrev pub members_at : List Token → Option (Members × List Token)
members_at ts = converted (λ js. of_members js no_members) (members (value 126) (length ts) ts)

-- the object that was read, where one was
abbrev pub object_in : Option Data → Result Data Unparseable
object_in o = passed (λ e. NotAnObject) (or_not_json o) >>= as_event

-- the object that a text spells
abbrev pub object_in_text : List ℕ → Result Data Unparseable
object_in_text text = object_in (read text)
