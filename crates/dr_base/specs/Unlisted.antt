-- Keys that no table of fields lists. That they pass where they ask for nothing is this project's own rule.
use Rattle.std.specs.Prelude.{ℕ, Bool, true, false, List, Option, Some, None, bytes_eq, ◌||◌, not, if◌then◌else◌}
use Rattle.std.specs.List.{list_any}
use Rattle.serde_json.specs.Data.{Data, null, boolean, number, string, array, object, Items, no_items, item, Members, no_members, member}

abbrev pub is_empty_list : Items → Bool
is_empty_list no_items = true
is_empty_list (item d ds) = false

abbrev pub is_empty_object : Members → Bool
is_empty_object no_members = true
is_empty_object (member k d ms) = false

-- null, false, an empty list or an empty object: a field that asks for nothing
abbrev pub is_lenient : Data → Bool
is_lenient null = true
is_lenient (boolean b) = not b
is_lenient (number n) = false
is_lenient (string s) = false
is_lenient (array ds) = is_empty_list ds
is_lenient (object ms) = is_empty_object ms

-- the first key in ascending byte order, in which the members stand, that isn't listed and asks for something
unfoldable pub unlisted : List (List ℕ) → Members → Option (List ℕ)
unlisted listed no_members = None
unlisted listed (member k d ms) =
    if list_any (bytes_eq k) listed || is_lenient d then unlisted listed ms else Some k
