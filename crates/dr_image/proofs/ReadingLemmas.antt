-- What is read of bytes that were opened as an image.
use Rattle.std.proofs.Common.{◌≡◌, ◌∙◌, sym, ap, ℕ, zero, suc, ◌<◌, Bool, true, List, [], ◌∷◌, length, get_or, arith}
use Rattle.std.specs.Prelude.{nat_lt}
use Rattle.std.specs.List.{list_all}
use Rattle.std.specs.Str.{is_utf8, IsUtf8}
use Rattle.std.proofs.lemmas.Str.{IsUtf8-from_is_utf8}
use Rattle.std.proofs.lemmas.Bool.{and_parts, ltb-true}
use Rattle.std.proofs.lemmas.List.{get_or-map, length-map}
use Rattle.dr_image.specs.Pieces.{pieces}
use Rattle.dr_image.specs.Table.{no_column}
use Rattle.dr_image.specs.Layout.{Part, parts_in, column_in, read_table}
use Rattle.dr_image.specs.Parts.{no_part}
use Rattle.dr_image.specs.Opening.{is_dictionary, numbers_fit, is_index, texts_fit}
use Rattle.dr_image.specs.Checked.{AreChecked, column_at}
use Rattle.dr_image.proofs.PieceLemmas.{length-pieces}

pub all_at : {A : Type 0} (p : A → Bool) (xs : List A) (i : ℕ) (d : A) → list_all p xs ≡ true → i < length xs → p (get_or xs i d) ≡ true
all_at p [] i d all lt = absurd (omega arith)
all_at p (x ∷ xs) zero d all lt = (and_parts _ _ all).0
all_at p (x ∷ xs) (suc i) d all lt = all_at p xs i d (and_parts _ _ all).1 (omega arith)

pub dims_seen : (bytes : List ℕ) → length (read_table bytes).dims ≡ length (parts_in bytes)
unfolding read_table
dims_seen bytes = length-map (parts_in bytes) column_in

-- a dimension that was seen
pub column_is : (bytes : List ℕ) (d : ℕ) (p : Part) → d < length (parts_in bytes) → p ≡ get_or (parts_in bytes) d no_part → column_at (read_table bytes) d ≡ column_in p
unfolding read_table
column_is bytes d p lt seen = get_or-map column_in (parts_in bytes) d no_part no_column lt ∙ ap column_in (sym seen)

pub has_dictionary : (bytes : List ℕ) (d : ℕ) (p : Part) → AreChecked bytes → d < length (parts_in bytes) → p ≡ get_or (parts_in bytes) d no_part → is_dictionary p ≡ true
has_dictionary bytes d p checked lt seen = ap is_dictionary seen ∙ all_at is_dictionary (parts_in bytes) d no_part checked.dictionaries lt

pub has_index : (bytes : List ℕ) (d : ℕ) (p : Part) → AreChecked bytes → d < length (parts_in bytes) → p ≡ get_or (parts_in bytes) d no_part → is_index p ≡ true
has_index bytes d p checked lt seen = ap is_index seen ∙ all_at is_index (parts_in bytes) d no_part checked.indices lt

pub has_numbers : (bytes : List ℕ) (d : ℕ) (p : Part) → AreChecked bytes → d < length (parts_in bytes) → p ≡ get_or (parts_in bytes) d no_part → numbers_fit p ≡ true
has_numbers bytes d p checked lt seen = ap numbers_fit seen ∙ all_at numbers_fit (parts_in bytes) d no_part checked.numbers lt

-- as many texts as ends
pub length-texts : (p : Part) → length (column_in p).dictionary ≡ length p.ends
length-texts p = length-pieces 0 p.ends p.texts

pub number_known : (p : Part) (i : ℕ) → numbers_fit p ≡ true → i < length p.numbers → get_or p.numbers i 0 < length (column_in p).dictionary
number_known p i fit lt =
    let below = ltb-true _ _ (all_at (λ n. nat_lt n (length p.ends)) p.numbers i 0 fit lt) in
    let e = length-texts p in
    omega arith

-- each text is UTF-8
pub text_is_utf8 : (p : Part) (v : ℕ) → is_dictionary p ≡ true → v < length p.ends → IsUtf8 (get_or (pieces 0 p.ends p.texts) v [])
text_is_utf8 p v fit lt =
    let texts : texts_fit (pieces 0 p.ends p.texts) ≡ true = (and_parts _ _ fit).1 in
    let e = length-texts p in
    IsUtf8-from_is_utf8 _ (all_at is_utf8 (pieces 0 p.ends p.texts) v [] (and_parts _ _ texts).0 (omega arith))
