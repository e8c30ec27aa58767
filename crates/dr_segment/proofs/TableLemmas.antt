-- Columns that stand for rows are those of the rows.
use Rattle.std.proofs.Common.{◌≡◌, ◌∙◌, ap, refl, ℕ, zero, suc, ◌<◌, true, List, [], ◌∷◌, length, map, get_or, arith, All, Contains, IsUtf8}
use Rattle.std.specs.List.{list_all}
use Rattle.std.specs.Str.{is_utf8}
use Rattle.std.proofs.lemmas.Bool.{and_from}
use Rattle.std.proofs.lemmas.Str.{is_utf8-from_IsUtf8}
use Rattle.std.proofs.lemmas.List.{get_or_default}
use Rattle.std.proofs.lemmas.List.Elements.{All-get_or}
use Rattle.dr_image.specs.Table.{Column, no_column}
use Rattle.dr_image.specs.Image.{lists_of, image, bytes_of}
use Rattle.dr_image.specs.Checked.{column_at}
use Rattle.dr_image.specs.Laws.{sealed_by}
use Rattle.dr_image.proofs.ListingLemmas.{HasRow}
use Rattle.dr_image.proofs.TableLemmas.{IsListed, table_again}
use Rattle.dr_segment.specs.declared.dimension.Dimension.{Dimension}
use Rattle.dr_segment.specs.declared.columns.Columns.{Columns}
use Rattle.dr_segment.specs.Tables.{column_seen, table_seen, IsDimensionOf, StandForRows}

all_utf8 : (ts : List (List ℕ)) → All IsUtf8 ts → list_all is_utf8 ts ≡ true
all_utf8 [] all = refl
all_utf8 (t ∷ ts) all = and_from (is_utf8 t) (list_all is_utf8 ts) (is_utf8-from_IsUtf8 t (all 0 t (omega arith))) (all_utf8 ts (λ k d lt. all (suc k) d (omega arith)))

has_lists : (ds : List Dimension) (d : ℕ) → d < length (map column_seen ds) → (get_or (map column_seen ds) d no_column).lists ≡ lists_of (length (get_or (map column_seen ds) d no_column).dictionary) (get_or (map column_seen ds) d no_column).numbers
has_lists [] d lt = absurd (omega arith)
has_lists (x ∷ ds) zero lt = refl
has_lists (x ∷ ds) (suc d) lt = has_lists ds d (omega arith)

is_listed : (n : ℕ) (c : Column) → c.lists ≡ lists_of (length c.dictionary) c.numbers → IsDimensionOf n c → IsListed n c
is_listed n c lists is = record {
  long = is.long;
  utf8 = all_utf8 c.dictionary is.texts;
  rises = is.rises;
  below = λ i lt. All-get_or (λ v. v < length c.dictionary) c.numbers i 0 (let long = is.long in omega arith) is.known;
  lists = lists;
  used = λ v lt. row v (is.used v lt);
}
  where
    row : (v : ℕ) → Contains c.numbers v → HasRow c.numbers v
    row v there = record { row = there.0; inside = there.1; is = get_or_default c.numbers there.0 0 v there.1 ∙ there.2 }

pub image_by : (c : Columns) → StandForRows (table_seen c) → image (sealed_by (table_seen c)) ≡ bytes_of (table_seen c)
image_by c rows = ap bytes_of (table_again (table_seen c) (record { columns = λ d lt. is_listed (length (table_seen c).times) (column_at (table_seen c) d) (has_lists c.dims.items d lt) (rows.dims d lt); metrics = rows.metrics }))
