-- What was checked of bytes that were opened as an image.
use Rattle.std.specs.Prelude.{◌≡◌, true, Ok, ℕ, List, get_or}
use Rattle.std.specs.List.{list_all}
use Rattle.dr_image.specs.Layout.{parts_in, read_table}
use Rattle.dr_image.specs.Table.{Column, Table, no_column}
use Rattle.dr_image.specs.Laws.{sealed_by, IsImageOf}
use Rattle.dr_image.specs.Opening.{is_dictionary, numbers_fit, is_index, times_fit, ranks_fit, open_of}

pub record AreChecked (bytes : List ℕ) : Type 0 where
  pub dictionaries : list_all is_dictionary (parts_in bytes) ≡ true
  pub numbers : list_all numbers_fit (parts_in bytes) ≡ true
  pub times : times_fit (read_table bytes).chunk (read_table bytes).times ≡ true
  pub ranks : ranks_fit (read_table bytes).rollup (read_table bytes).times (parts_in bytes) ≡ true
  pub indices : list_all is_index (parts_in bytes) ≡ true

-- a dimension
abbrev pub column_at : Table → ℕ → Column
column_at t d = get_or t.dims d no_column

-- the bytes open as an image, and are the one of what is read from them
pub record Opens (bytes : List ℕ) : Type 0 where
  pub opens : open_of bytes ≡ Ok (read_table bytes)
  pub checked : AreChecked bytes
  pub image : IsImageOf bytes (sealed_by (read_table bytes))
