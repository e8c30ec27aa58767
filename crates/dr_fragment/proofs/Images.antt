-- A fragment of the bytes of an image.
use Rattle.std.proofs.Common.{◌≡◌, ◌∙◌, sym, ap, ℕ, ℤ, List, Ok}
use Rattle.dr_image.specs.Sealed.{Sealed}
use Rattle.dr_image.specs.Table.{Table, rows_of}
use Rattle.dr_image.specs.Layout.{read_table}
use Rattle.dr_image.specs.Opening.{open_of}
use Rattle.dr_image.specs.Laws.{IsImage, IsImageOf, sealed_by}
use Rattle.dr_image.proofs.SpellingLemmas.{AreBytes}
use Rattle.dr_image.proofs.OpenLemmas.{opened_as}
use Rattle.dr_image.proofs.OpenedLemmas.{opened_is_image}
use Rattle.dr_image.proofs.LawLemmas.{image_opened, image_sealed}
use Rattle.dr_fragment.specs.Ranged.{Ranged, range_in, range_sealed, range_opened}
use Rattle.dr_fragment.specs.Held.{IsImageAt}

-- bytes that open are an image of the range that they open as
pub opened_at : (bytes : List ℕ) (t : Table) → AreBytes bytes → open_of bytes ≡ Ok t → IsImageAt t.chunk t.from t.to bytes
opened_at bytes t fits e =
    let same : read_table bytes ≡ t = opened_as bytes t e in record {
      image = record { sealed = sealed_by t; is = opened_is_image bytes t fits e };
      chunk_is = ap (λ (u : Table). u.chunk) same;
      from_is = ap (λ (u : Table). u.from) same;
      to_is = ap (λ (u : Table). u.to) same;
    }

-- and so are bytes that are known to be an image
pub known_at : (bytes : List ℕ) (t : Table) → IsImage bytes → open_of bytes ≡ Ok t → IsImageAt t.chunk t.from t.to bytes
known_at bytes t is e =
    let same : read_table bytes ≡ t = opened_as bytes t e in record {
      image = is;
      chunk_is = ap (λ (u : Table). u.chunk) same;
      from_is = ap (λ (u : Table). u.from) same;
      to_is = ap (λ (u : Table). u.to) same;
    }

pub range_at : (bytes : List ℕ) (chunk : ℤ) (from to : ℕ) (f : Ranged) → IsImageAt chunk from to bytes → f ≡ record { chunk = chunk; from = from; to = to; rows = rows_of (read_table bytes) } → f ≡ range_in (read_table bytes)
range_at bytes chunk from to f is e = e ∙ (λ i. record { chunk = (sym is.chunk_is) i; from = (sym is.from_is) i; to = (sym is.to_is) i; rows = rows_of (read_table bytes) })

-- the fragment that such bytes open as
pub range_opens : (bytes : List ℕ) (chunk : ℤ) (from to : ℕ) (f : Ranged) → IsImageAt chunk from to bytes → f ≡ record { chunk = chunk; from = from; to = to; rows = rows_of (read_table bytes) } → range_opened bytes ≡ Ok f
range_opens bytes chunk from to f is e =
    let opens : open_of bytes ≡ Ok (read_table bytes) = image_opened bytes is.image in
    rw opens (ap Ok (sym (range_at bytes chunk from to f is e)))

pub range_of_sealed : (bytes : List ℕ) (chunk : ℤ) (from to : ℕ) (f : Ranged) → IsImageAt chunk from to bytes → f ≡ record { chunk = chunk; from = from; to = to; rows = rows_of (read_table bytes) } → (s : Sealed) → IsImageOf bytes s → f ≡ range_sealed s
range_of_sealed bytes chunk from to f is e s of = range_at bytes chunk from to f is e ∙ ap range_sealed (image_sealed bytes s of)
