-- Reading and writing agree.
use Rattle.std.proofs.Common.{◌≡◌, ◌∙◌, sym, ap, subst, ℕ, ◌≤◌, List, length, Result, Ok, Err, IsOk, IfOk, true, refl}
use Rattle.dr_image.specs.Sealed.{Sealed}
use Rattle.dr_image.specs.Image.{image, table_of}
use Rattle.dr_image.specs.Opening.{framed, has_digest, filled, open_of}
use Rattle.dr_image.specs.Laws.{sealed_by, IsImageOf, IsImage, ImagesDiffer}
use Rattle.dr_image.proofs.OpenLemmas.{got, table_same, opened, opened_as, opens_with}
use Rattle.dr_image.proofs.OpenedLemmas.{opened_is_image}
use Rattle.dr_image.proofs.SpellingLemmas.{AreBytes}
use Rattle.dr_image.specs.Layout.{read_table}
use Rattle.dr_image.specs.Parts.{outcome}
use Rattle.dr_image.specs.Checked.{Opens}
use Rattle.dr_image.proofs.RowLemmas.{sealed_again}
use Rattle.dr_image.proofs.EncodedLemmas.{image_opens}

pub images_differ : ImagesDiffer
images_differ s r has_s has_r bound same =
    let few : length (image r) ≤ 1073741824 = subst (λ (bytes : List ℕ). length bytes ≤ 1073741824) same bound in
    let one : got (table_of s) ≡ got (table_of r) = sym (image_opens s has_s bound) ∙ ap open_of same ∙ image_opens r has_r few in
    sym (sealed_again s has_s) ∙ ap sealed_by (table_same (table_of s) (table_of r) one) ∙ sealed_again r has_r

-- ---- the invariant of a view

pub opens_at : (bytes : List ℕ) → AreBytes bytes → open_of bytes ≡ Ok (read_table bytes) → Opens bytes
opens_at bytes fits e = record { opens = e; checked = (opened bytes (read_table bytes) e).checked; image = opened_is_image bytes (read_table bytes) fits e }

pub opens_by : (bytes : List ℕ) (u : Unit {0}) → AreBytes bytes → framed bytes ≡ Ok tt → has_digest bytes ≡ true → filled bytes ≡ Ok u → Opens bytes
opens_by bytes u fits frame undamaged right = opens_at bytes fits (opens_with bytes u frame undamaged right)

-- ---- bytes that are known to be an image

pub image_of_opens : (bytes : List ℕ) (s : Sealed) → IsImageOf bytes s → open_of bytes ≡ Ok (table_of s)
image_of_opens bytes s is =
    let few : length (image s) ≤ 1073741824 = subst (λ (k : List ℕ). length k ≤ 1073741824) is.is is.few in
    ap open_of is.is ∙ image_opens s is.has few

pub image_read : (bytes : List ℕ) (s : Sealed) → IsImageOf bytes s → read_table bytes ≡ table_of s
image_read bytes s is = opened_as bytes (table_of s) (image_of_opens bytes s is)

pub image_framed : (bytes : List ℕ) → IsImage bytes → framed bytes ≡ Ok tt
image_framed bytes is = (opened bytes (table_of is.sealed) (image_of_opens bytes is.sealed is.is)).frame

pub image_opened : (bytes : List ℕ) → IsImage bytes → open_of bytes ≡ Ok (read_table bytes)
image_opened bytes is = image_of_opens bytes is.sealed is.is ∙ ap Ok (sym (image_read bytes is.sealed is.is))

pub image_sealed : (bytes : List ℕ) (s : Sealed) → IsImageOf bytes s → sealed_by (read_table bytes) ≡ s
image_sealed bytes s is = ap sealed_by (image_read bytes s is) ∙ sealed_again s is.has

-- a result with no refusal
pub ok_by : {X E : Type 0} (r : Result X E) → outcome r ≡ Ok tt → IsOk r
ok_by (Ok x) e = refl
ok_by (Err f) e = absurd cc

pub ok_gives : {X E : Type 0} (P : X → Type 0) (r : Result X E) (x : X) → IfOk r P → r ≡ Ok x → P x
ok_gives {X} {E} P r x h e = subst (λ (k : Result X E). IfOk k P) e h
