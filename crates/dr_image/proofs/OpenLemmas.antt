-- What was checked of bytes that open as an image.
use Rattle.std.proofs.Common.{◌≡◌, refl, ℕ, Bool, true, false, List, Result, Ok, Err}
use Rattle.dr_base.specs.Reading.{◌>>=◌}
use Rattle.dr_image.specs.declared.image_error.ImageError.{ImageError}
use Rattle.dr_image.specs.declared.image_error.ImageError.TheVariants.{DigestMismatch}
use Rattle.dr_image.specs.Table.{Table}
use Rattle.dr_image.specs.Layout.{read_table}
use Rattle.dr_image.specs.Opening.{unless, framed, filled, open_of, has_digest}
use Rattle.dr_image.specs.Checked.{AreChecked}

-- a check that is passed, and what follows it
pub record IsPassed {A : Type 0} (b : Bool) (rest : Result A ImageError) (x : A) : Type 0 where
  pub passes : b ≡ true
  pub rest_is : rest ≡ Ok x

pub passed_by : {A : Type 0} (e : ImageError) (b : Bool) (f : Unit {0} → Result A ImageError) (x : A) → (unless e b >>= f) ≡ Ok x → IsPassed b (f tt) x
passed_by e true f x h = record { passes = refl; rest_is = h }
passed_by e false f x h = absurd cc

pub passed_last : (e : ImageError) (b : Bool) (x : Unit {0}) → unless e b ≡ Ok x → b ≡ true
passed_last e true x h = refl
passed_last e false x h = absurd cc

pub record Goes {A B : Type 0} (r : Result A ImageError) (f : A → Result B ImageError) (x : B) : Type 0 where
  pub first : A
  pub first_is : r ≡ Ok first
  pub rest_is : f first ≡ Ok x

pub goes_by : {A B : Type 0} (r : Result A ImageError) (f : A → Result B ImageError) (x : B) → (r >>= f) ≡ Ok x → Goes r f x
goes_by (Ok y) f x h = record { first = y; first_is = refl; rest_is = h }
goes_by (Err e) f x h = absurd cc

pub checked_by : (bytes : List ℕ) (u : Unit {0}) → filled bytes ≡ Ok u → AreChecked bytes
unfolding filled
checked_by bytes u h =
    let a = passed_by _ _ _ _ h in
    let b = passed_by _ _ _ _ a.rest_is in
    let c = passed_by _ _ _ _ b.rest_is in
    let d = passed_by _ _ _ _ c.rest_is in
    record { dictionaries = a.passes; numbers = b.passes; times = c.passes; ranks = d.passes; indices = passed_last _ _ _ d.rest_is }

pub record IsOpen (bytes : List ℕ) : Type 0 where
  pub frame : framed bytes ≡ Ok tt
  pub undamaged : has_digest bytes ≡ true
  pub checked : AreChecked bytes

abbrev pub got : Table → Result Table ImageError
got t = Ok t

pub table_same : (t u : Table) → got t ≡ got u → t ≡ u
table_same t u e = cc

-- the columns are those that are read
pub opened_as : (bytes : List ℕ) (t : Table) → open_of bytes ≡ Ok t → read_table bytes ≡ t
unfolding open_of
opened_as bytes t h =
    let a = goes_by (framed bytes) _ t h in
    let b = passed_by DigestMismatch (has_digest bytes) _ t a.rest_is in
    let c = goes_by (filled bytes) _ t b.rest_is in
    table_same (read_table bytes) t c.rest_is

pub opened : (bytes : List ℕ) (t : Table) → open_of bytes ≡ Ok t → IsOpen bytes
unfolding open_of
opened bytes t h =
    let a = goes_by _ _ _ h in
    let b = passed_by _ _ _ _ a.rest_is in
    let c = goes_by _ _ _ b.rest_is in
    record { frame = a.first_is; undamaged = b.passes; checked = checked_by bytes c.first c.first_is }

pub opens_with : (bytes : List ℕ) (u : Unit {0}) → framed bytes ≡ Ok tt → has_digest bytes ≡ true → filled bytes ≡ Ok u → open_of bytes ≡ Ok (read_table bytes)
unfolding open_of
opens_with bytes u frame undamaged right = rw (frame, undamaged, right) refl
