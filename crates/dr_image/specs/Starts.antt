-- Where the dimensions of an image begin. No public contract cites this file.
use Rattle.std.specs.Prelude.{◌≡◌, true, ℕ, ◌+◌, ◌<◌, ◌≤◌, List, length, drop, get_or}
use Rattle.dr_image.specs.declared.header.Header.{Header}
use Rattle.dr_image.specs.Layout.{behind, part_size, dims_at}
use Rattle.dr_image.specs.Opening.{counts_fit}

-- a dimension of n rows begins at start, behind d others that begin at a place, and the digest stands behind it
pub record IsStart (bytes : List ℕ) (at n d start : ℕ) : Type 0 where
  pub is : drop start bytes ≡ behind d n (drop at bytes)
  pub front : start + 8 ≤ length bytes
  pub inside : start + part_size n (drop start bytes) ≤ length bytes

pub record AreStarts (bytes : List ℕ) (at n dims : ℕ) (starts : List ℕ) : Type 0 where
  pub long : length starts ≡ 64
  pub each : (d : ℕ) → d < dims → IsStart bytes at n d (get_or starts d 0)

-- the counts fit, and the dimensions begin there
pub record IsLaid (bytes : List ℕ) (h : Header) (starts : List ℕ) : Type 0 where
  pub counts : counts_fit h ≡ true
  pub room : dims_at h + 32 ≤ length bytes
  pub begin : AreStarts bytes (dims_at h) h.rows h.dims starts
