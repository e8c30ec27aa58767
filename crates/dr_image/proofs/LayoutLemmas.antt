-- Bytes in which the columns of an image lie.
use Rattle.std.proofs.Common.{◌≡◌, ◌∙◌, sym, refl, ap, ℕ, zero, suc, ◌+◌, ◌-◌, ◌*◌, ◌<◌, ◌≤◌, true, List, [], length, drop, get_or, arith, mul-suc, add_comm}
use Rattle.std.proofs.Math.Nat.{mul-le-mul_left}
use Rattle.std.proofs.lemmas.Bool.{and_parts, leb-true, ltb-true}
use Rattle.std.proofs.lemmas.List.{drop-drop, length-map}
use Rattle.dr_image.specs.declared.header.Header.{Header}
use Rattle.std.specs.Simd.{first_chunks}
use Rattle.dr_image.specs.Words.{long, longs}
use Rattle.dr_image.specs.Layout.{Part, header_of, times_at, metrics_at, dims_at, part_of, parts_of, parts_in, rows_in, metrics_of, read_table}
use Rattle.dr_image.specs.Opening.{counts_fit}
use Rattle.dr_image.specs.Parts.{no_part}
use Rattle.dr_image.specs.Starts.{IsStart, IsLaid}
use Rattle.dr_image.proofs.StartLemmas.{get_or-parts_of, length-parts_of}

pub record Counts (h : Header) : Type 0 where
  pub some_row : 1 ≤ h.rows
  pub some_dimension : 1 ≤ h.dims
  pub few_dimensions : h.dims ≤ 64
  pub few_metrics : h.metrics ≤ 64
  pub some_event : h.from < h.to
  pub few_rows : h.rows ≤ h.to - h.from

pub counted : (h : Header) → counts_fit h ≡ true → Counts h
counted h fit =
    let a = and_parts _ _ fit in
    let b = and_parts _ _ a.1 in
    let c = and_parts _ _ b.1 in
    let d = and_parts _ _ c.1 in
    let e = and_parts _ _ d.1 in
    let f = and_parts _ _ e.1 in
    record {
      some_row = leb-true _ _ a.0;
      some_dimension = leb-true _ _ b.0;
      few_dimensions = leb-true _ _ c.0;
      few_metrics = leb-true _ _ d.0;
      some_event = ltb-true _ _ e.0;
      few_rows = leb-true _ _ f.0;
    }

-- as many dimensions and metrics as the header says
pub length-parts_in : (bytes : List ℕ) (h : Header) → h ≡ header_of bytes → h.dims ≡ length (parts_in bytes)
length-parts_in bytes h head =
    sym (length-parts_of h.dims h.rows (drop (dims_at h) bytes)) ∙ ap (λ (k : Header). length (parts_of k.dims k.rows (drop (dims_at k) bytes))) head

length-metrics_of : (m n : ℕ) (bytes : List ℕ) → length (metrics_of m n bytes) ≡ m
unfolding metrics_of
length-metrics_of zero n bytes = refl
length-metrics_of (suc m) n bytes = ap suc (length-metrics_of m n (drop (8 * n) bytes))

pub length-metrics_in : (bytes : List ℕ) (h : Header) → h ≡ header_of bytes → h.metrics ≡ length (read_table bytes).metrics
unfolding read_table
length-metrics_in bytes h head =
    sym (length-metrics_of h.metrics h.rows (drop (metrics_at h) bytes)) ∙ ap (λ (k : Header). length (metrics_of k.metrics k.rows (drop (metrics_at k) bytes))) head

-- a dimension, by where it begins
pub start_of : (bytes : List ℕ) (h : Header) (starts : List ℕ) (d : ℕ) → IsLaid bytes h starts → d < h.dims → IsStart bytes (dims_at h) h.rows d (get_or starts d 0)
start_of bytes h starts d laid lt = laid.begin.each d lt

pub seen_part : (bytes : List ℕ) (h : Header) (starts : List ℕ) (d : ℕ) (p : Part) → h ≡ header_of bytes → IsLaid bytes h starts → d < h.dims
    → p ≡ part_of h.rows (drop (get_or starts d 0) bytes) → p ≡ get_or (parts_in bytes) d no_part
seen_part bytes h starts d p head laid lt is =
    is ∙ ap (part_of h.rows) (start_of bytes h starts d laid lt).is ∙ sym (get_or-parts_of h.dims d h.rows (drop (dims_at h) bytes) no_part lt)
    ∙ ap (λ (k : Header). get_or (parts_of k.dims k.rows (drop (dims_at k) bytes)) d no_part) head

-- a metric, by where it begins
get_or-metrics_of : (metrics m n : ℕ) (bytes : List ℕ) → m < metrics → get_or (metrics_of metrics n bytes) m [] ≡ longs n (drop (8 * n * m) bytes)
unfolding metrics_of
get_or-metrics_of zero m n bytes lt = absurd (omega arith)
get_or-metrics_of (suc metrics) zero n bytes lt = let e : 0 ≡ 8 * n * 0 = omega arith in ap (λ k. longs n (drop k bytes)) e
get_or-metrics_of (suc metrics) (suc m) n bytes lt =
    get_or-metrics_of metrics m n (drop (8 * n) bytes) (omega arith) ∙ ap (longs n) (drop-drop (8 * n * m) (8 * n) bytes ∙ ap (λ k. drop k bytes) (more (8 * n)))
  where
    more : (k : ℕ) → k + k * m ≡ k * suc m
    more k = sym (mul-suc k m ∙ add_comm (k * m) k)

pub seen_metric : (bytes : List ℕ) (h : Header) (m : ℕ) → h ≡ header_of bytes → m < h.metrics
    → longs h.rows (drop (48 + 8 * h.rows + 8 * h.rows * m) bytes) ≡ get_or (read_table bytes).metrics m []
unfolding read_table
seen_metric bytes h m head lt =
    ap (longs h.rows) (sym (drop-drop (8 * h.rows * m) (metrics_at h) bytes)) ∙ sym (get_or-metrics_of h.metrics m h.rows (drop (metrics_at h) bytes) lt)
    ∙ ap (λ (k : Header). get_or (metrics_of k.metrics k.rows (drop (metrics_at k) bytes)) m []) head

-- it lies before the dimensions
pub metric_within : (c m metrics : ℕ) → m < metrics → c * m + c ≤ c * metrics
metric_within c m metrics lt = let le = mul-le-mul_left c lt in let e = mul-suc c m in omega arith

-- as many times as rows
pub length-first_chunks : (k n : ℕ) (bytes : List ℕ) → length (first_chunks k n bytes) ≡ n
length-first_chunks k zero bytes = refl
length-first_chunks k (suc n) bytes = ap suc (length-first_chunks k n (drop k bytes))

pub times_seen : (bytes : List ℕ) → length (read_table bytes).times ≡ rows_in bytes
unfolding read_table
times_seen bytes = length-map (first_chunks 8 (rows_in bytes) (drop times_at bytes)) long ∙ length-first_chunks 8 (rows_in bytes) (drop times_at bytes)

pub rollup_in : (bytes : List ℕ) → (read_table bytes).rollup ≡ (header_of bytes).rollup
unfolding read_table
rollup_in bytes = refl

pub chunk_in : (bytes : List ℕ) → (read_table bytes).chunk ≡ (header_of bytes).chunk
unfolding read_table
chunk_in bytes = refl

pub from_in : (bytes : List ℕ) → (read_table bytes).from ≡ (header_of bytes).from
unfolding read_table
from_in bytes = refl

pub to_in : (bytes : List ℕ) → (read_table bytes).to ≡ (header_of bytes).to
unfolding read_table
to_in bytes = refl
