-- The counts of the failed calls and of the reads of a stream.
use Rattle.std.specs.Prelude.{ℕ, ◌+◌, ◌-◌, ◌^◌, min, List, Option, Result, is_ok, if◌then◌else◌}
use Rattle.dr_lines.specs.declared.counted.Counted.{Counted}

-- how many calls failed
abbrev pub failures_of : {T : Type 0} → Counted T → ℕ
failures_of stream = stream.failures

-- how many reads there were
abbrev pub reads_of : {T : Type 0} → Counted T → ℕ
reads_of stream = stream.reads

-- the reader or writer whose calls are counted
abbrev pub inner_of : {T : Type 0} → Counted T → T
inner_of stream = stream.inner

-- the count after a call: one more where it failed, up to the greatest number of 64 bits
abbrev pub failures_after : {X E : Type 0} → ℕ → Result X E → ℕ
failures_after failures call = if is_ok call then failures else min (failures + 1) (2 ^ 64 - 1)

-- a stream as far as a contract sees it
pub record Stream : Type 0 where
  -- the bytes that a reader has left or that a writer holds, where they are known
  pub bytes : Option (List ℕ)
  -- how many calls failed
  pub failures : ℕ
  -- how many reads there were
  pub reads : ℕ

-- a stream whose calls are counted, by what shows its bytes
abbrev pub seen_by : {T : Type 0} → (T → Option (List ℕ)) → Counted T → Stream
seen_by bytes_of stream = record { bytes = bytes_of stream.inner; failures = stream.failures; reads = stream.reads }
