-- The command line of the program: what `clap` is told of its words, and what it asks for, by what `clap` reads.
use Rattle.std.specs.Prelude.{◌≡◌, ◌⊎◌, ℕ, Bool, true, nat_le, ◌≤◌, ◌&&◌, List, [], ◌∷◌, length, map, Option, Some, None, Result, Ok, Err, codes, if◌then◌else◌}
use Rattle.std.specs.Str.{bytes_eq}
use Rattle.clap.specs.Lexer.{usize_max}
use Rattle.clap.specs.Words.{App, Row, Rule, Text, all_of, fault_of, first_of, new_app, new_rule, subcommand_of, with_rule, with_subcommand}
use Rattle.clap.specs.Kinds.{Kinds}
use Rattle.clap.specs.Simple.{on_top}
use Rattle.clap.specs.Walk.{byte_or_zero}
use Rattle.clap.specs.declared.builder.action.ArgAction.TheVariants.{Set}
use Rattle.clap.specs.declared.error.kind.ErrorKind.{ErrorKind}
use Rattle.clap.specs.declared.error.kind.ErrorKind.TheVariants.{OutOfMemory}
use Rattle.dr_base.specs.Reading.{◌>>=◌}
use Rattle.dr_usage.specs.declared.usage_error.UsageError.{UsageError}
use Rattle.dr_usage.specs.declared.usage_error.UsageError.TheVariants.{NoMemory, BadUsage}
use Rattle.dr_usage.specs.declared.command.Command.{Command}
use Rattle.dr_usage.specs.declared.command.Command.TheVariants.{Run, Load, Dump}

-- what the program is asked to do
pub data Asked : Type 0 where
  run : (workers : ℕ) → Asked
  load : (workers : ℕ) (spec query : Text) (files : List Text) → Asked
  dump : (file : Text) → Asked

abbrev pub seen : Command → Asked
seen (Run workers) = run workers
seen (Load workers spec query files) = load workers spec.now query.now (map (λ file. file.now) files.items)
seen (Dump file) = dump file.now

-- there are 1 to 16 workers, and 1 to 6 files
abbrev pub AreWorkers : ℕ → Type 0
AreWorkers workers = (1 ≤ workers) × (workers ≤ 16)

abbrev pub AreFiles : {A : Type 0} → List A → Type 0
AreFiles files = (1 ≤ length files) × (length files ≤ 6)

abbrev pub IsInBounds : Command → Type 0
IsInBounds (Run workers) = AreWorkers workers
IsInBounds (Load workers spec query files) = AreWorkers workers × AreFiles files.items
IsInBounds (Dump file) = Unit {0}

-- ---- what `clap` is told

-- the option `--workers N`
abbrev pub workers_rule : Rule
workers_rule = record (new_rule (codes "workers")) { long = Some (codes "workers"); action = Some Set }

-- a word that has to be there
abbrev pub word_rule : Text → Rule
word_rule id = record (new_rule id) { required = true; action = Some Set }

-- one word at least
abbrev pub files_rule : Rule
files_rule = record (new_rule (codes "FILE")) { required = true; action = Some Set; range = Some (record { start_inclusive = 1; end_inclusive = usize_max }) }

unfoldable pub run_usage : App
run_usage = with_rule (new_app (codes "run")) workers_rule

unfoldable pub load_usage : App
load_usage = with_rule (with_rule (with_rule (with_rule (new_app (codes "load")) workers_rule) (word_rule (codes "SPEC"))) (word_rule (codes "QUERY"))) files_rule

unfoldable pub dump_usage : App
dump_usage = with_rule (new_app (codes "dump")) (word_rule (codes "FILE"))

-- the program's words: a subcommand with its words, and no request for help
unfoldable pub usage : App
usage =
    with_subcommand (with_subcommand (with_subcommand
    (on_top (λ s. record s { no_binary_name = true; disable_help_flag = true; disable_help_subcommand = true; subcommand_required = true }) (new_app (codes "druid-node")))
    run_usage.top) load_usage.top) dump_usage.top

-- ---- what `clap` reads

-- what was found, where `clap` has no fault to tell
abbrev pub without_fault : {A : Type 0} → Kinds → Option A → Result A UsageError
without_fault [] (Some found) = Ok found
without_fault [] None = Err BadUsage
without_fault (kind ∷ kinds) found = Err BadUsage

-- the faults that `clap` finds in the words
unfoldable pub faults : List Text → Kinds
faults words = fault_of usage words

-- the subcommand that `clap` finds in them, with the values of its words
unfoldable pub found : List Text → Option (Text × List Row)
found words = subcommand_of usage words

-- the refusal for an error of that kind: want of memory, or bad usage
abbrev pub IsRefusedFor : ErrorKind → UsageError → Type 0
IsRefusedFor kind refusal = ((kind ≡ OutOfMemory) × (refusal ≡ NoMemory)) ⊎ ((kind ≡ OutOfMemory → ⊥) × (refusal ≡ BadUsage))

-- ---- what it asks for

abbrev pub or_bad_usage : {A : Type 0} → Option A → Result A UsageError
or_bad_usage (Some x) = Ok x
or_bad_usage None = Err BadUsage

-- a decimal number of 1 to 16
abbrev pub workers_of : Text → Result ℕ UsageError
workers_of text = if nat_le 1 (byte_or_zero text) && nat_le (byte_or_zero text) 16 then Ok (byte_or_zero text) else Err BadUsage

-- that many workers, and one where nothing is said
abbrev pub workers_by : Option Text → Result ℕ UsageError
workers_by None = Ok 1
workers_by (Some text) = workers_of text

abbrev pub workers_in : List Row → Result ℕ UsageError
workers_in rows = workers_by (first_of (codes "workers") rows)

abbrev pub word_in : Text → List Row → Result Text UsageError
word_in id rows = or_bad_usage (first_of id rows)

-- 1 to 6
abbrev pub is_few : ℕ → Bool
is_few count = nat_le 1 count && nat_le count 6

abbrev pub few : List Text → Result (List Text) UsageError
few files = if is_few (length files) then Ok files else Err BadUsage

abbrev pub files_in : List Row → Result (List Text) UsageError
files_in rows = do
  files ← or_bad_usage (all_of (codes "FILE") rows)
  few files

abbrev pub run_in : List Row → Result Asked UsageError
run_in rows = do
  workers ← workers_in rows
  Ok (run workers)

abbrev pub load_in : List Row → Result Asked UsageError
load_in rows = do
  workers ← workers_in rows
  spec ← word_in (codes "SPEC") rows
  query ← word_in (codes "QUERY") rows
  files ← files_in rows
  Ok (load workers spec query files)

abbrev pub dump_in : List Row → Result Asked UsageError
dump_in rows = do
  file ← word_in (codes "FILE") rows
  Ok (dump file)

-- by the name of the subcommand
abbrev pub named : Text × List Row → Result Asked UsageError
named (name, rows) =
    if bytes_eq (codes "run") name then run_in rows
    else if bytes_eq (codes "load") name then load_in rows
    else if bytes_eq (codes "dump") name then dump_in rows
    else Err BadUsage

-- what the words behind the program's name ask for
abbrev pub command_of : List Text → Result Asked UsageError
command_of words = do
  entry ← without_fault (faults words) (found words)
  named entry
