-- What a parse of `clap` says of the words of the program.
use Rattle.std.proofs.Common.{◌≡◌, ◌⊎◌, inl, inr, true, false, List, [], ◌∷◌, Option, Some, None, option_map, Ok, Err, refl, ap, ap₂, sym, subst}
use Rattle.std.specs.Prelude.{Box}
use Rattle.std.specs.Box.{box_value}
use Rattle.std.proofs.lemmas.Bool.{false≢true}
use Rattle.clap.specs.Words.{App, FailsBy, HasKind, HasMatchesOf, IsAmong, Row, Text, fault_of, is_simple, is_simple_and_free, subcommand_rows, subcommand_rows_of}
use Rattle.clap.specs.Kinds.{Kinds}
use Rattle.clap.specs.declared.error.Error.{Error}
use Rattle.clap.specs.declared.error.kind.ErrorKind.{ErrorKind}
use Rattle.clap.specs.declared.error.kind.ErrorKind.TheVariants.{OutOfMemory}
use Rattle.clap.specs.declared.parser.matches.ArgMatches.{ArgMatches}
use Rattle.clap.specs.declared.parser.matches.ArgMatches.TheViews.{out-SubCommand}
use Rattle.clap.specs.declared.parser.matches.SubCommand.{SubCommand}
use Rattle.dr_base.specs.Reading.{◌>>=◌}
use Rattle.dr_usage.specs.declared.usage_error.UsageError.{UsageError}
use Rattle.dr_usage.specs.declared.usage_error.UsageError.TheVariants.{BadUsage}
use Rattle.dr_usage.specs.Refusal.{is_memory}
use Rattle.dr_usage.specs.Usage.{IsRefusedFor, command_of, dump_usage, faults, found, load_usage, named, run_usage, usage, without_fault}

is_free-here : is_simple_and_free usage ≡ true
unfolding usage run_usage load_usage dump_usage
is_free-here = refl

is_simple-here : is_simple usage ≡ true
unfolding usage run_usage load_usage dump_usage
is_simple-here = refl

module _ (app : App) (is_usage : app ≡ usage) (words : List Text) where
  pub found_is : (m : ArgMatches) → HasMatchesOf app words m → found words ≡ subcommand_rows_of m
  unfolding found
  found_is m matches =
      let P : App → Type 0 = λ a. HasMatchesOf a words m in
      sym (subst P is_usage matches is_simple-here).1

  pub no_faults : (m : ArgMatches) → (is_simple_and_free app ≡ true → FailsBy (fault_of app words) (Ok m)) → faults words ≡ []
  unfolding faults
  no_faults m fails =
      let P : App → Type 0 = λ a. is_simple_and_free a ≡ true → FailsBy (fault_of a words) (Ok m) in
      subst P is_usage fails is_free-here

  pub some_fault : (e : Error) → (is_simple_and_free app ≡ true → FailsBy {T = ArgMatches} (fault_of app words) (Err e)) → HasKind (faults words) e
  unfolding faults
  some_fault e fails =
      let P : App → Type 0 = λ a. is_simple_and_free a ≡ true → FailsBy {T = ArgMatches} (fault_of a words) (Err e) in
      subst P is_usage fails is_free-here

some_is : {A : Type 0} {x y : A} → Some x ≡ Some y → x ≡ y
some_is is = cc

-- the subcommand that a parse entered, by its name and by its rows
pub entry_by : {R Z : Type 0} (name : R → Text) (rows : R → List Row) (r : Option R) (entry : Option (Box SubCommand Z)) → option_map name r ≡ option_map (λ b. (out-SubCommand (box_value b)).name.now) entry
    → option_map rows r ≡ option_map (λ (p : Text × List Row). p.1) (subcommand_rows entry) → option_map (λ e. (name e, rows e)) r ≡ subcommand_rows entry
entry_by name rows None None named read = refl
entry_by name rows None (Some b) named read = cc
entry_by name rows (Some e) None named read = cc
entry_by name rows (Some e) (Some b) named read = ap₂ (λ n l. Some (n, l)) (some_is named) (some_is read)

-- ---- what is returned where the parse succeeds

pub command_by : (words : List Text) (entry : Text × List Row) → faults words ≡ [] → found words ≡ Some entry → command_of words ≡ named entry
command_by words entry none is = rw (none, is) refl

pub command_none : (words : List Text) → faults words ≡ [] → found words ≡ None → command_of words ≡ Err BadUsage
command_none words none is = rw (none, is) refl

-- ---- what is returned where it fails

at_fault : {A : Type 0} (kind : ErrorKind) (kinds : Kinds) (entry : Option A) → IsAmong kind kinds → without_fault kinds entry ≡ Err BadUsage
at_fault kind [] entry among = absurd among
at_fault kind (k ∷ ks) entry among = refl

refused_at : (words : List Text) (kind : ErrorKind) → (kind ≡ OutOfMemory) ⊎ IsAmong kind (faults words) → (kind ≡ OutOfMemory → ⊥) → command_of words ≡ Err BadUsage
refused_at words kind (inl memory) other = absurd (other memory)
refused_at words kind (inr among) other = ap (λ r. r >>= named) (at_fault kind (faults words) (found words) among)

pub gives_refusal : (words : List Text) (kind : ErrorKind) (refusal : UsageError) → IsRefusedFor kind refusal → (kind ≡ OutOfMemory) ⊎ IsAmong kind (faults words)
    → is_memory refusal ≡ false → command_of words ≡ Err refusal
gives_refusal words kind refusal (inl memory) fault h = let bad = rw memory.1 at h in absurd (false≢true (sym bad))
gives_refusal words kind refusal (inr other) fault h = rw other.1 (refused_at words kind fault other.0)
