-- The steps by which a script is answered.
use Rattle.std.proofs.Common.{◌≡◌, ◌⊎◌, inl, inr, ◌∙◌, ℕ, Bool, true, false, cond, List, [], ◌∷◌, ◌++◌, Option, None, Some, Result, Ok, Err, codes, refl, sym, ap, subst, append_assoc, append-nil, ◌+◌, ◌^◌, ◌≤◌, arith}
use Rattle.std.specs.Prelude.{◌||◌}
use Rattle.std.specs.Fmt.{digits}
use Rattle.std.specs.Io.KnownBytes.{IsAtEnd, Appends, prepend_known}
use Rattle.std.proofs.lemmas.Grind.{flat_map-append}
use Rattle.std.proofs.lemmas.List.Folds.{list_any-append}
use Rattle.dr_lines.specs.declared.line_error.LineError.{LineError}
use Rattle.dr_lines.specs.declared.line_error.LineError.TheVariants.{ReadFault}
use Rattle.dr_lines.specs.Lines.{TakesLine, TakesLines, EndsInLine, CountsReads, most_reads}
use Rattle.dr_lines.specs.Failures.{Stream}
use Rattle.dr_lines.specs.Written.{Writes}
use Rattle.dr_lines.proofs.ManyLines.{takes_none, takes_more, takes_all, takes_first, takes_before, begins_all, begins_before, has_before, none_at_end, others_behind, some_lines}
use Rattle.dr_lines.proofs.WrittenLemmas.{Writes-none, Writes-trans}
use Rattle.dr_requests.specs.declared.command_error.CommandError.TheVariants.{NoMemory, Line}
use Rattle.dr_script.specs.declared.reply.Reply.{Reply}
use Rattle.dr_script.specs.declared.reply.Reply.TheVariants.{Fault}
use Rattle.dr_timeline.specs.CoreState.{CoreState}
use Rattle.dr_script.specs.Commands.{Answered, answered, refused_by}
use Rattle.dr_script.specs.Script.{any_refused, first_step, text_of, Moves, ScriptFrom, ScriptAfter, Script}
use Rattle.dr_script.specs.Runs.{AllReads, Answering, AnswersAll, AnswersFirst, AnswersWhole, BreaksOff, Ends, OneMore, ReadingFails, ReadingHolds, RunsScript, WhereOpen}
use Rattle.dr_script.specs.Replies.{AnswersFrom, Opens, OpensScript, RunsOn, seen}
use Rattle.dr_base.proofs.Truths.{or_false}

-- ---- texts

pub text_of-append : (made : List Answered) (a : Answered) → text_of (made ++ a ∷ []) ≡ text_of made ++ (a.line ++ 10 ∷ [])
text_of-append made a = flat_map-append (λ (x : Answered). x.line ++ 10 ∷ []) made (a ∷ []) ∙ ap (λ l. text_of made ++ l) (append-nil (a.line ++ 10 ∷ []))

any_refused-append : (made : List Answered) (a : Answered) → any_refused (made ++ a ∷ []) ≡ (any_refused made || a.is_refused)
any_refused-append made a = list_any-append (λ (x : Answered). x.is_refused) made (a ∷ []) ∙ ap (λ b. any_refused made || b) (or_false a.is_refused)

-- ---- bytes

line_end : (kept line : List ℕ) → (kept ++ line) ++ 10 ∷ [] ≡ kept ++ (line ++ 10 ∷ [])
line_end kept line = append_assoc kept line (10 ∷ [])

-- a line is written behind what was made, or kept, or lost
puts_line : (old mid new : Option (List ℕ)) (bytes kept rest : List ℕ) (made : List Answered) (a : Answered) → Writes old mid (bytes ++ text_of made) kept
    → Writes mid new ((kept ++ a.line) ++ 10 ∷ []) rest → Writes old new (bytes ++ text_of (made ++ a ∷ [])) rest
puts_line old mid new bytes kept rest made a first second =
    rw (text_of-append made a, ← append_assoc bytes (text_of made) (a.line ++ 10 ∷ []))
    (Writes-trans old mid new (bytes ++ text_of made) kept (a.line ++ 10 ∷ []) rest first (subst (λ l. Writes mid new l rest) (line_end kept a.line) second))

writes_again : (old mid new : Option (List ℕ)) (bytes kept rest : List ℕ) → Writes old mid bytes kept → Writes mid new kept rest → Writes old new bytes rest
writes_again old mid new bytes kept rest first second =
    rw (← append-nil bytes) (Writes-trans old mid new bytes kept [] rest first (rw append-nil second))

-- ---- lines in turn

-- a script with one more line
pub script_more : (old mid new : CoreState) (lines : List (List ℕ)) (made : List Answered) (line : List ℕ) (a : Answered) → ScriptFrom old lines made mid → Moves mid line a new
    → ScriptFrom old (lines ++ line ∷ []) (made ++ a ∷ []) new
script_more old mid new [] [] line a so_far moves = (new, subst (λ (s : CoreState). Moves s line a new) so_far moves, refl)
script_more old mid new [] (x ∷ made) line a so_far moves = absurd so_far
script_more old mid new (l ∷ lines) [] line a so_far moves = absurd so_far
script_more old mid new (l ∷ lines) (x ∷ made) line a so_far moves = (so_far.0, so_far.1, script_more so_far.0 mid new lines made line a so_far.2 moves)

-- lines are being answered: those that were read so far, from that state to this one, where what was made is written or kept
pub record SoFar (left rest : Option (List ℕ)) (begun now : CoreState) (old new : Option (List ℕ)) (bytes kept : List ℕ) (refuses : Bool) : Type 0 where
  pub lines : List (List ℕ)
  pub made : List Answered
  pub read : TakesLines left rest lines
  pub script : ScriptFrom begun lines made now
  pub written : Writes old new (bytes ++ text_of made) kept
  pub refused : refuses ≡ any_refused made

-- nothing was answered yet
pub begins : (left : Option (List ℕ)) (s : CoreState) (old : Option (List ℕ)) (bytes : List ℕ) → SoFar left left s s old old bytes bytes false
begins left s old bytes = record {
  lines = [];
  made = [];
  read = takes_none left;
  script = refl;
  written = rw append-nil (Writes-none old bytes);
  refused = refl;
}

-- what was kept is written, or some of it
pub flushes : (left rest : Option (List ℕ)) (begun now : CoreState) (old mid new : Option (List ℕ)) (bytes kept more : List ℕ) (refuses : Bool)
    → SoFar left rest begun now old mid bytes kept refuses → Writes mid new kept more → SoFar left rest begun now old new bytes more refuses
flushes left rest begun now old mid new bytes kept more refuses at written = record {
  lines = at.lines;
  made = at.made;
  read = at.read;
  script = at.script;
  written = writes_again old mid new (bytes ++ text_of at.made) kept more at.written written;
  refused = at.refused;
}

-- one more line is answered
pub answers_line : (left rest more : Option (List ℕ)) (begun now after : CoreState) (old mid new : Option (List ℕ)) (bytes kept next : List ℕ) (refuses : Bool) (line : List ℕ) (a : Answered)
    → SoFar left rest begun now old mid bytes kept refuses → TakesLine rest more line → Moves now line a after
    → Writes mid new ((kept ++ a.line) ++ 10 ∷ []) next → SoFar left more begun after old new bytes next (refuses || a.is_refused)
answers_line left rest more begun now after old mid new bytes kept next refuses line a at takes moves written = record {
  lines = at.lines ++ line ∷ [];
  made = at.made ++ a ∷ [];
  read = takes_more left rest more at.lines line at.read takes;
  script = script_more begun now after at.lines at.made line a at.script moves;
  written = puts_line old mid new bytes kept next at.made a at.written written;
  refused = ap (λ b. b || a.is_refused) at.refused ∙ sym (any_refused-append at.made a);
}

-- ---- how answering ends

-- a write fails after those lines; what it left is lost
pub breaks : (N F : Type 0) (left rest end : Option (List ℕ)) (begun now : CoreState) (old new : Option (List ℕ)) (bytes lost kept : List ℕ) (refuses : Bool) (e : LineError)
    → SoFar left rest begun now old new bytes lost refuses → N → RunsOn (AnswersFrom begun) (AnswersFrom begun) N F left end old new bytes kept (Err e)
breaks N F left rest end begun now old new bytes lost kept refuses e at none = (
  text_of at.made,
  (lost, at.written),
  inl (record { lines = at.lines; made = at.made; read = takes_first left rest at.lines at.read; fits = (now, at.script); written = refl }, none),
)

-- no line is left
pub ends : (N F : Type 0) (left rest end : Option (List ℕ)) (begun now : CoreState) (old new : Option (List ℕ)) (bytes kept : List ℕ) (refuses : Bool)
    → SoFar left rest begun now old new bytes kept refuses → IsAtEnd rest → N → RunsOn (AnswersFrom begun) (AnswersFrom begun) N F left end old new bytes kept (Ok refuses)
ends N F left rest end begun now old new bytes kept refuses at none holds = (
  text_of at.made,
  at.written,
  inl (
    record {
      lines = at.lines;
      made = at.made;
      read = takes_all left rest at.lines at.read none;
      fits = (now, at.script);
      written = refl;
      told = ap (λ b. cond b 1 0) at.refused;
    },
    holds,
  ),
)

-- reading failed behind those lines, and the line that tells it is made
failed_behind : (left rest end : Option (List ℕ)) (begun now : CoreState) (old new : Option (List ℕ)) (bytes kept : List ℕ) (refuses : Bool)
    → (at : SoFar left rest begun now old new bytes kept refuses) → EndsInLine rest end → AnswersWhole (AnswersFrom begun) left end (text_of (at.made ++ refused_by (Line ReadFault) ∷ []))
failed_behind left rest end begun now old new bytes kept refuses at part =
    record { lines = at.lines; made = at.made; read = (rest, at.read, part); fits = (now, at.script); written = refl }

pub fails : (N F : Type 0) (left rest end : Option (List ℕ)) (begun now : CoreState) (old mid new : Option (List ℕ)) (bytes kept next : List ℕ) (refuses : Bool)
    → SoFar left rest begun now old mid bytes kept refuses → EndsInLine rest end → F
    → Writes mid new ((kept ++ (refused_by (Line ReadFault)).line) ++ 10 ∷ []) next
    → RunsOn (AnswersFrom begun) (AnswersFrom begun) N F left end old new bytes next (Ok true)
fails N F left rest end begun now old mid new bytes kept next refuses at part failed written = (
  text_of (at.made ++ refused_by (Line ReadFault) ∷ []),
  puts_line old mid new bytes kept next at.made (refused_by (Line ReadFault)) at.written written,
  inr (failed_behind left rest end begun now old mid bytes kept refuses at part, refl, failed),
)

-- that line isn't written, or not all of it
pub fails_lost : (N F : Type 0) (left rest end : Option (List ℕ)) (begun now : CoreState) (old mid new : Option (List ℕ)) (bytes kept lost next : List ℕ) (refuses : Bool) (e : LineError)
    → SoFar left rest begun now old mid bytes kept refuses → EndsInLine rest end → F
    → Writes mid new ((kept ++ (refused_by (Line ReadFault)).line) ++ 10 ∷ []) lost
    → RunsOn (AnswersFrom begun) (AnswersFrom begun) N F left end old new bytes next (Err e)
fails_lost N F left rest end begun now old mid new bytes kept lost next refuses e at part failed written = (
  text_of (at.made ++ refused_by (Line ReadFault) ∷ []),
  (lost, puts_line old mid new bytes kept lost at.made (refused_by (Line ReadFault)) at.written written),
  inr (failed_behind left rest end begun now old mid bytes kept refuses at part, failed),
)

-- ---- the first line

-- there is no line
pub no_line : (N F : Type 0) (left end old : Option (List ℕ)) (bytes : List ℕ) → IsAtEnd left → N → RunsOn Script (WhereOpen Script) N F left end old old bytes bytes (Ok false)
no_line N F left end old bytes none holds = (
  [],
  rw append-nil (Writes-none old bytes),
  inl (record { lines = []; made = []; read = none_at_end left none; fits = inl refl; written = refl; told = refl }, holds),
)

-- a script whose first line is refused
refused_first : (line : List ℕ) (lines : List (List ℕ)) (reply : Reply) → Opens line (Err reply) → Script (line ∷ lines) (seen reply ∷ [])
refused_first line lines reply (inl is) = inl (subst (λ (r : Result CoreState Answered). ScriptAfter r lines (seen reply ∷ [])) (sym is) refl)
refused_first line lines reply (inr memory) = inr (ap (λ a. a ∷ []) memory)

-- the text of one answer
text_of_one : (a : Answered) → text_of (a ∷ []) ≡ a.line ++ 10 ∷ []
text_of_one a = append-nil (a.line ++ 10 ∷ [])

one_line : (old new : Option (List ℕ)) (bytes kept : List ℕ) (a : Answered) → Writes old new ((bytes ++ a.line) ++ 10 ∷ []) kept → Writes old new (bytes ++ text_of (a ∷ [])) kept
one_line old new bytes kept a written = subst (λ l. Writes old new l kept) (line_end bytes a.line ∙ ap (λ l. bytes ++ l) (sym (text_of_one a))) written

any_one : (a : Answered) → any_refused (a ∷ []) ≡ a.is_refused
any_one a = or_false a.is_refused

refused_all : (left next : Option (List ℕ)) (line : List ℕ) (reply : Reply) → TakesLine left next line → Opens line (Err reply)
    → AnswersAll Script left (text_of (seen reply ∷ [])) (cond (seen reply).is_refused 1 0)
refused_all left next line reply takes opens =
    let others = others_behind left next line takes in
    record {
      lines = line ∷ others.0;
      made = seen reply ∷ [];
      read = others.1;
      fits = refused_first line others.0 reply opens;
      written = refl;
      told = ap (λ b. cond b 1 0) (sym (any_one (seen reply)));
    }

unread : (left end : Option (List ℕ)) (a : Answered) → a ≡ refused_by (Line ReadFault) → EndsInLine left end → AnswersWhole (WhereOpen Script) left end (text_of (a ∷ []))
unread left end a is part = record { lines = []; made = []; read = (left, takes_none left, part); fits = (inl refl, tt); written = ap (λ x. text_of (x ∷ [])) is }

fault_is : (reply : Reply) → ◌≡◌ {A = Result CoreState Reply} (Err reply) (Err (Fault (Line ReadFault))) → seen reply ≡ refused_by (Line ReadFault)
fault_is reply is = let same : reply ≡ Fault (Line ReadFault) = cc in ap seen same

refused_end : (N F : Type 0) (left next end : Option (List ℕ)) (reply : Reply) → OpensScript N F left next end (Some (Err reply))
    → Ends Script (WhereOpen Script) N F left end (text_of (seen reply ∷ [])) (cond (seen reply).is_refused 1 0)
refused_end N F left next end reply (inl opens) = inl (refused_all left next opens.0 reply opens.1 opens.2, opens.3)
refused_end N F left next end reply (inr failed) =
    let told = fault_is reply failed.0 in
    inr (unread left end (seen reply) told failed.1, ap (λ (a : Answered). cond a.is_refused 1 0) told, failed.2)

-- what ends is broken off where not all of it is written
pub broken : (All Whole : Answering) (N F : Type 0) (left end : Option (List ℕ)) (text : List ℕ) (status : ℕ) → Ends All Whole N F left end text status → BreaksOff All Whole N F left end text
broken All Whole N F left end text status (inl all) = inl (record { lines = all.0.lines; made = all.0.made; read = begins_all left all.0.lines all.0.read; fits = all.0.fits; written = all.0.written }, all.1)
broken All Whole N F left end text status (inr whole) = inr (whole.0, whole.2)

-- the first line is refused, or isn't read
pub refuses : (N F : Type 0) (left next end old new : Option (List ℕ)) (bytes kept : List ℕ) (reply : Reply) → OpensScript N F left next end (Some (Err reply))
    → Writes old new ((bytes ++ (seen reply).line) ++ 10 ∷ []) kept → RunsOn Script (WhereOpen Script) N F left end old new bytes kept (Ok (seen reply).is_refused)
refuses N F left next end old new bytes kept reply opens written =
    (text_of (seen reply ∷ []), one_line old new bytes kept (seen reply) written, refused_end N F left next end reply opens)

pub refuses_lost : (N F : Type 0) (left next end old new : Option (List ℕ)) (bytes lost kept : List ℕ) (reply : Reply) (e : LineError) → OpensScript N F left next end (Some (Err reply))
    → Writes old new ((bytes ++ (seen reply).line) ++ 10 ∷ []) lost → RunsOn Script (WhereOpen Script) N F left end old new bytes kept (Err e)
refuses_lost N F left next end old new bytes lost kept reply e opens written = (
  text_of (seen reply ∷ []),
  (lost, one_line old new bytes lost (seen reply) written),
  broken Script (WhereOpen Script) N F left end (text_of (seen reply ∷ [])) (cond (seen reply).is_refused 1 0) (refused_end N F left next end reply opens),
)

-- ---- the lines behind the spec

abbrev pub spec_ok : Answered
spec_ok = answered (codes "spec ok")

-- the first line is the spec
pub record IsSpec (N : Type 0) (left next : Option (List ℕ)) (s : CoreState) : Type 0 where
  pub line : List ℕ
  pub takes : TakesLine left next line
  pub opens : first_step line ≡ Ok s
  pub holds : N

pub is_spec : (N F : Type 0) (left next end : Option (List ℕ)) (s : CoreState) → OpensScript N F left next end (Some (Ok s)) → IsSpec N left next s
is_spec N F left next end s (inl opens) = record { line = opens.0; takes = opens.1; opens = opens.2; holds = opens.3 }
is_spec N F left next end s (inr failed) = let read = failed.0 in let bad : ⊥ = cc in absurd bad

opened : (line : List ℕ) (s : CoreState) (lines : List (List ℕ)) (made : List Answered) → first_step line ≡ Ok s → AnswersFrom s lines made → Script (line ∷ lines) (spec_ok ∷ made)
opened line s lines made is goes = inl (subst (λ (r : Result CoreState Answered). ScriptAfter r lines (spec_ok ∷ made)) (sym is) (made, refl, goes))

-- the text behind that line
behind : (text : List ℕ) (made : List Answered) → text ≡ text_of made → (spec_ok.line ++ 10 ∷ []) ++ text ≡ text_of (spec_ok ∷ made)
behind text made is = ap (λ l. (spec_ok.line ++ 10 ∷ []) ++ l) is

module _ (M N F : Type 0) (left next end : Option (List ℕ)) (s : CoreState) (spec : IsSpec M left next s) where
  all_behind : (text : List ℕ) (status : ℕ) → AnswersAll (AnswersFrom s) next text status → AnswersAll Script left ((spec_ok.line ++ 10 ∷ []) ++ text) status
  all_behind text status all = record {
    lines = spec.line ∷ all.lines;
    made = spec_ok ∷ all.made;
    read = has_before left next spec.line all.lines spec.takes all.read;
    fits = opened spec.line s all.lines all.made spec.opens all.fits;
    written = behind text all.made all.written;
    told = all.told;
  }

  first_behind : (text : List ℕ) → AnswersFirst (AnswersFrom s) next text → AnswersFirst Script left ((spec_ok.line ++ 10 ∷ []) ++ text)
  first_behind text first = record {
    lines = spec.line ∷ first.lines;
    made = spec_ok ∷ first.made;
    read = begins_before left next spec.line first.lines spec.takes first.read;
    fits = opened spec.line s first.lines first.made spec.opens first.fits;
    written = behind text first.made first.written;
  }

  whole_behind : (text : List ℕ) → AnswersWhole (AnswersFrom s) next end text → AnswersWhole (WhereOpen Script) left end ((spec_ok.line ++ 10 ∷ []) ++ text)
  whole_behind text whole = record {
    lines = spec.line ∷ whole.lines;
    made = spec_ok ∷ whole.made;
    read = (whole.read.0, takes_before left next whole.read.0 spec.line whole.lines spec.takes whole.read.1, whole.read.2);
    fits = (opened spec.line s whole.lines whole.made spec.opens whole.fits, refl);
    written = behind text (whole.made ++ refused_by (Line ReadFault) ∷ []) whole.written;
  }

  ends_behind : (text : List ℕ) (status : ℕ) → Ends (AnswersFrom s) (AnswersFrom s) N F next end text status → Ends Script (WhereOpen Script) N F left end ((spec_ok.line ++ 10 ∷ []) ++ text) status
  ends_behind text status (inl all) = inl (all_behind text status all.0, all.1)
  ends_behind text status (inr whole) = inr (whole_behind text whole.0, whole.1, whole.2)

  breaks_behind : (text : List ℕ) → BreaksOff (AnswersFrom s) (AnswersFrom s) N F next end text → BreaksOff Script (WhereOpen Script) N F left end ((spec_ok.line ++ 10 ∷ []) ++ text)
  breaks_behind text (inl first) = inl (first_behind text first.0, first.1)
  breaks_behind text (inr whole) = inr (whole_behind text whole.0, whole.1)

text_behind : (bytes line text : List ℕ) → ((bytes ++ line) ++ 10 ∷ []) ++ text ≡ bytes ++ ((line ++ 10 ∷ []) ++ text)
text_behind bytes line text = simp append_assoc

writes_behind : (old mid new : Option (List ℕ)) (bytes kept text rest : List ℕ) → Writes old mid ((bytes ++ spec_ok.line) ++ 10 ∷ []) kept → Writes mid new (kept ++ text) rest
    → Writes old new (bytes ++ ((spec_ok.line ++ 10 ∷ []) ++ text)) rest
writes_behind old mid new bytes kept text rest first second =
    subst (λ l. Writes old new l rest) (text_behind bytes spec_ok.line text) (Writes-trans old mid new ((bytes ++ spec_ok.line) ++ 10 ∷ []) kept text rest first second)

pub opened_then : (M N F : Type 0) (left next end : Option (List ℕ)) (s : CoreState) (old mid new : Option (List ℕ)) (bytes kept rest : List ℕ) (result : Result Bool LineError) → IsSpec M left next s
    → Writes old mid ((bytes ++ spec_ok.line) ++ 10 ∷ []) kept → RunsOn (AnswersFrom s) (AnswersFrom s) N F next end mid new kept rest result
    → RunsOn Script (WhereOpen Script) N F left end old new bytes rest result
opened_then M N F left next end s old mid new bytes kept rest (Ok refuses) spec told others =
    ((spec_ok.line ++ 10 ∷ []) ++ others.0, writes_behind old mid new bytes kept others.0 rest told others.1, ends_behind M N F left next end s spec others.0 (cond refuses 1 0) others.2)
opened_then M N F left next end s old mid new bytes kept rest (Err e) spec told others = (
  (spec_ok.line ++ 10 ∷ []) ++ others.0,
  (others.1.0, writes_behind old mid new bytes kept others.0 others.1.0 told others.1.1),
  breaks_behind M N F left next end s spec others.0 others.2,
)

-- the line that tells of the spec isn't written, or not all of it
pub opened_lost : (N F : Type 0) (left next end : Option (List ℕ)) (s : CoreState) (old new : Option (List ℕ)) (bytes lost kept : List ℕ) (e : LineError) → IsSpec N left next s
    → Writes old new ((bytes ++ spec_ok.line) ++ 10 ∷ []) lost → RunsOn Script (WhereOpen Script) N F left end old new bytes kept (Err e)
opened_lost N F left next end s old new bytes lost kept e spec written = (
  text_of (spec_ok ∷ []),
  (lost, one_line old new bytes lost spec_ok written),
  inl (
    record {
      lines = spec.line ∷ [];
      made = spec_ok ∷ [];
      read = takes_first left next (spec.line ∷ []) (takes_before left next next spec.line [] spec.takes (takes_none next));
      fits = opened spec.line s [] [] spec.opens (s, refl);
      written = refl;
    },
    spec.holds,
  ),
)

-- ---- the whole script

-- there is no memory to begin
pub no_memory : (left end old new : Option (List ℕ)) → Writes old new (codes "refused 0 NoMemory" ++ 10 ∷ []) [] → RunsOn Script (WhereOpen Script) (Unit {0}) ⊥ left end old new [] [] (Ok true)
unfolding digits
no_memory left end old new written = (
  text_of (refused_by NoMemory ∷ []),
  written,
  inl (record { lines = (some_lines left).0; made = refused_by NoMemory ∷ []; read = (some_lines left).1; fits = inr refl; written = refl; told = refl }, tt),
)

pub no_memory_lost : (left end old new : Option (List ℕ)) (lost kept : List ℕ) (e : LineError) → Writes old new (codes "refused 0 NoMemory" ++ 10 ∷ []) lost
    → RunsOn Script (WhereOpen Script) (Unit {0}) ⊥ left end old new [] kept (Err e)
unfolding digits
no_memory_lost left end old new lost kept e written = (
  text_of (refused_by NoMemory ∷ []),
  (lost, written),
  inl (record { lines = (some_lines left).0; made = refused_by NoMemory ∷ []; read = begins_all left (some_lines left).0 (some_lines left).1; fits = inr refl; written = refl }, tt),
)

module _ (All Whole : Answering) (N F M G : Type 0) (holds : N → M) (failed : F → G) where
  ends_implied : (left end : Option (List ℕ)) (text : List ℕ) (status : ℕ) → Ends All Whole N F left end text status → Ends All Whole M G left end text status
  ends_implied left end text status (inl all) = inl (all.0, holds all.1)
  ends_implied left end text status (inr whole) = inr (whole.0, whole.1, failed whole.2)

  breaks_implied : (left end : Option (List ℕ)) (text : List ℕ) → BreaksOff All Whole N F left end text → BreaksOff All Whole M G left end text
  breaks_implied left end text (inl first) = inl (first.0, holds first.1)
  breaks_implied left end text (inr whole) = inr (whole.0, failed whole.1)

  -- what was run, where that reading holds or fails says other words
  pub runs_implied : (left end old new : Option (List ℕ)) (bytes kept : List ℕ) (result : Result Bool LineError)
      → RunsOn All Whole N F left end old new bytes kept result → RunsOn All Whole M G left end old new bytes kept result
  runs_implied left end old new bytes kept (Ok refuses) runs = (runs.0, runs.1, ends_implied left end runs.0 (cond refuses 1 0) runs.2)
  runs_implied left end old new bytes kept (Err e) runs = (runs.0, runs.1, breaks_implied left end runs.0 runs.2)

module _ (All Whole : Answering) (N F : Type 0) (left end old mid new : Option (List ℕ)) (bytes kept : List ℕ) (refuses : Bool)
    (runs : RunsOn All Whole N F left end old mid bytes kept (Ok refuses)) where
  -- what was kept is written
  pub flushed : Writes mid new kept [] → RunsOn All Whole N F left end old new bytes [] (Ok refuses)
  flushed written = (runs.0, writes_again old mid new (bytes ++ runs.0) kept [] runs.1 written, runs.2)

  -- or not all of it
  pub flushed_lost : (lost rest : List ℕ) (e : LineError) → Writes mid new kept lost → RunsOn All Whole N F left end old new bytes rest (Err e)
  flushed_lost lost rest e written =
      (runs.0, (lost, writes_again old mid new (bytes ++ runs.0) kept lost runs.1 written), broken All Whole N F left end runs.0 (cond refuses 1 0) runs.2)

-- ---- what a run says

same_part : (text part : List ℕ) → text ≡ part ++ [] → part ≡ text
same_part text part is = sym (append-nil part) ∙ sym is

module _ (Fits : Answering) (reader reader_after writer writer_after : Stream) where
  abbrev pub Ran : Result Bool LineError → Type 0
  Ran result = RunsOn Fits (WhereOpen Fits) (ReadingHolds reader reader_after) (ReadingFails reader reader_after) reader.bytes reader_after.bytes writer.bytes writer_after.bytes [] [] result

  -- all was written
  pub ran : (refuses : Bool) (status : ℕ) → status ≡ cond refuses 1 0 → writer_after.failures ≡ writer.failures → Ran (Ok refuses) → RunsScript Fits reader reader_after writer writer_after status
  ran refuses status is holds runs = (
    runs.0,
    subst (Appends writer.bytes writer_after.bytes) (same_part runs.0 runs.1.0 runs.1.2) runs.1.1,
    inl (holds, subst (Ends Fits (WhereOpen Fits) (ReadingHolds reader reader_after) (ReadingFails reader reader_after) reader.bytes reader_after.bytes runs.0) (sym is) runs.2),
  )

  -- a write failed
  pub ran_lost : (e : LineError) (status : ℕ) → status ≡ 1 → OneMore writer.failures writer_after.failures → Ran (Err e) → RunsScript Fits reader reader_after writer writer_after status
  ran_lost e status is failed runs = (
    runs.1.1.0,
    runs.1.1.1,
    inr (failed, is, (runs.1.0, subst (BreaksOff Fits (WhereOpen Fits) (ReadingHolds reader reader_after) (ReadingFails reader reader_after) reader.bytes reader_after.bytes) runs.1.1.2 runs.2)),
  )

-- the bound of reads was met, as the stream counts them
reads_all : (made counted new_counted : ℕ) → made ≡ most_reads → CountsReads 0 made counted new_counted → AllReads counted new_counted
reads_all made counted new_counted all (grows, bound, most, inl told) = inl (omega arith)
reads_all made counted new_counted all (grows, bound, most, inr full) = inr full

pub reading_fails : (old new made counted new_counted : ℕ) → CountsReads 0 made counted new_counted → OneMore old new ⊎ ((new ≡ old) × (made ≡ most_reads))
    → OneMore old new ⊎ ((new ≡ old) × AllReads counted new_counted)
reading_fails old new made counted new_counted counts (inl failed) = inl failed
reading_fails old new made counted new_counted counts (inr bound) = inr (bound.0, reads_all made counted new_counted bound.1 counts)

pub few_reads : (made counted new_counted : ℕ) → CountsReads 0 made counted new_counted → new_counted ≤ counted + 2 ^ 32
few_reads made counted new_counted counts = let bound = counts.1 (omega arith) in omega (arith, bound, counts.2)

fresh : (ahead : List ℕ) (known : Option (List ℕ)) → ahead ≡ [] → prepend_known ahead known ≡ known
fresh ahead None none = refl
fresh ahead (Some xs) none = rw none refl

-- a run from new buffers
pub began : (N F : Type 0) (reader reader_after : Stream) (ahead before : List ℕ) (old new : Option (List ℕ)) (first made : ℕ) (kept : List ℕ) (result : Result Bool LineError)
    → (ahead ≡ []) × (first ≡ 0) × (before ≡ []) → (N → ReadingHolds reader reader_after) → (F → OneMore reader.failures reader_after.failures ⊎ ((reader_after.failures ≡ reader.failures) × (made ≡ most_reads)))
    → CountsReads first made reader.reads reader_after.reads
    → RunsOn Script (WhereOpen Script) N F (prepend_known ahead reader.bytes) reader_after.bytes old new before kept result
    → RunsOn Script (WhereOpen Script) (ReadingHolds reader reader_after) (ReadingFails reader reader_after) reader.bytes reader_after.bytes old new [] kept result
began N F reader reader_after ahead before old new first made kept result news holds fails counts runs =
    let counted = subst (λ n. CountsReads n made reader.reads reader_after.reads) news.1 counts in
    let begun = subst (λ bytes. RunsOn Script (WhereOpen Script) N F reader.bytes reader_after.bytes old new bytes kept result) news.2
    (subst (λ left. RunsOn Script (WhereOpen Script) N F left reader_after.bytes old new before kept result) (fresh ahead reader.bytes news.0) runs) in
    runs_implied Script (WhereOpen Script) N F (ReadingHolds reader reader_after) (ReadingFails reader reader_after) holds
    (λ failed. reading_fails reader.failures reader_after.failures made reader.reads reader_after.reads counted (fails failed)) reader.bytes reader_after.bytes old new [] kept result begun

-- ---- what else holds of the answers

module _ (P Q : Answering) (also : (lines : List (List ℕ)) (made : List Answered) → P lines made → Q lines made) (N F : Type 0) (left rest : Option (List ℕ)) where
  open_also : (lines : List (List ℕ)) (made : List Answered) → WhereOpen P lines made → WhereOpen Q lines made
  open_also lines made fits = (also lines made fits.0, fits.1)

  whole_also : (text : List ℕ) → AnswersWhole (WhereOpen P) left rest text → AnswersWhole (WhereOpen Q) left rest text
  whole_also text whole = record { lines = whole.lines; made = whole.made; read = whole.read; fits = open_also whole.lines whole.made whole.fits; written = whole.written }

  ends_also : (text : List ℕ) (status : ℕ) → Ends P (WhereOpen P) N F left rest text status → Ends Q (WhereOpen Q) N F left rest text status
  ends_also text status (inl all) =
      inl (record { lines = all.0.lines; made = all.0.made; read = all.0.read; fits = also all.0.lines all.0.made all.0.fits; written = all.0.written; told = all.0.told }, all.1)
  ends_also text status (inr whole) = inr (whole_also text whole.0, whole.1, whole.2)

  breaks_also : (text : List ℕ) → BreaksOff P (WhereOpen P) N F left rest text → BreaksOff Q (WhereOpen Q) N F left rest text
  breaks_also text (inl first) = inl (record { lines = first.0.lines; made = first.0.made; read = first.0.read; fits = also first.0.lines first.0.made first.0.fits; written = first.0.written }, first.1)
  breaks_also text (inr whole) = inr (whole_also text whole.0, whole.1)

pub runs_also : (P Q : Answering) (reader reader_after writer writer_after : Stream) (status : ℕ) → ((lines : List (List ℕ)) (made : List Answered) → P lines made → Q lines made)
    → RunsScript P reader reader_after writer writer_after status → RunsScript Q reader reader_after writer writer_after status
runs_also P Q reader reader_after writer writer_after status also runs = (
  runs.0,
  runs.1,
  elim runs.2 [
    | inl done ↦ inl (done.0, ends_also P Q also (ReadingHolds reader reader_after) (ReadingFails reader reader_after) reader.bytes reader_after.bytes runs.0 status done.1)
    | inr lost ↦ inr (lost.0, lost.1, (lost.2.0, breaks_also P Q also (ReadingHolds reader reader_after) (ReadingFails reader reader_after) reader.bytes reader_after.bytes (runs.0 ++ lost.2.0) lost.2.1))
  ],
)
