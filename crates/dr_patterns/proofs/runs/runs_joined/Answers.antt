use Rattle.std.proofs.Common.{◌≡◌, ◌∙◌, ap, sym, refl, Bool, true, false, ◌==◌, ◌&&◌, [], ◌∷◌, ◌++◌, string_bytes, arith}
use Rattle.std.specs.Str.{chars}
use Rattle.std.proofs.lemmas.Bool.Decides.{nat_tests}
use Rattle.std.proofs.lemmas.List.{append_assoc, append-nil}
use Rattle.std.proofs.lemmas.Str.{chars-nil, IsUtf8-string_bytes}
use Rattle.dr_like.specs.Like.{fits}
use Rattle.dr_like.proofs.Texts.{chars-push}
use Rattle.dr_patterns.specs.Runs.{runs_are_apart}
use Rattle.dr_patterns.proofs.RunLemmas.{ends-push, apart-push, run-again, ends_with_run}
use Rattle.dr_patterns.proofs.runs.runs_joined.Goals as goal
use Rattle.dr_patterns.proofs.runs.runs_joined.Goals.{then-not-is_again+in_ok-push, else-not-is_again}

pub loop-letter-init : goal.loop-letter-init
loop-letter-init c =
    let none = ap chars c.new-joined.ensures.bytes ∙ chars-nil in record {
      same = λ cs. ap (λ l. fits (l ++ chars c.args.pattern.now) cs) none;
      apart = ap runs_are_apart none;
      run = ap ends_with_run none;
      left_utf8 = c.utf8.pattern;
    }

pub loop-letter-preserved : goal.loop-letter-preserved
loop-letter-preserved c =
    let at = c.loop-letter in
    let front = chars (string_bytes at.joined) in
    let letter = c.in-Some.letter in
    let more = chars c.in-Some.more.now in
    let parts : front ++ letter ∷ more ≡ front ++ chars at.left.now = ap (λ l. front ++ l) (sym c.in-Some.ensures.parts) in
    elim c.if-not-is_again.branch [
      | then-not-is_again+in_ok-push w ↦
          let now : chars (string_bytes c.if-not-is_again.joined) ≡ front ++ letter ∷ [] = ap (λ s. chars (string_bytes s)) w.joined-is ∙ chars-push (string_bytes w.push.new.self) (string_bytes at.joined) letter (IsUtf8-string_bytes w.push.new.self) (IsUtf8-string_bytes at.joined) w.in_ok-push.ensures.bytes in
          let apart : (letter == 37 && ends_with_run front) ≡ false = ap (λ b. letter == 37 && b) at.invariant.run ∙ sym c.is_again.ensures ∙ w.if-not-is_again.true in record {
            same = λ cs. ap (λ l. fits (l ++ more) cs) now ∙ ap (λ l. fits l cs) (append_assoc front (letter ∷ []) more ∙ parts) ∙ at.invariant.same cs;
            apart = ap runs_are_apart now ∙ apart-push front letter apart at.invariant.apart;
            run = ap ends_with_run now ∙ ends-push front letter;
            left_utf8 = c.in-Some.ensures.utf8;
          }
      | else-not-is_again w ↦
          let now : chars (string_bytes c.if-not-is_again.joined) ≡ front = ap (λ s. chars (string_bytes s)) w.joined-is in
          let again : (letter == 37 && at.in_run) ≡ true = sym c.is_again.ensures ∙ w.if-not-is_again.false in
          let run : ends_with_run front ≡ true = at.invariant.run ∙ second (letter == 37) at.in_run again in
          let is : letter ≡ 37 = grind (arith, nat_tests, first (letter == 37) at.in_run again) in record {
            same = λ cs. ap (λ l. fits (l ++ more) cs) now ∙ run-again front more run cs ∙ ap (λ l. fits (front ++ l ∷ more) cs) (sym is) ∙ ap (λ l. fits l cs) parts ∙ at.invariant.same cs;
            apart = ap runs_are_apart now ∙ at.invariant.apart;
            run = ap ends_with_run now ∙ run ∙ sym (first (letter == 37) at.in_run again);
            left_utf8 = c.in-Some.ensures.utf8;
          }
    ]
  where
    first : (a b : Bool) → (a && b) ≡ true → a ≡ true
    first true b both = refl
    first false b both = both

    second : (a b : Bool) → (a && b) ≡ true → b ≡ true
    second true b both = both
    second false b both = absurd (cc both)

pub returns : goal.returns
returns c =
    let front = chars (string_bytes c.loop-letter.joined) in
    let whole : chars c.in_ok-text.text ≡ front = ap chars c.in_ok-text.ensures in
    let all : front ++ chars c.loop-letter.left.now ≡ front = ap (λ l. front ++ l) c.in_default.ensures.parts ∙ append-nil front in record {
      same = λ text. ap (λ l. fits l (chars text)) (whole ∙ sym all) ∙ c.loop-letter.invariant.same (chars text);
      apart = ap runs_are_apart whole ∙ c.loop-letter.invariant.apart;
    }
