use Rattle.std.proofs.Common.{rules, arith, inl, inr, sym, ◌∙◌, ◌≡◌, length}
use Rattle.dr_time.specs.Joined.{longer}
use Rattle.dr_time.proofs.JoinedLemmas.{pushed-apart, joined-apart, joined-held, not_joined, some_held, none_left}
use Rattle.dr_time.proofs.joined.join.Goals as goal
use Rattle.dr_time.proofs.joined.join.Goals.{then-len-gt0+in_default, else-len-gt0}

pub returns-in-Some-clause-apart : goal.returns-in-Some-clause-apart
returns-in-Some-clause-apart c =
    let len : c.len-len.result ≡ length c.args.joined.now.items = search rules in
    let item = rw len at c.index.ensures in
    let filled = c.if-len-gt0.true in
    let given = (sym c.in-Some.is ∙ c.longer.ensures) ∙ (λ j. longer (item j) c.args.next) in
    rw len (joined-apart c.args.joined.now.items c.args.next c.in-Some.longer c.index.result.now c.requires.apart (λ e. absurd (omega arith)) given)

pub returns-in-Some-clause-times : goal.returns-in-Some-clause-times
returns-in-Some-clause-times c =
    let len : c.len-len.result ≡ length c.args.joined.now.items = search rules in
    let item = rw len at c.index.ensures in
    let filled = c.if-len-gt0.true in
    let given = (sym c.in-Some.is ∙ c.longer.ensures) ∙ (λ j. longer (item j) c.args.next) in
    let whole = some_held c.args.next (search rules) in
    rw len (λ t. joined-held c.args.joined.now.items c.args.next c.in-Some.longer c.index.result.now t c.requires.rising (λ e. absurd (omega arith)) given whole)

pub returns-clause-apart : goal.returns-clause-apart
returns-clause-apart c =
    let len : c.len-len.result ≡ length c.args.joined.now.items = search rules in
    let some = some_held c.args.next (search rules) in
    elim c.if-len-gt0.branch [
      | then-len-gt0+in_default w ↦
          let item = rw len at w.index.ensures in
          let none = none_left w.longer.result w.in_default.not-Some in
          let apart = not_joined w.index.result.now c.args.next (sym none ∙ w.longer.ensures) in
          rw c.in_ok-push.ensures.items (pushed-apart c.args.joined.now.items c.args.next w.index.result.now c.requires.apart (inr (rw item at apart)) some)
      | else-len-gt0 w ↦
          let none = w.if-len-gt0.false in
          rw c.in_ok-push.ensures.items (pushed-apart c.args.joined.now.items c.args.next c.args.next c.requires.apart (inl (omega arith)) some)
    ]
