use Rattle.std.proofs.Common.{◌≡◌, ◌∙◌, refl, ◌-◌, length, Some, None, arith}
use Rattle.json.specs.Json.{read_key, value}
use Rattle.json.proofs.Grammar.{read_key-shorter}
use Rattle.serde_json.specs.Data.{no_members, put}
use Rattle.dr_events.proofs.Conversions.{member_read, member_refused, key_refused, members_over}
use Rattle.dr_events.proofs.MoreNames.{more-none, more-then}
use Rattle.dr_events.proofs.line_object.read_members.Goals as goal

pub members-init : goal.members-init
members-init c = (length c.args.reader.now, no_members, omega arith, refl, (λ firsts first h. h), more-none c.args.names.now, omega arith)

pub returns-in_default-clause-err : goal.returns-in_default-clause-err
returns-in_default-clause-err c =
    let l = c.members in
    λ _. (refl, l.invariant.3 ∙ key_refused (value 126) l.invariant.1 l.invariant.0 l.reader c.in_default.ensures.value)

pub returns-in_default-next-clause-ok : goal.returns-in_default-next-clause-ok
returns-in_default-next-clause-ok c =
    let l = c.members in
    let r = c.next_key.new.self in
    let ended : read_key l.reader ≡ Some (None, r) = grind arith in
    (l.invariant.1, l.invariant.3 ∙ members_over (value 126) l.invariant.1 l.invariant.0 l.reader r l.invariant.2 ended, l.invariant.4)

pub returns-in_default-read_value-clause-err : goal.returns-in_default-read_value-clause-err
returns-in_default-read_value-clause-err c =
    let l = c.members in
    let k = c.in-Some.key.now in
    let s = c.next_key.new.self in
    let named : read_key l.reader ≡ Some (Some k, s) = grind arith in
    λ _. (refl, l.invariant.3 ∙ member_refused (value 126) l.invariant.1 l.invariant.0 k l.reader s named c.in_default-read_value.ensures.err)

pub members-preserved : goal.members-preserved
members-preserved c =
    let p = value 126 in
    let l = c.members in
    let n = l.invariant.0 in
    let old = l.invariant.1 in
    let k = c.in-Some.key.now in
    let s = c.next_key.new.self in
    let named : read_key l.reader ≡ Some (Some k, s) = grind arith in
    let done = c.in-Ok-read_value.ensures in
    let d = done.value.0 in
    let r = c.read_value.new.reader in
    let less = read_key-shorter l.reader (Some k) s named in
    let lesser = done.shorter in (
      n - 1,
      put k d old,
      omega (arith, l.invariant.2),
      l.invariant.3 ∙ member_read p old n k l.reader s r d (omega (arith, l.invariant.2)) named done.value.1,
      (λ firsts first blank. c.in_ok-keep.ensures.seen firsts d old (more-then firsts c.args.names.now l.names first l.invariant.5) done.value.2 (l.invariant.4 firsts first blank)),
      more-then c.args.names.now l.names c.keep.new.names l.invariant.5 c.keep.ensures.kept,
      omega (arith, l.invariant.6),
    )
