use Rattle.std.proofs.Common.{◌∙◌, sym, refl, ◌∷◌, arith}
use Rattle.dr_fragment.proofs.SameKeys.{taken_in, passed_by, none_left, not_nil, same_first, same_rest}
use Rattle.dr_fragment.proofs.alike.is_alike.Goals as goal
use Rattle.dr_fragment.proofs.alike.is_alike.Goals.{then-has_key_of+in-Some+else-not-equals, else-has_key_of}

pub returns-in_default : goal.returns-in_default
returns-in_default c = (
  λ h. absurd cc,
  λ same. absurd (not_nil c.row-here.result _ (
      sym (taken_in c.args.row.now.key c.args.rows.now c.loop-i.i c.row-here.result c.row-here.ensures (sym c.has_key_of.ensures ∙ c.if-has_key_of.true))
      ∙ c.loop-i.invariant.0 same ∙ c.in_default.ensures.none refl)),
)

pub returns-then-not-equals : goal.returns-then-not-equals
returns-then-not-equals c = (
  λ h. absurd cc,
  λ same.
      let here = taken_in c.args.row.now.key c.args.rows.now c.loop-i.i c.row-here.result c.row-here.ensures (sym c.has_key_of.ensures ∙ c.if-has_key_of.true) in
      let heads = same_first _ _ _ _ (sym here ∙ c.loop-i.invariant.0 same ∙ c.in-Some.ensures.found) in
      let equal = c.equals.ensures.1 heads in
      absurd cc,
)

pub loop-i-preserved : goal.loop-i-preserved
loop-i-preserved c =
    elim c.if-has_key_of.branch [
      | then-has_key_of+in-Some+else-not-equals w ↦
          let here = taken_in c.args.row.now.key c.args.rows.now c.loop-i.i c.row-here.result c.row-here.ensures (sym c.has_key_of.ensures ∙ w.if-has_key_of.true) in
          let there = w.in-Some.ensures.found in
          let same = w.equals.ensures.0 w.if-not-equals.false in
          rw w.next-is (λ x. same_rest _ _ _ _ (sym here ∙ c.loop-i.invariant.0 x ∙ there), λ e. c.loop-i.invariant.1 (here ∙ (λ i. same i ∷ e i) ∙ sym there))
      | else-has_key_of w ↦
          let past = passed_by c.args.row.now.key c.args.rows.now c.loop-i.i c.row-here.result c.row-here.ensures (sym c.has_key_of.ensures ∙ w.if-has_key_of.false) in
          rw w.next-is (λ x. sym past ∙ c.loop-i.invariant.0 x, λ e. c.loop-i.invariant.1 (past ∙ e))
    ]

pub returns-in-Some-next_of : goal.returns-in-Some-next_of
returns-in-Some-next_of c =
    let none = none_left c.args.row.now.key c.args.rows.now c.loop-i.i (omega arith) in (
      λ h. absurd cc,
      λ same. absurd (not_nil _ _ (sym c.in-Some-next_of.ensures.found ∙ sym (c.loop-i.invariant.0 same) ∙ none)),
    )

pub returns-in-None : goal.returns-in-None
returns-in-None c =
    let none = none_left c.args.row.now.key c.args.rows.now c.loop-i.i (omega arith) in
    (λ h. c.loop-i.invariant.1 (none ∙ sym (c.in-None.ensures.none refl)), λ same. cc)
