use Rattle.std.proofs.Common.{◌∙◌, sym, ap, ◌||◌}
use Rattle.dr_patterns.specs.Fitting.{fits_some}
use Rattle.dr_patterns.specs.Sides.{some_at, some_within}
use Rattle.dr_patterns.specs.declared.side.Side.TheVariants.{Start, End}
use Rattle.dr_patterns.proofs.Literals.{asked}
use Rattle.dr_patterns.proofs.by_kind.ByKind.hold.Goals as goal

pub returns-then-contain : goal.returns-then-contain
returns-then-contain c =
    let all = asked c.self.inside.words c.self.inside.starts.1 c.self.inside.ends.1 c.self.inside.parts.1 c.self.inside.others.items c.self.invariant.0 c.args.text.now c.utf8.text in
    let words = sym c.contain.ensures ∙ c.if-contain.true in
    sym (ap (λ ps. fits_some ps c.args.text.now) (sym c.self.view_is) ∙ all ∙ (λ i. words i || (some_at Start c.self.inside.starts.1 c.args.text.now || (some_at End c.self.inside.ends.1 c.args.text.now || (some_within Start c.self.inside.parts.1 c.args.text.now || fits_some c.self.inside.others.items c.args.text.now)))))

pub returns-then-meet : goal.returns-then-meet
returns-then-meet c =
    let all = asked c.self.inside.words c.self.inside.starts.1 c.self.inside.ends.1 c.self.inside.parts.1 c.self.inside.others.items c.self.invariant.0 c.args.text.now c.utf8.text in
    let words = sym c.contain.ensures ∙ c.if-contain.false in
    let starts = ap (λ s. some_at s c.self.inside.starts.1 c.args.text.now) (sym c.self.invariant.1) ∙ sym c.meet.ensures ∙ c.if-meet.true in
    sym (ap (λ ps. fits_some ps c.args.text.now) (sym c.self.view_is) ∙ all ∙ (λ i. words i || (starts i || (some_at End c.self.inside.ends.1 c.args.text.now || (some_within Start c.self.inside.parts.1 c.args.text.now || fits_some c.self.inside.others.items c.args.text.now)))))

pub returns-then-meet-2 : goal.returns-then-meet-2
returns-then-meet-2 c =
    let all = asked c.self.inside.words c.self.inside.starts.1 c.self.inside.ends.1 c.self.inside.parts.1 c.self.inside.others.items c.self.invariant.0 c.args.text.now c.utf8.text in
    let words = sym c.contain.ensures ∙ c.if-contain.false in
    let starts = ap (λ s. some_at s c.self.inside.starts.1 c.args.text.now) (sym c.self.invariant.1) ∙ sym c.meet.ensures ∙ c.if-meet.false in
    let ends = ap (λ s. some_at s c.self.inside.ends.1 c.args.text.now) (sym c.self.invariant.2) ∙ sym c.meet-2.ensures ∙ c.if-meet-2.true in
    sym (ap (λ ps. fits_some ps c.args.text.now) (sym c.self.view_is) ∙ all ∙ (λ i. words i || (starts i || (ends i || (some_within Start c.self.inside.parts.1 c.args.text.now || fits_some c.self.inside.others.items c.args.text.now)))))

pub returns-then-meet_behind_run : goal.returns-then-meet_behind_run
returns-then-meet_behind_run c =
    let all = asked c.self.inside.words c.self.inside.starts.1 c.self.inside.ends.1 c.self.inside.parts.1 c.self.inside.others.items c.self.invariant.0 c.args.text.now c.utf8.text in
    let words = sym c.contain.ensures ∙ c.if-contain.false in
    let starts = ap (λ s. some_at s c.self.inside.starts.1 c.args.text.now) (sym c.self.invariant.1) ∙ sym c.meet.ensures ∙ c.if-meet.false in
    let ends = ap (λ s. some_at s c.self.inside.ends.1 c.args.text.now) (sym c.self.invariant.2) ∙ sym c.meet-2.ensures ∙ c.if-meet-2.false in
    let parts = ap (λ s. some_within s c.self.inside.parts.1 c.args.text.now) (sym c.self.invariant.3) ∙ sym c.meet_behind_run.ensures ∙ c.if-meet_behind_run.true in
    sym (ap (λ ps. fits_some ps c.args.text.now) (sym c.self.view_is) ∙ all ∙ (λ i. words i || (starts i || (ends i || (parts i || fits_some c.self.inside.others.items c.args.text.now)))))

pub returns : goal.returns
returns c =
    let all = asked c.self.inside.words c.self.inside.starts.1 c.self.inside.ends.1 c.self.inside.parts.1 c.self.inside.others.items c.self.invariant.0 c.args.text.now c.utf8.text in
    let words = sym c.contain.ensures ∙ c.if-contain.false in
    let starts = ap (λ s. some_at s c.self.inside.starts.1 c.args.text.now) (sym c.self.invariant.1) ∙ sym c.meet.ensures ∙ c.if-meet.false in
    let ends = ap (λ s. some_at s c.self.inside.ends.1 c.args.text.now) (sym c.self.invariant.2) ∙ sym c.meet-2.ensures ∙ c.if-meet-2.false in
    let parts = ap (λ s. some_within s c.self.inside.parts.1 c.args.text.now) (sym c.self.invariant.3) ∙ sym c.meet_behind_run.ensures ∙ c.if-meet_behind_run.false in
    c.fits_one.ensures ∙ ap (λ ps. fits_some ps c.args.text.now) c.as_slice.ensures.value ∙ sym (ap (λ ps. fits_some ps c.args.text.now) (sym c.self.view_is) ∙ all ∙ (λ i. words i || (starts i || (ends i || (parts i || fits_some c.self.inside.others.items c.args.text.now)))))
