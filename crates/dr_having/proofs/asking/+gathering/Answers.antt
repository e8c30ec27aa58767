use Rattle.std.proofs.Common.{◌∙◌, sym, ap, map, not, box_value}
use Rattle.dr_having.specs.declared.having.Having.TheOpen.Having-F.{Aggregation, And, Or, Not}
use Rattle.dr_having.specs.declared.having.Having.TheFolds.{fold-roll-Having}
use Rattle.dr_having.specs.Condition.{Condition, every, some, condition_in, condition_step, conditions_of, meets}
use Rattle.dr_having.specs.Gathered.{all_wanted, joined, conjunction_meets}
use Rattle.dr_having.specs.Meeting.{meets_value}
use Rattle.dr_base.specs.Told.{told}
use Rattle.dr_outputs.specs.Numbered.{numbers_by}
use Rattle.dr_having.proofs.Collecting.{next-all, last-all}
use Rattle.dr_having.proofs.Gathering.{denied-more, number-more, same-more, opposite-wanted, same_one, other_one, joined-wanted, joined-denied, alone-wanted}
use Rattle.dr_having.proofs.asking.+gathering.Goals as goal

pub put_denied-returns : goal.put_denied-returns
put_denied-returns t c =
    denied-more c.args.places.now c.args.asked.now c.deny.new.self c.new-denied.result c.put_each.new.asked (λ dims values. all_wanted c.args.holds dims values c.args.conditions.now) c.deny.result
    c.new-denied.ensures c.in_ok-put_each.ensures c.deny.ensures

pub put_each-loop-condition-preserved : goal.put_each-loop-condition-preserved
put_each-loop-condition-preserved t c = λ numbers have dims values.
    let by = numbers_by numbers values in
    next-all (λ h. told c.args.holds (meets dims by (condition_in h))) c.args.conditions.now c.loop-condition.condition-index c.condition-item.result (conjunction_meets dims by c.loop-condition.asked) (conjunction_meets dims by c.put.new.asked)
    c.loop-condition-test.true c.condition-item.is (c.in_ok-put.ensures numbers have dims values)
    ∙ c.loop-condition.invariant numbers have dims values

pub put_each-returns : goal.put_each-returns
put_each-returns t c = λ numbers have dims values.
    let by = numbers_by numbers values in
    last-all (λ h. told c.args.holds (meets dims by (condition_in h))) c.args.conditions.now c.loop-condition.condition-index (conjunction_meets dims by c.loop-condition.asked) c.loop-condition-test.false
    ∙ c.loop-condition.invariant numbers have dims values

pub put_joined-returns-then-all-holds : goal.put_joined-returns-then-all-holds
put_joined-returns-then-all-holds t c =
    let conditions = c.args.conditions.now in
    same-more c.args.places.now c.args.asked.now c.put_each.new.asked (λ dims values. all_wanted c.args.holds dims values conditions) _ c.put_each.result
    (λ dims values. joined-wanted dims values conditions c.args.holds ∙ ap (λ all. told c.args.holds (meets dims values (joined all (conditions_of (map condition_in conditions))))) (same_one c.args.all c.args.holds c.if-all-holds.true))
    c.put_each.ensures

pub put_joined-returns-then-conditions-eq1 :
    goal.put_joined-returns-then-conditions-eq1
put_joined-returns-then-conditions-eq1 t c =
    let conditions = c.args.conditions.now in
    let made = c.put_each-then-conditions-eq1 in
    same-more c.args.places.now c.args.asked.now made.new.asked (λ dims values. all_wanted c.args.holds dims values conditions) _ made.result
    (λ dims values. alone-wanted dims values conditions c.args.all c.args.holds c.if-conditions-eq1.true)
    made.ensures

pub put_joined-returns : goal.put_joined-returns
put_joined-returns t c =
    let conditions = c.args.conditions.now in
    same-more c.args.places.now c.args.asked.now c.put_denied.new.asked (λ dims values. not (all_wanted c.args.all dims values conditions)) _ c.put_denied.result
    (λ dims values. joined-denied dims values conditions c.args.all
    ∙ ap (λ holds. told holds (meets dims values (joined c.args.all (conditions_of (map condition_in conditions))))) (other_one c.args.all c.args.holds c.if-all-holds.false))
    c.put_denied.ensures

pub put-returns-in-Aggregation : goal.put-returns-in-Aggregation
unfolding Rattle.dr_having.specs.declared.having.Having.TheViews.roll-Having denote.Hole.Carrier.roll
put-returns-in-Aggregation t c =
    let at = c.in-Aggregation in
    let seen = ap condition_in at.is ∙ fold-roll-Having Condition condition_step (Aggregation at.value) in
    same-more c.args.places.now c.args.asked.now c.add_number.new.self (λ dims values. told c.args.holds (meets_value at.value values)) _ c.add_number.result
    (λ dims values. ap (λ h. told c.args.holds (meets dims values h)) (sym seen))
    (number-more c.args.places.now c.args.asked.now c.add_number.new.self at.value c.args.holds c.add_number.result (rw c.placed.ensures at c.add_number.ensures))

pub put-returns-in-And : goal.put-returns-in-And
unfolding Rattle.dr_having.specs.declared.having.Having.TheViews.roll-Having denote.Hole.Carrier.roll
put-returns-in-And t c =
    let at = c.in-And in
    let seen = ap condition_in at.is ∙ fold-roll-Having Condition condition_step (And at.conditions) in
    same-more c.args.places.now c.args.asked.now c.put_joined.new.asked (λ dims values. told c.args.holds (meets dims values (every (conditions_of (map condition_in c.as_slice.result.now))))) _ c.put_joined.result
    (λ dims values. ap (λ h. told c.args.holds (meets dims values h)) (ap (λ l. every (conditions_of (map condition_in l))) c.as_slice.ensures.value ∙ sym seen))
    c.put_joined.ensures

pub put-returns-in-Or : goal.put-returns-in-Or
unfolding Rattle.dr_having.specs.declared.having.Having.TheViews.roll-Having denote.Hole.Carrier.roll
put-returns-in-Or t c =
    let at = c.in-Or in
    let made = c.put_joined-in-Or in
    let seen = ap condition_in at.is ∙ fold-roll-Having Condition condition_step (Or at.conditions) in
    same-more c.args.places.now c.args.asked.now made.new.asked (λ dims values. told c.args.holds (meets dims values (some (conditions_of (map condition_in c.as_slice-in-Or.result.now))))) _ made.result
    (λ dims values. ap (λ h. told c.args.holds (meets dims values h)) (ap (λ l. some (conditions_of (map condition_in l))) c.as_slice-in-Or.ensures.value ∙ sym seen))
    made.ensures

pub put-returns-in-Not : goal.put-returns-in-Not
unfolding Rattle.dr_having.specs.declared.having.Having.TheViews.roll-Having denote.Hole.Carrier.roll
put-returns-in-Not t c =
    let at = c.in-Not in
    let seen = ap condition_in at.is ∙ fold-roll-Having Condition condition_step (Not at.inner) in
    same-more c.args.places.now c.args.asked.now c.put.new.asked (λ dims values. told (not c.args.holds) (meets dims values (condition_in c.deref.result.now))) _ c.put.result
    (λ dims values. ap (λ h. told (not c.args.holds) (meets dims values (condition_in h))) c.deref.ensures
    ∙ opposite-wanted c.args.holds (meets dims values (condition_in (box_value at.inner)))
    ∙ ap (λ h. told c.args.holds (meets dims values h)) (sym seen))
    c.put.ensures
