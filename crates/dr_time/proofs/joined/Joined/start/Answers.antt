use Rattle.std.proofs.Common.{◌≡◌, ◌∙◌, List, [], ◌∷◌, Some}
use Rattle.std.specs.List.{slice_get}
use Rattle.dr_time.specs.declared.interval.Interval.{Interval}
use Rattle.dr_time.specs.Interval.{first_time}
use Rattle.dr_time.specs.Joined.{AreApart}
use Rattle.dr_time.specs.Union.{union_holds, union_start}
use Rattle.dr_time.proofs.JoinedLemmas.{first_of, first-unique}
use Rattle.dr_time.proofs.UnionLemmas.{union_start-first}
use Rattle.dr_time.proofs.joined.Joined.start.Goals as goal

started : (is : List Interval) (first : Interval) → AreApart is → Some first ≡ slice_get is 0 → first_time first ≡ union_start is
started [] first apart h = absurd (cc h)
started (i ∷ is) first apart h =
    let same : first ≡ i = cc h in
    rw same (first-unique (union_holds (i ∷ is)) (first_time i) (union_start (i ∷ is)) (first_of i is apart) (union_start-first (i ∷ is)))

pub returns-in-Some : goal.returns-in-Some
returns-in-Some c =
    let items = c.deref.ensures.value ∙ c.self.view_is in
    let apart = rw c.self.view_is at c.self.invariant in
    let item = rw items at c.in-Some.ensures.value in
    c.first-in-Some.ensures ∙ started c.args.self.now c.in-Some.interval.now apart item
