use Rattle.std.proofs.Common.{rules, ◌≡◌, ◌∙◌, sym, ap, subst, ◌-◌, ◌<◌, ◌≤◌, ◌++◌, length, vec_len, map, arith}
use Rattle.std.specs.List.{AllByRecursion}
use Rattle.std.proofs.lemmas.List.{take_all}
use Rattle.dr_base.specs.declared.row.Row.{Row}
use Rattle.dr_agg.specs.Rollup.{all_rows}
use Rattle.dr_time.specs.Instant.{IsInstant}
use Rattle.dr_workers.specs.Shared.{rows_of}
use denote.Param.Send.{IsSync, sendable, given_send, given_sync}
use Rattle.std.proofs.Crossing.{crosses}
use Rattle.dr_fragment.proofs.shared_fragment.SharedFragment.TheSendSync as pinned
use Rattle.dr_scatter.proofs.Crossing.{query-sync}
use Rattle.dr_scatter.proofs.Begins.{begin-rises, begin-past}
use Rattle.dr_workers.proofs.Rows.{rows-part, in-part}
use Rattle.dr_scatter.proofs.Kept.{one-more-share, all-push, kept-each}
use Rattle.dr_scatter.proofs.threads.fn.results.scope.Goals as goal

pub spawn_with-requires-clause-runs : goal.spawn_with-requires-clause-runs
spawn_with-requires-clause-runs g c κs within = in-part (λ (r : Row). IsInstant r.key.time) c.captures.fragments.now c.workers.from (c.begin_of-to.result - c.workers.from) c.requires.1

pub workers-preserved : goal.workers-preserved
workers-preserved g c =
    let fs = c.captures.fragments.now in
    let from = c.workers.from in
    let to = c.begin_of-to.result in
    let test = c.workers-test.true in
    let some : 0 < c.captures.workers = omega arith in
    let le : from ≤ to = rw (c.workers.invariant.0, c.begin_of-to.ensures.value) (begin-rises c.workers.k (length fs) c.captures.workers some) in
    let promised = c.in-Ok.ensures.ok in (
      c.begin_of-to.ensures.value,
      ap (λ hs. all_rows (map (λ h. rows_of h.promise.share.now) hs)) c.in_ok-push-in-Ok.ensures.items
          ∙ one-more-share (λ h. rows_of h.promise.share.now) c.workers.children.items c.in-Ok.child
          ∙ (λ i. c.workers.invariant.1 i ++ rows_of (promised i).share.now)
          ∙ rows-part fs from to le,
      subst (AllByRecursion (λ h. h.promise.query.now ≡ c.captures.query.now)) (sym c.in_ok-push-in-Ok.ensures.items)
          (all-push (λ h. h.promise.query.now ≡ c.captures.query.now) c.workers.children.items c.in-Ok.child c.workers.invariant.2 (ap (λ p. p.query.now) promised)),
    )

pub returns : goal.returns
returns g c =
    let fs = c.captures.fragments.now in
    let stop = c.workers-test.false in
    let end = c.workers.auto.k-end in
    let last : c.workers.k ≡ c.captures.workers = omega arith in
    let past : length fs ≤ c.workers.from = begin-past c.workers.k c.workers.from (length fs) c.captures.workers last c.workers.invariant.0 c.requires.3 in
    let n : length c.in_ok-join_promised.field-0.items ≡ length c.workers.children.items = search rules in
    let m : length c.workers.children.items ≡ vec_len c.workers.children = search rules in (
      map (λ h. rows_of h.promise.share.now) c.workers.children.items,
      c.workers.invariant.1 ∙ ap rows_of (take_all c.workers.from fs past),
      kept-each (λ h. h.promise.query.now) (λ h. rows_of h.promise.share.now) c.captures.query.now c.workers.children.items c.in_ok-join_promised.field-0.items n c.workers.invariant.2
          (λ i d lt. let k = (c.in_ok-join_promised.ensures.each i d (omega (arith, lt, m))).1 in (k.handle, k.handle_is, k.kept)),
    )

pub spawn_with-requires-send-F : goal.spawn_with-requires-send-F
spawn_with-requires-send-F g c κs within =
    let gate : IsSync g.row.G = given_sync 1 g.row.G c.requires.0 in
    search (sendable, crosses, query-sync, pinned.the_sync, given_send) depth 20
