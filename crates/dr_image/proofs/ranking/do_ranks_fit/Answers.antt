use Rattle.std.proofs.Common.{◌≡◌, ◌∙◌, sym, ap, arith, ◌<◌, ◌-◌, length, Bool}
use Rattle.dr_image.specs.Sealed.{goes_on}
use Rattle.dr_image.specs.declared.header.Header.{Header}
use Rattle.dr_image.specs.Layout.{parts_in, read_table}
use Rattle.dr_image.proofs.LayoutLemmas.{times_seen, rollup_in}
use Rattle.dr_image.proofs.RankLemmas.{ranks_none, rank_stops, rank_more, rank_ends}
use Rattle.dr_image.proofs.ranking.do_ranks_fit.Goals as goal

pub loop-i-init : goal.loop-i-init
loop-i-init c = let t = read_table c.args.layout.now.bytes.now in ranks_none t.rollup t.times (parts_in c.args.layout.now.bytes.now)

pub returns-then-not-may_go_on : goal.returns-then-not-may_go_on
returns-then-not-may_go_on c =
    let bytes = c.args.layout.now.bytes.now in
    let t = read_table bytes in
    let lt : c.loop-i.i < length t.times - 1 = omega (arith, times_seen bytes) in
    let rollup : c.header-rollup.result.rollup ≡ t.rollup = ap (λ (h : Header). h.rollup) c.header-rollup.ensures ∙ sym (rollup_in bytes) in
    let test : c.may_go_on.result ≡ goes_on t.rollup c.rank.result = c.may_go_on.ensures ∙ ap (λ (b : Bool). goes_on b c.rank.result) rollup in
    sym (sym c.loop-i.invariant ∙ rank_stops t.rollup t.times (parts_in bytes) c.loop-i.i c.rank.result c.may_go_on.result lt c.rank.ensures test c.if-not-may_go_on.true)

pub loop-i-preserved : goal.loop-i-preserved
loop-i-preserved c =
    let bytes = c.args.layout.now.bytes.now in
    let t = read_table bytes in
    let lt : c.loop-i.i < length t.times - 1 = omega (arith, times_seen bytes) in
    let rollup : c.header-rollup.result.rollup ≡ t.rollup = ap (λ (h : Header). h.rollup) c.header-rollup.ensures ∙ sym (rollup_in bytes) in
    let test : c.may_go_on.result ≡ goes_on t.rollup c.rank.result = c.may_go_on.ensures ∙ ap (λ (b : Bool). goes_on b c.rank.result) rollup in
    sym (rank_more t.rollup t.times (parts_in bytes) c.loop-i.i c.rank.result c.may_go_on.result lt c.rank.ensures test c.if-not-may_go_on.false) ∙ c.loop-i.invariant

pub returns : goal.returns
returns c =
    let bytes = c.args.layout.now.bytes.now in
    let t = read_table bytes in
    sym (rank_ends t.rollup t.times (parts_in bytes) c.loop-i.i (omega (arith, times_seen bytes, c.loop-i-test.false))) ∙ c.loop-i.invariant
