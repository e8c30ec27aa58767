use Rattle.std.proofs.Common.{refl, sym, subst, map, take, get_or, length, ◌+◌, ◌%◌, [], List, ℕ, Bor}
use Rattle.dr_segment.proofs.WritingLemmas.{EndsSoFar, ends_all, ends_none, ends_step}
use Rattle.dr_segment.proofs.writing.put_text_ends.Goals as goal

pub loop-text-init : goal.loop-text-init
loop-text-init c = ends_none c.args.out.now.items

pub loop-text-preserved : goal.loop-text-preserved
loop-text-preserved c =
    let none : Bor (List ℕ) = record { ref_ptr = (0, 0); now = [] } in
    let i = c.loop-text.text-index in
    let texts = c.args.texts.now in
    let next : ℕ = (c.loop-text.end + length (get_or texts i none).now) % 18446744073709551616 in
    subst (λ (o : List ℕ). EndsSoFar c.args.out.now.items o (map (λ t. t.now) (take (i + 1) texts)) next) (sym c.in_ok-put_count.ensures)
    (ends_step (λ (t : Bor (List ℕ)). t.now) c.args.out.now.items c.loop-text.out.items texts i none c.loop-text.end next c.loop-text-test.true c.loop-text.invariant refl)

pub returns : goal.returns
returns c = ends_all (λ t. t.now) c.args.out.now.items c.loop-text.out.items c.args.texts.now c.loop-text.text-index c.loop-text.end c.loop-text-test.false c.loop-text.invariant
