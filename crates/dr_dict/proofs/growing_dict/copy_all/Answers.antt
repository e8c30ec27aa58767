use Rattle.std.proofs.Common.{◌≡◌, ◌<◌, ap, take, length, get_or, if◌then◌else◌, ◌++◌, ◌∷◌, []}
use Rattle.dr_dict.proofs.Texts.{distinct-before}
use Rattle.dr_dict.proofs.SortedTexts.{take-one_more}
use Rattle.dr_dict.proofs.growing_dict.copy_all.Goals as goal

pub loop-text-preserved : goal.loop-text-preserved
loop-text-preserved c =
    let ks = c.args.texts.now.keys in
    let i = c.loop-text.text-index in
    let t = c.in_ok-copy.field-0 in
    let own : t ≡ c.text-item.result = c.in_ok-copy.ensures in
    let lt : i < length ks = rw (← c.as_slice-text-items.ensures.keys) c.loop-text-test.true in
    let is : t ≡ get_or ks i t = rw (← c.as_slice-text-items.ensures.keys, own) c.text-item.is in
    let new = distinct-before ks i t c.requires lt is in
    rw (c.in_ok-insert.ensures.keys, c.loop-text.invariant, take-one_more ks i t lt is) (ap (λ b. if b then take i ks else take i ks ++ t ∷ []) new)
