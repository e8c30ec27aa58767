use Rattle.std.proofs.Common.{rules, ◌≡◌, [], not, map, get_or, arith}
use Rattle.std.proofs.lemmas.Fn.{always_returns_same}
use Rattle.dr_predicate.specs.Ranges.{begun}
use Rattle.dr_rowindex.proofs.TextLemmas.{not-begun-parted, turned}
use Rattle.dr_rowindex.proofs.text_order.begin_of.Goals as goal

pub returns-clause-before : goal.returns-clause-before
returns-clause-before c j r lt =
    let texts = map (λ t. t.now) c.args.texts.now in
    let b = c.args.bounds.now in
    let parts = c.partition_point.ensures.partitioned (λ r. not (begun (get_or texts r []) b)) (always_returns_same _ (λ a r. r ≡ not (begun (get_or texts a.0.now []) b)) _ (λ a r f called. search rules)) in
    turned _ _ ((parts (not-begun-parted texts c.args.rows.now c.requires b)).0 j r (omega arith) lt)

pub returns-clause-behind : goal.returns-clause-behind
returns-clause-behind c j r le lt =
    let texts = map (λ t. t.now) c.args.texts.now in
    let b = c.args.bounds.now in
    let parts = c.partition_point.ensures.partitioned (λ r. not (begun (get_or texts r []) b)) (always_returns_same _ (λ a r. r ≡ not (begun (get_or texts a.0.now []) b)) _ (λ a r f called. search rules)) in
    turned _ _ ((parts (not-begun-parted texts c.args.rows.now c.requires b)).1 j r le lt)
