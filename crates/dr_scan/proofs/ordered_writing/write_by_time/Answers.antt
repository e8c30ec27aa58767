use Rattle.std.proofs.Common.{◌∙◌, ap, sym, subst, List, ◌++◌, map, drop}
use Rattle.std.proofs.lemmas.Result.{on_ok_weaker}
use Rattle.std.specs.List.{AllByRecursion}
use Rattle.json.specs.Token.{Token}
use Rattle.dr_answers.specs.Given.{limited}
use Rattle.dr_answers.specs.InOrder.{in_order_by}
use Rattle.dr_ask.specs.Asked.{asked}
use Rattle.dr_base.specs.declared.row.Row.{Row}
use Rattle.dr_scan.specs.declared.row_place.RowPlace.{RowPlace}
use Rattle.dr_scan.specs.Places.{places_cmp, row_of, IsPlace}
use Rattle.dr_scan.specs.Written.{one_entry_tokens}
use Rattle.dr_scan.proofs.PlaceLemmas.{are-given, are-in_order, are-places_over}
use Rattle.dr_scan.proofs.ordered_writing.write_by_time.Goals as goal

pub write_one_entry-requires : goal.write_one_entry-requires
write_one_entry-requires c =
    let q = asked c.args.query.now in
    let gs = c.args.segments.now in
    let s = c.args.scan.now in
    let shown : List RowPlace → List RowPlace = λ ps. limited s.limit (drop s.offset ps) in
    let given_is = c.given-given.ensures ∙ ap shown (c.as_slice.ensures.value ∙ c.in_ok-places.ensures ∙ ap (λ (ps : List RowPlace). in_order_by (places_cmp c.args.order) ps) c.in_ok-selected_places.ensures) in
    let are = are-given gs s.offset s.limit _ _ (are-in_order gs c.args.order _ _ (are-places_over q gs)) in
    subst (λ (ps : List RowPlace). AllByRecursion (IsPlace gs) ps) (sym given_is) are.there

pub returns : goal.returns
returns c =
    let q = asked c.args.query.now in
    let gs = c.args.segments.now in
    let s = c.args.scan.now in
    let shown : List RowPlace → List RowPlace = λ ps. limited s.limit (drop s.offset ps) in
    let given_is = c.given-given.ensures ∙ ap shown (c.as_slice.ensures.value ∙ c.in_ok-places.ensures ∙ ap (λ (ps : List RowPlace). in_order_by (places_cmp c.args.order) ps) c.in_ok-selected_places.ensures) in
    let are = are-given gs s.offset s.limit _ _ (are-in_order gs c.args.order _ _ (are-places_over q gs)) in
    let written : List Row → List Token = λ rows. c.args.out.now.tokens ++ one_entry_tokens s c.args.columns.now rows in
    on_ok_weaker c.write_one_entry.result
    (λ e. (e.0, e.1 ∙ ap (λ (ps : List RowPlace). written (map (row_of gs) ps)) given_is ∙ ap written are.rows))
    c.write_one_entry.ensures
