use Rattle.std.proofs.Common.{◌≡◌, ◌∙◌, sym, ap, Some, None, is_some, unwrap_or, option_map, slice_get, true≢false, Bor, ℕ, List}
use Rattle.std.proofs.lemmas.Option.{slice_get-map, slice_get-get_or, slice_get_past}
use Rattle.std.specs.Cmp.Lexicographic.{bytes_decides}
use Rattle.dr_segment.proofs.first_values.SoughtTextSought.stands_at.Goals as goal

abbrev seen : Bor (List ℕ) → List ℕ
seen t = t.now

pub returns-in-Some-clause-yes : goal.returns-in-Some-clause-yes
returns-in-Some-clause-yes c = λ is.
    let texts = c.args.self.now.texts.now in
    let at : slice_get texts c.args.place ≡ Some c.in-Some.text.now = slice_get-get_or texts c.args.place c.in-Some.text.now c.in-Some.ensures.lookup.3.0 ∙ ap Some (sym c.in-Some.ensures.lookup.1) in
    slice_get-map seen texts c.args.place ∙ ap (option_map seen) at ∙ ap Some ((bytes_decides _ _).0 (sym c.eq.ensures ∙ is))

pub returns-in-Some-clause-no : goal.returns-in-Some-clause-no
returns-in-Some-clause-no c = λ is there.
    let texts = c.args.self.now.texts.now in
    let at : slice_get texts c.args.place ≡ Some c.in-Some.text.now = slice_get-get_or texts c.args.place c.in-Some.text.now c.in-Some.ensures.lookup.3.0 ∙ ap Some (sym c.in-Some.ensures.lookup.1) in
    let same = ap (λ o. unwrap_or o c.args.self.now.text.now) (sym (ap (option_map seen) at) ∙ sym (slice_get-map seen texts c.args.place) ∙ there) in
    true≢false (sym ((bytes_decides _ _).1 same) ∙ sym c.eq.ensures ∙ is)

pub returns-in-None-clause-no : goal.returns-in-None-clause-no
returns-in-None-clause-no c = λ is there.
    let texts = c.args.self.now.texts.now in
    let at : slice_get texts c.args.place ≡ None = slice_get_past texts c.args.place c.in-None.ensures.lookup.3 in
    true≢false (sym (ap is_some there) ∙ ap is_some (slice_get-map seen texts c.args.place ∙ ap (option_map seen) at))
