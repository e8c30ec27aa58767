use Rattle.std.proofs.Common.{◌∙◌, sym, ap, ◌&&◌, not}
use Rattle.dr_predicate.proofs.Dimensions.{narrower}
use Rattle.dr_predicate.specs.Asked.{all_asked, is_asked, is_denied, apart_told}
use Rattle.dr_predicate.specs.Match.{some_within, lies_within, passes}
use Rattle.dr_predicate.proofs.value_tests.ValueTests.ask.Goals as goal

pub returns-in_ok-ask_texts-in-Equals : goal.returns-in_ok-ask_texts-in-Equals
returns-in_ok-ask_texts-in-Equals c = λ value.
    c.in_ok-ask_texts-in-Equals.ensures value ∙ ap (λ t. all_asked c.args.self.now value && passes t value) (sym c.in-Equals.is)

pub returns-in_ok-ask_texts-in-Among : goal.returns-in_ok-ask_texts-in-Among
returns-in_ok-ask_texts-in-Among c = λ value.
    c.in_ok-ask_texts-in-Among.ensures value ∙ ap (λ t. all_asked c.args.self.now value && passes t value) (sym c.in-Among.is)

pub returns-in-Within : goal.returns-in-Within
returns-in-Within c = λ value.
    let a = c.args.self.now in
    let texts = is_asked a.texts value in
    let no_texts = not (is_denied a.no_texts value) in
    let no_ranges = not (some_within a.no_ranges.items value) in
    let others = apart_told a.apart value in
    let asked = (texts && ((lies_within a.within value && no_texts) && no_ranges)) && others in
    ap (λ w. (texts && ((w && no_texts) && no_ranges)) && others) (c.narrow.ensures value)
    ∙ narrower texts (lies_within a.within value) (lies_within c.in-Within.bounds value) no_texts no_ranges others
    ∙ ap (λ t. asked && passes t value) (sym c.in-Within.is)
