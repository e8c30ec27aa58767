use Rattle.std.proofs.Common.{rules, ◌≡◌, ◌≢◌, ◌∙◌, sym, ap, subst, ◌+◌, ◌<◌, ◌/◌, ◌%◌, [], length, get_or, arith}
use Rattle.std.proofs.lemmas.Bool.Decides.{nat_tests}
use Rattle.std.proofs.lemmas.List.{get_or_default, take_rest}
use Rattle.dr_places.specs.Places.{IsKept}
use Rattle.std.proofs.lemmas.Nat.{mod_below}
use Rattle.dr_places.specs.Digits.{HasDigit}
use Rattle.dr_places.proofs.DigitLemmas.{digit-within, kept, all-kept, none-kept}
use Rattle.dr_places.proofs.digits.Digits.keep.Goals as goal

pub returns-then-not-is_empty-clause-each : goal.returns-then-not-is_empty-clause-each
returns-then-not-is_empty-clause-each c =
    let cs = c.args.letters.now in
    let d = c.args.self.now.divisor in
    let m = c.args.self.now.count in
    let sets = c.args.self.now.sets.items in
    let x = c.args.letter / d % m in
    let some : 0 < length sets = search rules in
    let within : x < length sets = digit-within cs d m x sets c.requires.digits some (mod_below (c.args.letter / d) m c.requires.count) in
    let set = c.words-set.result.now in
    let there : set ≡ get_or sets x [] =
    c.words-set.ensures ∙ c.index.ensures ∙ ap (λ y. get_or sets y c.index.result.now) c.digit_of-digit.ensures ∙ get_or_default sets x c.index.result.now [] within in
    let has : HasDigit cs d m x set = subst (HasDigit cs d m x) (sym there) (c.requires.digits.each x within) in
    kept cs c.args.words.now set c.keep_bits.new.words c.args.lo c.args.from c.args.end d m x has
    (λ k le lt. subst (λ l. IsKept (get_or l k 0) (get_or l (k + 1) 0) (c.args.lo % 64) (get_or c.args.words.now k 0) (get_or c.keep_bits.new.words k 0)) (take_rest set (c.args.lo / 64)) (c.keep_bits.ensures.each k le lt))

pub returns-then-digit-eq0-clause-each : goal.returns-then-digit-eq0-clause-each
returns-then-digit-eq0-clause-each c k le lt within =
    let d = c.args.self.now.divisor in
    let m = c.args.self.now.count in
    let none : length c.args.self.now.sets.items ≡ 0 = search rules in
    let digit : c.args.letter / d % m ≡ 0 = grind (arith, nat_tests, c.digit_of-digit.ensures, c.if-digit-eq0.true) in
    all-kept c.args.letters.now c.args.words.now c.args.lo d m c.args.letter c.args.self.now.sets.items c.requires.digits none c.requires.count digit k within

pub returns-clause-each : goal.returns-clause-each
returns-clause-each c =
    let d = c.args.self.now.divisor in
    let m = c.args.self.now.count in
    let none : length c.args.self.now.sets.items ≡ 0 = search rules in
    let digit : c.args.letter / d % m ≢ 0 = λ e. grind (arith, nat_tests, c.digit_of-digit.ensures, c.if-digit-eq0.false, e) in
    none-kept c.args.letters.now c.args.words.now c.args.lo d m c.args.letter c.args.self.now.sets.items c.requires.digits none c.requires.count c.put_words.new.words c.args.from c.args.end digit c.put_words.ensures.each
