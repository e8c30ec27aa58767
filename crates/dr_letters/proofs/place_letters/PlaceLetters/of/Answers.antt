use Rattle.std.proofs.Common.{◌≡◌, ◌∙◌, ◌%◌, ◌<◌, not, true, false, List, length, get_or, ap, sym, subst}
use Rattle.std.specs.List.{All, filter}
use Rattle.std.proofs.lemmas.List.Elements.{All-filter}
use Rattle.dr_rowindex.specs.declared.row_set.RowSet.{RowSet}
use Rattle.dr_letters.specs.declared.text_letter.TextLetter.{TextLetter}
use Rattle.dr_letters.specs.Codes.{is_common, is_rare}
use Rattle.dr_letters.proofs.ReadLemmas.{each-read}
use Rattle.dr_letters.proofs.RareLemmas.{not_true, only-rare, rare-digits, ranked-rare}
use Rattle.dr_letters.proofs.place_letters.PlaceLetters.of.Goals as goal

pub of-requires : goal.of-requires
of-requires c =
    let within = All-filter (is_rare c.as_slice-codes.result.now) (λ (l : TextLetter). l.row < c.args.count) c.args.letters.now c.requires in
    subst (All (λ (l : TextLetter). l.row < c.args.count)) (sym (c.as_slice-others.ensures.value ∙ c.in_ok-found.ensures)) within

pub invariant_of-result : goal.invariant_of-result
invariant_of-result c =
    let common = c.in_ok-common.common.items in
    let letters = c.args.letters.now in
    let is : c.as_slice-others.result.now ≡ filter (is_rare common) letters = c.as_slice-others.ensures.value ∙ c.in_ok-found.ensures ∙ ap (λ l. filter (is_rare l) letters) c.as_slice-codes.ensures.value in
    let only = subst (All (λ (l : TextLetter). is_rare common l ≡ true)) (sym is) (only-rare common letters) in
    record {
      common_count = λ k d lt. c.in_ok-common.ensures.count k d lt ∙ sym c.in_ok-ended.ensures.count;
      rare_count = c.in_ok-rare.ensures.count ∙ sym c.in_ok-ended.ensures.count;
      rare_own = λ n has. not_true (is_common common n) (c.in_ok-rare.ensures.only (λ m. not (is_common common m)) n only has);
    }

pub returns : goal.returns
returns c = λ codes long read.
    let letters = c.args.letters.now in
    let common = c.in_ok-common.common.items in
    let others = c.as_slice-others.result.now in
    let rare = c.in_ok-rare.rare in
    let held = c.in_ok-rare.ensures.held in
    let is : others ≡ filter (is_rare common) letters = c.as_slice-others.ensures.value ∙ c.in_ok-found.ensures ∙ ap (λ l. filter (is_rare l) letters) c.as_slice-codes.ensures.value in
    let rows : (sets : List RowSet) → All (λ s. length s ≡ rare.row_count) sets → All (λ s. length s ≡ c.args.count) sets = λ sets. subst (λ n. All (λ s. length s ≡ n) sets) c.in_ok-rare.ensures.count in
    record {
      ended = c.in_ok-ended.ensures.told codes long read;
      common = c.in_ok-common.ensures.told codes long read;
      rare = record {
        ranked = ranked-rare common codes letters others rare.ranks read is held.ranked;
        last = rare-digits common codes letters others c.args.count rare.ranks 1 rare.base rare.last.items long (rows rare.last.items rare.last_sets.rows) read is held.last;
        first = rare-digits common codes letters others c.args.count rare.ranks rare.base 18446744073709551615 rare.first.items long (rows rare.first.items rare.first_sets.rows) read is held.first;
      };
      seen = λ i lt some. each-read (λ n. get_or c.in_ok-seen.seen (n % 128) false ≡ true) codes letters read c.in_ok-seen.ensures i lt some;
    }
