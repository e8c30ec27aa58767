use Rattle.std.proofs.Common.{◌≡◌, ◌∙◌, ap, subst, sym, map, length, ◌%◌, ◌++◌, ◌<◌, List, ℕ, Bor, All, arith}
use Rattle.std.proofs.lemmas.List.{length-map}
use Rattle.dr_image.specs.Words.{spelled_words}
use Rattle.dr_image.specs.Pieces.{ends_from}
use Rattle.dr_image.specs.Image.{joined, lists_of}
use Rattle.dr_segment.specs.Tables.{column_seen}
use Rattle.dr_segment.proofs.WritingLemmas.{dimension_by, known}
use Rattle.dr_segment.proofs.writing.put_dimension.Goals as goal
use Rattle.dr_segment.proofs.writing.put_dimension.Goals.{After-len}

pub row_lists-requires-clause-few : goal.row_lists-requires-clause-few
row_lists-requires-clause-few c = omega (arith, ap length c.deref.ensures.value, c.requires)

count : (c : After-len) → c.len.result ≡ length (column_seen c.args.dimension.now).dictionary
count c = omega (arith, c.len.ensures, c.args.dimension.now.dictionary.ok.0, length-map c.args.dimension.now.dictionary.items (λ (t : Bor (List ℕ)). t.now))

pub row_lists-requires-clause-known : goal.row_lists-requires-clause-known
row_lists-requires-clause-known c =
    subst (λ (ns : List ℕ). All (λ n. n < c.len.result) ns) (sym c.deref.ensures.value)
    (subst (λ n. All (λ m. m < n) c.args.dimension.now.numbers.items) (sym (count c)) (known c.args.dimension.now))

pub returns : goal.returns
returns c =
    let d = c.args.dimension.now in
    let at = goal.at.returns c in
    let texts : List (Bor (List ℕ)) → List (List ℕ) = λ xs. map (λ t. t.now) xs in
    let many : c.len-2.result ≡ length (column_seen d).dictionary = omega (arith, c.len-2.ensures, d.dictionary.ok.0, length-map d.dictionary.items (λ t. t.now)) in
    let lists : lists_of c.len.result c.deref.result.now ≡ (column_seen d).lists = λ i. lists_of (count at.After-len i) (c.deref.ensures.value i) in
    dimension_by (column_seen d) c.args.out.now.items _ _ _ _ _ _ _ c.len-2.result c.text_bytes.result many
    (c.text_bytes.ensures ∙ ap (λ xs. length (joined (texts xs)) % 18446744073709551616) c.deref-2.ensures.value)
    c.in_ok-put_count.ensures c.in_ok-put_count-2.ensures
    (c.in_ok-put_text_ends.ensures ∙ ap (λ xs. c.put_count-2.new.out.items ++ spelled_words (ends_from 0 (texts xs))) c.deref-3.ensures.value)
    (c.in_ok-put_texts.ensures ∙ ap (λ xs. c.put_text_ends.new.out.items ++ joined (texts xs)) c.deref-4.ensures.value)
    (c.in_ok-put_words.ensures ∙ ap (λ xs. c.put_texts.new.out.items ++ spelled_words xs) c.deref-5.ensures.value)
    (c.in_ok-put_words-2.ensures ∙ ap (λ xs. c.put_words.new.out.items ++ spelled_words xs) (c.deref-6.ensures.value ∙ c.in_ok-lists.ensures.ends ∙ ap (ends_from 0) lists))
    (c.in_ok-put_words-3.ensures ∙ ap (λ xs. c.put_words-2.new.out.items ++ spelled_words xs) (c.deref-7.ensures.value ∙ c.in_ok-lists.ensures.rows ∙ ap joined lists))
