use Rattle.std.proofs.Common.{◌≡◌, ◌∙◌, sym, ap, subst, List, ℕ, [], ◌∷◌, ◌++◌, Some, false, length, map, slice_get, bytes_eq, Bor, rules}
use Rattle.std.specs.List.{list_any}
use Rattle.std.proofs.lemmas.List.{map-append, length-map}
use Rattle.dr_dict.specs.TextPlaces.{IsFoundAt, AreFound}
use Rattle.dr_dict.proofs.PlacedTexts.{there-any, found-still, found-more}
use Rattle.dr_segment.proofs.RankingLemmas.{known-added, new-added, last-there}
use Rattle.dr_segment.proofs.first_values.add_text.Goals as goal

abbrev seen : List (Bor (List ℕ)) → List (List ℕ)
seen texts = map (λ t. t.now) texts

pub returns-in-Some-clause-added : goal.returns-in-Some-clause-added
returns-in-Some-clause-added c =
    let at = subst (λ l. slice_get (seen l) c.in-Some.place ≡ Some c.args.text.now) c.as_slice.ensures.value c.in-Some.ensures.some in
    known-added (seen c.args.texts.now.items) c.args.text.now (there-any (seen c.args.texts.now.items) c.args.text.now c.in-Some.place at)

pub returns-clause-added : goal.returns-clause-added
returns-clause-added c =
    let none = subst (λ l. list_any (bytes_eq c.args.text.now) (seen l) ≡ false) c.as_slice.ensures.value (c.place_of.ensures.none c.in_default.is) in
    new-added (seen c.args.texts.now.items) (seen c.push.new.self.items) c.args.text.now none (ap seen c.in_ok-push.ensures.items ∙ map-append (λ t. t.now) c.args.texts.now.items (c.args.text ∷ []))

pub returns-clause-place : goal.returns-clause-place
returns-clause-place c =
    let texts = c.args.texts.now.items in
    let all : seen c.push.new.self.items ≡ seen texts ++ c.args.text.now ∷ [] = ap seen c.in_ok-push.ensures.items ∙ map-append (λ t. t.now) texts (c.args.text ∷ []) in
    let n : c.len-place.result ≡ length texts = search rules in
    let behind : c.len-place.result ≡ length (seen texts) = n ∙ sym (length-map texts (λ t. t.now)) in
    ap (slice_get (seen c.push.new.self.items)) behind ∙ ap (λ (l : List (List ℕ)). slice_get l (length (seen texts))) all ∙ last-there (seen texts) c.args.text.now

pub returns-clause-found : goal.returns-clause-found
returns-clause-found c =
    let texts = c.args.texts.now.items in
    let text = c.args.text.now in
    let none = subst (λ l. list_any (bytes_eq text) (seen l) ≡ false) c.as_slice.ensures.value (c.place_of.ensures.none c.in_default.is) in
    let all : seen c.push.new.self.items ≡ seen texts ++ text ∷ [] = ap seen c.in_ok-push.ensures.items ∙ map-append (λ t. t.now) texts (c.args.text ∷ []) in
    let n : c.len-place.result ≡ length texts = search rules in
    let behind : c.len-place.result ≡ length (seen texts) = n ∙ sym (length-map texts (λ t. t.now)) in
    let last = subst (IsFoundAt c.put.new.self text) behind c.in_ok-put.ensures.put in
    subst (λ (l : List (List ℕ)). AreFound c.put.new.self l) (sym all) (found-more c.put.new.self (seen texts) text (found-still c.args.found.now c.put.new.self (seen texts) text c.put.ensures.kept none c.requires.found) last)
