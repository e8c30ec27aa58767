-- Conditions on outputs that are collected output by output, and come down to one for each.
use Rattle.std.proofs.Common.{◌≡◌, ◌∙◌, sym, refl, ap, ℕ, ℤ, zero, suc, ◌<◌, ◌≤◌, ◌+◌, Bool, true, false, not, ◌||◌, ◌&&◌, List, [], ◌∷◌, ◌++◌, length, get_or, set, drop, bytes_eq, Result, Ok, Err, OnOk, arith}
use Rattle.std.specs.List.{list_any, list_all}
use Rattle.std.specs.Cmp.Lexicographic.{bytes_decides}
use Rattle.std.proofs.lemmas.List.{drop_more, drop_all, get_or_read}
use Rattle.std.proofs.lemmas.List.Folds.{list_all-append}
use Rattle.dr_base.proofs.Truths.{and_regroups, and_swaps, and_ends, and_true}
use Rattle.dr_having.specs.declared.asked_output.AskedOutput.{AskedOutput}
use Rattle.dr_having.specs.declared.number_conditions.NumberConditions.{NumberConditions}
use Rattle.dr_having.specs.declared.number_look_up.NumberLookUp.{NumberLookUp}
use Rattle.dr_having.specs.declared.text_conditions.TextConditions.{TextConditions}
use Rattle.dr_having.specs.declared.text_look_up.TextLookUp.{TextLookUp}
use Rattle.dr_having.specs.Collected.{are_numbers, is_text, are_texts, all_numbers, all_texts}
use Rattle.dr_having.specs.JoinedSteps.{are_among}
use Rattle.dr_having.specs.LookUps.{is_among_at, is_found}
use Rattle.dr_base.specs.Told.{told}
use Rattle.dr_having.specs.OutputMeets.{output_meets, outputs_meet}
use Rattle.dr_having.specs.Steps.{is_among}
use Rattle.dr_outputs.specs.Numbered.{number_at, text_at}

-- ---- all of a list

module _ {A : Type 0} (f : A → Bool) where
  -- where one gives way to another that asks one thing more
  list_all-set : (old new : A) (b : Bool) (xs : List A) (i : ℕ) → i < length xs → old ≡ get_or xs i old → f new ≡ (f old && b) → list_all f (set xs i new) ≡ (list_all f xs && b)
  list_all-set old new b [] i lt is h = absurd (omega (arith, lt))
  list_all-set old new b (x ∷ xs) zero lt is h = ap (λ a. a && list_all f xs) (h ∙ ap (λ z. f z && b) is) ∙ and_swaps (f x) b (list_all f xs)
  list_all-set old new b (x ∷ xs) (suc i) lt is h = ap (λ a. f x && a) (list_all-set old new b xs i (omega (arith, lt)) is h) ∙ and_regroups (f x) (list_all f xs) b

  list_all-push : (xs : List A) (x : A) → list_all f (xs ++ x ∷ []) ≡ (list_all f xs && f x)
  list_all-push xs x = list_all-append f xs (x ∷ []) ∙ and_ends (list_all f xs) (f x)

  -- one thing more, in the place of the next of a list, of which the others are left
  pub next-all : (xs : List A) (i : ℕ) (x : A) (so_far now : Bool) → i < length xs → x ≡ get_or xs i x → now ≡ (so_far && f x) → (now && list_all f (drop (i + 1) xs)) ≡ (so_far && list_all f (drop i xs))
  next-all xs i x so_far now lt is more =
      let rest = list_all f (drop (i + 1) xs) in
      ap (λ b. b && rest) more ∙ sym (and_regroups so_far (f x) rest) ∙ ap (λ l. so_far && list_all f l) (ap (λ y. y ∷ drop (i + 1) xs) is ∙ sym (drop_more xs i x lt))

  -- and at the end of the list
  pub last-all : (xs : List A) (i : ℕ) (so_far : Bool) → length xs ≤ i → so_far ≡ (so_far && list_all f (drop i xs))
  last-all xs i so_far le = sym (and_true so_far) ∙ ap (λ l. so_far && list_all f l) (sym (drop_all i xs le))

-- ---- conditions that are collected

pub numbers-more : (numbers : List NumberConditions) (i : ℕ) (l : NumberLookUp) (at old new : NumberConditions) → i < length numbers → at ≡ get_or numbers i at → at.place ≡ l.place → old ≡ get_or numbers i old
    → new.place ≡ old.place → new.sets.items ≡ old.sets.items ++ l.steps ∷ [] → (values : List ℤ) → all_numbers values (set numbers i new) ≡ (all_numbers values numbers && is_among_at values l)
numbers-more numbers i l at old new lt is_at here is same more values =
    let one : old ≡ at = get_or_read numbers i old lt is at ∙ sym is_at in
    list_all-set (are_numbers values) old new (is_among_at values l) numbers i lt is
    ((λ k. are_among (more k) (number_at (same k) values)) ∙ list_all-push (λ s. is_among s (number_at old.place values)) old.sets.items l.steps
    ∙ (λ k. are_numbers values old && is_among l.steps (number_at ((ap (λ c. c.place) one ∙ here) k) values)))

pub texts-more : {E : Type 0} (texts : List TextConditions) (i : ℕ) (l : TextLookUp) (holds : Bool) (at old new : TextConditions) (r : Result (Unit {0}) E) → i < length texts → at ≡ get_or texts i at → at.place ≡ l.place → old ≡ get_or texts i old
    → OnOk r (new.place ≡ old.place) → OnOk r ((text : List ℕ) → is_text new text ≡ (is_text old text && told holds (list_any (bytes_eq text) l.texts)))
    → OnOk r ((dims : List (List ℕ)) → all_texts dims (set texts i new) ≡ (all_texts dims texts && told holds (is_found dims l)))
texts-more texts i l holds at old new (Ok u) lt is_at here is same more = λ dims.
    let one : old ≡ at = get_or_read texts i old lt is at ∙ sym is_at in
    list_all-set (are_texts dims) old new (told holds (is_found dims l)) texts i lt is
    (ap (λ p. is_text new (text_at p dims)) same ∙ more (text_at old.place dims)
    ∙ (λ k. are_texts dims old && told holds (list_any (bytes_eq (text_at ((ap (λ c. c.place) one ∙ here) k) dims)) l.texts)))
texts-more texts i l holds at old new (Err e) lt is_at here is same more = tt

pub texts-behind : (texts new : List TextConditions) (l : TextLookUp) (holds : Bool) (none c : TextConditions) → none.place ≡ l.place → ((text : List ℕ) → is_text none text ≡ true)
    → c.place ≡ none.place → ((text : List ℕ) → is_text c text ≡ (is_text none text && told holds (list_any (bytes_eq text) l.texts))) → new ≡ texts ++ c ∷ []
    → (dims : List (List ℕ)) → all_texts dims new ≡ (all_texts dims texts && told holds (is_found dims l))
texts-behind texts new l holds none c here every same more is dims =
    ap (all_texts dims) is ∙ list_all-push (are_texts dims) texts c
    ∙ (λ k. all_texts dims texts && is_text c (text_at ((same ∙ here) k) dims))
    ∙ ap (λ b. all_texts dims texts && b) (more (text_at l.place dims) ∙ ap (λ b. b && told holds (is_found dims l)) (every (text_at l.place dims)))

-- ---- what they come down to

pub asked-more : {A : Type 0} (f : A → Bool) (dims : List (List ℕ)) (values : List ℤ) (asked new : List AskedOutput) (o : AskedOutput) (xs : List A) (i : ℕ) (x : A) → i < length xs → x ≡ get_or xs i x
    → new ≡ asked ++ o ∷ [] → output_meets dims values o ≡ f x → (outputs_meet dims values new && list_all f (drop (i + 1) xs)) ≡ (outputs_meet dims values asked && list_all f (drop i xs))
asked-more f dims values asked new o xs i x lt is put asks =
    next-all f xs i x (outputs_meet dims values asked) (outputs_meet dims values new) lt is
    (ap (outputs_meet dims values) put ∙ list_all-push (output_meets dims values) asked o ∙ ap (λ b. outputs_meet dims values asked && b) asks)

-- ---- the texts that others lack

-- a text that others lack, or one that is left, where it is the next of those that are left
pub found-other : (others : List (List ℕ)) (text value : List ℕ) (before rest : Bool)
    → ((before || (bytes_eq value text && not (list_any (bytes_eq text) others))) || (rest && not (list_any (bytes_eq value) others))) ≡ (before || ((bytes_eq value text || rest) && not (list_any (bytes_eq value) others)))
found-other others text value before rest = at (bytes_eq value text) refl
  where
    other : (b r h : Bool) → ((b || false) || (r && not h)) ≡ (b || (r && not h))
    other b r h = grind (arith)

    same : (b r h : Bool) → ((b || not h) || (r && not h)) ≡ (b || not h)
    same b r h = grind (arith)

    at : (e : Bool) → bytes_eq value text ≡ e → ((before || (e && not (list_any (bytes_eq text) others))) || (rest && not (list_any (bytes_eq value) others))) ≡ (before || ((e || rest) && not (list_any (bytes_eq value) others)))
    at false h = other before rest (list_any (bytes_eq value) others)
    at true h =
        let one : value ≡ text = (bytes_decides value text).0 h in
        (λ k. (before || not (list_any (bytes_eq (sym one k)) others)) || (rest && not (list_any (bytes_eq value) others))) ∙ same before rest (list_any (bytes_eq value) others)
