-- The checks of the contents of an image, and loops that make them.
use Rattle.std.proofs.Common.{◌≡◌, ◌∙◌, sym, refl, ap, ℕ, ◌+◌, ◌-◌, ◌<◌, ◌≤◌, Bool, true, false, List, [], ◌∷◌, length, take, drop, get_or, map, arith}
use Rattle.std.specs.Prelude.{nat_le, nat_lt, ◌==◌, ◌&&◌}
use Rattle.std.specs.List.{list_all}
use Rattle.std.specs.Str.{is_utf8, IsUtf8}
use Rattle.std.proofs.lemmas.Str.{IsUtf8-from_is_utf8}
use Rattle.std.proofs.lemmas.Bool.{and_left, and_right, le-leb, lt-leb, false_from_ne_true}
use Rattle.std.proofs.lemmas.List.{drop_more, drop_all, length-drop, drop-map, take-map}
use Rattle.dr_image.specs.Words.{word}
use Rattle.dr_image.specs.Pieces.{pieces}
use Rattle.dr_image.specs.Sealed.{each_next}
use Rattle.dr_image.proofs.PieceLemmas.{get_or-pieces}
use Rattle.dr_image.specs.Opening.{rows_have, row_lists_fit, is_row_list}

-- texts are told by the test
pub utf8_not : (bytes : List ℕ) → (IsUtf8 bytes → ⊥) → is_utf8 bytes ≡ false
utf8_not bytes fails = false_from_ne_true (is_utf8 bytes) (λ e. fails (IsUtf8-from_is_utf8 bytes e))

-- ---- a test of each item that is left

pub all_stops : {A : Type 0} (p : A → Bool) (xs : List A) (i : ℕ) (d : A) → i < length xs → p (get_or xs i d) ≡ false → list_all p (drop i xs) ≡ false
all_stops p xs i d lt fails = rw (drop_more xs i d lt) (and_left _ _ fails)

pub all_goes_on : {A : Type 0} (p : A → Bool) (xs : List A) (i : ℕ) (d : A) → i < length xs → p (get_or xs i d) ≡ true → list_all p (drop i xs) ≡ list_all p (drop (i + 1) xs)
all_goes_on p xs i d lt passes = rw (drop_more xs i d lt) (ap (λ b. b && list_all p (drop (i + 1) xs)) passes)

pub all_ends : {A : Type 0} (p : A → Bool) (xs : List A) (i : ℕ) → length xs ≤ i → list_all p (drop i xs) ≡ true
all_ends p xs i le = rw (drop_all i xs le) refl

-- the same of the values of cells
pub cells_stop : {A : Type 0} (f : List ℕ → A) (p : A → Bool) (cells : List (List ℕ)) (i : ℕ) → i < length cells → p (f (get_or cells i [])) ≡ false → list_all p (map f (drop i cells)) ≡ false
cells_stop f p cells i lt fails = rw (drop_more cells i [] lt) (and_left _ _ fails)

pub cells_go_on : {A : Type 0} (f : List ℕ → A) (p : A → Bool) (cells : List (List ℕ)) (i : ℕ) → i < length cells → p (f (get_or cells i [])) ≡ true → list_all p (map f (drop i cells)) ≡ list_all p (map f (drop (i + 1) cells))
cells_go_on f p cells i lt passes = rw (drop_more cells i [] lt) (ap (λ b. b && list_all p (map f (drop (i + 1) cells))) passes)

pub cells_end : {A : Type 0} (f : List ℕ → A) (p : A → Bool) (cells : List (List ℕ)) (i : ℕ) → length cells ≤ i → list_all p (map f (drop i cells)) ≡ true
cells_end f p cells i le = rw (drop_all i cells le) refl

-- ---- neighbours

next-step : {A : Type 0} (r : A → A → Bool) (xs : List A) (i : ℕ) (d : A) → i + 1 < length xs → each_next r (drop i xs) ≡ (r (get_or xs i d) (get_or xs (i + 1) d) && each_next r (drop (i + 1) xs))
unfolding each_next
next-step r xs i d lt = rw (drop_more xs i d (omega arith), drop_more xs (i + 1) d lt) refl

pub next_stops : {A : Type 0} (r : A → A → Bool) (xs : List A) (i : ℕ) (d : A) → i + 1 < length xs → r (get_or xs i d) (get_or xs (i + 1) d) ≡ false → each_next r (drop i xs) ≡ false
next_stops r xs i d lt fails = next-step r xs i d lt ∙ and_left _ _ fails

pub next_goes_on : {A : Type 0} (r : A → A → Bool) (xs : List A) (i : ℕ) (d : A) → i + 1 < length xs → r (get_or xs i d) (get_or xs (i + 1) d) ≡ true → each_next r (drop i xs) ≡ each_next r (drop (i + 1) xs)
next_goes_on r xs i d lt passes = next-step r xs i d lt ∙ ap (λ b. b && each_next r (drop (i + 1) xs)) passes

few_next : {A : Type 0} (r : A → A → Bool) (ys : List A) → length ys ≤ 1 → each_next r ys ≡ true
unfolding each_next
few_next r [] le = refl
few_next r (y ∷ []) le = refl
few_next r (y ∷ z ∷ zs) le = absurd (omega arith)

-- one item is left at most
pub next_ends : {A : Type 0} (r : A → A → Bool) (xs : List A) (i : ℕ) → length xs ≤ i + 1 → each_next r (drop i xs) ≡ true
next_ends r xs i le = few_next r (drop i xs) (omega (arith, length-drop i xs))

-- ---- the rows of a list

abbrev has : List ℕ → ℕ → ℕ → Bool
has numbers r v = nat_lt r (length numbers) && (get_or numbers r 0 == v)

rows-step : (cells : List (List ℕ)) (numbers : List ℕ) (i least v r : ℕ) → i < length cells → r ≡ word (get_or cells i [])
    → rows_have least v numbers (map word (drop i cells)) ≡ (nat_le least r && (has numbers r v && rows_have (r + 1) v numbers (map word (drop (i + 1) cells))))
unfolding rows_have
rows-step cells numbers i least v r lt is =
    let e : rows_have least v numbers (map word (drop i cells)) ≡ (nat_le least (word (get_or cells i [])) && (has numbers (word (get_or cells i [])) v && rows_have (word (get_or cells i []) + 1) v numbers (map word (drop (i + 1) cells)))) = rw (drop_more cells i [] lt) refl in
    e ∙ ap (λ k. nat_le least k && (has numbers k v && rows_have (k + 1) v numbers (map word (drop (i + 1) cells)))) (sym is)

pub row_falls : (cells : List (List ℕ)) (numbers : List ℕ) (i least v r : ℕ) → i < length cells → r ≡ word (get_or cells i []) → r < least
    → rows_have least v numbers (map word (drop i cells)) ≡ false
row_falls cells numbers i least v r lt is falls = rows-step cells numbers i least v r lt is ∙ and_left _ _ (lt-leb least r falls)

pub row_differs : (cells : List (List ℕ)) (numbers : List ℕ) (i least v r : ℕ) → i < length cells → r ≡ word (get_or cells i []) → has numbers r v ≡ false
    → rows_have least v numbers (map word (drop i cells)) ≡ false
row_differs cells numbers i least v r lt is fails = rows-step cells numbers i least v r lt is ∙ and_right _ _ (and_left _ _ fails)

pub row_more : (cells : List (List ℕ)) (numbers : List ℕ) (i least v r : ℕ) → i < length cells → r ≡ word (get_or cells i []) → least ≤ r → has numbers r v ≡ true
    → rows_have least v numbers (map word (drop i cells)) ≡ rows_have (r + 1) v numbers (map word (drop (i + 1) cells))
row_more cells numbers i least v r lt is le passes =
    rows-step cells numbers i least v r lt is
    ∙ ap (λ b. b && (has numbers r v && rows_have (r + 1) v numbers (map word (drop (i + 1) cells)))) (le-leb least r le)
    ∙ ap (λ b. b && rows_have (r + 1) v numbers (map word (drop (i + 1) cells))) passes

pub rows_end : (cells : List (List ℕ)) (numbers : List ℕ) (i least v : ℕ) → length cells ≤ i → rows_have least v numbers (map word (drop i cells)) ≡ true
unfolding rows_have
rows_end cells numbers i least v le = rw (drop_all i cells le) refl

-- ---- the row lists

lists-step : (lists : List (List ℕ)) (numbers : List ℕ) (v : ℕ) → v < length lists
    → row_lists_fit v numbers (drop v lists) ≡ (is_row_list v numbers (get_or lists v []) && row_lists_fit (v + 1) numbers (drop (v + 1) lists))
unfolding row_lists_fit
lists-step lists numbers v lt = rw (drop_more lists v [] lt) refl

pub list_stops : (lists : List (List ℕ)) (numbers : List ℕ) (v : ℕ) → v < length lists → is_row_list v numbers (get_or lists v []) ≡ false → row_lists_fit v numbers (drop v lists) ≡ false
list_stops lists numbers v lt fails = lists-step lists numbers v lt ∙ and_left _ _ fails

pub list_goes_on : (lists : List (List ℕ)) (numbers : List ℕ) (v : ℕ) → v < length lists → is_row_list v numbers (get_or lists v []) ≡ true
    → row_lists_fit v numbers (drop v lists) ≡ row_lists_fit (v + 1) numbers (drop (v + 1) lists)
list_goes_on lists numbers v lt passes = lists-step lists numbers v lt ∙ ap (λ b. b && row_lists_fit (v + 1) numbers (drop (v + 1) lists)) passes

pub lists_end : (lists : List (List ℕ)) (numbers : List ℕ) (v : ℕ) → length lists ≤ v → row_lists_fit v numbers (drop v lists) ≡ true
unfolding row_lists_fit
lists_end lists numbers v le = rw (drop_all v lists le) refl

-- a list of numbers by the cells that they stand in
pub piece_of_words : (ends : List ℕ) (cells : List (List ℕ)) (v : ℕ) → v < length ends → get_or (pieces 0 ends (map word cells)) v [] ≡ map word (get_or (pieces 0 ends cells) v [])
piece_of_words ends cells v lt =
    let k : ℕ = get_or ends v 0 - get_or (0 ∷ ends) v 0 in
    let j : ℕ = get_or (0 ∷ ends) v 0 in
    get_or-pieces 0 ends (map word cells) v lt ∙ ap (take k) (drop-map word j cells) ∙ take-map word k (drop j cells) ∙ sym (ap (map word) (get_or-pieces 0 ends cells v lt))
