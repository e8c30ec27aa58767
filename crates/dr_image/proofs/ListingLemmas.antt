-- Row lists: that lists of rows with their values, as many rows as there are in all, are the row lists.
use Rattle.std.proofs.Common.{◌≡◌, ◌∙◌, sym, refl, ap, subst, ℕ, zero, suc, ◌+◌, ◌<◌, ◌≤◌, Bool, true, false, cond, List, [], ◌∷◌, ◌++◌, length, map, drop, get_or, arith, ◌⊎◌, inl, inr, true≢false}
use Rattle.std.specs.Prelude.{nat_le, nat_lt, ◌==◌, ◌&&◌}
use Rattle.std.specs.List.{list_all, range_with_len}
use Rattle.std.proofs.lemmas.Bool.{and_parts, and_from, leb-true, ltb-true, eqb-true, le-leb, eq-eqb, ne_eqb, cases_eq}
use Rattle.std.proofs.lemmas.List.{length-drop, length-append, get_or-drop, drop-drop, nil_from_length}
use Rattle.dr_image.specs.Image.{rows_with, lists_of, joined}
use Rattle.dr_image.specs.Opening.{rows_have, is_row_list, row_lists_fit}

pub either : {P Q R : Type 0} → P ⊎ Q → (P → R) → (Q → R) → R
either (inl p) f g = f p
either (inr q) f g = g q

-- ---- one list

-- no more rows than have the value, and the same where there are as many
pub record IsSub (i v : ℕ) (ns rs : List ℕ) : Type 0 where
  pub few : length rs ≤ length (rows_with i v ns)
  pub same : length (rows_with i v ns) ≤ length rs → rs ≡ rows_with i v ns

row_here : (i v n : ℕ) (ns : List ℕ) → n ≡ v → rows_with i v (n ∷ ns) ≡ i ∷ rows_with (i + 1) v ns
unfolding rows_with
row_here i v n ns e = ap (λ b. cond b (i ∷ rows_with (i + 1) v ns) (rows_with (i + 1) v ns)) (eq-eqb n v e)

sub_here : (i v n r : ℕ) (ns rs : List ℕ) → r ≡ i → n ≡ v → IsSub (i + 1) v ns rs → IsSub i v (n ∷ ns) (r ∷ rs)
sub_here i v n r ns rs place value sub =
    let e = row_here i v n ns value in
    let l : length (rows_with i v (n ∷ ns)) ≡ suc (length (rows_with (i + 1) v ns)) = ap length e in
    let few : length rs ≤ length (rows_with (i + 1) v ns) = sub.few in
    record {
      few = omega (arith, l, few);
      same = λ le. (λ j. place j ∷ sub.same (omega (arith, l, le)) j) ∙ sym e;
    }

sub_by : (i v : ℕ) (ns rs : List ℕ) (b : Bool) → IsSub (i + 1) v ns rs
    → (length rs ≤ length (cond b (i ∷ rows_with (i + 1) v ns) (rows_with (i + 1) v ns))) × (length (cond b (i ∷ rows_with (i + 1) v ns) (rows_with (i + 1) v ns)) ≤ length rs → rs ≡ cond b (i ∷ rows_with (i + 1) v ns) (rows_with (i + 1) v ns))
sub_by i v ns rs true sub = let few : length rs ≤ length (rows_with (i + 1) v ns) = sub.few in (omega (arith, few), λ le. absurd (omega (arith, few, le)))
sub_by i v ns rs false sub = (sub.few, sub.same)

sub_later : (i v n : ℕ) (ns rs : List ℕ) → IsSub (i + 1) v ns rs → IsSub i v (n ∷ ns) rs
unfolding rows_with
sub_later i v n ns rs sub = let p = sub_by i v ns rs (n == v) sub in record { few = p.0; same = p.1 }

sub_none : (i v : ℕ) → IsSub i v [] []
unfolding rows_with
sub_none i v = record { few = omega arith; same = λ le. refl }

pub sub_of : (i v : ℕ) (ns rs numbers : List ℕ) → ns ≡ drop i numbers → rows_have i v numbers rs ≡ true → IsSub i v ns rs
unfolding rows_have
sub_of i v [] [] numbers at fit = sub_none i v
sub_of i v [] (r ∷ rs) numbers at fit =
    let p = and_parts _ _ fit in
    let q = and_parts _ _ (and_parts _ _ p.1).0 in
    let le : i ≤ r = leb-true i r p.0 in
    let lt : r < length numbers = ltb-true r (length numbers) q.0 in
    let e : 0 ≡ length (drop i numbers) = ap length at in
    absurd (omega (arith, le, lt, e, length-drop i numbers))
sub_of i v (n ∷ ns) [] numbers at fit = record { few = omega arith; same = λ le. sym (nil_from_length (rows_with i v (n ∷ ns)) (omega (arith, le))) }
sub_of i v (n ∷ ns) (r ∷ rs) numbers at fit =
    let p = and_parts (nat_le i r) _ fit in
    let m = and_parts (nat_lt r (length numbers) && (get_or numbers r 0 == v)) _ p.1 in
    let q = and_parts (nat_lt r (length numbers)) _ m.0 in
    let le : i ≤ r = leb-true i r p.0 in
    let value : get_or numbers r 0 ≡ v = eqb-true _ _ q.1 in
    let here : n ≡ get_or numbers i 0 = ap (λ (xs : List ℕ). get_or xs 0 0) at ∙ get_or-drop i numbers 0 0 ∙ ap (λ k. get_or numbers k 0) (omega arith) in
    let rest : ns ≡ drop (i + 1) numbers = ap (drop 1) at ∙ drop-drop 1 i numbers in
    either (cases_eq r i)
    (λ e. sub_here i v n r ns rs e (here ∙ ap (λ k. get_or numbers k 0) (sym e) ∙ value) (sub_of (i + 1) v ns rs numbers rest (ap (λ k. rows_have (k + 1) v numbers rs) (sym e) ∙ m.1)))
    (λ ne. sub_later i v n ns (r ∷ rs) (sub_of (i + 1) v ns (r ∷ rs) numbers rest (and_from _ _ (le-leb (i + 1) r (omega (arith, le, ne))) p.1)))

-- ---- how many rows there are in all

length-shift : (i j v : ℕ) (ns : List ℕ) → length (rows_with i v ns) ≡ length (rows_with j v ns)
unfolding rows_with
length-shift i j v [] = refl
length-shift i j v (n ∷ ns) =
    let e = length-shift (i + 1) (j + 1) v ns in
    elim (n == v) as (λ b. length (cond b (i ∷ rows_with (i + 1) v ns) (rows_with (i + 1) v ns)) ≡ length (cond b (j ∷ rows_with (j + 1) v ns) (rows_with (j + 1) v ns)))
    [ true ↦ ap suc e | false ↦ e ]

count_cons : (v n : ℕ) (ns : List ℕ) → length (rows_with 0 v (n ∷ ns)) ≡ cond (n == v) 1 0 + length (rows_with 0 v ns)
unfolding rows_with
count_cons v n ns =
    let e = length-shift 1 0 v ns in
    elim (n == v) as (λ b. length (cond b (0 ∷ rows_with 1 v ns) (rows_with 1 v ns)) ≡ cond b 1 0 + length (rows_with 0 v ns))
    [ true ↦ omega (arith, e) | false ↦ omega (arith, e) ]

-- the rows with one of k values, from a value on
unfoldable pub total : ℕ → ℕ → List ℕ → ℕ
total start zero ns = 0
total start (suc k) ns = length (rows_with 0 start ns) + total (start + 1) k ns

total-nil : (start k : ℕ) → total start k [] ≡ 0
unfolding rows_with total
total-nil start zero = refl
total-nil start (suc k) = let e = total-nil (start + 1) k in omega arith

counts_not : (v n : ℕ) (ns : List ℕ) → (n ≡ v → ⊥) → length (rows_with 0 v (n ∷ ns)) ≡ length (rows_with 0 v ns)
counts_not v n ns ne = count_cons v n ns ∙ ap (λ b. cond b 1 0 + length (rows_with 0 v ns)) (ne_eqb n v ne) ∙ omega arith

counts_one : (v n : ℕ) (ns : List ℕ) → n ≡ v → length (rows_with 0 v (n ∷ ns)) ≡ suc (length (rows_with 0 v ns))
counts_one v n ns e = count_cons v n ns ∙ ap (λ b. cond b 1 0 + length (rows_with 0 v ns)) (eq-eqb n v e) ∙ omega arith

total_out : (start k n : ℕ) (ns : List ℕ) → n < start → total start k (n ∷ ns) ≡ total start k ns
unfolding total
total_out start zero n ns lt = refl
total_out start (suc k) n ns lt =
    let a = counts_not start n ns (λ e. absurd (omega arith)) in
    let b = total_out (start + 1) k n ns (omega arith) in
    λ i. a i + b i

total_few : (start k n : ℕ) (ns : List ℕ) → total start k (n ∷ ns) ≤ suc (total start k ns)
unfolding total
total_few start zero n ns = omega arith
total_few start (suc k) n ns =
    let rest = total_few (start + 1) k n ns in
    either (cases_eq n start)
    (λ e. let a = counts_one start n ns e in let b = total_out (start + 1) k n ns (omega arith) in omega arith)
    (λ ne. let a = counts_not start n ns ne in omega arith)

total_in : (start k n : ℕ) (ns : List ℕ) → start ≤ n → n < start + k → total start k (n ∷ ns) ≡ suc (total start k ns)
unfolding total
total_in start zero n ns le lt = absurd (omega arith)
total_in start (suc k) n ns le lt =
    either (cases_eq n start)
    (λ e. let a = counts_one start n ns e in let b = total_out (start + 1) k n ns (omega arith) in omega arith)
    (λ ne. let a = counts_not start n ns ne in let b = total_in (start + 1) k n ns (omega arith) (omega arith) in omega arith)

pub total_le : (k : ℕ) (ns : List ℕ) → total 0 k ns ≤ length ns
total_le k [] = let e = total-nil 0 k in omega arith
total_le k (n ∷ ns) = let a = total_few 0 k n ns in let b = total_le k ns in omega arith

pub total_all : (k : ℕ) (ns : List ℕ) → list_all (λ n. nat_lt n k) ns ≡ true → total 0 k ns ≡ length ns
total_all k [] all = total-nil 0 k
total_all k (n ∷ ns) all =
    let p = and_parts _ _ all in
    let lt : n < k = ltb-true n k p.0 in
    total_in 0 k n ns (omega arith) (omega arith) ∙ ap suc (total_all k ns p.1)

-- ---- all lists

pub record AreSubs (start : ℕ) (numbers : List ℕ) (lists : List (List ℕ)) : Type 0 where
  pub few : length (joined lists) ≤ total start (length lists) numbers
  pub same : total start (length lists) numbers ≤ length (joined lists) → lists ≡ map (λ v. rows_with 0 v numbers) (range_with_len start (length lists))

subs_of : (start : ℕ) (numbers : List ℕ) (lists : List (List ℕ)) → row_lists_fit start numbers lists ≡ true → AreSubs start numbers lists
unfolding row_lists_fit total
subs_of start numbers [] fit = record { few = omega arith; same = λ le. refl }
subs_of start numbers (rs ∷ rss) fit =
    let p = and_parts (is_row_list start numbers rs) _ fit in
    let q = and_parts (nat_lt 0 (length rs)) _ p.0 in
    let one : IsSub 0 start numbers rs = sub_of 0 start numbers rs numbers refl q.1 in
    let rest : AreSubs (start + 1) numbers rss = subs_of (start + 1) numbers rss p.1 in
    let a : length rs ≤ length (rows_with 0 start numbers) = one.few in
    let b : length (joined rss) ≤ total (start + 1) (length rss) numbers = rest.few in
    let l : length (rs ++ joined rss) ≡ length rs + length (joined rss) = length-append rs (joined rss) in
    record {
      few = omega (arith, a, b, l);
      same = λ le. let c = one.same (omega (arith, a, b, l, le)) in let d = rest.same (omega (arith, a, b, l, le)) in λ i. c i ∷ d i;
    }

pub lists_are : (numbers : List ℕ) (lists : List (List ℕ)) → row_lists_fit 0 numbers lists ≡ true → length (joined lists) ≡ length numbers → lists ≡ lists_of (length lists) numbers
lists_are numbers lists fit all =
    let t : total 0 (length lists) numbers ≤ length numbers = total_le (length lists) numbers in
    (subs_of 0 numbers lists fit).same (omega (arith, t, all))

-- ---- a row of each value

pub record HasRow (numbers : List ℕ) (v : ℕ) : Type 0 where
  pub row : ℕ
  pub inside : row < length numbers
  pub is : get_or numbers row 0 ≡ v

row_in : (v : ℕ) (numbers rs : List ℕ) → is_row_list v numbers rs ≡ true → HasRow numbers v
unfolding rows_have
row_in v numbers [] fit = absurd (true≢false (sym fit))
row_in v numbers (r ∷ rs) fit =
    let p = and_parts (nat_lt 0 (length (r ∷ rs))) _ fit in
    let q = and_parts (nat_le 0 r) _ p.1 in
    let m = and_parts (nat_lt r (length numbers) && (get_or numbers r 0 == v)) _ q.1 in
    let k = and_parts (nat_lt r (length numbers)) _ m.0 in
    record { row = r; inside = ltb-true _ _ k.0; is = eqb-true _ _ k.1 }

rows_from : (start v : ℕ) (numbers : List ℕ) (lists : List (List ℕ)) → row_lists_fit start numbers lists ≡ true → v < length lists → HasRow numbers (start + v)
unfolding row_lists_fit
rows_from start v numbers [] fit lt = absurd (omega arith)
rows_from start zero numbers (rs ∷ rss) fit lt =
    let e : start ≡ start + 0 = omega arith in
    subst (HasRow numbers) e (row_in start numbers rs (and_parts _ _ fit).0)
rows_from start (suc v) numbers (rs ∷ rss) fit lt =
    let e : start + 1 + v ≡ start + suc v = omega arith in
    subst (HasRow numbers) e (rows_from (start + 1) v numbers rss (and_parts _ _ fit).1 (omega arith))

pub row_of_value : (v : ℕ) (numbers : List ℕ) (lists : List (List ℕ)) → row_lists_fit 0 numbers lists ≡ true → v < length lists → HasRow numbers v
row_of_value v numbers lists fit lt = let e : 0 + v ≡ v = omega arith in subst (HasRow numbers) e (rows_from 0 v numbers lists fit lt)
