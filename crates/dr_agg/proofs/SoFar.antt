-- Columns that are combined so far, as a loop does.
use Rattle.std.proofs.Common.{◌≡◌, ◌∙◌, sym, refl, ap, ℕ, zero, suc, ℤ, pos, ◌+◌, ◌-◌, ◌<◌, ◌≤◌, List, [], ◌∷◌, ◌++◌, length, take, drop, replicate, get_or, append_assoc, arith}
use Rattle.std.proofs.Math.ListN.{set, length-set}
use Rattle.std.proofs.Math.Seq.{take-nil}
use Rattle.std.proofs.lemmas.List.{drop_more, drop_all, drop-set-lt, take_all, take_more_set, append-nil}
use Rattle.dr_agg.specs.declared.kind.Kind.{Kind}
use Rattle.dr_agg.specs.Combination.{combine_of, column, combine_columns}

-- the columns before a place are combined, and what follows them is to be
abbrev pub IsSoFar : List Kind → List ℤ → List ℤ → List ℤ → ℕ → Type 0
IsSoFar kinds xs ys total i = (length xs ≡ length kinds) × (take i xs ++ combine_columns (drop i kinds) (drop i xs) (drop i ys) ≡ total)

column-of_drop : (i : ℕ) (ys : List ℤ) → column 0 (drop i ys) ≡ get_or ys i (pos 0)
column-of_drop zero [] = refl
column-of_drop zero (y ∷ ys) = refl
column-of_drop (suc i) [] = refl
column-of_drop (suc i) (y ∷ ys) = column-of_drop i ys

drop-of_drop : (i : ℕ) (ys : List ℤ) → drop 1 (drop i ys) ≡ drop (suc i) ys
drop-of_drop zero ys = refl
drop-of_drop (suc i) [] = refl
drop-of_drop (suc i) (y ∷ ys) = drop-of_drop i ys

pub IsSoFar-more : (kinds : List Kind) (xs ys total : List ℤ) (i : ℕ) (d : Kind) (v : ℤ) → i < length kinds
    → v ≡ combine_of (get_or kinds i d) (get_or xs i (pos 0)) (get_or ys i (pos 0)) → IsSoFar kinds xs ys total i → IsSoFar kinds (set xs i v) ys total (i + 1)
IsSoFar-more kinds xs ys total i d v lt e so_far =
    let lx : i < length xs = omega arith in
    let past : i < i + 1 = omega arith in
    let next : suc i ≡ i + 1 = omega arith in
    let one : take i xs ++ combine_columns (drop i kinds) (drop i xs) (drop i ys) ≡ take i xs ++ (v ∷ combine_columns (drop (i + 1) kinds) (drop (i + 1) xs) (drop (i + 1) ys)) =
    rw (drop_more kinds i d lt, drop_more xs i (pos 0) lx, column-of_drop i ys, drop-of_drop i ys, next, e) refl in
    let two : take (i + 1) (set xs i v) ++ combine_columns (drop (i + 1) kinds) (drop (i + 1) (set xs i v)) (drop (i + 1) ys) ≡ take i xs ++ (v ∷ combine_columns (drop (i + 1) kinds) (drop (i + 1) xs) (drop (i + 1) ys)) =
    rw (take_more_set xs i v lx, drop-set-lt (i + 1) xs i v past, append_assoc) refl in
    (length-set xs i v ∙ so_far.0, two ∙ sym one ∙ so_far.1)

pub IsSoFar-all : (kinds : List Kind) (xs ys total : List ℤ) (i : ℕ) → length kinds ≤ i → IsSoFar kinds xs ys total i → xs ≡ total
IsSoFar-all kinds xs ys total i le so_far =
    let lx : length xs ≤ i = rw so_far.0 le in
    let one : take i xs ++ combine_columns (drop i kinds) (drop i xs) (drop i ys) ≡ xs = rw (take_all i xs lx, drop_all i kinds le) (append-nil xs) in
    sym one ∙ so_far.1

-- values that are cut to as many as there are columns, or filled up with zeros, combine as they were
pub combine_columns-fitted : (kinds : List Kind) (xs ys : List ℤ) → combine_columns kinds (take (length kinds) xs ++ replicate (length kinds - length xs) (pos 0)) ys ≡ combine_columns kinds xs ys
combine_columns-fitted [] xs ys = refl
combine_columns-fitted (k ∷ ks) [] ys =
    let none : List ℤ = [] in
    let less : length (k ∷ ks) - length none ≡ suc (length ks - length none) = omega arith in
    let shorter : replicate (length ks - length none) (pos 0) ≡ take (length ks) none ++ replicate (length ks - length none) (pos 0) = rw take-nil refl in
    ap (λ n. combine_columns (k ∷ ks) (take (length (k ∷ ks)) none ++ replicate n (pos 0)) ys) less
    ∙ ap (λ zs. combine_of k (pos 0) (column 0 ys) ∷ combine_columns ks zs (drop 1 ys)) shorter
    ∙ ap (λ cs. combine_of k (pos 0) (column 0 ys) ∷ cs) (combine_columns-fitted ks none (drop 1 ys))
combine_columns-fitted (k ∷ ks) (x ∷ xs) ys =
    let less : length (k ∷ ks) - length (x ∷ xs) ≡ length ks - length xs = omega arith in
    ap (λ n. combine_columns (k ∷ ks) (take (length (k ∷ ks)) (x ∷ xs) ++ replicate n (pos 0)) ys) less ∙ ap (λ cs. combine_of k x (column 0 ys) ∷ cs) (combine_columns-fitted ks xs (drop 1 ys))
