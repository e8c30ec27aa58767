-- What is told of each row.
use Rattle.std.proofs.Common.{inl, inr, ◌≡◌, ◌∙◌, sym, refl, ap, subst, ℕ, ◌+◌, ◌<◌, ◌≤◌, ◌&&◌, ◌||◌, not, Bool, true, false, List, [], ◌∷◌, length, get_or, set, map, replicate, arith}
use Rattle.std.proofs.Math.ListN.{get_or-map}
use Rattle.std.proofs.lemmas.Bool.{cases_lt}
use Rattle.std.proofs.lemmas.List.{length-map, length-set, length-replicate, get_or-set_same, get_or-set_other, get_or-replicate, get_or_past, get_or_default, ext_get_or}
use Rattle.dr_rowindex.specs.Truths.{Joined}
use Rattle.dr_rowindex.specs.Orders.{Adds, Tell}

-- ---- one by one

pub record TellTo {V : Type 0} (k : ℕ) (test : V → Bool) (rows : List V) (told : List Bool) : Type 0 where
  pub count : length told ≡ length rows
  pub done : (i : ℕ) (row : V) → i < k → get_or told i false ≡ test (get_or rows i row)
  pub left : (i : ℕ) → k ≤ i → get_or told i false ≡ false

none_true : (n i : ℕ) → get_or (replicate n false) i false ≡ false
none_true n i = elim (cases_lt i n) [
  | inl less ↦ get_or-replicate n i false false less
  | inr more ↦ get_or_past (replicate n false) i false (omega (arith, more, length-replicate n false))
]

pub to-none : {V : Type 0} → (test : V → Bool) (rows : List V) (told : List Bool) (n : ℕ) → told ≡ replicate n false → n ≡ length rows → TellTo 0 test rows told
to-none test rows told n is long = record {
  count = ap length is ∙ length-replicate n false ∙ long;
  done = λ i row lt. absurd (omega (arith, lt));
  left = λ i le. ap (λ l. get_or l i false) is ∙ none_true n i;
}

module _ {V : Type 0} (k : ℕ) (test : V → Bool) (rows : List V) (told : List Bool) (was : TellTo k test rows told) where
  pub to-failed : ((row : V) → test (get_or rows k row) ≡ false) → TellTo (k + 1) test rows told
  to-failed fails = record {
    count = was.count;
    done = λ i row lt. elim (cases_lt i k) [
      | inl less ↦ was.done i row less
      | inr more ↦ (let same : i ≡ k = omega (arith, lt, more) in
          subst (λ j. get_or told j false ≡ test (get_or rows j row)) (sym same) (was.left k (omega arith) ∙ sym (fails row)))
    ];
    left = λ i le. was.left i (omega (arith, le));
  }

  pub to-passed : k < length told → ((row : V) → test (get_or rows k row) ≡ true) → TellTo (k + 1) test rows (set told k true)
  to-passed within passes = record {
    count = length-set told k true ∙ was.count;
    done = λ i row lt. elim (cases_lt i k) [
      | inl less ↦ get_or-set_other told k i true false (λ e. absurd (omega (arith, e, less))) ∙ was.done i row less
      | inr more ↦ (let same : i ≡ k = omega (arith, lt, more) in
          subst (λ j. get_or (set told k true) j false ≡ test (get_or rows j row)) (sym same) (get_or-set_same told k true false within ∙ sym (passes row)))
    ];
    left = λ i le. get_or-set_other told k i true false (λ e. absurd (omega (arith, e, le))) ∙ was.left i (omega (arith, le));
  }

pub to-all : {V : Type 0} → (k : ℕ) (test : V → Bool) (rows : List V) (told : List Bool) → length rows ≤ k → TellTo k test rows told → Tell test rows told
to-all k test rows told le was = record { count = was.count; each = λ i row lt. was.done i row (omega (arith, le, lt)) }

-- ---- joined

-- what is told, and what is left of a test, is what the whole test is
pub record TellWith {V : Type 0} (op : Bool → Bool → Bool) (left whole : V → Bool) (rows : List V) (told : List Bool) : Type 0 where
  pub count : length told ≡ length rows
  pub each : (i : ℕ) (row : V) → i < length rows → op (get_or told i false) (left (get_or rows i row)) ≡ whole (get_or rows i row)

pub with-same : {V : Type 0} → (op : Bool → Bool → Bool) (b : Bool) (test : V → Bool) (rows : List V) (told : List Bool) (n : ℕ) → ((x : Bool) → op b x ≡ x) → told ≡ replicate n b → n ≡ length rows → TellWith op test test rows told
with-same op b test rows told n unit is long = record {
  count = ap length is ∙ length-replicate n b ∙ long;
  each = λ i row lt. ap (λ x. op x (test (get_or rows i row))) (ap (λ l. get_or l i false) is ∙ get_or-replicate n i b false (omega (arith, lt, long))) ∙ unit (test (get_or rows i row));
}

pub with-more : {V : Type 0} → (op : Bool → Bool → Bool) (one left rest whole : V → Bool) (rows : List V) (before other after : List Bool)
    → ((x y z : Bool) → op (op x y) z ≡ op x (op y z)) → Tell one rows other → Joined op other before after → TellWith op left whole rows before
    → ((row : V) → left row ≡ op (one row) (rest row)) → TellWith op rest whole rows after
with-more op one left rest whole rows before other after regroups told joined was is = record {
  count = joined.count ∙ was.count;
  each = λ i row lt.
      let here : i < length before = omega (arith, lt, was.count) in
      ap (λ x. op x (rest (get_or rows i row))) (joined.each i here ∙ ap (op (get_or before i false)) (told.each i row lt))
      ∙ regroups (get_or before i false) (one (get_or rows i row)) (rest (get_or rows i row))
      ∙ ap (op (get_or before i false)) (sym (is (get_or rows i row))) ∙ was.each i row lt;
}

pub with-all : {V : Type 0} → (op : Bool → Bool → Bool) (b : Bool) (left whole : V → Bool) (rows : List V) (told : List Bool) → ((x : Bool) → op x b ≡ x) → ((row : V) → left row ≡ b) → TellWith op left whole rows told → Tell whole rows told
with-all op b left whole rows told unit none was = record {
  count = was.count;
  each = λ i row lt. sym (unit (get_or told i false)) ∙ ap (op (get_or told i false)) (sym (none (get_or rows i row))) ∙ was.each i row lt;
}

-- one test that is to fail, and what is left
pub with-fewer : {V : Type 0} → (one left rest whole : V → Bool) (rows : List V) (before other after : List Bool)
    → Tell one rows other → Joined (λ a b. a && not b) other before after → TellWith (λ a b. a && b) left whole rows before
    → ((row : V) → left row ≡ (not (one row) && rest row)) → TellWith (λ a b. a && b) rest whole rows after
with-fewer one left rest whole rows before other after told joined was is = record {
  count = joined.count ∙ was.count;
  each = λ i row lt.
      let here : i < length before = omega (arith, lt, was.count) in
      ap (λ x. x && rest (get_or rows i row)) (joined.each i here ∙ ap (λ x. get_or before i false && not x) (told.each i row lt))
      ∙ regroups (get_or before i false) (not (one (get_or rows i row))) (rest (get_or rows i row))
      ∙ ap (λ x. get_or before i false && x) (sym (is (get_or rows i row))) ∙ was.each i row lt;
}
  where
    regroups : (x y z : Bool) → ((x && y) && z) ≡ (x && (y && z))
    regroups true y z = refl
    regroups false y z = refl

pub tell-both : {V : Type 0} → (f g : V → Bool) (rows : List V) (a b both : List Bool) → Tell f rows a → Tell g rows b → Joined (λ x y. x && y) b a both → Tell (λ row. f row && g row) rows both
tell-both f g rows a b both first second joined = record {
  count = joined.count ∙ first.count;
  each = λ i row lt.
      let here : i < length a = omega (arith, lt, first.count) in
      joined.each i here ∙ ap (λ x. x && get_or b i false) (first.each i row lt) ∙ ap (λ x. f (get_or rows i row) && x) (second.each i row lt);
}

-- ---- others

pub tell-not : {V : Type 0} → (test : V → Bool) (rows : List V) (all other after : List Bool) (n : ℕ) → all ≡ replicate n true → n ≡ length rows → Tell test rows other → Joined (λ a b. a && not b) other all after → Tell (λ row. not (test row)) rows after
tell-not test rows all other after n is long told joined = record {
  count = joined.count ∙ ap length is ∙ length-replicate n true ∙ long;
  each = λ i row lt.
      let within : i < length all = omega (arith, lt, long, ap length is ∙ length-replicate n true) in
      joined.each i within ∙ ap (λ x. x && not (get_or other i false)) (ap (λ l. get_or l i false) is ∙ get_or-replicate n i true false (omega (arith, lt, long))) ∙ ap not (told.each i row lt);
}

pub tell-added : {X V : Type 0} (value : X → V) (test : V → Bool) (rows : List X) (none after : List Bool) (n : ℕ) → none ≡ replicate n false → n ≡ length rows → Adds test (map value rows) none after → Tell (λ row. test (value row)) rows after
tell-added value test rows none after n is long adds = record {
  count = adds.count ∙ ap length is ∙ length-replicate n false ∙ long;
  each = λ i row lt.
      adds.each i (value row) (omega (arith, lt, length-map rows value)) ∙ ap (λ x. x || test (get_or (map value rows) i (value row))) (ap (λ l. get_or l i false) is ∙ none_true n i)
      ∙ ap test (get_or-map value rows i row);
}

pub tell-list : {V : Type 0} → (test : V → Bool) (rows : List V) (told : List Bool) → Tell test rows told → told ≡ map test rows
tell-list test [] [] was = refl
tell-list test [] (b ∷ bs) was = absurd (omega (arith, was.count))
tell-list test (r ∷ rs) told was =
    ext_get_or false told (map test (r ∷ rs)) (was.count ∙ sym (length-map (r ∷ rs) test)) (λ i lt.
    let within : i < length (r ∷ rs) = omega (arith, lt, was.count) in
    was.each i r within ∙ sym (get_or_default (map test (r ∷ rs)) i false (test r) (omega (arith, within, length-map (r ∷ rs) test)) ∙ get_or-map test (r ∷ rs) i r))

pub tell-same : {V : Type 0} → (f g : V → Bool) (rows : List V) (told : List Bool) → ((row : V) → f row ≡ g row) → Tell f rows told → Tell g rows told
tell-same f g rows told same was = record { count = was.count; each = λ i row lt. was.each i row lt ∙ same (get_or rows i row) }

-- ---- where none is left

pub with-nothing : {V : Type 0} → (left whole : V → Bool) (rows : List V) (told : List Bool) → ((i : ℕ) → get_or told i false ≡ false) → TellWith (λ a b. a && b) left whole rows told → Tell whole rows told
with-nothing left whole rows told none was = record {
  count = was.count;
  each = λ i row lt. none i ∙ sym (ap (λ x. x && left (get_or rows i row)) (none i)) ∙ was.each i row lt;
}

pub tell-all : {V : Type 0} → (left test : V → Bool) (rows : List V) (told all : List Bool) (n : ℕ) → ((i : ℕ) → get_or told i false ≡ false) → TellWith (λ a b. a && b) left (λ row. not (test row)) rows told
    → all ≡ replicate n true → n ≡ length rows → Tell test rows all
tell-all left test rows told all n none was is long = record {
  count = ap length is ∙ length-replicate n true ∙ long;
  each = λ i row lt.
      let fails = with-nothing left (λ row. not (test row)) rows told none was in
      ap (λ l. get_or l i false) is ∙ get_or-replicate n i true false (omega (arith, lt, long)) ∙ passes (test (get_or rows i row)) (sym (none i) ∙ fails.each i row lt);
}
  where
    passes : (b : Bool) → false ≡ not b → true ≡ b
    passes true fails = refl
    passes false fails = sym fails

pub tell-twice : {V : Type 0} → (test : V → Bool) (rows : List V) (all left after : List Bool) (n : ℕ) → all ≡ replicate n true → n ≡ length rows → Tell (λ row. not (test row)) rows left → Joined (λ a b. a && not b) left all after → Tell test rows after
tell-twice test rows all left after n is long told joined = tell-same (λ row. not (not (test row))) test rows after (λ row. twice (test row)) (tell-not (λ row. not (test row)) rows all left after n is long told joined)
  where
    twice : (b : Bool) → not (not b) ≡ b
    twice true = refl
    twice false = refl
