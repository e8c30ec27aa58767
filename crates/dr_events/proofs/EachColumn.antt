-- Columns that are read one after the other, as a loop does.
use Rattle.std.proofs.Common.{◌≡◌, ◌∙◌, sym, refl, ap, ℕ, zero, suc, ◌+◌, ◌<◌, ◌≤◌, List, [], ◌∷◌, ◌++◌, length, drop, get_or, Option, Some, None, Result, Ok, Err, arith, subst}
use Rattle.std.specs.List.{All}
use Rattle.std.proofs.lemmas.List.Elements.{All-push}
use Rattle.std.proofs.lemmas.List.{drop_more, drop_all, length_push}
use Rattle.dr_base.specs.Reading.{◌>>=◌}
use Rattle.dr_events.specs.Columns.{or_refused, each_from}

module _ {C A E : Type 0} (reading : C → Option A) (refusal : ℕ → E) where
  -- the values of the columns before a place are read, and what follows them is to be
  pub record AreSoFar (values : List A) (columns : List C) (i : ℕ) (all : Result (List A) E) : Type 0 where
    pub as_many : length values ≡ i
    pub rest : each_from reading refusal values (drop i columns) ≡ all

  pub AreSoFar-more : (values : List A) (columns : List C) (i : ℕ) (all : Result (List A) E) (c : C) (x : A) → i < length columns → c ≡ get_or columns i c → reading c ≡ Some x → AreSoFar values columns i all
      → AreSoFar (values ++ x ∷ []) columns (i + 1) all
  unfolding each_from
  AreSoFar-more values columns i all c x lt is h so_far =
      let e : each_from reading refusal values (drop i columns) ≡ each_from reading refusal (values ++ x ∷ []) (drop (i + 1) columns) = rw (drop_more columns i c lt, ← is, h) refl in
      record { as_many = length_push values x ∙ ap (λ n. n + 1) so_far.as_many; rest = sym e ∙ so_far.rest }

  pub AreSoFar-stop : (values : List A) (columns : List C) (i : ℕ) (all : Result (List A) E) (c : C) → i < length columns → c ≡ get_or columns i c → reading c ≡ None → AreSoFar values columns i all → all ≡ Err (refusal i)
  unfolding each_from
  AreSoFar-stop values columns i all c lt is h so_far =
      let e : each_from reading refusal values (drop i columns) ≡ Err (refusal (length values)) = rw (drop_more columns i c lt, ← is, h) refl in
      sym so_far.rest ∙ e ∙ ap (λ n. Err (refusal n)) so_far.as_many

  pub AreSoFar-all : (values : List A) (columns : List C) (i : ℕ) (all : Result (List A) E) → length columns ≤ i → AreSoFar values columns i all → all ≡ Ok values
  unfolding each_from
  AreSoFar-all values columns i all le so_far =
      let e : each_from reading refusal values (drop i columns) ≡ Ok values = rw (drop_all i columns le) refl in
      sym so_far.rest ∙ e

  -- there are as many values as columns
  pub length-each_from : (values : List A) (columns : List C) (all : List A) → each_from reading refusal values columns ≡ Ok all → length all ≡ length values + length columns
  unfolding each_from
  length-each_from values [] all e = let same : values ≡ all = cc in ap length (sym same) ∙ omega arith
  length-each_from values (c ∷ columns) all e =
      elim (reading c) as (λ o. (or_refused (refusal (length values)) o >>= (λ v. each_from reading refusal (values ++ v ∷ []) columns)) ≡ Ok all → length all ≡ length values + length (c ∷ columns)) [
        | None ↦ λ h. cc
        | Some x ↦ λ h. let more = length-each_from (values ++ x ∷ []) columns all h in let one = length_push values x in omega arith
      ]
      e

  -- and each has what all that is read has
  pub All-each_from : (P : A → Type 0) → ((c : C) (x : A) → reading c ≡ Some x → P x) → (values : List A) (columns : List C) (all : List A) → All P values → each_from reading refusal values columns ≡ Ok all → All P all
  unfolding each_from
  All-each_from P f values [] all before e = let same : values ≡ all = cc in subst (All P) same before
  All-each_from P f values (c ∷ columns) all before e =
      elim (reading c) as (λ o. reading c ≡ o → (or_refused (refusal (length values)) o >>= (λ v. each_from reading refusal (values ++ v ∷ []) columns)) ≡ Ok all → All P all) [
        | None ↦ λ is h. cc
        | Some x ↦ λ is h. All-each_from P f (values ++ x ∷ []) columns all (All-push P values x before (f c x is)) h
      ]
      refl e

-- the default plays no part within a list
pub get_or-any : {X : Type 0} (xs : List X) (i : ℕ) (d e : X) → i < length xs → get_or xs i d ≡ get_or xs i e
get_or-any [] i d e lt = absurd (omega arith)
get_or-any (x ∷ xs) zero d e lt = refl
get_or-any (x ∷ xs) (suc i) d e lt = get_or-any xs i d e (omega arith)
