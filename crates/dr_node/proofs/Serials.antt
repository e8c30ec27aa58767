-- Serials of sealed ranges differ, step by step.
use Rattle.std.proofs.Common.{◌≡◌, ◌∙◌, sym, ap, refl, subst, ℕ, ℤ, ◌+◌, ◌≤◌, Bool, true, false, cond, List, [], ◌∷◌, ◌++◌, length, take, drop, nat_le, arith}
use Rattle.std.specs.Prelude.{nat_eq}
use Rattle.std.specs.List.{count_by}
use Rattle.std.specs.declared.cmp.Ordering.TheVariants.{Less, Equal, Greater}
use Rattle.std.specs.Ordering.{int_cmp, match_ordering}
use Rattle.std.proofs.lemmas.Bool.Decides.{nat_tests}
use Rattle.std.proofs.lemmas.List.{take-append-drop, drop-drop}
use Rattle.std.proofs.lemmas.List.Sums.{sum_by-append, sum_by-cons}
use Rattle.dr_base.specs.declared.event.Event.{Event}
use Rattle.dr_merge.specs.declared.job.Job.{Job}
use Rattle.dr_rollup.specs.Unrolled.{rolled_up}
use Rattle.dr_cuts.specs.AtKey.{at_key}
use Rattle.dr_cuts.specs.Chunks.{chunk, chunk_list}
use Rattle.dr_cuts.specs.State.{State, Range, Cut, at_chunk, open_cut, open_from}
use Rattle.dr_timeline.specs.Steps.{accepted, with_event, sealed_at, with_seal, joined_range, committed, open_in}
use Rattle.dr_node.specs.Kept.{SerialsDiffer, with_serial}

-- how many of some ranges have a serial
abbrev counted : ℕ → List Range → ℕ
counted n rs = count_by (λ r. nat_eq r.serial n) rs

one : (n : ℕ) (r : Range) (rs : List Range) → counted n (r ∷ rs) ≡ cond (nat_eq r.serial n) 1 0 + counted n rs
one n r rs = sum_by-cons (λ (x : Range). cond (nat_eq x.serial n) 1 0) r rs

counted-append : (n : ℕ) (xs ys : List Range) → counted n (xs ++ ys) ≡ counted n xs + counted n ys
counted-append n xs ys = sum_by-append (λ (x : Range). cond (nat_eq x.serial n) 1 0) xs ys

counted-replaced : (n place count : ℕ) (r : Range) (rs : List Range) → counted n (take place rs ++ (r ∷ drop (place + count) rs)) ≤ counted n rs + cond (nat_eq r.serial n) 1 0
counted-replaced n place count r rs =
    let whole : counted n (take place rs) + counted n (drop place rs) ≡ counted n rs = sym (counted-append n (take place rs) (drop place rs)) ∙ ap (counted n) (take-append-drop place rs) in
    let rest : counted n (take count (drop place rs)) + counted n (drop (place + count) rs) ≡ counted n (drop place rs) =
    ap (λ l. counted n (take count (drop place rs)) + counted n l) (sym (drop-drop count place rs)) ∙ sym (counted-append n (take count (drop place rs)) (drop count (drop place rs))) ∙ ap (counted n) (take-append-drop count (drop place rs)) in
    let both = counted-append n (take place rs) (r ∷ drop (place + count) rs) in
    let new = one n r (drop (place + count) rs) in
    omega arith

-- a change of one chunk's ranges adds no more than it adds there
with-at_chunk : (n more : ℕ) (k : ℤ) (change : Cut → Cut) (cuts : List Cut) → ((c : Cut) → counted n (change c).sealed ≤ counted n c.sealed + more) → with_serial n (at_chunk k change cuts) ≤ with_serial n cuts + more
unfolding at_key
with-at_chunk n more k change [] h = let e = h (open_cut k) in omega arith
with-at_chunk n more k change (c ∷ cs) h =
    elim (int_cmp k c.chunk) as (λ o. with_serial n (match_ordering o (change (open_cut k) ∷ c ∷ cs) (change c ∷ cs) (c ∷ at_chunk k change cs)) ≤ counted n c.sealed + with_serial n cs + more) [
      | Less ↦ let e = h (open_cut k) in omega arith
      | Equal ↦ let e = h c in omega arith
      | Greater ↦ let e = with-at_chunk n more k change cs h in omega arith
    ]

-- nothing was added
differ-same : (old new : List Cut) (next : ℕ) → ((n : ℕ) → with_serial n new ≤ with_serial n old + 0) → SerialsDiffer old next → SerialsDiffer new next
differ-same old new next less h = record {
  once = λ n. let l = less n in let o = h.once n in omega arith;
  given = λ n le. let l = less n in let o = h.given n le in omega arith;
}

-- the next serial was given
differ-more : (old new : List Cut) (next : ℕ) → ((n : ℕ) → with_serial n new ≤ with_serial n old + cond (nat_eq next n) 1 0) → SerialsDiffer old next → SerialsDiffer new (next + 1)
differ-more old new next less h = record {
  once = λ n.
      elim (nat_eq next n) as (λ b. nat_eq next n ≡ b → with_serial n new ≤ with_serial n old + cond b 1 0 → with_serial n new ≤ 1) [
        | true ↦ λ is l. let same : next ≡ n = grind (arith, nat_tests) in let o = h.given n (omega arith) in omega arith
        | false ↦ λ is l. let o = h.once n in omega arith
      ] refl (less n);
  given = λ n le.
      let other : nat_eq next n ≡ false = grind (arith, nat_tests) in
      let l : with_serial n new ≤ with_serial n old + 0 = subst (λ b. with_serial n new ≤ with_serial n old + cond b 1 0) other (less n) in
      let o = h.given n (omega arith) in
      omega arith;
}

-- ---- the steps

pub differ-sealed : (s : State) (k : ℤ) → SerialsDiffer s.cuts s.serials → SerialsDiffer (sealed_at k s).cuts (sealed_at k s).serials
differ-sealed s k h =
    let end : ℕ = length (chunk_list s.schema s.stream k) in
    differ-more s.cuts (sealed_at k s).cuts s.serials (λ n. with-at_chunk n (cond (nat_eq s.serials n) 1 0) k (with_seal end s.serials) s.cuts (behind n end)) h
  where
    behind : (n end : ℕ) (c : Cut) → counted n (with_seal end s.serials c).sealed ≤ counted n c.sealed + cond (nat_eq s.serials n) 1 0
    behind n end c =
        let r : Range = record { from = open_from c.sealed; to = end; serial = s.serials; version = 0 } in
        let both = counted-append n c.sealed (r ∷ []) in
        let new = one n r [] in
        omega arith

pub differ-committed : (s : State) (job : Job) (place : ℕ) → SerialsDiffer s.cuts s.serials → SerialsDiffer (committed s job place).cuts (committed s job place).serials
differ-committed s job place h =
    let count : ℕ = length job.inputs in
    let r : Range = joined_range s job place in
    differ-more s.cuts (committed s job place).cuts s.serials
    (λ n. with-at_chunk n (cond (nat_eq s.serials n) 1 0) job.chunk _ s.cuts (λ c. counted-replaced n place count r c.sealed)) h

differ-event : (s : State) (e : Event) → SerialsDiffer s.cuts s.serials → SerialsDiffer (with_event s e).cuts (with_event s e).serials
differ-event s e h = differ-same s.cuts (with_event s e).cuts s.serials (λ n. with-at_chunk n 0 (chunk s.schema e) (λ c. c) s.cuts (λ c. let own : counted n c.sealed ≤ counted n c.sealed + 0 = omega arith in own)) h

differ-if : (b : Bool) (s t : State) → SerialsDiffer s.cuts s.serials → SerialsDiffer t.cuts t.serials → SerialsDiffer (cond b s t).cuts (cond b s t).serials
differ-if true s t h k = h
differ-if false s t h k = k

pub differ-accepted : (s : State) (e : Event) → SerialsDiffer s.cuts s.serials → SerialsDiffer (accepted s e).cuts (accepted s e).serials
differ-accepted s e h =
    let opened = with_event s e in
    let k = chunk s.schema e in
    let g = differ-event s e h in
    differ-if (nat_le s.schema.limits.max_rows_in_memory (length (rolled_up opened.schema (open_in opened k)))) (sealed_at k opened) opened (differ-sealed opened k g) g
