-- What lies behind the lock stays as it should be, step by step.
use Rattle.std.proofs.Common.{◌≡◌, ◌≢◌, ◌∙◌, sym, ap, refl, subst, ℕ, zero, suc, ◌+◌, ◌<◌, ◌≤◌, List, [], ◌∷◌, ◌++◌, length, true, false, Bool, cond, Some, arith, inl, inr, All, length-append}
use Rattle.std.specs.Prelude.{nat_eq, ◌⊎◌, slice_get, set, replicate}
use Rattle.std.specs.List.{AllByRecursion}
use Rattle.std.proofs.lemmas.Bool.Decides.{nat_tests}
use Rattle.std.proofs.lemmas.List.{length-set, length-replicate}
use Rattle.std.proofs.lemmas.List.Elements.{All-append, All-cons, All-nil, filter-append}
use Rattle.dr_base.specs.declared.event.Event.{Event}
use Rattle.dr_schema.specs.declared.schema_fields.SchemaFields.{SchemaFields}
use Rattle.dr_cuts.specs.Chunks.{values_onto}
use Rattle.dr_cuts.specs.State.{State, AreCuts, empty_state}
use Rattle.dr_timeline.specs.Order.{HaveFewRows}
use Rattle.dr_timeline.specs.Steps.{accepted, with_event, HasVersions}
use Rattle.dr_node.specs.Kept.{Held, IsKept, SerialsDiffer}
use Rattle.dr_node.proofs.Serials.{differ-accepted}
use Rattle.dr_node.specs.Seats.{marked}

-- what stands in a list after a store: the new value at its place, and elsewhere what stood there
set-get : (xs : List ℕ) (i v k n : ℕ) → slice_get (set xs i v) k ≡ Some n → ((k ≡ i) × (n ≡ v)) ⊎ ((k ≢ i) × (slice_get xs k ≡ Some n))
set-get [] i v k n h = inr ((λ same. cc), h)
set-get (x ∷ xs) zero v zero n h = inl (refl, cc)
set-get (x ∷ xs) zero v (suc k) n h = inr ((λ same. absurd (omega arith)), h)
set-get (x ∷ xs) (suc i) v zero n h = inr ((λ same. absurd (omega arith)), h)
set-get (x ∷ xs) (suc i) v (suc k) n h =
    elim (set-get xs i v k n h) [ inl here ↦ inl (ap suc here.0, here.1) | inr there ↦ inr ((λ same. there.0 (omega arith)), there.1) ]

length-cond : (b : Bool) (e : Event) → length (cond b (e ∷ []) []) ≡ cond b 1 0
length-cond true e = refl
length-cond false e = refl

-- one event more has its mark once more
marked-push : (k : ℕ) (es : List Event) (e : Event) → length (marked k (es ++ e ∷ [])) ≡ length (marked k es) + cond (nat_eq e.seat k) 1 0
marked-push k es e =
    let both = filter-append (λ (x : Event). nat_eq x.seat k) es (e ∷ []) in
    ap length both ∙ length-append (marked k es) (marked k (e ∷ [])) ∙ ap (λ n. length (marked k es) + n) (length-cond (nat_eq e.seat k) e)

-- accepting adds the event to the stream, whether or not its range is sealed
same-of : {A : Type 0} (f : State → A) (b : Bool) (s t : State) → f s ≡ f t → f (cond b s t) ≡ f t
same-of f true s t h = h
same-of f false s t h = refl

pub accepted-stream : (s : State) (e : Event) → (accepted s e).stream ≡ s.stream ++ e ∷ []
accepted-stream s e = same-of (λ u. u.stream) _ _ (with_event s e) refl

pub accepted-schema : (s : State) (e : Event) → (accepted s e).schema ≡ s.schema
accepted-schema s e = same-of (λ u. u.schema) _ _ (with_event s e) refl

-- nothing is accepted yet
get-zeros : (m k n : ℕ) → slice_get (replicate m 0) k ≡ Some n → n ≡ 0
get-zeros zero k n h = absurd cc
get-zeros (suc m) zero n h = let same : Some 0 ≡ Some n = h in cc
get-zeros (suc m) (suc k) n h = get-zeros m k n h

empty-kept : (schema : SchemaFields) (seats : ℕ) → IsKept schema seats (record { timeline = empty_state schema; mine = replicate seats 0; floor = replicate seats 0 })
unfolding values_onto
empty-kept schema seats = record {
  schema_is = refl;
  cuts = record { chunks = refl; tiled = tt };
  few = tt;
  serials = record { once = λ n. omega arith; given = λ n le. refl };
  versions = tt;
  marks = All-nil (λ (e : Event). e.seat < seats);
  all_mine = length-replicate seats 0;
  all_floor = length-replicate seats 0;
  mine = λ k n at. sym (get-zeros seats k n at);
  floor = λ k n at. let none = get-zeros seats k n at in omega arith;
}

pub kept-empty : (schema : SchemaFields) (seats : ℕ) (t : State) (mine floor : List ℕ) → t ≡ empty_state schema → mine ≡ replicate seats 0 → floor ≡ replicate seats 0
    → IsKept schema seats (record { timeline = t; mine = mine; floor = floor })
kept-empty schema seats t mine floor h k l = coe 1 0 (i. IsKept schema seats (record { timeline = h i; mine = k i; floor = l i })) (empty-kept schema seats)

-- a seat has seen some events more
pub kept-seen : (schema : SchemaFields) (seats : ℕ) (h : Held) (p m f d : ℕ) → IsKept schema seats h → slice_get h.mine p ≡ Some m → slice_get h.floor p ≡ Some f → f + d ≤ length h.timeline.stream
    → IsKept schema seats (record { timeline = h.timeline; mine = set h.mine p (m + 0); floor = set h.floor p (f + d) })
kept-seen schema seats h p m f d kept own was most = record {
  schema_is = kept.schema_is;
  cuts = kept.cuts;
  few = kept.few;
  serials = kept.serials;
  versions = kept.versions;
  marks = kept.marks;
  all_mine = length-set h.mine p (m + 0) ∙ kept.all_mine;
  all_floor = length-set h.floor p (f + d) ∙ kept.all_floor;
  mine = λ k n at. elim (set-get h.mine p (m + 0) k n at) [
    | inl here ↦ let marked-is = kept.mine p m own in let same = here.1 in rw here.0 (omega arith)
    | inr there ↦ kept.mine k n there.1
  ];
  floor = λ k n at. elim (set-get h.floor p (f + d) k n at) [ inl here ↦ let same = here.1 in omega arith | inr there ↦ kept.floor k n there.1 ];
}

-- an event of a seat was accepted, and the seat has seen the stream up to it
pub kept-accepted : (schema : SchemaFields) (seats : ℕ) (h : Held) (t : State) (e : Event) (p m f d : ℕ) → IsKept schema seats h → slice_get h.mine p ≡ Some m → slice_get h.floor p ≡ Some f
    → t ≡ accepted h.timeline e → AreCuts t.schema t.stream t.cuts → HaveFewRows t.schema t.stream t.cuts → AllByRecursion HasVersions t.cuts → p ≡ e.seat → p < seats → f + d ≤ length h.timeline.stream + 1
    → IsKept schema seats (record { timeline = t; mine = set h.mine p (m + 1); floor = set h.floor p (f + d) })
kept-accepted schema seats h t e p m f d kept own was accepted-is cuts few versions mark-is within most =
    let schema-is : t.schema ≡ h.timeline.schema = ap (λ (s : State). s.schema) accepted-is ∙ accepted-schema h.timeline e in
    let stream-is : t.stream ≡ h.timeline.stream ++ e ∷ [] = ap (λ (s : State). s.stream) accepted-is ∙ accepted-stream h.timeline e in
    let M : Event → Type 0 = λ x. x.seat < seats in
    let es = h.timeline.stream in
    let long : length (es ++ e ∷ []) ≡ length es + 1 = length-append es (e ∷ []) in
    record {
      schema_is = schema-is ∙ kept.schema_is;
      cuts = cuts;
      few = few;
      versions = versions;
      serials = subst (λ (s : State). SerialsDiffer s.cuts s.serials) (sym accepted-is) (differ-accepted h.timeline e kept.serials);
      marks = subst (All M) (sym stream-is) (All-append M es (e ∷ []) kept.marks (All-cons M e [] (subst (λ n. n < seats) mark-is within) (All-nil M)));
      all_mine = length-set h.mine p (m + 1) ∙ kept.all_mine;
      all_floor = length-set h.floor p (f + d) ∙ kept.all_floor;
      mine = λ k n at. subst (λ xs. length (marked k xs) ≡ n) (sym stream-is) (marked-push k es e ∙ elim (set-get h.mine p (m + 1) k n at) [
        | inl here ↦
            let has = kept.mine p m own in
            let its : nat_eq e.seat k ≡ true = let a = here.0 in grind (arith, nat_tests) in
            let sum : length (marked k es) + 1 ≡ n = let a = here.0 in let b = here.1 in subst (λ j. length (marked j es) + 1 ≡ n) (sym a) (omega arith) in
            rw its sum
        | inr there ↦
            let other : nat_eq e.seat k ≡ false = let a = there.0 in grind (arith, nat_tests) in
            let has = kept.mine k n there.1 in
            rw other (omega arith)
      ]);
      floor = λ k n at. subst (λ xs. n ≤ length xs) (sym stream-is) (elim (set-get h.floor p (f + d) k n at) [
        | inl here ↦ let same = here.1 in omega arith
        | inr there ↦ let less = kept.floor k n there.1 in omega arith
      ]);
    }
