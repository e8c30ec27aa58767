-- The cuts of events after each step, over the definitions alone.
use Rattle.std.proofs.Common.{◌≡◌, ◌≢◌, ◌∙◌, sym, refl, ap, subst, ℕ, ℤ, ◌+◌, ◌<◌, ◌≤◌, true, false, List, [], ◌∷◌, ◌++◌, length, map, take, drop, nat_le, arith}
use Rattle.std.specs.List.{fold}
use Rattle.std.specs.List.Sorted.{IsStrictlySortedBy}
use Rattle.std.specs.declared.cmp.Ordering.TheVariants.{Less, Equal, Greater}
use Rattle.std.specs.Ordering.{int_cmp, int_eq, match_ordering}
use Rattle.std.proofs.lemmas.Bool.Decides.{nat_tests}
use Rattle.std.proofs.lemmas.List.{drop_all, length-take, length-drop, take-append-drop, drop-drop}
use Rattle.dr_base.specs.declared.event.Event.{Event}
use Rattle.dr_schema.specs.declared.schema.Schema.{Schema}
use Rattle.dr_merge.specs.declared.job.Job.{Job}
use Rattle.dr_cuts.specs.Chunks.{chunk, chunk_list, chunks, with_value}
use Rattle.dr_cuts.specs.AtKey.{item_at}
use Rattle.dr_cuts.specs.State.{State, Range, Cut, Tile, IsTiled, AreCuts, open_from, open_events, sealed_in, at_chunk, open_cut}
use Rattle.dr_timeline.specs.Steps.{with_seal, replaced, open_in, StandsAt, joined_range}
use Rattle.dr_chunks.specs.Ranges.{fragment_of}
use Rattle.dr_merge.specs.Joined.{first_from, last_to}
use Rattle.dr_cuts.proofs.Parts.{has, part-none, values_onto-push, rising-values, Covers-values_onto, int_eq-itself}
use Rattle.dr_cuts.proofs.Tiles.{end_from, tile-end, tile-more, tile-append, tile-right, tile-left, tile-some}
use Rattle.dr_chunks.proofs.Holding.{own-list, other-list}
use Rattle.dr_chunks.proofs.Changes.{All-item_at, All-at_key, keys-at_key, with_value-there}

-- the cut of a chunk; where it has none, that of a chunk of which nothing is sealed
abbrev pub cut_at : ℤ → List Cut → Cut
cut_at k cuts = item_at (λ c. c.chunk) (open_cut k) k cuts

sealed_in-is : (k : ℤ) (cuts : List Cut) → sealed_in k cuts ≡ (cut_at k cuts).sealed
sealed_in-is k [] = refl
sealed_in-is k (c ∷ cs) =
    elim (int_cmp k c.chunk) as (λ o. match_ordering o [] c.sealed (sealed_in k cs) ≡ (match_ordering o (open_cut k) c (cut_at k cs)).sealed)
    [ Less ↦ refl | Equal ↦ refl | Greater ↦ sealed_in-is k cs ]

rising-cuts : (schema : Schema) (es : List Event) (cuts : List Cut) → AreCuts schema es cuts → IsStrictlySortedBy int_cmp (map (λ c. c.chunk) cuts)
rising-cuts schema es cuts are = subst (λ (ks : List ℤ). IsStrictlySortedBy int_cmp ks) (sym are.chunks) (rising-values (chunk schema) es)

lt-from : (a b : ℕ) → (b ≤ a → ⊥) → a < b
lt-from a b apart = elim (nat_le b a) as (λ t. nat_le b a ≡ t → a < b) [ true ↦ λ h. absurd (apart (grind (arith, nat_tests))) | false ↦ λ h. grind (arith, nat_tests) ] refl

zero-least : (n : ℕ) → 0 ≤ n
zero-least n = omega arith

tiled-at : (schema : Schema) (es : List Event) (cuts : List Cut) (k : ℤ) → AreCuts schema es cuts → IsTiled schema es (cut_at k cuts) × ((cut_at k cuts).chunk ≡ k)
tiled-at schema es cuts k are = All-item_at (λ c. c.chunk) (open_cut k) (IsTiled schema es) cuts k refl are.tiled (λ none. zero-least _) (rising-cuts schema es cuts are)

-- a chunk that isn't among the chunks has no event
no-list : (schema : Schema) (es : List Event) (cuts : List Cut) (k : ℤ) → AreCuts schema es cuts → has k (map (λ c. c.chunk) cuts) ≡ false → chunk_list schema es k ≡ []
no-list schema es cuts k are none = part-none (chunk schema) k (chunks schema es) es (Covers-values_onto (chunk schema) [] es) (ap (has k) (sym are.chunks) ∙ none)

there : (schema : Schema) (es : List Event) (cuts : List Cut) (k : ℤ) → AreCuts schema es cuts → (chunk_list schema es k ≡ [] → ⊥) → has k (map (λ c. c.chunk) cuts) ≡ true
there schema es cuts k are some =
    elim (has k (map (λ c. c.chunk) cuts)) as (λ b. has k (map (λ c. c.chunk) cuts) ≡ b → b ≡ true) [ true ↦ λ h. refl | false ↦ λ h. absurd (some (no-list schema es cuts k are h)) ] refl

-- ---- an event

pub cuts-opened : (schema : Schema) (es : List Event) (cuts : List Cut) (e : Event) → AreCuts schema es cuts → AreCuts schema (es ++ e ∷ []) (at_chunk (chunk schema e) (λ c. c) cuts)
cuts-opened schema es cuts e are =
    let k : ℤ = chunk schema e in
    let at = tiled-at schema es cuts k are in
    let own : int_eq k (cut_at k cuts).chunk ≡ true = ap (int_eq k) at.1 ∙ int_eq-itself k in
    let longer : length (chunk_list schema es (cut_at k cuts).chunk) ≤ length (chunk_list schema (es ++ e ∷ []) (cut_at k cuts).chunk) =
    subst (λ (l : List Event). length (chunk_list schema es (cut_at k cuts).chunk) ≤ length l) (sym (own-list schema es e (cut_at k cuts).chunk own)) (length-push (chunk_list schema es (cut_at k cuts).chunk)) in
    record {
      chunks = keys-at_key (λ (c : Cut). c.chunk) (open_cut k) cuts k (λ c. c) (λ c. refl) refl ∙ ap (with_value k) are.chunks ∙ sym (values_onto-push (chunk schema) [] es e);
      tiled = All-at_key (λ c. c.chunk) (open_cut k) (IsTiled schema es) (IsTiled schema (es ++ e ∷ [])) cuts k (λ c. c)
          (λ c other h. subst (λ (l : List Event). Tile 0 (length l) c.sealed) (sym (other-list schema es e c.chunk other)) h)
          (tile-more 0 (length (chunk_list schema es (cut_at k cuts).chunk)) (length (chunk_list schema (es ++ e ∷ []) (cut_at k cuts).chunk)) (cut_at k cuts).sealed longer at.0)
          are.tiled (rising-cuts schema es cuts are);
    }
  where
    length-push : (l : List Event) → length l ≤ length (l ++ e ∷ [])
    length-push [] = omega arith
    length-push (x ∷ l) = let less = length-push l in omega arith

-- ---- a seal

pub cuts-after_seal : (s : State) (k : ℤ) (serial : ℕ) → AreCuts s.schema s.stream s.cuts → open_in s k ≢ [] → AreCuts s.schema s.stream (at_chunk k (with_seal (length (chunk_list s.schema s.stream k)) serial) s.cuts)
cuts-after_seal s k serial are some =
    let l : List Event = chunk_list s.schema s.stream k in
    let c : Cut = cut_at k s.cuts in
    let at = tiled-at s.schema s.stream s.cuts k are in
    let sealed : sealed_in k s.cuts ≡ c.sealed = sealed_in-is k s.cuts in
    let tiled : Tile 0 (length l) c.sealed = subst (λ (j : ℤ). Tile 0 (length (chunk_list s.schema s.stream j)) c.sealed) at.1 at.0 in
    let inside : open_from c.sealed < length l = lt-from (open_from c.sealed) (length l) (λ past. some (ap (open_events l) sealed ∙ drop_all (open_from c.sealed) l past)) in
    let list : chunk_list s.schema s.stream k ≡ [] → ⊥ = λ none. let nothing : length l ≡ 0 = ap (λ (x : List Event). length x) none in absurd (omega arith) in
    let new : Range = record { from = open_from c.sealed; to = length l; serial = serial; version = 0 } in
    let longer : Tile 0 (length l) (c.sealed ++ new ∷ []) = tile-append 0 (length l) c.sealed (new ∷ []) tiled (refl, inside, itself (length l)) in
    record {
      chunks = keys-at_key (λ (c : Cut). c.chunk) (open_cut k) s.cuts k (with_seal (length l) serial) (λ c. refl) refl ∙ with_value-there k (map (λ c. c.chunk) s.cuts) (there s.schema s.stream s.cuts k are list) (rising-cuts s.schema s.stream s.cuts are) ∙ are.chunks;
      tiled = All-at_key (λ c. c.chunk) (open_cut k) (IsTiled s.schema s.stream) (IsTiled s.schema s.stream) s.cuts k (with_seal (length l) serial) (λ c other h. h)
          (subst (λ (j : ℤ). Tile 0 (length (chunk_list s.schema s.stream j)) (c.sealed ++ new ∷ [])) (sym at.1) longer) are.tiled (rising-cuts s.schema s.stream s.cuts are);
    }
  where
    itself : (n : ℕ) → n ≤ n
    itself n = omega arith

-- ---- a merge

-- one range in the place of adjacent ones
tile-replaced : (from end : ℕ) (before : List Range) (r : Range) (rs after : List Range) (new : Range) → Tile from end (before ++ ((r ∷ rs) ++ after)) → new.from ≡ r.from → new.to ≡ end_from r.to rs → Tile from end (before ++ (new ∷ after))
tile-replaced from end before r rs after new h is_from is_to =
    let at : ℕ = end_from from before in
    let rest : Tile at end ((r ∷ rs) ++ after) = tile-right from end before ((r ∷ rs) ++ after) h in
    let inner : Tile at end (r ∷ rs) = tile-left at end (r ∷ rs) after rest in
    let some = tile-some at end r rs inner in
    let begins : new.from ≡ at = is_from ∙ some.0 in
    let more : at < end_from at (r ∷ rs) = some.1 in
    let behind : Tile new.to end after = subst (λ (n : ℕ). Tile n end after) (sym is_to) (tile-right at end (r ∷ rs) after rest) in
    tile-append from end before (new ∷ after) (tile-left from end before ((r ∷ rs) ++ after) h) (begins, omega arith, behind)

last-of : (schema : Schema) (es : List Event) (k : ℤ) (to : ℕ) (rs : List Range) → fold (λ to f. f.to) to (map (fragment_of schema es k) rs) ≡ end_from to rs
last-of schema es k to [] = refl
last-of schema es k to (r ∷ rs) = last-of schema es k r.to rs

tile-joined : (schema : Schema) (es : List Event) (k : ℤ) (end place count : ℕ) (ranges middle : List Range) (new : Range) → take count (drop place ranges) ≡ middle → 0 < length middle → Tile 0 end ranges
    → new.from ≡ first_from (map (fragment_of schema es k) middle) → new.to ≡ last_to (map (fragment_of schema es k) middle) → Tile 0 end (take place ranges ++ (new ∷ drop (place + count) ranges))
tile-joined schema es k end place count ranges [] new is some tiled is_from is_to = absurd (omega arith)
tile-joined schema es k end place count ranges (r ∷ rs) new is some tiled is_from is_to =
    let parts : ranges ≡ take place ranges ++ ((r ∷ rs) ++ drop (place + count) ranges) =
    sym (take-append-drop place ranges) ∙ ap (λ l. take place ranges ++ l) (sym (take-append-drop count (drop place ranges)) ∙ (λ i. is i ++ drop-drop count place ranges i)) in
    tile-replaced 0 end (take place ranges) r rs (drop (place + count) ranges) new (subst (Tile 0 end) parts tiled) is_from (is_to ∙ last-of schema es k r.to rs)

pub cuts-after_merge : (s : State) (job : Job) (place : ℕ) → AreCuts s.schema s.stream s.cuts → StandsAt s job place → AreCuts s.schema s.stream (at_chunk job.chunk (replaced place (length job.inputs) job.purpose (joined_range s job place)) s.cuts)
cuts-after_merge s job place are stands =
    let k : ℤ = job.chunk in
    let n : ℕ = length job.inputs in
    let l : List Event = chunk_list s.schema s.stream k in
    let c : Cut = cut_at k s.cuts in
    let at = tiled-at s.schema s.stream s.cuts k are in
    let sealed : sealed_in k s.cuts ≡ c.sealed = sealed_in-is k s.cuts in
    let tiled : Tile 0 (length l) c.sealed = subst (λ (j : ℤ). Tile 0 (length (chunk_list s.schema s.stream j)) c.sealed) at.1 at.0 in
    let within : place + n ≤ length c.sealed = subst (λ (rs : List Range). place + n ≤ length rs) sealed stands.within in
    let some : 0 < n = stands.some in
    let list : chunk_list s.schema s.stream k ≡ [] → ⊥ = λ none. let nothing = tile-none c.sealed (subst (λ (x : List Event). Tile 0 (length x) c.sealed) none tiled) in absurd (omega arith) in
    let inputs : map (fragment_of s.schema s.stream k) (take n (drop place c.sealed)) ≡ job.inputs = ap (λ rs. map (fragment_of s.schema s.stream k) (take n (drop place rs))) (sym sealed) ∙ stands.inputs in
    let taken = length-take n (drop place c.sealed) in
    let dropped = length-drop place c.sealed in
    let new : Range = joined_range s job place in
    let longer : Tile 0 (length l) (take place c.sealed ++ (new ∷ drop (place + n) c.sealed)) =
    tile-joined s.schema s.stream k (length l) place n c.sealed (take n (drop place c.sealed)) new refl (omega arith) tiled (ap first_from (sym inputs)) (ap last_to (sym inputs)) in
    record {
      chunks = keys-at_key (λ (c : Cut). c.chunk) (open_cut k) s.cuts k (replaced place n job.purpose new) (λ c. refl) refl ∙ with_value-there k (map (λ c. c.chunk) s.cuts) (there s.schema s.stream s.cuts k are list) (rising-cuts s.schema s.stream s.cuts are) ∙ are.chunks;
      tiled = All-at_key (λ c. c.chunk) (open_cut k) (IsTiled s.schema s.stream) (IsTiled s.schema s.stream) s.cuts k (replaced place n job.purpose new) (λ c other h. h)
          (subst (λ (j : ℤ). Tile 0 (length (chunk_list s.schema s.stream j)) (take place c.sealed ++ (new ∷ drop (place + n) c.sealed))) (sym at.1) longer) are.tiled (rising-cuts s.schema s.stream s.cuts are);
    }
  where
    tile-none : (rs : List Range) → Tile 0 0 rs → length rs ≡ 0
    tile-none [] h = refl
    tile-none (r ∷ rs) h = let some = (tile-some 0 0 r rs h).1 in let end = tile-end 0 0 (r ∷ rs) h in absurd (omega arith)
