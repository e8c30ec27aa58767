-- Segments that are written one after another.
use Rattle.std.proofs.Common.{◌≡◌, ◌∙◌, sym, refl, ap, subst, ℕ, ◌+◌, ◌-◌, ◌<◌, ◌≤◌, Bool, true, false, not, Result, Ok, Err, OnOk, List, [], ◌∷◌, ◌++◌, map, length, take, drop, get_or, slice_range, append_assoc, arith}
use Rattle.std.proofs.lemmas.List.{append-nil, take_more, take-append-drop, length-take, length-map, get_or_default}
use Rattle.std.proofs.Math.ListN.{get_or-map}
use Rattle.std.proofs.Math.Seq.{take-add}
use Rattle.json.specs.Token.{Token}
use Rattle.json.specs.Written.{Written}
use Rattle.dr_answers.specs.Selection.{selected}
use Rattle.dr_ask.specs.declared.scan.Scan.{Scan}
use Rattle.dr_ask.specs.declared.scan_column.ScanColumn.{ScanColumn}
use Rattle.dr_ask.specs.Asked.{Asked}
use Rattle.dr_base.specs.declared.row.Row.{Row}
use Rattle.dr_scan.specs.declared.row_place.RowPlace.{RowPlace}
use Rattle.dr_scan.specs.declared.segment.Segment.{Segment}
use Rattle.dr_scan.specs.declared.window.Window.{Window}
use Rattle.dr_scan.specs.Places.{places_in, places_over}
use Rattle.dr_scan.specs.Turns.{GoesOn}
use Rattle.dr_scan.specs.Window.{after, given, has_left}
use Rattle.dr_scan.specs.Written.{segment_tokens, segments_tokens}
use Rattle.dr_scan.proofs.EntryTokens.{none-after}

pub turned : (b : Bool) → not b ≡ true → b ≡ false
turned true h = cc
turned false h = refl

-- the rows of a segment are those at its place
pub rows-of : (segments : List Segment) (rows : List (List Row)) (i : ℕ) (s : Segment) (g : List Row) → rows ≡ map (λ s. s.rows) segments → i < length segments
    → s ≡ get_or segments i s → g ≡ get_or rows i g → g ≡ s.rows
rows-of segments rows i s g all lt is is_g =
    let f : Segment → List Row = λ s. s.rows in
    is_g ∙ ap (λ l. get_or l i g) all ∙ get_or_default (map f segments) i g s.rows (omega (arith, lt, length-map segments f)) ∙ get_or-map f segments i s ∙ ap f (sym is)

pub as-many : (segments : List Segment) (rows : List (List Row)) → rows ≡ map (λ s. s.rows) segments → length rows ≡ length segments
as-many segments rows all = ap length all ∙ length-map segments (λ (s : Segment). s.rows)

pub only : {X : Type 0} (xs : List X) (x : X) → length xs ≡ 1 → x ≡ get_or xs 0 x → xs ≡ x ∷ []
only [] x one is = absurd (omega (arith, one))
only (y ∷ []) x one is = ap (λ z. z ∷ []) (sym is)
only (y ∷ z ∷ xs) x one is = absurd (omega (arith, one))

-- those before a place, and those from it on up to another
parts : {X : Type 0} (xs : List X) (from to : ℕ) → from ≤ to → take from xs ++ slice_range xs from to ≡ take to xs
parts xs from to le = let same : from + (to - from) ≡ to = omega (arith, le) in sym (take-add from (to - from) xs) ∙ ap (λ k. take k xs) same

module _ (q : Asked) (s : Scan) (columns : List ScanColumn) where
  abbrev goes : Written → Written → Window → Window → List Segment → Type 0
  goes = GoesOn q s columns

  abbrev tokens : Window → List Segment → List Token
  tokens = segments_tokens q s columns

  pub goes-nowhere : (old : Written) (w : Window) → goes old old w w []
  goes-nowhere old w = (refl, λ rest. refl)

  pub goes-once : (old new : Written) (w v : Window) (g : Segment) → new.before ≡ old.before
      → new.tokens ≡ old.tokens ++ segment_tokens s columns g.identifier 0 (given w (selected q g.rows)) → v ≡ after w (length (selected q g.rows)) → goes old new w v (g ∷ [])
  goes-once old new w v g before written moved = (
    before,
    λ rest. ap (λ t. t ++ tokens v rest) written ∙ append_assoc old.tokens (segment_tokens s columns g.identifier 0 (given w (selected q g.rows))) (tokens v rest)
        ∙ ap (λ u. old.tokens ++ (segment_tokens s columns g.identifier 0 (given w (selected q g.rows)) ++ tokens u rest)) moved,
  )

  -- those of one segment, where they are written
  pub goes-alone : {E : Type 0} (result : Result (Unit {0}) E) (old new : Written) (w v : Window) (segments : List Segment) (g : Segment) → length segments ≡ 1 → g ≡ get_or segments 0 g
      → OnOk result ((new.before ≡ old.before) × (new.tokens ≡ old.tokens ++ segment_tokens s columns g.identifier 0 (given w (selected q g.rows))))
      → OnOk result (v ≡ after w (length (selected q g.rows))) → OnOk result (goes old new w v segments)
  goes-alone (Err e) old new w v segments g one is written moved = tt
  goes-alone (Ok u) old new w v segments g one is written moved = subst (goes old new w v) (sym (only segments g one is)) (goes-once old new w v g written.0 written.1 moved)

  pub goes-further : (o m n : Written) (u v w : Window) (a b : List Segment) → goes o m u v a → goes m n v w b → goes o n u w (a ++ b)
  goes-further o m n u v w a b first second = (
    second.0 ∙ first.0,
    λ rest. second.1 rest ∙ first.1 (b ++ rest) ∙ ap (λ l. o.tokens ++ tokens u l) (sym (append_assoc a b rest)),
  )

  -- once the window gives no further row
  pub goes-over : (o n : Written) (u w : Window) (a b : List Segment) → has_left w.left ≡ false → goes o n u w a → goes o n u w (a ++ b)
  goes-over o n u w a b over first = (
    first.0,
    λ rest. ap (λ t. n.tokens ++ t) (none-after q s columns w rest over ∙ sym (none-after q s columns w (b ++ rest) over)) ∙ first.1 (b ++ rest)
        ∙ ap (λ l. o.tokens ++ tokens u l) (sym (append_assoc a b rest)),
  )

  pub goes-next : (o m n : Written) (u v w : Window) (segments : List Segment) (i : ℕ) (g : Segment) → i < length segments → g ≡ get_or segments i g
      → goes o m u v (take i segments) → goes m n v w (g ∷ []) → goes o n u w (take (i + 1) segments)
  goes-next o m n u v w segments i g lt is first second =
      subst (goes o n u w) (ap (λ x. take i segments ++ x ∷ []) is ∙ sym (take_more segments i g lt)) (goes-further o m n u v w (take i segments) (g ∷ []) first second)

  pub goes-to : (o m n : Written) (u v w : Window) (segments : List Segment) (from to : ℕ) → from ≤ to
      → goes o m u v (take from segments) → goes m n v w (slice_range segments from to) → goes o n u w (take to segments)
  goes-to o m n u v w segments from to le first second = subst (goes o n u w) (parts segments from to le) (goes-further o m n u v w (take from segments) (slice_range segments from to) first second)

  pub goes-away : (o n : Written) (u w : Window) (segments : List Segment) (i : ℕ) → has_left w.left ≡ false → goes o n u w (take i segments) → goes o n u w segments
  goes-away o n u w segments i over first = subst (goes o n u w) (take-append-drop i segments) (goes-over o n u w (take i segments) (drop i segments) over first)

  pub goes-whole : (o n : Written) (u w : Window) (segments : List Segment) → goes o n u w segments → (n.before ≡ o.before) × (n.tokens ≡ o.tokens ++ tokens u segments)
  goes-whole o n u w segments all = (
    all.0,
    sym (append-nil n.tokens) ∙ all.1 [] ∙ ap (λ l. o.tokens ++ tokens u l) (append-nil segments),
  )

-- ---- places

module _ (q : Asked) where
  pub places-behind : (a b : List (List Row)) (i j : ℕ) → j ≡ i + length a → places_over q i (a ++ b) ≡ places_over q i a ++ places_over q j b
  places-behind [] b i j is = let same : i ≡ j = omega (arith, is) in ap (λ k. places_over q k b) same
  places-behind (g ∷ a) b i j is =
      let more : j ≡ i + 1 + length a = omega (arith, is) in
      ap (λ l. places_in q i 0 g ++ l) (places-behind a b (i + 1) j more) ∙ sym (append_assoc (places_in q i 0 g) (places_over q (i + 1) a) (places_over q j b))

  pub places-next : (segments : List (List Row)) (i first number : ℕ) (g : List Row) (before places more : List RowPlace) → i < length segments → g ≡ get_or segments i g → number ≡ first + i
      → more ≡ places ++ places_in q number 0 g → places ≡ before ++ places_over q first (take i segments) → more ≡ before ++ places_over q first (take (i + 1) segments)
  places-next segments i first number g before places more lt is is_number added was =
      let long : number ≡ first + length (take i segments) = is_number ∙ ap (λ n. first + n) (omega (arith, lt, length-take i segments)) in
      added ∙ ap (λ l. l ++ places_in q number 0 g) was ∙ append_assoc before (places_over q first (take i segments)) (places_in q number 0 g)
      ∙ ap (λ l. before ++ l)
      (ap (λ l. places_over q first (take i segments) ++ l) (sym (append-nil (places_in q number 0 g))) ∙ sym (places-behind (take i segments) (g ∷ []) first number long)
      ∙ ap (λ x. places_over q first (take i segments ++ x ∷ [])) is ∙ ap (places_over q first) (sym (take_more segments i g lt)))

  -- those of a lot behind those before it
  pub places-further : (segments : List (List Row)) (from to : ℕ) (places more : List RowPlace) → from ≤ to → to ≤ length segments
      → more ≡ places ++ places_over q from (slice_range segments from to) → places ≡ places_over q 0 (take from segments) → more ≡ places_over q 0 (take to segments)
  places-further segments from to places more le within added was =
      let long : from ≡ 0 + length (take from segments) = omega (arith, le, within, length-take from segments) in
      added ∙ ap (λ l. l ++ places_over q from (slice_range segments from to)) was ∙ sym (places-behind (take from segments) (slice_range segments from to) 0 from long) ∙ ap (places_over q 0) (parts segments from to le)
