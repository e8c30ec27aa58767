-- The ranges that a snapshot holds, as segments.
use Rattle.std.proofs.Common.{◌≡◌, ◌∙◌, sym, refl, ap, subst, ℕ, List, [], ◌∷◌, length, map, suc, None}
use Rattle.std.specs.List.{AllByRecursion}
use Rattle.dr_base.specs.declared.event.Event.{Event}
use Rattle.dr_base.specs.declared.row.Row.{Row}
use Rattle.dr_fragment.specs.declared.fragment.Fragment.{Fragment}
use Rattle.dr_schema.specs.declared.schema.Schema.{Schema}
use Rattle.dr_time.specs.Instant.{IsInstant}
use Rattle.dr_cuts.specs.declared.range_info.RangeInfo.{RangeInfo}
use Rattle.dr_timeline.specs.Numbered.{numbered}
use Rattle.dr_timeline.specs.Scanning.{segments_behind}
use Rattle.dr_timeline.specs.Shown.{Shows}
use Rattle.dr_timeline.proofs.Pinning.{rows_of_range}
use Rattle.dr_timeline.proofs.RangePlaces.{instants-infos, numbered-infos}

length-mapped : {A B : Type 0} (f : A → B) (xs : List A) → length (map f xs) ≡ length xs
length-mapped f [] = refl
length-mapped f (x ∷ xs) = ap (λ (n : ℕ). suc n) (length-mapped f xs)

module _ (schema : Schema) (es : List Event) (held : List (List Row)) (ranges : List RangeInfo) (shows : Shows schema es held ranges) where
  pub instants-shown : AllByRecursion (λ r. IsInstant r.chunk) ranges
  instants-shown = subst (AllByRecursion (λ r. IsInstant r.chunk)) (sym shows.ranges_are) (instants-infos schema es shows.cuts shows.are_cuts shows.fit)

  pub segments-shown : numbered schema None ranges held ≡ segments_behind schema es [] ranges
  segments-shown =
      ap (numbered schema None ranges) shows.rows
      ∙ ap (λ (rs : List RangeInfo). numbered schema None rs (map (rows_of_range schema es) rs)) shows.ranges_are
      ∙ numbered-infos schema es shows.cuts shows.are_cuts shows.fit
      ∙ ap (segments_behind schema es []) (sym shows.ranges_are)

-- each range has a fragment
pub as-many : (schema : Schema) (es : List Event) (fs : List Fragment) (ranges : List RangeInfo) → Shows schema es (map (λ f. f.rows) fs) ranges → length fs ≡ length ranges
as-many schema es fs ranges shows =
    sym (length-mapped (λ (f : Fragment). f.rows) fs) ∙ ap (λ (rows : List (List Row)). length rows) shows.rows ∙ length-mapped (rows_of_range schema es) ranges
