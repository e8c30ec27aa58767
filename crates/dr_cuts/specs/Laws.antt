-- The laws over the definitions alone: which chunks events have, and that neither cuts nor the order of events show in answers.
use Rattle.std.specs.Prelude.{◌≡◌, ℤ, true, List, map}
use Rattle.std.specs.List.{list_any}
use Rattle.std.specs.List.Sorted.{IsStrictlySortedBy, IsPermutation}
use Rattle.std.specs.Ordering.{int_cmp, int_eq}
use Rattle.dr_base.specs.declared.event.Event.{Event}
use Rattle.dr_schema.specs.declared.schema.Schema.{Schema}
use Rattle.dr_ask.specs.Asked.{Asked}
use Rattle.dr_ask.specs.MadeFor.{MadeFor}
use Rattle.dr_ask.specs.Matching.{is_matching}
use Rattle.dr_answers.specs.Answer.{answer}
use Rattle.dr_cuts.specs.Chunks.{chunk, chunks}
use Rattle.dr_cuts.specs.RawAnswer.{raw_answer}
use Rattle.dr_cuts.specs.Segments.{infos, rows_over}
use Rattle.dr_cuts.specs.State.{Cut, AreCuts}

-- the chunks of some events rise, and a time is one of them exactly where it is the chunk of one of the events
abbrev pub ChunksOfEvents : Type 0
ChunksOfEvents = (schema : Schema) (es : List Event) →
    IsStrictlySortedBy int_cmp (chunks schema es) × ((k : ℤ) → list_any (int_eq k) (chunks schema es) ≡ list_any (int_eq k) (map (chunk schema) es))

-- wherever the chunks of some events are cut, the answer to a matching query is that over the raw events
abbrev pub AnswersOverCuts : Type 0
AnswersOverCuts = (schema : Schema) (q : Asked) (es : List Event) (cuts : List Cut) → MadeFor schema q → is_matching q ≡ true → AreCuts schema es cuts
    → answer q (rows_over schema es (infos schema es cuts)) ≡ raw_answer schema q es

-- whatever the query, the raw answer is the same in whatever order the events came
abbrev pub RawAnswersOfRearranged : Type 0
RawAnswersOfRearranged = (schema : Schema) (q : Asked) (es fs : List Event) → IsPermutation es fs → raw_answer schema q es ≡ raw_answer schema q fs
