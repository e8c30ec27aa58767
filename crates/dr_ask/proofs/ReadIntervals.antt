-- The intervals of a query that is read start at times that can be printed.
use Rattle.std.proofs.Common.{◌≡◌, List, [], codes, All, Ok, subst}
use Rattle.std.proofs.lemmas.List.Elements.{All-from_recursion}
use Rattle.serde_json.specs.Data.{Data, null, boolean, number, string, array, object, Items, no_items, item, Members}
use Rattle.dr_base.specs.Each.{each}
use Rattle.dr_base.specs.Fields.{field, required, as_text, text_field, list_field}
use Rattle.dr_base.specs.Reading.{passed}
use Rattle.dr_time.specs.declared.interval.Interval.{Interval}
use Rattle.dr_time.specs.Interval.{interval_of}
use Rattle.dr_intervals.specs.declared.intervals_error.IntervalsError.TheVariants.{Base, Time}
use Rattle.dr_intervals.specs.IntervalsOf.{interval_in, only_intervals, no_unlisted, object_of, intervals_in, intervals_of}
use Rattle.dr_intervals.specs.Printable.{StartsPrintable}
use Rattle.dr_intervals.proofs.PrintableIntervals.{IsPrintable-from_interval_of}
use Rattle.dr_ask.proofs.ReadSteps.{through, passed_through, each-all}

of_text : (d : Data) (i : Interval) → interval_in d ≡ Ok i → StartsPrintable i
unfolding interval_in
of_text d i e =
    through (passed Base (as_text (codes "intervals") d)) _ i e (λ text _ e. IsPrintable-from_interval_of text i (passed_through Time (interval_of text) i e))

of_texts : (ds : Items) (is : List Interval) → each interval_in ds ≡ Ok is → All StartsPrintable is
of_texts ds is e = All-from_recursion StartsPrintable is (each-all StartsPrintable interval_in of_text [] ds is tt e)

of_object : (d : Data) (ms : Members) (is : List Interval) → object_of d ms ≡ Ok is → All StartsPrintable is
unfolding object_of
of_object d ms is e =
    through (passed Base (text_field (codes "type") d)) _ is e (λ type _ e.
    through (only_intervals type) _ is e (λ read _ e.
    through (passed Base (list_field (codes "intervals") d)) _ is e (λ items _ e.
    through (each interval_in items) _ is e (λ read texts e.
    through (no_unlisted _ ms) _ is e (λ unlisted _ e.
    let same : read ≡ is = cc in subst (All StartsPrintable) same (of_texts items read texts))))))

of_data : (d : Data) (is : List Interval) → intervals_in d ≡ Ok is → All StartsPrintable is
of_data null is e = cc
of_data (boolean b) is e = cc
of_data (number n) is e = cc
of_data (string s) is e = of_texts (item (string s) no_items) is e
of_data (array ds) is e = of_texts ds is e
of_data (object ms) is e = of_object (object ms) ms is e

pub starts-intervals_of : (d : Data) (is : List Interval) → intervals_of d ≡ Ok is → All StartsPrintable is
unfolding intervals_of
starts-intervals_of d is e = through (passed Base (required (codes "intervals") (field (codes "intervals") d))) _ is e (λ found _ e. of_data found is e)
