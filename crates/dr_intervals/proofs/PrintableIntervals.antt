-- An interval that was read has a start that can be printed.
use Rattle.std.proofs.Common.{◌≡◌, ℕ, ℤ, subst, Bool, true, false, if◌then◌else◌, inl, inr, int_lt, List, [], ◌∷◌, map, fold, Option, Some, None, Result, Ok, Err, refl, arith}
use Rattle.std.specs.List.{All, AllByRecursion}
use Rattle.std.specs.Option.{IfSome}
use Rattle.std.proofs.lemmas.Int.{ints, by_lt_z}
use Rattle.std.specs.Int.{int_min}
use Rattle.std.specs.Prelude.{bytes_eq}
use Rattle.std.proofs.lemmas.List.Elements.{recursion_from_All}
use Rattle.dr_base.specs.Reading.{◌>>=◌}
use Rattle.dr_time.specs.declared.interval.Interval.{Interval}
use Rattle.dr_time.specs.declared.time_error.TimeError.{TimeError}
use Rattle.dr_time.specs.declared.time_error.TimeError.TheVariants.{OutOfRange, BadInstant, BadInterval, EndBeforeStart}
use Rattle.dr_time.specs.Eternity.{eternity, eternity_text}
use Rattle.dr_time.specs.Instant.{IsInstant, instant_of}
use Rattle.dr_time.specs.Printed as time
use Rattle.dr_time.specs.Spelling.{IsRead}
use Rattle.dr_time.specs.Interval.{is_empty, first_time, as_part, parts_of, interval_from, between_instants, interval_of}
use Rattle.dr_time.specs.Union.{earlier, union_start}
use Rattle.dr_time.proofs.ReadLemmas.{instant_of-read}
use Rattle.dr_intervals.specs.Printable.{StartsPrintable}

-- where two steps give a value, the first gave one, and the second this value of it
bind_ok : {A B E : Type 0} (r : Result A E) (f : A → Result B E) (y : B) → (r >>= f) ≡ Ok y → (x : A) × (r ≡ Ok x) × (f x ≡ Ok y)
bind_ok (Ok x) f y h = (x, refl, h)
bind_ok (Err e) f y h = absurd (cc)

IsInstant-from_reading : (text : List ℕ) (r : Result ℤ TimeError) (t : ℤ) → r ≡ Ok t → IsRead text r → IsInstant t
IsInstant-from_reading text r t h read = let this = rw h at read in this.1

IsInstant-from_instant_of : (text : List ℕ) (t : ℤ) → instant_of text ≡ Ok t → IsInstant t
IsInstant-from_instant_of text t h = IsInstant-from_reading text (instant_of text) t h (instant_of-read text)

as_part-ok : (r : Result ℤ TimeError) (t : ℤ) → as_part r ≡ Ok t → r ≡ Ok t
as_part-ok (Ok u) t h = h
as_part-ok (Err BadInstant) t h = absurd (cc)
as_part-ok (Err OutOfRange) t h = absurd (cc)
as_part-ok (Err BadInterval) t h = absurd (cc)
as_part-ok (Err EndBeforeStart) t h = absurd (cc)

IsPrintable-from_ends : (b : Bool) (s e : ℤ) (i : Interval) → int_lt e s ≡ b → IsInstant s → interval_from s e ≡ Ok i → StartsPrintable i
IsPrintable-from_ends true s e i is start h = let no = rw is at h in absurd (cc)
IsPrintable-from_ends false s e i is start h =
    let given = rw is at h in
    let made : Interval = record { start = s; end = e } in
    let same : made ≡ i = cc in
    subst StartsPrintable same (inl (start.0, omega (arith, ints, start.1)))

IsPrintable-from_interval_from : (s e : ℤ) (i : Interval) → IsInstant s → interval_from s e ≡ Ok i → StartsPrintable i
IsPrintable-from_interval_from s e i start h = IsPrintable-from_ends (int_lt e s) s e i refl start h

IsPrintable-from_between : (text : List ℕ) (i : Interval) → between_instants text ≡ Ok i → StartsPrintable i
unfolding between_instants
IsPrintable-from_between text i h =
    let p = bind_ok (parts_of text) (λ parts. as_part (instant_of parts.0) >>= (λ start. as_part (instant_of parts.1) >>= (λ end. interval_from start end))) i h in
    let q = bind_ok (as_part (instant_of p.0.0)) (λ start. as_part (instant_of p.0.1) >>= (λ end. interval_from start end)) i p.2 in
    let r = bind_ok (as_part (instant_of p.0.1)) (λ end. interval_from q.0 end) i q.2 in
    IsPrintable-from_interval_from q.0 r.0 i (IsInstant-from_instant_of p.0.0 q.0 (as_part-ok _ _ q.1)) r.2

pub IsPrintable-from_interval_of : (text : List ℕ) (i : Interval) → interval_of text ≡ Ok i → StartsPrintable i
unfolding interval_of
IsPrintable-from_interval_of text i h = at (bytes_eq text eternity_text) h
  where
    at : (b : Bool) → (if b then Ok eternity else between_instants text) ≡ Ok i → StartsPrintable i
    at true h = let same : eternity ≡ i = cc in subst StartsPrintable same (inr refl)
    at false h = IsPrintable-from_between text i h

earlier-printable : (a b : Option ℤ) → IfSome a time.IsPrintable → IfSome b time.IsPrintable → IfSome (earlier a b) time.IsPrintable
earlier-printable None b p q = q
earlier-printable (Some a) None p q = p
earlier-printable (Some a) (Some b) p q =
    by_lt_z b a
    (λ lt. let least : int_min a b ≡ b = grind (arith, ints) in rw least q)
    (λ le. let least : int_min a b ≡ a = grind (arith, ints) in rw least p)

first_time-printable : (b : Bool) (i : Interval) → is_empty i ≡ b → StartsPrintable i → IfSome (first_time i) time.IsPrintable
first_time-printable true i is p = rw is tt
first_time-printable false i is p = rw is p

earliest-printable : (o : Option ℤ) (intervals : List Interval) → IfSome o time.IsPrintable → AllByRecursion StartsPrintable intervals → IfSome (fold earlier o (map first_time intervals)) time.IsPrintable
earliest-printable o [] p each = p
earliest-printable o (i ∷ is) p each =
    earliest-printable (earlier o (first_time i)) is (earlier-printable o (first_time i) p (first_time-printable _ i refl each.0)) each.1

-- where a union of such intervals starts can be printed
pub union_start-printable : (intervals : List Interval) → All StartsPrintable intervals → IfSome (union_start intervals) time.IsPrintable
union_start-printable intervals each = earliest-printable None intervals tt (recursion_from_All StartsPrintable intervals each)

pub ruleset printable_starts = (union_start-printable)
