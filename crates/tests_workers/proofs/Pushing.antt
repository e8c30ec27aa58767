-- Rows, and ranges of rows, whose times are instants, with one more.
use Rattle.std.proofs.Common.{List, [], ◌∷◌, ◌++◌}
use Rattle.std.specs.List.{AllByRecursion}
use Rattle.dr_cuts.proofs.Each.{All-append, All-left, All-right}
use Rattle.dr_fragment.specs.declared.fragment.Fragment.{Fragment}
use Rattle.dr_time.specs.Instant.{IsInstant}
use Rattle.dr_base.specs.declared.row.Row.{Row}
use Rattle.dr_workers.specs.Shared.{rows_of}

abbrev AtInstants : List Row → Type 0
AtInstants rows = AllByRecursion (λ r. IsInstant r.key.time) rows

pub all_pushed : (fs : List Fragment) (f : Fragment) → AllByRecursion (λ r. IsInstant r.key.time) (rows_of fs) → AllByRecursion (λ r. IsInstant r.key.time) f.rows → AllByRecursion (λ r. IsInstant r.key.time) (rows_of (fs ++ f ∷ []))
all_pushed [] f so_far more = All-append (λ (r : Row). IsInstant r.key.time) f.rows [] more tt
all_pushed (g ∷ fs) f so_far more =
    All-append (λ (r : Row). IsInstant r.key.time) g.rows (rows_of (fs ++ f ∷ [])) (All-left (λ (r : Row). IsInstant r.key.time) g.rows (rows_of fs) so_far)
    (all_pushed fs f (All-right (λ (r : Row). IsInstant r.key.time) g.rows (rows_of fs) so_far) more)

pub one_pushed : (rows : List Row) (row : Row) → AllByRecursion (λ r. IsInstant r.key.time) rows → IsInstant row.key.time → AllByRecursion (λ r. IsInstant r.key.time) (rows ++ row ∷ [])
one_pushed [] row so_far instant = (instant, tt)
one_pushed (r ∷ rows) row so_far instant = (so_far.0, one_pushed rows row so_far.1 instant)
