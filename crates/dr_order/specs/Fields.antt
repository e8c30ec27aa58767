-- The fields that the objects of a `limitSpec` share.
use Rattle.std.specs.Prelude.{ℕ, List, Option, Some, None, Result, Ok, Err}
use Rattle.serde_json.specs.Data.{Data, null, boolean, number, string, array, object, Members}
use Rattle.serde_json.specs.Find.{as_u64}
use Rattle.dr_base.specs.declared.base_error.BaseError.{BaseError}
use Rattle.dr_base.specs.declared.base_error.BaseError.TheVariants.{WrongKind}
use Rattle.dr_base.specs.Unlisted.{unlisted}
use Rattle.dr_order.specs.declared.order_error.OrderError.{OrderError}
use Rattle.dr_order.specs.declared.order_error.OrderError.TheVariants.{Unsupported}

abbrev pub whole_count : List ℕ → Option ℕ → Result ℕ BaseError
whole_count name None = Err (WrongKind name)
whole_count name (Some n) = Ok n

-- the value is a whole number from 0 to 2^64 - 1
abbrev pub as_count : List ℕ → Data → Result ℕ BaseError
as_count name null = Err (WrongKind name)
as_count name (boolean b) = Err (WrongKind name)
as_count name (number n) = whole_count name (as_u64 n)
as_count name (string s) = Err (WrongKind name)
as_count name (array ds) = Err (WrongKind name)
as_count name (object ms) = Err (WrongKind name)

-- 0 where it is absent
abbrev pub count_or_none : List ℕ → Option Data → Result ℕ BaseError
count_or_none name None = Ok 0
count_or_none name (Some d) = as_count name d

abbrev pub none_left : Option (List ℕ) → Result (Unit {0}) OrderError
none_left None = Ok tt
none_left (Some key) = Err (Unsupported key)

-- no key asks for something beside the listed ones
abbrev pub no_unlisted : List (List ℕ) → Members → Result (Unit {0}) OrderError
no_unlisted listed ms = none_left (unlisted listed ms)
