-- Laws of `and` and `or` of truth values.
use Rattle.std.proofs.Common.{◌≡◌, refl, Bool, true, false, not, ◌||◌, ◌&&◌}

pub or_regroups : (a b c : Bool) → (a || (b || c)) ≡ ((a || b) || c)
or_regroups true b c = refl
or_regroups false b c = refl

pub or_swaps : (a b c : Bool) → ((a || b) || c) ≡ ((a || c) || b)
or_swaps true b c = refl
or_swaps false true true = refl
or_swaps false true false = refl
or_swaps false false true = refl
or_swaps false false false = refl

pub or_moves : (a b c : Bool) → (a || (b || c)) ≡ (b || (a || c))
or_moves true true c = refl
or_moves true false c = refl
or_moves false true c = refl
or_moves false false c = refl

pub or_ends : (a b : Bool) → (a || (b || false)) ≡ (a || b)
or_ends true b = refl
or_ends false true = refl
or_ends false false = refl

pub and_regroups : (a b c : Bool) → (a && (b && c)) ≡ ((a && b) && c)
and_regroups true b c = refl
and_regroups false b c = refl

pub and_swaps : (a b c : Bool) → ((a && b) && c) ≡ ((a && c) && b)
and_swaps false b c = refl
and_swaps true true true = refl
and_swaps true true false = refl
and_swaps true false true = refl
and_swaps true false false = refl

pub and_moves : (a b c : Bool) → (a && (b && c)) ≡ (b && (a && c))
and_moves true true c = refl
and_moves true false c = refl
and_moves false true c = refl
and_moves false false c = refl

pub and_ends : (a b : Bool) → (a && (b && true)) ≡ (a && b)
and_ends true true = refl
and_ends true false = refl
and_ends false b = refl

-- neither of two, and a third
pub neither_and : (a b c : Bool) → (not a && (not b && c)) ≡ (not (a || b) && c)
neither_and true b c = refl
neither_and false b c = refl

pub and_true : (a : Bool) → (a && true) ≡ a
and_true true = refl
and_true false = refl

pub or_true : (a : Bool) → (a || true) ≡ true
or_true true = refl
or_true false = refl

pub or_false : (a : Bool) → (a || false) ≡ a
or_false true = refl
or_false false = refl

pub or_twice : (a b : Bool) → (a || b) ≡ (a || (a || b))
or_twice true b = refl
or_twice false b = refl

pub or_moves_out : (a b c : Bool) → ((a || b) || c) ≡ (b || (a || c))
or_moves_out true true c = refl
or_moves_out true false c = refl
or_moves_out false b c = refl
