-- Texts whose characters are known.
use Rattle.std.specs.Prelude.{◌≡◌, ℕ, ◌<◌, List, [], length, get_or, Option, None, IfSome, Vec}
use Rattle.std.specs.Global.{Global}
use Rattle.std.specs.Str.{chars}

-- of each text its characters are known, or nothing
pub record AreKnown (texts : List (List ℕ)) (known : List (Option (List ℕ))) : Type 0 where
  pub count : length known ≡ length texts
  pub each : (i : ℕ) → i < length texts → IfSome (get_or known i None) (λ characters. characters ≡ chars (get_or texts i []))

-- of each text its characters
pub record AreSpelled (texts : List (List ℕ)) (letters : List (Vec ℕ Global)) : Type 0 where
  pub count : length letters ≡ length texts
  pub each : (i : ℕ) (other : Vec ℕ Global) → i < length texts → (get_or letters i other).items ≡ chars (get_or texts i [])
