-- Lists that lie one behind the other, told apart by their ends.
use Rattle.std.specs.Prelude.{ℕ, ◌+◌, ◌-◌, ◌==◌, Bool, ◌&&◌, nat_le, List, [], ◌∷◌, length, take, drop}

-- where each list ends, the first one beginning at start
unfoldable pub ends_from : {A : Type 0} → ℕ → List (List A) → List ℕ
ends_from start [] = []
ends_from start (xs ∷ xss) = (start + length xs) ∷ ends_from (start + length xs) xss

-- the lists that end there
unfoldable pub pieces : {A : Type 0} → ℕ → List ℕ → List A → List (List A)
pieces start [] all = []
pieces start (end ∷ ends) all = take (end - start) (drop start all) ∷ pieces end ends all

-- the ends don't fall, and the last one is where all of it ends
unfoldable pub ends_fit : ℕ → List ℕ → ℕ → Bool
ends_fit start [] last = start == last
ends_fit start (end ∷ ends) last = nat_le start end && ends_fit end ends last
