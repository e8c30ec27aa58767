-- Texts as they are read from a side. No public contract cites this file.
use Rattle.std.specs.Prelude.{ℕ, Bool, List, reverse}
use Rattle.std.specs.Str.{chars, encode_utf8_all}
use Rattle.dr_like.specs.Like.{behind_some_run}
use Rattle.dr_patterns.specs.Begun.{begins_some}
use Rattle.dr_patterns.specs.declared.side.Side.{Side}
use Rattle.dr_patterns.specs.declared.side.Side.TheVariants.{Start, End}

-- from its start by its bytes, from its end by its characters
abbrev pub seen : Side → List ℕ → List ℕ
seen Start text = text
seen End text = reverse (chars text)

-- one of the edges is at this side of the text
abbrev pub some_at : Side → (edges : List (List ℕ)) (text : List ℕ) → Bool
some_at side edges text = begins_some (seen side) edges (seen side text)

-- one of them is at this side of what is left of the text behind some run of characters
abbrev pub some_within : Side → (edges : List (List ℕ)) (text : List ℕ) → Bool
some_within side edges text = behind_some_run (λ cs. some_at side edges (encode_utf8_all cs)) (chars text)
