-- Texts that stand for themselves in a pattern, and the patterns that they make. No public contract cites this file.
use Rattle.std.specs.Prelude.{◌≡◌, ℕ, List, [], ◌∷◌, ◌++◌, map}
use Rattle.std.specs.List.{AllByRecursion}
use Rattle.std.specs.Str.{chars, IsUtf8}
use Rattle.dr_like.specs.Letters.{Lacks}
use Rattle.dr_patterns.specs.declared.kind.Kind.{Kind}
use Rattle.dr_patterns.specs.declared.kind.Kind.TheVariants.{Whole, Start, End, Part, Other}

-- neither `%` nor `_` is in the text
pub record IsLiteral (text : List ℕ) : Type 0 where
  pub utf8 : IsUtf8 text
  pub runs : Lacks 37 (chars text)
  pub gaps : Lacks 95 (chars text)

abbrev pub AreLiteral : List (List ℕ) → Type 0
AreLiteral texts = AllByRecursion IsLiteral texts

-- `x%`, `%x` and `%x%`
abbrev pub starting : List ℕ → List ℕ
starting x = x ++ 37 ∷ []

abbrev pub ending : List ℕ → List ℕ
ending x = 37 ∷ x

abbrev pub holding : List ℕ → List ℕ
holding x = 37 ∷ (x ++ 37 ∷ [])

-- what a pattern of this kind is
abbrev pub IsOfKind : List ℕ → Kind → Type 0
IsOfKind pattern (Whole x) = IsLiteral x.now × (pattern ≡ x.now)
IsOfKind pattern (Start x) = IsLiteral x.now × (pattern ≡ starting x.now)
IsOfKind pattern (End x) = IsLiteral x.now × (pattern ≡ ending x.now)
IsOfKind pattern (Part x) = IsLiteral x.now × (pattern ≡ holding x.now)
IsOfKind pattern Other = Unit {0}

-- the patterns of all kinds
abbrev pub patterns_of : (words starts ends parts others : List (List ℕ)) → List (List ℕ)
patterns_of words starts ends parts others = words ++ (map starting starts ++ (map ending ends ++ (map holding parts ++ others)))

-- what they are made of is literal
pub record MadeOfLiterals (words starts ends parts : List (List ℕ)) : Type 0 where
  pub are_words : AreLiteral words
  pub are_starts : AreLiteral starts
  pub are_ends : AreLiteral ends
  pub are_parts : AreLiteral parts
