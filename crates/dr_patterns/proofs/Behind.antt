-- What stands behind some run of characters of a text, place by place.
use Rattle.std.proofs.Common.{◌≡◌, ◌∙◌, sym, ap, ℕ, Bool, true, false, List, [], ◌∷◌}
use Rattle.std.specs.Str.{chars, IsUtf8}
use Rattle.std.proofs.lemmas.Str.{encodes-chars}
use lib.Utf8.{encodes}
use Rattle.dr_like.specs.Like.{behind_some_run}
use Rattle.dr_like.proofs.Patterns.{behind_none, later-more}

module _ (test : List ℕ → Bool) where
  abbrev pub here : List ℕ → Bool
  here cs = test (encodes cs)

  -- it is found where it stands at this place
  pub found-here : (rest : List ℕ) → IsUtf8 rest → test rest ≡ true → behind_some_run here (chars rest) ≡ true
  found-here rest utf8 is = behind_none here (chars rest) (ap test (encodes-chars rest utf8) ∙ is)

  -- else behind the next character
  pub found-later : (rest later : List ℕ) (c : ℕ) → IsUtf8 rest → test rest ≡ false → chars rest ≡ c ∷ chars later → behind_some_run here (chars rest) ≡ behind_some_run here (chars later)
  found-later rest later c utf8 is more = ap (behind_some_run here) more ∙ later-more here c (chars later) (ap here (sym more) ∙ ap test (encodes-chars rest utf8) ∙ is)

  pub found-nowhere : (rest : List ℕ) → IsUtf8 rest → test rest ≡ false → chars rest ≡ [] → behind_some_run here (chars rest) ≡ false
  found-nowhere rest utf8 is end = ap (behind_some_run here) end ∙ ap here (sym end) ∙ ap test (encodes-chars rest utf8) ∙ is

-- where nothing is looked for nothing is found
pub never : (f : List ℕ → Bool) → ((cs : List ℕ) → f cs ≡ false) → (cs : List ℕ) → behind_some_run f cs ≡ false
never f none [] = none []
never f none (c ∷ cs) = later-more f c cs (none (c ∷ cs)) ∙ never f none cs
