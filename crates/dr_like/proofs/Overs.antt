-- A letter of a piece over a character of a text that it doesn't fit.
use Rattle.std.proofs.Common.{◌≡◌, ◌∙◌, sym, ap, refl, ℕ, Bool, true, false, not, ◌&&◌, List, [], ◌∷◌, ◌++◌, length, drop, append_assoc, subst, arith, Option, Some, None, IfSome, IsNone, MatchOption, true≢false}
use Rattle.std.proofs.lemmas.Bool.{and_right}
use Rattle.std.proofs.lemmas.List.{drop-drop, drop_at, length-append}
use Rattle.dr_like.specs.Letters.{Lacks}
use Rattle.dr_like.specs.Like.{letter_fits, fits}
use Rattle.std.specs.Str.{chars}
use Rattle.dr_like.specs.declared.over.Over.{Over}
use Rattle.dr_like.specs.Over.{is_missed, IsOver}
use Rattle.dr_like.proofs.Patterns.{one_letter}

not_true : (b : Bool) → not b ≡ true → b ≡ false
not_true true h = sym h
not_true false h = refl

-- where the letter of a piece misses, the piece fits nothing
missed : (before behind more : List ℕ) (letter : ℕ) (t : List ℕ) → Lacks 37 (before ++ letter ∷ behind) → is_missed letter (drop (length before) t) ≡ true → fits ((before ++ letter ∷ behind) ++ more) t ≡ false
missed [] behind more letter [] lacks is = one_letter letter (behind ++ more) lacks.0 []
missed [] behind more letter (d ∷ ds) lacks is = one_letter letter (behind ++ more) lacks.0 (d ∷ ds) ∙ ap (λ b. b && fits (behind ++ more) ds) (not_true (letter_fits letter d) is)
missed (c ∷ cs) behind more letter [] lacks is = one_letter c ((cs ++ letter ∷ behind) ++ more) lacks.0 []
missed (c ∷ cs) behind more letter (d ∷ ds) lacks is =
    one_letter c ((cs ++ letter ∷ behind) ++ more) lacks.0 (d ∷ ds) ∙ and_right (letter_fits c d) _ (missed cs behind more letter ds lacks.1 is)

pub missed-differs : (piece text : List ℕ) (letter : ℕ) (ahead : List ℕ) → Lacks 37 piece → IsOver piece text letter ahead → is_missed letter ahead ≡ true → (more : List ℕ) → fits (piece ++ more) text ≡ false
missed-differs piece text letter ahead lacks over is = λ more.
    ap (λ p. fits (p ++ more) text) over.parts ∙ missed over.before over.behind more letter text (subst_lacks over.parts lacks) (ap (is_missed letter) (sym over.there) ∙ is)
  where
    subst_lacks : {p q : List ℕ} → p ≡ q → Lacks 37 p → Lacks 37 q
    subst_lacks same h = subst (Lacks 37) same h

-- the piece further on in the text
pub over-later : (piece text later : List ℕ) (letter : ℕ) (ahead : List ℕ) (k : ℕ) → IsOver piece text letter ahead → later ≡ drop k text → IsOver piece later letter (drop k ahead)
over-later piece text later letter ahead k over is = record {
  before = over.before;
  behind = over.behind;
  parts = over.parts;
  there = ap (drop k) over.there ∙ drop-drop k (length over.before) text ∙ ap (λ n. drop n text) (omega arith) ∙ sym (drop-drop (length over.before) k text) ∙ ap (drop (length over.before)) (sym is);
}

-- ---- while a piece is compared

-- so far of the piece is gone, and as much of the text
pub record IsGone (piece text left rest : List ℕ) : Type 0 where
  pub before : List ℕ
  pub parts : piece ≡ before ++ left
  pub there : rest ≡ drop (length before) text

pub gone-start : (piece text : List ℕ) → IsGone piece text piece text
gone-start piece text = record { before = []; parts = refl; there = refl }

pub gone-more : (piece text left rest more behind : List ℕ) (letter found : ℕ) → IsGone piece text left rest → left ≡ letter ∷ more → rest ≡ found ∷ behind → IsGone piece text more behind
gone-more piece text left rest more behind letter found so_far left_is rest_is = record {
  before = so_far.before ++ letter ∷ [];
  parts = so_far.parts ∙ ap (λ l. so_far.before ++ l) left_is ∙ sym (append_assoc so_far.before (letter ∷ []) more);
  there = sym (ap (drop 1) rest_is) ∙ ap (drop 1) so_far.there ∙ drop-drop 1 (length so_far.before) text ∙ ap (λ n. drop n text) (sym (length-append so_far.before (letter ∷ []) ∙ omega arith));
}

pub gone-over : (piece text left rest more : List ℕ) (letter : ℕ) → IsGone piece text left rest → left ≡ letter ∷ more → IsOver piece text letter rest
gone-over piece text left rest more letter so_far left_is = record {
  before = so_far.before;
  behind = more;
  parts = so_far.parts ∙ ap (λ l. so_far.before ++ l) left_is;
  there = so_far.there;
}

-- ---- from place to place

module _ (others literal : List ℕ) where
  -- the letter that missed where the literal was looked for, once the literal is found behind a front
  pub over-past : (rest front here behind : List ℕ) (missed result : Option Over) → rest ≡ front ++ here → here ≡ literal ++ behind
      → IfSome missed (λ o. IsOver others (drop (length literal) rest) o.letter (chars o.ahead.now))
      → MatchOption missed (IsNone result) (λ m. IfSome result (λ o. (o.letter ≡ m.letter) × (chars o.ahead.now ≡ drop (length front) (chars m.ahead.now))))
      → IfSome result (λ o. IsOver others behind o.letter (chars o.ahead.now))
  over-past rest front here behind missed None rest_is here_is over moved = tt
  over-past rest front here behind None (Some o) rest_is here_is over moved = absurd (true≢false moved)
  over-past rest front here behind (Some m) (Some o) rest_is here_is over moved =
      let f = length front in
      let l = length literal in
      let later : behind ≡ drop f (drop l rest) =
      sym (drop-drop f l rest ∙ ap (λ n. drop n rest) (omega arith) ∙ sym (drop-drop l f rest) ∙ ap (λ x. drop l (drop f x)) rest_is ∙ ap (drop l) (drop_at front here f refl ∙ here_is) ∙ drop_at literal behind l refl) in
      let there = over-later others (drop l rest) behind m.letter (chars m.ahead.now) f over later in
      subst (λ h. IsOver others behind o.letter h) (sym moved.1) (subst (λ c. IsOver others behind c (drop f (chars m.ahead.now))) (sym moved.0) there)

  -- and one character later
  pub over-next : (behind : List ℕ) (over next : Over) → IsOver others behind over.letter (chars over.ahead.now) → next.letter ≡ over.letter → chars next.ahead.now ≡ drop 1 (chars over.ahead.now) → IsOver others (drop 1 behind) next.letter (chars next.ahead.now)
  over-next behind over next there same ahead =
      subst (λ h. IsOver others (drop 1 behind) next.letter h) (sym ahead) (subst (λ c. IsOver others (drop 1 behind) c (drop 1 (chars over.ahead.now))) (sym same) (over-later others behind (drop 1 behind) over.letter (chars over.ahead.now) 1 there refl))
