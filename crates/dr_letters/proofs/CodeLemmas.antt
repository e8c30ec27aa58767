-- Which texts have a character at a place.
use Rattle.std.proofs.Common.{◌≡◌, ◌∙◌, sym, refl, ap, ℕ, ◌<◌, ◌&&◌, not, Bool, true, false, List, length, get_or, arith}
use Rattle.dr_rowindex.specs.Orders.{Tell}
use Rattle.dr_rowindex.specs.Truths.{Joined}
use Rattle.dr_letters.specs.Codes.{Keeps}
use Rattle.dr_letters.specs.Pieces.{MeetsTwo}

-- ---- told already

pub keeps-told : {V : Type 0} (test : V → Bool) (values : List V) (told before after : List Bool) → length before ≡ length values → Tell test values told → Joined (λ a b. a && b) told before after → Keeps test values before after
keeps-told test values told before after long tells joined = record {
  count = joined.count;
  each = λ i v lt. joined.each i (omega (arith, lt, long)) ∙ ap (λ b. get_or before i false && b) (tells.each i v lt);
}

-- ---- two sets

pub keeps-met : {V : Type 0} (test : V → Bool) (values : List V) (a b before between after : List Bool) → MeetsTwo test values a b → length before ≡ length values
    → Joined (λ x y. x && y) a before between → Joined (λ x y. x && y) b between after → Keeps test values before after
keeps-met test values a b before between after meets long first second = record {
  count = second.count ∙ first.count;
  each = λ i v lt.
      second.each i (omega (arith, lt, long, first.count)) ∙ ap (λ e. e && get_or b i false) (first.each i (omega (arith, lt, long))) ∙ grouped (get_or before i false) (get_or a i false) (get_or b i false)
      ∙ ap (λ e. get_or before i false && e) (sym (meets.each i v lt));
}
  where
    grouped : (e f g : Bool) → ((e && f) && g) ≡ (e && (f && g))
    grouped true f g = refl
    grouped false f g = refl

-- one set stands for two
pub meets-itself : {V : Type 0} (test : V → Bool) (values : List V) (told : List Bool) → Tell test values told → MeetsTwo test values told told
meets-itself test values told tells = record { counts = (tells.count, tells.count); each = λ i v lt. sym (tells.each i v lt) ∙ twice (get_or told i false) }
  where
    twice : (b : Bool) → b ≡ (b && b)
    twice true = refl
    twice false = refl

-- none passes a test, and none is left
pub keeps-none : {V : Type 0} (test : V → Bool) (values : List V) (ended before between after : List Bool) → ((i : ℕ) (v : V) → i < length values → test (get_or values i v) ≡ false) → length before ≡ length values
    → Joined (λ a b. a && b) ended before between → Joined (λ a b. a && not b) ended between after → Keeps test values before after
keeps-none test values ended before between after fails long first second = record {
  count = second.count ∙ first.count;
  each = λ i v lt.
      second.each i (omega (arith, lt, long, first.count)) ∙ ap (λ b. b && not (get_or ended i false)) (first.each i (omega (arith, lt, long))) ∙ neither (get_or before i false) (get_or ended i false)
      ∙ ap (λ b. get_or before i false && b) (sym (fails i v lt));
}
  where
    neither : (a b : Bool) → ((a && b) && not b) ≡ (a && false)
    neither true true = refl
    neither true false = refl
    neither false b = refl
