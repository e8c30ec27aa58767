use Rattle.std.proofs.Common.{◌≡◌, ◌∙◌, ap, sym, ◌∷◌, length, drop, arith}
use Rattle.std.specs.Str.{chars}
use Rattle.dr_like.specs.Like.{fits, behind_some_run}
use Rattle.dr_places.specs.Places.{begins}
use Rattle.dr_places.proofs.BeginLemmas.{begins-short, not-begun, start-fits}
use Rattle.dr_places.proofs.by_places.fits_with_run.Goals as goal

pub returns-then-count : goal.returns-then-count
returns-then-count c =
    let p = chars c.args.start.now in
    let text = c.args.places.now in
    sym (not-begun p (37 ∷ chars c.args.more.now) text c.requires.lacks (begins-short p text (omega (arith, c.if-count.true, ap length c.in_ok-put_letters_of.ensures, c.len-count.ensures, c.count.ensures))))

pub returns-then-not-stands : goal.returns-then-not-stands
returns-then-not-stands c =
    let text = c.args.places.now in
    let letters = c.as_slice.ensures.value ∙ c.in_ok-put_letters_of.ensures in
    sym (not-begun (chars c.args.start.now) (37 ∷ chars c.args.more.now) text c.requires.lacks (sym (ap (λ l. begins l text) letters) ∙ sym c.stands.ensures.same ∙ c.if-not-stands.true))

pub returns : goal.returns
returns c =
    let more = chars c.args.more.now in
    let text = c.args.places.now in
    let letters = c.as_slice.ensures.value ∙ c.in_ok-put_letters_of.ensures in
    let long : c.len-count.result ≡ length (chars c.args.start.now) = omega (arith, c.len-count.ensures, ap length c.in_ok-put_letters_of.ensures) in
    c.in_ok-found.ensures ∙ ap (λ n. behind_some_run (fits more) (drop n text)) long
    ∙ sym (start-fits (chars c.args.start.now) more text c.requires.lacks (sym (ap (λ l. begins l text) letters) ∙ sym c.stands.ensures.same ∙ c.if-not-stands.false))
