-- Ranges that tile a list of events.
use Rattle.std.proofs.Common.{◌≡◌, ◌∙◌, sym, refl, ap, ℕ, ◌+◌, ◌-◌, ◌<◌, ◌≤◌, List, [], ◌∷◌, ◌++◌, length, take, drop, append_assoc, arith}
use Rattle.std.specs.List.{fold, flat_map}
use Rattle.std.proofs.lemmas.List.{drop-drop, take-append-drop, append_cancel_right, drop-append-le, take-append-le, length-drop}
use Rattle.dr_base.specs.declared.event.Event.{Event}
use Rattle.dr_cuts.specs.State.{Range, Tile, events_of}

-- where the last range ends
abbrev pub end_from : ℕ → List Range → ℕ
end_from from ranges = fold (λ from range. range.to) from ranges

pub tile-end : (from end : ℕ) (rs : List Range) → Tile from end rs → end_from from rs ≤ end
tile-end from end [] h = h
tile-end from end (r ∷ rs) h = tile-end r.to end rs h.2

pub tile-start : (from end : ℕ) (rs : List Range) → Tile from end rs → from ≤ end_from from rs
tile-start from end [] h = omega arith
tile-start from end (r ∷ rs) h =
    let next : r.to ≤ end_from r.to rs = tile-start r.to end rs h.2 in
    let some : r.from < r.to = h.1 in
    let same : r.from ≡ from = h.0 in
    omega arith

pub tile-more : (from end more : ℕ) (rs : List Range) → end ≤ more → Tile from end rs → Tile from more rs
tile-more from end more [] le h = omega arith
tile-more from end more (r ∷ rs) le h = (h.0, h.1, tile-more r.to end more rs le h.2)

pub tile-append : (from end : ℕ) (a b : List Range) → Tile from end a → Tile (end_from from a) end b → Tile from end (a ++ b)
tile-append from end [] b p q = q
tile-append from end (x ∷ a) b p q = (p.0, p.1, tile-append x.to end a b p.2 q)

pub tile-right : (from end : ℕ) (a b : List Range) → Tile from end (a ++ b) → Tile (end_from from a) end b
tile-right from end [] b h = h
tile-right from end (x ∷ a) b h = tile-right x.to end a b h.2

pub tile-left : (from end : ℕ) (a b : List Range) → Tile from end (a ++ b) → Tile from end a
tile-left from end [] b h =
    let past : from ≤ end_from from b = tile-start from end b h in
    let within : end_from from b ≤ end = tile-end from end b h in
    omega arith
tile-left from end (x ∷ a) b h = (h.0, h.1, tile-left x.to end a b h.2)

-- the first range of some begins where they do, and together they aren't empty
pub tile-some : (from end : ℕ) (r : Range) (rs : List Range) → Tile from end (r ∷ rs) → (r.from ≡ from) × (from < end_from from (r ∷ rs))
tile-some from end r rs h =
    let next : r.to ≤ end_from r.to rs = tile-start r.to end rs h.2 in
    let some : r.from < r.to = h.1 in
    let same : r.from ≡ from = h.0 in
    (same, omega arith)

pub end_from-append : (from : ℕ) (a b : List Range) → end_from from (a ++ b) ≡ end_from (end_from from a) b
end_from-append from [] b = refl
end_from-append from (x ∷ a) b = end_from-append x.to a b

-- a list is cut at a place
pub cut-events : (es : List Event) (from to : ℕ) → from ≤ to → take (to - from) (drop from es) ++ drop to es ≡ drop from es
cut-events es from to le =
    let at : from + (to - from) ≡ to = omega arith in
    ap (λ n. take (to - from) (drop from es) ++ drop n es) (sym at)
    ∙ ap (λ l. take (to - from) (drop from es) ++ l) (sym (drop-drop (to - from) from es))
    ∙ take-append-drop (to - from) (drop from es)

-- the events of tiling ranges, one range after another, and those behind them
pub tiled-events : (es : List Event) (from : ℕ) (rs : List Range) → Tile from (length es) rs → flat_map (events_of es) rs ++ drop (end_from from rs) es ≡ drop from es
tiled-events es from [] h = refl
tiled-events es from (r ∷ rs) h =
    let some : r.from < r.to = h.1 in
    append_assoc (events_of es r) (flat_map (events_of es) rs) (drop (end_from r.to rs) es)
    ∙ ap (λ l. events_of es r ++ l) (tiled-events es r.to rs h.2)
    ∙ cut-events es r.from r.to (omega arith)
    ∙ ap (λ n. drop n es) h.0

-- the events of adjacent ranges are those of the range from the first to the last
pub joined-events : (es : List Event) (from : ℕ) (rs : List Range) → Tile from (length es) rs → flat_map (events_of es) rs ≡ take (end_from from rs - from) (drop from es)
joined-events es from rs h =
    append_cancel_right (flat_map (events_of es) rs) (take (end_from from rs - from) (drop from es)) (drop (end_from from rs) es)
    (tiled-events es from rs h ∙ sym (cut-events es from (end_from from rs) (tile-start from (length es) rs h)))

-- one more event behind the ranges
pub drop-push : (es : List Event) (e : Event) (n : ℕ) → n ≤ length es → drop n (es ++ e ∷ []) ≡ drop n es ++ e ∷ []
drop-push es e n le = drop-append-le n es (e ∷ []) le

pub events_of-push : (es : List Event) (e : Event) (r : Range) → r.from ≤ r.to → r.to ≤ length es → events_of (es ++ e ∷ []) r ≡ events_of es r
events_of-push es e r some le =
    let long : length (drop r.from es) ≡ length es - r.from = length-drop r.from es in
    ap (take (r.to - r.from)) (drop-push es e r.from (omega arith)) ∙ take-append-le (r.to - r.from) (drop r.from es) (e ∷ []) (omega arith)
