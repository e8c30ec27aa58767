-- Events in blocks.
use Rattle.std.proofs.Common.{◌≡◌, ◌∙◌, sym, refl, ap, ℕ, zero, suc, ◌+◌, ◌*◌, ◌<◌, ◌≤◌, ◌/◌, ◌%◌, List, [], ◌∷◌, ◌++◌, length, take, get_or, slice_get, Some, arith}
use Rattle.std.specs.List.{AllByRecursion, flat_map}
use Rattle.std.proofs.lemmas.Nat.{div-add-mod'}
use Rattle.std.proofs.lemmas.Option.{get_or_from_slice_get, slice_get-get_or}
use Rattle.std.proofs.lemmas.List.{take_more, append_assoc, length-append}
use Rattle.dr_base.specs.declared.event.Event.{Event}
use Rattle.dr_chunks.specs.Blocks.{in_blocks}

abbrev pub AreFull : List (List Event) → Type 0
AreFull blocks = AllByRecursion (λ block. length block ≡ 256) blocks

get-left : (xs ys : List Event) (n : ℕ) → n < length xs → slice_get (xs ++ ys) n ≡ slice_get xs n
get-left [] ys n lt = absurd (omega arith)
get-left (x ∷ xs) ys zero lt = refl
get-left (x ∷ xs) ys (suc n) lt = get-left xs ys n (omega arith)

get-right : (xs ys : List Event) (m n : ℕ) → m ≡ length xs + n → slice_get (xs ++ ys) m ≡ slice_get ys n
get-right [] ys m n is = let same : m ≡ n = omega arith in ap (slice_get ys) same
get-right (x ∷ xs) ys zero n is = absurd (omega arith)
get-right (x ∷ xs) ys (suc m) n is = get-right xs ys m n (omega arith)

pub length-in_blocks : (blocks : List (List Event)) (last : List Event) → AreFull blocks → length (in_blocks blocks last) ≡ length blocks * 256 + length last
length-in_blocks [] last full = omega arith
length-in_blocks (b ∷ bs) last full =
    let rest = length-in_blocks bs last full.1 in
    let all : length (in_blocks (b ∷ bs) last) ≡ length b + length (in_blocks bs last) = ap length (append_assoc b (flat_map (λ block. block) bs) last) ∙ length-append b (in_blocks bs last) in
    let own = full.0 in
    omega arith

-- an event of a full block
pub get-block : (blocks : List (List Event)) (last d : List Event) (q r n : ℕ) → AreFull blocks → q < length blocks → r < 256 → n ≡ q * 256 + r → slice_get (in_blocks blocks last) n ≡ slice_get (get_or blocks q d) r
get-block [] last d q r n full lt few is = absurd (omega arith)
get-block (b ∷ bs) last d zero r n full lt few is =
    let own = full.0 in
    ap (λ es. slice_get es n) (append_assoc b (flat_map (λ block. block) bs) last) ∙ get-left b (in_blocks bs last) n (omega arith) ∙ (let same : n ≡ r = omega arith in ap (slice_get b) same)
get-block (b ∷ bs) last d (suc q) r n full lt few is =
    let own = full.0 in
    ap (λ es. slice_get es n) (append_assoc b (flat_map (λ block. block) bs) last) ∙ get-right b (in_blocks bs last) n (q * 256 + r) (omega arith)
    ∙ get-block bs last d q r (q * 256 + r) full.1 (omega arith) few refl

-- an event behind the full blocks
pub get-last : (blocks : List (List Event)) (last : List Event) (r n : ℕ) → AreFull blocks → n ≡ length blocks * 256 + r → slice_get (in_blocks blocks last) n ≡ slice_get last r
get-last [] last r n full is = let same : n ≡ r = omega arith in ap (slice_get last) same
get-last (b ∷ bs) last r n full is =
    let own = full.0 in
    ap (λ es. slice_get es n) (append_assoc b (flat_map (λ block. block) bs) last) ∙ get-right b (in_blocks bs last) n (length bs * 256 + r) (omega arith)
    ∙ get-last bs last r (length bs * 256 + r) full.1 refl

pub full-get : (blocks : List (List Event)) (q : ℕ) (d : List Event) → AreFull blocks → q < length blocks → length (get_or blocks q d) ≡ 256
full-get [] q d full lt = absurd (omega arith)
full-get (b ∷ bs) zero d full lt = full.0
full-get (b ∷ bs) (suc q) d full lt = full-get bs q d full.1 (omega arith)

-- what is read at a place
pub read-block : (blocks : List (List Event)) (last b : List Event) (e : Event) (place : ℕ) → AreFull blocks → place / 256 < length blocks → b ≡ get_or blocks (place / 256) b → e ≡ get_or b (place % 256) e → slice_get (in_blocks blocks last) place ≡ Some e
read-block blocks last b e place full lt is read =
    let q : ℕ = place / 256 in
    let r : ℕ = place % 256 in
    let few : r < 256 = omega arith in
    let long : length b ≡ 256 = ap (λ (es : List Event). length es) is ∙ full-get blocks q b full lt in
    get-block blocks last b q r place full lt few (sym (div-add-mod' place 256)) ∙ ap (λ es. slice_get es r) (sym is) ∙ slice_get-get_or b r e (omega arith) ∙ ap Some (sym read)

pub within-last : (blocks : List (List Event)) (last : List Event) (place : ℕ) → AreFull blocks → length last ≤ 256 → length blocks ≤ place / 256 → place < length (in_blocks blocks last) → (place / 256 ≡ length blocks) × (place % 256 < length last)
within-last blocks last place full short past lt =
    let all = length-in_blocks blocks last full in
    let split = div-add-mod' place 256 in
    (omega arith, omega arith)

pub read-last : (blocks : List (List Event)) (last : List Event) (e : Event) (place : ℕ) → AreFull blocks → length last ≤ 256 → length blocks ≤ place / 256 → place < length (in_blocks blocks last) → e ≡ get_or last (place % 256) e → slice_get (in_blocks blocks last) place ≡ Some e
read-last blocks last e place full short past lt read =
    let here = within-last blocks last place full short past lt in
    let split = div-add-mod' place 256 in
    get-last blocks last (place % 256) place full (sym split ∙ ap (λ q. q * 256 + place % 256) here.0) ∙ slice_get-get_or last (place % 256) e here.1 ∙ ap Some (sym read)

-- an event that was read is the next
pub taken-more : (es : List Event) (i : ℕ) (e : Event) → i < length es → slice_get es i ≡ Some e → take (i + 1) es ≡ take i es ++ e ∷ []
taken-more es i e lt at = take_more es i e lt ∙ ap (λ x. take i es ++ x ∷ []) (get_or_from_slice_get es i e e at)
