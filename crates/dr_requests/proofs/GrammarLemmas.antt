-- The reader of a line and its grammar are the same.
use Rattle.std.proofs.Common.{◌≡◌, ◌≢◌, ◌∙◌, refl, sym, ap, subst, ℕ, ◌<◌, ◌^◌, Bool, true, false, cond, List, [], ◌∷◌, ◌++◌, length, All, Option, Some, None, Result, Ok, Err, codes, bytes_eq, rules, tests, arith}
use Rattle.std.specs.Prelude.{nat_eq, nat_lt, ◌==◌}
use Rattle.std.specs.Cmp.Lexicographic.{bytes_decides}
use Rattle.std.proofs.lemmas.Bool.{lt-ltb, ltb-true}
use Rattle.std.proofs.lemmas.List.Elements.{All-cons, All-nil}
use Rattle.dr_base.specs.Reading.{◌>>=◌}
use Rattle.dr_events.specs.WholeNumber.{digits_number}
use Rattle.dr_merge.specs.declared.purpose.Purpose.{Purpose}
use Rattle.dr_merge.specs.declared.purpose.Purpose.TheVariants.{Merge, Publish}
use Rattle.dr_requests.specs.declared.command_error.CommandError.{CommandError}
use Rattle.dr_requests.specs.declared.command_error.CommandError.TheVariants.{BadCommand}
use Rattle.dr_requests.specs.declared.request.Request.{Request}
use Rattle.dr_requests.specs.declared.request.Request.TheVariants.{Add, Seal, Join, Plan, Commit, Pin, Query, At, Audit, Image, Stats}
use Rattle.dr_requests.specs.Request.{at_in, commit_in, image_in, join_in, number_in, one_word, one_word_of, or_bad_command, places_in, plan_in, purpose_in, request_alone, request_in, request_of, request_with, seal_in, some_word, split_word, two_parts, two_parts_of, within_64_bits}
use Rattle.dr_requests.specs.Grammar.{IsWord, SpellsNumber, SpellsPurpose, SpellsPlaces, SpellsRequest, to_merge, to_publish, from_to, no_event, event, seal, join, plan, commit, pin, query, at_pin, audit, image, stats}
use Rattle.dr_requests.proofs.WordLemmas.{split_at, split_whole}

-- ---- what is spelled is read

word_kept : (word : List ℕ) → 0 < length word → some_word word ≡ Ok word
word_kept [] some = absurd (omega arith)
word_kept (c ∷ cs) some = let kept : nat_eq (length (c ∷ cs)) 0 ≡ false = search (rules, tests) in rw kept refl

parts_read : (word rest : List ℕ) → IsWord word → two_parts (word ++ 32 ∷ rest) ≡ Ok (word, rest)
parts_read word rest is = rw (split_at word rest is.1, word_kept word is.0) refl

one_read : (word : List ℕ) → IsWord word → one_word word ≡ Ok word
one_read word is = rw (split_whole word is.1) (word_kept word is.0)

number_read : (word : List ℕ) (n : ℕ) → SpellsNumber word n → number_in word ≡ Ok n
number_read word n is = rw (is.0, lt-ltb n (2 ^ 64) is.1) refl

places_read : (text instant : List ℕ) (lo hi : ℕ) → SpellsPlaces text instant lo hi → places_in text ≡ Ok (instant, lo, hi)
places_read text instant lo hi (from_to w l h m n is_word is_lo spells_lo spells_hi) =
    rw (parts_read w (l ++ 32 ∷ h) is_word, parts_read l h is_lo, number_read l m spells_lo, number_read h n spells_hi) refl

purpose_read : (word : List ℕ) (purpose : Purpose) → SpellsPurpose word purpose → purpose_in word ≡ Ok purpose
purpose_read word purpose to_merge = refl
purpose_read word purpose to_publish = refl

join_read : (word places instant : List ℕ) (purpose : Purpose) (lo hi : ℕ) → SpellsPurpose word purpose → SpellsPlaces places instant lo hi
    → request_in (word ++ 32 ∷ places) ≡ Ok (Join purpose instant lo hi)
join_read word places instant purpose lo hi to_merge spells = rw (places_read places instant lo hi spells) refl
join_read word places instant purpose lo hi to_publish spells = rw (places_read places instant lo hi spells) refl

pub spelled_is_read : (line : List ℕ) (r : Request (List ℕ)) → SpellsRequest line r → request_in line ≡ Ok r
spelled_is_read line r no_event = refl
spelled_is_read line r (event text) = refl
spelled_is_read line r (seal instant is) = rw (one_read instant is) refl
spelled_is_read line r (join word places instant purpose lo hi spelled spells) = join_read word places instant purpose lo hi spelled spells
spelled_is_read line r (plan word places instant purpose lo hi is spelled spells) =
    rw (parts_read word places is, purpose_read word purpose spelled, places_read places instant lo hi spells) refl
spelled_is_read line r (commit word n spells) = rw (number_read word n spells) refl
spelled_is_read line r pin = refl
spelled_is_read line r (query text) = refl
spelled_is_read line r (at_pin word text n is spells) = rw (parts_read word text is, number_read word n spells) refl
spelled_is_read line r (audit text) = refl
spelled_is_read line r (image instant word place is spells) = rw (parts_read instant word is, number_read word place spells) refl
spelled_is_read line r stats = refl

-- ---- what is read is spelled

through : {A B E : Type 0} (r : Result A E) (f : A → Result B E) (x : B) {P : Type 0} → (r >>= f) ≡ Ok x → ((y : A) → r ≡ Ok y → f y ≡ Ok x → P) → P
through (Ok y) f x e then = then y refl e
through (Err g) f x e then = cc

ok_is : {A E : Type 0} (x y : A) → ◌≡◌ {A = Result A E} (Ok x) (Ok y) → x ≡ y
ok_is x y is = cc

-- a line and the parts that its first space makes
abbrev Splits : List ℕ → List ℕ × Option (List ℕ) → Type 0
Splits line (word, None) = (line ≡ word) × All (λ b. b ≢ 32) word
Splits line (word, Some rest) = (line ≡ word ++ 32 ∷ rest) × All (λ b. b ≢ 32) word

splits_more : (b : ℕ) (bs : List ℕ) (p : List ℕ × Option (List ℕ)) → b ≢ 32 → Splits bs p → Splits (b ∷ bs) (b ∷ p.0, p.1)
splits_more b bs (word, None) other is = (ap (λ l. b ∷ l) is.0, All-cons (λ x. x ≢ 32) b word other is.1)
splits_more b bs (word, Some rest) other is = (ap (λ l. b ∷ l) is.0, All-cons (λ x. x ≢ 32) b word other is.1)

splits_by : (b : ℕ) (bs : List ℕ) (is_space : Bool) → (b == 32) ≡ is_space → Splits bs (split_word bs)
    → Splits (b ∷ bs) (cond {A = List ℕ × Option (List ℕ)} is_space ([], Some bs) (b ∷ (split_word bs).0, (split_word bs).1))
splits_by b bs true is so = let here : b ≡ 32 = grind (arith, tests) in (ap (λ x. x ∷ bs) here, All-nil (λ x. x ≢ 32))
splits_by b bs false is so = splits_more b bs (split_word bs) (λ here. let bad : true ≡ false = ap (λ x. x == 32) (sym here) ∙ is in cc) so

splits : (line : List ℕ) → Splits line (split_word line)
splits [] = (refl, All-nil (λ x. x ≢ 32))
splits (b ∷ bs) = splits_by b bs (b == 32) refl (splits bs)

word_is : (word x : List ℕ) → some_word word ≡ Ok x → (word ≡ x) × (0 < length word)
word_is [] x is = cc
word_is (c ∷ cs) x is = let kept : nat_eq (length (c ∷ cs)) 0 ≡ false = search (rules, tests) in let whole : Ok (c ∷ cs) ≡ Ok x = rw kept at is in (let same : c ∷ cs ≡ x = cc in same, omega arith)

parts_of : (text : List ℕ) (p : List ℕ × Option (List ℕ)) (y : List ℕ × List ℕ) → Splits text p → two_parts_of p ≡ Ok y → (text ≡ y.0 ++ 32 ∷ y.1) × IsWord y.0
parts_of text (word, None) y is read = cc
parts_of text (word, Some rest) y is read =
    through (some_word word) _ y read (λ w kept made.
    let found = word_is word w kept in
    let same : (w, rest) ≡ y = cc in
    let all : y ≡ (word, rest) = sym same ∙ ap (λ l. (l, rest)) (sym found.0) in
    subst (λ (y : List ℕ × List ℕ). (text ≡ y.0 ++ 32 ∷ y.1) × IsWord y.0) (sym all) (is.0, (found.1, is.1)))

one_of : (text : List ℕ) (p : List ℕ × Option (List ℕ)) (x : List ℕ) → Splits text p → one_word_of p ≡ Ok x → (text ≡ x) × IsWord x
one_of text (word, Some rest) x is read = cc
one_of text (word, None) x is read =
    let found = word_is word x read in
    (is.0 ∙ found.0, (subst (λ (l : List ℕ). 0 < length l) found.0 found.1, subst (λ (l : List ℕ). All (λ b. b ≢ 32) l) found.0 is.1))

number_of : (word : List ℕ) (n : ℕ) → number_in word ≡ Ok n → SpellsNumber word n
number_of word n read = at (digits_number word) refl read
  where
    below : (m : ℕ) (b : Bool) → nat_lt m (2 ^ 64) ≡ b → or_bad_command (cond b (Some m) None) ≡ Ok n → (m ≡ n) × (m < 2 ^ 64)
    below m true is read = (let same : m ≡ n = cc in same, ltb-true m (2 ^ 64) is)
    below m false is read = cc

    at : (d : Option ℕ) → digits_number word ≡ d → (or_bad_command d >>= (λ m. or_bad_command (within_64_bits m))) ≡ Ok n → SpellsNumber word n
    at None is read = cc
    at (Some m) is read = let found = below m (nat_lt m (2 ^ 64)) refl read in (is ∙ ap Some found.0, subst (λ k. k < 2 ^ 64) found.0 found.1)

places_of : (text instant : List ℕ) (lo hi : ℕ) → places_in text ≡ Ok (instant, lo, hi) → SpellsPlaces text instant lo hi
places_of text instant lo hi read =
    through (two_parts text) _ _ read (λ p first read.
    through (two_parts p.1) _ _ read (λ q second read.
    through (number_in q.0) _ _ read (λ m is_lo read.
    through (number_in q.1) _ _ read (λ n is_hi made.
    let a = parts_of text (split_word text) p (splits text) first in
    let b = parts_of p.1 (split_word p.1) q (splits p.1) second in
    let spelled : SpellsPlaces (p.0 ++ 32 ∷ (q.0 ++ 32 ∷ q.1)) p.0 m n = from_to p.0 q.0 q.1 m n a.1 b.1 (number_of q.0 m is_lo) (number_of q.1 n is_hi) in
    let here : SpellsPlaces text p.0 m n = subst (λ l. SpellsPlaces l p.0 m n) (sym (a.0 ∙ ap (λ l. p.0 ++ 32 ∷ l) b.0)) spelled in
    subst (λ (t : List ℕ × ℕ × ℕ). SpellsPlaces text t.0 t.1 t.2) (ok_is (p.0, m, n) (instant, lo, hi) made) here))))

-- a line that is this text, and what it asks for
spells : (line text : List ℕ) (r s : Request (List ℕ)) → line ≡ text → ◌≡◌ {A = Result (Request (List ℕ)) CommandError} (Ok s) (Ok r) → SpellsRequest text s → SpellsRequest line r
spells line text r s is read spelled = let same : s ≡ r = cc in coe 0 1 (i. SpellsRequest ((sym is) i) (same i)) spelled

-- a word that a test finds
word_by : (word text : List ℕ) → bytes_eq word text ≡ true → word ≡ text
word_by word text is = (bytes_decides word text).0 is

alone_of : (word : List ℕ) (r : Request (List ℕ)) → request_alone word ≡ Ok r → SpellsRequest word r
alone_of word r read = at (bytes_eq word (codes "+")) (bytes_eq word (codes "pin")) (bytes_eq word (codes "stats")) refl refl refl read
  where
    at : (a b c : Bool) → bytes_eq word (codes "+") ≡ a → bytes_eq word (codes "pin") ≡ b → bytes_eq word (codes "stats") ≡ c
        → cond {A = Result (Request (List ℕ)) CommandError} a (Ok (Add [])) (cond b (Ok Pin) (cond c (Ok Stats) (Err BadCommand))) ≡ Ok r → SpellsRequest word r
    at true b c x y z is = spells word (codes "+") r (Add []) (word_by word (codes "+") x) is no_event
    at false true c x y z is = spells word (codes "pin") r Pin (word_by word (codes "pin") y) is pin
    at false false true x y z is = spells word (codes "stats") r Stats (word_by word (codes "stats") z) is stats
    at false false false x y z is = cc

seal_of : (rest : List ℕ) (r : Request (List ℕ)) → seal_in rest ≡ Ok r → SpellsRequest (codes "seal " ++ rest) r
seal_of rest r read =
    through (one_word rest) _ r read (λ w one made.
    let found = one_of rest (split_word rest) w (splits rest) one in
    spells (codes "seal " ++ rest) (codes "seal " ++ w) r (Seal w) (ap (λ l. codes "seal " ++ l) found.0) made (seal w found.1))

join_of : (word rest : List ℕ) (purpose : Purpose) (r : Request (List ℕ)) → SpellsPurpose word purpose → join_in purpose rest ≡ Ok r → SpellsRequest (word ++ 32 ∷ rest) r
join_of word rest purpose r spelled read =
    through (places_in rest) _ r read (λ p found made.
    spells (word ++ 32 ∷ rest) (word ++ 32 ∷ rest) r (Join purpose p.0 p.1 p.2) refl made (join word rest p.0 purpose p.1 p.2 spelled (places_of rest p.0 p.1 p.2 found)))

purpose_of : (word : List ℕ) (purpose : Purpose) → purpose_in word ≡ Ok purpose → SpellsPurpose word purpose
purpose_of word purpose read = at (bytes_eq word (codes "merge")) (bytes_eq word (codes "publish")) refl refl read
  where
    at : (a b : Bool) → bytes_eq word (codes "merge") ≡ a → bytes_eq word (codes "publish") ≡ b
        → cond {A = Result Purpose CommandError} a (Ok Merge) (cond b (Ok Publish) (Err BadCommand)) ≡ Ok purpose → SpellsPurpose word purpose
    at true b x y is = let same : Merge ≡ purpose = cc in coe 0 1 (i. SpellsPurpose ((sym (word_by word (codes "merge") x)) i) (same i)) to_merge
    at false true x y is = let same : Publish ≡ purpose = cc in coe 0 1 (i. SpellsPurpose ((sym (word_by word (codes "publish") y)) i) (same i)) to_publish
    at false false x y is = cc

plan_of : (rest : List ℕ) (r : Request (List ℕ)) → plan_in rest ≡ Ok r → SpellsRequest (codes "plan " ++ rest) r
plan_of rest r read =
    through (two_parts rest) _ r read (λ p first read.
    through (purpose_in p.0) _ r read (λ purpose named read.
    through (places_in p.1) _ r read (λ q found made.
    let parts = parts_of rest (split_word rest) p (splits rest) first in
    spells (codes "plan " ++ rest) (codes "plan " ++ (p.0 ++ (codes " " ++ p.1))) r (Plan purpose q.0 q.1 q.2) (ap (λ l. codes "plan " ++ l) parts.0) made
    (plan p.0 p.1 q.0 purpose q.1 q.2 parts.1 (purpose_of p.0 purpose named) (places_of p.1 q.0 q.1 q.2 found)))))

commit_of : (rest : List ℕ) (r : Request (List ℕ)) → commit_in rest ≡ Ok r → SpellsRequest (codes "commit " ++ rest) r
commit_of rest r read =
    through (number_in rest) _ r read (λ n found made. spells (codes "commit " ++ rest) (codes "commit " ++ rest) r (Commit n) refl made (commit rest n (number_of rest n found)))

at_of : (rest : List ℕ) (r : Request (List ℕ)) → at_in rest ≡ Ok r → SpellsRequest (codes "at " ++ rest) r
at_of rest r read =
    through (two_parts rest) _ r read (λ p first read.
    through (number_in p.0) _ r read (λ n found made.
    let parts = parts_of rest (split_word rest) p (splits rest) first in
    spells (codes "at " ++ rest) (codes "at " ++ (p.0 ++ (codes " " ++ p.1))) r (At n p.1) (ap (λ l. codes "at " ++ l) parts.0) made (at_pin p.0 p.1 n parts.1 (number_of p.0 n found))))

image_of : (rest : List ℕ) (r : Request (List ℕ)) → image_in rest ≡ Ok r → SpellsRequest (codes "image " ++ rest) r
image_of rest r read =
    through (two_parts rest) _ r read (λ p first read.
    through (number_in p.1) _ r read (λ n found made.
    let parts = parts_of rest (split_word rest) p (splits rest) first in
    spells (codes "image " ++ rest) (codes "image " ++ (p.0 ++ (codes " " ++ p.1))) r (Image p.0 n) (ap (λ l. codes "image " ++ l) parts.0) made (image p.0 p.1 n parts.1 (number_of p.1 n found))))

-- a line whose first word is this one
line_by : (line word text rest : List ℕ) (r : Request (List ℕ)) → line ≡ word ++ 32 ∷ rest → bytes_eq word text ≡ true → SpellsRequest (text ++ 32 ∷ rest) r → SpellsRequest line r
line_by line word text rest r is found spelled = subst (λ l. SpellsRequest l r) (sym (is ∙ ap (λ w. w ++ 32 ∷ rest) (word_by word text found))) spelled

with_of : (line word rest : List ℕ) (r : Request (List ℕ)) → line ≡ word ++ 32 ∷ rest → request_with word rest ≡ Ok r → SpellsRequest line r
with_of line word rest r is read =
    at (bytes_eq word (codes "+")) (bytes_eq word (codes "query")) (bytes_eq word (codes "audit")) (bytes_eq word (codes "at")) (bytes_eq word (codes "seal")) (bytes_eq word (codes "merge")) (bytes_eq word (codes "publish"))
    (bytes_eq word (codes "plan")) (bytes_eq word (codes "commit")) (bytes_eq word (codes "image")) refl refl refl refl refl refl refl refl refl refl read
  where
    at : (a b c d e f g h i j : Bool) → bytes_eq word (codes "+") ≡ a → bytes_eq word (codes "query") ≡ b → bytes_eq word (codes "audit") ≡ c → bytes_eq word (codes "at") ≡ d
        → bytes_eq word (codes "seal") ≡ e → bytes_eq word (codes "merge") ≡ f → bytes_eq word (codes "publish") ≡ g → bytes_eq word (codes "plan") ≡ h
        → bytes_eq word (codes "commit") ≡ i → bytes_eq word (codes "image") ≡ j
        → cond {A = Result (Request (List ℕ)) CommandError} a (Ok (Add rest)) (cond b (Ok (Query rest)) (cond c (Ok (Audit rest)) (cond d (at_in rest) (cond e (seal_in rest) (cond f (join_in Merge rest)
        (cond g (join_in Publish rest) (cond h (plan_in rest) (cond i (commit_in rest) (cond j (image_in rest) (Err BadCommand)))))))))) ≡ Ok r → SpellsRequest line r
    at true b c d e f g h i j p q s t u v w x y z made = line_by line word (codes "+") rest r is p (spells (codes "+ " ++ rest) (codes "+ " ++ rest) r (Add rest) refl made (event rest))
    at false true c d e f g h i j p q s t u v w x y z made = line_by line word (codes "query") rest r is q (spells (codes "query " ++ rest) (codes "query " ++ rest) r (Query rest) refl made (query rest))
    at false false true d e f g h i j p q s t u v w x y z made = line_by line word (codes "audit") rest r is s (spells (codes "audit " ++ rest) (codes "audit " ++ rest) r (Audit rest) refl made (audit rest))
    at false false false true e f g h i j p q s t u v w x y z made = line_by line word (codes "at") rest r is t (at_of rest r made)
    at false false false false true f g h i j p q s t u v w x y z made = line_by line word (codes "seal") rest r is u (seal_of rest r made)
    at false false false false false true g h i j p q s t u v w x y z made = line_by line word (codes "merge") rest r is v (join_of (codes "merge") rest Merge r to_merge made)
    at false false false false false false true h i j p q s t u v w x y z made = line_by line word (codes "publish") rest r is w (join_of (codes "publish") rest Publish r to_publish made)
    at false false false false false false false true i j p q s t u v w x y z made = line_by line word (codes "plan") rest r is x (plan_of rest r made)
    at false false false false false false false false true j p q s t u v w x y z made = line_by line word (codes "commit") rest r is y (commit_of rest r made)
    at false false false false false false false false false true p q s t u v w x y z made = line_by line word (codes "image") rest r is z (image_of rest r made)
    at false false false false false false false false false false p q s t u v w x y z made = cc

line_of : (line : List ℕ) (p : List ℕ × Option (List ℕ)) (r : Request (List ℕ)) → Splits line p → request_of p ≡ Ok r → SpellsRequest line r
line_of line (word, None) r is read = subst (λ l. SpellsRequest l r) (sym is.0) (alone_of word r read)
line_of line (word, Some rest) r is read = with_of line word rest r is.0 read

pub read_is_spelled : (line : List ℕ) (r : Request (List ℕ)) → request_in line ≡ Ok r → SpellsRequest line r
read_is_spelled line r read = line_of line (split_word line) r (splits line) read
