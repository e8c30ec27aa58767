-- Names that are put among others stay where they are.
use Rattle.std.proofs.Common.{◌≡◌, ◌∙◌, sym, refl, ap, subst, ℕ, zero, suc, ◌+◌, ◌≤◌, List, [], ◌∷◌, ◌++◌, append-nil, length, take, Option, Some, None, arith}
use Rattle.std.proofs.lemmas.List.{length-append, take_all, take-append-le}
use Rattle.std.specs.Prelude.{slice_get}
use Rattle.std.specs.List.{AllZip}
use Rattle.dr_schema.specs.declared.metric.Metric.{Metric}
use Rattle.dr_schema.specs.declared.schema.Schema.{Schema}
use Rattle.dr_events.specs.declared.input.Input.{Input}
use Rattle.dr_events.specs.declared.places.Places.{Places}
use Rattle.dr_events.specs.Scalars.{AreNamed, IsPlaceOf, AreRead, AreFields}

abbrev pub More : List (List ℕ) → List (List ℕ) → Type 0
More old new = (more : List (List ℕ)) × (new ≡ old ++ more)

append_more : (a b c : List (List ℕ)) → (a ++ b) ++ c ≡ a ++ (b ++ c)
append_more [] b c = refl
append_more (x ∷ a) b c = ap (λ l. x ∷ l) (append_more a b c)

pub more-none : (names : List (List ℕ)) → More names names
more-none names = ([], sym (append-nil names))

pub more-then : (a b c : List (List ℕ)) → More a b → More b c → More a c
more-then a b c first second = (first.0 ++ second.0, second.1 ∙ ap (λ l. l ++ second.0) first.1 ∙ append_more a first.0 second.0)

get_more : (names more : List (List ℕ)) (place : ℕ) (name : List ℕ) → slice_get names place ≡ Some name → slice_get (names ++ more) place ≡ Some name
get_more [] more place name e = cc
get_more (n ∷ names) more zero name e = e
get_more (n ∷ names) more (suc i) name e = get_more names more i name e

pub get-more : (old new : List (List ℕ)) (place : ℕ) (name : List ℕ) → More old new → slice_get old place ≡ Some name → slice_get new place ≡ Some name
get-more old new place name m e = subst (λ l. slice_get l place ≡ Some name) (sym m.1) (get_more old m.0 place name e)

pub zip_implied : {A B : Type 0} (R S : A → B → Type 0) → ((a : A) (b : B) → R a b → S a b) → (xs : List A) (ys : List B) → AllZip R xs ys → AllZip S xs ys
zip_implied R S f [] [] all = tt
zip_implied R S f [] (y ∷ ys) all = absurd all
zip_implied R S f (x ∷ xs) [] all = absurd all
zip_implied R S f (x ∷ xs) (y ∷ ys) all = (f x y all.0, zip_implied R S f xs ys all.1)

pub named-more : (old new columns : List (List ℕ)) (places : List ℕ) → More old new → AreNamed old columns places → AreNamed new columns places
named-more old new columns places m = zip_implied (λ column place. slice_get old place ≡ Some column) (λ column place. slice_get new place ≡ Some column) (λ column place e. get-more old new place column m e) columns places

place-more : (old new : List (List ℕ)) (field : Option (List ℕ)) (place : Option ℕ) → More old new → IsPlaceOf old field place → IsPlaceOf new field place
place-more old new None None m e = tt
place-more old new None (Some place) m e = absurd e
place-more old new (Some field) None m e = absurd e
place-more old new (Some field) (Some place) m e = get-more old new place field m e

pub read-more : (old new : List (List ℕ)) (metrics : List Metric) (inputs : List Input) → More old new → AreRead old metrics inputs → AreRead new metrics inputs
read-more old new metrics inputs m =
    zip_implied (λ (metric : Metric) (input : Input). (input.kind ≡ metric.kind) × IsPlaceOf old metric.field input.field) (λ (metric : Metric) (input : Input). (input.kind ≡ metric.kind) × IsPlaceOf new metric.field input.field)
    (λ metric input h. (h.0, place-more old new metric.field input.field m h.1)) metrics inputs

-- the fields that columns read are among the first names, and stay there
pub fields-kept : (s : Schema) (n : ℕ) (names new : List (List ℕ)) (places : Places) → More names new → AreFields s (take n names) places × (n ≤ length names) → AreFields s (take n new) places × (n ≤ length new)
fields-kept s n names new places m h =
    let same : take n new ≡ take n names = ap (take n) m.1 ∙ take-append-le n names m.0 h.1 in
    let longer : length new ≡ length names + length m.0 = ap length m.1 ∙ length-append names m.0 in
    (subst (λ l. AreFields s l places) (sym same) h.0, omega (arith, longer, h.1))

pub fields-all : (s : Schema) (n : ℕ) (names : List (List ℕ)) (places : Places) → n ≡ length names → AreFields s names places → AreFields s (take n names) places × (n ≤ length names)
fields-all s n names places all fields = (subst (λ l. AreFields s l places) (sym (take_all n names (omega (arith, all)))) fields, omega (arith, all))
