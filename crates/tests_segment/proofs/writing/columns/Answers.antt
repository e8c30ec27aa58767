use Rattle.std.proofs.Common.{◌≡◌, ◌∙◌, sym, refl, ap, subst, ℕ, zero, suc, pos, true, ◌<◌, List, [], ◌∷◌, ◌++◌, map, length, get_or, arith, rules, All, Contains, Bor, IsUtf8}
use Rattle.std.proofs.lemmas.Str.{IsUtf8-from_ascii}
use Rattle.dr_image.specs.Table.{Column, Table, no_column}
use Rattle.dr_image.specs.Sealed.{each_next}
use Rattle.dr_segment.specs.declared.dimension.Dimension.{Dimension}
use Rattle.dr_segment.specs.Tables.{column_with, column_seen, IsDimensionOf, StandForRows}
use Rattle.tests_segment.proofs.writing.columns.Goals as goal

one_text : (text : List ℕ) → IsUtf8 text → All IsUtf8 (text ∷ [])
one_text text utf8 zero d lt = utf8
one_text text utf8 (suc k) d lt = absurd (omega arith)

one_number : All (λ v. v < 1) (0 ∷ [])
one_number zero d lt = omega arith
one_number (suc k) d lt = absurd (omega arith)

one_row : (v : ℕ) → v < 1 → Contains (0 ∷ []) v
one_row zero lt = (0, omega arith, refl)
one_row (suc v) lt = absurd (omega arith)

one_value : (text : List ℕ) → IsUtf8 text → IsDimensionOf 1 (column_with (text ∷ []) (0 ∷ []))
unfolding each_next
one_value text utf8 = record { long = refl; texts = one_text text utf8; rises = refl; known = one_number; used = one_row }

only : (n : ℕ) (c : Column) (columns : List Column) → columns ≡ c ∷ [] → IsDimensionOf n c → (d : ℕ) → d < length columns → IsDimensionOf n (get_or columns d no_column)
only n c columns is one zero lt = subst (λ (cs : List Column). IsDimensionOf n (get_or cs 0 no_column)) (sym is) one
only n c columns is one (suc d) lt = let long = ap length is in absurd (omega arith)

stand : (t : Table) (text : List ℕ) → length t.times ≡ 1 → t.metrics ≡ [] → t.dims ≡ column_with (text ∷ []) (0 ∷ []) ∷ [] → IsUtf8 text → StandForRows t
stand t text one none is utf8 = record {
  metrics = λ m lt. let long = ap length none in absurd (omega arith);
  dims = only (length t.times) (column_with (text ∷ []) (0 ∷ [])) t.dims is (subst (λ n. IsDimensionOf n (column_with (text ∷ []) (0 ∷ []))) (sym one) (one_value text utf8));
}

dims_are : (none all : List Dimension) (d : Dimension) (text : Bor (List ℕ)) → all ≡ none ++ d ∷ [] → none ≡ [] → d.dictionary.items ≡ text ∷ [] → d.numbers.items ≡ 0 ∷ [] → map column_seen all ≡ column_with (text.now ∷ []) (0 ∷ []) ∷ []
dims_are none all d text is empty words numbers = ap (map column_seen) (is ∙ ap (λ (k : List Dimension). k ++ d ∷ []) empty) ∙ (λ i. column_with (map (λ t. t.now) (words i)) (numbers i) ∷ [])

letter : IsUtf8 (65 ∷ [])
letter = IsUtf8-from_ascii (65 ∷ []) (search rules)

pub returns : goal.returns
returns c =
    let dims = dims_are _ _ _ _ c.in_ok-push.ensures.items c.new-dims.ensures.items c.in_ok-vec.ensures.items c.in_ok-vec-2.ensures.items in
    let table : Table = record { rollup = true; chunk = pos 1704067200000; from = 0; to = 1; times = c.in_ok-vec-3.field-0.items; metrics = map (λ m. m.items) c.new.result.items; dims = map column_seen c.push.new.self.items } in
    stand table (65 ∷ []) (ap length c.in_ok-vec-3.ensures.items) (ap (map (λ m. m.items)) c.new.ensures.items) dims letter
