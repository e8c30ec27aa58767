use Rattle.std.proofs.Common.{◌≡◌, ◌∙◌, ◌&&◌, sym, ap, rules, true, false, bytes_eq, FitsSigned, w64, to_z, nat_eq, refl}
use mir.Val.{of_z}
use Rattle.std.proofs.lemmas.Bool.{eqb-true}
use Rattle.std.proofs.lemmas.Int.{to_z-of_z}
use Rattle.std.proofs.lemmas.Bool.Decides.{Decides-int_eq}
use Rattle.std.specs.Cmp.Lexicographic.{pointwise}
use Rattle.std.specs.Ordering.{int_eq}
use Rattle.dr_base.specs.declared.key.Key.{Key}
use Rattle.dr_rollup.specs.Entries.{same_keys}
use Rattle.dr_rollup.proofs.Keys.{parts-same_keys}
use Rattle.dr_rollup.proofs.Standing.{key-there}
use Rattle.dr_rollup.proofs.flat_rows.FlatRowsKeyed.has_key.Goals as goal

pub returns-then-key-time : goal.returns-then-key-time
returns-then-key-time c = λ at-key at.
    let k : Key = record { time = c.args.key.now.time; dims = c.args.key.now.dims.now } in
    let j : Key = record { time = c.row-time.result.0; dims = c.row-time.result.1.now } in
    let is : at-key ≡ j = key-there c.args.self.now.rows c.args.place at-key _ at c.row-time.ensures in
    let f : FitsSigned w64 k.time = search rules in
    let g : FitsSigned w64 j.time = search rules in
    let same : k.time ≡ j.time = sym (to_z-of_z w64 k.time f) ∙ ap (to_z w64) c.if-key-time.true ∙ to_z-of_z w64 j.time g in
    let alike : int_eq k.time j.time ≡ true = (Decides-int_eq k.time j.time).1 same in
    c.eq.ensures ∙ sym (ap (λ b. b && pointwise bytes_eq k.dims j.dims) alike) ∙ parts-same_keys k j ∙ ap (same_keys k) (sym is)

pub returns-else-key-time : goal.returns-else-key-time
returns-else-key-time c = λ at-key at.
    let k : Key = record { time = c.args.key.now.time; dims = c.args.key.now.dims.now } in
    let j : Key = record { time = c.row-time.result.0; dims = c.row-time.result.1.now } in
    let is : at-key ≡ j = key-there c.args.self.now.rows c.args.place at-key _ at c.row-time.ensures in
    let other : int_eq k.time j.time ≡ false = elim (int_eq k.time j.time) as (λ b. int_eq k.time j.time ≡ b → b ≡ false) [ true ↦ λ same. absurd (c.if-key-time.false (ap (of_z w64) ((Decides-int_eq k.time j.time).0 same))) | false ↦ λ same. refl ] refl in
    let apart : nat_eq (of_z w64 k.time) (of_z w64 j.time) ≡ false = elim (nat_eq (of_z w64 k.time) (of_z w64 j.time)) as (λ b. nat_eq (of_z w64 k.time) (of_z w64 j.time) ≡ b → b ≡ false) [ true ↦ λ same. absurd (c.if-key-time.false (eqb-true (of_z w64 k.time) (of_z w64 j.time) same)) | false ↦ λ same. refl ] refl in
    apart ∙ sym (ap (λ b. b && pointwise bytes_eq k.dims j.dims) other) ∙ parts-same_keys k j ∙ ap (same_keys k) (sym is)
