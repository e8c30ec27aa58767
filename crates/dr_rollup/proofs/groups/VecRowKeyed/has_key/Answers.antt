use Rattle.std.proofs.Common.{◌≡◌, ◌∙◌, ◌&&◌, sym, ap, rules, true, false, bytes_eq, FitsSigned, w64, to_z, nat_eq, refl, Some, slice_get, arith}
use mir.Val.{of_z}
use Rattle.std.proofs.lemmas.List.{length-map}
use Rattle.std.proofs.lemmas.Option.{slice_get-get_or}
use Rattle.dr_base.specs.declared.row.Row.{Row}
use Rattle.std.proofs.lemmas.Bool.{eqb-true}
use Rattle.std.proofs.lemmas.Int.{to_z-of_z}
use Rattle.std.proofs.lemmas.Bool.Decides.{Decides-int_eq}
use Rattle.std.specs.Cmp.Lexicographic.{pointwise}
use Rattle.std.specs.Ordering.{int_eq}
use Rattle.dr_base.specs.declared.key.Key.{Key}
use Rattle.dr_rollup.specs.Entries.{same_keys}
use Rattle.dr_rollup.proofs.Keys.{parts-same_keys}
use Rattle.dr_rollup.proofs.Standing.{key-there}
use Rattle.dr_rollup.proofs.groups.VecRowKeyed.has_key.Goals as goal

pub returns-then-key-held : goal.returns-then-key-held
returns-then-key-held c = λ at-key at.
    let k : Key = record { time = c.args.key.now.time; dims = c.args.key.now.dims.now } in
    let row = c.index.result.now in
    let j : Key = row.key in
    let within = c.requires in
    let long = length-map c.args.self.now.items (λ (r : Row). r.key) in
    let there : slice_get c.args.self.now.items c.args.place ≡ Some row = slice_get-get_or c.args.self.now.items c.args.place row (omega (arith, within, long)) ∙ ap Some (sym c.index.ensures) in
    let is : at-key ≡ j = key-there c.args.self.now.items c.args.place at-key row at there in
    let f : FitsSigned w64 k.time = search rules in
    let g : FitsSigned w64 j.time = search rules in
    let same : k.time ≡ j.time = sym (to_z-of_z w64 k.time f) ∙ ap (to_z w64) c.if-key-held.true ∙ to_z-of_z w64 j.time g in
    let alike : int_eq k.time j.time ≡ true = (Decides-int_eq k.time j.time).1 same in
    search rules ∙ sym (ap (λ b. b && pointwise bytes_eq k.dims j.dims) alike) ∙ parts-same_keys k j ∙ ap (same_keys k) (sym is)

pub returns-else-key-held : goal.returns-else-key-held
returns-else-key-held c = λ at-key at.
    let k : Key = record { time = c.args.key.now.time; dims = c.args.key.now.dims.now } in
    let row = c.index.result.now in
    let j : Key = row.key in
    let within = c.requires in
    let long = length-map c.args.self.now.items (λ (r : Row). r.key) in
    let there : slice_get c.args.self.now.items c.args.place ≡ Some row = slice_get-get_or c.args.self.now.items c.args.place row (omega (arith, within, long)) ∙ ap Some (sym c.index.ensures) in
    let is : at-key ≡ j = key-there c.args.self.now.items c.args.place at-key row at there in
    let other : int_eq k.time j.time ≡ false = elim (int_eq k.time j.time) as (λ b. int_eq k.time j.time ≡ b → b ≡ false) [ true ↦ λ same. absurd (c.if-key-held.false (ap (of_z w64) ((Decides-int_eq k.time j.time).0 same))) | false ↦ λ same. refl ] refl in
    let apart : nat_eq (of_z w64 k.time) (of_z w64 j.time) ≡ false = elim (nat_eq (of_z w64 k.time) (of_z w64 j.time)) as (λ b. nat_eq (of_z w64 k.time) (of_z w64 j.time) ≡ b → b ≡ false) [ true ↦ λ same. absurd (c.if-key-held.false (eqb-true (of_z w64 k.time) (of_z w64 j.time) same)) | false ↦ λ same. refl ] refl in
    apart ∙ sym (ap (λ b. b && pointwise bytes_eq k.dims j.dims) other) ∙ parts-same_keys k j ∙ ap (same_keys k) (sym is)
