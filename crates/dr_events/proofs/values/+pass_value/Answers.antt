use Rattle.std.proofs.Common.{◌≡◌, ◌-◌, ◌<◌, [], ◌∷◌, length, Some, None, refl, ap, ap₂, ◌∙◌, arith}
use Rattle.json.specs.Json.{parse_map, after_end_array, read_key, items, members, value}
use Rattle.json.specs.Reads.{token_of}
use Rattle.json.proofs.Grammar.{value_is, value-begin_array, value-begin_object, read_key-shorter}
use Rattle.serde_json.specs.Data.{array, object, no_members, put}
use Rattle.serde_json.specs.Read.{of_json, converted}
use Rattle.dr_events.specs.Passed.{rest}
use Rattle.dr_events.proofs.Conversions.{converted-array, converted-object, rest_some, rest_none, item_passed, item_refused, items_over, member_read, member_refused, key_refused, members_over}
use Rattle.dr_events.proofs.values.+pass_value.Goals as goal

pub pass_value-returns-in_err-token-clause-err : goal.pass_value-returns-in_err-token-clause-err
pass_value-returns-in_err-token-clause-err t c =
    let empty : c.args.reader.now ≡ [] = grind arith in
    let none : converted of_json (value c.args.depth c.args.reader.now) ≡ None = ap (converted of_json) (ap (value c.args.depth) empty ∙ value_is c.args.depth []) in
    grind (arith, none)

pub pass_value-returns-then-depth-eq0-clause-err : goal.pass_value-returns-then-depth-eq0-clause-err
unfolding value
pass_value-returns-then-depth-eq0-clause-err t c =
    let first : c.args.reader.now ≡ token_of c.in_ok-token.token ∷ c.next.new.self = grind arith in
    let none : c.args.depth ≡ 0 = omega arith in
    ap (converted of_json) (ap₂ value none (first ∙ ap (λ k. k ∷ c.next.new.self) c.in-List.ensures))

pub pass_value-returns-then-depth-eq0-2-clause-err : goal.pass_value-returns-then-depth-eq0-2-clause-err
unfolding value
pass_value-returns-then-depth-eq0-2-clause-err t c =
    let first : c.args.reader.now ≡ token_of c.in_ok-token.token ∷ c.next.new.self = grind arith in
    let none : c.args.depth ≡ 0 = omega arith in
    ap (converted of_json) (ap₂ value none (first ∙ ap (λ k. k ∷ c.next.new.self) c.in-Object.ensures))

pub pass_value-returns-in_err-pass_items-in-List-clause-err : goal.pass_value-returns-in_err-pass_items-in-List-clause-err
pass_value-returns-in_err-pass_items-in-List-clause-err t c =
    let first : c.args.reader.now ≡ token_of c.in_ok-token.token ∷ c.next.new.self = grind arith in
    let opened = ap (converted of_json) (ap (value c.args.depth) (first ∙ ap (λ k. k ∷ c.next.new.self) c.in-List.ensures) ∙ value-begin_array c.args.depth c.next.new.self (omega arith)) ∙ converted-array (items (value (c.args.depth - 1)) (length c.next.new.self) c.next.new.self) in
    let none = opened ∙ ap (parse_map array) (rest_none _ c.in_err-pass_items-in-List.ensures.value) in
    grind (arith, none)

pub pass_value-returns-in_err-pass_members-in-Object-clause-err : goal.pass_value-returns-in_err-pass_members-in-Object-clause-err
pass_value-returns-in_err-pass_members-in-Object-clause-err t c =
    let first : c.args.reader.now ≡ token_of c.in_ok-token.token ∷ c.next.new.self = grind arith in
    let opened = ap (converted of_json) (ap (value c.args.depth) (first ∙ ap (λ k. k ∷ c.next.new.self) c.in-Object.ensures) ∙ value-begin_object c.args.depth c.next.new.self (omega arith)) ∙ converted-object (members (value (c.args.depth - 1)) (length c.next.new.self) c.next.new.self) in
    let none = opened ∙ ap (parse_map object) (rest_none _ c.in_err-pass_members-in-Object.ensures.value) in
    grind (arith, none)

pub pass_value-returns-in_ok-pass_items-in-List-clause-value : goal.pass_value-returns-in_ok-pass_items-in-List-clause-value
pass_value-returns-in_ok-pass_items-in-List-clause-value t c =
    let first : c.args.reader.now ≡ token_of c.in_ok-token.token ∷ c.next.new.self = grind arith in
    let opened = ap (converted of_json) (ap (value c.args.depth) (first ∙ ap (λ k. k ∷ c.next.new.self) c.in-List.ensures) ∙ value-begin_array c.args.depth c.next.new.self (omega arith)) ∙ converted-array (items (value (c.args.depth - 1)) (length c.next.new.self) c.next.new.self) in
    let found = rest_some _ _ c.in_ok-pass_items-in-List.ensures.value in
    (array found.0, opened ∙ ap (parse_map array) found.1)

pub pass_value-returns-in_ok-pass_members-in-Object-clause-value : goal.pass_value-returns-in_ok-pass_members-in-Object-clause-value
pass_value-returns-in_ok-pass_members-in-Object-clause-value t c =
    let first : c.args.reader.now ≡ token_of c.in_ok-token.token ∷ c.next.new.self = grind arith in
    let opened = ap (converted of_json) (ap (value c.args.depth) (first ∙ ap (λ k. k ∷ c.next.new.self) c.in-Object.ensures) ∙ value-begin_object c.args.depth c.next.new.self (omega arith)) ∙ converted-object (members (value (c.args.depth - 1)) (length c.next.new.self) c.next.new.self) in
    let found = rest_some _ _ c.in_ok-pass_members-in-Object.ensures.value in
    (object found.0, opened ∙ ap (parse_map object) found.1)

pub pass_items-items-init : goal.pass_items-items-init
pass_items-items-init t c = (length c.args.reader.now, omega arith, refl, omega arith)

pub pass_items-items-preserved : goal.pass_items-items-preserved
pass_items-items-preserved t c =
    let p = value c.args.depth in
    let l = c.items in
    let n = l.invariant.0 in
    let going : (after_end_array l.reader ≡ None) × (c.take_end_array.new.self ≡ l.reader) = grind arith in
    let done = c.in_ok-pass_value.ensures in
    let r = c.pass_value.new.reader in
    let less : length r < length l.reader = rw (← going.1) done.shorter in
    (n - 1, omega (arith, l.invariant.1), l.invariant.2 ∙ item_passed p n l.reader r done.value.0 (omega (arith, l.invariant.1)) going.0 (rw (← going.1) done.value.1), omega (arith, l.invariant.3))

pub pass_items-returns-in_err-pass_value-clause-value : goal.pass_items-returns-in_err-pass_value-clause-value
pass_items-returns-in_err-pass_value-clause-value t c =
    let p = value c.args.depth in
    let l = c.items in
    let n = l.invariant.0 in
    let going : (after_end_array l.reader ≡ None) × (c.take_end_array.new.self ≡ l.reader) = grind arith in
    let none = l.invariant.2 ∙ ap rest (item_refused p n l.reader going.0 (rw (← going.1) c.in_err-pass_value.ensures.err)) in
    grind (arith, none)

pub pass_items-returns-clause-value : goal.pass_items-returns-clause-value
pass_items-returns-clause-value t c =
    let p = value c.args.depth in
    let l = c.items in
    let n = l.invariant.0 in
    l.invariant.2 ∙ ap rest (items_over p n l.reader c.take_end_array.new.self l.invariant.1 (grind arith))

pub pass_members-members-init : goal.pass_members-members-init
pass_members-members-init t c = (length c.args.reader.now, no_members, omega arith, refl, omega arith)

pub pass_members-returns-in_err-next_key-clause-value : goal.pass_members-returns-in_err-next_key-clause-value
pass_members-returns-in_err-next_key-clause-value t c =
    let p = value c.args.depth in
    let l = c.members in
    let none = l.invariant.3 ∙ ap rest (key_refused p l.invariant.1 l.invariant.0 l.reader c.in_err-next_key.ensures.value) in
    grind (arith, none)

pub pass_members-members-preserved : goal.pass_members-members-preserved
pass_members-members-preserved t c =
    let p = value c.args.depth in
    let l = c.members in
    let n = l.invariant.0 in
    let old = l.invariant.1 in
    let k = c.in-Some.field-0.now in
    let s = c.next_key.new.self in
    let named : read_key l.reader ≡ Some (Some k, s) = grind arith in
    let done = c.in_ok-pass_value.ensures in
    let r = c.pass_value.new.reader in
    let less = read_key-shorter l.reader (Some k) s named in
    let lesser = done.shorter in
    (n - 1, put k done.value.0 old, omega (arith, l.invariant.2), l.invariant.3 ∙ ap rest (member_read p old n k l.reader s r done.value.0 (omega (arith, l.invariant.2)) named done.value.1), omega (arith, l.invariant.4))

pub pass_members-returns-in_err-pass_value-clause-value : goal.pass_members-returns-in_err-pass_value-clause-value
pass_members-returns-in_err-pass_value-clause-value t c =
    let p = value c.args.depth in
    let l = c.members in
    let n = l.invariant.0 in
    let k = c.in-Some.field-0.now in
    let s = c.next_key.new.self in
    let named : read_key l.reader ≡ Some (Some k, s) = grind arith in
    let none = l.invariant.3 ∙ ap rest (member_refused p l.invariant.1 n k l.reader s named c.in_err-pass_value.ensures.err) in
    grind (arith, none)

pub pass_members-returns-clause-value : goal.pass_members-returns-clause-value
pass_members-returns-clause-value t c =
    let p = value c.args.depth in
    let l = c.members in
    l.invariant.3 ∙ ap rest (members_over p l.invariant.1 l.invariant.0 l.reader c.next_key.new.self l.invariant.2 (grind arith))
