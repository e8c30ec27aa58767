use Rattle.std.proofs.Common.{◌≡◌, map}
use Rattle.std.specs.Map.{lookup}
use Rattle.std.specs.BTreeMap.{get, is_at}
use Rattle.dr_base.specs.declared.key.Key.{Key}
use Rattle.dr_base.specs.Order.{key_cmp}
use Rattle.dr_rollup.proofs.placed.copy_of.Given as goal

abbrev pub invariant-loop-key : goal.invariant-loop-key
invariant-loop-key l = (q : Key) → get key_cmp l.copy q ≡ lookup (is_at (key_cmp q)) (map (λ e. (e.0.now, e.1.now)) l.yielded)
