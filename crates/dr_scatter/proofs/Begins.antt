-- Where the shares of ranges begin.
use Rattle.std.proofs.Common.{◌≡◌, ◌∙◌, sym, ap, ℕ, zero, suc, ◌+◌, ◌*◌, ◌/◌, ◌%◌, ◌<◌, ◌≤◌, arith}
use Rattle.std.proofs.Math.Nat.{div-add-mod', mul-add, mul_assoc, mul-add-div_right, mul-div_cancel_left, div-le_of_le-mul, div-mul-le_self}
use Rattle.std.proofs.lemmas.Nat.{mul-le, le-div}

pub begin-split : (k count workers : ℕ) → 0 < workers → k * (count / workers) + k * (count % workers) / workers ≡ k * count / workers
begin-split k count workers some =
    sym (mul-add-div_right some (k * (count / workers)) (k * (count % workers)))
    ∙ ap (λ n. n / workers) (ap (λ n. n + k * (count % workers)) (mul_assoc k (count / workers) workers) ∙ sym (mul-add k (count / workers * workers) (count % workers)) ∙ ap (λ n. k * n) (div-add-mod' count workers))

pub begin-within : (k count workers : ℕ) → k ≤ workers → k * count / workers ≤ count
begin-within k count workers few = div-le_of_le-mul workers (mul-le k count workers count few (omega arith))

-- they rise
pub begin-rises : (k count workers : ℕ) → 0 < workers → k * count / workers ≤ (k + 1) * count / workers
begin-rises k count workers some =
    le-div (k * count / workers) ((k + 1) * count) workers some (omega (arith, div-mul-le_self (k * count) workers, mul-le k count (k + 1) count (omega arith) (omega arith)))

-- the last one is taken whole
pub begin-ends : (count workers : ℕ) → 0 < workers → workers * count / workers ≡ count
begin-ends count workers some = mul-div_cancel_left count some

pub begin-past : (k from count workers : ℕ) → k ≡ workers → from ≡ k * count / workers → (0 < count → 0 < workers) → count ≤ from
begin-past k from zero workers last is some = omega arith
begin-past k from (suc count) zero last is some = absurd (omega (arith, some (omega arith)))
begin-past k from (suc count) (suc workers) last is some =
    let all : from ≡ suc count = is ∙ ap (λ n. n * suc count / suc workers) last ∙ begin-ends (suc count) (suc workers) (omega arith) in
    omega (arith, all)
