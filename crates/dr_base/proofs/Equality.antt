-- What `==` says of keys, rows and events: that they are the same.
use Rattle.std.proofs.Common.{◌≡◌, Bool, true, false, ◌&&◌, ap, refl, ℤ, ℕ, List}
use Rattle.std.specs.Prelude.{bytes_eq}
use Rattle.std.specs.Bool.{Decides}
use Rattle.std.specs.Ordering.{int_eq}
use Rattle.std.specs.Cmp.{unsigned_Decides}
use Rattle.std.specs.Cmp.Lexicographic.{pointwise}
use Rattle.std.proofs.lemmas.Bool.Decides.{Decides-int_eq}
use Rattle.std.proofs.lemmas.Slice.Eq.{bytes_eq-Decides, slice_eq-Decides}
use Rattle.dr_base.specs.declared.key.Key.{Key}
use Rattle.dr_base.specs.declared.row.Row.{Row}
use Rattle.dr_base.specs.declared.event.Event.{Event}
use Rattle.std.specs.Prelude.{nat_eq}

pub both : {P Q R : Type 0} (a b : Bool) → Decides a P → Decides b Q → (P → Q → R) → (R → P × Q) → Decides (a && b) R
both true b p q make split = (λ h. make (p.0 refl) (q.0 h), λ r. q.1 (split r).1)
both false b p q make split = (λ h. cc, λ r. p.1 (split r).0)

pub texts_decide : (a b : List (List ℕ)) → Decides (pointwise bytes_eq a b) (a ≡ b)
texts_decide a b = slice_eq-Decides bytes_eq-Decides a b (pointwise bytes_eq a b) refl

pub numbers_decide : (a b : List ℤ) → Decides (pointwise int_eq a b) (a ≡ b)
numbers_decide a b = slice_eq-Decides Decides-int_eq a b (pointwise int_eq a b) refl

pub keys_decide : (a b : Key) → Decides (int_eq a.time b.time && pointwise bytes_eq a.dims b.dims) (a ≡ b)
keys_decide a b =
    both (int_eq a.time b.time) (pointwise bytes_eq a.dims b.dims) (Decides-int_eq a.time b.time) (texts_decide a.dims b.dims)
    (λ t d. λ i. record { time = t i; dims = d i }) (λ h. (ap (λ (k : Key). k.time) h, ap (λ (k : Key). k.dims) h))

pub rows_decide : (a b : Row) → Decides ((int_eq a.key.time b.key.time && pointwise bytes_eq a.key.dims b.key.dims) && pointwise int_eq a.metrics b.metrics) (a ≡ b)
rows_decide a b =
    both (int_eq a.key.time b.key.time && pointwise bytes_eq a.key.dims b.key.dims) (pointwise int_eq a.metrics b.metrics) (keys_decide a.key b.key) (numbers_decide a.metrics b.metrics)
    (λ k m. λ i. record { key = k i; metrics = m i }) (λ h. (ap (λ (r : Row). r.key) h, ap (λ (r : Row). r.metrics) h))

pub events_decide : (a b : Event)
    → Decides (nat_eq a.seat b.seat && (int_eq a.time b.time && (pointwise bytes_eq a.dims b.dims && pointwise int_eq a.inputs b.inputs))) (a ≡ b)
events_decide a b =
    both (nat_eq a.seat b.seat) (int_eq a.time b.time && (pointwise bytes_eq a.dims b.dims && pointwise int_eq a.inputs b.inputs)) (unsigned_Decides a.seat b.seat)
    (both (int_eq a.time b.time) (pointwise bytes_eq a.dims b.dims && pointwise int_eq a.inputs b.inputs) (Decides-int_eq a.time b.time)
    (both (pointwise bytes_eq a.dims b.dims) (pointwise int_eq a.inputs b.inputs) (texts_decide a.dims b.dims) (numbers_decide a.inputs b.inputs) (λ d m. (d, m)) (λ h. h))
    (λ t h. (t, h)) (λ h. h))
    (λ s h. λ i. record { seat = s i; time = h.0 i; dims = h.1.0 i; inputs = h.1.1 i })
    (λ h. (ap (λ (e : Event). e.seat) h, (ap (λ (e : Event). e.time) h, (ap (λ (e : Event). e.dims) h, ap (λ (e : Event). e.inputs) h))))
