-- What holds of each item of a list.
use Rattle.std.proofs.Common.{ℕ, ◌<◌, List, [], ◌∷◌, ◌++◌, length, get_or, zero, suc, arith}
use Rattle.std.specs.List.{AllByRecursion}

pub All-push : {A : Type 0} (P : A → Type 0) (xs : List A) (x : A) → AllByRecursion P xs → P x → AllByRecursion P (xs ++ x ∷ [])
All-push P [] x h p = (p, tt)
All-push P (y ∷ ys) x h p = (h.0, All-push P ys x h.1 p)

-- the same, by a name that a function can cite
pub all_push : {A : Type 0} (P : A → Type 0) (xs : List A) (x : A) → AllByRecursion P xs → P x → AllByRecursion P (xs ++ x ∷ [])
all_push P xs x all here = All-push P xs x all here

pub All-left : {A : Type 0} (P : A → Type 0) (a b : List A) → AllByRecursion P (a ++ b) → AllByRecursion P a
All-left P [] b h = tt
All-left P (x ∷ a) b h = (h.0, All-left P a b h.1)

pub All-right : {A : Type 0} (P : A → Type 0) (a b : List A) → AllByRecursion P (a ++ b) → AllByRecursion P b
All-right P [] b h = h
All-right P (x ∷ a) b h = All-right P a b h.1

pub All-append : {A : Type 0} (P : A → Type 0) (a b : List A) → AllByRecursion P a → AllByRecursion P b → AllByRecursion P (a ++ b)
All-append P [] b p q = q
All-append P (x ∷ a) b p q = (p.0, All-append P a b p.1 q)

pub All-same : {A : Type 0} (P Q : A → Type 0) → ((x : A) → P x → Q x) → (xs : List A) → AllByRecursion P xs → AllByRecursion Q xs
All-same P Q f [] h = tt
All-same P Q f (x ∷ xs) h = (f x h.0, All-same P Q f xs h.1)

pub All-at : {A : Type 0} (P : A → Type 0) (xs : List A) (i : ℕ) (d : A) → i < length xs → AllByRecursion P xs → P (get_or xs i d)
All-at P [] i d lt h = absurd (omega arith)
All-at P (x ∷ xs) zero d lt h = h.0
All-at P (x ∷ xs) (suc i) d lt h = All-at P xs i d (omega arith) h.1
