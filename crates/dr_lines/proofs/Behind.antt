-- Calls behind ones that changed nothing.
use Rattle.std.proofs.Common.{ℕ, List, ◌++◌, None, Some, Result, Ok, Err, sym, ap, ◌∙◌, take}
use Rattle.std.specs.Prelude.{Option}
use Rattle.std.specs.Io.KnownBytes.{ReadConsumes, WriteAppends, Keeps, Appends, Consumes}
use Rattle.std.proofs.KnownBytes.{Keeps-trans}

pub consumes_behind : (a b c : Option (List ℕ)) (bs : List ℕ) → Keeps a b → Consumes b c bs → Consumes a c bs
consumes_behind None b c bs k p = tt
consumes_behind (Some x) None c bs k p = absurd k
consumes_behind (Some x) (Some y) None bs k p = absurd p
consumes_behind (Some x) (Some y) (Some z) bs k p = sym k ∙ p

pub appends_behind : (a b c : Option (List ℕ)) (bs : List ℕ) → Keeps a b → Appends b c bs → Appends a c bs
appends_behind None b c bs k p = tt
appends_behind (Some x) None c bs k p = absurd k
appends_behind (Some x) (Some y) None bs k p = absurd p
appends_behind (Some x) (Some y) (Some z) bs k p = p ∙ ap (λ l. l ++ bs) k

pub keeps_behind : (a b c : Option (List ℕ)) → Keeps a b → Keeps b c → Keeps a c
keeps_behind a b c k p = Keeps-trans a b c k p

pub reads_behind : {E : Type 0} (a b c : Option (List ℕ)) (r : Result ℕ E) (buf : List ℕ) → Keeps a b → ReadConsumes b c r buf → ReadConsumes a c r buf
reads_behind a b c (Ok n) buf k p = (consumes_behind a b c (take n buf) k p.0, p.1)
reads_behind a b c (Err e) buf k p = Keeps-trans a b c k p

pub writes_behind : {E : Type 0} (a b c : Option (List ℕ)) (r : Result ℕ E) (buf : List ℕ) → Keeps a b → WriteAppends b c r buf → WriteAppends a c r buf
writes_behind a b c (Ok n) buf k p = appends_behind a b c (take n buf) k p
writes_behind a b c (Err e) buf k p = Keeps-trans a b c k p
