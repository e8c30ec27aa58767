-- Tokens and texts that are added piece by piece.
use Rattle.std.proofs.Common.{◌≡◌, ◌∙◌, ap, List, [], ◌∷◌, ◌++◌, append_assoc}
use Rattle.json.specs.Token.{Token, end_array, end_object}

pub back-tokens : (t0 t1 t2 t3 t4 id : List Token) (k : Token) → t1 ≡ t0 ++ end_array ∷ [] → t2 ≡ t1 ++ k ∷ [] → t3 ≡ t2 ++ id → t4 ≡ t3 ++ end_object ∷ []
    → t4 ≡ t0 ++ end_array ∷ k ∷ (id ++ end_object ∷ [])
back-tokens t0 t1 t2 t3 t4 id k e1 e2 e3 e4 =
    e4 ∙ ap (λ t. t ++ end_object ∷ []) (e3 ∙ ap (λ t. t ++ id) (e2 ∙ ap (λ t. t ++ k ∷ []) e1)) ∙ simp append_assoc

-- two pieces
pub two-pieces : {A : Type 0} (t0 t1 t2 a b : List A) → t1 ≡ t0 ++ a → t2 ≡ t1 ++ b → t2 ≡ t0 ++ (a ++ b)
two-pieces t0 t1 t2 a b e1 e2 = e2 ∙ ap (λ t. t ++ b) e1 ∙ append_assoc t0 a b

-- and three
pub three-pieces : {A : Type 0} (t0 t1 t2 t3 a b c : List A) → t1 ≡ t0 ++ a → t2 ≡ t1 ++ b → t3 ≡ t2 ++ c → t3 ≡ t0 ++ (a ++ (b ++ c))
three-pieces t0 t1 t2 t3 a b c e1 e2 e3 = two-pieces t1 t2 t3 b c e2 e3 ∙ ap (λ t. t ++ (b ++ c)) e1 ∙ append_assoc t0 a (b ++ c)
