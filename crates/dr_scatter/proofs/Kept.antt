-- What workers found, share by share.
use Rattle.std.proofs.Common.{◌≡◌, ◌∙◌, sym, ap, subst, ℕ, suc, ◌<◌, List, [], ◌∷◌, ◌++◌, map, length, get_or, Result, Ok, IfOk, arith}
use Rattle.std.specs.List.{AllByRecursion}
use Rattle.std.proofs.lemmas.List.{map-append, append-nil, append_assoc}
use Rattle.dr_base.specs.declared.row.Row.{Row}
use Rattle.dr_agg.specs.Rollup.{all_rows}
use Rattle.dr_ask.specs.declared.query.Query.{Query}
use Rattle.dr_workers.specs.Shared.{IsFoldOf}
use Rattle.dr_scatter.specs.Folds.{AreFoldsOf, AreFoldsOver, AreFoldsWhereOk}
use Rattle.dr_workers.proofs.Rows.{all_rows-push}

-- ---- while workers are started

pub one-more-share : {H : Type 0} (rows : H → List Row) (hs : List H) (h : H) → all_rows (map rows (hs ++ h ∷ [])) ≡ all_rows (map rows hs) ++ rows h
one-more-share rows hs h = ap all_rows (map-append rows hs (h ∷ [])) ∙ all_rows-push (map rows hs) (rows h)

pub all-push : {H : Type 0} (P : H → Type 0) (hs : List H) (h : H) → AllByRecursion P hs → P h → AllByRecursion P (hs ++ h ∷ [])
all-push P [] h all one = (one, tt)
all-push P (x ∷ hs) h all one = (all.0, all-push P hs h all.1 one)

-- ---- once they are joined

pub kept-each : {H E : Type 0} (asks : H → Query) (rows : H → List Row) (q : Query) (hs : List H) (rs : List (Result (List Row) E)) → length rs ≡ length hs → AllByRecursion (λ h. asks h ≡ q) hs
    → ((i : ℕ) (d : Result (List Row) E) → i < length hs → (h : H) × (h ≡ get_or hs i h) × IfOk (get_or rs i d) (IsFoldOf (asks h) (rows h))) → AreFoldsWhereOk q (map rows hs) rs
kept-each asks rows q [] [] n all each = tt
kept-each asks rows q [] (r ∷ rs) n all each = absurd (omega (arith, n))
kept-each asks rows q (h ∷ hs) [] n all each = absurd (omega (arith, n))
kept-each asks rows q (h ∷ hs) (r ∷ rs) n all each =
    let p = each 0 r (omega arith) in
    let kept : IfOk r (IsFoldOf (asks h) (rows h)) = subst (λ k. IfOk r (IsFoldOf (asks k) (rows k))) p.1 p.2 in
    let fewer : length rs ≡ length hs = omega (arith, n) in (
      subst (λ x. IfOk r (IsFoldOf x (rows h))) all.0 kept,
      kept-each asks rows q hs rs fewer all.1 (λ i d lt. each (suc i) d (omega (arith, lt))),
    )

-- ---- taken one by one

-- some were taken, and the others are still to be
pub record Taking {E : Type 0} (q : Query) (rows : List Row) (parts : List (List Row)) (left : List (Result (List Row) E)) : Type 0 where
  pub before : List (List Row)
  pub behind : List (List Row)
  pub all : all_rows before ++ all_rows behind ≡ rows
  pub folds : AreFoldsOf q before parts
  pub others : AreFoldsWhereOk q behind left

pub none-taken : {E : Type 0} (q : Query) (rows : List Row) (lists : List (List Row)) (parts : List (List Row)) (left : List (Result (List Row) E)) → parts ≡ [] → all_rows lists ≡ rows → AreFoldsWhereOk q lists left → Taking q rows parts left
none-taken q rows lists parts left none all others = record { before = []; behind = lists; all = all; folds = subst (AreFoldsOf q []) (sym none) tt; others = others }

folds-push : (q : Query) (lists : List (List Row)) (rows : List Row) (parts : List (List Row)) (groups : List Row) → AreFoldsOf q lists parts → IsFoldOf q rows groups → AreFoldsOf q (lists ++ rows ∷ []) (parts ++ groups ∷ [])
folds-push q [] rows [] groups folds one = (one, tt)
folds-push q [] rows (p ∷ parts) groups folds one = absurd folds
folds-push q (l ∷ lists) rows [] groups folds one = absurd folds
folds-push q (l ∷ lists) rows (p ∷ parts) groups folds one = (folds.0, folds-push q lists rows parts groups folds.1 one)

pub one-taken : {E : Type 0} (q : Query) (rows : List Row) (parts after : List (List Row)) (r : Result (List Row) E) (groups : List Row) (left : List (Result (List Row) E))
    → Taking q rows parts (r ∷ left) → r ≡ Ok groups → after ≡ parts ++ groups ∷ [] → Taking q rows after left
one-taken q rows parts after r groups left so_far ok is = at so_far.before so_far.behind so_far.all so_far.folds so_far.others
  where
    at : (before behind : List (List Row)) → all_rows before ++ all_rows behind ≡ rows → AreFoldsOf q before parts → AreFoldsWhereOk q behind (r ∷ left) → Taking q rows after left
    at before [] all folds others = absurd others
    at before (x ∷ behind) all folds others = record {
      before = before ++ x ∷ [];
      behind = behind;
      all = ap (λ l. l ++ all_rows behind) (all_rows-push before x) ∙ append_assoc (all_rows before) x (all_rows behind) ∙ all;
      folds = subst (AreFoldsOf q (before ++ x ∷ [])) (sym is) (folds-push q before x parts groups folds (subst (λ y. IfOk y (IsFoldOf q x)) ok others.0));
      others = others.1;
    }

pub all-taken : {E : Type 0} (q : Query) (rows : List Row) (parts : List (List Row)) (left : List (Result (List Row) E)) → left ≡ [] → Taking q rows parts left → AreFoldsOver q rows parts
all-taken {E = E} q rows parts left none so_far = at so_far.behind so_far.all (subst (AreFoldsWhereOk q so_far.behind) none so_far.others)
  where
    at : (behind : List (List Row)) → all_rows so_far.before ++ all_rows behind ≡ rows → AreFoldsWhereOk {E = E} q behind [] → AreFoldsOver q rows parts
    at [] all others = (so_far.before, sym (append-nil (all_rows so_far.before)) ∙ all, so_far.folds)
    at (x ∷ behind) all others = absurd others
