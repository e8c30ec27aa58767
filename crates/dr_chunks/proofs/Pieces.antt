-- Events lent in pieces.
use Rattle.std.proofs.Common.{◌≡◌, ◌∙◌, sym, ap, Bor, List, [], ◌∷◌, ◌++◌, map, append_assoc, append-nil}
use Rattle.std.specs.List.{flat_map}
use Rattle.dr_base.specs.declared.event.Event.{Event}
use Rattle.dr_chunks.specs.Blocks.{in_blocks}

-- pieces that lend blocks, and one more behind them
pub lent-pieces : (pieces : List (Bor (List Event))) (blocks : List (List Event)) (last : Bor (List Event)) → map (λ p. p.now) pieces ≡ blocks → flat_map (λ p. p.now) (pieces ++ last ∷ []) ≡ in_blocks blocks last.now
lent-pieces pieces blocks last h = lent pieces ∙ ap (λ bs. in_blocks bs last.now) h
  where
    lent : (pieces : List (Bor (List Event))) → flat_map (λ p. p.now) (pieces ++ last ∷ []) ≡ in_blocks (map (λ p. p.now) pieces) last.now
    lent [] = append-nil last.now
    lent (p ∷ ps) = ap (λ es. p.now ++ es) (lent ps) ∙ sym (append_assoc p.now (flat_map (λ block. block) (map (λ p. p.now) ps)) last.now)
