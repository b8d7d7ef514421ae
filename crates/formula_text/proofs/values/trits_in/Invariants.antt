use Rattle.std.proofs.Common.{◌≡◌, ◌++◌, drop, map}
use Rattle.std.specs.Prelude.{option_map}
use Rattle.formula_text.specs.Values.{trits_in}
use Rattle.formula_text.proofs.values.trits_in.Given as goal

-- the trits so far stand before those of the pieces to come
abbrev pub invariant-loop-piece : goal.invariant-loop-piece
invariant-loop-piece l =
    trits_in (map (λ piece. piece.now) l.found)
    ≡ option_map (λ ts. l.trits.items ++ ts)
    (trits_in (map (λ piece. piece.now) (drop l.piece-index l.found)))
