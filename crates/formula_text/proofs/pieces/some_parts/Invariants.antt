use Rattle.std.proofs.Common.{◌≡◌, ◌++◌, drop, map}
use Rattle.std.specs.Prelude.{filter}
use Rattle.formula_text.specs.Answers.{is_some_part}
use Rattle.formula_text.proofs.pieces.some_parts.Given as goal

-- the parts so far stand before those of the pieces to come
abbrev pub invariant-loop-piece : goal.invariant-loop-piece
invariant-loop-piece l =
    filter is_some_part (map (λ piece. piece.now) l.all)
    ≡ map (λ piece. piece.now) l.found.items
    ++ filter is_some_part (map (λ piece. piece.now) (drop l.piece-index l.all))
