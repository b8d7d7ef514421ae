use Rattle.std.proofs.Common.{◌≡◌, drop, map}
use Rattle.formula_text.specs.Reading.{block_seen}
use Rattle.answer_checker.specs.BadLines.{lesser}
use Rattle.answer_checker.specs.LineSteps.{least_of_blocks}
use Rattle.answer_checker.proofs.bad_lines.least_stranger.Given as goal

-- what is told so far, with what is left
abbrev pub invariant-loop-block : goal.invariant-loop-block
invariant-loop-block l =
    lesser l.least (least_of_blocks l.names (map block_seen (drop l.block-index l.blocks)))
    ≡ least_of_blocks l.names (map block_seen l.blocks)
