use Rattle.std.proofs.Common.{◌≡◌, map, drop}
use Rattle.std.specs.List.{list_any}
use Rattle.command_line.specs.Requests.{is_empty}
use Rattle.command_line.proofs.request.any_is_empty.Given as goal

abbrev pub invariant-loop-word : goal.invariant-loop-word
invariant-loop-word l =
    list_any is_empty (map (λ word. word.now) l.words)
    ≡ list_any is_empty (map (λ word. word.now) (drop l.word-index l.words))
