use denote.Text.{Utf8}
use denote.Shadow.{shadow}
use Rattle.reading_rows.proofs.value_text.+push_value.Given as goal

-- what stands between two values is text
abbrev pub invariant-push_value-loop-value : goal.invariant-push_value-loop-value
invariant-push_value-loop-value l = shadow (Utf8 l.between)

abbrev pub invariant-push_values-loop-value : goal.invariant-push_values-loop-value
invariant-push_values-loop-value l = shadow (Utf8 l.between)
