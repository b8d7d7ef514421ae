use Rattle.std.proofs.Common.{◌∙◌, ℕ, Bool, List, length, map, ap, sym, subst}
use Rattle.std.specs.Prelude.{slice_index}
use Rattle.formula_builder.specs.Keeping.{AreClosed, AreKept}
use Rattle.formula_builder.proofs.Cutting.{all_kept}
use Rattle.formula_builder.proofs.cited.only_cited.Goals as goal

pub kept-requires-clause-closed : goal.kept-requires-clause-closed
kept-requires-clause-closed c =
    subst (λ (bs : List Bool). AreClosed c.args.dag.now bs 0) (sym c.as_slice.ensures.value)
    c.in_ok-marks.ensures.closed

pub returns : goal.returns
returns c =
    all_kept c.args.dag.now c.args.wanted.now c.in_ok-marks.marks.items c.in_ok-small.small
    c.in_ok-small.numbers.items c.in_ok-new.new.items c.is_dag.ensures.ordered c.requires
    c.in_ok-marks.ensures
    (subst (λ (bs : List Bool). AreKept c.args.dag.now bs c.in_ok-small.small
    c.in_ok-small.numbers.items (length c.args.dag.now)) c.as_slice.ensures.value
    c.in_ok-small.ensures)
    (c.in_ok-new.ensures
    ∙ ap (λ (ns : List ℕ). map (slice_index ns) c.args.wanted.now) c.as_slice-2.ensures.value)
