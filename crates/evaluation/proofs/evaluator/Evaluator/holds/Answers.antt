use Rattle.std.proofs.Common.{◌≡◌, ◌-◌, ◌<◌, length, sym, ap, ◌∙◌, subst, arith}
use Rattle.typing.specs.Contents.{content_of}
use Rattle.satisfaction.specs.Satisfaction.{holds_at}
use Rattle.evaluation.specs.Evaluations.{Evaluation}
use Rattle.evaluation.specs.Truths.{truth_at, row_at}
use Rattle.evaluation.proofs.RowLaws.{row_read, state_truth}
use Rattle.evaluation.proofs.evaluator.Evaluator.holds.Goals as goal

pub returns : goal.returns
returns c =
    let s = c.self.inside in
    let x = c.args.x in
    let rows = s.rows.items in
    let is = c.self.view_is in
    let some : 0 < length rows =
    subst (λ (e : Evaluation). 0 < e.next) (sym is) c.requires.evaluated in
    let inside : x < length (content_of s.coalgebra.now).values =
    subst (λ (e : Evaluation). x < length e.content.values) (sym is) c.requires.state in
    let count : c.len.result ≡ length rows = omega (arith, c.len.ensures, s.rows.ok.0) in
    let newest : c.index.result.now ≡ row_at rows (length rows - 1) =
    row_read rows (c.len.result - 1) c.index.result.now (omega (arith, count, some))
    c.index.ensures ∙ ap (λ n. row_at rows (n - 1)) count in
    record {
      truth =
          subst (λ (e : Evaluation). c.truth.result ≡ holds_at e.content e.dag (e.next - 1) x) is
          (c.truth.ensures.there ∙ ap (λ row. truth_at row x) newest
          ∙ state_truth (content_of s.coalgebra.now) s.dag.now s.structures.places
          s.structures.firsts.items s.structures.targets.items s.last_uses.items rows
          c.self.invariant some x inside);
    }
