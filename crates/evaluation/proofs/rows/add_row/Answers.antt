use Rattle.std.proofs.Common.{◌≡◌, ◌+◌, ℕ, Bool, List, [], ◌∷◌, ◌++◌, length, Some, slice_get, sym, ap, ◌∙◌, subst, arith}
use Rattle.std.proofs.lemmas.List.{take_at}
use Rattle.typing.specs.Contents.{content_of}
use Rattle.typing.specs.Layers.{Place}
use Rattle.structures.specs.Structures.{sources_from}
use Rattle.evaluation.specs.Truths.{truth_at}
use Rattle.evaluation.specs.Uses.{KeepsRows}
use Rattle.evaluation.specs.Rows.{trits_of, truth_by, IsEvaluating}
use Rattle.evaluation.proofs.RowLaws.{evaluating_step}
use Rattle.evaluation.proofs.rows.add_row.Goals as goal

pub returns : goal.returns
returns c =
    let s = c.args.structures.now in
    let t = c.args.c.now.term in
    let d = c.args.c.now.denominator in
    let dag = c.args.dag.now in
    let last_uses = c.args.last_uses.now in
    let f = c.formula-f.result.now in
    let rows = c.args.rows.now.items in
    let row = c.in_ok-row.row in
    let dropped = c.drop_unused.new.rows in
    let count : c.len-k.result ≡ length rows =
    omega (arith, c.len-k.ensures, c.args.rows.now.ok.0) in
    let there : slice_get dag (length rows) ≡ Some f =
    subst (λ n. slice_get dag n ≡ Some f) count c.formula-f.ensures.there in
    let made = subst (λ (l : List (List Bool)). (x : ℕ) (p : Place) →
    slice_get s.places x ≡ Some p → truth_at row x
    ≡ truth_by t d (sources_from t 0 s.places) l (trits_of l s.targets.items f) f x p)
    c.as_slice.ensures.value c.in_ok-row.ensures in
    let pushed : c.as_mut_slice.result.now ≡ rows ++ row ∷ [] =
    c.as_mut_slice.ensures.value ∙ c.in_ok-push.ensures.items in
    let keeps : KeepsRows last_uses (length rows) (rows ++ row ∷ []) dropped =
    subst (λ l. KeepsRows last_uses (length rows) l dropped) pushed
    (subst (λ n. KeepsRows last_uses n c.as_mut_slice.result.now dropped) count
    c.drop_unused.ensures.kept) in
    let step = evaluating_step (content_of c.args.c.now) dag s.places s.firsts.items
    s.targets.items last_uses rows dropped row f c.requires.evaluating c.requires.left there made
    keeps in
    let back = take_at dropped _ c.push.new.self.len
    (omega (
      arith,
      c.push.new.self.ok.0,
      c.drop_unused.auto.rows,
      ap length c.as_mut_slice.ensures.value,
    )) in
    record {
      added =
          subst (λ (l : List (List Bool)). (length l ≡ length rows + 1)
          × IsEvaluating (content_of c.args.c.now) dag s.places s.firsts.items s.targets.items
          last_uses l) (sym back) step;
    }
