use Rattle.std.proofs.Common.{◌≡◌, ◌+◌, ◌-◌, ◌<◌, [], ◌∷◌, ℕ, Bool, List, length, length-append, sym, ap, ◌∙◌, subst, arith}
use Rattle.typing.specs.Contents.{content_of}
use Rattle.satisfaction.specs.Satisfaction.{holds_at}
use Rattle.evaluation.specs.Truths.{truth_at, truth_in}
use Rattle.evaluation.proofs.RowLaws.{table_step}
use Rattle.evaluation.proofs.truths.all_rows.Goals as goal

pub loop-k-preserved : goal.loop-k-preserved
loop-k-preserved c =
    let k = c.loop-k._k in
    let content = content_of c.args.c.now in
    let dag = c.args.dag.now in
    let inv = c.loop-k.invariant in
    let rows = c.loop-k.rows.items in
    let row = c.in_ok-newest_row.field-0 in
    let is = c.in_ok-push.ensures.items in
    let same_content = c.in_ok-advance.ensures.content ∙ inv.content in
    let same_dag = c.in_ok-advance.ensures.dag ∙ inv.dag in
    let next : c.advance.new.self.next ≡ k + 1 =
    c.in_ok-advance.ensures.next ∙ ap (λ n. n + 1) inv.next in
    let number : c.advance.new.self.next - 1 ≡ k = omega (arith, next) in
    let newest : (x : ℕ) → x < length content.values → truth_at row x ≡ holds_at content dag k x =
    λ x h. c.in_ok-newest_row.ensures x
    (omega (arith, h, c.len-states.ensures, c.args.c.now.one_each))
    ∙ (λ i. holds_at (same_content i) (same_dag i) (number i) x) in
    record {
      content = same_content;
      dag = same_dag;
      next = next;
      len = ap length is ∙ length-append rows (row ∷ []) ∙ ap (λ n. n + 1) inv.len;
      truths =
          subst (λ (l : List (List Bool)). (f x : ℕ) → f < k + 1 → x < length content.values →
          truth_in l f x ≡ holds_at content dag f x) (sym is)
          (table_step content dag rows row k inv.len inv.truths newest);
    }
