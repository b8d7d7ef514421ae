use Rattle.std.proofs.Common.{◌≡◌, ◌+◌, ◌≤◌, ◌++◌, [], ◌∷◌, ℕ, List, sym, ◌∙◌, ap, subst, arith, length}
use Rattle.std.specs.Prelude.{slice_index}
use Rattle.std.proofs.lemmas.List.{take_at}
use Rattle.evaluation.specs.Uses.{AreLastUses}
use Rattle.evaluation.proofs.UseLaws.{uses_step, push_within}
use Rattle.evaluation.proofs.uses.last_uses.Goals as goal

pub loop-k-preserved : goal.loop-k-preserved
loop-k-preserved c =
    let k = c.loop-k.k in
    let mid = c.note_uses.new.last_uses in
    let old = c.loop-k.last_uses.items in
    let len : length mid ≡ length old =
    c.note_uses.auto.last_uses ∙ ap length c.as_mut_slice.ensures.value in
    let ok : c.loop-k.last_uses.len ≡ length mid = omega (arith, c.loop-k.last_uses.ok.0, len) in
    let more : (i : ℕ) → slice_index old i ≤ slice_index mid i =
    λ i. subst (λ (l : List ℕ). slice_index l i ≤ slice_index mid i) c.as_mut_slice.ensures.value
    (c.note_uses.ensures.more i) in
    let is : c.push.new.self.items ≡ mid ++ (k + 1) ∷ [] =
    c.in_ok-push.ensures.items ∙ ap (λ l. l ++ (k + 1) ∷ [])
    (take_at mid _ c.loop-k.last_uses.len (sym ok)) in
    record {
      uses =
          subst (AreLastUses c.args.dag.now (k + 1)) (sym is)
          (uses_step c.args.dag.now k old mid c.formula.result.now c.loop-k.invariant.uses
          c.formula.ensures.there len c.note_uses.ensures.used more);
      all_before =
          subst (λ (l : List ℕ). (i : ℕ) → slice_index l i ≤ k + 1) (sym is)
          (push_within mid (k + 1) (k + 1) (λ i. omega (arith, c.note_uses.ensures.all_before i))
          (omega arith));
    }
