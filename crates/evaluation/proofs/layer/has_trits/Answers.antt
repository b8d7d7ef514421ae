use Rattle.std.proofs.Common.{◌≡◌, Bool, true, false, refl, sym, ap, ◌∙◌}
use Rattle.std.specs.Cmp.Lexicographic.{same_text, other_text}
use Rattle.modalities.specs.declared.three.Three.TheVariants.{Trits}
use Rattle.modalities.specs.Order.{trits_of}
use Rattle.evaluation.proofs.ValueTests.{same_value}
use Rattle.evaluation.proofs.layer.has_trits.Goals as goal

yes : (r : Bool) → (r ≡ false → ⊥) → r ≡ true
yes true h = refl
yes false h = absurd (h refl)

pub returns-in-Trits : goal.returns-in-Trits
returns-in-Trits c =
    let trits = c.args.trits.now in
    let tested = c.eq.ensures in
    let wanted = c.as_slice.ensures.all_of_them in
    same_value (Trits trits) c.args.value.now c.eq.result
    (λ h. ap (λ ts. Trits ts) (same_text trits c.as_slice.result.now (sym h ∙ tested) ∙ wanted)
    ∙ sym c.in-Trits.is)
    (λ e. yes c.eq.result (λ h. other_text trits c.as_slice.result.now (sym h ∙ tested)
    (ap trits_of (e ∙ c.in-Trits.is) ∙ sym wanted)))
