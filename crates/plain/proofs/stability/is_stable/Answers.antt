use Rattle.std.proofs.Common.{rules, ◌≡◌, true, List, length, map, sym, ap, subst, ◌∙◌}
use Rattle.std.specs.List.{list_all}
use Rattle.typing.specs.declared.value.Value.{Value}
use Rattle.typing.specs.Values.{relabelled}
use Rattle.typing.specs.Bounds.{is_bounded}
use Rattle.plain.specs.Pairs.{all_alike}
use Rattle.plain.proofs.Bounded.{all_kept}
use Rattle.plain.proofs.PairLaws.{stable_from, stable_to}
use Rattle.plain.proofs.stability.is_stable.Goals as goal

pub are_alike-requires : goal.are_alike-requires
are_alike-requires c = record {
  bounded = subst (λ (vs : List Value). list_all is_bounded vs ≡ true)
      (sym (c.as_slice.ensures.value ∙ c.in_ok-new.ensures)) (all_kept c.args.labels.now
      c.args.values.now c.requires.bounded);
}

pub returns : goal.returns
returns c =
    let tested : c.are_alike.result ≡ all_alike c.args.term.now c.args.labels.now
    (map (relabelled c.args.labels.now) c.args.values.now) c.args.labels.now
    (map (relabelled c.args.labels.now) c.args.values.now) =
    c.are_alike.ensures ∙ ap (λ (vs : List Value). all_alike c.args.term.now c.args.labels.now vs
    c.args.labels.now vs) (c.as_slice.ensures.value ∙ c.in_ok-new.ensures) in
    let count : length c.args.labels.now ≡ length c.args.values.now = search rules in (
      (λ h. stable_from c.args.term.now c.args.values.now c.args.labels.now count (sym tested ∙ h)),
      (λ is. tested ∙ stable_to c.args.term.now c.args.values.now c.args.labels.now is),
    )
