use Rattle.std.proofs.Common.{◌≡◌, ◌∙◌, length, ap, sym, arith, rules, refl}
use Rattle.std.proofs.lemmas.Grind.{common_steps}
use Rattle.outside.proofs.Taking.{took_more, append_known_none}
use Rattle.outside.proofs.whole.put_all.Goals as goal

pub rest-init : goal.rest-init
rest-init g c = record {
  within = search rules;
  taken = sym (append_known_none _);
  quiet = refl;
  none = λ _. refl;
}

pub rest-preserved : goal.rest-preserved
rest-preserved g c = record {
  within = grind (arith, common_steps);
  taken = took_more _ _ _ _ _ _ c.rest.invariant.taken c.in-Took.ensures.just_these_are_appended;
  quiet = c.in-Took.ensures.success_counts_nothing (search rules) ∙ c.rest.invariant.quiet;
  none = λ empty. let zero : length c.args.bytes.now ≡ 0 = ap length empty in absurd (omega arith);
}
