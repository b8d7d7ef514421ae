use Rattle.std.proofs.Common.{Some, None, [], map, ap, sym, ◌∙◌, unwrap_or, option_map}
use Rattle.std.proofs.lemmas.Result.{IfOk-weaker}
use Rattle.clap.specs.Words.{found_of}
use Rattle.command_line.proofs.ByClap.{all-in}
use Rattle.command_line.proofs.parts.all_values.Goals as goal

pub returns-in-Some : goal.returns-in-Some
returns-in-Some c =
    let all = all-in (found_of c.args.matches.now) c.args.id.now c.get_strs.result
    (Some (map (λ v. v.now) c.in-Some.values.now)) c.get_strs.ensures
    (ap (option_map (λ s. map (λ v. v.now) s.now)) c.in-Some.is) in
    IfOk-weaker c.from_slice.result _ _
    (λ v items. ap (map (λ v. v.now)) items ∙ sym (ap (λ o. unwrap_or o []) all))
    c.from_slice.ensures.items

pub returns-in-None : goal.returns-in-None
returns-in-None c =
    ap (map (λ v. v.now)) c.new.ensures.items ∙ sym (ap (λ o. unwrap_or o [])
    (all-in (found_of c.args.matches.now) c.args.id.now c.get_strs.result
    None c.get_strs.ensures (ap (option_map (λ s. map (λ v. v.now) s.now)) c.in-None.is)))
