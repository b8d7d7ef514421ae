use Rattle.std.proofs.Common.{Some, None, [], ap, sym, unwrap_or, option_map}
use Rattle.clap.specs.Words.{found_of}
use Rattle.command_line.proofs.ByClap.{first-in}
use Rattle.command_line.proofs.parts.first_value.Goals as goal

pub returns-in-Some : goal.returns-in-Some
returns-in-Some c =
    sym (ap (λ o. unwrap_or o [])
    (first-in (found_of c.args.matches.now) c.args.id.now c.get_str.result
    (Some c.in-Some.value.now) c.get_str.ensures (ap (option_map (λ s. s.now)) c.in-Some.is)))

pub returns-in-None : goal.returns-in-None
returns-in-None c =
    sym (ap (λ o. unwrap_or o [])
    (first-in (found_of c.args.matches.now) c.args.id.now c.get_str.result
    None c.get_str.ensures (ap (option_map (λ s. s.now)) c.in-None.is)))
