-- The command line as one simple command of clap: ACTION FILE REST.. and the flag `--stats`.
--
-- copar_app == that command
use Rattle.std.specs.Prelude.{true, Some, codes}
use Rattle.clap.specs.Words.{App, Rule, new_app, new_rule, with_rule}
use Rattle.clap.specs.Simple.{on_top}
use Rattle.clap.specs.declared.builder.action.ArgAction.TheVariants.{Set, Append, SetTrue}

-- the word that names the command, which is required
abbrev pub action_rule : Rule
action_rule = record (new_rule (codes "ACTION")) { required = true; action = Some Set }

-- the name of the file, which is required
abbrev pub file_rule : Rule
file_rule = record (new_rule (codes "FILE")) { required = true; action = Some Set }

-- any number of further words
abbrev pub rest_rule : Rule
rest_rule = record (new_rule (codes "REST")) { action = Some Append }

-- the flag for the line of statistics
abbrev pub stats_rule : Rule
stats_rule =
    record (new_rule (codes "stats")) { long = Some (codes "stats"); action = Some SetTrue }

-- the words as a command of these rules, which has a version; the name of the program is not among
-- the words
abbrev pub copar_app : App
copar_app =
    with_rule (with_rule (with_rule (with_rule
    (on_top (λ s. record s { no_binary_name = true; has_version = true })
    (new_app (codes "copar")))
    action_rule) file_rule) rest_rule) stats_rule
