-- The words as one simple command.
--
-- Line           == the parts of such words
-- line_of words  == the parts of the words, where clap takes them
use Rattle.std.specs.Prelude.{ℕ, List, [], ◌∷◌, Option, Some, None, Bool, false, bytes_eq, codes, unwrap_or}
use Rattle.std.specs.Option.{option_map_or}
use Rattle.clap.specs.Words.{Row, Kinds, all_of, first_of, fault_of, matches_of}
use Rattle.command_line.specs.Parser.{copar_app}

-- the parts of a command: the action, the file, the further words, and whether the flag is given
pub record Line : Type 0 where
  pub action : List ℕ
  pub file : List ℕ
  pub rest : List (List ℕ)
  pub stats : Bool

-- the parts that the rows of a parse have
abbrev pub line_in : List Row → Line
line_in rows = record {
  action = unwrap_or (first_of (codes "ACTION") rows) [];
  file = unwrap_or (first_of (codes "FILE") rows) [];
  rest = unwrap_or (all_of (codes "REST") rows) [];
  stats = option_map_or (bytes_eq (codes "true")) (first_of (codes "stats") rows) false;
}

-- the parts of words that clap finds no fault in
abbrev pub line_unless : Kinds → List (List ℕ) → Option Line
line_unless [] words = Some (line_in (matches_of copar_app words))
line_unless (kind ∷ kinds) words = None

-- the parts of the words, where clap takes them
unfoldable pub line_of : List (List ℕ) → Option Line
line_of words = line_unless (fault_of copar_app words) words
