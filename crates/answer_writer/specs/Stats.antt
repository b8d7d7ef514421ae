-- The line of statistics.
--
-- stats_text sorted edges labels  == the line, with its line feed
use Rattle.std.specs.Prelude.{ℕ, List, [], ◌∷◌, ◌++◌, codes}
use Rattle.std.specs.Fmt.{decimal}
use Rattle.file_cut.specs.Bytes.{line_feed}

-- how many sorted states and edges there are, and how many labels were looked at
abbrev pub stats_text : ℕ → ℕ → ℕ → List ℕ
stats_text sorted edges labels =
    codes "# sorted " ++ decimal sorted
    ++ codes " places " ++ decimal edges
    ++ codes " labels " ++ decimal labels ++ line_feed ∷ []
