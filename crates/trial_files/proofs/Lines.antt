-- Lines of names and structures as rows.
use Rattle.std.proofs.Common.{◌≡◌, ℕ, ◌+◌, true, List, [], ◌∷◌, ◌++◌, length, append_assoc, append-nil, refl, sym, ap, ◌∙◌, subst, arith, true≢false}
use Rattle.std.specs.Prelude.{codes, if◌then◌else◌}
use Rattle.std.specs.List.{list_all, AllByRecursion, AllZip}
use Rattle.file_cut.specs.Bytes.{IsName}
use Rattle.file_cut.specs.Lines.{Numbered, numbered_line, lines_from}
use Rattle.file_cut.specs.Tokens.{marks}
use Rattle.file_cut.specs.Trees.{SpellsLine}
use Rattle.file_cut.specs.declared.mark.Mark.TheVariants.{Word, Colon}
use Rattle.file_cut.specs.declared.tree.Tree.{Tree}
use Rattle.structure_parser.specs.Rows.{Row, row, IsRowOf}
use Rattle.structure_writer.specs.Text.{paired}
use Rattle.structure_writer.proofs.Marks.{Lexes, IsTextOf, colon-lexes, name-marks, is_plain, word-plain, both-plain}
use Rattle.structure_writer.proofs.TextSpells.{name_unskipped, first_line}

-- ---- rows

-- lines of names and texts, each with its end
abbrev pub lines_with : List (List ℕ) → List (List ℕ) → List ℕ
lines_with [] texts = []
lines_with (name ∷ names) [] = []
lines_with (name ∷ names) (text ∷ texts) = (paired name text ++ codes "\n") ++ lines_with names
    texts

-- rows with these heads and trees, the first at line n
abbrev pub rows_from : ℕ → List (List ℕ) → List Tree → List Row
rows_from n [] us = []
rows_from n (name ∷ names) [] = []
rows_from n (name ∷ names) (u ∷ us) = row n name u ∷ rows_from (n + 1) names us

-- a line spells its name and its tree
pub line_spelled : (name text : List ℕ) (u : Tree) → IsName name → IsTextOf 64 text u
    → SpellsLine (paired name text) name u
line_spelled name text u named is =
    let word : Lexes name (Word name ∷ []) = λ rest none. name-marks name rest named none in
    let whole = colon-lexes name text (Word name ∷ []) is.tokens word is.lexes in (
      is.tokens,
      ap marks (sym (append-nil (paired name text))) ∙ whole [] refl
          ∙ ap (λ ts. Word name ∷ Colon ∷ ts) (append-nil is.tokens),
      is.spelled,
    )

-- lines are the rows of their names and trees
pub rows-spelled : (n : ℕ) (names texts : List (List ℕ)) (us : List Tree)
    → AllByRecursion IsName names
    → AllZip (IsTextOf 64) texts us → length texts ≡ length names
    → AllZip IsRowOf (lines_from n (lines_with names texts)) (rows_from n names us)
rows-spelled n [] texts us named all l = tt
rows-spelled n (name ∷ names) [] us named all l = absurd (omega (arith, l))
rows-spelled n (name ∷ names) (text ∷ texts) [] named all l = absurd all
rows-spelled n (name ∷ names) (text ∷ texts) (u ∷ us) named all l =
    let line : List ℕ = paired name text in
    let rest : List ℕ = lines_with names texts in
    let rows : List Row = rows_from (n + 1) names us in
    let plain : list_all is_plain line ≡ true =
    both-plain name (codes ": " ++ text) (word-plain name named.0.0.1) all.0.plain in
    let cut : lines_from n ((line ++ codes "\n") ++ rest)
    ≡ numbered_line n line ∷ lines_from (n + 1) rest =
    ap (lines_from n) (append_assoc line (codes "\n") rest)
    ∙ first_line n line rest plain (name_unskipped name (codes ": " ++ text) named.0) in
    subst (λ (ls : List Numbered). AllZip IsRowOf ls (row n name u ∷ rows)) (sym cut) (
      record { number = refl; spelled = line_spelled name text u named.0 all.0 },
      rows-spelled (n + 1) names texts us named.1 all.1 (omega (arith, l)),
    )
