-- What a line says as the program holds it. Only private clauses cite it.
--
-- answer_in said         == the answer that it is
-- CitesEarlier k said    == its formula, if it defines one, cites numbers below k
use Rattle.std.specs.Prelude.{ℕ, map}
use Rattle.formulas.specs.Formulas.{CitesBelow}
use Rattle.formula_text.specs.Answers.{Answer}
use Rattle.formula_text.specs.Answers as answer
use Rattle.formula_text.specs.declared.said.Said.{Said}
use Rattle.formula_text.specs.declared.said.Said.TheVariants.{Defines, Block, Separates, Equivalent}

-- the answer that is said
abbrev pub answer_in : Said → Answer
answer_in (Defines f) = answer.Defines f
answer_in (Block f names) = answer.Block f (map (λ name. name.now) names.items)
answer_in (Separates x y f) = answer.Separates x.now y.now f
answer_in (Equivalent x y) = answer.Equivalent x.now y.now

-- a formula that is defined cites numbers below k
abbrev pub CitesEarlier : ℕ → Said → Type 0
CitesEarlier k (Defines f) = CitesBelow k f
CitesEarlier k (Block f names) = Unit {0}
CitesEarlier k (Separates x y f) = Unit {0}
CitesEarlier k (Equivalent x y) = Unit {0}
