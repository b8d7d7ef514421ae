-- Trial inputs are accepted as files.
use Rattle.std.proofs.Common.{◌≡◌, ℕ, ◌^◌, ◌<◌, ◌≤◌, true, List, [], ◌∷◌, ◌++◌, length, sym, ap, ◌∙◌, subst, arith}
use Rattle.std.specs.Prelude.{codes}
use Rattle.std.specs.List.{AllByRecursion, AllZip}
use Rattle.std.proofs.lemmas.List.{length-append}
use Rattle.functor_terms.specs.Terms.{Nodes, IsTerm}
use Rattle.functor_terms.proofs.PartLaws.{spells_a_term}
use Rattle.typing.specs.declared.value.Value.{Value}
use Rattle.typing.specs.Contents.{Content}
use Rattle.fitting.specs.Scaling.{lists_within}
use Rattle.fitting.proofs.ListLengths.{lists-short}
use Rattle.structure_parser.specs.Reads.{IsNormalForm, Reads}
use Rattle.structure_writer.specs.Text.{paired}
use Rattle.trial_texts.specs.declared.kind.TrialKind.{TrialKind}
use Rattle.trial_texts.specs.Text.{name_text, functor_text, text_of_trial}
use Rattle.trial_files.specs.Laws.{TrialTextsAreShort, TrialTextsAreAccepted}
use Rattle.trial_files.proofs.Names.{names_from, name-is, name-short, names-are, names-count}
use Rattle.trial_files.proofs.Lines.{lines_with, line_spelled}
use Rattle.trial_files.proofs.Accepts.{IsGood, fitteds, good-accepted}
use Rattle.trial_files.proofs.Terms.{term_of, functor-spelled, functor-plain, functor-unskipped}
use Rattle.trial_files.proofs.NormalForms.{normal-form}
use Rattle.trial_files.proofs.Drawn.{texts_from, all-good, texts-count, lines-are, whole-short}

-- ---- values

module _ (t : Nodes) (is : IsTerm t) (names : List (List ℕ)) (l : ℕ) (bounded : l ≤ 8) where
  good_small : (text : List ℕ) (good : IsGood t names text)
      → lists_within (2 ^ 26) good.fitted ≡ true
  good_small text good =
      let name : List ℕ = name_text 0 in
      let short : length name ≤ 7 = name-short 0 (omega arith) in
      lists-short (paired name text) name good.tree t names good.fitted
      (line_spelled name text good.tree (name-is 0 (omega arith)) good.piece) good.read (2 ^ 26)
      (omega (arith, short, good.short, length-append name (codes ": " ++ text)))

  good_value : (text : List ℕ) (good : IsGood t names text)
      → (v : Value) × IsNormalForm l t good.fitted v
  good_value text good =
      normal-form l (omega (arith, bounded)) t is names good.tree good.fitted good.read good.over
      (good_small text good)

  good_values : (texts : List (List ℕ)) (all : AllByRecursion (IsGood t names) texts)
      → (vs : List Value) × AllZip (IsNormalForm l t) (fitteds t names texts all) vs
  good_values [] all = ([], tt)
  good_values (text ∷ texts) all =
      let one = good_value text all.0 in
      let rest = good_values texts all.1 in
      (one.0 ∷ rest.0, (one.1, rest.1))

-- ---- the laws

-- the whole text, as lines of names and structures
text_is : (kind : TrialKind) (seed size : ℕ) (some : 0 < size) (few : size ≤ 200000)
    → text_of_trial kind seed size
    ≡ (functor_text kind ++ codes "\n")
    ++ lines_with (names_from 0 size) (texts_from size some few kind size seed)
text_is kind seed size some few =
    ap (λ l. (functor_text kind ++ codes "\n") ++ l) (lines-are size some few kind size 0 seed)

-- the texts of trials are short
pub texts-short : TrialTextsAreShort
texts-short kind seed size sized =
    let some : 0 < size = omega (arith, sized.0) in
    subst (λ (text : List ℕ). length text < 2 ^ 24) (sym (text_is kind seed size some sized.1))
    (whole-short size some sized.1 kind seed)

-- the texts of trials are accepted
pub texts-accepted : TrialTextsAreAccepted
texts-accepted kind seed size sized =
    let some : 0 < size = omega (arith, sized.0) in
    let few : size ≤ 200000 = sized.1 in
    let names : List (List ℕ) = names_from 0 size in
    let t : Nodes = term_of kind in
    let texts : List (List ℕ) = texts_from size some few kind size seed in
    let all : AllByRecursion (IsGood t names) texts = all-good size some few kind size seed in
    let count : length texts ≡ length names =
    texts-count size some few kind size seed ∙ sym (names-count 0 size) in
    let a = good-accepted t names (names-are size few) (functor_text kind) (functor-spelled kind)
    (functor-plain kind) (functor-unskipped kind) texts all count in
    let term : IsTerm t = spells_a_term (functor_text kind) t (functor-spelled kind) in
    let values = good_values t term names a.denominator a.of_eight.1 texts all in
    let c : Content =
    record { term = t; names = names; denominator = a.denominator; values = values.0 } in
    let whole : List ℕ = (functor_text kind ++ codes "\n") ++ lines_with names texts in
    let short : length whole < 2 ^ 24 = whole-short size some few kind seed in
    let reads : Reads whole c =
    record {
      rows = a.rows;
      fitted = fitteds t names texts all;
      within = omega (arith, short);
      spelled = a.spelled;
      read = a.read;
      same_names = a.heads;
      values = values.1;
    } in (
      c,
      subst (λ (text : List ℕ). Reads text c) (sym (text_is kind seed size some few)) reads,
      names-count 0 size,
    )
