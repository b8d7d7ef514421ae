-- The first wrong line among those that were looked at so far.
use Rattle.std.proofs.Common.{◌≡◌, ℕ, zero, suc, ◌+◌, ◌-◌, ◌<◌, ◌≤◌, Bool, true, false, List, [], ◌∷◌, length, get_or, take, map, Some, None, refl, sym, ap, subst, arith}
use Rattle.std.specs.Prelude.{Option, slice_get, nat_lt, if◌then◌else◌, option_map}
use Rattle.std.specs.List.{All}
use Rattle.std.specs.List.Sorted.{IsNonDecreasingBy}
use Rattle.typing.specs.Contents.{Content}
use Rattle.formulas.specs.declared.formula.Formula.{Formula}
use Rattle.satisfaction.specs.Satisfaction.{holds_at}
use Rattle.formula_text.specs.declared.answer.BlockLine.{BlockLine}
use Rattle.std.proofs.lemmas.Bool.{ltb-true, ltb-false}
use Rattle.std.proofs.lemmas.List.{take_all, get_or_default}
use Rattle.std.proofs.lemmas.Option.{slice_get_within, same_Some, none-some}
use Rattle.std.proofs.lemmas.List.Elements.{All-nil, All-more, All-weaker, All-contains, All-head, All-tail, All-get_or}
use Rattle.answer_checker.specs.Truths.{citation_of, AreCitations, IsRightLine, IsWrongBy, earlier, IsFoundWrong}
use Rattle.answer_checker.specs.declared.truths.Citation.{Citation}
use Rattle.answer_checker.specs.declared.truths.WrongLine.{WrongLine}
use Rattle.answer_checker.specs.declared.verdict.Reason.{Reason}
use Rattle.answer_checker.specs.declared.verdict.Reason.TheVariants.{Wrong}

module _ (told : ℕ → ℕ → Bool) (numbers formulas : List ℕ) (cited : List Citation) where
  -- the line that is cited is right
  abbrev pub IsRightCitation : Citation → Type 0
  IsRightCitation c = IsRightLine told numbers c.formula c.line

  -- it is, if it comes before line n
  abbrev pub IsRightBefore : ℕ → Citation → Type 0
  IsRightBefore n c = c.line < n → IsRightCitation c

  -- a wrong line
  pub record IsWrongLine (w : WrongLine) : Type 0 where
    pub there : slice_get formulas w.line ≡ Some w.formula
    pub wrong : IsWrongBy told numbers w.formula w.line w.state

  -- the first wrong line among the first p that are cited
  abbrev pub IsFoundSoFar : ℕ → Option WrongLine → Type 0
  IsFoundSoFar p None = All IsRightCitation (take p cited)
  IsFoundSoFar p (Some w) = IsWrongLine w × All (IsRightBefore w.line) (take p cited)

  -- none at first
  pub found_none : IsFoundSoFar 0 None
  found_none = All-nil IsRightCitation

  module _ (p : ℕ) (c : Citation) (below : p < length cited) (at : get_or cited p c ≡ c) where
    -- a right line more
    pub found_right :
        (o : Option WrongLine) → IsRightCitation c → IsFoundSoFar p o → IsFoundSoFar (p + 1) o
    found_right None right so_far =
        All-more IsRightCitation cited p c below so_far (subst IsRightCitation (sym at) right)
    found_right (Some w) right so_far = (
      so_far.0,
      All-more (IsRightBefore w.line) cited p c below so_far.1
          (subst (IsRightBefore w.line) (sym at) (λ h. right)),
    )

    -- a wrong line more
    pub found_wrong :
        (o : Option WrongLine) (w : WrongLine) → w.line ≡ c.line → IsWrongLine w →
        IsFoundSoFar p o → IsFoundSoFar (p + 1) (earlier o w)
    found_wrong None w same wrong so_far = (
      wrong,
      All-more (IsRightBefore w.line) cited p c below
          (All-weaker IsRightCitation (IsRightBefore w.line) (λ x right h. right) (take p cited)
          so_far)
          (subst (IsRightBefore w.line) (sym at) (λ h. absurd (omega (arith, h, same)))),
    )
    found_wrong (Some v) w same wrong so_far = by (nat_lt w.line v.line) refl
      where
        by : (o : Bool) → nat_lt w.line v.line ≡ o →
            IsFoundSoFar (p + 1) (if o then Some w else Some v)
        by true is =
            let less : w.line < v.line = ltb-true w.line v.line is in (
              wrong,
              All-more (IsRightBefore w.line) cited p c below
                  (All-weaker (IsRightBefore v.line) (IsRightBefore w.line)
                  (λ x right h. right (omega (arith, h, less))) (take p cited) so_far.1)
                  (subst (IsRightBefore w.line) (sym at) (λ h. absurd (omega (arith, h, same)))),
            )
        by false is =
            let more : v.line ≤ w.line = ltb-false w.line v.line is in (
              so_far.0,
              All-more (IsRightBefore v.line) cited p c below so_far.1
                  (subst (IsRightBefore v.line) (sym at)
                  (λ h. absurd (omega (arith, h, same, more)))),
            )

  -- the reason that a wrong line is
  abbrev pub reason_of : WrongLine → Reason
  reason_of w = Wrong w.formula w.state

  -- all lines were looked at
  pub found_all :
      (p : ℕ) (o : Option WrongLine) → length cited ≤ p → AreCitations formulas cited →
      IsFoundSoFar p o → IsFoundWrong told numbers formulas (option_map reason_of o)
  found_all p None past are so_far = λ k f at.
      All-contains IsRightCitation cited (citation_of f k)
      (subst (All IsRightCitation) (take_all p cited past) so_far)
      (are.all k f (slice_get_within formulas k f at) at)
  found_all p (Some w) past are so_far =
      record {
        line = w.line;
        there = so_far.0.there;
        wrong = so_far.0.wrong;
        lines_before = λ j g h at.
            All-contains (IsRightBefore w.line) cited (citation_of g j)
            (subst (All (IsRightBefore w.line)) (take_all p cited past) so_far.1)
            (are.all j g (slice_get_within formulas j g at) at) h;
      }

-- a formula that a line cites is there
pub formula_below :
    (n : ℕ) (blocks : List BlockLine) → All (λ (b : BlockLine). b.formula < n) blocks → (k f : ℕ) →
    slice_get (map (λ (b : BlockLine). b.formula) blocks) k ≡ Some f → f < n
formula_below n [] all k f at = absurd (none-some f at)
formula_below n (b ∷ blocks) all zero f at =
    subst (λ x. x < n) (same_Some b.formula f at)
    (All-head (λ (b : BlockLine). b.formula < n) b blocks all)
formula_below n (b ∷ blocks) all (suc k) f at =
    formula_below n blocks (All-tail (λ (b : BlockLine). b.formula < n) b blocks all) k f at

-- the formula of a citation is that of its line
pub cited_there :
    (formulas : List ℕ) (items found : List Citation) (i : ℕ) (d : Citation) → items ≡ found →
    AreCitations formulas found → i < length items →
    slice_get formulas (get_or items i d).line ≡ Some (get_or items i d).formula
cited_there formulas items found i d same are h =
    All-get_or (λ (c : Citation). slice_get formulas c.line ≡ Some c.formula) items i d h
    (subst (All (λ (c : Citation). slice_get formulas c.line ≡ Some c.formula)) (sym same) are.each)

-- later citations cite no earlier formula
pub later_formula :
    (items found : List Citation) (i j : ℕ) (d e : Citation) → items ≡ found →
    IsNonDecreasingBy (λ (c : Citation). c.formula) found → i < j → j < length items →
    (get_or items i d).formula + 1 ≤ (get_or items j e).formula + 1
later_formula items found i j d e same up less h =
    let rises : IsNonDecreasingBy (λ (c : Citation). c.formula) items =
    subst (IsNonDecreasingBy (λ (c : Citation). c.formula)) (sym same) up in
    let here : (get_or items i e).formula ≤ (get_or items j e).formula =
    rises i j e (omega (arith, less)) h in
    let one : (get_or items i d).formula ≡ (get_or items i e).formula =
    ap (λ (c : Citation). c.formula) (get_or_default items i d e (omega (arith, less, h))) in
    omega (arith, here, one)

-- what is said of the formula that was evaluated last
pub truth_moved :
    (P : (ℕ → ℕ → Bool) → ℕ → Type 0) (content other : Content) (dag more : List Formula)
    (next f : ℕ) → content ≡ other → dag ≡ more → next ≡ f + 1 → P (holds_at content dag) (next - 1)
    →
    P (holds_at other more) f
truth_moved P content other dag more next f ec ed en p =
    let last : next - 1 ≡ f = omega (arith, en) in
    subst (λ x. P (holds_at x more) f) ec
    (subst (λ x. P (holds_at content x) f) ed (subst (P (holds_at content dag)) last p))
