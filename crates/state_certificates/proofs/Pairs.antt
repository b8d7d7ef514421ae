-- What is told of pairs of states.
--
-- answer_is          == what `separating` answers
-- numbers-renewed    == renewed verdicts name the new numbers
-- IsRenewed          == some verdicts are renewed
-- all_there          == the formulas that are answered are there
-- explained          == each pair has its verdict
use Rattle.std.proofs.Common.{◌≡◌, ◌<◌, ◌==◌, ◌++◌, ℕ, zero, suc, Bool, true, false, List, [], ◌∷◌, length, map, drop, Option, Some, None, refl, sym, ◌∙◌, ap, subst, true≢false, arith}
use Rattle.std.specs.Prelude.{◌↔◌, slice_index, if◌then◌else◌, All, IsNone, IfSome}
use Rattle.std.specs.List.{AllZip}
use Rattle.std.proofs.lemmas.Bool.{eq-eqb, eqb-true}
use Rattle.typing.specs.Contents.{Content}
use Rattle.sorted_systems.specs.Systems.{class_in}
use Rattle.formulas.specs.declared.formula.Formula.{Formula}
use Rattle.formulas.specs.Formulas.{IsDag}
use Rattle.satisfaction.specs.Satisfaction.{holds_at}
use Rattle.formula_builder.specs.Certified.{Certified}
use Rattle.formula_builder.specs.Cited.{IsCited, IsOnlyCited}
use Rattle.formula_builder.specs.CitedLaws.{CitedFormulasAreNoMore}
use Rattle.state_certificates.specs.Certificates.{formula_of, AreCertificates}
use Rattle.state_certificates.specs.Explained.{IsVerdict, numbers_in, answer_of, renewed, IsExplanation}
use Rattle.state_certificates.proofs.Cut.{kept_at, kept_fit, kept_writable}

-- what `separating` answers
pub answer_is :
    (told : Certified) (i j : ℕ) (o : Option ℕ) →
    (IsNone o ↔ (class_in told.block_of i ≡ class_in told.block_of j)) →
    IfSome o (λ k. k ≡ formula_of told i) → o ≡ answer_of told (i, j)
answer_is told i j None none some =
    sym (ap (λ (b : Bool). if b then None else Some (formula_of told i))
    (eq-eqb (class_in told.block_of i) (class_in told.block_of j) (none.0 refl)))
answer_is told i j (Some k) none some =
    by (class_in told.block_of i == class_in told.block_of j) refl
  where
    by :
        (b : Bool) → (class_in told.block_of i == class_in told.block_of j) ≡ b →
        Some k ≡ (if b then None else Some (formula_of told i))
    by true e =
        absurd (true≢false
        (none.1 (eqb-true (class_in told.block_of i) (class_in told.block_of j) e)))
    by false e = ap Some some

-- renewed verdicts name the new numbers
pub numbers-renewed :
    (vs : List (Option ℕ)) (new : List ℕ) → length new ≡ length (numbers_in vs) →
    numbers_in (renewed vs new) ≡ new
numbers-renewed [] [] size = refl
numbers-renewed [] (n ∷ new) size = absurd (omega (arith, size))
numbers-renewed (None ∷ vs) new size = numbers-renewed vs new size
numbers-renewed (Some k ∷ vs) [] size = absurd (omega (arith, size))
numbers-renewed (Some k ∷ vs) (n ∷ new) size =
    ap (λ ns. n ∷ ns) (numbers-renewed vs new (omega (arith, size)))

-- some verdicts are renewed, and the others are still to be
pub record IsRenewed
    (vs : List (Option ℕ)) (numbers : List ℕ) (out : List (Option ℕ)) (k next : ℕ) : Type 0 where
  pub so_far : out ++ renewed (drop k vs) (drop next numbers) ≡ renewed vs numbers
  pub left : length (drop next numbers) ≡ length (numbers_in (drop k vs))

-- the answer to a pair, by whether its states are in one block
abbrev first : Bool → ℕ → Option ℕ
first b k = if b then None else Some k

-- both states are there
abbrev pub AreThere : Content → ℕ × ℕ → Type 0
AreThere c pair = (pair.0 < length c.values) × (pair.1 < length c.values)

-- the formulas that are answered are there
pub all_there :
    (c : Content) (told : Certified) → AreCertificates c told → (pairs : List (ℕ × ℕ)) →
    All (AreThere c) pairs →
    All (λ k. k < length told.dag) (numbers_in (map (answer_of told) pairs))
all_there c told are [] inside k d h = absurd (omega (arith, h))
all_there c told are (p ∷ ps) inside k d h =
    by (class_in told.block_of p.0 == class_in told.block_of p.1)
    (all_there c told are ps (λ k d h. inside (suc k) d (omega (arith, h)))) k d h
  where
    by :
        (b : Bool) → All (λ k. k < length told.dag) (numbers_in (map (answer_of told) ps)) →
        All (λ k. k < length told.dag)
        (numbers_in (first b (formula_of told p.0) ∷ map (answer_of told) ps))
    by true rest k d h = rest k d h
    by false rest zero d h = are.exact.there p.0 (inside 0 p (omega arith)).0
    by false rest (suc k) d h = rest k d (omega (arith, h))

module _
    (c : Content) (told : Certified) (are : AreCertificates c told) (small : List Formula) where
  -- number n of the small list holds where number k of all formulas does
  abbrev IsNewOf : ℕ → ℕ → Type 0
  IsNewOf k n =
      (n < length small) × ((i : ℕ) → holds_at c small n i ≡ holds_at c told.dag k i)

  -- states of one block are equivalent
  one_block :
      (i j : ℕ) → AreThere c (i, j) →
      (class_in told.block_of i == class_in told.block_of j) ≡ true → IsVerdict c small i j None
  one_block i j here same =
      (are.exact.blocks i j here.0 here.1).0
      (eqb-true (class_in told.block_of i) (class_in told.block_of j) same)

  -- the formula of the first tells the states of two blocks apart
  two_blocks :
      (i j n : ℕ) → AreThere c (i, j) →
      (class_in told.block_of i == class_in told.block_of j) ≡ false →
      IsNewOf (formula_of told i) n → IsVerdict c small i j (Some n)
  two_blocks i j n here other new = (
    λ e. apart ((are.exact.blocks i j here.0 here.1).1 e),
    new.0,
    new.1 i
        ∙ (are.exact.exactly i i here.0 here.0).1 ((are.exact.blocks i i here.0 here.0).0 refl),
    λ h. apart ((are.exact.blocks i j here.0 here.1).1
        ((are.exact.exactly i j here.0 here.1).0 (sym (new.1 j) ∙ h))),
  )
    where
      apart : class_in told.block_of i ≡ class_in told.block_of j → ⊥
      apart e =
          true≢false (sym (eq-eqb (class_in told.block_of i) (class_in told.block_of j) e) ∙ other)

  each_verdict :
      (pairs : List (ℕ × ℕ)) → All (AreThere c) pairs → (new : List ℕ) →
      length new ≡ length (numbers_in (map (answer_of told) pairs)) →
      ((m : ℕ) → m < length new →
      IsNewOf (slice_index (numbers_in (map (answer_of told) pairs)) m) (slice_index new m)) →
      AllZip (λ pair verdict. IsVerdict c small pair.0 pair.1 verdict) pairs
      (renewed (map (answer_of told) pairs) new)
  each_verdict [] inside new size news = tt
  each_verdict (p ∷ ps) inside new size news =
      by (class_in told.block_of p.0 == class_in told.block_of p.1) refl
      (each_verdict ps (λ k d h. inside (suc k) d (omega (arith, h)))) new size news
    where
      by :
          (b : Bool) → (class_in told.block_of p.0 == class_in told.block_of p.1) ≡ b →
          ((new : List ℕ) → length new ≡ length (numbers_in (map (answer_of told) ps)) →
          ((m : ℕ) → m < length new →
          IsNewOf (slice_index (numbers_in (map (answer_of told) ps)) m) (slice_index new m)) →
          AllZip (λ pair verdict. IsVerdict c small pair.0 pair.1 verdict) ps
          (renewed (map (answer_of told) ps) new)) →
          (new : List ℕ) →
          length new
          ≡ length (numbers_in (first b (formula_of told p.0) ∷ map (answer_of told) ps)) →
          ((m : ℕ) → m < length new →
          IsNewOf
          (slice_index (numbers_in (first b (formula_of told p.0) ∷ map (answer_of told) ps)) m)
          (slice_index new m)) →
          AllZip (λ pair verdict. IsVerdict c small pair.0 pair.1 verdict) (p ∷ ps)
          (renewed (first b (formula_of told p.0) ∷ map (answer_of told) ps) new)
      by true same later new size news =
          (one_block p.0 p.1 (inside 0 p (omega arith)) same, later new size news)
      by false other later [] size news = absurd (omega (arith, size))
      by false other later (n ∷ new) size news = (
        two_blocks p.0 p.1 n (inside 0 p (omega arith)) other (news 0 (omega arith)),
        later new (omega (arith, size)) (λ m h. news (suc m) (omega (arith, h))),
      )

  -- each pair has its verdict
  pub explained :
      IsDag told.dag → CitedFormulasAreNoMore → (pairs : List (ℕ × ℕ)) → All (AreThere c) pairs →
      (new : List ℕ) →
      IsOnlyCited told.dag (numbers_in (map (answer_of told) pairs)) small new →
      IsExplanation c pairs small (renewed (map (answer_of told) pairs) new)
  explained ordered no_more pairs inside new cut =
      let wanted : List ℕ = numbers_in (map (answer_of told) pairs) in
      record {
        each =
            each_verdict pairs inside new cut.all_wanted
            (λ m h. let below : m < length wanted = omega (arith, h, cut.all_wanted) in
            (cut.there m below, kept_at told.dag wanted small new cut c ordered m below));
        cited = λ n h.
            subst (λ ns. IsCited small ns n)
            (sym (numbers-renewed (map (answer_of told) pairs) new cut.all_wanted))
            (cut.cited n h);
        ordered = cut.ordered;
        fit = kept_fit told.dag wanted small new cut c.term are.fit;
        writable = kept_writable told.dag wanted small new cut are.writable;
        few = omega (arith, no_more told.dag wanted small new cut, are.few);
      }
