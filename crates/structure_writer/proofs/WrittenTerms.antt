-- What the text of a value spells at a term.
use Rattle.std.proofs.Common.{◌≡◌, ℕ, zero, suc, ◌^◌, ◌<◌, ◌≤◌, List, [], ◌∷◌, length, map, sym, ap, subst, arith, length-append}
use Rattle.std.specs.Prelude.{IsTrue}
use Rattle.std.specs.List.{AllByRecursion}
use Rattle.functor_terms.specs.declared.node.Node.{Node}
use Rattle.functor_terms.specs.Terms.{Nodes, Part, IsPart, IsTerm, HasLabels, takes, over, nodes_of}
use Rattle.functor_terms.specs.Words.{AreNames}
use Rattle.functor_terms.proofs.TermLaws.{IsBlock, part-block}
use Rattle.functor_terms.proofs.PartFolds.{fold_part, fold-over}
use Rattle.typing.specs.Fits.{Check, no_check, fits_step, fits}
use Rattle.typing.specs.Bounds.{any_weights, weights_step, weights_hold}
use Rattle.fitting.specs.Fitting.{Fit, no_fit}
use Rattle.fitting.specs.Scaling.{Scale, no_scale, scaled_step, scaled}
use Rattle.structure_writer.specs.Text.{Write, no_write, write_step, text_at}
use Rattle.structure_writer.specs.Spelled.{free_step, free_fitting}
use Rattle.structure_writer.proofs.Written.{Writes}
use Rattle.structure_writer.proofs.WrittenNodes.{node-written}

blocks : (n : ℕ) (parts : List Part) → AllByRecursion (IsPart n) parts
    → AllByRecursion IsBlock parts
blocks n [] all = tt
blocks n (x ∷ xs) all = (part-block n x all.0, blocks n xs all.1)

-- there are no more parts than nodes
few_parts : (parts : List Part) → AllByRecursion IsBlock parts
    → length parts ≤ length (nodes_of parts)
few_parts [] all = omega arith
few_parts (x ∷ xs) all =
    let rest = few_parts xs all.1 in
    let some : 0 < length x.0 = all.0.0 in
    omega (arith, rest, some, length-append x.0 (nodes_of xs))

-- each part has no more nodes than all
each_few : (parts : List Part) → length (nodes_of parts) ≤ 256
    → AllByRecursion (λ part. length part.0 ≤ 256) parts
each_few [] few = tt
each_few (x ∷ xs) few =
    let size = length-append x.0 (nodes_of xs) in
    (omega (arith, size, few), each_few xs (omega (arith, size, few)))

-- l is the common denominator, and the states have these names
module _ (l : ℕ) (some : 1 ≤ l) (small : l ≤ 2 ^ 40) (names : List (List ℕ))
    (are : AreNames names) where
  same_writes : (n : ℕ) (w w' : Write) (g g' : Fit) (s s' : Scale) (x x' y y' : Check)
      → w' ≡ w → g' ≡ g → s' ≡ s → x' ≡ x → y' ≡ y
      → Writes l names n w g s x y → Writes l names n w' g' s' x' y'
  same_writes n w w' g g' s s' x x' y y' ew eg es ex ey h =
      subst (λ (k : Write). Writes l names n k g' s' x' y') (sym ew)
      (subst (λ (k : Fit). Writes l names n w k s' x' y') (sym eg)
      (subst (λ (k : Scale). Writes l names n w g k x' y') (sym es)
      (subst (λ (k : Check). Writes l names n w g s k y') (sym ex)
      (subst (λ (k : Check). Writes l names n w g s x k) (sym ey) h))))

  -- how the values at a part are written, read, scaled and tested
  abbrev W : Part → Write
  W = fold_part no_write (write_step l names)

  abbrev G : Part → Fit
  G = fold_part no_fit (free_step names)

  abbrev S : Part → Scale
  S = fold_part no_scale (scaled_step l)

  abbrev X : Part → Check
  X = fold_part no_check fits_step

  abbrev Y : Part → Check
  Y = fold_part any_weights (weights_step l)

  abbrev PartWrites : ℕ → Part → Type 0
  PartWrites n x = Writes l names n (W x) (G x) (S x) (X x) (Y x)

  over_written : (n k : ℕ) (node : Node) (parts : List Part) → IsTrue (takes node (length parts))
      → HasLabels node → AllByRecursion (IsPart n) parts → length (nodes_of parts) ≤ 256
      → AllByRecursion (PartWrites k) parts → PartWrites (suc k) (over node parts)
  over_written n k node parts arity labels each few good =
      let own = blocks n parts each in
      same_writes (suc k) (write_step l names node (map W parts)) (W (over node parts))
      (free_step names node (map G parts)) (G (over node parts))
      (scaled_step l node (map S parts)) (S (over node parts))
      (fits_step node (map X parts)) (X (over node parts))
      (weights_step l node (map Y parts)) (Y (over node parts))
      (fold-over no_write (write_step l names) node parts own)
      (fold-over no_fit (free_step names) node parts own)
      (fold-over no_scale (scaled_step l) node parts own)
      (fold-over no_check fits_step node parts own)
      (fold-over any_weights (weights_step l) node parts own)
      (node-written l some small names are k W G S X Y node parts arity labels
      (omega (arith, few_parts parts own, few)) good)

  each_written : (n k : ℕ)
      → ((x : Part) → IsPart n x → length x.0 ≤ 256 → PartWrites k x)
      → (parts : List Part) → AllByRecursion (IsPart n) parts
      → AllByRecursion (λ part. length part.0 ≤ 256) parts → AllByRecursion (PartWrites k) parts
  each_written n k h [] all few = tt
  each_written n k h (x ∷ xs) all few =
      (h x all.0 few.0, each_written n k h xs all.1 few.1)

  -- a text opens no more brackets than the part has levels
  part_written : (n k : ℕ) → n ≤ k → (x : Part) → IsPart n x → length x.0 ≤ 256 → PartWrites k x
  unfolding IsPart
  part_written zero k le x is few = absurd is
  part_written (suc n) zero le x is few = absurd (omega (arith, le))
  part_written (suc n) (suc k) le x (node, parts, arity, labels, each, made) few =
      let size : length x.0 ≡ suc (length (nodes_of parts)) =
      ap (λ (y : Part). length y.0) made in
      let less : length (nodes_of parts) ≤ 256 = omega (arith, size, few) in
      subst (PartWrites (suc k)) (sym made)
      (over_written n k node parts arity labels each less
      (each_written n k (part_written n k (omega (arith, le))) parts each (each_few parts less)))

  -- values that pass the tests are written with at most 64 open
  pub term-written : (t : Nodes) → IsTerm t
      → Writes l names 64 (text_at l names t 0) (free_fitting t names 0) (scaled l t 0) (fits t 0)
      (weights_hold l t 0)
  term-written t is =
      let built : IsPart 32 is.part = is.within.built in
      subst (λ (u : Nodes). Writes l names 64 (text_at l names u 0) (free_fitting u names 0)
      (scaled l u 0) (fits u 0) (weights_hold l u 0)) (sym is.numbered)
      (part_written 32 64 (omega arith) is.part built is.within.few)
