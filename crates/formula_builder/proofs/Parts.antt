-- How the notes grow by a part, a split and a start block.
use Rattle.std.proofs.Common.{◌≡◌, ◌≢◌, ◌+◌, ◌<◌, ◌≤◌, ℕ, zero, suc, List, [], ◌∷◌, ◌++◌, length, get_or, take, refl, sym, ◌∙◌, ap, subst, inl, inr, arith, append_assoc, append-nil, length-append}
use Rattle.std.specs.Prelude.{All, Any, AllPairs, ◌^◌, ◌*◌, ◌⊎◌, slice_get, slice_index, slice_set, Some}
use Rattle.std.proofs.lemmas.List.{get_or_default, get_or-set_same, get_or-set_other, take_more, length-set, get_or-take, length-take-le, take_all}
use Rattle.std.proofs.lemmas.List.Elements.{All-push}
use Rattle.modalities.specs.declared.three.Three.{Three}
use Rattle.formulas.specs.declared.formula.Formula.{Formula}
use Rattle.formulas.specs.declared.formula.Formula.TheVariants.{True, Not, And, At}
use Rattle.formulas.specs.Formulas.{IsDag}
use Rattle.formulas.proofs.TruthLaws.{slice_get-longer, slice_get-last}
use Rattle.refiner.specs.declared.parts.Start.{Start}
use Rattle.refiner.specs.declared.parts.Part.{Part}
use Rattle.refiner.specs.Recorded.{Split}
use Rattle.refiner.specs.Recorded.{Round}
use Rattle.formula_builder.specs.Books.{Book, IsFormula, parts_in, IsToldAs, IsPartTold, IsNoPart, IsRoundTold}
use Rattle.formula_builder.specs.Making.{IsLonger, ArePartsTold, AreSplitsTold, AreStartsTold, IsSplitTellable, IsTellable}
use Rattle.std.proofs.lemmas.Option.{slice_get_within}
use Rattle.std.proofs.lemmas.List.Quantifiers.{Any-push}
use Rattle.formula_builder.proofs.Lists.{get_or-first, get_or-second}

-- what one element has, all of a list of it have
only : {X : Type 0} (P : X → Type 0) (x : X) → P x → All P (x ∷ [])
only P x h zero d below = h
only P x h (suc k) d below = absurd (omega arith)

-- what stands in a list that was put behind by one
pub split_last :
    {X : Type 0} (xs : List X) (y z : X) (k : ℕ) → slice_get (xs ++ y ∷ []) k ≡ Some z →
    (slice_get xs k ≡ Some z) ⊎ (y ≡ z)
split_last [] y z zero e = inr cc
split_last [] y z (suc k) e = absurd (cc e)
split_last (x ∷ xs) y z zero e = inl e
split_last (x ∷ xs) y z (suc k) e = split_last xs y z k e

-- some element of a part of a list
any_first : {X : Type 0} (P : X → Type 0) (xs ys : List X) → Any P xs → Any P (xs ++ ys)
any_first P xs ys found =
    let (k, x, h, e, is) = found in
    (k, x, omega (arith, length-append xs ys), get_or-first xs ys k x h ∙ e, is)

only_any : {X : Type 0} (P : X → Type 0) (x : X) → Any P (x ∷ []) → P x
only_any P x found = by found.0 found.1 found.2 found.3 found.4
  where
    by : (k : ℕ) (y : _) → k < length (x ∷ []) → get_or (x ∷ []) k y ≡ y → P y → P x
    by zero y h e is = subst P (sym e) is
    by (suc k) y h e is = absurd (omega arith)

parts_in-push : (splits : List Split) (s : Split) → parts_in (splits ++ s ∷ [])
    ≡ parts_in splits + length s.parts
parts_in-push [] s = omega arith
parts_in-push (t ∷ splits) s = omega (arith, parts_in-push splits s)

-- a part is told by two formulas and two entries
pub part_told :
    (before : Book) (d1 d2 : List Formula) (node parent splitter coarse at both : ℕ) (value : Three)
    (p : Part) → value ≡ p.three → at ≡ length before.dag →
    d1 ≡ before.dag ++ At node value splitter coarse ∷ [] → both ≡ length d1 →
    d2 ≡ d1 ++ And at parent ∷ [] → IsDag d2 → p.block < length before.blocks →
    length before.nodes ≡ length before.blocks →
    ArePartsTold before (record {
      dag = d2;
      blocks = slice_set before.blocks p.block both;
      nodes = slice_set before.nodes p.block node;
      coarse = before.coarse;
    }) node parent splitter coarse (p ∷ [])
part_told before d1 d2 node parent splitter coarse at both value p same at_is e1 both_is e2 ordered
    below as_many =
    let first : Formula = At node value splitter coarse in
    let second : Formula = And at parent in
    let whole : d2 ≡ (before.dag ++ first ∷ []) ++ second ∷ [] =
    e2 ∙ ap (λ d. d ++ second ∷ []) e1 in
    let size : length (before.dag ++ first ∷ []) ≡ length before.dag + 1 =
    length-append before.dag (first ∷ []) in
    let modality : slice_get d2 at ≡ Some (At node p.three splitter coarse) =
    ap (λ d. slice_get d at) whole ∙ ap (slice_get ((before.dag ++ first ∷ []) ++ second ∷ []))
    at_is
    ∙ slice_get-longer (before.dag ++ first ∷ []) (second ∷ []) (length before.dag) (omega arith)
    ∙ slice_get-last before.dag first ∙ ap (λ v. Some (At node v splitter coarse)) same in
    let conjunction : slice_get d2 both ≡ Some second =
    ap (λ d. slice_get d both) e2 ∙ ap (slice_get (d1 ++ second ∷ [])) both_is
    ∙ slice_get-last d1 second in
    record {
      longer = record {
        more = first ∷ second ∷ [];
        longer = whole ∙ append_assoc before.dag (first ∷ []) (second ∷ []);
        ordered = ordered;
        as_many = length-set before.blocks p.block both;
        as_many_nodes = length-set before.nodes p.block node;
      };
      same_coarse = refl;
      told = only (λ (q : Part). IsToldAs (record {
        dag = d2;
        blocks = slice_set before.blocks p.block both;
        nodes = slice_set before.nodes p.block node;
        coarse = before.coarse;
      }) node parent splitter coarse q) p (record {
        at = at;
        modality = modality;
        both = ap (slice_get d2) (get_or-set_same before.blocks p.block both 0 below) ∙ conjunction;
        node_is =
            get_or-set_same before.nodes p.block node 0
            (subst (λ n. p.block < n) (sym as_many) below);
      });
      others = λ b none. (
          let apart : b ≢ p.block = λ e. none 0 p (omega arith) (sym e) in (
            get_or-set_other before.blocks p.block b both 0 apart,
            get_or-set_other before.nodes
                p.block b node 0 apart,
          ));
      count = ap length whole ∙ length-append (before.dag ++ first ∷ []) (second ∷ [])
          ∙ omega (arith, size);
      modalities = λ q v found. (
          let (k, s, c, e) = found in
          elim (split_last (before.dag ++ first ∷ []) second (At q v s c) k
          (sym (ap (λ d. slice_get d k) whole) ∙ e)) [
            | inl one ↦ elim (split_last before.dag first (At q v s c) k one) [
              | inl old ↦ inl (k, s, c, old)
              | inr new ↦ (
                  let node_is : node ≡ q = cc new in
                  let value_is : value ≡ v = cc new in
                  inr (0, p, omega arith, refl, (node_is, sym same ∙ value_is)))
            ]
            | inr none ↦ absurd (cc none)
          ]);
    }

-- two steps in a row
pub longer_then : (a b c : Book) → IsLonger a b → IsLonger b c → IsLonger a c
longer_then a b c one two = record {
  more = one.more ++ two.more;
  longer = two.longer ∙ ap (λ d. d ++ two.more) one.longer ∙ append_assoc a.dag one.more two.more;
  ordered = two.ordered;
  as_many = two.as_many ∙ one.as_many;
  as_many_nodes = two.as_many_nodes ∙ one.as_many_nodes;
}

-- a formula stays where it stands
pub stays_there : (a b : Book) → IsLonger a b → (k : ℕ) (f : Formula) → k < length a.dag →
    IsFormula a k f → IsFormula b k f
stays_there a b step k f below is = ap (λ d. slice_get d k) step.longer
    ∙ slice_get-longer a.dag step.more k below ∙ is

within : (a : Book) (k : ℕ) (f : Formula) → IsFormula a k f → k < length a.dag
within a k f is = slice_get_within a.dag k f is

-- a part stays told where its block keeps what it has
part_stays :
    (a b : Book) (node parent splitter coarse : ℕ) (p : Part) → IsLonger a b →
    (slice_index b.blocks p.block ≡ slice_index a.blocks p.block) →
    (slice_index b.nodes p.block ≡ slice_index a.nodes p.block) →
    IsToldAs a node parent splitter coarse p → IsToldAs b node parent splitter coarse p
part_stays a b node parent splitter coarse p step same_block same_node told = record {
  at = told.at;
  modality = stays_there a b step told.at (At node p.three splitter coarse)
      (within a told.at (At node p.three splitter coarse) told.modality) told.modality;
  both = ap (slice_get b.dag) same_block
      ∙ stays_there a b step (slice_index a.blocks p.block) (And told.at parent)
      (within a (slice_index a.blocks p.block) (And told.at parent) told.both) told.both;
  node_is = same_node ∙ told.node_is;
}

-- no part, at the start
pub no_part_told : (a : Book) (node parent splitter coarse : ℕ) → IsDag a.dag →
    ArePartsTold a a node parent splitter coarse []
no_part_told a node parent splitter coarse ordered = record {
  longer = record {
    more = [];
    longer = sym (append-nil a.dag);
    ordered = ordered;
    as_many =
        refl;
    as_many_nodes = refl;
  };
  same_coarse = refl;
  told = λ k d below. absurd (omega arith);
  others = λ b none. (refl, refl);
  count = omega arith;
  modalities = λ q v found. inl found;
}

-- one part more
pub parts_push :
    (a b c : Book) (node parent splitter coarse : ℕ) (parts : List Part) (p : Part) →
    All (λ (q : Part). q.block ≢ p.block) parts →
    ArePartsTold a b node parent splitter coarse parts →
    ArePartsTold b c node parent splitter coarse (p ∷ []) →
    ArePartsTold a c node parent splitter coarse (parts ++ p ∷ [])
parts_push a b c node parent splitter coarse parts p apart before step = record {
  longer = longer_then a b c before.longer step.longer;
  same_coarse = step.same_coarse ∙ before.same_coarse;
  told = All-push (λ (q : Part). IsToldAs c node parent splitter coarse q) parts p
      (λ k d below. (let q : Part = get_or parts k d in
      let kept =
      step.others q.block (only (λ (r : Part). r.block ≢ q.block) p
      (λ e. apart k d below (sym e))) in
      part_stays b c node parent splitter coarse q step.longer kept.0 kept.1
      (before.told k d below)))
      (step.told 0 p (omega arith));
  others = λ x none. (
      let here : All (λ (q : Part). q.block ≢ x) parts =
      λ k d below. subst (λ (q : Part). q.block ≢ x) (get_or-first parts (p ∷ []) k d below)
      (none k d (omega (arith, length-append parts (p ∷ [])))) in
      let last : p.block ≢ x =
      subst (λ (q : Part). q.block ≢ x) (get_or-second parts (p ∷ []) (length parts) 0 p
      (omega arith))
      (none (length parts) p (omega (arith, length-append parts (p ∷ [])))) in
      let one = before.others x here in
      let two = step.others x (only (λ (q : Part). q.block ≢ x) p last) in
      (two.0 ∙ one.0, two.1 ∙ one.1));
  count = step.count ∙ omega (arith, before.count, length-append parts (p ∷ []));
  modalities = λ q v found. elim (step.modalities q v found) [
    | inl middle ↦ elim (before.modalities q v middle) [
      | inl old ↦ inl old
      | inr some ↦ inr (any_first (λ (x : Part). (node ≡ q) × (x.three ≡ v)) parts (p ∷ []) some)
    ]
    | inr new ↦
        inr (Any-push (λ (x : Part). (node ≡ q) × (x.three ≡ v)) parts p
        (only_any (λ (x : Part). (node ≡ q) × (x.three ≡ v)) p new))
  ];
}

-- no split, at the start
pub no_split_told : (a : Book) (r : Round) → IsDag a.dag → AreSplitsTold a a r []
no_split_told a r ordered = record {
  longer = record {
    more = [];
    longer = sym (append-nil a.dag);
    ordered = ordered;
    as_many =
        refl;
    as_many_nodes = refl;
  };
  same_coarse = refl;
  told = λ k d below. absurd (omega arith);
  others = λ b none. (refl, refl);
  count = omega arith;
  modalities = λ q v found. inl found;
}

-- one split more
pub splits_push :
    (a b c : Book) (r : Round) (splits : List Split) (s : Split) →
    All (λ (t : Split). All (λ (p : Part). All (λ (q : Part). p.block ≢ q.block) s.parts) t.parts)
    splits →
    All (λ (t : Split). All (λ (p : Part). p.block ≢ s.parent) t.parts) splits →
    AreSplitsTold a b r splits →
    ArePartsTold b c (slice_index b.nodes s.parent) (slice_index b.blocks s.parent)
    (slice_index a.blocks r.splitter) (slice_index a.coarse r.coarse) s.parts →
    AreSplitsTold a c r (splits ++ s ∷ [])
splits_push a b c r splits s apart parent_apart before step = record {
  longer = longer_then a b c before.longer step.longer;
  same_coarse = step.same_coarse ∙ before.same_coarse;
  told = All-push (λ (t : Split). All (λ (p : Part). IsPartTold a c r t p) t.parts) splits s
      (λ k d below j e inside. (
      let t : Split = get_or splits k d in
      let p : Part = get_or t.parts j e in
      let kept =
      step.others p.block (λ i f more. λ same. apart k d below j e inside i f more
      (sym same)) in
      part_stays b c (slice_index a.nodes t.parent) (slice_index a.blocks t.parent)
      (slice_index a.blocks r.splitter) (slice_index a.coarse r.coarse) p step.longer kept.0 kept.1
      (before.told k d below j e inside)))
      (let parent = before.others s.parent parent_apart in
      λ j e inside. subst (λ n. IsToldAs c n (slice_index a.blocks s.parent)
      (slice_index a.blocks r.splitter) (slice_index a.coarse r.coarse) (get_or s.parts j e))
      parent.1
      (subst (λ n. IsToldAs c (slice_index b.nodes s.parent) n (slice_index a.blocks r.splitter)
      (slice_index a.coarse r.coarse) (get_or s.parts j e)) parent.0
      (step.told j e inside)));
  others = λ x none. (
      let here : IsNoPart splits x =
      λ k d below. subst (λ (t : Split). All (λ (q : Part). q.block ≢ x) t.parts)
      (get_or-first splits (s ∷ []) k d below)
      (none k d (omega (arith, length-append splits (s ∷ [])))) in
      let last : All (λ (q : Part). q.block ≢ x) s.parts =
      subst (λ (t : Split). All (λ (q : Part). q.block ≢ x) t.parts)
      (get_or-second splits (s ∷ []) (length splits) 0 s (omega arith))
      (none (length splits) s (omega (arith, length-append splits (s ∷ [])))) in
      let one = before.others x here in
      let two = step.others x last in
      (two.0 ∙ one.0, two.1 ∙ one.1));
  count = step.count ∙ omega (arith, before.count, parts_in-push splits s);
  modalities = λ q v found. elim (step.modalities q v found) [
    | inl middle ↦ elim (before.modalities q v middle) [
      | inl old ↦ inl old
      | inr some ↦
          inr (any_first (λ (x : Split). Any (λ (p : Part). (slice_index a.nodes x.parent ≡ q)
          × (p.three ≡ v)) x.parts) splits (s ∷ []) some)
    ]
    | inr new ↦ (
        let parent = before.others s.parent parent_apart in
        inr (Any-push (λ (x : Split). Any (λ (p : Part). (slice_index a.nodes x.parent ≡ q)
        × (p.three ≡ v)) x.parts) splits s
        (subst (λ n. Any (λ (p : Part). (n ≡ q) × (p.three ≡ v)) s.parts) parent.1 new)))
  ];
}

-- ---- start blocks

-- a start block is told by a formula and two entries
pub start_push :
    (before : Book) (d : List Formula) (at : ℕ) (value : Three) (start : List Start) (p : Start) →
    value ≡ p.three → at ≡ length before.dag →
    d ≡ before.dag ++ At p.node value 0 0 ∷ [] → IsDag d → p.block < length before.blocks →
    length before.nodes ≡ length before.blocks →
    All (λ (q : Start). q.block ≢ p.block) start → AreStartsTold before start →
    AreStartsTold (record {
      dag = d;
      blocks = slice_set before.blocks p.block at;
      nodes = slice_set before.nodes p.block p.node;
      coarse = before.coarse;
    }) (start ++ p ∷ [])
start_push before d at value start p same at_is e ordered below as_many apart told =
    let first : Formula = At p.node value 0 0 in
    let here : slice_get d at ≡ Some (At p.node p.three 0 0) =
    ap (λ l. slice_get l at) e ∙ ap (slice_get (before.dag ++ first ∷ [])) at_is
    ∙ slice_get-last before.dag first ∙ ap (λ v. Some (At p.node v 0 0)) same in
    let kept : (k : ℕ) (f : Formula) → slice_get before.dag k ≡ Some f → slice_get d k ≡ Some f =
    λ k f is. ap (λ l. slice_get l k) e
    ∙ slice_get-longer before.dag (first ∷ []) k (slice_get_within before.dag k f is) ∙ is in
    let blocks : List ℕ = slice_set before.blocks p.block at in
    let nodes : List ℕ = slice_set before.nodes p.block p.node in
    record {
      ordered = ordered;
      top = kept 0 True told.top;
      blocks = All-push (λ (q : Start). slice_get d (slice_index blocks q.block)
          ≡ Some (At q.node q.three 0 0)) start p
          (λ k e below. (let q : Start = get_or start k e in
          ap (slice_get d) (get_or-set_other before.blocks p.block q.block at 0 (apart k e below))
          ∙ kept (slice_index before.blocks q.block) (At q.node q.three 0 0)
          (told.blocks k e below)))
          (ap (slice_get d) (get_or-set_same before.blocks p.block at 0 below) ∙ here);
      nodes = All-push (λ (q : Start). slice_index nodes q.block ≡ q.node) start p
          (λ k e below. (let q : Start = get_or start k e in
          get_or-set_other before.nodes p.block q.block p.node 0 (apart k e below)
          ∙ told.nodes k e below))
          (get_or-set_same before.nodes p.block p.node 0 (subst (λ n. p.block < n) (sym as_many)
          below));
      count = ap length e ∙ length-append before.dag (first ∷ [])
          ∙ omega (arith, told.count, length-append start (p ∷ []));
      modalities = λ q v found. (
          let (k, s, c, is) = found in
          elim (split_last before.dag first (At q v s c) k (sym (ap (λ l. slice_get l k) e) ∙ is)) [
            | inl old ↦ any_first (λ (x : Start). (x.node ≡ q) × (x.three ≡ v)) start (p ∷ [])
                (told.modalities q v (k, s, c, old))
            | inr new ↦ (
                let node_is : p.node ≡ q = cc new in
                let value_is : value ≡ v = cc new in
                Any-push (λ (x : Start). (x.node ≡ q) × (x.three ≡ v)) start p (
                  node_is,
                  sym same
                      ∙ value_is,
                ))
          ]);
    }

-- the first formula alone
pub top_told : (book : Book) → book.dag ≡ True ∷ [] → IsDag book.dag → AreStartsTold book []
top_told book e ordered = record {
  ordered = ordered;
  top = ap (λ l. slice_get l 0) e;
  blocks = λ k d below. absurd (omega arith);
  nodes = λ k d below. absurd (omega arith);
  count = ap length e;
  modalities = λ q v found. (
      let (k, s, c, is) = found in
      elim (split_last [] True (At q v s c) k (sym (ap (λ l. slice_get l k) e) ∙ is)) [
        | inl old ↦ absurd (cc old)
        | inr new ↦ absurd (cc new)
      ]);
}

-- elements that are pairwise apart, at a place and before it
pub apart_before :
    {X : Type 0} (R : X → X → Type 0) (xs : List X) (i : ℕ) (d : X) → AllPairs R xs →
    i < length xs →
    All (λ x. R x (get_or xs i d)) (take i xs)
apart_before R xs i d pairs below k e inside =
    let before : k < i = subst (λ n. k < n) (length-take-le i xs (omega arith)) inside in
    subst (λ x. R x (get_or xs i d)) (sym (get_or-take i xs k e before))
    (subst (λ y. R (get_or xs k e) y) (get_or_default xs i e d below) (pairs k i e before below))

-- ---- steps of the loops

-- the parts up to a place, and the one there
pub parts_step :
    (a b c : Book) (node parent splitter coarse : ℕ) (parts xs : List Part) → xs ≡ parts →
    (i : ℕ) (p : Part) → AllPairs (λ (p : Part). λ (q : Part). p.block ≢ q.block) parts →
    i < length xs → p ≡ get_or xs i p →
    ArePartsTold a b node parent splitter coarse (take i parts) →
    ArePartsTold b c node parent splitter coarse (p ∷ []) →
    ArePartsTold a c node parent splitter coarse (take (i + 1) parts)
parts_step a b c node parent splitter coarse parts xs same i p apart inside there before step =
    let below : i < length parts = subst (λ l. i < length l) same inside in
    let is : p ≡ get_or parts i p = there ∙ ap (λ l. get_or l i p) same in
    subst (λ ps. ArePartsTold a c node parent splitter coarse ps)
    (sym (take_more parts i p below ∙ ap (λ q. take i parts ++ q ∷ []) (sym is)))
    (parts_push a b c node parent splitter coarse (take i parts) p
    (subst (λ (x : Part). All (λ (q : Part). q.block ≢ x.block) (take i parts)) (sym is)
    (apart_before (λ (x : Part). λ (q : Part). x.block ≢ q.block) parts i p apart below)) before
    step)

-- the splits up to a place, and the one there
pub splits_step :
    (a b c : Book) (r : Round) (xs : List Split) → xs ≡ r.splits → (i : ℕ) (s : Split)
    (splitter coarse : ℕ) → splitter ≡ slice_index a.blocks r.splitter →
    coarse ≡ slice_index a.coarse r.coarse →
    AllPairs (λ (s : Split). λ (t : Split). All (λ (p : Part). p.block ≢ t.parent) s.parts)
    r.splits →
    AllPairs (λ (s : Split). λ (t : Split).
    All (λ (p : Part). All (λ (q : Part). p.block ≢ q.block) t.parts) s.parts) r.splits →
    i < length xs → s ≡ get_or xs i s →
    AreSplitsTold a b r (take i r.splits) →
    ArePartsTold b c (slice_index b.nodes s.parent) (slice_index b.blocks s.parent) splitter coarse
    s.parts →
    AreSplitsTold a c r (take (i + 1) r.splits)
splits_step a b c r xs same i s splitter coarse splitter_is coarse_is parents parts inside there
    before told =
    let splits : List Split = r.splits in
    let below : i < length splits = subst (λ l. i < length l) same inside in
    let is : s ≡ get_or splits i s = there ∙ ap (λ l. get_or l i s) same in
    let step : ArePartsTold b c (slice_index b.nodes s.parent) (slice_index b.blocks s.parent)
    (slice_index a.blocks r.splitter) (slice_index a.coarse r.coarse) s.parts =
    subst (λ n. ArePartsTold b c (slice_index b.nodes s.parent) (slice_index b.blocks s.parent)
    (slice_index a.blocks r.splitter) n s.parts) coarse_is
    (subst (λ n. ArePartsTold b c (slice_index b.nodes s.parent) (slice_index b.blocks s.parent) n
    coarse s.parts) splitter_is told) in
    subst (λ ss. AreSplitsTold a c r ss)
    (sym (take_more splits i s below ∙ ap (λ t. take i splits ++ t ∷ []) (sym is)))
    (splits_push a b c r (take i splits) s
    (subst (λ (x : Split). All
    (λ (t : Split). All (λ (p : Part). All (λ (q : Part). p.block ≢ q.block) x.parts) t.parts)
    (take i splits)) (sym is)
    (apart_before
    (λ (t : Split). λ (x : Split). All (λ (p : Part). All (λ (q : Part). p.block ≢ q.block)
    x.parts) t.parts) splits i s parts below))
    (subst (λ (x : Split). All (λ (t : Split). All (λ (p : Part). p.block ≢ x.parent) t.parts)
    (take i splits)) (sym is)
    (apart_before (λ (t : Split). λ (x : Split). All (λ (p : Part). p.block ≢ x.parent) t.parts)
    splits i s parents below))
    before step)

-- the start blocks up to a place, and the one there
pub starts_step :
    (new : Book) (start : List Start) (i : ℕ) (p : Start) →
    p ≡ get_or start i p → i < length start →
    AreStartsTold new (take i start ++ p ∷ []) → AreStartsTold new (take (i + 1) start)
starts_step new start i p is below told =
    subst (λ ps. AreStartsTold new ps)
    (sym (take_more start i p below ∙ ap (λ q. take i start ++ q ∷ []) (sym is))) told

-- the start blocks before a place are apart from the one there
pub starts_apart :
    (start : List Start) (i : ℕ) (p : Start) →
    AllPairs (λ (p : Start). λ (q : Start). p.block ≢ q.block) start → i < length start →
    p ≡ get_or start i p → All (λ (q : Start). q.block ≢ p.block) (take i start)
starts_apart start i p apart below is =
    subst (λ (x : Start). All (λ (q : Start). q.block ≢ x.block) (take i start)) (sym is)
    (apart_before (λ (x : Start). λ (q : Start). x.block ≢ q.block) start i p apart below)

-- a round is told by its splits and two formulas more
pub round_made :
    (a b : Book) (r : Round) (i : ℕ) (d1 d2 : List Formula) (splitter old denied outer : ℕ)
    (coarse : List ℕ) →
    splitter ≡ slice_index a.blocks r.splitter → old ≡ slice_index a.coarse r.coarse →
    length r.splits ≤ i → AreSplitsTold a b r (take i r.splits) → denied ≡ length b.dag →
    d1 ≡ b.dag ++ Not splitter ∷ [] → outer ≡ length d1 →
    d2 ≡ d1 ++ And old denied ∷ [] → IsDag d2 →
    coarse ≡ (b.coarse ++ splitter ∷ []) ++ outer ∷ [] →
    IsRoundTold a (record { dag = d2; blocks = b.blocks; nodes = b.nodes; coarse = coarse }) r
round_made a b r i d1 d2 splitter old denied outer coarse splitter_is old_is past so_far denied_is
    f1 outer_is f2 ordered coarse_so =
    let before : AreSplitsTold a b r r.splits =
    subst (λ ss. AreSplitsTold a b r ss) (take_all i r.splits past) so_far in
    let e1 : d1 ≡ b.dag ++ Not (slice_index a.blocks r.splitter) ∷ [] =
    f1 ∙ ap (λ n. b.dag ++ Not n ∷ []) splitter_is in
    let e2 : d2 ≡ d1 ++ And (slice_index a.coarse r.coarse) denied ∷ [] =
    f2 ∙ ap (λ n. d1 ++ And n denied ∷ []) old_is in
    let coarse_is : coarse ≡ (b.coarse ++ slice_index a.blocks r.splitter ∷ []) ++ outer ∷ [] =
    coarse_so ∙ ap (λ n. (b.coarse ++ n ∷ []) ++ outer ∷ []) splitter_is in
    let first : Formula = Not (slice_index a.blocks r.splitter) in
    let second : Formula = And (slice_index a.coarse r.coarse) denied in
    let c : Book = record { dag = d2; blocks = b.blocks; nodes = b.nodes; coarse = coarse } in
    let whole : d2 ≡ (b.dag ++ first ∷ []) ++ second ∷ [] = e2 ∙ ap (λ d. d ++ second ∷ []) e1 in
    let size : length (b.dag ++ first ∷ []) ≡ length b.dag + 1 = length-append b.dag (first ∷ []) in
    let step : IsLonger b c = record {
      more = first ∷ second ∷ [];
      longer = whole ∙ append_assoc b.dag (first ∷ []) (second ∷ []);
      ordered = ordered;
      as_many = refl;
      as_many_nodes = refl;
    } in
    let all : IsLonger a c = longer_then a b c before.longer step in
    record {
      more = all.more;
      longer = all.longer;
      ordered = ordered;
      parts = λ k d below j e inside. (
          let s : Split = get_or r.splits k d in
          let p : Part = get_or s.parts j e in
          part_stays b c (slice_index a.nodes s.parent) (slice_index a.blocks s.parent)
          (slice_index a.blocks r.splitter) (slice_index a.coarse r.coarse) p step refl refl
          (before.told k d below j e inside));
      others = before.others;
      denied = denied;
      denied_is = ap (λ d. slice_get d denied) whole
          ∙ ap (slice_get ((b.dag ++ first ∷ []) ++ second ∷ [])) denied_is
          ∙ slice_get-longer (b.dag ++ first ∷ []) (second ∷ []) (length b.dag) (omega arith)
          ∙ slice_get-last b.dag first;
      outer = outer;
      outer_is = ap (λ d. slice_get d outer) e2 ∙ ap (slice_get (d1 ++ second ∷ [])) outer_is
          ∙ slice_get-last d1 second;
      coarse = coarse_is ∙ append_assoc b.coarse (slice_index a.blocks r.splitter ∷ []) (outer ∷ [])
          ∙ ap (λ cs. cs ++ slice_index a.blocks r.splitter ∷ outer ∷ []) before.same_coarse;
      count = ap length whole ∙ length-append (b.dag ++ first ∷ []) (second ∷ [])
          ∙ omega (arith, size, before.count);
      modalities = λ q v found. (
          let (k, s, o, is) = found in
          elim (split_last (b.dag ++ first ∷ []) second (At q v s o) k
          (sym (ap (λ d. slice_get d k) whole) ∙ is)) [
            | inl one ↦ elim (split_last b.dag first (At q v s o) k one) [
              | inl old ↦ before.modalities q v (k, s, o, old)
              | inr none ↦ absurd (cc none)
            ]
            | inr none ↦ absurd (cc none)
          ]);
    }

-- a number within the formulas is so in more
pub longer_within : (a b : Book) → IsLonger a b → (k : ℕ) → k < length a.dag → k < length b.dag
longer_within a b step k below =
    let size : length b.dag ≡ length a.dag + length step.more =
    ap length step.longer ∙ length-append a.dag step.more in omega arith

-- a split that comes next may be told
pub split_ready :
    (a b : Book) (r : Round) (xs : List Split) → xs ≡ r.splits → (i : ℕ) (s : Split) →
    IsTellable a r → i < length xs → s ≡ get_or xs i s →
    AreSplitsTold a b r (take i r.splits) → IsSplitTellable b s
split_ready a b r xs same i s ready inside there before =
    let splits : List Split = r.splits in
    let below : i < length splits = subst (λ l. i < length l) same inside in
    let is : s ≡ get_or splits i s = there ∙ ap (λ l. get_or l i s) same in
    let split : IsSplitTellable a s =
    subst (λ (x : Split). IsSplitTellable a x) (sym is) (ready.splits i s below) in
    let kept = before.others s.parent
    (subst (λ (x : Split). All (λ (t : Split). All (λ (p : Part). p.block ≢ x.parent) t.parts)
    (take i splits)) (sym is)
    (apart_before (λ (t : Split). λ (x : Split). All (λ (p : Part). p.block ≢ x.parent) t.parts)
    splits i s ready.parents_apart below)) in
    record {
      parent_in = subst (λ n. s.parent < n) (sym before.longer.as_many) split.parent_in;
      parent_there =
          subst (λ n. n < length b.dag) (sym kept.0)
          (longer_within a b before.longer (slice_index a.blocks s.parent) split.parent_there);
      parts_in = λ k d more. subst (λ n. (get_or s.parts k d).block < n) (sym before.longer.as_many)
          (split.parts_in k d more);
      apart = split.apart;
    }

-- parts of the splits before a place, and of the one there
parts_in-take :
    (splits : List Split) (i : ℕ) (s : Split) → i < length splits → s ≡ get_or splits i s →
    parts_in (take i splits) + length s.parts ≤ parts_in splits
parts_in-take [] i s below is = absurd (omega arith)
parts_in-take (t ∷ splits) zero s below is = let same : length s.parts ≡ length t.parts =
    ap (λ (x : Split). length x.parts) is in omega arith
parts_in-take (t ∷ splits) (suc i) s below is =
    omega (arith, parts_in-take splits i s (omega arith) is)

-- there is room for the formulas of each split
pub split_room :
    (a b : Book) (r : Round) (xs : List Split) → xs ≡ r.splits → (i : ℕ) (s : Split) →
    IsTellable a r → i < length xs → s ≡ get_or xs i s →
    AreSplitsTold a b r (take i r.splits) → length b.dag + 2 * length s.parts < 2 ^ 32
split_room a b r xs same i s ready inside there before =
    let below : i < length r.splits = subst (λ l. i < length l) same inside in
    let is : s ≡ get_or r.splits i s = there ∙ ap (λ l. get_or l i s) same in
    let parts : parts_in (take i r.splits) + length s.parts ≤ parts_in r.splits =
    parts_in-take r.splits i s below is in
    let most : length a.dag + 2 * parts_in r.splits + 2 < 2 ^ 32 = ready.room in
    let so_far : length b.dag ≡ length a.dag + 2 * parts_in (take i r.splits) = before.count in
    omega arith

-- there is room for two more formulas at each part
pub part_room :
    (a b : Book) (node parent splitter coarse : ℕ) (parts xs : List Part) → xs ≡ parts → (i : ℕ) →
    length a.dag + 2 * length parts < 2 ^ 32 → i < length xs →
    ArePartsTold a b node parent splitter coarse (take i parts) → length b.dag + 2 < 2 ^ 32
part_room a b node parent splitter coarse parts xs same i room inside before =
    let below : i < length parts = subst (λ l. i < length l) same inside in
    let size : length (take i parts) ≡ i = length-take-le i parts (omega arith) in
    let so_far : length b.dag ≡ length a.dag + 2 * length (take i parts) = before.count in
    omega arith

-- there is room for two more formulas at the end of a round
pub end_room :
    (a b : Book) (r : Round) (i : ℕ) → IsTellable a r → length r.splits ≤ i →
    AreSplitsTold a b r (take i r.splits) → length b.dag + 2 < 2 ^ 32
end_room a b r i ready past before =
    let all : parts_in (take i r.splits) ≡ parts_in r.splits =
    ap parts_in (take_all i r.splits past) in
    let most : length a.dag + 2 * parts_in r.splits + 2 < 2 ^ 32 = ready.room in
    let so_far : length b.dag ≡ length a.dag + 2 * parts_in (take i r.splits) = before.count in
    omega arith

-- there is room for a formula at each start
pub start_room :
    (book : Book) (start : List Start) (i : ℕ) → length start < 2 ^ 26 → i < length start →
    AreStartsTold book (take i start) → length book.dag + 1 < 2 ^ 32
start_room book start i few below told =
    let size : length (take i start) ≡ i = length-take-le i start (omega arith) in
    let so_far : length book.dag ≡ 1 + length (take i start) = told.count in
    omega arith
