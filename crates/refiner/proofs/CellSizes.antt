-- How many edges each cell has, where some leave theirs.
use Rattle.std.proofs.Common.{◌≡◌, ◌≢◌, ◌+◌, ◌<◌, ◌≤◌, ◌==◌, ℕ, zero, suc, cond, List, [], ◌∷◌, ◌++◌, length, get_or, set, refl, sym, ◌∙◌, ap, subst, inl, inr, ◌⊎◌, arith}
use Rattle.std.specs.Prelude.{All, AllPairs}
use Rattle.std.proofs.lemmas.Bool.{cases_eq, eq-eqb, ne_eqb}
use Rattle.std.proofs.lemmas.Bool.Decides.{nat_tests}
use Rattle.std.proofs.lemmas.List.{length-set, length_push, get_or-set_same, get_or-set_other, get_or_append_left, get_or_push, length-map}
use Rattle.std.proofs.lemmas.List.Sums.{sum_by-set}
use Rattle.edge_store.specs.declared.edge.Edge.{Edge}
use Rattle.edge_store.specs.Edges.{sources_of, labels_of, labels_from, chosen}
use Rattle.refinable_partition.specs.Blocks.{size_in}
use Rattle.refinable_partition.specs.Layout.{AreMoved as HaveLeft}
use Rattle.refiner.specs.Cells.{AreCounted, IsParted}
use Rattle.refiner.proofs.CoarseSizes.{size_none}
use Rattle.refiner.proofs.Sizes.{size_yes, size_no}

-- some edges of a cell, each listed once, are at most as many as the cell has
pub no_more : (edges cells : List ℕ) (k : ℕ) → AllPairs (λ d e. d ≢ e) edges →
    All (λ e. e < length cells) edges → All (λ e. get_or cells e 0 ≡ k) edges →
    length edges ≤ size_in cells k
no_more [] cells k once low here = omega arith
no_more (e ∷ edges) cells k once low here =
    let he : e < length cells = low 0 0 (omega arith) in
    let at : get_or cells e 0 ≡ k = here 0 0 (omega arith) in
    let left : List ℕ = set cells e (suc k) in
    let one : size_in left k + cond (get_or cells e 0 == k) 1 0
    ≡ size_in cells k + cond (suc k == k) 1 0 =
    sum_by-set (λ (v : ℕ). cond (v == k) 1 0) cells e (suc k) 0 he in
    let rest : length edges ≤ size_in left k =
    no_more edges left k (λ i j d h l. once (suc i) (suc j) d (omega arith) (omega arith))
    (λ i d h. omega (arith, low (suc i) d (omega arith), length-set cells e (suc k)))
    (λ i d h. get_or-set_other cells e (get_or edges i d) (suc k) 0
    (λ same. once 0 (suc i) d (omega arith) (omega arith) (sym same))
    ∙ here (suc i) d (omega arith)) in
    grind (arith, nat_tests, one, rest, at)

-- where they are as many, no other edge has the cell
pub no_other : (edges cells : List ℕ) (k f : ℕ) → AllPairs (λ d e. d ≢ e) edges →
    All (λ e. e < length cells) edges → All (λ e. get_or cells e 0 ≡ k) edges →
    size_in cells k ≡ length edges → f < length cells → All (λ e. e ≢ f) edges →
    get_or cells f 0 ≢ k
no_other edges cells k f once low here all hf out same =
    let more : length (f ∷ edges) ≤ size_in cells k =
    no_more (f ∷ edges) cells k (pairs f edges once out) (alls (λ e. e < length cells) f edges hf low)
    (alls (λ e. get_or cells e 0 ≡ k) f edges same here) in
    omega (arith, more, all)
  where
    alls : (P : ℕ → Type 0) (x : ℕ) (xs : List ℕ) → P x → All P xs → All P (x ∷ xs)
    alls P x xs one rest zero d h = one
    alls P x xs one rest (suc i) d h = rest i d (omega arith)

    pairs : (x : ℕ) (xs : List ℕ) → AllPairs (λ d e. d ≢ e) xs → All (λ e. e ≢ x) xs →
        AllPairs (λ d e. d ≢ e) (x ∷ xs)
    pairs x xs apart away i zero d h l = absurd (omega arith)
    pairs x xs apart away zero (suc j) d h l = λ e. away j d (omega arith) (sym e)
    pairs x xs apart away (suc i) (suc j) d h l = apart i j d (omega arith) (omega arith)

-- a cell that no edge is left in goes to the edges that were
pub parted_whole :
    {Weight : Type 0} (cells : List ℕ) (weights weights2 : List Weight) (edges : List ℕ)
    (part : Weight) (k : ℕ) → k < length weights → weights2 ≡ set weights k part →
    AllPairs (λ d e. d ≢ e) edges → All (λ e. e < length cells) edges →
    All (λ e. get_or cells e 0 ≡ k) edges → size_in cells k ≡ length edges →
    IsParted cells weights edges part k cells weights2
parted_whole cells weights weights2 edges part k hk is once low here all =
    let len : length weights2 ≡ length weights = ap length is ∙ length-set weights k part in
    record {
      one_each = refl;
      live = omega (arith, hk, len);
      no_less = omega (arith, len);
      one_more = omega (arith, len);
      moved = here;
      others = λ f out. refl;
      apart = λ f hf out. no_other edges cells k f once low here all hf out;
      part_is = λ d. ap (λ l. get_or l k d) is ∙ get_or-set_same weights k part d hk;
      rest_is = λ j d hj ne. ap (λ l. get_or l j d) is ∙ get_or-set_other weights k j part d ne;
    }

-- edges that leave others behind get a new cell
pub parted_new :
    {Weight : Type 0} (cells cells2 : List ℕ) (weights weights2 : List Weight) (edges : List ℕ)
    (part : Weight) → weights2 ≡ weights ++ part ∷ [] → length cells2 ≡ length cells →
    ((e : ℕ) → e < length cells → get_or cells e 0 < length weights) →
    All (λ e. get_or cells2 e 0 ≡ length weights) edges →
    ((f : ℕ) → All (λ e. e ≢ f) edges → get_or cells2 f 0 ≡ get_or cells f 0) →
    IsParted cells weights edges part (length weights) cells2 weights2
parted_new cells cells2 weights weights2 edges part is len low moved others =
    let many : length weights2 ≡ length weights + 1 = ap length is ∙ length_push weights part in
    record {
      one_each = len;
      live = omega (arith, many);
      no_less = omega (arith, many);
      one_more = omega (arith, many);
      moved = moved;
      others = others;
      apart = λ f hf out same. omega (arith, low f hf, same);
      part_is = λ d. ap (λ l. get_or l (length weights) d) is
          ∙ get_or_push weights part d (length weights) refl;
      rest_is = λ j d hj ne. ap (λ l. get_or l j d) is
          ∙ get_or_append_left weights (part ∷ []) d j hj;
    }

-- the sizes of the cells then
pub counted_new :
    {Weight : Type 0} (cells cells2 sizes sizes2 : List ℕ) (weights weights2 : List Weight)
    (k many v : ℕ) → AreCounted cells sizes weights → k < length sizes →
    length weights2 ≡ length weights + 1 → sizes2 ≡ set sizes k v ++ many ∷ [] →
    v + many ≡ size_in cells k → length cells2 ≡ length cells →
    ((e : ℕ) → (get_or cells2 e 0 ≡ length weights) ⊎ (get_or cells2 e 0 ≡ get_or cells e 0)) →
    HaveLeft k (length weights) many cells cells2 →
    AreCounted cells2 sizes2 weights2
counted_new cells cells2 sizes sizes2 weights weights2 k many v was hk more is rest len either left =
    let all : length sizes2 ≡ length sizes + 1 =
    ap length is ∙ length_push (set sizes k v) many ∙ ap (λ n. n + 1) (length-set sizes k v) in
    let none : size_in cells (length weights) ≡ 0 =
    size_none cells (length weights)
    (λ e he same. omega (arith, was.in_range e he, was.one_each, same)) in
    let last : get_or sizes2 (length sizes) 0 ≡ many =
    ap (λ l. get_or l (length sizes) 0) is
    ∙ get_or_push (set sizes k v) many 0 (length sizes) (length-set sizes k v) in
    let low : (j : ℕ) → j < length sizes → get_or sizes2 j 0 ≡ get_or (set sizes k v) j 0 =
    λ j hj. ap (λ l. get_or l j 0) is
    ∙ get_or_append_left (set sizes k v) (many ∷ []) 0 j (omega (arith, hj, length-set sizes k v))
    in
    record {
      one_each = omega (arith, all, more, was.one_each);
      in_range = λ e he. elim (either e) [
        | inl new ↦ omega (arith, new, all, was.one_each)
        | inr old ↦ omega (arith, old, all, was.in_range e (omega (arith, he, len)))
      ];
      sizes_are = λ j hj. elim (cases_eq j (length sizes)) [
        | inl at ↦ subst (λ i. get_or sizes2 i 0 ≡ size_in cells2 i) (sym at)
            (last ∙ subst (λ i. many ≡ size_in cells2 i) (sym was.one_each)
            (omega (arith, left.to, none)))
        | inr far ↦ elim (cases_eq j k) [
          | inl at ↦ subst (λ i. get_or sizes2 i 0 ≡ size_in cells2 i) (sym at)
              (low k hk ∙ get_or-set_same sizes k v 0 hk ∙ omega (arith, rest, left.from))
          | inr other ↦ low j (omega (arith, hj, all, far))
              ∙ get_or-set_other sizes k j v 0 other
              ∙ was.sizes_are j (omega (arith, hj, all, far))
              ∙ sym (left.others j (λ e. far (e ∙ sym was.one_each)) other)
        ]
      ];
    }

-- another weight of a cell
pub counted_same :
    {Weight : Type 0} (cells sizes : List ℕ) (weights weights2 : List Weight) →
    length weights2 ≡ length weights → AreCounted cells sizes weights →
    AreCounted cells sizes weights2
counted_same cells sizes weights weights2 len was = record {
  one_each = was.one_each ∙ sym len;
  in_range = was.in_range;
  sizes_are = was.sizes_are;
}

-- the edges of a state are those whose source it is
chosen_many : {X : Type 0} (x : ℕ) (sources : List ℕ) (labels : List X) →
    length sources ≡ length labels → length (chosen x sources labels) ≡ size_in sources x
chosen_many x [] [] e = refl
chosen_many x [] (l ∷ labels) e = absurd (omega arith)
chosen_many x (s ∷ sources) [] e = absurd (omega arith)
chosen_many x (s ∷ sources) (l ∷ labels) e =
    let rest = chosen_many x sources labels (omega arith) in
    elim (cases_eq s x) [
      | inl same ↦ (let t = eq-eqb s x same in rw t (ap suc rest)) ∙ sym (size_yes s x sources same)
      | inr other ↦ (let t = ne_eqb s x other in rw t rest) ∙ sym (size_no s x sources other)
    ]

-- the labels from a state are as many as its edges
pub edges_many : {Label : Type 0} (edges : List (Edge Label)) (x : ℕ) →
    length (labels_from edges x) ≡ size_in (sources_of edges) x
edges_many edges x =
    chosen_many x (sources_of edges) (labels_of edges)
    (length-map edges (λ (e : Edge _). e.source) ∙ sym (length-map edges (λ (e : Edge _). e.label)))

-- the number of one state more
pub counts_more :
    (sources counts out : List ℕ) (n v : ℕ) → out ≡ counts ++ v ∷ [] → length counts ≡ n →
    v ≡ size_in sources n →
    ((y : ℕ) → y < n → get_or counts y 0 ≡ size_in sources y) →
    (y : ℕ) → y < n + 1 → get_or out y 0 ≡ size_in sources y
counts_more sources counts out n v is len here was y hy = elim (cases_eq y n) [
  | inl at ↦ ap (λ l. get_or l y 0) is ∙ get_or_push counts v 0 y (len ∙ sym at) ∙ here
      ∙ ap (size_in sources) (sym at)
  | inr other ↦ ap (λ l. get_or l y 0) is
      ∙ get_or_append_left counts (v ∷ []) 0 y (omega (arith, hy, len, other))
      ∙ was y (omega (arith, hy, other))
]
