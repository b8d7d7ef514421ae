-- What the arrays of a store say of the edges that it is seen as.
use Rattle.std.proofs.Common.{◌≡◌, ◌<◌, ℕ, suc, List, [], ◌∷◌, length, zero-add, refl, sym, ◌∙◌, ap, subst, arith}
use Rattle.std.specs.Prelude.{Contains}
use Rattle.edge_store.specs.declared.edge.Edge.{Edge}
use Rattle.edge_store.specs.Edges.{Graph, sources_of, labels_of, targets_of, edges_into, AreEdgesInto}
use Rattle.edge_store.specs.Stored.{edges_of, IsStored}
use Rattle.edge_store.proofs.Places.{places_each, places_every, places_ascend}

-- the sources of edges put together
pub sources-edges_of : {Label : Type 0} (s : List ℕ) (l : List Label) (t : List ℕ) →
    length l ≡ length s → length t ≡ length s → sources_of (edges_of s l t) ≡ s
sources-edges_of [] l t e f = refl
sources-edges_of (s ∷ ss) [] t e f = absurd (omega arith)
sources-edges_of (s ∷ ss) (l ∷ ls) [] e f = absurd (omega arith)
sources-edges_of (s ∷ ss) (l ∷ ls) (t ∷ ts) e f =
    ap (λ xs. s ∷ xs) (sources-edges_of ss ls ts (omega arith) (omega arith))

-- the labels of edges put together
pub labels-edges_of : {Label : Type 0} (s : List ℕ) (l : List Label) (t : List ℕ) →
    length l ≡ length s → length t ≡ length s → labels_of (edges_of s l t) ≡ l
labels-edges_of [] [] t e f = refl
labels-edges_of [] (l ∷ ls) t e f = absurd (omega arith)
labels-edges_of (s ∷ ss) [] t e f = absurd (omega arith)
labels-edges_of (s ∷ ss) (l ∷ ls) [] e f = absurd (omega arith)
labels-edges_of (s ∷ ss) (l ∷ ls) (t ∷ ts) e f =
    ap (λ xs. l ∷ xs) (labels-edges_of ss ls ts (omega arith) (omega arith))

-- the targets of edges put together
pub targets-edges_of : {Label : Type 0} (s : List ℕ) (l : List Label) (t : List ℕ) →
    length l ≡ length s → length t ≡ length s → targets_of (edges_of s l t) ≡ t
targets-edges_of [] l [] e f = refl
targets-edges_of [] l (t ∷ ts) e f = absurd (omega arith)
targets-edges_of (s ∷ ss) [] t e f = absurd (omega arith)
targets-edges_of (s ∷ ss) (l ∷ ls) [] e f = absurd (omega arith)
targets-edges_of (s ∷ ss) (l ∷ ls) (t ∷ ts) e f =
    ap (λ xs. t ∷ xs) (targets-edges_of ss ls ts (omega arith) (omega arith))

length-edges_of : {Label : Type 0} (s : List ℕ) (l : List Label) (t : List ℕ) →
    length l ≡ length s → length t ≡ length s → length (edges_of s l t) ≡ length s
length-edges_of [] l t e f = refl
length-edges_of (s ∷ ss) [] t e f = absurd (omega arith)
length-edges_of (s ∷ ss) (l ∷ ls) [] e f = absurd (omega arith)
length-edges_of (s ∷ ss) (l ∷ ls) (t ∷ ts) e f =
    ap suc (length-edges_of ss ls ts (omega arith) (omega arith))

-- edges are made of their parts
pub edges_of_parts : {Label : Type 0} (es : List (Edge Label)) →
    edges_of (sources_of es) (labels_of es) (targets_of es) ≡ es
edges_of_parts [] = refl
edges_of_parts (e ∷ es) = ap (λ xs. e ∷ xs) (edges_of_parts es)

-- the arrays show these states and edges
pub record Show {Label : Type 0} (n : ℕ) (s : List ℕ) (l : List Label) (t : List ℕ)
    (seen : Graph Label) : Type 0 where
  pub states : seen.states ≡ n
  pub edges : length seen.edges ≡ length s
  pub sources : sources_of seen.edges ≡ s
  pub labels : labels_of seen.edges ≡ l
  pub targets : targets_of seen.edges ≡ t

-- what is stored is what is seen
pub shown : {Label : Type 0} {n : ℕ} {s : List ℕ} {l : List Label} {t from into numbers : List ℕ}
    {seen : Graph Label} → IsStored n s l t from into numbers →
    ◌≡◌ {A = Graph Label} (record { states = n; edges = edges_of s l t }) seen → Show n s l t seen
shown {Label = Label} {s = s} {l = l} {t = t} stored is = record {
  states = ap (λ (v : Graph Label). v.states) (sym is);
  edges =
      ap (λ (v : Graph Label). length v.edges) (sym is)
      ∙ length-edges_of s l t stored.labels_len stored.targets_len;
  sources =
      ap (λ (v : Graph Label). sources_of v.edges) (sym is)
      ∙ sources-edges_of s l t stored.labels_len stored.targets_len;
  labels =
      ap (λ (v : Graph Label). labels_of v.edges) (sym is)
      ∙ labels-edges_of s l t stored.labels_len stored.targets_len;
  targets =
      ap (λ (v : Graph Label). targets_of v.edges) (sym is)
      ∙ targets-edges_of s l t stored.labels_len stored.targets_len;
}

-- a state that is seen is one of the arrays
pub state_in : {Label : Type 0} {n x : ℕ} {s : List ℕ} {l : List Label} {t : List ℕ}
    {seen : Graph Label} → Show n s l t seen → x < seen.states → x < n
state_in {x = x} show h = subst (λ k. x < k) show.states h

-- and so is an edge
pub edge_in : {Label : Type 0} {n e : ℕ} {s : List ℕ} {l : List Label} {t : List ℕ}
    {seen : Graph Label} → Show n s l t seen → e < length seen.edges → e < length s
edge_in {e = e} show h = subst (λ k. e < k) show.edges h

-- the places of a target are exactly the edges into it
pub places_exact : {Label : Type 0} {n : ℕ} {s : List ℕ} {l : List Label} {t : List ℕ}
    {seen : Graph Label} (y : ℕ) → Show n s l t seen → length t ≡ length s →
    AreEdgesInto seen.edges y (edges_into seen.edges y)
places_exact {seen = seen} y show len =
    let same : length (targets_of seen.edges) ≡ length seen.edges =
    ap length show.targets ∙ len ∙ sym show.edges in
    record {
      each = λ k d h. (
          let here = places_each y (targets_of seen.edges) k d h in
          (omega (arith, here.0, same), here.1));
      every = λ e he at.
          subst (λ n. Contains (edges_into seen.edges y) n) (zero-add e)
          (places_every 0 y e (targets_of seen.edges) (omega (arith, same)) at);
      ascending = places_ascend 0 y (targets_of seen.edges);
    }
