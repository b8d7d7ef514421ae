-- Where the edges of a structure begin, among sources that ascend.
--
-- below_more      == a smaller source is one of those that are counted
-- below_done      == no source from one on is counted, if that one is not smaller
-- starts_step     == where the edges of one more structure begin
use Rattle.std.proofs.Common.{◌≡◌, ◌+◌, ◌<◌, ◌≤◌, ℕ, zero, suc, List, [], ◌∷◌, ◌++◌, length, get_or, refl, sym, ◌∙◌, ap, inl, inr, arith, length-append}
use Rattle.std.specs.Prelude.{AllPairs, slice_index}
use Rattle.std.proofs.lemmas.Bool.{cases_lt}
use Rattle.edge_store.specs.Edges.{below}
use Rattle.edge_store.proofs.Counts.{below_apart, at_key}
use Rattle.evaluation.proofs.UseLaws.{push_last}

-- fewer sources are below a smaller number
below_monotone : (y z : ℕ) (keys : List ℕ) → y ≤ z → below y keys ≤ below z keys
below_monotone y z keys h = elim (cases_lt y z) [
  | inl less ↦ omega (arith, below_apart y z keys less)
  | inr not_less ↦ (let same : y ≡ z = omega arith in rw same (omega arith))
]

-- a smaller source is one of those that are counted
pub below_more :
    (x at : ℕ) (keys : List ℕ) → AllPairs (λ a b. a ≤ b) keys → at < length keys →
    get_or keys at 0 < x → at < below x keys
below_more x at keys rise h less =
    let k : ℕ = get_or keys at 0 in
    let range = at_key k at keys rise h refl in
    omega (arith, range.1, below_apart k x keys less)

-- no source from one on is counted, if that one is not smaller
pub below_done :
    (x at : ℕ) (keys : List ℕ) → AllPairs (λ a b. a ≤ b) keys → at < length keys →
    x ≤ get_or keys at 0 → below x keys ≤ at
below_done x at keys rise h more =
    let k : ℕ = get_or keys at 0 in
    let range = at_key k at keys rise h refl in
    omega (arith, range.0, below_monotone x k keys more)

push_before :
    (xs : List ℕ) (v i : ℕ) → i < length xs → slice_index (xs ++ v ∷ []) i ≡ slice_index xs i
push_before [] v i h = absurd (omega arith)
push_before (x ∷ xs) v zero h = refl
push_before (x ∷ xs) v (suc i) h = push_before xs v i (omega arith)

-- where the edges of one more structure begin
pub starts_step :
    (x : ℕ) (keys firsts : List ℕ) (at : ℕ) → length firsts ≡ x →
    ((y : ℕ) → y < x → slice_index firsts y ≡ below y keys) → at ≡ below x keys →
    (length (firsts ++ at ∷ []) ≡ x + 1)
    × ((y : ℕ) → y < x + 1 → slice_index (firsts ++ at ∷ []) y ≡ below y keys)
starts_step x keys firsts at len each is =
    (length-append firsts (at ∷ []) ∙ omega (arith, len), by)
  where
    by : (y : ℕ) → y < x + 1 → slice_index (firsts ++ at ∷ []) y ≡ below y keys
    by y h = elim (cases_lt y x) [
      | inl less ↦ push_before firsts at y (omega (arith, len, less)) ∙ each y less
      | inr not_less ↦ (
          let same : length firsts ≡ y = omega (arith, len, not_less, h) in
          let there : x ≡ y = omega (arith, not_less, h) in
          ap (slice_index (firsts ++ at ∷ [])) (sym same) ∙ push_last firsts at ∙ is
          ∙ ap (λ n. below n keys) there)
    ]
