-- Names of states in trees, and checks that all values pass.
use Rattle.std.proofs.Common.{◌≡◌, ℕ, ◌<◌, ◌≤◌, true, ◌&&◌, List, [], ◌∷◌, length, refl, arith}
use Rattle.std.specs.Prelude.{Ok, ℤ}
use Rattle.std.specs.List.{list_all}
use Rattle.file_cut.specs.declared.tree.Tree.TheVariants as tree
use Rattle.typing.specs.declared.value.Value.{Value}
use Rattle.typing.specs.Fits.{Check}
use Rattle.typing.specs.Bounds.{each_holds, entries_hold}
use Rattle.fitting.specs.declared.fitted.Fitted.TheVariants as fitted
use Rattle.fitting.specs.Fitting.{state_fit}
use Rattle.structure_writer.proofs.Marks.{IsTextOf, word-text}
use Rattle.trial_texts.specs.Text.{name_text}
use Rattle.trial_files.proofs.Names.{names_from, name-is, name-short, name-placed}
use Rattle.trial_files.proofs.Words.{state-reads}

-- ---- sums, where there is no distribution

-- what passes always passes for all of a list
pub pass_all : (f : Check) → ((v : Value) → f v ≡ true) → (vs : List Value) → list_all f vs ≡ true
pass_all f h [] = refl
pass_all f h (v ∷ vs) = (λ i. h v i && pass_all f h vs i)

-- what passes always passes for all entries
pub pass_entries : (f : Check) → ((v : Value) → f v ≡ true) → (es : List (Value × ℤ))
    → entries_hold f es ≡ true
pass_entries f h [] = refl
pass_entries f h (e ∷ es) = (λ i. h e.0 i && pass_entries f h es i)

-- two checks that pass always pass in both places
pub pass_two : (f g : Check) → ((v : Value) → f v ≡ true) → ((v : Value) → g v ≡ true)
    → (vs : List Value) → each_holds (f ∷ g ∷ []) vs ≡ true
pass_two f g hf hg [] = refl
pass_two f g hf hg (v ∷ []) = (λ i. hf v i && true)
pass_two f g hf hg (v ∷ w ∷ vs) = (λ i. hf v i && (hg w i && true))

-- ---- states, of which there are so many

-- the name of a state is read as that state
pub state_reads : (size : ℕ) → size ≤ 200000 → (i : ℕ) → i < size
    → state_fit (names_from 0 size) (tree.Word (name_text i)) ≡ Ok (fitted.State i)
state_reads size few i h =
    state-reads (names_from 0 size) (name_text i) i (name-placed size i few h)

-- the name of a state is the text of its tree
pub state_text : (size : ℕ) → size ≤ 200000 → (n i : ℕ) → i < size
    → IsTextOf n (name_text i) (tree.Word (name_text i))
state_text size few n i h = word-text n (name_text i) (name-is i (omega (arith, h, few)))

-- the name of a state is short
pub state_short : (size : ℕ) → size ≤ 200000 → (i : ℕ) → i < size → length (name_text i) ≤ 7
state_short size few i h = name-short i (omega (arith, h, few))

-- a label and a target, and a target and a weight
abbrev pub IsMove : ℕ → ℕ × ℕ → Type 0
IsMove size p = (p.0 < 3) × (p.1 < size)

-- a state with a small weight
abbrev pub IsSum : ℕ → ℕ × ℕ → Type 0
IsSum size p = (p.0 < size) × (p.1 < 7)
