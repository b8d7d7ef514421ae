-- What is read of a whole line.
use Rattle.std.proofs.Common.{◌≡◌, ℕ, List, [], ◌∷◌, Some, None, refl, sym, ap, ◌∙◌, subst}
use Rattle.std.specs.Prelude.{Result, Err}
use Rattle.functor_terms.specs.declared.fault.TermFault.{TermFault}
use Rattle.functor_terms.specs.declared.fault.TermFault.TheVariants.{Grammar, NoMemory}
use Rattle.functor_terms.specs.declared.sign.Sign.{Sign}
use Rattle.functor_terms.specs.Terms.{Nodes, Part, placed, depth_limit}
use Rattle.functor_terms.specs.Signs.{signs}
use Rattle.functor_terms.specs.Grammar.{SpellsTerm, open_limit}
use Rattle.functor_terms.specs.Reading.{Gives, whole, part_at, sum_at, inside_at}
use Rattle.functor_terms.proofs.ReadingLaws.{term-spelled, none-spelled}

module _ (ts : List Sign) where
  pub part-none : sum_at (inside_at open_limit) depth_limit ts ≡ None → part_at ts ≡ None
  unfolding part_at
  part-none e = ap whole e

  -- a fault of grammar says that no part is read
  pub part-err : (e : TermFault) → Gives {A = Part} (Err e)
      (sum_at (inside_at open_limit) depth_limit ts)
      → ◌≡◌ {A = Result Part TermFault} (Err e) (Err Grammar) → part_at ts ≡ None
  part-err Grammar given is = part-none given
  part-err NoMemory given is = cc

  module _ (x : Part) (rest : List Sign) (read : sum_at (inside_at open_limit) depth_limit ts
      ≡ Some (x, rest)) where
    -- no token is left
    pub part-is : rest ≡ [] → part_at ts ≡ Some x
    unfolding part_at
    part-is e = ap whole (read ∙ ap (λ (l : List Sign). Some (x, l)) e)

    -- a token is left
    pub part-more : (t : Sign) (more : List Sign) → rest ≡ t ∷ more → part_at ts ≡ None
    unfolding part_at
    part-more t more e = ap whole (read ∙ ap (λ (l : List Sign). Some (x, l)) e)

-- where no part is read, no term is spelled
pub term-err : (text : List ℕ) (ts : List Sign) (e : TermFault) → ts ≡ signs text
    → (◌≡◌ {A = Result Part TermFault} (Err e) (Err Grammar) → part_at ts ≡ None)
    → ◌≡◌ {A = Result Nodes TermFault} (Err e) (Err Grammar) → (t : Nodes) → SpellsTerm text t → ⊥
term-err text ts Grammar is none e = none-spelled text (ap part_at (sym is) ∙ none refl)
term-err text ts NoMemory is none e = cc

-- the term of the part that was read is spelled
pub term-is : (text : List ℕ) (ts : List Sign) (x : Part) (t : Nodes) → ts ≡ signs text
    → part_at ts ≡ Some x → t ≡ placed 0 x.0 → SpellsTerm text t
term-is text ts x t is read made = subst (SpellsTerm text) (sym made)
    (term-spelled text x (ap part_at (sym is) ∙ read))
