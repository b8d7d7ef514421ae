-- Which tokens pass a test, and which letters stand for which nodes.
use Rattle.std.proofs.Common.{◌≡◌, List, [], ◌∷◌, Some, None, Bool, true, false, refl, ap, subst}
use Rattle.std.specs.Prelude.{IsTrue, if◌then◌else◌}
use Rattle.functor_terms.specs.declared.node.Node.{Node}
use Rattle.functor_terms.specs.declared.node.Node.TheVariants.{State, Naturals, Powerset, Bag, Distribution, Integers, Rationals}
use Rattle.functor_terms.specs.declared.sign.Sign.{Sign}
use Rattle.functor_terms.specs.declared.sign.Sign.TheVariants.{X, P, B, D, N, Z, Q, Plus, Times, Caret, Open, Close, CloseBrace, Comma}
use Rattle.functor_terms.specs.Terms.{HasLabels, takes}
use Rattle.functor_terms.specs.Signs.{is_plus, is_times, is_caret, is_open, is_close, is_comma, is_brace_end}
use Rattle.functor_terms.specs.Grammar.{prefix_of, weights_of, letter_of}
use Rattle.functor_terms.specs.Reading.{behind_sign}

-- the test passes this token alone
pub record IsTestOf (passes : Sign → Bool) (sign : Sign) : Type 0 where
  pub itself : passes sign ≡ true
  pub only : (t : Sign) → passes t ≡ true → t ≡ sign

only_plus : (t : Sign) → is_plus t ≡ true → t ≡ Plus
only_plus Plus e = refl
only_plus _ e = cc

-- a plus is told by its test
pub plus_test : IsTestOf is_plus Plus
plus_test = record { itself = refl; only = only_plus }

only_times : (t : Sign) → is_times t ≡ true → t ≡ Times
only_times Times e = refl
only_times _ e = cc

-- a times is told by its test
pub times_test : IsTestOf is_times Times
times_test = record { itself = refl; only = only_times }

only_caret : (t : Sign) → is_caret t ≡ true → t ≡ Caret
only_caret Caret e = refl
only_caret _ e = cc

-- a caret is told by its test
pub caret_test : IsTestOf is_caret Caret
caret_test = record { itself = refl; only = only_caret }

only_open : (t : Sign) → is_open t ≡ true → t ≡ Open
only_open Open e = refl
only_open _ e = cc

-- an open parenthesis is told by its test
pub open_test : IsTestOf is_open Open
open_test = record { itself = refl; only = only_open }

only_close : (t : Sign) → is_close t ≡ true → t ≡ Close
only_close Close e = refl
only_close _ e = cc

-- a closing parenthesis is told by its test
pub close_test : IsTestOf is_close Close
close_test = record { itself = refl; only = only_close }

only_comma : (t : Sign) → is_comma t ≡ true → t ≡ Comma
only_comma Comma e = refl
only_comma _ e = cc

-- a comma is told by its test
pub comma_test : IsTestOf is_comma Comma
comma_test = record { itself = refl; only = only_comma }

only_brace_end : (t : Sign) → is_brace_end t ≡ true → t ≡ CloseBrace
only_brace_end CloseBrace e = refl
only_brace_end _ e = cc

-- the end of braces is told by its test
pub brace_end_test : IsTestOf is_brace_end CloseBrace
brace_end_test = record { itself = refl; only = only_brace_end }

-- the tokens behind a sign
pub behind_is : (passes : Sign → Bool) (sign : Sign) → IsTestOf passes sign → (ts rest : List Sign)
    → behind_sign passes ts ≡ Some rest → ts ≡ sign ∷ rest
behind_is passes sign test [] rest e = cc
behind_is passes sign test (t ∷ ts) rest e = by (passes t) refl e
  where
    by : (b : Bool) → passes t ≡ b → (if b then Some ts else None) ≡ Some rest
        → t ∷ ts ≡ sign ∷ rest
    by true is e = let same : ts ≡ rest = cc in λ i. test.only t is i ∷ same i
    by false is e = cc

-- a sign is behind its test
pub sign_behind : (passes : Sign → Bool) (sign : Sign) → IsTestOf passes sign → (rest : List Sign)
    → behind_sign passes (sign ∷ rest) ≡ Some rest
sign_behind passes sign test rest = ap (λ b. if b then Some rest else None) test.itself

-- a letter of prefixes stands for a node over one child
pub prefix-takes : (t : Sign) (node : Node) → prefix_of t ≡ Some node
    → IsTrue (takes node 1) × HasLabels node
prefix-takes P node e = let same : Powerset ≡ node = cc in
    subst (λ n. IsTrue (takes n 1) × HasLabels n) same (refl, tt)
prefix-takes B node e = let same : Bag ≡ node = cc in subst
    (λ n. IsTrue (takes n 1) × HasLabels n) same (refl, tt)
prefix-takes D node e = let same : Distribution ≡ node = cc in
    subst (λ n. IsTrue (takes n 1) × HasLabels n) same (refl, tt)
prefix-takes _ node e = cc

-- so does a letter of weights
pub weights-takes : (t : Sign) (node : Node) → weights_of t ≡ Some node
    → IsTrue (takes node 1) × HasLabels node
weights-takes N node e = let same : Bag ≡ node = cc in subst
    (λ n. IsTrue (takes n 1) × HasLabels n) same (refl, tt)
weights-takes Z node e = let same : Integers ≡ node = cc in
    subst (λ n. IsTrue (takes n 1) × HasLabels n) same (refl, tt)
weights-takes Q node e = let same : Rationals ≡ node = cc in
    subst (λ n. IsTrue (takes n 1) × HasLabels n) same (refl, tt)
weights-takes _ node e = cc

-- a letter by itself stands for a node without children
pub letter-takes : (t : Sign) (node : Node) → letter_of t ≡ Some node
    → IsTrue (takes node 0) × HasLabels node
letter-takes X node e = let same : State ≡ node = cc in subst
    (λ n. IsTrue (takes n 0) × HasLabels n) same (refl, tt)
letter-takes N node e = let same : Naturals ≡ node = cc in
    subst (λ n. IsTrue (takes n 0) × HasLabels n) same (refl, tt)
letter-takes _ node e = cc

-- a letter of weights is no prefix
pub weights-no_prefix : (t : Sign) (node : Node) → weights_of t ≡ Some node → prefix_of t ≡ None
weights-no_prefix P node e = cc
weights-no_prefix B node e = cc
weights-no_prefix D node e = cc
weights-no_prefix _ node e = refl

-- nor is a letter by itself
pub letter-no_prefix : (t : Sign) (node : Node) → letter_of t ≡ Some node → prefix_of t ≡ None
letter-no_prefix P node e = cc
letter-no_prefix B node e = cc
letter-no_prefix D node e = cc
letter-no_prefix _ node e = refl
