-- Trials that words ask for can be drawn.
use Rattle.std.proofs.Common.{◌≡◌, ℕ, ◌<◌, ◌^◌, List, [], ◌∷◌, refl, sym, subst, Option, Some, None, IfSome, Bool, true, false, ◌&&◌, nat_lt, if◌then◌else◌, option_map, bytes_eq, codes}
use Rattle.std.specs.Prelude.{nat_le, ⊤}
use Rattle.std.specs.Option.{option_and_then}
use Rattle.std.specs.Str.Parse.{digits_value}
use Rattle.std.specs.List.{list_any}
use Rattle.std.proofs.lemmas.Bool.{and_parts, ltb-true, leb-true}
use Rattle.trial_texts.specs.declared.kind.TrialKind.{TrialKind}
use Rattle.trial_texts.specs.Text.{IsSized}
use Rattle.command_line.specs.declared.request.Request.{Request as Made}
use Rattle.command_line.specs.Asked.{denoted}
use Rattle.command_line.specs.Lines.{Line, line_of}
use Rattle.command_line.specs.Requests.{Request, Task, IsDrawable, if_none, explain_of, are_pairs, if_bare, check_of, verify_of, kind_of, is_digits, number_in, is_size, size_in, trial_with, trial_of, row_of, is_empty, request_in, asked}

-- what is taken where a test holds
if_taken : {A : Type 0} (P : A → Type 0) (b : Bool) (o p : Option A) → (b ≡ true → IfSome o P)
    → IfSome p P → IfSome (if b then o else p) P
if_taken P true o p f g = f refl
if_taken P false o p f g = g

-- what follows a value that is there
then_some : {A B : Type 0} (P : A → Type 0) (Q : B → Type 0) (f : A → Option B) (o : Option A)
    → IfSome o P → ((a : A) → P a → IfSome (f a) Q) → IfSome (option_and_then f o) Q
then_some P Q f None some next = tt
then_some P Q f (Some a) some next = next a some

-- a number is below its bound
number_below : (word : List ℕ) → IfSome (number_in word) (λ n. n < 2 ^ 64)
number_below word =
    if_taken (λ n. n < 2 ^ 64) (is_digits word && nat_lt (digits_value 10 word) (2 ^ 64))
    (Some (digits_value 10 word)) None
    (λ e. ltb-true (digits_value 10 word) (2 ^ 64)
    (and_parts (is_digits word) (nat_lt (digits_value 10 word) (2 ^ 64)) e).1)
    tt

-- and a size is within its bounds
size_within : (word : List ℕ) → IfSome (size_in word) IsSized
size_within word =
    then_some (λ n. n < 2 ^ 64) IsSized (λ n. if is_size n then Some n else None) (number_in word)
    (number_below word)
    (λ n below. if_taken IsSized (is_size n) (Some n) None
    (λ e. let both = and_parts (nat_lt 0 n) (nat_le n 200000) e in
    (ltb-true 0 n both.0, leb-true n 200000 both.1))
    tt)

trial_drawable : (kind : TrialKind) (seed size : List ℕ)
    → IfSome (trial_with kind seed size) IsDrawable
trial_drawable kind seed size =
    then_some (λ n. n < 2 ^ 64) IsDrawable
    (λ x. option_and_then (λ n. Some (Request.Trial kind x n)) (size_in size)) (number_in seed)
    (number_below seed)
    (λ x below. then_some IsSized IsDrawable (λ n. Some (Request.Trial kind x n)) (size_in size)
    (size_within size) (λ n within. (below, within)))

trial_of_drawable : (word : List ℕ) (rest : List (List ℕ))
    → IfSome (trial_of word rest) IsDrawable
trial_of_drawable word [] = tt
trial_of_drawable word (a ∷ []) = tt
trial_of_drawable word (seed ∷ size ∷ []) =
    then_some (λ _. ⊤) IsDrawable (λ kind. trial_with kind seed size) (kind_of word)
    (any (kind_of word)) (λ kind _. trial_drawable kind seed size)
  where
    any : (o : Option TrialKind) → IfSome o (λ _. ⊤)
    any None = tt
    any (Some kind) = tt
trial_of_drawable word (a ∷ b ∷ d ∷ rest) = tt

none_drawable : (rest : List (List ℕ)) (file : List ℕ) (task : Task)
    → IfSome (if_none rest file task) IsDrawable
none_drawable [] file task = tt
none_drawable (word ∷ rest) file task = tt

explain_drawable : (file : List ℕ) (rest : List (List ℕ)) (stats : Bool)
    → IfSome (explain_of file rest stats) IsDrawable
explain_drawable file rest stats =
    if_taken IsDrawable (are_pairs rest) _ None (λ _. tt) tt

check_drawable : (file : List ℕ) (rest : List (List ℕ)) → IfSome (check_of file rest) IsDrawable
check_drawable file [] = tt
check_drawable file (a ∷ []) = tt
check_drawable file (a ∷ b ∷ rest) = tt

verify_drawable : (file : List ℕ) (rest : List (List ℕ))
    → IfSome (verify_of file rest) IsDrawable
verify_drawable file [] = tt
verify_drawable file (a ∷ []) = tt
verify_drawable file (a ∷ b ∷ rest) = tt

bare_drawable : (stats : Bool) (o : Option Request) → IfSome o IsDrawable
    → IfSome (if_bare stats o) IsDrawable
bare_drawable true o is = tt
bare_drawable false o is = is

row_drawable : (line : Line) → IfSome (row_of line) IsDrawable
row_drawable line =
    if_taken IsDrawable (bytes_eq line.action (codes "blocks")) _ _
    (λ _. none_drawable line.rest line.file (Task.Blocks line.stats))
    (if_taken IsDrawable (bytes_eq line.action (codes "minimise")) _ _
    (λ _. none_drawable line.rest line.file (Task.Minimise line.stats))
    (if_taken IsDrawable (bytes_eq line.action (codes "explain")) _ _
    (λ _. explain_drawable line.file line.rest line.stats)
    (if_taken IsDrawable (bytes_eq line.action (codes "certify")) _ _
    (λ _. none_drawable line.rest line.file (Task.Certify line.stats))
    (if_taken IsDrawable (bytes_eq line.action (codes "check")) _ _
    (λ _. bare_drawable line.stats _ (check_drawable line.file line.rest))
    (if_taken IsDrawable (bytes_eq line.action (codes "verify")) _ _
    (λ _. bare_drawable line.stats _ (verify_drawable line.file line.rest))
    (if_taken IsDrawable (bytes_eq line.action (codes "trial")) _ None
    (λ _. bare_drawable line.stats _ (trial_of_drawable line.file line.rest)) tt))))))

line_drawable : (o : Option Line) → IfSome (request_in o) IsDrawable
line_drawable None = tt
line_drawable (Some line) =
    if_not IsDrawable (list_any is_empty (line.action ∷ line.file ∷ line.rest)) (row_of line)
    (row_drawable line)
  where
    if_not : (P : Request → Type 0) (b : Bool) (o : Option Request) → IfSome o P
        → IfSome (if b then None else o) P
    if_not P true o is = tt
    if_not P false o is = is

-- the request that words make can be drawn, if it is a trial
pub asked_drawable : (words : List (List ℕ)) (made : Option Made)
    → option_map denoted made ≡ asked words
    → IfSome made (λ request. IsDrawable (denoted request))
asked_drawable words made is =
    back made (subst (λ o. IfSome o IsDrawable) (sym is) (line_drawable (line_of words)))
  where
    back : (made : Option Made) → IfSome (option_map denoted made) IsDrawable
        → IfSome made (λ request. IsDrawable (denoted request))
    back None e = e
    back (Some request) e = e
