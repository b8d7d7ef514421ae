-- How numbers in parts are read, digit by digit.
use Rattle.std.proofs.Common.{◌≡◌, ℕ, suc, ◌+◌, ◌-◌, ◌*◌, ◌%◌, ◌<◌, ◌≤◌, Bool, true, false, ◌&&◌, List, [], ◌∷◌, length, drop, drop-cons, Some, None, refl, ap, sym, ◌∙◌, arith}
use Rattle.std.specs.Prelude.{if◌then◌else◌, nat_lt, slice_index, ◌==◌, ◌≢◌, ◌++◌, option_map}
use Rattle.std.specs.Fmt.{decimal}
use Rattle.std.proofs.lemmas.Bool.Decides.{nat_tests}
use Rattle.std.proofs.lemmas.Nat.Gcd.{IsGcd-from_mod}
use Rattle.weights.specs.Fractions.{gcd_of}
use Rattle.weights.specs.FractionLaws.{gcd_of-IsGcd, gcd_of_is}
use Rattle.weights.specs.Numerals.{number_after, number_of}
use Rattle.formula_text.specs.Values.{before_end}
use Rattle.formula_text.specs.Numbers.{is_same, number_below}

-- more digits make no number smaller
after-le : (n : ℕ) (ds : List ℕ) → n ≤ number_after n ds
after-le n [] = omega arith
after-le n (d ∷ ds) = omega (arith, after-le (n * 10 + (d - 48)) ds)

and-false : (b : Bool) → (b && false) ≡ false
and-false true = refl
and-false false = refl

-- a number that is not below the bound is none
pub number-over :
    (bound : ℕ) (part : List ℕ) → bound ≤ number_of part → None ≡ number_below bound part
number-over bound part over =
    let n : ℕ = number_of part in
    let same : Bool = is_same (decimal n) part in
    let h : nat_lt (number_of part) bound ≡ false = grind (arith, nat_tests) in
    sym (ap (λ b. if same && b then Some n else None) h
    ∙ ap (λ b. if b then Some n else None) (and-false same))

-- one more digit passes the bound
pub digit-over :
    (bound n i s : ℕ) (part : List ℕ) → i < length part →
    number_after n (drop i part) ≡ number_of part → s ≡ slice_index part i - 48 →
    bound ≤ n * 10 + s → None ≡ number_below bound part
digit-over bound n i s part inside h is over =
    let m : ℕ = n * 10 + (slice_index part i - 48) in
    let all : number_after m (drop (suc i) part) ≡ number_of part =
    ap (number_after n) (sym (drop-cons part i 0 inside)) ∙ h in
    let grown : m ≤ number_after m (drop (suc i) part) = after-le m (drop (suc i) part) in
    number-over bound part (omega arith)

-- Euclid's rule, one step
pub gcd_step : (n d : ℕ) → 2 ≤ d → gcd_of n d ≡ gcd_of d (n % d)
gcd_step n d two =
    let g : ℕ = gcd_of d (n % d) in
    sym (gcd_of_is n d g (IsGcd-from_mod n d g (gcd_of-IsGcd d (n % d))))

-- a list of bytes with a last one
pub before_end-push :
    (b last : ℕ) (front : List ℕ) →
    before_end b (front ++ last ∷ []) ≡ (if last == b then Some front else None)
before_end-push b last [] = refl
before_end-push b last (x ∷ []) = by (last == b)
  where
    by :
        (same : Bool) →
        option_map (λ rest. x ∷ rest) (if same then Some [] else None)
        ≡ (if same then Some (x ∷ []) else None)
    by true = refl
    by false = refl
before_end-push b last (x ∷ y ∷ front) =
    ap (option_map (λ rest. x ∷ rest)) (before_end-push b last (y ∷ front)) ∙ by (last == b)
  where
    by :
        (same : Bool) →
        option_map (λ rest. x ∷ rest) (if same then Some (y ∷ front) else None)
        ≡ (if same then Some (x ∷ y ∷ front) else None)
    by true = refl
    by false = refl

-- the last byte is the one
pub before_end-same :
    (b last : ℕ) (front text : List ℕ) → text ≡ front ++ last ∷ [] → last ≡ b →
    Some front ≡ before_end b text
before_end-same b last front text e same =
    let h : (last == b) ≡ true = grind (arith, nat_tests) in
    sym (ap (before_end b) e
    ∙ before_end-push b last front
    ∙ ap (λ x. if x then Some front else None) h)

-- the last byte is another
pub before_end-other :
    (b last : ℕ) (front text : List ℕ) → text ≡ front ++ last ∷ [] → last ≢ b →
    None ≡ before_end b text
before_end-other b last front text e other =
    let h : (last == b) ≡ false = grind (arith, nat_tests) in
    sym (ap (before_end b) e
    ∙ before_end-push b last front
    ∙ ap (λ x. if x then Some front else None) h)
