-- What clap's answers say of the line of the words.
use Rattle.std.proofs.Common.{◌≡◌, ◌⊎◌, inl, inr, List, [], ◌∷◌, Option, Some, None, option_map, map, ap, sym, ◌∙◌, Bor, true, refl}
use Rattle.clap.specs.Words.{Row, Text, Kinds, HasKind, all_of, fault_of, first_of, first_value, is_simple, is_simple_and_free, kind_of, matched_of, matches_of, raw_values, rows_of}
use Rattle.clap.specs.declared.error.Error.{Error}
use Rattle.clap.specs.declared.error.kind.ErrorKind.TheVariants.{OutOfMemory}
use Rattle.clap.specs.declared.parser.matches.Found.{Found}
use Rattle.clap.proofs.OnLiterals.{clap_on_literals}
use Rattle.clap.proofs.WalkLemmas.{first_value-rows, raw_values-rows}
use Rattle.command_line.specs.Parser.{copar_app}
use Rattle.command_line.specs.Lines.{line_in, line_unless, line_of}

-- clap tells of this command exactly when and how it fails, and what it has read
pub simple-and-free : is_simple_and_free copar_app ≡ true
unfolding clap_on_literals
simple-and-free = refl

-- what clap is told of the command line is simple
pub simple : is_simple copar_app ≡ true
unfolding clap_on_literals
simple = refl

-- words without a fault have the line of their rows
pub line-taken : (words : List Text) (rows : List Row) → fault_of copar_app words ≡ []
    → rows ≡ matches_of copar_app words → line_of words ≡ Some (line_in rows)
unfolding line_of
line-taken words rows none is =
    ap (λ kinds. line_unless kinds words) none ∙ ap (λ (r : List Row). Some (line_in r)) (sym is)

-- refused words have no line, unless memory was wanting
pub line-refused : (words : List Text) (kinds : Kinds) → fault_of copar_app words ≡ kinds
    → (error : Error) → HasKind kinds error
    → (kind_of error ≡ OutOfMemory) ⊎ (line_of words ≡ None)
unfolding line_of
line-refused words kinds is error (inl wanting) = inl wanting
line-refused words [] is error (inr among) = absurd among
line-refused words (kind ∷ kinds) is error (inr among) =
    inr (ap (λ ks. line_unless ks words) is)

-- what a getter answers is what the rows have
pub first-in : (found : Found) (id : Text) (got : Option (Bor Text)) (was : Option Text)
    → option_map (λ s. s.now) got ≡ first_value found id
    → option_map (λ s. s.now) got ≡ was → first_of id (rows_of found) ≡ was
first-in found id got was e is = sym (first_value-rows found id) ∙ sym e ∙ is

-- what clap found for an argument is all of its words
pub all-in :
    (found : Found) (id : Text) (got : Option (Bor (List (Bor Text)))) (was : Option (List Text))
    → option_map (λ s. map (λ v. v.now) s.now) got ≡ option_map raw_values (matched_of found id)
    → option_map (λ s. map (λ v. v.now) s.now) got ≡ was → all_of id (rows_of found) ≡ was
all-in found id got was e is = sym (raw_values-rows found id) ∙ sym e ∙ is
