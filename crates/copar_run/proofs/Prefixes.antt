-- What a sink has taken where a text was written in parts.
use Rattle.std.proofs.Common.{◌≡◌, ℕ, ◌+◌, ◌≤◌, arith, List, [], ◌++◌, length, take, min, Option, refl, ap, sym, ◌∙◌}
use Rattle.std.proofs.Math.Seq.{take-append-add}
use Rattle.std.proofs.lemmas.List.{take-append-le, take_min}
use Rattle.std.specs.Io.KnownBytes.{append_known}
use Rattle.outside.proofs.Taking.{append_known_twice}

-- some bytes of the text from its front were taken
abbrev pub TookFront : Option (List ℕ) → Option (List ℕ) → List ℕ → Type 0
TookFront old new text = (n : ℕ) × (new ≡ append_known old (take n text))

-- all of one text was taken, and then a front of the next
pub front_then : (old mid new : Option (List ℕ)) (text rest : List ℕ) → mid ≡ append_known old text
    → TookFront mid new rest → TookFront old new (text ++ rest)
front_then old mid new text rest e f = (
  length text + f.0,
  f.1 ∙ ap (λ m. append_known m (take f.0 rest)) e ∙ append_known_twice old text (take f.0 rest)
      ∙ ap (append_known old) (sym (take-append-add text rest f.0)),
)

-- a front of one text is a front of that text and more
pub front_of : (old new : Option (List ℕ)) (text rest : List ℕ) → TookFront old new text
    → TookFront old new (text ++ rest)
front_of old new text rest f =
    let within : min f.0 (length text) ≤ length text = omega arith in (
      min f.0 (length text),
      f.1 ∙ ap (append_known old) (sym (take-append-le (min f.0 (length text)) text rest within
          ∙ take_min f.0 text)),
    )

-- the whole of two texts
pub whole_then : (old mid new : Option (List ℕ)) (text rest : List ℕ) → mid ≡ append_known old text
    → new ≡ append_known mid rest → new ≡ append_known old (text ++ rest)
whole_then old mid new text rest e f = f ∙ ap (λ m. append_known m rest) e
    ∙ append_known_twice old text rest
