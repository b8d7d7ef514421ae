use Rattle.std.proofs.Common.{◌≡◌, ◌<◌, take}
use Rattle.std.specs.Prelude.{IsTrue}
use Rattle.std.specs.Char.{is_ascii_digit}
use Rattle.std.specs.List.{list_all}
use Rattle.std.specs.Str.Parse.{digits_value}
use Rattle.functor_terms.proofs.label_set.number_below.Given as goal

-- digits so far, and their value, which is below the bound
abbrev pub invariant-loop-byte : goal.invariant-loop-byte
invariant-loop-byte l = record {
  digits : IsTrue (list_all is_ascii_digit (take l.byte-index l.word));
  is_value : l.value ≡ digits_value 10 (take l.byte-index l.word);
  below : l.value < l.n;
}
