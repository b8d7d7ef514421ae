-- Where a search of bstr stops is how many bytes at the front it passes.
use Rattle.std.proofs.Common.{◌≡◌, ℕ, List, [], ◌∷◌, length, Some, None, Bool, true, false, refl, sym, ap, ◌∙◌, arith}
use Rattle.std.specs.Prelude.{◌==◌, ◌||◌, not, slice_index}
use Rattle.std.specs.List.{prefix_len}
use Rattle.std.proofs.lemmas.List.Sums.{prefix_len_is}
use Rattle.std.proofs.lemmas.Bool.{not-true}
use Rattle.memchr.specs.Find.{IsFirstByte, Passes, is_byte}
use Rattle.bstr.specs.Bytes.{is_in, not_in}
use Rattle.file_cut.specs.Bytes.{space, tab, is_blank, line_feed}
use Rattle.file_cut.specs.Lines.{is_no_feed}

not-false : (x : Bool) → (not x ≡ true → ⊥) → x ≡ true
not-false true e = refl
not-false false e = absurd (e refl)

module _ (passes stops : ℕ → Bool) (apart : (b : ℕ) → stops b ≡ not (passes b))
    (text : List ℕ) where
  passed : (k : ℕ) → (Passes stops text k → ⊥) → passes (slice_index text k) ≡ true
  passed k other = not-false (passes (slice_index text k))
      (λ e. other (apart (slice_index text k) ∙ e))

  pub found-at : (k : ℕ) → IsFirstByte stops text (Some k) → k ≡ prefix_len passes text
  found-at k (first, stop) =
      sym (prefix_len_is passes text k 0 (omega (arith, first.high))
      (λ j less. passed j (first.before j (omega arith) less))
      (λ _. not-true (passes (slice_index text k)) (sym (apart (slice_index text k)) ∙ stop)))

  pub found-none : IsFirstByte stops text None → length text ≡ prefix_len passes text
  found-none none =
      sym (prefix_len_is passes text (length text) 0 (omega arith)
      (λ j less. passed j (none j (omega arith) less)) (λ less. absurd (omega arith)))

no_blank : (set : List ℕ) → set ≡ space ∷ tab ∷ [] → (b : ℕ) → not_in set b ≡ not (is_blank b)
unfolding is_in
no_blank set is b = ap (λ l. not_in l b) is ∙ by (b == space) (b == tab)
  where
    by : (x y : Bool) → not (x || (y || false)) ≡ not (x || y)
    by true y = refl
    by false true = refl
    by false false = refl

no_feed : (b : ℕ) → is_byte line_feed b ≡ not (is_no_feed b)
no_feed b = by (b == line_feed)
  where
    by : (x : Bool) → x ≡ not (not x)
    by true = refl
    by false = refl

-- a search for a byte other than blanks
module _ (set text : List ℕ) (is : set ≡ space ∷ tab ∷ []) where
  -- the first other byte is where the blanks end
  pub blanks-at : (k : ℕ) → IsFirstByte (not_in set) text (Some k) → k ≡ prefix_len is_blank text
  blanks-at k found = found-at is_blank (not_in set) (no_blank set is) text k found

  -- a text without another byte is blank to its end
  pub blanks-all : IsFirstByte (not_in set) text None → length text ≡ prefix_len is_blank text
  blanks-all none = found-none is_blank (not_in set) (no_blank set is) text none

-- a search for a line feed
pub feed-at : (text : List ℕ) (k : ℕ) → IsFirstByte (is_byte line_feed) text (Some k)
    → k ≡ prefix_len is_no_feed text
feed-at text k found = found-at is_no_feed (is_byte line_feed) no_feed text k found

-- a text without a line feed is one line to its end
pub feed-none : (text : List ℕ) → IsFirstByte (is_byte line_feed) text None
    → length text ≡ prefix_len is_no_feed text
feed-none text none = found-none is_no_feed (is_byte line_feed) no_feed text none
