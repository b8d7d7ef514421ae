-- Bits in words of 64, and the truths that they are.
--
-- bit_is_set, others_stay       == one bit is set
-- room_pushed, room_there       == room for one more bit
-- set_pushed, clear_pushed      == the bit behind the others is set, or not
-- truths_pushed                 == so is the truth behind the others
-- length-truths, truth_here, truth_past     == truths that are numbered
use Rattle.std.proofs.Common.{◌≡◌, ◌≢◌, ◌+◌, ◌*◌, ◌/◌, ◌%◌, ◌^◌, ◌<◌, ◌≤◌, ℕ, zero, suc, Bool, true, false, List, [], ◌∷◌, ◌++◌, length, get_or, bit_or, refl, sym, ◌∙◌, ap, inl, inr, arith, length-append}
use Rattle.std.specs.Prelude.{slice_index, slice_set, ◌==◌}
use Rattle.std.specs.Int.{bit_at, w64}
use Rattle.std.proofs.lemmas.Bool.{cases_eq, cases_lt}
use Rattle.std.proofs.lemmas.List.{get_or-set_same, get_or-set_other}
use Rattle.std.proofs.lemmas.Grind.{get_or-set_at}
use Rattle.std.proofs.lemmas.Nat.Bits.{bit_at_set_same, bit_at_set_other}
use Rattle.evaluation.specs.Truths.{truth_at}
use Rattle.evaluation.specs.Packed.{has_bit, first_truths, ArePacked, HasRoomFor, IsPushed}

-- the words with bit n set
abbrev with_bit : List ℕ → ℕ → List ℕ
with_bit words n =
    slice_set words (n / 64) (bit_or (get_or words (n / 64) 0) (1 * 2 ^ (n % 64) % 2 ^ 64))

below_64 : (n : ℕ) → n % 64 < 64
below_64 n = omega arith

-- the bit is set
pub bit_is_set :
    (words : List ℕ) (n : ℕ) → n / 64 < length words → has_bit (with_bit words n) n ≡ true
bit_is_set words n h =
    let w : ℕ = get_or words (n / 64) 0 in
    let v : ℕ = bit_or w (1 * 2 ^ (n % 64) % 2 ^ 64) in
    ap (λ m. bit_at m (n % 64) == 1) (get_or-set_same words (n / 64) v 0 h)
    ∙ ap (λ b. b == 1) (bit_at_set_same w64 w (n % 64) (below_64 n))

-- the others stay
pub others_stay :
    (words : List ℕ) (n : ℕ) → n / 64 < length words → (x : ℕ) → x ≢ n →
    has_bit (with_bit words n) x ≡ has_bit words x
others_stay words n h x apart =
    let w : ℕ = get_or words (n / 64) 0 in
    let v : ℕ = bit_or w (1 * 2 ^ (n % 64) % 2 ^ 64) in
    elim (cases_eq (x / 64) (n / 64)) [
      | inl same ↦ (
          let places : x % 64 ≢ n % 64 = λ e. apart (omega (arith, same, e)) in
          ap (λ m. bit_at m (x % 64) == 1) (get_or-set_at words (n / 64) (x / 64) v 0 same h)
          ∙ ap (λ b. b == 1) (bit_at_set_other w64 w (n % 64) (below_64 n) (x % 64) places)
          ∙ ap (λ q. bit_at (get_or words q 0) (x % 64) == 1) (sym same))
      | inr other ↦
          ap (λ m. bit_at m (x % 64) == 1) (get_or-set_other words (n / 64) (x / 64) v 0 other)
    ]

push_zero : (words : List ℕ) (i : ℕ) → slice_index (words ++ 0 ∷ []) i ≡ slice_index words i
push_zero [] zero = refl
push_zero [] (suc i) = refl
push_zero (w ∷ words) zero = refl
push_zero (w ∷ words) (suc i) = push_zero words i

-- a word was pushed
pub room_pushed :
    (words : List ℕ) (n : ℕ) → ArePacked words n → n % 64 ≡ 0 →
    HasRoomFor n words (words ++ 0 ∷ [])
room_pushed words n packed first =
    let many : length (words ++ 0 ∷ []) ≡ length words + 1 = length-append words (0 ∷ []) in
    record {
      inside = omega (arith, many, packed.room, packed.tight, first);
      room = omega (arith, many, packed.room, packed.tight, first);
      tight = omega (arith, many, packed.room, packed.tight, first);
      same = λ x. ap (λ m. bit_at m (x % 64) == 1) (push_zero words (x / 64));
    }

-- the last word has room
pub room_there :
    (words : List ℕ) (n : ℕ) → ArePacked words n → n % 64 ≢ 0 → HasRoomFor n words words
room_there words n packed later = record {
  inside = omega (arith, packed.room, later);
  room = omega (arith, packed.room, later);
  tight = omega (arith, packed.tight);
  same = λ x. refl;
}

-- the bit behind the others is set
pub set_pushed :
    (n : ℕ) (old mid new : List ℕ) → ArePacked old n → HasRoomFor n old mid →
    length new ≡ length mid → has_bit new n ≡ true →
    ((x : ℕ) → x ≢ n → has_bit new x ≡ has_bit mid x) → IsPushed n true old new
set_pushed n old mid new packed has len last others = record {
  packed = record {
    room = omega (arith, has.room, len);
    tight = omega (arith, has.tight, len);
    clear = λ x h. others x (λ e. omega (arith, h, e)) ∙ has.same x
        ∙ packed.clear x (omega (arith, h));
  };
  last = last;
  kept = λ x h. others x (λ e. omega (arith, h, e)) ∙ has.same x;
}

-- it is not
pub clear_pushed :
    (n : ℕ) (old new : List ℕ) → ArePacked old n → HasRoomFor n old new → IsPushed n false old new
clear_pushed n old new packed has = record {
  packed = record {
    room = has.room;
    tight = has.tight;
    clear = λ x h. has.same x ∙ packed.clear x (omega (arith, h));
  };
  last = has.same n ∙ packed.clear n (omega arith);
  kept = λ x h. has.same x;
}

-- truths that are numbered
pub length-truths : (f : ℕ → Bool) (n : ℕ) → length (first_truths f n) ≡ n
length-truths f zero = refl
length-truths f (suc n) =
    length-append (first_truths f n) (f n ∷ []) ∙ omega (arith, length-truths f n)

truths_same :
    (f g : ℕ → Bool) (n : ℕ) → ((x : ℕ) → x < n → f x ≡ g x) → first_truths f n ≡ first_truths g n
truths_same f g zero h = refl
truths_same f g (suc n) h =
    let front : first_truths f n ≡ first_truths g n =
    truths_same f g n (λ x l. h x (omega (arith, l))) in
    let last : f n ≡ g n = h n (omega arith) in
    (λ i. front i ++ last i ∷ [])

-- the truth behind the others
pub truths_pushed :
    (n : ℕ) (bit : Bool) (old new : List ℕ) → IsPushed n bit old new →
    first_truths (has_bit new) (n + 1) ≡ first_truths (has_bit old) n ++ bit ∷ []
truths_pushed n bit old new pushed =
    let next : n + 1 ≡ suc n = omega arith in
    let front : first_truths (has_bit new) n ≡ first_truths (has_bit old) n =
    truths_same (has_bit new) (has_bit old) n pushed.kept in
    ap (first_truths (has_bit new)) next ∙ (λ i. front i ++ pushed.last i ∷ [])

at_front :
    (xs : List Bool) (y : Bool) (x : ℕ) → x < length xs → truth_at (xs ++ y ∷ []) x ≡ truth_at xs x
at_front [] y x h = absurd (omega arith)
at_front (b ∷ xs) y zero h = refl
at_front (b ∷ xs) y (suc x) h = at_front xs y x (omega arith)

at_last : (xs : List Bool) (y : Bool) → truth_at (xs ++ y ∷ []) (length xs) ≡ y
at_last [] y = refl
at_last (b ∷ xs) y = at_last xs y

pub truth_here :
    (f : ℕ → Bool) (n x : ℕ) → x < n → truth_at (first_truths f n) x ≡ f x
truth_here f zero x h = absurd (omega arith)
truth_here f (suc n) x h = elim (cases_lt x n) [
  | inl before ↦
      at_front (first_truths f n) (f n) x (omega (arith, before, length-truths f n))
      ∙ truth_here f n x before
  | inr not_before ↦ (
      let same : length (first_truths f n) ≡ x = omega (arith, not_before, h, length-truths f n) in
      let number : n ≡ x = omega (arith, not_before, h) in
      ap (truth_at (first_truths f n ++ f n ∷ [])) (sym same)
      ∙ at_last (first_truths f n) (f n) ∙ ap f number)
]

past : (xs : List Bool) (x : ℕ) → length xs ≤ x → truth_at xs x ≡ false
past [] x h = refl
past (b ∷ xs) zero h = absurd (omega arith)
past (b ∷ xs) (suc x) h = past xs x (omega arith)

pub truth_past :
    (f : ℕ → Bool) (n x : ℕ) → n ≤ x → truth_at (first_truths f n) x ≡ false
truth_past f n x h = past (first_truths f n) x (omega (arith, h, length-truths f n))
