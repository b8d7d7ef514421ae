-- What each form of the grammar reads, by what is read inside.
use Rattle.std.proofs.Common.{◌≡◌, ℕ, zero, suc, ◌-◌, ◌<◌, ◌∷◌, [], List, Option, Some, None, refl, sym, ap, ◌∙◌, arith}
use Rattle.std.specs.Prelude.{option_and_then, option_map}
use Rattle.std.specs.Option.{option_map_or}
use Rattle.functor_terms.specs.declared.node.LabelSet.{LabelSet}
use Rattle.functor_terms.specs.declared.node.Node.{Node}
use Rattle.functor_terms.specs.declared.sign.Sign.{Sign}
use Rattle.functor_terms.specs.Terms.{Part, AreLabels, depth_limit}
use Rattle.functor_terms.specs.Signs.{is_caret, is_close}
use Rattle.functor_terms.specs.Grammar.{prefix_of}
use Rattle.functor_terms.specs.Reading.{Reads, behind_sign, ended, labels_at, raised, powers_from, over_read, group_at, base_at, prefix_at, power_at, sum_at, inside_at}
use Rattle.functor_terms.proofs.LabelLaws.{labels-sound}
use Rattle.functor_terms.proofs.PartLaws.{labels-are}

-- labels that were read are labels
pub labels-bounded : (ts : List Sign) (labels : LabelSet) (rest : List Sign)
    → labels_at ts ≡ Some (labels, rest) → AreLabels labels
labels-bounded ts labels rest e = let found = labels-sound ts labels rest e in
    labels-are found.front labels found.spelled

-- one turn of the loop that reads exponents
module _ (whole : Option (Part × List Sign)) (n : ℕ) (base : Part) (ts : List Sign)
    (kept : powers_from n base ts ≡ whole) where
  -- too many exponents are no power
  pub powers-out : n ≡ 0 → whole ≡ None
  unfolding powers_from
  powers-out e = sym kept ∙ ap (λ m. powers_from m base ts) e

  module _ (m : ℕ) (more : n ≡ suc m) where
    step : (r : Option (List Sign)) → behind_sign is_caret ts ≡ r
        → whole ≡ option_map_or (λ behind. option_and_then (λ p. powers_from m p.0 p.1)
        (raised base behind)) r (Some (base, ts))
    unfolding powers_from
    step r e =
        sym kept ∙ ap (λ k. powers_from k base ts) more
        ∙ ap (λ q. option_map_or (λ behind. option_and_then (λ p. powers_from m p.0 p.1)
        (raised base behind)) q (Some (base, ts))) e

    -- where no caret follows, the base is the power
    pub powers-end : behind_sign is_caret ts ≡ None → (same : List Sign) → same ≡ ts
        → whole ≡ Some (base, same)
    powers-end e same is = step None e ∙ (λ i. Some (base, sym is i))

    module _ (behind : List Sign) (caret : behind_sign is_caret ts ≡ Some behind) where
      -- where an exponent is not read there is no power
      pub powers-fail : raised base behind ≡ None → whole ≡ None
      powers-fail e = step (Some behind) caret ∙ ap (option_and_then (λ p. powers_from m p.0 p.1)) e

      -- one exponent more, and the others over it
      pub powers-more : (next : Part) (rest : List Sign) → raised base behind ≡ Some (next, rest)
          → powers_from m next rest ≡ whole
      powers-more next rest e = sym (step (Some behind) caret
          ∙ ap (option_and_then (λ p. powers_from m p.0 p.1)) e)

inside-room : (room d : ℕ) (ts : List Sign) → 0 < room
    → inside_at room d ts ≡ sum_at (inside_at (room - 1)) d ts
unfolding inside_at
inside-room zero d ts h = absurd (omega (arith, h))
inside-room (suc n) d ts h = let same : n ≡ suc n - 1 = omega arith in
    ap (λ m. sum_at (inside_at m) d ts) same

-- what stands in parentheses
module _ (room d : ℕ) (ts : List Sign) where
  -- where no more parenthesis may open there is no group
  pub group-shut : room ≡ 0 → group_at (inside_at room d) ts ≡ None
  unfolding inside_at
  group-shut e = ap (λ m. group_at (inside_at m d) ts) e

  module _ (open_left : 0 < room) where
    entered : (r : Option (Part × List Sign)) → sum_at (inside_at (room - 1)) d ts ≡ r
        → group_at (inside_at room d) ts ≡ option_and_then (λ p. ended is_close p.0 p.1) r
    entered r e = ap (option_and_then (λ p. ended is_close p.0 p.1))
        (inside-room room d ts open_left ∙ e)

    -- where the inner term is not read there is no group
    pub group-fails : sum_at (inside_at (room - 1)) d ts ≡ None
        → group_at (inside_at room d) ts ≡ None
    group-fails e = entered None e

    module _ (x : Part) (behind : List Sign) (read : sum_at (inside_at (room - 1)) d ts
        ≡ Some (x, behind)) where
      at_end : (r : Option (List Sign)) → behind_sign is_close behind ≡ r
          → group_at (inside_at room d) ts ≡ option_map {T = List Sign} {U = Part × List Sign}
          (λ rest. (x, rest)) r
      at_end r e = entered (Some (x, behind)) read
          ∙ ap (λ q. option_map {T = List Sign} {U = Part × List Sign} (λ rest. (x, rest)) q) e

      -- where no closing parenthesis follows there is no group
      pub group-open : behind_sign is_close behind ≡ None → group_at (inside_at room d) ts ≡ None
      group-open e = at_end None e

      -- a group ends at its closing parenthesis
      pub group-ends : (rest : List Sign) → behind_sign is_close behind ≡ Some rest
          → group_at (inside_at room d) ts ≡ Some (x, rest)
      group-ends rest e = at_end (Some rest) e

module _ (inside : ℕ → Reads Part) (d : ℕ) (ts : List Sign) where
  -- a term and its exponents
  pub power-fails : prefix_at inside d ts ≡ None → power_at inside d ts ≡ None
  unfolding power_at
  power-fails e = ap (option_and_then (λ p. powers_from depth_limit p.0 p.1)) e

  -- a power is its base and what its exponents make of it
  pub power-is : (base : Part) (rest : List Sign) → prefix_at inside d ts ≡ Some (base, rest)
      → power_at inside d ts ≡ powers_from depth_limit base rest
  unfolding power_at
  power-is base rest e = ap (option_and_then (λ p. powers_from depth_limit p.0 p.1)) e

-- prefixes
prefix-none : (inside : ℕ → Reads Part) (d : ℕ) → prefix_at inside d [] ≡ None
unfolding prefix_at
prefix-none inside zero = refl
prefix-none inside (suc d) = refl

prefix-first : (inside : ℕ → Reads Part) (d : ℕ) (t : Sign) (ts : List Sign) → 0 < d
    → prefix_at inside d (t ∷ ts) ≡ option_map_or
    (λ node. over_read node (prefix_at inside (d - 1) ts)) (prefix_of t)
    (base_at (inside d) (t ∷ ts))
unfolding prefix_at
prefix-first inside zero t ts h = absurd (omega (arith, h))
prefix-first inside (suc d) t ts h =
    let same : d ≡ suc d - 1 = omega arith in
    ap (λ n. option_map_or (λ node. over_read node (prefix_at inside n ts)) (prefix_of t)
    (base_at (inside (suc d)) (t ∷ ts))) same

prefix-other : (inside : ℕ → Reads Part) (d : ℕ) (t : Sign) (ts : List Sign) → prefix_of t ≡ None
    → prefix_at inside d (t ∷ ts) ≡ base_at (inside d) (t ∷ ts)
unfolding prefix_at
prefix-other inside zero t ts e =
    ap (λ r. option_map_or (λ node. None) r (base_at (inside zero) (t ∷ ts))) e
prefix-other inside (suc d) t ts e =
    ap (λ r. option_map_or (λ node. over_read node (prefix_at inside d ts)) r
    (base_at (inside (suc d)) (t ∷ ts))) e

prefix-zero : (inside : ℕ → Reads Part) (t : Sign) (ts : List Sign) (node : Node)
    → prefix_of t ≡ Some node → prefix_at inside 0 (t ∷ ts) ≡ None
unfolding prefix_at
prefix-zero inside t ts node e =
    ap (λ r. option_map_or (λ node. None) r (base_at (inside zero) (t ∷ ts))) e

module _ (inside : ℕ → Reads Part) (d : ℕ) (ts : List Sign) where
  -- behind the end there is no term
  pub prefix-empty : ts ≡ [] → prefix_at inside d ts ≡ None
  prefix-empty e = ap (prefix_at inside d) e ∙ prefix-none inside d

  module _ (t : Sign) (rest : List Sign) (is : ts ≡ t ∷ rest) where
    -- where no prefix stands, there is a base
    pub prefix-alone : prefix_of t ≡ None → prefix_at inside d ts ≡ base_at (inside d) ts
    prefix-alone e = ap (prefix_at inside d) is ∙ prefix-other inside d t rest e
        ∙ sym (ap (base_at (inside d)) is)

    module _ (node : Node) (letter : prefix_of t ≡ Some node) where
      -- where no more prefix may stand there is no term
      pub prefix-deep : d ≡ 0 → prefix_at inside d ts ≡ None
      prefix-deep e = (λ i. prefix_at inside (e i) (is i)) ∙ prefix-zero inside t rest node letter

      -- a prefix stands over the term behind it
      pub prefix-over : 0 < d → prefix_at inside d ts
          ≡ over_read node (prefix_at inside (d - 1) rest)
      prefix-over h = ap (prefix_at inside d) is ∙ prefix-first inside d t rest h
          ∙ ap (λ r. option_map_or (λ n. over_read n (prefix_at inside (d - 1) rest)) r
          (base_at (inside d) (t ∷ rest))) letter

      -- where what stands behind a prefix is not read there is no term
      pub prefix-fails : 0 < d → prefix_at inside (d - 1) rest ≡ None → prefix_at inside d ts ≡ None
      prefix-fails h e = prefix-over h ∙ ap (over_read node) e
