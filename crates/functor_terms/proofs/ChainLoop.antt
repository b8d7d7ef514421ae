-- One turn of the loop that reads the parts of a chain.
use Rattle.std.proofs.Common.{◌≡◌, ℕ, suc, ◌+◌, ◌-◌, ◌<◌, ◌≤◌, ◌∷◌, [], ◌++◌, List, length, Some, None, true, false, refl, sym, ap, ◌∙◌, arith, length-append}
use Rattle.std.specs.Prelude.{option_and_then}
use Rattle.std.proofs.lemmas.Bool.Decides.{nat_tests}
use Rattle.functor_terms.specs.declared.sign.Sign.{Sign}
use Rattle.functor_terms.specs.declared.link.Link.{Link}
use Rattle.functor_terms.specs.declared.link.Link.TheVariants as link
use Rattle.functor_terms.specs.Terms.{Part, nodes_of, node_limit}
use Rattle.functor_terms.specs.Ahead.{passes}
use Rattle.functor_terms.specs.Links.{sign_of, node_of, chain_of, item_of}
use Rattle.functor_terms.specs.Reading.{Reads, behind_sign, is_few, items_from, chain_over, chain_at, sum_at, product_at}
use Rattle.functor_terms.proofs.OverLaws.{nodes-push}
use Rattle.functor_terms.proofs.LoopLaws.{loop-out, loop-fails, loop-refuses, loop-ends, loop-goes}

-- a chain is read by its parts
chain-is : (l : Link) (inside : ℕ → Reads Part) (d : ℕ) (ts : List Sign)
    → chain_of l inside d ts ≡ chain_at (node_of l) (passes (sign_of l)) (item_of l inside d) ts
unfolding sum_at product_at
chain-is link.Sum inside d ts = refl
chain-is link.Product inside d ts = refl

size : (parts : List Part) (x : Part) → length (nodes_of (parts ++ x ∷ []))
    ≡ length (nodes_of parts) + length x.0
size parts x = ap length (nodes-push parts x) ∙ length-append (nodes_of parts) x.0

few : (parts : List Part) (x : Part) → length (nodes_of parts) + length x.0 ≤ 256
    → is_few parts x ≡ true
few parts x h = let same = size parts x in let le : length (nodes_of (parts ++ x ∷ [])) ≤ 256 =
    omega (arith, same, h) in grind (arith, nat_tests)

many : (parts : List Part) (x : Part) → 256 < length (nodes_of parts) + length x.0
    → is_few parts x ≡ false
many parts x h = let same = size parts x in let gt : 256 < length (nodes_of (parts ++ x ∷ [])) =
    omega (arith, same, h) in grind (arith, nat_tests)

module _ (l : Link) (inside : ℕ → Reads Part) (d : ℕ) (ts : List Sign) where
  -- the parts so far and those that are left are all
  pub record IsChained (parts : List Part) (left : List Sign) (nodes : ℕ) : Type 0 where
    pub kept : items_from (item_of l inside d) (passes (sign_of l)) is_few
        (node_limit - length parts) parts left
        ≡ items_from (item_of l inside d) (passes (sign_of l)) is_few node_limit [] ts
    pub count : nodes ≡ length (nodes_of parts)
    pub bound : nodes ≤ 256

  failed : items_from (item_of l inside d) (passes (sign_of l)) is_few node_limit [] ts ≡ None
      → chain_of l inside d ts ≡ None
  failed e = chain-is l inside d ts ∙ ap (option_and_then (λ p. chain_over (node_of l) p.0 p.1)) e

  pub chain-none : (parts : List Part) → parts ≡ [] → IsChained parts ts 0
  chain-none parts e = record {
    kept = ap (λ (p : List Part). items_from (item_of l inside d) (passes (sign_of l)) is_few
        (node_limit - length p) p ts) e;
    count = sym (ap (λ (p : List Part). length (nodes_of p)) e);
    bound = omega arith;
  }

  module _ (parts : List Part) (left : List Sign) (nodes : ℕ) (is : IsChained parts left nodes)
    where
      -- 256 parts and another link are too many
      pub chain-out : 256 ≤ length parts → chain_of l inside d ts ≡ None
      chain-out full = failed (loop-out (item_of l inside d) (passes (sign_of l)) is_few _
          (node_limit - length parts) parts left is.kept (omega (arith, full)))

      module _ (room : length parts < 256) where
        next : node_limit - length parts ≡ suc (node_limit - (length parts + 1))
        next = omega (arith, room)

        -- where an item is not read there is no chain
        pub chain-fails : item_of l inside d left ≡ None → chain_of l inside d ts ≡ None
        chain-fails e = failed (loop-fails (item_of l inside d) (passes (sign_of l)) is_few _
            (node_limit - length parts) parts left is.kept (node_limit - (length parts + 1)) next e)

        module _ (x : Part) (rest : List Sign) (read : item_of l inside d left ≡ Some (x, rest))
          where
            -- parts with more than 256 nodes are too many
            pub chain-refuses : 256 < nodes + length x.0 → chain_of l inside d ts ≡ None
            chain-refuses h =
                failed (loop-refuses (item_of l inside d) (passes (sign_of l)) is_few _
                (node_limit - length parts) parts left is.kept (node_limit - (length parts + 1))
                next x rest read (many parts x (let c = is.count in omega (arith, h, c))))

            module _ (fits : nodes + length x.0 ≤ 256) (more : List Part)
                (pushed : more ≡ parts ++ x ∷ []) where
              joins : is_few parts x ≡ true
              joins = few parts x (let c = is.count in omega (arith, fits, c))

              -- where no link follows, the chain is over what was read
              pub chain-ends : behind_sign (passes (sign_of l)) rest ≡ None → (same : List Sign)
                  → same ≡ rest → chain_of l inside d ts ≡ chain_over (node_of l) more same
              chain-ends ends same e =
                  chain-is l inside d ts
                  ∙ ap (option_and_then (λ p. chain_over (node_of l) p.0 p.1))
                  (loop-ends (item_of l inside d) (passes (sign_of l)) is_few _
                  (node_limit - length parts) parts left is.kept (node_limit - (length parts + 1))
                  next x rest read joins ends)
                  ∙ (λ i. chain_over (node_of l) (sym pushed i) (sym e i))

              -- where a link follows, the chain goes on
              pub chain-goes : (others : List Sign)
                  → behind_sign (passes (sign_of l)) rest ≡ Some others
                  → IsChained more others (nodes + length x.0)
              chain-goes others follows =
                  let count : node_limit - length more ≡ node_limit - (length parts + 1) =
                  omega (arith, ap length pushed, length-append parts (x ∷ [])) in
                  record {
                    kept = (λ i. items_from (item_of l inside d) (passes (sign_of l)) is_few (count i)
                        (pushed i) others)
                        ∙ loop-goes (item_of l inside d) (passes (sign_of l)) is_few _
                        (node_limit - length parts) parts left is.kept
                        (node_limit - (length parts + 1)) next x rest read joins others follows;
                    count = let c = is.count in omega
                        (arith, c, ap (λ (p : List Part). length (nodes_of p)) pushed, size parts x);
                    bound = fits;
                  }
