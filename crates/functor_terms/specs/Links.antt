-- The two forms of chains: sums of products, and products of powers. Only private clauses cite
-- these words.
--
-- sign_of link    == the sign between the parts
-- node_of link    == the node over the parts
-- chain_of link   == what reads such a chain
-- item_of link    == what reads a part of it
use Rattle.std.specs.Prelude.{ℕ}
use Rattle.functor_terms.specs.Terms.{Part}
use Rattle.functor_terms.specs.Reading.{Reads, power_at, product_at, sum_at}
use Rattle.functor_terms.specs.declared.ahead.Wanted.{Wanted}
use Rattle.functor_terms.specs.declared.ahead.Wanted.TheVariants as wanted
use Rattle.functor_terms.specs.declared.link.Link.{Link}
use Rattle.functor_terms.specs.declared.link.Link.TheVariants as link
use Rattle.functor_terms.specs.declared.node.Node.{Node}
use Rattle.functor_terms.specs.declared.node.Node.TheVariants as node

-- the sign between the parts
abbrev pub sign_of : Link → Wanted
sign_of link.Sum = wanted.Plus
sign_of link.Product = wanted.Times

-- the node over the parts
abbrev pub node_of : Link → Node
node_of link.Sum = node.Sum
node_of link.Product = node.Product

-- what reads such a chain, where `inside` reads what stands in parentheses
abbrev pub chain_of : Link → (inside : ℕ → Reads Part) → ℕ → Reads Part
chain_of link.Sum inside d = sum_at inside d
chain_of link.Product inside d = product_at inside d

-- what reads a part of it
abbrev pub item_of : Link → (inside : ℕ → Reads Part) → ℕ → Reads Part
item_of link.Sum inside d = product_at inside d
item_of link.Product inside d = power_at inside d
