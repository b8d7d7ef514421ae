use Rattle.std.proofs.Common.{rules, ◌≡◌, ◌+◌, ◌-◌, ◌<◌, ◌≤◌, ◌∷◌, ◌++◌, [], length, List, Some, None, sym, ap, ◌∙◌, subst, arith}
use Rattle.std.specs.Prelude.{Err}
use Rattle.std.proofs.lemmas.Result.{err_from_is_err_and}
use Rattle.functor_terms.specs.declared.sign.Sign.{Sign}
use Rattle.functor_terms.specs.Ahead.{others, passes}
use Rattle.functor_terms.specs.Grammar.{prefix_of}
use Rattle.functor_terms.specs.Links.{chain_of, item_of, sign_of}
use Rattle.functor_terms.specs.Reading.{Gives, behind_sign, over_read, group_at, sum_at, prefix_at, power_at, inside_at}
use Rattle.functor_terms.proofs.GiveLaws.{gives-err}
use Rattle.functor_terms.proofs.ChainLoop.{chain-out, chain-fails, chain-refuses, chain-ends, chain-goes}
use Rattle.functor_terms.proofs.DescentLaws.{group-shut, group-fails, group-open, group-ends, power-fails, power-is, prefix-empty, prefix-alone, prefix-deep, prefix-over, prefix-fails}
use Rattle.functor_terms.proofs.chain.+reading.Goals as goal

pub chain-returns-in_err-part : goal.chain-returns-in_err-part
chain-returns-in_err-part t c =
    let room : length c.parts.parts.items < 256 = omega (arith, c.parts-test.true, c.len.ensures) in
    let p = err_from_is_err_and c.from_residual.result c.from_residual.ensures.1 in
    rw (p.1, p.2) (gives-err c.in_err-part.field-0.0
    (item_of c.args.link (inside_at c.args.room) c.args.depth c.parts.left)
    (chain_of c.args.link (inside_at c.args.room) c.args.depth c.args.ahead)
    (chain-fails c.args.link (inside_at c.args.room) c.args.depth c.args.ahead
    c.parts.parts.items c.parts.left c.parts.nodes c.parts.invariant room)
    c.in_err-part.ensures)

pub chain-overflow_add-nodes : goal.chain-overflow_add-nodes
chain-overflow_add-nodes t c =
    let few : length c.in_ok-part.part.0 ≤ 256 = c.len-nodes.ensures.within.few in
    omega (arith, c.parts.invariant.bound, c.len-nodes.ensures.count, few)

pub chain-returns-then-nodes-gt-NODE_LIMIT : goal.chain-returns-then-nodes-gt-NODE_LIMIT
chain-returns-then-nodes-gt-NODE_LIMIT t c =
    let room : length c.parts.parts.items < 256 = omega (arith, c.parts-test.true, c.len.ensures) in
    chain-refuses c.args.link (inside_at c.args.room) c.args.depth c.args.ahead c.parts.parts.items
    c.parts.left c.parts.nodes c.parts.invariant room c.in_ok-part.part c.in_ok-part.behind
    c.in_ok-part.ensures (omega (
      arith,
      c.if-nodes-gt-NODE_LIMIT.true,
      c.len-nodes.ensures.count,
    ))

pub chain-parts-preserved : goal.chain-parts-preserved
chain-parts-preserved t c =
    let room : length c.parts.parts.items < 256 = omega (arith, c.parts-test.true, c.len.ensures) in
    let fits : c.parts.nodes + length c.in_ok-part.part.0 ≤ 256 =
    omega (arith, c.if-nodes-gt-NODE_LIMIT.false, c.len-nodes.ensures.count) in
    let pushed : c.push.new.self.items ≡ c.parts.parts.items ++ c.in_ok-part.part ∷ [] =
    search rules in
    let follows : behind_sign (passes (sign_of c.args.link)) c.in_ok-part.behind
    ≡ Some c.in-Ok.rest = ap (λ s. behind_sign (passes s) c.in_ok-part.behind)
    (sym c.sign_of.ensures) ∙ c.in-Ok.ensures in
    let more = chain-goes c.args.link (inside_at c.args.room) c.args.depth c.args.ahead
    c.parts.parts.items c.parts.left c.parts.nodes c.parts.invariant room c.in_ok-part.part
    c.in_ok-part.behind c.in_ok-part.ensures fits c.push.new.self.items pushed c.in-Ok.rest
    follows in
    record {
      kept = more.kept;
      count = omega (arith, more.count, c.len-nodes.ensures.count);
      bound =
          omega (arith, c.if-nodes-gt-NODE_LIMIT.false);
    }

pub chain-returns-in-Err : goal.chain-returns-in-Err
chain-returns-in-Err t c =
    let room : length c.parts.parts.items < 256 = omega (arith, c.parts-test.true, c.len.ensures) in
    let fits : c.parts.nodes + length c.in_ok-part.part.0 ≤ 256 =
    omega (arith, c.if-nodes-gt-NODE_LIMIT.false, c.len-nodes.ensures.count) in
    let pushed : c.push.new.self.items ≡ c.parts.parts.items ++ c.in_ok-part.part ∷ [] =
    search rules in
    let ends : behind_sign (passes (sign_of c.args.link)) c.in_ok-part.behind ≡ None =
    ap (λ s. behind_sign (passes s) c.in_ok-part.behind) (sym c.sign_of.ensures)
    ∙ c.in-Err.ensures.0 in
    subst (Gives c.chain_over.result)
    (sym (chain-ends c.args.link (inside_at c.args.room) c.args.depth c.args.ahead
    c.parts.parts.items c.parts.left c.parts.nodes c.parts.invariant room c.in_ok-part.part
    c.in_ok-part.behind c.in_ok-part.ensures fits c.push.new.self.items pushed ends
    c.in-Err.same c.in-Err.ensures.1)) c.chain_over.ensures

pub chain-returns : goal.chain-returns
chain-returns t c =
    chain-out c.args.link (inside_at c.args.room) c.args.depth c.args.ahead c.parts.parts.items
    c.parts.left c.parts.nodes c.parts.invariant
    (omega (arith, c.parts-test.false, c.len.ensures))

pub group-returns-then-room-eq0 : goal.group-returns-then-room-eq0
group-returns-then-room-eq0 t c = group-shut c.args.room c.args.depth c.args.ahead
    c.if-room-eq0.true

pub group-returns-in_err-inner : goal.group-returns-in_err-inner
group-returns-in_err-inner t c =
    let left : 0 < c.args.room = omega (arith, c.if-room-eq0.false) in
    let p = err_from_is_err_and c.from_residual.result c.from_residual.ensures.1 in
    rw (p.1, p.2) (gives-err c.in_err-inner.field-0.0
    (sum_at (inside_at (c.args.room - 1)) c.args.depth c.args.ahead)
    (group_at (inside_at c.args.room c.args.depth) c.args.ahead)
    (group-fails c.args.room c.args.depth c.args.ahead left) c.in_err-inner.ensures)

pub group-returns-in-Ok : goal.group-returns-in-Ok
group-returns-in-Ok t c =
    let left : 0 < c.args.room = omega (arith, c.if-room-eq0.false) in
    group-ends c.args.room c.args.depth c.args.ahead left c.in_ok-inner.inner c.in_ok-inner.behind
    c.in_ok-inner.ensures c.in-Ok.rest c.in-Ok.ensures

pub group-returns : goal.group-returns
group-returns t c =
    let left : 0 < c.args.room = omega (arith, c.if-room-eq0.false) in
    group-open c.args.room c.args.depth c.args.ahead left c.in_ok-inner.inner c.in_ok-inner.behind
    c.in_ok-inner.ensures c.in-Err.ensures.0

pub power-returns-in_err-base : goal.power-returns-in_err-base
power-returns-in_err-base t c =
    let p = err_from_is_err_and c.from_residual.result c.from_residual.ensures.1 in
    rw (p.1, p.2) (gives-err c.in_err-base.field-0.0
    (prefix_at (inside_at c.args.room) c.args.depth c.args.ahead)
    (power_at (inside_at c.args.room) c.args.depth c.args.ahead)
    (power-fails (inside_at c.args.room) c.args.depth c.args.ahead) c.in_err-base.ensures)

pub power-returns : goal.power-returns
power-returns t c =
    subst (Gives c.powers.result)
    (sym (power-is (inside_at c.args.room) c.args.depth c.args.ahead c.in_ok-base.base
    c.in_ok-base.ahead c.in_ok-base.ensures)) c.powers.ensures

pub prefix-returns-in_default : goal.prefix-returns-in_default
prefix-returns-in_default t c = prefix-empty (inside_at c.args.room) c.args.depth c.args.ahead
    c.in_default.ensures

pub prefix-returns-then-depth-eq0 : goal.prefix-returns-then-depth-eq0
prefix-returns-then-depth-eq0 t c =
    let letter : prefix_of c.in-Some.sign.now ≡ Some c.in-Some-prefix_of.node =
    sym c.in-Some-prefix_of.ensures.node in
    prefix-deep (inside_at c.args.room) c.args.depth c.args.ahead c.in-Some.sign.now
    (others c.args.ahead) c.in-Some.ensures.0 c.in-Some-prefix_of.node letter
    c.if-depth-eq0.true

pub prefix-returns-in_err-inner-in-Some-prefix_of :
    goal.prefix-returns-in_err-inner-in-Some-prefix_of
prefix-returns-in_err-inner-in-Some-prefix_of t c =
    let letter : prefix_of c.in-Some.sign.now ≡ Some c.in-Some-prefix_of.node =
    sym c.in-Some-prefix_of.ensures.node in
    let more : 0 < c.args.depth = omega (arith, c.if-depth-eq0.false) in
    let p = err_from_is_err_and c.from_residual.result c.from_residual.ensures.1 in
    rw (p.1, p.2) (gives-err c.in_err-inner-in-Some-prefix_of.field-0.0
    (prefix_at (inside_at c.args.room) (c.args.depth - 1) (others c.args.ahead))
    (prefix_at (inside_at c.args.room) c.args.depth c.args.ahead)
    (prefix-fails (inside_at c.args.room) c.args.depth c.args.ahead c.in-Some.sign.now
    (others c.args.ahead) c.in-Some.ensures.0 c.in-Some-prefix_of.node letter more)
    (subst (λ (l : List Sign). Gives (Err c.in_err-inner-in-Some-prefix_of.field-0.0)
    (prefix_at (inside_at c.args.room) (c.args.depth - 1) l)) c.others.ensures
    c.in_err-inner-in-Some-prefix_of.ensures))

pub prefix-returns-in_ok-inner-in-Some-prefix_of : goal.prefix-returns-in_ok-inner-in-Some-prefix_of
prefix-returns-in_ok-inner-in-Some-prefix_of t c =
    let letter : prefix_of c.in-Some.sign.now ≡ Some c.in-Some-prefix_of.node =
    sym c.in-Some-prefix_of.ensures.node in
    let more : 0 < c.args.depth = omega (arith, c.if-depth-eq0.false) in
    let read : prefix_at (inside_at c.args.room) (c.args.depth - 1) (others c.args.ahead)
    ≡ Some (c.in_ok-inner-in-Some-prefix_of.inner, c.in_ok-inner-in-Some-prefix_of.ahead) =
    ap (prefix_at (inside_at c.args.room) (c.args.depth - 1)) (sym c.others.ensures)
    ∙ c.in_ok-inner-in-Some-prefix_of.ensures in
    subst (Gives c.made_over_one.result)
    (sym (prefix-over (inside_at c.args.room) c.args.depth c.args.ahead c.in-Some.sign.now
    (others c.args.ahead) c.in-Some.ensures.0 c.in-Some-prefix_of.node letter more
    ∙ ap (over_read c.in-Some-prefix_of.node) read))
    c.made_over_one.ensures

pub prefix-returns-in-None : goal.prefix-returns-in-None
prefix-returns-in-None t c =
    let other : prefix_of c.in-Some.sign.now ≡ None = sym c.in-None.ensures.node in
    subst (Gives c.base.result)
    (sym (prefix-alone (inside_at c.args.room) c.args.depth c.args.ahead c.in-Some.sign.now
    (others c.args.ahead) c.in-Some.ensures.0 other)) c.base.ensures
