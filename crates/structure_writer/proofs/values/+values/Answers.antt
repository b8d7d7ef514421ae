use Rattle.std.proofs.Common.{rules, to_z, of_z, ◌≡◌, ◌<◌, ◌++◌, Some, None, slice_get, length, map, refl, sym, ap, ◌∙◌, append-nil}
use Rattle.std.specs.Prelude.{List, codes, ◌==◌, [], if◌then◌else◌}
use Rattle.std.proofs.lemmas.Option.{slice_get_read}
use Rattle.std.specs.Int.{w128}
use Rattle.std.proofs.lemmas.Grind.{common_steps}
use Rattle.typing.specs.declared.value.Value.{the_lemmas}
use Rattle.std.proofs.lemmas.Result.{on_ok_weaker}
use Rattle.functor_terms.specs.declared.node.Node.TheVariants.{Product, Sum, Power, Powerset}
use Rattle.functor_terms.specs.Terms.{children_at}
use Rattle.functor_terms.proofs.TextSteps.{join-turn, shown-child}
use Rattle.typing.proofs.TermFacts.{child_later}
use Rattle.structure_writer.specs.Text.{Write, write_at, text_at, child_texts, part_texts, keyed_texts, entry_texts, entry_text, label_word, paired, weight_text, weights_text, listed, in_braces, in_parentheses}
use Rattle.structure_writer.proofs.Steps
use Rattle.structure_writer.proofs.values.+values.Goals as goal

pub push_child-push_value-requires : goal.push_child-push_value-requires
push_child-push_value-requires t c =
    let e : slice_get (children_at c.args.term.now c.args.p) c.args.k ≡ Some c.in-Some.child.now =
    ap (λ qs. slice_get qs c.args.k) (sym c.children.ensures.children)
    ∙ sym c.in-Some.ensures in
    let w : (c.args.p < c.in-Some.child.now) × (c.in-Some.child.now < length c.args.term.now) =
    child_later c.args.term.now c.is_term.ensures c.args.p c.args.k c.in-Some.child.now
    e in
    (search rules, (w.1, c.requires.positive))

pub push_child-returns-in-Some : goal.push_child-returns-in-Some
push_child-returns-in-Some t c =
    let e : slice_get (children_at c.args.term.now c.args.p) c.args.k ≡ Some c.in-Some.child.now =
    ap (λ qs. slice_get qs c.args.k) (sym c.children.ensures.children)
    ∙ sym c.in-Some.ensures in
    on_ok_weaker c.push_value.result
    (λ known. known ∙ ap (λ text. c.args.text.now.items ++ text)
    (sym (ap (λ (w : Write). w c.args.value.now)
    (Steps.write_found (text_at c.args.l c.args.names.now c.args.term.now)
    (children_at c.args.term.now c.args.p) c.args.k c.in-Some.child.now e)))) c.push_value.ensures

pub push_child-returns-in-None : goal.push_child-returns-in-None
push_child-returns-in-None t c =
    let e : slice_get (children_at c.args.term.now c.args.p) c.args.k ≡ None =
    ap (λ qs. slice_get qs c.args.k) (sym c.children.ensures.children)
    ∙ sym c.in-None.ensures in
    sym (ap (λ text. c.args.text.now.items ++ text) (ap (λ (w : Write). w c.args.value.now)
    (Steps.write_none (text_at c.args.l c.args.names.now c.args.term.now)
    (children_at c.args.term.now c.args.p) c.args.k e)) ∙ append-nil c.args.text.now.items)

pub push_power-loop-k-init : goal.push_power-loop-k-init
push_power-loop-k-init t c = sym (append-nil c.push.new.self.items)

pub push_power-loop-k-preserved : goal.push_power-loop-k-preserved
push_power-loop-k-preserved t c =
    let ws : List Write = child_texts c.args.l c.args.names.now c.args.term.now c.args.p in
    let w : Write = write_at ws 0 in
    let at : slice_get c.args.parts.now c.loop-k.k ≡ Some c.index-parts-k.result =
    slice_get_read c.args.parts.now (length c.args.parts.now) c.loop-k.k c.index-parts-k.result refl
    c.loop-k-test.true c.index-parts-k.is in
    join-turn (λ text. text) (codes ", ") (keyed_texts c.args.labels.now w 0 c.args.parts.now)
    c.loop-k.k
    (paired (label_word c.args.labels.now c.loop-k.k) (w c.index-parts-k.result))
    c.push.new.self.items c.loop-k.text.items c.push_before.new.text.items
    c.push_child.new.text.items
    (Steps.first-keyed c.args.labels.now w c.args.parts.now c.loop-k.k c.index-parts-k.result at)
    c.loop-k.invariant
    (c.in_ok-push_before.ensures ∙ ap (λ l. c.loop-k.text.items ++ (if c.loop-k.k == 0 then [] else
    l)) c.as_slice.ensures)
    (Steps.put-pair c.push_before.new.text.items (label_word c.args.labels.now c.loop-k.k)
    (w c.index-parts-k.result) c.push_label.new.text.items c.extend_from_slice.new.self.items
    c.push_child.new.text.items
    c.in_ok-push_label.ensures (c.in_ok-extend_from_slice.ensures.items ∙ ap (λ l.
    c.push_label.new.text.items ++ l) c.as_slice-in-loop-k.ensures) c.in_ok-push_child.ensures)

pub push_power-returns : goal.push_power-returns
push_power-returns t c =
    let ws : List Write = child_texts c.args.l c.args.names.now c.args.term.now c.args.p in
    let w : Write = write_at ws 0 in
    Steps.put-closed (codes "{") (codes "}") c.args.text.now.items c.push.new.self.items
    c.loop-k.text.items c.push-2.new.self.items (keyed_texts c.args.labels.now w 0 c.args.parts.now)
    (length c.args.parts.now) c.loop-k.k (Steps.keyed-length c.args.labels.now w 0 c.args.parts.now)
    c.loop-k-test.false c.in_ok-push.ensures.items c.loop-k.invariant
    c.in_ok-push-2.ensures.items

pub push_set-loop-k-init : goal.push_set-loop-k-init
push_set-loop-k-init t c = sym (append-nil c.push.new.self.items)

pub push_set-loop-k-preserved : goal.push_set-loop-k-preserved
push_set-loop-k-preserved t c =
    let ws : List Write = child_texts c.args.l c.args.names.now c.args.term.now c.args.p in
    let w : Write = write_at ws 0 in
    let at : slice_get c.args.members.now c.loop-k.k ≡ Some c.index-members-k.result =
    slice_get_read c.args.members.now (length c.args.members.now) c.loop-k.k
    c.index-members-k.result refl
    c.loop-k-test.true c.index-members-k.is in
    join-turn (λ text. text) (codes ", ") (map w c.args.members.now) c.loop-k.k
    (w c.index-members-k.result)
    c.push.new.self.items c.loop-k.text.items c.push_before.new.text.items
    c.push_child.new.text.items
    (shown-child w c.args.members.now c.loop-k.k c.index-members-k.result at) c.loop-k.invariant
    (c.in_ok-push_before.ensures ∙ ap (λ l. c.loop-k.text.items ++ (if c.loop-k.k == 0 then [] else
    l)) c.as_slice.ensures)
    c.in_ok-push_child.ensures

pub push_set-returns : goal.push_set-returns
push_set-returns t c =
    let ws : List Write = child_texts c.args.l c.args.names.now c.args.term.now c.args.p in
    let w : Write = write_at ws 0 in
    Steps.put-closed (codes "{") (codes "}") c.args.text.now.items c.push.new.self.items
    c.loop-k.text.items c.push-2.new.self.items
    (map w
    c.args.members.now) (length c.args.members.now) c.loop-k.k
    (Steps.map-length w
    c.args.members.now) c.loop-k-test.false c.in_ok-push.ensures.items c.loop-k.invariant
    c.in_ok-push-2.ensures.items

pub push_tuple-loop-k-init : goal.push_tuple-loop-k-init
push_tuple-loop-k-init t c = sym (append-nil c.push.new.self.items)

pub push_tuple-loop-k-preserved : goal.push_tuple-loop-k-preserved
push_tuple-loop-k-preserved t c =
    let ws : List Write = child_texts c.args.l c.args.names.now c.args.term.now c.args.p in
    let at : slice_get c.args.parts.now c.loop-k.k ≡ Some c.index-parts-k.result =
    slice_get_read c.args.parts.now (length c.args.parts.now) c.loop-k.k c.index-parts-k.result refl
    c.loop-k-test.true c.index-parts-k.is in
    join-turn (λ text. text) (codes ", ") (part_texts ws 0 c.args.parts.now) c.loop-k.k
    (write_at ws c.loop-k.k c.index-parts-k.result)
    c.push.new.self.items c.loop-k.text.items c.push_before.new.text.items
    c.push_child.new.text.items
    (Steps.first-text ws c.args.parts.now c.loop-k.k c.index-parts-k.result at) c.loop-k.invariant
    (c.in_ok-push_before.ensures ∙ ap (λ l. c.loop-k.text.items ++ (if c.loop-k.k == 0 then [] else
    l)) c.as_slice.ensures)
    c.in_ok-push_child.ensures

pub push_tuple-returns : goal.push_tuple-returns
push_tuple-returns t c =
    let ws : List Write = child_texts c.args.l c.args.names.now c.args.term.now c.args.p in
    Steps.put-closed (codes "(") (codes ")") c.args.text.now.items c.push.new.self.items
    c.loop-k.text.items c.push-2.new.self.items (part_texts ws 0 c.args.parts.now)
    (length c.args.parts.now) c.loop-k.k (Steps.parts-length ws 0 c.args.parts.now)
    c.loop-k-test.false c.in_ok-push.ensures.items c.loop-k.invariant
    c.in_ok-push-2.ensures.items

pub push_value-returns-in-Product : goal.push_value-returns-in-Product
push_value-returns-in-Product t c =
    let ws : List Write = child_texts c.args.l c.args.names.now c.args.term.now c.args.p in
    on_ok_weaker c.push_tuple.result
    (λ put. Steps.put-step c.args.l c.args.names.now c.args.term.now c.is_term.ensures c.args.p
    c.requires.node c.node.result.now c.node.ensures Product c.in-Product.is c.args.value.now
    c.args.text.now.items _ c.push_tuple.new.text.items put (ap (λ vs. in_parentheses (listed
    (part_texts ws 0 vs))) c.parts.ensures)) c.push_tuple.ensures

pub push_value-returns-in-Sum : goal.push_value-returns-in-Sum
push_value-returns-in-Sum t c =
    on_ok_weaker c.push_inj.result
    (λ put. Steps.put-step c.args.l c.args.names.now c.args.term.now c.is_term.ensures c.args.p
    c.requires.node c.node.result.now c.node.ensures Sum c.in-Sum.is c.args.value.now
    c.args.text.now.items _ c.push_inj.new.text.items put refl) c.push_inj.ensures

pub push_value-returns-in-Power : goal.push_value-returns-in-Power
push_value-returns-in-Power t c =
    let ws : List Write = child_texts c.args.l c.args.names.now c.args.term.now c.args.p in
    let w : Write = write_at ws 0 in
    on_ok_weaker c.push_power.result
    (λ put. Steps.put-step c.args.l c.args.names.now c.args.term.now c.is_term.ensures c.args.p
    c.requires.node c.node.result.now c.node.ensures (Power c.in-Power.labels) c.in-Power.is
    c.args.value.now
    c.args.text.now.items _ c.push_power.new.text.items put (ap (λ vs. in_braces (listed
    (keyed_texts c.in-Power.labels w 0 vs))) c.parts-in-Power.ensures)) c.push_power.ensures

pub push_value-returns-in-Powerset : goal.push_value-returns-in-Powerset
push_value-returns-in-Powerset t c =
    let ws : List Write = child_texts c.args.l c.args.names.now c.args.term.now c.args.p in
    let w : Write = write_at ws 0 in
    on_ok_weaker c.push_set.result
    (λ put. Steps.put-step c.args.l c.args.names.now c.args.term.now c.is_term.ensures c.args.p
    c.requires.node c.node.result.now c.node.ensures Powerset c.in-Powerset.is c.args.value.now
    c.args.text.now.items _ c.push_set.new.text.items put (ap (λ vs. in_braces (listed (map w vs)))
    c.parts-in-Powerset.ensures)) c.push_set.ensures

pub push_value-returns-in-Bag : goal.push_value-returns-in-Bag
push_value-returns-in-Bag t c =
    let ws : List Write = child_texts c.args.l c.args.names.now c.args.term.now c.args.p in
    on_ok_weaker c.push_weights.result
    (λ put. Steps.put-step c.args.l c.args.names.now c.args.term.now c.is_term.ensures c.args.p
    c.requires.node c.node.result.now c.node.ensures c.node.result.now refl c.args.value.now
    c.args.text.now.items _ c.push_weights.new.text.items put
    (ap (λ n. weights_text c.args.l n ws c.args.value.now) (sym c.node.ensures)
    ∙ Steps.weights-step c.args.l c.args.names.now c.node.result.now
    ws c.args.value.now c.in-Bag.is)) c.push_weights.ensures

pub push_weights-loop-k-init : goal.push_weights-loop-k-init
push_weights-loop-k-init t c = sym (append-nil c.push.new.self.items)

pub push_weights-loop-k-preserved : goal.push_weights-loop-k-preserved
push_weights-loop-k-preserved t c =
    let ws : List Write = child_texts c.args.l c.args.names.now c.args.term.now c.args.p in
    let w : Write = write_at ws 0 in
    let same : to_z w128 (of_z w128 c.index-entries-k.result.1) ≡ c.index-entries-k.result.1 =
    search (rules, the_lemmas, common_steps) in
    let at : slice_get c.entries-entries.result.now c.loop-k.k ≡ Some c.index-entries-k.result =
    slice_get_read c.entries-entries.result.now (length c.entries-entries.result.now) c.loop-k.k
    c.index-entries-k.result refl
    c.loop-k-test.true c.index-entries-k.is in
    join-turn (λ text. text) (codes ", ") (entry_texts c.args.l c.node-node.result.now w
    c.entries-entries.result.now) c.loop-k.k
    ((entry_text c.args.l c.node-node.result.now w) c.index-entries-k.result)
    c.push.new.self.items c.loop-k.text.items c.push_before.new.text.items
    c.push_weight.new.text.items
    (shown-child (entry_text c.args.l c.node-node.result.now w) c.entries-entries.result.now
    c.loop-k.k c.index-entries-k.result at) c.loop-k.invariant
    (c.in_ok-push_before.ensures ∙ ap (λ l. c.loop-k.text.items ++ (if c.loop-k.k == 0 then [] else
    l)) c.as_slice.ensures)
    (Steps.put-pair c.push_before.new.text.items (w c.index-entries-k.result.0)
    (weight_text c.args.l c.node-node.result.now c.index-entries-k.result.1)
    c.push_child.new.text.items c.extend_from_slice.new.self.items c.push_weight.new.text.items
    c.in_ok-push_child.ensures (c.in_ok-extend_from_slice.ensures.items ∙ ap (λ l.
    c.push_child.new.text.items ++ l) c.as_slice-in-loop-k.ensures)
    (c.in_ok-push_weight.ensures ∙ ap (λ w. c.extend_from_slice.new.self.items ++ weight_text
    c.args.l c.node-node.result.now w) same))

pub push_weights-returns : goal.push_weights-returns
push_weights-returns t c =
    let ws : List Write = child_texts c.args.l c.args.names.now c.args.term.now c.args.p in
    let w : Write = write_at ws 0 in
    Steps.put-closed (codes "{") (codes "}") c.args.text.now.items c.push.new.self.items
    c.loop-k.text.items c.push-2.new.self.items (entry_texts c.args.l c.node-node.result.now w
    c.entries-entries.result.now)
    (length c.entries-entries.result.now) c.loop-k.k (Steps.map-length (entry_text c.args.l
    c.node-node.result.now w) c.entries-entries.result.now)
    c.loop-k-test.false c.in_ok-push.ensures.items c.loop-k.invariant
    c.in_ok-push-2.ensures.items
    ∙ (λ i. c.args.text.now.items ++ in_braces (listed (entry_texts c.args.l
    (c.node-node.ensures i)
    w (c.entries-entries.ensures i))))
