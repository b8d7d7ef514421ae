use Rattle.std.proofs.Common.{subst, ℕ, List, length, sym, ap, arith}
use Rattle.typing.specs.Contents.{content_of}
use Rattle.edge_store.specs.Edges.{Graph}
use Rattle.sorted_systems.specs.Systems.{IsSystem, system_from}
use Rattle.refiner.specs.History.{IsLegal}
use Rattle.decoding.specs.Decoded.{node_by, kin_by, value_by}
use Rattle.layers.specs.Nest.{any_node, any_kin, any_value}
use Rattle.layers.specs.Meanings.{shape_of, label_of, fits_layer}
use Rattle.layers.specs.declared.layers.Layers.{Layers}
use Rattle.classes.proofs.Along.{along}
use Rattle.classes.proofs.Counting.{is_packed, great}
use Rattle.classes.proofs.Composed.{enough}
use Rattle.typing.proofs.Within.{each_below}
use Rattle.formulas.specs.declared.formula.Formula.{Formula}
use Rattle.formulas.specs.Formulas.{IsDag}
use Rattle.state_certificates.proofs.Separations.{separate}
use Rattle.state_certificates.proofs.Shown.{forms, all_fit, all_writable}
use Rattle.state_certificates.proofs.States.{Told, states_told, told_apart}
use Rattle.state_certificates.proofs.certifying.state_formulas.Goals as goal

pub build-requires-clause-system : goal.build-requires-clause-system
build-requires-clause-system c =
    along
    (λ (i : Layers) (ss : List ℕ) (es : Graph ℕ).
    IsSystem (node_by (shape_of i.shapes.items) (label_of i.shapes.items i.weights.items) any_node)
    (kin_by (shape_of i.shapes.items) (label_of i.shapes.items i.weights.items) any_kin)
    (fits_layer i.shapes.items i.weights.items) (system_from 0 ss es.edges))
    (sym c.iface.ensures.iface) (sym c.shapes-shapes.ensures.shapes)
    (sym c.store-store.ensures.store)
    (is_packed (content_of c.args.c.now) c.args.system.now c.requires.desorted
    c.sorted_states_are_a_system.ensures c.is_term.ensures)

pub build-requires-clause-legal : goal.build-requires-clause-legal
build-requires-clause-legal c = (
  c.requires.refined.first,
  c.requires.refined.later,
  along
      (λ (i : Layers) (ss : List ℕ) (es : Graph ℕ).
      IsLegal
      (node_by (shape_of i.shapes.items) (label_of i.shapes.items i.weights.items) any_node)
      (value_by (shape_of i.shapes.items) (label_of i.shapes.items i.weights.items)
      (any_value i.denominator)) (system_from 0 ss es.edges) c.args.refined.now
      c.requires.refined.first c.requires.refined.later)
      (sym c.iface.ensures.iface) (sym c.shapes-shapes.ensures.shapes)
      (sym c.store-store.ensures.store) c.requires.refined.legal,
)

pub returns-clause-exact : goal.returns-clause-exact
returns-clause-exact c =
    let cert = c.in_ok-told.told in
    states_told (content_of c.args.c.now) c.args.system.now c.requires.desorted
    c.values_are_of_layers.ensures c.greatest_is_equivalence.ensures c.is_term.ensures
    c.args.refined.now c.requires.refined cert c.in_ok-told.ensures.same_blocks
    (along (Told cert) c.iface.ensures.iface c.shapes-shapes.ensures.shapes
    c.store-store.ensures.store
    c.in_ok-told.ensures.told)

pub returns-clause-separate : goal.returns-clause-separate
returns-clause-separate c =
    let now = c.args.c.now in
    let cert = c.in_ok-told.told in
    separate c.equivalent_states_have_one_truth.ensures.content (content_of now)
    c.is_term.ensures (each_below now.values.items _ now.one_each now.in_range) cert
    (states_told (content_of now) c.args.system.now c.requires.desorted
    c.values_are_of_layers.ensures c.greatest_is_equivalence.ensures c.is_term.ensures
    c.args.refined.now c.requires.refined cert c.in_ok-told.ensures.same_blocks
    (along (Told cert) c.iface.ensures.iface c.shapes-shapes.ensures.shapes
    c.store-store.ensures.store c.in_ok-told.ensures.told))
    (subst (λ (fs : List Formula). IsDag fs) c.dag.ensures c.is_dag.ensures.ordered)

pub returns-clause-apart : goal.returns-clause-apart
returns-clause-apart c =
    let cert = c.in_ok-told.told in
    told_apart (content_of c.args.c.now) c.args.system.now c.requires.desorted
    c.values_are_of_layers.ensures c.greatest_is_equivalence.ensures c.is_term.ensures
    c.args.refined.now c.requires.refined cert c.in_ok-told.ensures.same_blocks
    (along (Told cert) c.iface.ensures.iface c.shapes-shapes.ensures.shapes
    c.store-store.ensures.store
    c.in_ok-told.ensures.told)

pub returns-clause-forms : goal.returns-clause-forms
returns-clause-forms c =
    let cert = c.in_ok-told.told in
    forms c.args.c.now.term c.is_term.ensures c.args.c.now.denominator
    c.args.c.now.values.items c.args.system.now c.requires.desorted
    c.values_are_of_layers.ensures cert.dag cert.blocks cert.block_of
    (along (Told cert) c.iface.ensures.iface c.shapes-shapes.ensures.shapes
    c.store-store.ensures.store
    c.in_ok-told.ensures.told)

pub returns-clause-fit : goal.returns-clause-fit
returns-clause-fit c =
    let cert = c.in_ok-told.told in
    all_fit c.args.c.now.term c.is_term.ensures c.args.c.now.denominator
    c.args.c.now.values.items c.args.system.now c.requires.desorted
    c.values_are_of_layers.ensures cert.dag cert.blocks cert.block_of
    (along (Told cert) c.iface.ensures.iface c.shapes-shapes.ensures.shapes
    c.store-store.ensures.store
    c.in_ok-told.ensures.told)

pub returns-clause-writable : goal.returns-clause-writable
returns-clause-writable c =
    let now = c.args.c.now in
    let cert = c.in_ok-told.told in
    all_writable now.term c.is_term.ensures now.denominator now.values.items
    c.args.system.now c.requires.desorted c.values_are_of_layers.ensures cert.dag cert.blocks
    cert.block_of
    (along (Told cert) c.iface.ensures.iface c.shapes-shapes.ensures.shapes
    c.store-store.ensures.store
    c.in_ok-told.ensures.told)
    now.positive now.bounded

pub returns-clause-certificates : goal.returns-clause-certificates
returns-clause-certificates c =
    let now = c.args.c.now in
    let cert = c.in_ok-told.told in
    let told =
    along (Told cert) c.iface.ensures.iface c.shapes-shapes.ensures.shapes
    c.store-store.ensures.store c.in_ok-told.ensures.told in
    record {
      exact =
          states_told (content_of now) c.args.system.now c.requires.desorted
          c.values_are_of_layers.ensures c.greatest_is_equivalence.ensures
          c.is_term.ensures c.args.refined.now c.requires.refined cert
          c.in_ok-told.ensures.same_blocks told;
      one_each =
          omega (
            arith,
            enough c.greatest_is_equivalence.ensures c.stable_labellings_give_stable_lists.ensures
                now.term now.values.items c.requires.desorted.occurrences c.is_term.ensures
                c.requires.desorted.sorting c.args.refined.now.block_of
                (great (content_of now) c.args.system.now c.requires.desorted c.args.refined.now
                c.requires.refined),
            ap (λ (ns : List ℕ). length ns) c.in_ok-told.ensures.same_blocks,
          );
      fit =
          all_fit now.term c.is_term.ensures now.denominator now.values.items
          c.args.system.now c.requires.desorted c.values_are_of_layers.ensures cert.dag cert.blocks
          cert.block_of told;
      writable =
          all_writable now.term c.is_term.ensures now.denominator now.values.items
          c.args.system.now c.requires.desorted c.values_are_of_layers.ensures cert.dag cert.blocks
          cert.block_of told now.positive now.bounded;
      few =
          omega (
            arith,
            c.in_ok-told.ensures.few,
            c.shapes-shapes.ensures.one_each,
            c.requires.desorted.sorted,
          );
    }
