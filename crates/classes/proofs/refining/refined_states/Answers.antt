use Rattle.std.proofs.Common.{◌≡◌, ◌+◌, ◌*◌, ◌<◌, ◌≤◌, ◌^◌, ℕ, List, length, sym, subst}
use Rattle.std.specs.Prelude.{slice_index}
use Rattle.edge_store.specs.Edges.{Graph}
use Rattle.sorted_systems.specs.Systems.{IsSystem, IsGreatestStable, system_from}
use Rattle.refiner.specs.Cells.{scanned}
use Rattle.refiner.specs.History.{IsLegal}
use Rattle.decoding.specs.Decoded.{node_by, kin_by, value_by, agree_by}
use Rattle.layers.specs.Nest.{any_node, any_kin, any_value, any_agree}
use Rattle.layers.specs.Meanings.{shape_of, label_of, fits_layer}
use Rattle.layers.specs.declared.layers.Layers.{Layers}
use Rattle.classes.proofs.Along.{along}
use Rattle.classes.proofs.refining.refined_states.Goals as goal

pub refine-requires-clause-system : goal.refine-requires-clause-system
refine-requires-clause-system g c =
    along
    (λ (i : Layers) (ss : List ℕ) (es : Graph ℕ).
    IsSystem (node_by (shape_of i.shapes.items) (label_of i.shapes.items i.weights.items) any_node)
    (kin_by (shape_of i.shapes.items) (label_of i.shapes.items i.weights.items) any_kin)
    (fits_layer i.shapes.items i.weights.items) (system_from 0 ss es.edges))
    (sym c.iface.ensures.iface) (sym c.shapes-shapes.ensures.shapes)
    (sym c.store-store.ensures.store) c.requires.system

pub returns-clause-refined : goal.returns-clause-refined
returns-clause-refined g c =
    let r = c.in_ok-refined.refined in
    let found = c.in_ok-refined.ensures in
    let edges = c.store-store.ensures.store in
    let history = found.legal in
    record {
      first = history.0;
      later = history.1;
      greatest =
          along
          (λ (i : Layers) (ss : List ℕ) (es : Graph ℕ).
          IsGreatestStable
          (agree_by (shape_of i.shapes.items) (label_of i.shapes.items i.weights.items) any_agree)
          (system_from 0 ss es.edges) r.block_of)
          c.iface.ensures.iface c.shapes-shapes.ensures.shapes edges found.greatest;
      legal =
          along
          (λ (i : Layers) (ss : List ℕ) (es : Graph ℕ).
          IsLegal
          (node_by (shape_of i.shapes.items) (label_of i.shapes.items i.weights.items) any_node)
          (value_by (shape_of i.shapes.items) (label_of i.shapes.items i.weights.items)
          (any_value i.denominator)) (system_from 0 ss es.edges) r history.0 history.1)
          c.iface.ensures.iface c.shapes-shapes.ensures.shapes edges history.2;
      halves = history.3;
      scans =
          subst
          (λ (es : Graph ℕ). (y : ℕ) → y < es.states → 2 ^ slice_index r.scans y ≤ es.states)
          edges found.scans;
      labels =
          subst (λ (es : Graph ℕ). r.labels ≡ length es.edges + scanned r.scans es.edges) edges
          found.labels;
      few =
          subst
          (λ (es : Graph ℕ). (k : ℕ) → es.states < 2 ^ (k + 1) →
          r.labels ≤ length es.edges * (1 + k)) edges found.few_labels;
    }
