-- A weight that is kept packed.
use Rattle.std.proofs.Common.{◌≡◌, ℕ, Bool, true, false, cond, List, refl, ◌∙◌, ap}
use Rattle.std.specs.Prelude.{ℤ, ◌&&◌}
use Rattle.modalities.specs.declared.three.Three.{Three}
use Rattle.iface.specs.Structures.{IsCell, IsUpdated}
use Rattle.iface.specs.Trits.{without_splitter}
use Rattle.layers.specs.Nest.{any_value}
use Rattle.decoding.specs.Decoded.{value_by}
use Rattle.layers.specs.declared.shape.LayerShape.{LayerShape}
use Rattle.layers.specs.declared.weight.Opened.{Opened}
use Rattle.layers.specs.declared.weight.Opened.TheVariants as opened
use Rattle.layers.specs.declared.weight.LayerWeight.{LayerWeight}
use Rattle.layers.specs.declared.weight.LayerWeight.TheVariants as weight
use Rattle.layers.specs.Packing.{is_narrow, pack, opened_of}
use Rattle.layers.specs.Meanings.{shape_at, shape_of, label_of, fits_layer, value_layer, wide_toward, toward_layer}
use Rattle.layers.specs.LayerLaws.{class_value}

opened-sums :
    (narrow scaled : Bool) (o i : ℤ) →
    opened_of (cond narrow
    (cond scaled (weight.Scaled (record { outside = o; inside = i }))
    (weight.Plain (record { outside = o; inside = i })))
    (weight.Wide (record { scaled = scaled; outside = o; inside = i })))
    ≡ opened.Sums (record { scaled = scaled; outside = o; inside = i })
opened-sums true true o i = refl
opened-sums true false o i = refl
opened-sums false scaled o i = refl

-- what is packed is opened again
pub opened-pack : (w : Opened) → opened_of (pack w) ≡ w
opened-pack (opened.Set w) = refl
opened-pack (opened.Places w) = refl
opened-pack (opened.Many w) = refl
opened-pack (opened.Sums w) =
    opened-sums (is_narrow w.outside && is_narrow w.inside) w.scaled w.outside w.inside

module _
    (d : ℕ) (shapes : List LayerShape) (ws : List ℤ) (moved : List ℕ) (s : ℕ)
    (ls : List ℕ) (ts : List ℕ) where
  -- a cell of packed weights is one of opened ones
  pub cell_opened :
      (w : LayerWeight) →
      IsCell (fits_layer shapes ws) (toward_layer shapes ws) w moved s ls ts →
      IsCell (fits_layer shapes ws) (wide_toward shapes ws) (opened_of w) moved s ls ts
  cell_opened w k = record {
    fit = k.fit;
    one_each = k.one_each;
    are_trits = k.are_trits;
    weight_is = ap opened_of k.weight_is ∙ opened-pack _;
    moved_is = k.moved_is;
  }

  -- the value of a layer is that of its shape and labels
  pub value_is :
      (us : List ℕ) →
      value_layer d shapes ws s ls us
      ≡ value_by (shape_of shapes) (label_of shapes ws) (any_value d) s ls us
  value_is us = class_value d ws (shape_at shapes s).kind (shape_at shapes s).node ls us

  -- an update of opened weights is one of packed ones
  pub updated_packed :
      (rest part : Opened) (three void : Three) (kept_rest kept_part : LayerWeight) →
      kept_rest ≡ pack rest → kept_part ≡ pack part →
      IsUpdated (value_layer d shapes ws) (wide_toward shapes ws) rest part three void s ls ts →
      IsUpdated (value_by (shape_of shapes) (label_of shapes ws) (any_value d))
      (toward_layer shapes ws) kept_rest kept_part three void s ls ts
  updated_packed rest part three void kept_rest kept_part rest_e part_e u = record {
    rest_is = rest_e ∙ ap pack u.rest_is;
    part_is = part_e ∙ ap pack u.part_is;
    three_is = u.three_is ∙ value_is ts;
    void_is = u.void_is ∙ value_is (without_splitter ts);
  }
