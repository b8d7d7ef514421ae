-- The trits that the marks and the moved places make are those of the cell.
use Rattle.std.proofs.Common.{◌≡◌, ◌∙◌, ◌==◌, ap, map, min, refl, length, sym}
use Rattle.polynomial_iface.specs.Places.{trits_from}
use Rattle.polynomial_iface.proofs.Told.{marks_count, toward_is, value_is}
use Rattle.polynomial_iface.proofs.polys.PolysIface.update.Goals as goal

pub moved_marks-requires : goal.moved_marks-requires
moved_marks-requires g c =
    let k = c.requires.cell.3 in
    record {
      one_each =
          ap length c.as_slice.ensures.all_of_them
          ∙ marks_count c.requires.cell.0.form c.requires.cell.1 c.requires.cell.2
          c.args.weight.now c.args.moved.now k.fit k.one_each k.are_trits k.weight_is k.moved_is;
    }

pub returns-clause-updated : goal.returns-clause-updated
returns-clause-updated g c shape labels trits cell =
    let w = c.args.weight.now in
    let moved = c.args.moved.now in
    let found = trits_from c.as_slice.result.now 0 moved in
    let found_is = ap (λ m. trits_from m 0 moved) c.as_slice.ensures.all_of_them in
    let made = c.in_ok-marks.ensures in
    record {
      rest_is =
          toward_is shape.form labels trits w moved cell.fit cell.one_each cell.are_trits
          cell.weight_is cell.moved_is found found_is (λ t. t == 1) c.in_ok-marks.marks.rest
          made.rest;
      part_is =
          toward_is shape.form labels trits w moved cell.fit cell.one_each cell.are_trits
          cell.weight_is cell.moved_is found found_is (λ t. t == 2) c.in_ok-marks.marks.part
          made.part;
      three_is =
          value_is shape.form labels trits w moved cell.fit cell.one_each cell.are_trits
          cell.weight_is cell.moved_is found found_is c.in_ok-marks.marks.three found (λ ts. ts)
          refl made.three;
      void_is =
          value_is shape.form labels trits w moved cell.fit cell.one_each cell.are_trits
          cell.weight_is cell.moved_is found found_is c.in_ok-marks.marks.void
          (map (λ t. min 1 t) found) (map (λ t. min 1 t)) refl made.void;
    }
