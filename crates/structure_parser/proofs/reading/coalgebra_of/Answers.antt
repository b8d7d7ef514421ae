use Rattle.std.proofs.Common.{◌≡◌, ◌^◌, length, ◌∙◌, ap, subst}
use Rattle.std.specs.List.{AllZip}
use Rattle.std.proofs.lemmas.Slice.Zip.{AllZip-long}
use Rattle.typing.specs.Values.{states_below}
use Rattle.typing.specs.Fits.{fits}
use Rattle.typing.specs.Order.{is_normal}
use Rattle.typing.specs.Bounds.{is_within, weights_hold}
use Rattle.structure_parser.specs.Reading.{IsValueOf}
use Rattle.structure_parser.proofs.ReadLaws.{zip-all}
use Rattle.structure_parser.proofs.reading.coalgebra_of.Goals as goal

pub invariant_of-result : goal.invariant_of-result
invariant_of-result c =
    let n : length c.as_slice.result.now ≡ length c.args.names =
    ap length c.as_slice.ensures.value ∙ c.in_ok-own.ensures.count ∙ c.len.ensures in
    let R = IsValueOf c.args.term c.args.fits.l (length c.args.names) in
    let all : AllZip R c.args.fits.kept.items c.in_ok-values.values.items =
    subst (λ m. AllZip (IsValueOf c.args.term c.args.fits.l m) c.args.fits.kept.items
    c.in_ok-values.values.items) n c.in_ok-values.ensures.values in
    record {
      few = c.are_names.ensures.few;
      one_each =
          AllZip-long R c.args.fits.kept.items c.in_ok-values.values.items all
          ∙ c.requires.one_each;
      positive = c.requires.in_range.0;
      bounded = c.requires.in_range.1;
      fitting =
          zip-all R (fits c.args.term 0) (λ k v is. is.normal_form.fitting)
          c.args.fits.kept.items c.in_ok-values.values.items all;
      normal =
          zip-all R (is_normal c.args.term 0) (λ k v is. is.normal_form.normal)
          c.args.fits.kept.items c.in_ok-values.values.items all;
      in_range =
          zip-all R (states_below (length c.args.names)) (λ k v is. is.in_range)
          c.args.fits.kept.items c.in_ok-values.values.items all;
      weighted =
          zip-all R (weights_hold c.args.fits.l c.args.term 0) (λ k v is. is.weighted)
          c.args.fits.kept.items c.in_ok-values.values.items all;
      in_bounds =
          zip-all R (is_within (2 ^ 106)) (λ k v is. is.in_bounds)
          c.args.fits.kept.items c.in_ok-values.values.items all;
    }
