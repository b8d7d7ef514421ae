use Rattle.std.proofs.Common.{◌≡◌, true, length, sym, ◌∙◌, subst}
use Rattle.typing.specs.declared.value.Value.{Value}
use Rattle.typing.specs.Values.{states_below}
use Rattle.typing.specs.Bounds.{is_bounded, are_any, sums_hold}
use Rattle.typing.specs.Fits.{fits}
use Rattle.typing.specs.NormalForms.{IsRelabelledAt}
use Rattle.fitting.specs.Scaling.{scaled, has_sums}
use Rattle.fitting.proofs.ScaleSound as known
use Rattle.fitting.proofs.normal.scale.Goals as goal
use Rattle.fitting.proofs.normal.scale.Goals.{Joined-value-3}

pub sums_at-requires-clause-bounded : goal.sums_at-requires-clause-bounded
sums_at-requires-clause-bounded c =
    subst (λ (v : Value). is_bounded v ≡ true) (sym c.in_ok-value.ensures)
    (known.scaled-bounded c.args.l c.requires.bounded c.args.term.now c.args.own.now c.requires.own
    c.args.fitted.now c.requires.fitted c.requires.not_over c.requires.small)

pub relabel-requires-clause-fitting : goal.relabel-requires-clause-fitting
relabel-requires-clause-fitting c =
    subst (λ (v : Value). fits c.args.term.now 0 v ≡ true) (sym c.in_ok-value.ensures)
    (known.scaled-fits c.args.l c.requires.bounded c.args.term.now c.args.own.now c.requires.own
    c.args.fitted.now c.requires.fitted c.requires.not_over c.requires.small)

pub relabel-requires-clause-within : goal.relabel-requires-clause-within
relabel-requires-clause-within c =
    subst (λ (v : Value). states_below (length c.args.own.now) v ≡ true) (sym c.in_ok-value.ensures)
    (known.scaled-below c.args.l c.requires.bounded c.args.term.now c.args.own.now c.requires.own
    c.args.fitted.now c.requires.fitted c.requires.not_over c.requires.small)

pub relabel-requires-clause-bounded : goal.relabel-requires-clause-bounded
relabel-requires-clause-bounded c =
    subst (λ (v : Value). is_bounded v ≡ true) (sym c.in_ok-value.ensures)
    (known.scaled-bounded c.args.l c.requires.bounded c.args.term.now c.args.own.now c.requires.own
    c.args.fitted.now c.requires.fitted c.requires.not_over c.requires.small)

-- what `relabel` answered is the normal form of the scaled value
the_form :
    (c : Joined-value-3)
    → IsRelabelledAt c.args.term.now c.args.own.now 0
    (scaled c.args.l c.args.term.now 0 c.args.fitted.now) c.in_ok-relabel.field-0
the_form c =
    subst
    (λ (v : Value). IsRelabelledAt c.args.term.now c.args.own.now 0 v c.in_ok-relabel.field-0)
    c.in_ok-value.ensures
    (record {
      fitting = c.in_ok-relabel.ensures.fitting;
      normal = c.in_ok-relabel.ensures.normal;
      equal = c.in_ok-relabel.ensures.equal;
      in_range = c.in_ok-relabel.ensures.in_range;
    })

pub returns-clause-equal : goal.returns-clause-equal
returns-clause-equal c =
    known.form-equal c.args.l c.requires.bounded c.args.term.now c.args.own.now c.requires.own
    c.args.fitted.now c.requires.fitted c.requires.not_over c.requires.small
    c.in_ok-relabel.field-0 (the_form c)

pub returns-clause-in_range : goal.returns-clause-in_range
returns-clause-in_range c =
    known.form-below c.args.l c.requires.bounded c.args.term.now c.args.own.now c.requires.own
    c.args.fitted.now c.requires.fitted c.requires.not_over c.requires.small
    c.in_ok-relabel.field-0 (the_form c)

pub returns-clause-weighted : goal.returns-clause-weighted
returns-clause-weighted c =
    let sums : has_sums c.args.l c.args.term.now 0 c.args.fitted.now ≡ true =
    subst (λ (v : Value). sums_hold are_any c.args.l c.args.term.now 0 v ≡ true)
    c.in_ok-value.ensures (sym c.sums_at.ensures ∙ c.if-not-sums_at.false) in
    known.form-weighted c.args.l c.requires.bounded c.args.term.now c.args.own.now c.requires.own
    c.args.fitted.now c.requires.fitted c.requires.not_over c.requires.small
    c.in_ok-relabel.field-0 (the_form c) sums

pub returns-clause-in_bounds : goal.returns-clause-in_bounds
returns-clause-in_bounds c =
    known.form-in_bounds c.args.l c.requires.bounded c.args.term.now c.args.own.now c.requires.own
    c.args.fitted.now c.requires.fitted c.requires.not_over c.requires.small
    c.in_ok-relabel.field-0 (the_form c)
