-- The call on the sum is the call on the weight's side.
use Rattle.std.proofs.Common.{◌∙◌, arith}
use Rattle.iface.specs.Sides.{lefts, rights}
use Rattle.iface.proofs.OneSide.{cell_left, cell_right, updated_left, updated_right}
use Rattle.iface.proofs.either2.Either2Iface.update.Goals as goal

pub update-requires-clause-cell : goal.update-requires-clause-cell
update-requires-clause-cell g c =
    let l = c.args.self.now.left in
    let r = c.args.self.now.right in
    let found = cell_left (g.I.Iface.fits l) (g.I.Iface.value l) (g.I.Iface.toward l)
    (g.J.Iface.fits r) (g.J.Iface.value r) (g.J.Iface.toward r)
    c.in-Left.w c.args.weight.now c.args.moved.now c.as_slice.result.now c.requires.cell.0
    c.requires.cell.1 c.requires.cell.2
    c.in-Left.is (c.as_slice.ensures.value ∙ c.in_ok-own-in-Left.ensures) c.requires.cell.3 in
    (found.0, lefts c.requires.cell.1, c.requires.cell.2, found.4)

pub update-requires-clause-few : goal.update-requires-clause-few
update-requires-clause-few g c =
    let l = c.args.self.now.left in
    let r = c.args.self.now.right in
    let found = cell_left (g.I.Iface.fits l) (g.I.Iface.value l) (g.I.Iface.toward l)
    (g.J.Iface.fits r) (g.J.Iface.value r) (g.J.Iface.toward r)
    c.in-Left.w c.args.weight.now c.args.moved.now c.as_slice.result.now c.requires.cell.0
    c.requires.cell.1 c.requires.cell.2
    c.in-Left.is (c.as_slice.ensures.value ∙ c.in_ok-own-in-Left.ensures) c.requires.cell.3 in
    omega (arith, found.3, c.requires.few)

pub returns-in_ok-update-in-Left-clause-updated : goal.returns-in_ok-update-in-Left-clause-updated
returns-in_ok-update-in-Left-clause-updated g c shape labels trits cell =
    let l = c.args.self.now.left in
    let r = c.args.self.now.right in
    let found = cell_left (g.I.Iface.fits l) (g.I.Iface.value l) (g.I.Iface.toward l)
    (g.J.Iface.fits r) (g.J.Iface.value r) (g.J.Iface.toward r)
    c.in-Left.w c.args.weight.now c.args.moved.now c.as_slice.result.now shape labels trits
    c.in-Left.is (c.as_slice.ensures.value ∙ c.in_ok-own-in-Left.ensures) cell in
    let updated = c.in_ok-update-in-Left.ensures.updated found.0 (lefts labels) trits found.4 in
    updated_left (g.I.Iface.fits l) (g.I.Iface.value l) (g.I.Iface.toward l)
    (g.J.Iface.fits r) (g.J.Iface.value r) (g.J.Iface.toward r)
    _ _ _ _ found.0 labels trits shape found.1 updated

pub returns-in_ok-update-in-Left-clause-counted : goal.returns-in_ok-update-in-Left-clause-counted
returns-in_ok-update-in-Left-clause-counted g c =
    let l = c.args.self.now.left in
    let r = c.args.self.now.right in
    let found = cell_left (g.I.Iface.fits l) (g.I.Iface.value l) (g.I.Iface.toward l)
    (g.J.Iface.fits r) (g.J.Iface.value r) (g.J.Iface.toward r)
    c.in-Left.w c.args.weight.now c.args.moved.now c.as_slice.result.now c.requires.cell.0
    c.requires.cell.1 c.requires.cell.2
    c.in-Left.is (c.as_slice.ensures.value ∙ c.in_ok-own-in-Left.ensures) c.requires.cell.3 in
    omega (arith, found.3, c.in_ok-update-in-Left.ensures.counted)

pub update-requires-in-Right-clause-cell : goal.update-requires-in-Right-clause-cell
update-requires-in-Right-clause-cell g c =
    let l = c.args.self.now.left in
    let r = c.args.self.now.right in
    let found = cell_right (g.I.Iface.fits l) (g.I.Iface.value l) (g.I.Iface.toward l)
    (g.J.Iface.fits r) (g.J.Iface.value r) (g.J.Iface.toward r)
    c.in-Right.w c.args.weight.now c.args.moved.now c.as_slice-in-Right.result.now c.requires.cell.0
    c.requires.cell.1 c.requires.cell.2
    c.in-Right.is (c.as_slice-in-Right.ensures.value ∙ c.in_ok-own-in-Right.ensures)
    c.requires.cell.3 in
    (found.0, rights c.requires.cell.1, c.requires.cell.2, found.4)

pub update-requires-in-Right-clause-few : goal.update-requires-in-Right-clause-few
update-requires-in-Right-clause-few g c =
    let l = c.args.self.now.left in
    let r = c.args.self.now.right in
    let found = cell_right (g.I.Iface.fits l) (g.I.Iface.value l) (g.I.Iface.toward l)
    (g.J.Iface.fits r) (g.J.Iface.value r) (g.J.Iface.toward r)
    c.in-Right.w c.args.weight.now c.args.moved.now c.as_slice-in-Right.result.now c.requires.cell.0
    c.requires.cell.1 c.requires.cell.2
    c.in-Right.is (c.as_slice-in-Right.ensures.value ∙ c.in_ok-own-in-Right.ensures)
    c.requires.cell.3 in
    omega (arith, found.3, c.requires.few)

pub returns-in_ok-update-in-Right-clause-updated : goal.returns-in_ok-update-in-Right-clause-updated
returns-in_ok-update-in-Right-clause-updated g c shape labels trits cell =
    let l = c.args.self.now.left in
    let r = c.args.self.now.right in
    let found = cell_right (g.I.Iface.fits l) (g.I.Iface.value l) (g.I.Iface.toward l)
    (g.J.Iface.fits r) (g.J.Iface.value r) (g.J.Iface.toward r)
    c.in-Right.w c.args.weight.now c.args.moved.now c.as_slice-in-Right.result.now shape labels
    trits
    c.in-Right.is (c.as_slice-in-Right.ensures.value ∙ c.in_ok-own-in-Right.ensures) cell in
    let updated = c.in_ok-update-in-Right.ensures.updated found.0 (rights labels) trits found.4 in
    updated_right (g.I.Iface.fits l) (g.I.Iface.value l) (g.I.Iface.toward l)
    (g.J.Iface.fits r) (g.J.Iface.value r) (g.J.Iface.toward r)
    _ _ _ _ found.0 labels trits shape found.1 updated

pub returns-in_ok-update-in-Right-clause-counted : goal.returns-in_ok-update-in-Right-clause-counted
returns-in_ok-update-in-Right-clause-counted g c =
    let l = c.args.self.now.left in
    let r = c.args.self.now.right in
    let found = cell_right (g.I.Iface.fits l) (g.I.Iface.value l) (g.I.Iface.toward l)
    (g.J.Iface.fits r) (g.J.Iface.value r) (g.J.Iface.toward r)
    c.in-Right.w c.args.weight.now c.args.moved.now c.as_slice-in-Right.result.now c.requires.cell.0
    c.requires.cell.1 c.requires.cell.2
    c.in-Right.is (c.as_slice-in-Right.ensures.value ∙ c.in_ok-own-in-Right.ensures)
    c.requires.cell.3 in
    omega (arith, found.3, c.in_ok-update-in-Right.ensures.counted)
