-- The call on the sum is the call on the shape's side.
use Rattle.std.proofs.Common.{◌∙◌, arith}
use Rattle.iface.proofs.OneSide.{weight_left, weight_right, three_left, three_right, length_left, length_right}
use Rattle.iface.proofs.either2.Either2Iface.init.Goals as goal

pub init-requires-clause-few : goal.init-requires-clause-few
init-requires-clause-few g c =
    let l = c.args.self.now.left in
    let r = c.args.self.now.right in
    let same = length_left (g.I.Iface.fits l) (g.I.Iface.value l) (g.I.Iface.toward l)
    (g.J.Iface.fits r) (g.J.Iface.value r) (g.J.Iface.toward r)
    c.args.shape.now c.in-Left.s c.args.labels.now c.as_slice.result.now c.in-Left.is c.requires.fit
    (c.as_slice.ensures.value ∙ c.in_ok-own-in-Left.ensures) in
    omega (arith, same, c.requires.few)

pub returns-in_ok-weight-in-Left-clause-weight : goal.returns-in_ok-weight-in-Left-clause-weight
returns-in_ok-weight-in-Left-clause-weight g c =
    let l = c.args.self.now.left in
    let r = c.args.self.now.right in
    weight_left (g.I.Iface.fits l) (g.I.Iface.value l) (g.I.Iface.toward l)
    (g.J.Iface.fits r) (g.J.Iface.value r) (g.J.Iface.toward r)
    c.args.shape.now c.in-Left.s c.args.labels.now c.as_slice.result.now
    c.in_ok-weight-in-Left.weight c.in-Left.is c.requires.fit
    (c.as_slice.ensures.value ∙ c.in_ok-own-in-Left.ensures)
    c.in_ok-weight-in-Left.ensures.weight

pub returns-in_ok-weight-in-Left-clause-three : goal.returns-in_ok-weight-in-Left-clause-three
returns-in_ok-weight-in-Left-clause-three g c =
    let l = c.args.self.now.left in
    let r = c.args.self.now.right in
    three_left (g.I.Iface.fits l) (g.I.Iface.value l) (g.I.Iface.toward l)
    (g.J.Iface.fits r) (g.J.Iface.value r) (g.J.Iface.toward r)
    c.args.shape.now c.in-Left.s c.args.labels.now c.as_slice.result.now
    c.in_ok-weight-in-Left.three c.in-Left.is c.requires.fit
    (c.as_slice.ensures.value ∙ c.in_ok-own-in-Left.ensures)
    c.in_ok-weight-in-Left.ensures.three

pub returns-in_ok-weight-in-Left-clause-counted : goal.returns-in_ok-weight-in-Left-clause-counted
returns-in_ok-weight-in-Left-clause-counted g c =
    let l = c.args.self.now.left in
    let r = c.args.self.now.right in
    let same = length_left (g.I.Iface.fits l) (g.I.Iface.value l) (g.I.Iface.toward l)
    (g.J.Iface.fits r) (g.J.Iface.value r) (g.J.Iface.toward r)
    c.args.shape.now c.in-Left.s c.args.labels.now c.as_slice.result.now c.in-Left.is c.requires.fit
    (c.as_slice.ensures.value ∙ c.in_ok-own-in-Left.ensures) in
    omega (arith, same, c.in_ok-weight-in-Left.ensures.counted)

pub init-requires-in-Right-clause-few : goal.init-requires-in-Right-clause-few
init-requires-in-Right-clause-few g c =
    let l = c.args.self.now.left in
    let r = c.args.self.now.right in
    let same = length_right (g.I.Iface.fits l) (g.I.Iface.value l) (g.I.Iface.toward l)
    (g.J.Iface.fits r) (g.J.Iface.value r) (g.J.Iface.toward r)
    c.args.shape.now c.in-Right.s c.args.labels.now c.as_slice-in-Right.result.now c.in-Right.is
    c.requires.fit
    (c.as_slice-in-Right.ensures.value ∙ c.in_ok-own-in-Right.ensures) in
    omega (arith, same, c.requires.few)

pub returns-in_ok-weight-in-Right-clause-weight : goal.returns-in_ok-weight-in-Right-clause-weight
returns-in_ok-weight-in-Right-clause-weight g c =
    let l = c.args.self.now.left in
    let r = c.args.self.now.right in
    weight_right (g.I.Iface.fits l) (g.I.Iface.value l) (g.I.Iface.toward l)
    (g.J.Iface.fits r) (g.J.Iface.value r) (g.J.Iface.toward r)
    c.args.shape.now c.in-Right.s c.args.labels.now c.as_slice-in-Right.result.now
    c.in_ok-weight-in-Right.weight c.in-Right.is c.requires.fit
    (c.as_slice-in-Right.ensures.value ∙ c.in_ok-own-in-Right.ensures)
    c.in_ok-weight-in-Right.ensures.weight

pub returns-in_ok-weight-in-Right-clause-three : goal.returns-in_ok-weight-in-Right-clause-three
returns-in_ok-weight-in-Right-clause-three g c =
    let l = c.args.self.now.left in
    let r = c.args.self.now.right in
    three_right (g.I.Iface.fits l) (g.I.Iface.value l) (g.I.Iface.toward l)
    (g.J.Iface.fits r) (g.J.Iface.value r) (g.J.Iface.toward r)
    c.args.shape.now c.in-Right.s c.args.labels.now c.as_slice-in-Right.result.now
    c.in_ok-weight-in-Right.three c.in-Right.is c.requires.fit
    (c.as_slice-in-Right.ensures.value ∙ c.in_ok-own-in-Right.ensures)
    c.in_ok-weight-in-Right.ensures.three

pub returns-in_ok-weight-in-Right-clause-counted : goal.returns-in_ok-weight-in-Right-clause-counted
returns-in_ok-weight-in-Right-clause-counted g c =
    let l = c.args.self.now.left in
    let r = c.args.self.now.right in
    let same = length_right (g.I.Iface.fits l) (g.I.Iface.value l) (g.I.Iface.toward l)
    (g.J.Iface.fits r) (g.J.Iface.value r) (g.J.Iface.toward r)
    c.args.shape.now c.in-Right.s c.args.labels.now c.as_slice-in-Right.result.now c.in-Right.is
    c.requires.fit
    (c.as_slice-in-Right.ensures.value ∙ c.in_ok-own-in-Right.ensures) in
    omega (arith, same, c.in_ok-weight-in-Right.ensures.counted)
