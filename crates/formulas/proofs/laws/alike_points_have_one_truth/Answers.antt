use Rattle.std.specs.Prelude.{◌≡◌, true}
use Rattle.formulas.proofs.TruthLaws.{holds-like}
use Rattle.formulas.proofs.laws.alike_points_have_one_truth.Goals as goal

pub returns : goal.returns
returns g c w v like is dag ordered k h x y related =
    holds-like w v (λ a b. like a b ≡ true) is dag ordered k h x y related
