-- What holds of three things holds of what is equal to them.
use Rattle.std.proofs.Common.{◌≡◌, subst}

-- what holds of three things holds of what equals them
pub along :
    {A B C : Type 0} (P : A → B → C → Type 0) {a x : A} {b y : B} {c z : C} →
    a ≡ x → b ≡ y → c ≡ z → P a b c → P x y z
along P {a} {x} {b} {y} {c} {z} p q r h =
    subst (λ u. P u y z) p (subst (λ v. P a v z) q (subst (λ w. P a b w) r h))
