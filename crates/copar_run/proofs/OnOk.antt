-- What holds of a result that is handed on.
use Rattle.std.proofs.Common.{Result, Ok, Err, IfOk}

-- a fact from two others
pub if_both : {X Y : Type 0} (r : Result X Y) (P Q R : X → Type 0) → ((x : X) → P x → Q x → R x)
    → IfOk r P → IfOk r Q → IfOk r R
if_both (Ok x) P Q R f p q = f x p q
if_both (Err y) P Q R f p q = p
