-- Splitters within the block of all states.
--     IsWhole           the trits of a structure all of whose edges lead into the coarse block
--     IsTwice           its trits for a splitter, and those for another one within the rest
use Rattle.std.specs.Prelude.{◌≡◌, ℕ, true, List, map, length}
use Rattle.iface.specs.Trits.{AreTrits, picked, in_coarse, in_rest}

-- each edge leads into the coarse block, and the moved labels are those into the splitter
pub record IsWhole
    {Label : Type 0} (labels moved : List Label) (trits : List ℕ) : Type 0 where
  pub one_each : length trits ≡ length labels
  pub are_trits : AreTrits trits
  pub all_coarse : in_coarse trits ≡ map (λ _. true) labels
  pub moved_is : moved ≡ picked labels trits

-- the same of a first splitter, and of a second one within the rest that the first one leaves
pub record IsTwice
    {Label : Type 0} (labels first second : List Label) (ts us : List ℕ) : Type 0 where
  pub whole : IsWhole labels first ts
  pub one_each : length us ≡ length labels
  pub are_trits : AreTrits us
  pub within_rest : in_coarse us ≡ in_rest ts
  pub second_is : second ≡ picked labels us
