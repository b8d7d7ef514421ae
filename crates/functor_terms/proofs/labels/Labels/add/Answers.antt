use Rattle.std.proofs.Common.{List, ℕ, length, sym, subst, ◌<◌, ◌+◌, ◌^◌}
use Rattle.std.specs.Borrow.{Bor}
use Rattle.functor_terms.proofs.NamesLemmas.{AreNames-insert_key, added-place_of}
use Rattle.functor_terms.proofs.labels.Labels.add.Goals as goal

pub invariant_of-self-2 : goal.invariant_of-self-2
invariant_of-self-2 c =
    AreNames-insert_key (λ (w : Bor (List ℕ)). w.now) c.self.inside.words.keys
    c.insert.new.self.keys c.args.word c.self.invariant c.requires.name
    (subst (λ (v : List (List ℕ)). length v + 1 < 2 ^ 32) (sym c.self.view_is) c.requires.room)
    c.in_ok-insert.ensures.keys c.insert.ensures.unique

pub returns-clause-new : goal.returns-clause-new
returns-clause-new c =
    rw (← c.self.view_is) (added-place_of (λ (w : Bor (List ℕ)). w.now) c.self.inside.words.keys
    c.args.word c.in_ok-insert.field-0 c.in_ok-insert.ensures.added)
