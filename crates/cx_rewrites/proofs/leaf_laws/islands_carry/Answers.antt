use Rattle.std.specs.Prelude.{[]}
use Rattle.cx_rewrites.proofs.IslandLemmas.{form_flat-moved, form_length-moved, island_carries}
use Rattle.cx_rewrites.proofs.leaf_laws.islands_carry.Goals as goal

pub returns-clause-flat : goal.returns-clause-flat
returns-clause-flat w c = λ move part other form lengths. form_flat-moved move part other lengths form 0 []

pub returns-clause-length : goal.returns-clause-length
returns-clause-length w c = λ move part other form lengths. form_length-moved move part other lengths form

pub returns-clause-carries : goal.returns-clause-carries
returns-clause-carries w c = λ pace faults move made i j held twin_held form lengths fine carries.
    island_carries move pace w.W.Rewriting.stands faults made w.W.Rewriting.groups w.W.Rewriting.inside i j held twin_held form lengths fine carries
