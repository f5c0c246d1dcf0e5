use Rattle.std.proofs.Common.{refl}
use Rattle.cx_flattening.proofs.FlatTurns.{flat_turn}
use Rattle.cx_flattening.proofs.FlatTests.{flat_group, flat_test}
use Rattle.cx_flattening.proofs.laws.flat_turns_are_those_of_the_tree.Goals as goal

pub returns-clause-turn : goal.returns-clause-turn
returns-clause-turn c i flat held g s z its stands = flat_turn i flat held g s z (its.there g refl) its.flattened its.fair stands its.no_circle

pub returns-clause-group : goal.returns-clause-group
returns-clause-group c i flat held g n s z its stands = flat_group i flat held g its n s z stands

pub returns-clause-test : goal.returns-clause-test
returns-clause-test c i flat held p with_group s z its known stands = flat_test i flat held p with_group s z its known stands
