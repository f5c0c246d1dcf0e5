use Rattle.cx_rules.specs.Items.{Dynamic}
use Rattle.cx_interp_islands.proofs.TestLemmas.{visited_test}
use Rattle.cx_interp_islands.proofs.laws.static_tests_are_conditions.Goals as goal

pub returns : goal.returns
returns c = λ part v p stands asked. visited_test v p asked Dynamic part.control stands
