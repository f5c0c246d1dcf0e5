use Rattle.std.proofs.Common.{map}
use Rattle.cx_design.specs.PlainDesigns.{plain_design}
use Rattle.cx_state.specs.States.{plain_instance, words_in}
use Rattle.cx_state.specs.Starts.{AreStarted}
use Rattle.cx_state.proofs.starts.start_instances.Given as goal

abbrev pub invariant-loop-number : goal.invariant-loop-number
invariant-loop-number l = AreStarted (plain_design l.design) (words_in l.memories) l.number (map plain_instance l.instances.items)
