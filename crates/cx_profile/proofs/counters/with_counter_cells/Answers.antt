use Rattle.std.proofs.Common.{◌*◌, map, refl}
use Rattle.cx_design.specs.PlainForms.{plain_cell}
use Rattle.cx_profile.proofs.StepLemmas.{counter_pushed}
use Rattle.cx_profile.proofs.counters.with_counter_cells.Goals as goal

pub loop-counter-preserved : goal.loop-counter-preserved
loop-counter-preserved c =
    counter_pushed c.args.place c.args.names.now (map plain_cell c.args.cells.items) c.loop-counter.all.items c.push.new.self.items c.push-in-loop-counter.new.self.items
    c.in_ok-counter_cell.field-0 c.in_ok-counter_cell-2.field-0 c.loop-counter.counter (2 * c.loop-counter.counter)
    c.in_ok-push.ensures.items c.in_ok-push-2.ensures.items refl c.loop-counter.invariant c.in_ok-counter_cell.ensures.value c.in_ok-counter_cell-2.ensures.value
