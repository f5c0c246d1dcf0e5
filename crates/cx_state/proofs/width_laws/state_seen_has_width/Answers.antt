use Rattle.cx_state.specs.States.{inputs_held, under_path}
use Rattle.cx_state.proofs.width_laws.state_seen_has_width.Goals as goal

pub returns : goal.returns
returns c = λ d rows s n path act p b design accepted acyclic state stands number there literal found.
    c.found_has_width.ensures d path (inputs_held rows n) act (under_path path s) p b design accepted acyclic
    (c.states_hold_widths.ensures.inputs d rows n path state number) (c.states_hold_widths.ensures.cells d rows s path state stands) there literal found
