use Rattle.cx_state.proofs.HeldLemmas.{holds_states, holds_widths}
use Rattle.cx_state.proofs.width_laws.states_hold_widths.Goals as goal

pub returns-clause-inputs : goal.returns-clause-inputs
returns-clause-inputs c = λ d rows n path state number. holds_widths d rows state n path number

pub returns-clause-cells : goal.returns-clause-cells
returns-clause-cells c = λ d rows s path state stands. holds_states d rows state s stands path
