use Rattle.cx_weave.proofs.RoomSteps.{opened_room, step_room}
use Rattle.cx_weave.proofs.TakenSteps.{taken_room}
use Rattle.cx_weave.proofs.laws.takes_no_more.Goals as goal

pub returns-clause-opened : goal.returns-clause-opened
returns-clause-opened c = opened_room

pub returns-clause-turn : goal.returns-clause-turn
returns-clause-turn c = step_room

pub returns-clause-now : goal.returns-clause-now
returns-clause-now c = taken_room
