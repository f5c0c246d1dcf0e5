use Rattle.cx_parse.proofs.Steps.{one, no_token}
use Rattle.cx_parse.proofs.readers.Reader.sign.Goals as goal

pub returns-in-Some : goal.returns-in-Some
returns-in-Some c = record { value = λ levels. one (c.in-Some.ensures.value levels) }

pub returns-in-None : goal.returns-in-None
returns-in-None c = record { value = λ levels. no_token (c.in-None.ensures.value levels) }
