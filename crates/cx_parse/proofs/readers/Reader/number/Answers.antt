use Rattle.std.proofs.Common.{refl, ap, Some}
use Rattle.cx_parse.proofs.Steps.{one, no_token, moved}
use Rattle.cx_parse.proofs.readers.Reader.number.Goals as goal

pub returns-in-Some : goal.returns-in-Some
returns-in-Some c = record { value = λ levels. moved (one (c.in-Some.ensures.value levels)) refl (ap (λ n. Some n) c.number_of.ensures.value) }

pub returns-in-None : goal.returns-in-None
returns-in-None c = record { value = λ levels. no_token (c.in-None.ensures.value levels) }
