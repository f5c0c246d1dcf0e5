use Rattle.cx_parse.proofs.Steps.{no_token, copied_one}
use Rattle.cx_parse.proofs.readers.Reader.word.Goals as goal

pub returns-in_err-token : goal.returns-in_err-token
returns-in_err-token c = record { value = λ levels. no_token (c.in_err-token.ensures.value levels) }

pub returns : goal.returns
returns c = record { value = λ levels. copied_one c.copied.result (c.in_ok-token.ensures.value levels) c.copied.ensures.value c.word_of.ensures.value }
