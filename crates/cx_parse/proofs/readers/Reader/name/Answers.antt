use Rattle.std.proofs.Common.{ℕ, List, Some, ap, ◌∙◌}
use Rattle.cx_grammar.specs.Calyx.{named}
use Rattle.cx_parse.proofs.Steps.{no_token, one, lost, moved}
use Rattle.cx_parse.proofs.readers.Reader.name.Goals as goal

pub returns-in_err-token : goal.returns-in_err-token
returns-in_err-token c = record { value = λ levels. no_token (c.in_err-token.ensures.value levels) }

pub returns-in_err-name : goal.returns-in_err-name
returns-in_err-name c = record { value = λ levels. lost (one {f = named} (c.in_ok-token.ensures.value levels)) c.in_err-name.ensures.value }

pub returns : goal.returns
returns c = record { value = λ levels. moved (one {f = named} (c.in_ok-token.ensures.value levels)) c.in_ok-name.ensures.value.0 (ap (λ (name : List ℕ). Some (name, c.in_ok-token.token.now.place)) (c.in_ok-name.ensures.value.1 ∙ c.word_of.ensures.value)) }
