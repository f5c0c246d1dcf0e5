use Rattle.cx_lex.proofs.WholeLemmas.{one_tokens, no_fault, one_fault, tokens_or_fault}
use Rattle.cx_lex.proofs.lexing.one_reading.Goals as goal

pub returns : goal.returns
returns c = record { some = tokens_or_fault; tokens = one_tokens; not_both = no_fault; fault = one_fault }
