use Rattle.cx_check.proofs.Verdicts.{accepted_once, refused_once}
use Rattle.cx_check.proofs.accept_laws.one_verdict.Goals as goal

pub returns : goal.returns
returns c = record { accepted = λ tree told h b. accepted_once tree told h b; refused = λ tree told other h k. refused_once tree told other h k }
