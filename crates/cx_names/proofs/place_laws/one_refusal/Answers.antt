use Rattle.cx_names.proofs.Placed.{refused_once}
use Rattle.cx_names.proofs.place_laws.one_refusal.Goals as goal

pub returns-clause-rule : goal.returns-clause-rule
returns-clause-rule c text tokens tree a b lexed parsed none first other = (refused_once text tokens tree a b lexed parsed none first other).0

pub returns-clause-place : goal.returns-clause-place
returns-clause-place c text tokens tree a b lexed parsed none first other = (refused_once text tokens tree a b lexed parsed none first other).1

pub returns-clause-name : goal.returns-clause-name
returns-clause-name c text tokens tree a b lexed parsed none first other = (refused_once text tokens tree a b lexed parsed none first other).2
