use Rattle.std.proofs.Common.{sym, ◌∙◌}
use Rattle.cx_design.proofs.DesignFacts.{main_there}
use Rattle.cx_design.specs.PlainDesigns.{plain_design}
use Rattle.cx_limits.proofs.LimitBreaks.{none_found}
use Rattle.cx_limits.proofs.FirstTold.{told_first}
use Rattle.cx_limits.proofs.checking.limits.Goals as goal

pub returns-in-Ok-None-clause-ok : goal.returns-in-Ok-None-clause-ok
returns-in-Ok-None-clause-ok c =
    none_found (plain_design c.args.design.now) (main_there (plain_design c.args.design.now) c.args.design.now.keeps) (sym c.in-Ok-None.ensures ∙ c.in-Ok-None.field-0-is)

pub returns-in-Ok-Some-clause-rule : goal.returns-in-Ok-Some-clause-rule
returns-in-Ok-Some-clause-rule c =
    told_first (plain_design c.args.design.now) (main_there (plain_design c.args.design.now) c.args.design.now.keeps) c.in-Ok-Some.found c.told.result
    (sym c.in-Ok-Some.ensures ∙ c.in-Ok-Some.field-0-is) c.told.ensures
