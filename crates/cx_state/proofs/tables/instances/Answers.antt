use Rattle.std.proofs.Common.{sym, subst}
use Rattle.cx_design.specs.PlainDesigns.{plain_design}
use Rattle.cx_rules.specs.Flat.{IsFlat}
use Rattle.cx_state.proofs.TableLemmas.{few_instances}
use Rattle.cx_state.proofs.tables.instances.Goals as goal

pub table-requires-clause-few : goal.table-requires-clause-few
table-requires-clause-few c = few_instances (plain_design c.design-design.result.now) (subst (λ d. IsFlat (plain_design d)) (sym c.design-design.ensures.value) c.requires.flat) c.design-design.ensures.accepted.limits
