use Rattle.std.proofs.Common.{sym, subst}
use Rattle.cx_eval_drives.specs.Drives.{offset_by}
use Rattle.cx_eval_network.specs.Planned.{StandFor}
use Rattle.cx_eval_network.proofs.SoleLemmas.{source_seen, undriven_seen}
use Rattle.cx_eval_network.proofs.soles.driven_source.Goals as goal

pub returns-in-Nothing : goal.returns-in-Nothing
returns-in-Nothing c = record {
  value = λ other same i owned look own stand agree.
      undriven_seen own look (offset_by other) owned c.args.plan.now.undriven
      (c.in-Nothing.ensures.value other same i owned look own (subst (λ xs. StandFor i xs owned) (sym c.as_slice.ensures.value) stand) agree);
}

pub returns-in-Source : goal.returns-in-Source
returns-in-Source c = record {
  value = λ other same i owned look own stand agree.
      source_seen own look (offset_by other) owned c.args.plan.now.undriven c.in-Source.source
      (c.in-Source.ensures.value other same i owned look own (subst (λ xs. StandFor i xs owned) (sym c.as_slice.ensures.value) stand) agree);
}
