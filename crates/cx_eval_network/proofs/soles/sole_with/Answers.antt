use Rattle.std.proofs.Common.{sym, ap, ◌∙◌}
use Rattle.cx_eval_drives.specs.Drives.{offset_by}
use Rattle.cx_eval_network.specs.Planned.{NumberedAssign}
use Rattle.cx_eval_network.proofs.SoleLemmas.{acting_as, resting_as}
use Rattle.cx_eval_network.proofs.soles.sole_with.Goals as goal

pub returns-in-Some : goal.returns-in-Some
returns-in-Some c = record {
  value = λ other same i a look own drive e agree rest.
      acting_as own look a drive c.acting_sole.result (offset_by other a.owner) (offset_by c.args.active.now a.owner) c.in-Some.field-0 (same a.owner)
      (sym (c.in-Some.ensures ∙ ap (λ (x : NumberedAssign). offset_by c.args.active.now x.owner) e)) (λ offset. c.acting_sole.ensures.value i a look own drive offset e agree rest);
}

pub returns-in-None : goal.returns-in-None
returns-in-None c = record {
  value = λ other same i a look own drive e agree rest.
      resting_as own look a drive c.args.rest (offset_by other a.owner) (offset_by c.args.active.now a.owner) (same a.owner) (sym (c.in-None.ensures ∙ ap (λ (x : NumberedAssign). offset_by c.args.active.now x.owner) e)) rest;
}
