use Rattle.cx_meaning.specs.Active.{source_order}
use Rattle.cx_design.specs.PlainActives.{plain_active}
use Rattle.cx_eval_drives.specs.Drives.{offset_by}
use Rattle.cx_eval_drives.proofs.DriveLemmas.{acting_is, offset_is}
use Rattle.cx_eval_drives.proofs.look_laws.own_assigns_drive.Goals as goal

pub returns : goal.returns
returns c i part active p = acting_is (plain_active i active) (offset_by active) p (source_order part) (offset_is i active)
