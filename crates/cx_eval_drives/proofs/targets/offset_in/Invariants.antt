use Rattle.std.proofs.Common.{◌≡◌, drop}
use Rattle.cx_eval_drives.specs.Drives.{offset_among}
use Rattle.cx_eval_drives.proofs.targets.offset_in.Given as goal

abbrev pub invariant-loop-entry : goal.invariant-loop-entry
invariant-loop-entry l = offset_among (drop l.entry-index l.entries) l.group ≡ offset_among l.entries l.group
