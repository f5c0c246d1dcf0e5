use Rattle.std.proofs.Common.{◌≡◌, false, map, take}
use Rattle.std.specs.Prelude.{is_some}
use Rattle.cx_meaning.specs.Active.{offset_in}
use Rattle.cx_design.specs.PlainActives.{plain_entry}
use Rattle.cx_interp.proofs.counts.stands_among.Given as goal

-- it stands at none of the entries so far
abbrev pub invariant-loop-entry : goal.invariant-loop-entry
invariant-loop-entry l = is_some (offset_in (map plain_entry (take l.entry-index l.entries)) l.group) ≡ false
