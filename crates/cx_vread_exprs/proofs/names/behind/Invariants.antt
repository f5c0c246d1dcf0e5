use Rattle.std.proofs.Common.{◌≡◌, length}
use Rattle.cx_vtree.specs.Layout.{is_name_byte}
use Rattle.cx_text.specs.Spans.{back}
use Rattle.cx_vread_exprs.proofs.names.behind.Given as goal

abbrev pub invariant-loop-byte : goal.invariant-loop-byte
invariant-loop-byte l = back is_name_byte l.rest ≡ back is_name_byte l.text

abbrev pub decreases-loop-byte : goal.decreases-loop-byte
decreases-loop-byte l = length l.rest
