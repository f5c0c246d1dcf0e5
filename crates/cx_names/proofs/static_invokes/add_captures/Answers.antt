use Rattle.std.proofs.Common.{arith}
use Rattle.cx_names.proofs.static_invokes.add_captures.Goals as goal

pub offset_bounds-bind-items-bind-index : goal.offset_bounds-bind-items-bind-index
offset_bounds-bind-items-bind-index c = omega arith
