use Rattle.std.proofs.Common.{◌≡◌, ◌++◌, drop}
use Rattle.cx_vtree.specs.Lines.{sizes_text}
use Rattle.cx_vwrite.proofs.lines.sizes.Given as goal

abbrev pub invariant-loop-size : goal.invariant-loop-size
invariant-loop-size l = l.out.items ++ sizes_text (drop l.size-index l.sizes) ≡ l.initial.out.items ++ sizes_text l.sizes
