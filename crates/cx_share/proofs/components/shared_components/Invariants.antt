use Rattle.std.proofs.Common.{◌≡◌, ◌++◌, drop, map}
use Rattle.cx_ast.specs.PlainTree as ast
use Rattle.cx_design.specs.PlainForms.{plain_component}
use Rattle.cx_sharing.specs.SharedTree.{shared_components}
use Rattle.cx_share.proofs.components.shared_components.Given as goal

-- the components so far, and those that are left, are all
abbrev pub invariant-loop-number : goal.invariant-loop-number
invariant-loop-number l = map ast.plain_component l.components.items ++ shared_components (map plain_component (drop l.number l.parts)) (map ast.plain_component (drop l.number l.items)) ≡ shared_components (map plain_component l.parts) (map ast.plain_component l.items)
