use Rattle.std.proofs.Common.{◌≡◌, ◌++◌, drop, map}
use Rattle.cx_ast.specs.PlainTree.{plain_port}
use Rattle.cx_numbering.specs.Names.{signature_ports}
use Rattle.cx_numbering.specs.DesignOf.{decl_of}
use Rattle.cx_names.specs.Sites.{tree_at, part_at}
use Rattle.cx_names.proofs.components.decls.Given as goal

-- the ports so far, and those of the items that are left, are all
abbrev pub invariant-loop-port : goal.invariant-loop-port
invariant-loop-port l =
    l.all.items ++ map (decl_of (tree_at l.site) (part_at l.site)) (signature_ports (map plain_port (drop l.port-index l.ports))) ≡ map (decl_of (tree_at l.site) (part_at l.site)) (signature_ports (map plain_port l.ports))
