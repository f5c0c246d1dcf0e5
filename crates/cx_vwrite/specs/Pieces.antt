-- The text of a module in two pieces.
use Rattle.std.specs.Prelude.{ℕ, List, [], ◌∷◌, ◌++◌, map, codes}
use Rattle.cx_vtree.specs.Plain.{PlainModule}
use Rattle.cx_vtree.specs.Lines.{DeclLine, AssignLine, InstanceLine, lines_text}
use Rattle.cx_vtree.specs.Spelling.{port_lines, edge_lines, module_lines}

-- to the last declaration
abbrev pub signature_text : PlainModule → List ℕ
signature_text m =
    (codes "module " ++ m.name ++ codes "(\n")
    ++ (lines_text (port_lines m.ports) ++ (codes ");\n" ++ lines_text (map DeclLine m.decls)))

-- after it
abbrev pub body_text : PlainModule → List ℕ
body_text m =
    lines_text (map AssignLine m.assigns) ++
    (lines_text (map InstanceLine m.instances) ++ (lines_text (edge_lines m.edge) ++ codes "endmodule\n"))

-- modules, one after another
abbrev pub modules_text : List PlainModule → List ℕ
modules_text [] = []
modules_text (m ∷ ms) = lines_text (module_lines m) ++ modules_text ms
