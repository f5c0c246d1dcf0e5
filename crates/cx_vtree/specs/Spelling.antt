-- The text of a source: each source has one.
use Rattle.std.specs.Prelude.{List, [], ◌∷◌, ◌++◌, ◌==◌, not, length, Option, Some, None, ℕ, map}
use Rattle.cx_vtree.specs.Plain.{PlainPort, PlainItem, SetTo, StoreTo, PlainEdge, PlainModule, PlainSource}
use Rattle.cx_vtree.specs.Lines.{Line, ExternalLine, ModuleLine, PortLine, PortsEnd, DeclLine, AssignLine, InstanceLine, AlwaysLine, ResetLine, SetLine, ElseLine, StoreLine, BranchesEnd, AlwaysEnd, ModuleEnd, lines_text}

-- every port but the last is followed by a comma
abbrev pub port_lines : List PlainPort → List Line
port_lines [] = []
port_lines (p ∷ ps) = PortLine p (not (length ps == 0)) ∷ port_lines ps

abbrev pub item_line : PlainItem → Line
item_line (SetTo a) = SetLine a
item_line (StoreTo s) = StoreLine s

abbrev pub edge_lines : Option PlainEdge → List Line
edge_lines None = []
edge_lines (Some e) =
    AlwaysLine ∷ ResetLine ∷ map SetLine e.reset ++ ElseLine ∷ map item_line e.step ++ BranchesEnd
    ∷ AlwaysEnd ∷ []

abbrev pub module_lines : PlainModule → List Line
module_lines m =
    ModuleLine m.name ∷ port_lines m.ports ++ PortsEnd ∷ map DeclLine m.decls ++ map AssignLine m.assigns
    ++ map InstanceLine m.instances
    ++ edge_lines m.edge ++ ModuleEnd ∷ []

abbrev pub modules_lines : List PlainModule → List Line
modules_lines [] = []
modules_lines (m ∷ ms) = module_lines m ++ modules_lines ms

abbrev pub source_lines : PlainSource → List Line
source_lines s = map ExternalLine s.externals ++ modules_lines s.modules

-- the bytes that spell a source
abbrev pub text_of : PlainSource → List ℕ
text_of s = lines_text (source_lines s)
