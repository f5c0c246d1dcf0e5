-- The ports of modules.
use Rattle.std.specs.Prelude.{ℕ, true, false, List, [], ◌∷◌, ◌++◌, Option, Some, None, drop, slice_get, codes}
use Rattle.cx_prim.specs.Table.{PrimitiveRow}
use Rattle.cx_meaning.specs.declared.kinds.PortDecl.{PortDecl}
use Rattle.cx_meaning.specs.Designs.{PlainKind, OfPrimitive, OfComponent, PlainCell}
use Rattle.cx_vtree.specs.Plain.{PlainPort, PlainModule}
use Rattle.cx_vmods.specs.Modules.{module_of}
use Rattle.cx_net.specs.Nets.{PlainNetComponent, PlainNet}
use Rattle.cx_emit.specs.Names.{input_name, output_name, module_name, primitive_name}
use Rattle.cx_emit.specs.Numbered.{with_numbers}
pub use Rattle.cx_vmods.specs.Modules.{input as one_bit}

abbrev pub input_port : ℕ → PortDecl → PlainPort
input_port n d = record { output = false; name = input_name n; width = d.width }

abbrev pub output_port : ℕ → PortDecl → PlainPort
output_port n d = record { output = true; name = output_name n; width = d.width }

-- go, the inputs, the outputs and done
abbrev pub signature_of : PlainNetComponent → List PlainPort
signature_of part =
    one_bit (codes "go") ∷ with_numbers input_port part.inputs ++ with_numbers output_port part.outputs
    ++ record { output = true; name = codes "done"; width = 1 } ∷ []

-- those of a component's module
abbrev pub module_ports : PlainNetComponent → List PlainPort
module_ports part = one_bit (codes "clk") ∷ one_bit (codes "reset") ∷ signature_of part

-- the module of a cell, and its ports behind the clock and the reset
pub record PlainCellPorts : Type 0 where
  pub kind : List ℕ
  pub ports : List PlainPort

abbrev pub signature_at : Option PlainNetComponent → List PlainPort
signature_at None = []
signature_at (Some part) = signature_of part

-- the module of a primitive
abbrev pub primitive_module : PrimitiveRow → PlainModule
primitive_module p = module_of p (primitive_name p)

abbrev pub kind_ports : PlainNet → PlainKind → PlainCellPorts
kind_ports net (OfPrimitive p) = record { kind = primitive_name p; ports = drop 2 (primitive_module p).ports }
kind_ports net (OfComponent j) =
    record { kind = module_name net.main j; ports = signature_at (slice_get net.components j) }

-- of a cell
abbrev pub cell_ports : PlainNet → PlainCell → PlainCellPorts
cell_ports net cell = kind_ports net cell.kind
