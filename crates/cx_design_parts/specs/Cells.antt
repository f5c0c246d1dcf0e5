-- What stands at a cell, and the ports of a component's cell.
use Rattle.std.specs.Prelude.{◌≡◌}
use Rattle.cx_prim.specs.Table.{row_of}
use Rattle.cx_meaning.specs.Instances as plain
use Rattle.cx_meaning.specs.Instances.{Instance, OfRow, OfInstance, part_of}
use Rattle.cx_meaning.specs.Sights as sights
use Rattle.cx_design.specs.PlainForms.{plain_component}
use Rattle.cx_design_parts.specs.declared.cells.At.{At}
use Rattle.cx_design_parts.specs.declared.cells.At.TheVariants.{Nothing, Primitive, Part}
use Rattle.cx_design_parts.specs.declared.parts.PartPort.{PartPort}
use Rattle.cx_design_parts.specs.declared.parts.PartPort.TheVariants.{Go, Input, Output, Done}

-- a primitive stands for its row, and a component for an instance of it
abbrev pub StandsFor : At → plain.At → Type 0
StandsFor Nothing at = at ≡ plain.Nothing
StandsFor (Primitive primitive) at = at ≡ OfRow (row_of primitive.now)
StandsFor (Part component) at =
    (child : Instance) × (at ≡ OfInstance child) × (part_of child ≡ plain_component component.now)

abbrev pub plain_part_port : PartPort → sights.PartPort
plain_part_port Go = sights.Go
plain_part_port (Input n) = sights.AnInput n
plain_part_port (Output n) = sights.AnOutput n
plain_part_port Done = sights.ItsDone
