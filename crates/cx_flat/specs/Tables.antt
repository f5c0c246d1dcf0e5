-- The flat components of static children: by the number of a component in a table, and of the cells of a component.
use Rattle.std.specs.Prelude.{List, Option, None, map, option_map}
use Rattle.cx_meaning.specs.Designs.{PlainKind, OfPrimitive, OfComponent, PlainCell, PlainComponent}
use Rattle.cx_design.specs.declared.components.Component.{Component}
use Rattle.cx_design.specs.PlainForms.{plain_component}
use Rattle.cx_flattening.specs.Flattened.{Kids, kid_at}

abbrev pub plain_table : List (Option Component) → Kids
plain_table table = map (option_map plain_component) table

abbrev pub kid_by : Kids → PlainKind → Option PlainComponent
kid_by table (OfPrimitive primitive) = None
kid_by table (OfComponent k) = kid_at table k

abbrev pub kids_of : Kids → List PlainCell → Kids
kids_of table cells = map (λ c. kid_by table c.kind) cells
