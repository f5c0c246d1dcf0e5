-- The instrumented main and the instrumented child, as the code makes them of a component.
use Rattle.std.specs.Prelude.{ℕ, ◌+◌, ◌*◌, length}
use Rattle.cx_meaning.specs.declared.ports.PortRef.{PortRef}
use Rattle.cx_meaning.specs.Designs.{PlainComponent, PlainDesign}
use Rattle.cx_profiling.specs.FreeNames.{free_names, names_of}
use Rattle.cx_profile.specs.Counted.{counted_among}
use Rattle.cx_profile.specs.Growing.{shown_ports, child_part, main_part}

abbrev pub own_of : PlainComponent → ℕ
own_of part = counted_among part.cells part.groups

abbrev pub made_main : PlainDesign → (PortRef → PortRef) → PlainComponent → PlainComponent
made_main d move part =
    main_part move part
    (free_names (names_of part) (2 * own_of part + length (shown_ports d part (own_of part)) + 1))
    (own_of part) (shown_ports d part (own_of part))

abbrev pub made_child : PlainDesign → (PortRef → PortRef) → PlainComponent → PlainComponent
made_child d move part =
    child_part move part
    (free_names (names_of part) (2 * own_of part + length (shown_ports d part (own_of part))))
    (own_of part) (shown_ports d part (own_of part))
