-- What a Verilog text asks of the external memories of a design.
use Rattle.std.specs.Prelude.{◌≡◌, true}
use Rattle.cx_text.specs.Members.{In}
use Rattle.cx_meaning.specs.Designs.{PlainCell, PlainDesign, component_at}
use Rattle.cx_vtree.specs.Layout.{is_word}

-- the names of the external memories of a design are words
abbrev pub HasWords : PlainDesign → Type 0
HasWords d =
    (cell : PlainCell) → In (component_at d d.main).cells cell → cell.external ≡ true
    → is_word cell.name ≡ true
