-- What a run of the program leaves, as plain data.
use Rattle.std.specs.Prelude.{All, map}
use Rattle.cx_text.specs.Loading.{FitsShape, plain_loaded}
use Rattle.cx_data.specs.Widths.{HasWordWidth}
use Rattle.cx_compiler.specs.Interpreted.{PlainLeft}
use Rattle.cx_driver.specs.declared.interpreting.Left.{Left}

abbrev pub plain_left : Left → PlainLeft
plain_left left = record { turns = left.turns; memories = plain_loaded left.loaded }

-- its words fit their memories, and these have words of a data file
pub record CanDump (left : Left) : Type 0 where
  pub fits : All FitsShape (plain_loaded left.loaded)
  pub widths : All HasWordWidth (map (λ m. m.shape) (plain_loaded left.loaded))
