-- The widths that the words of a data file may have.
use Rattle.std.specs.Prelude.{◌≤◌}
use Rattle.cx_text.specs.Loading.{PlainRow}

-- a word of the data file has 1 to 64 bits
pub record HasWordWidth (shape : PlainRow) : Type 0 where
  pub positive : 1 ≤ shape.width
  pub narrow : shape.width ≤ 64
