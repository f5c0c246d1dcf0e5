-- The bytes that a class has.
use Rattle.std.specs.Prelude.{ℕ, ◌≤◌, Bool}
use Rattle.cx_lex.specs.declared.classes.Class.{Class}
use Rattle.cx_lex.specs.declared.classes.Class.TheVariants.{NameByte, DigitIn, InLine, InString}
use Rattle.cx_lex.specs.Bytes.{is_name_byte, is_digit_in, is_in_line, is_in_string}

-- whether a byte is of the class
abbrev pub passes : Class → ℕ → Bool
passes NameByte = is_name_byte
passes (DigitIn base) = is_digit_in base
passes InLine = is_in_line
passes InString = is_in_string

-- a base is 2 to 36
abbrev pub HasBase : Class → Type 0
HasBase NameByte = Unit {0}
HasBase (DigitIn base) = (2 ≤ base) × (base ≤ 36)
HasBase InLine = Unit {0}
HasBase InString = Unit {0}
