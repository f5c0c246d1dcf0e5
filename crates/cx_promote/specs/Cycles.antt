-- The cycles of a primitive by its name and its numbers.
use Rattle.std.specs.Prelude.{ℕ, Bool, true, false, List, [], ◌∷◌, Option, Some, None}
use Rattle.cx_prim.specs.declared.names.PrimitiveName.{PrimitiveName}
use Rattle.cx_prim.specs.declared.names.PrimitiveName.TheVariants as primitives

abbrev pub first_of : List ℕ → Option ℕ
first_of [] = None
first_of (n ∷ rest) = Some n

abbrev pub cycles_named : PrimitiveName → List ℕ → Option ℕ
cycles_named primitives.Reg numbers = Some 1
cycles_named primitives.StdMemD1 numbers = Some 1
cycles_named primitives.StdMemD2 numbers = Some 1
cycles_named primitives.StdMemD3 numbers = Some 1
cycles_named primitives.StdMemD4 numbers = Some 1
cycles_named primitives.CombMemD1 numbers = Some 1
cycles_named primitives.CombMemD2 numbers = Some 1
cycles_named primitives.CombMemD3 numbers = Some 1
cycles_named primitives.CombMemD4 numbers = Some 1
cycles_named primitives.SeqMemD1 numbers = Some 1
cycles_named primitives.SeqMemD2 numbers = Some 1
cycles_named primitives.SeqMemD3 numbers = Some 1
cycles_named primitives.SeqMemD4 numbers = Some 1
cycles_named primitives.MultPipe numbers = Some 3
cycles_named primitives.DivPipe numbers = first_of numbers
cycles_named _ numbers = None

abbrev pub is_pipe_name : PrimitiveName → Bool
is_pipe_name primitives.MultPipe = true
is_pipe_name primitives.DivPipe = true
is_pipe_name _ = false
