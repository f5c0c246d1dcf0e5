-- The primitives that are memories.
use Rattle.std.specs.Prelude.{Bool, true, false}
use Rattle.cx_prim.specs.declared.names.PrimitiveName.{PrimitiveName}
use Rattle.cx_prim.specs.declared.names.PrimitiveName.TheVariants.{StdMemD1, StdMemD2, StdMemD3, StdMemD4, CombMemD1, CombMemD2, CombMemD3, CombMemD4, SeqMemD1, SeqMemD2, SeqMemD3, SeqMemD4}

abbrev pub is_memory_name : PrimitiveName → Bool
is_memory_name StdMemD1 = true
is_memory_name StdMemD2 = true
is_memory_name StdMemD3 = true
is_memory_name StdMemD4 = true
is_memory_name CombMemD1 = true
is_memory_name CombMemD2 = true
is_memory_name CombMemD3 = true
is_memory_name CombMemD4 = true
is_memory_name SeqMemD1 = true
is_memory_name SeqMemD2 = true
is_memory_name SeqMemD3 = true
is_memory_name SeqMemD4 = true
is_memory_name _ = false
