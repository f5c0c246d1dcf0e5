-- The names of the primitives, as designs write them.
use Rattle.std.specs.Prelude.{◌≡◌, ◌≢◌, ℕ, List, codes}
use Rattle.cx_prim.specs.declared.names.PrimitiveName.{PrimitiveName}
use Rattle.cx_prim.specs.declared.names.PrimitiveName.TheVariants.{Const, Wire, Add, Sub, And, Or, Xor, Not, Lsh, Rsh, Lt, Gt, Equal, Neq, Le, Ge, Slt, Sgt, Seq, Sneq, Sle, Sge, Slice, Pad, Mux, Reg, StdMemD1, StdMemD2, StdMemD3, StdMemD4, CombMemD1, CombMemD2, CombMemD3, CombMemD4, SeqMemD1, SeqMemD2, SeqMemD3, SeqMemD4, MultPipe, DivPipe, Timer}

-- a primitive's name
abbrev pub name_text : PrimitiveName → List ℕ
name_text Const = codes "std_const"
name_text Wire = codes "std_wire"
name_text Add = codes "std_add"
name_text Sub = codes "std_sub"
name_text And = codes "std_and"
name_text Or = codes "std_or"
name_text Xor = codes "std_xor"
name_text Not = codes "std_not"
name_text Lsh = codes "std_lsh"
name_text Rsh = codes "std_rsh"
name_text Lt = codes "std_lt"
name_text Gt = codes "std_gt"
name_text Equal = codes "std_eq"
name_text Neq = codes "std_neq"
name_text Le = codes "std_le"
name_text Ge = codes "std_ge"
name_text Slt = codes "std_slt"
name_text Sgt = codes "std_sgt"
name_text Seq = codes "std_seq"
name_text Sneq = codes "std_sneq"
name_text Sle = codes "std_sle"
name_text Sge = codes "std_sge"
name_text Slice = codes "std_slice"
name_text Pad = codes "std_pad"
name_text Mux = codes "std_mux"
name_text Reg = codes "std_reg"
name_text StdMemD1 = codes "std_mem_d1"
name_text StdMemD2 = codes "std_mem_d2"
name_text StdMemD3 = codes "std_mem_d3"
name_text StdMemD4 = codes "std_mem_d4"
name_text CombMemD1 = codes "comb_mem_d1"
name_text CombMemD2 = codes "comb_mem_d2"
name_text CombMemD3 = codes "comb_mem_d3"
name_text CombMemD4 = codes "comb_mem_d4"
name_text SeqMemD1 = codes "seq_mem_d1"
name_text SeqMemD2 = codes "seq_mem_d2"
name_text SeqMemD3 = codes "seq_mem_d3"
name_text SeqMemD4 = codes "seq_mem_d4"
name_text MultPipe = codes "std_mult_pipe"
name_text DivPipe = codes "std_div_pipe"
name_text Timer = codes "cx_timer"

-- designs name it so; the timer they cannot name
pub record IsNamed (name : PrimitiveName) (text : List ℕ) : Type 0 where
  pub spelled : name_text name ≡ text
  pub nameable : name ≢ Timer
