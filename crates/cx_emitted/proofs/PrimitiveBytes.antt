-- How long the module of a primitive is at most.
use Rattle.std.proofs.Common.{◌≡◌, ℕ, zero, suc, ◌+◌, ◌-◌, ◌*◌, ◌^◌, ◌≤◌, ◌==◌, Bool, true, false, List, [], ◌∷◌, ◌++◌, map, length, Some, None, refl, subst, arith, if◌then◌else◌}
use Rattle.std.specs.Prelude.{codes, take, drop, nat_le, slice_index, unwrap_or}
use Rattle.cx_text.specs.Loading.{word_count}
use Rattle.cx_prim.specs.declared.ports.PortName.{PortName}
use Rattle.cx_prim.specs.declared.ports.PortName.TheVariants.{In, Out, Left, Right, Cond, Tru, Fal, WriteEn, ContentEn, Go, Done, Addr0, Addr1, Addr2, Addr3, WriteData, ReadData, OutQuotient, OutRemainder}
use Rattle.cx_prim.specs.declared.ports.PortRow.{PortRow}
use Rattle.cx_prim.specs.declared.names.PrimitiveName.{PrimitiveName}
use Rattle.cx_prim.specs.declared.names.PrimitiveName.TheVariants.{Const, Wire, Add, Sub, And, Or, Xor, Not, Lsh, Rsh, Lt, Gt, Equal, Neq, Le, Ge, Slt, Sgt, Seq, Sneq, Sle, Sge, Slice, Pad, Mux, Reg, StdMemD1, StdMemD2, StdMemD3, StdMemD4, CombMemD1, CombMemD2, CombMemD3, CombMemD4, SeqMemD1, SeqMemD2, SeqMemD3, SeqMemD4, MultPipe, DivPipe, Timer}
use Rattle.cx_prim.specs.PortNames.{text_of}
use Rattle.cx_prim.specs.Widths.{is_width}
use Rattle.cx_prim.specs.PipeRows.{divider_row}
use Rattle.cx_prim.specs.Table.{PrimitiveRow, row_of, at_width, row_at, no_row}
use Rattle.cx_rules.specs.Wellformed.{is_memory}
use Rattle.cx_vtree.specs.declared.operators.Operator.{Operator}
use Rattle.cx_vtree.specs.declared.operators.Operator.TheVariants as operators
use Rattle.cx_vtree.specs.Plain.{Applied, Chosen, Joined, WireOf, RegisterOf, ArrayOf, SetTo, StoreTo}
use Rattle.cx_vtree.specs.Lines.{op_text}
use Rattle.cx_vmods.specs.Spelling.{spelled, net, part}
use Rattle.cx_vmods.specs.BitCounts.{bits_for}
use Rattle.cx_vmods.specs.Parts.{Piece, Interior, nothing, assign, literal, with_piece, with_pieces, made_of}
use Rattle.cx_vmods.specs.Parts as pieces
use Rattle.cx_vmods.specs.Addresses.{address, below, in_range, fitted, index}
use Rattle.cx_vmods.specs.Combinational as combinational
use Rattle.cx_vmods.specs.Clocked as clocked
use Rattle.cx_vmods.specs.Memories as memories
use Rattle.cx_vmods.specs.Modules.{port_of, memory_pieces, sequential_pieces, pieces_of, edge_of, module_of}
use Rattle.cx_emitted.proofs.TextBytes.{expr_bytes, sum_over}
use Rattle.cx_emitted.proofs.ModuleBytes.{sum_over-append, port_bytes, declared_bytes, assigned_bytes, reset_bytes, step_bytes, edge_bytes, module_bytes}

-- PORTS
pub port_name_few : (n : PortName) → length (spelled (text_of n)) ≤ 16
unfolding spelled
port_name_few In = omega arith
port_name_few Out = omega arith
port_name_few Left = omega arith
port_name_few Right = omega arith
port_name_few Cond = omega arith
port_name_few Tru = omega arith
port_name_few Fal = omega arith
port_name_few WriteEn = omega arith
port_name_few ContentEn = omega arith
port_name_few Go = omega arith
port_name_few Done = omega arith
port_name_few Addr0 = omega arith
port_name_few Addr1 = omega arith
port_name_few Addr2 = omega arith
port_name_few Addr3 = omega arith
port_name_few WriteData = omega arith
port_name_few ReadData = omega arith
port_name_few OutQuotient = omega arith
port_name_few OutRemainder = omega arith

ports_few : (ps : List PortRow) → sum_over port_bytes (map port_of ps) ≤ 40 * length ps
ports_few [] = omega arith
ports_few (p ∷ ps) =
    let own : length (spelled (text_of p.name)) ≤ 16 = port_name_few p.name in
    let rest : sum_over port_bytes (map port_of ps) ≤ 40 * length ps = ports_few ps in
    omega arith

-- PIECES
abbrev pub piece_cost : Piece → ℕ
piece_cost (pieces.Wire name width value) = length (spelled name) + (length (spelled name) + (expr_bytes value + 31))
piece_cost (pieces.Output name value) = length (spelled name) + (expr_bytes value + 14)
piece_cost (pieces.Register name width next) = length (spelled name) + (length (spelled name) + (length (spelled name) + (expr_bytes next + 77)))
piece_cost (pieces.Array name width size) = length (spelled name) + 42
piece_cost (pieces.Store guard array index value) = expr_bytes guard + (length (spelled array) + (expr_bytes index + (expr_bytes value + 20)))

abbrev pub pieces_cost : List Piece → ℕ
pieces_cost [] = 0
pieces_cost (p ∷ ps) = piece_cost p + pieces_cost ps

abbrev interior_bytes : Interior → ℕ
interior_bytes i = sum_over declared_bytes i.decls + (sum_over assigned_bytes i.assigns + (sum_over reset_bytes i.reset + sum_over step_bytes i.step))

one_piece : (i : Interior) (p : Piece) → interior_bytes (with_piece i p) ≡ interior_bytes i + piece_cost p
unfolding with_piece
one_piece i (pieces.Wire name width value) =
    let d : sum_over declared_bytes (i.decls ++ WireOf (spelled name) width ∷ []) ≡ sum_over declared_bytes i.decls + sum_over declared_bytes (WireOf (spelled name) width ∷ []) = sum_over-append declared_bytes i.decls (WireOf (spelled name) width ∷ []) in
    let a : sum_over assigned_bytes (i.assigns ++ assign name value ∷ []) ≡ sum_over assigned_bytes i.assigns + sum_over assigned_bytes (assign name value ∷ []) = sum_over-append assigned_bytes i.assigns (assign name value ∷ []) in
    omega arith
one_piece i (pieces.Output name value) =
    let a : sum_over assigned_bytes (i.assigns ++ assign name value ∷ []) ≡ sum_over assigned_bytes i.assigns + sum_over assigned_bytes (assign name value ∷ []) = sum_over-append assigned_bytes i.assigns (assign name value ∷ []) in
    omega arith
one_piece i (pieces.Register name width next) =
    let d : sum_over declared_bytes (i.decls ++ RegisterOf (spelled name) width ∷ []) ≡ sum_over declared_bytes i.decls + sum_over declared_bytes (RegisterOf (spelled name) width ∷ []) = sum_over-append declared_bytes i.decls (RegisterOf (spelled name) width ∷ []) in
    let r : sum_over reset_bytes (i.reset ++ assign name (literal width 0) ∷ []) ≡ sum_over reset_bytes i.reset + sum_over reset_bytes (assign name (literal width 0) ∷ []) = sum_over-append reset_bytes i.reset (assign name (literal width 0) ∷ []) in
    let s : sum_over step_bytes (i.step ++ SetTo (assign name next) ∷ []) ≡ sum_over step_bytes i.step + sum_over step_bytes (SetTo (assign name next) ∷ []) = sum_over-append step_bytes i.step (SetTo (assign name next) ∷ []) in
    omega arith
one_piece i (pieces.Array name width size) =
    let d : sum_over declared_bytes (i.decls ++ ArrayOf (spelled name) width size ∷ []) ≡ sum_over declared_bytes i.decls + sum_over declared_bytes (ArrayOf (spelled name) width size ∷ []) = sum_over-append declared_bytes i.decls (ArrayOf (spelled name) width size ∷ []) in
    omega arith
one_piece i (pieces.Store guard array index value) =
    let s : sum_over step_bytes (i.step ++ StoreTo (record { guard = guard; array = spelled array; index = index; value = value }) ∷ []) ≡ sum_over step_bytes i.step + sum_over step_bytes (StoreTo (record { guard = guard; array = spelled array; index = index; value = value }) ∷ []) =
    sum_over-append step_bytes i.step (StoreTo (record { guard = guard; array = spelled array; index = index; value = value }) ∷ []) in
    omega arith

many_pieces : (i : Interior) (ps : List Piece) → interior_bytes (with_pieces i ps) ≡ interior_bytes i + pieces_cost ps
many_pieces i [] = omega arith
many_pieces i (p ∷ ps) =
    let own : interior_bytes (with_piece i p) ≡ interior_bytes i + piece_cost p = one_piece i p in
    let rest : interior_bytes (with_pieces (with_piece i p) ps) ≡ interior_bytes (with_piece i p) + pieces_cost ps = many_pieces (with_piece i p) ps in
    omega arith

edge_few : (i : Interior) → edge_bytes (edge_of i) ≤ 85 + (sum_over reset_bytes i.reset + sum_over step_bytes i.step)
edge_few i = by (length i.step == 0)
  where
    by : (b : Bool) → edge_bytes (if b then None else Some (record { reset = i.reset; step = i.step })) ≤ 85 + (sum_over reset_bytes i.reset + sum_over step_bytes i.step)
    by true = omega arith
    by false = omega arith

-- THE MODULE of a primitive
pub primitive_bytes : (p : PrimitiveRow) (name : List ℕ) → module_bytes (module_of p name) ≤ length name + (163 + (40 * length (row_of p).ports + pieces_cost (pieces_of p.name p.numbers)))
primitive_bytes p name =
    let i : Interior = made_of (pieces_of p.name p.numbers) in
    let ports : sum_over port_bytes (map port_of (row_of p).ports) ≤ 40 * length (row_of p).ports = ports_few (row_of p).ports in
    let all : interior_bytes i ≡ interior_bytes nothing + pieces_cost (pieces_of p.name p.numbers) = many_pieces nothing (pieces_of p.name p.numbers) in
    let edge : edge_bytes (edge_of i) ≤ 85 + (sum_over reset_bytes i.reset + sum_over step_bytes i.step) = edge_few i in
    omega arith

-- WHAT THE PIECES COST
address_few : (n : ℕ) → length (spelled (address n)) ≤ 8
unfolding spelled
address_few zero = omega arith
address_few (suc zero) = omega arith
address_few (suc (suc zero)) = omega arith
address_few (suc (suc (suc n))) = omega arith

below_few : (n size width : ℕ) → expr_bytes (below n size width) ≤ 50
below_few n size width = by (nat_le (2 ^ width) size) (address_few n)
  where
    by : (b : Bool) → length (spelled (address n)) ≤ 8 → expr_bytes (if b then literal 1 1 else Applied operators.Less (net (address n)) (literal width size)) ≤ 50
    by true h = omega arith
    by false h = omega arith

in_range_few : (n : ℕ) (sizes widths : List ℕ) → expr_bytes (in_range n sizes widths) ≤ 37 + 55 * length sizes
in_range_few n [] widths = omega arith
in_range_few n (size ∷ sizes) [] = omega arith
in_range_few n (size ∷ sizes) (width ∷ widths) = by (length sizes == 0) (below_few n size width) (in_range_few (n + 1) sizes widths)
  where
    by : (b : Bool) → expr_bytes (below n size width) ≤ 50 → expr_bytes (in_range (n + 1) sizes widths) ≤ 37 + 55 * length sizes
        → expr_bytes (if b then below n size width else Applied operators.And (below n size width) (in_range (n + 1) sizes widths)) ≤ 37 + 55 * suc (length sizes)
    by true h k = omega arith
    by false h k = omega arith

fitted_few : (n width index_width : ℕ) → expr_bytes (fitted n width index_width) ≤ 49
fitted_few n width index_width = by (nat_le index_width width) (address_few n)
  where
    by : (b : Bool) → length (spelled (address n)) ≤ 8
        → expr_bytes (if b then part (address n) (index_width - 1) 0 else Joined (literal (index_width - width) 0) (net (address n))) ≤ 49
    by true h = omega arith
    by false h = omega arith

index_few : (n index_width : ℕ) (sizes widths : List ℕ) → expr_bytes (index n index_width sizes widths) ≤ 49 + 96 * length sizes
index_few n index_width [] widths = omega arith
index_few n index_width (size ∷ sizes) [] = omega arith
index_few n index_width (size ∷ sizes) (width ∷ widths) = by (length sizes == 0) (fitted_few n width index_width) (index_few (n + 1) index_width sizes widths)
  where
    by : (b : Bool) → expr_bytes (fitted n width index_width) ≤ 49 → expr_bytes (index (n + 1) index_width sizes widths) ≤ 49 + 96 * length sizes
        → expr_bytes (if b then fitted n width index_width else Applied operators.Add (Applied operators.Multiply (fitted n width index_width) (literal index_width (word_count sizes))) (index (n + 1) index_width sizes widths))
        ≤ 49 + 96 * suc (length sizes)
    by true h k = omega arith
    by false h k = omega arith

take_few : (n : ℕ) (xs : List ℕ) → length (take n xs) ≤ n
take_few zero xs = omega arith
take_few (suc n) [] = omega arith
take_few (suc n) (x ∷ xs) = let h : length (take n xs) ≤ n = take_few n xs in omega arith

-- memories, sequential ones or not
memory_few : (d : ℕ) (numbers : List ℕ) → d ≤ 4 → pieces_cost (memory_pieces d numbers) ≤ 2000
unfolding spelled memories.combinational
memory_few d [] few = omega arith
memory_few d (w ∷ rest) few =
    let some : length (take d rest) ≤ d = take_few d rest in
    let range : expr_bytes (in_range 0 (take d rest) (drop d rest)) ≤ 37 + 55 * length (take d rest) = in_range_few 0 (take d rest) (drop d rest) in
    let word : expr_bytes (index 0 (bits_for (word_count (take d rest))) (take d rest) (drop d rest)) ≤ 49 + 96 * length (take d rest) = index_few 0 (bits_for (word_count (take d rest))) (take d rest) (drop d rest) in
    omega arith

sequential_few : (d : ℕ) (numbers : List ℕ) → d ≤ 4 → pieces_cost (sequential_pieces d numbers) ≤ 2000
unfolding spelled memories.sequential
sequential_few d [] few = omega arith
sequential_few d (w ∷ rest) few =
    let some : length (take d rest) ≤ d = take_few d rest in
    let range : expr_bytes (in_range 0 (take d rest) (drop d rest)) ≤ 37 + 55 * length (take d rest) = in_range_few 0 (take d rest) (drop d rest) in
    let word : expr_bytes (index 0 (bits_for (word_count (take d rest))) (take d rest) (drop d rest)) ≤ 49 + 96 * length (take d rest) = index_few 0 (bits_for (word_count (take d rest))) (take d rest) (drop d rest) in
    omega arith

sign_few : (op : Operator) → length (op_text op) ≤ 2
sign_few operators.Add = omega arith
sign_few operators.Subtract = omega arith
sign_few operators.Multiply = omega arith
sign_few operators.And = omega arith
sign_few operators.Or = omega arith
sign_few operators.Xor = omega arith
sign_few operators.ShiftLeft = omega arith
sign_few operators.ShiftRight = omega arith
sign_few operators.Equal = omega arith
sign_few operators.NotEqual = omega arith
sign_few operators.Less = omega arith
sign_few operators.Greater = omega arith
sign_few operators.AtMost = omega arith
sign_few operators.AtLeast = omega arith

operator_few : (op : Operator) → pieces_cost (combinational.operator op) ≤ 200
unfolding spelled
operator_few op = let h : length (op_text op) ≤ 2 = sign_few op in omega arith

signed_few : (op : Operator) (w : ℕ) → pieces_cost (combinational.signed op w) ≤ 300
unfolding spelled
signed_few op w = let h : length (op_text op) ≤ 2 = sign_few op in omega arith

shift_few : (op : Operator) (w : ℕ) → pieces_cost (combinational.shift op w) ≤ 400
unfolding spelled
shift_few op w = by (nat_le w 32) (sign_few op)
  where
    by : (b : Bool) → length (op_text op) ≤ 2
        → pieces_cost (if b then combinational.operator op else combinational.giving (Chosen (Applied operators.Less (net (codes "right")) (literal w w)) (Applied op (net (codes "left")) (Joined (literal (w - 8) 0) (part (codes "right") 7 0))) (literal w 0))) ≤ 400
    by true h = omega arith
    by false h = omega arith

pad_few : (w v : ℕ) → pieces_cost (combinational.pad w v) ≤ 200
unfolding spelled
pad_few w v = by (nat_le v w)
  where
    by : (b : Bool) → pieces_cost (if b then combinational.wire else combinational.giving (Joined (literal (v - w) 0) (net (codes "in")))) ≤ 200
    by true = omega arith
    by false = omega arith

multiplier_few : (w : ℕ) → pieces_cost (clocked.multiplier w) ≤ 2000
unfolding spelled clocked.multiplier
multiplier_few w = omega arith

divider_few : (w : ℕ) → pieces_cost (clocked.divider w) ≤ 2290
unfolding spelled clocked.divider
divider_few w = omega arith

timer_few : (n : ℕ) → pieces_cost (clocked.timer n) ≤ 591
unfolding spelled
timer_few n = omega arith

register_few : (w : ℕ) → pieces_cost (clocked.register w) ≤ 600
unfolding spelled
register_few w = omega arith

simple_few : (pieces_cost combinational.wire ≤ 100) × (pieces_cost combinational.complement ≤ 100) × (pieces_cost combinational.mux ≤ 100)
unfolding spelled
simple_few = (omega arith, omega arith, omega arith)

constant_few : (w v : ℕ) → pieces_cost (combinational.constant w v) ≤ 100
unfolding spelled
constant_few w v = omega arith

slice_few : (w : ℕ) → pieces_cost (combinational.slice w) ≤ 100
unfolding spelled
slice_few w = omega arith

most : (n m : ℕ) → n ≤ m → m ≤ 2290 → n ≤ 2290
most n m h k = omega arith

pub pieces_few : (name : PrimitiveName) (numbers : List ℕ) → pieces_cost (pieces_of name numbers) ≤ 2290
pieces_few Const numbers = most _ 100 (constant_few (slice_index numbers 0) (slice_index numbers 1)) (omega arith)
pieces_few Wire numbers = most _ 100 simple_few.0 (omega arith)
pieces_few Not numbers = most _ 100 simple_few.1 (omega arith)
pieces_few Slice numbers = most _ 100 (slice_few (slice_index numbers 1)) (omega arith)
pieces_few Pad numbers = most _ 200 (pad_few (slice_index numbers 0) (slice_index numbers 1)) (omega arith)
pieces_few Add numbers = most _ 200 (operator_few operators.Add) (omega arith)
pieces_few Sub numbers = most _ 200 (operator_few operators.Subtract) (omega arith)
pieces_few And numbers = most _ 200 (operator_few operators.And) (omega arith)
pieces_few Or numbers = most _ 200 (operator_few operators.Or) (omega arith)
pieces_few Xor numbers = most _ 200 (operator_few operators.Xor) (omega arith)
pieces_few Lsh numbers = most _ 400 (shift_few operators.ShiftLeft (slice_index numbers 0)) (omega arith)
pieces_few Rsh numbers = most _ 400 (shift_few operators.ShiftRight (slice_index numbers 0)) (omega arith)
pieces_few Lt numbers = most _ 200 (operator_few operators.Less) (omega arith)
pieces_few Gt numbers = most _ 200 (operator_few operators.Greater) (omega arith)
pieces_few Equal numbers = most _ 200 (operator_few operators.Equal) (omega arith)
pieces_few Neq numbers = most _ 200 (operator_few operators.NotEqual) (omega arith)
pieces_few Le numbers = most _ 200 (operator_few operators.AtMost) (omega arith)
pieces_few Ge numbers = most _ 200 (operator_few operators.AtLeast) (omega arith)
pieces_few Seq numbers = most _ 200 (operator_few operators.Equal) (omega arith)
pieces_few Sneq numbers = most _ 200 (operator_few operators.NotEqual) (omega arith)
pieces_few Slt numbers = most _ 300 (signed_few operators.Less (slice_index numbers 0)) (omega arith)
pieces_few Sgt numbers = most _ 300 (signed_few operators.Greater (slice_index numbers 0)) (omega arith)
pieces_few Sle numbers = most _ 300 (signed_few operators.AtMost (slice_index numbers 0)) (omega arith)
pieces_few Sge numbers = most _ 300 (signed_few operators.AtLeast (slice_index numbers 0)) (omega arith)
pieces_few Mux numbers = most _ 100 simple_few.2 (omega arith)
pieces_few Reg numbers = most _ 600 (register_few (slice_index numbers 0)) (omega arith)
pieces_few StdMemD1 numbers = most _ 2000 (memory_few 1 numbers (omega arith)) (omega arith)
pieces_few StdMemD2 numbers = most _ 2000 (memory_few 2 numbers (omega arith)) (omega arith)
pieces_few StdMemD3 numbers = most _ 2000 (memory_few 3 numbers (omega arith)) (omega arith)
pieces_few StdMemD4 numbers = most _ 2000 (memory_few 4 numbers (omega arith)) (omega arith)
pieces_few CombMemD1 numbers = most _ 2000 (memory_few 1 numbers (omega arith)) (omega arith)
pieces_few CombMemD2 numbers = most _ 2000 (memory_few 2 numbers (omega arith)) (omega arith)
pieces_few CombMemD3 numbers = most _ 2000 (memory_few 3 numbers (omega arith)) (omega arith)
pieces_few CombMemD4 numbers = most _ 2000 (memory_few 4 numbers (omega arith)) (omega arith)
pieces_few SeqMemD1 numbers = most _ 2000 (sequential_few 1 numbers (omega arith)) (omega arith)
pieces_few SeqMemD2 numbers = most _ 2000 (sequential_few 2 numbers (omega arith)) (omega arith)
pieces_few SeqMemD3 numbers = most _ 2000 (sequential_few 3 numbers (omega arith)) (omega arith)
pieces_few SeqMemD4 numbers = most _ 2000 (sequential_few 4 numbers (omega arith)) (omega arith)
pieces_few MultPipe numbers = most _ 2000 (multiplier_few (slice_index numbers 0)) (omega arith)
pieces_few DivPipe numbers = most _ 2290 (divider_few (slice_index numbers 0)) (omega arith)
pieces_few Timer numbers = most _ 591 (timer_few (slice_index numbers 0)) (omega arith)

-- of a timer
pub timer_pieces_few : (numbers : List ℕ) → pieces_cost (pieces_of Timer numbers) ≤ 591
timer_pieces_few numbers = timer_few (slice_index numbers 0)

-- of a memory: of all others but the divider too
not_divider : (numbers : List ℕ) → is_memory (unwrap_or (at_width divider_row numbers) no_row).shape ≡ true → ⊥
not_divider [] e = cc
not_divider (w ∷ []) e = by (is_width w) e
  where
    by : (b : Bool) → is_memory (unwrap_or (if b then Some (divider_row w) else None) no_row).shape ≡ true → ⊥
    by true h = cc
    by false h = cc
not_divider (w ∷ v ∷ rest) e = cc

less_still : (n m : ℕ) → n ≤ m → m ≤ 2000 → n ≤ 2000
less_still n m h k = omega arith

pub others_few : (name : PrimitiveName) (numbers : List ℕ) → (name ≡ DivPipe → ⊥) → pieces_cost (pieces_of name numbers) ≤ 2000
others_few Const numbers other = less_still _ 100 (constant_few (slice_index numbers 0) (slice_index numbers 1)) (omega arith)
others_few Wire numbers other = less_still _ 100 simple_few.0 (omega arith)
others_few Not numbers other = less_still _ 100 simple_few.1 (omega arith)
others_few Slice numbers other = less_still _ 100 (slice_few (slice_index numbers 1)) (omega arith)
others_few Pad numbers other = less_still _ 200 (pad_few (slice_index numbers 0) (slice_index numbers 1)) (omega arith)
others_few Add numbers other = less_still _ 200 (operator_few operators.Add) (omega arith)
others_few Sub numbers other = less_still _ 200 (operator_few operators.Subtract) (omega arith)
others_few And numbers other = less_still _ 200 (operator_few operators.And) (omega arith)
others_few Or numbers other = less_still _ 200 (operator_few operators.Or) (omega arith)
others_few Xor numbers other = less_still _ 200 (operator_few operators.Xor) (omega arith)
others_few Lsh numbers other = less_still _ 400 (shift_few operators.ShiftLeft (slice_index numbers 0)) (omega arith)
others_few Rsh numbers other = less_still _ 400 (shift_few operators.ShiftRight (slice_index numbers 0)) (omega arith)
others_few Lt numbers other = less_still _ 200 (operator_few operators.Less) (omega arith)
others_few Gt numbers other = less_still _ 200 (operator_few operators.Greater) (omega arith)
others_few Equal numbers other = less_still _ 200 (operator_few operators.Equal) (omega arith)
others_few Neq numbers other = less_still _ 200 (operator_few operators.NotEqual) (omega arith)
others_few Le numbers other = less_still _ 200 (operator_few operators.AtMost) (omega arith)
others_few Ge numbers other = less_still _ 200 (operator_few operators.AtLeast) (omega arith)
others_few Seq numbers other = less_still _ 200 (operator_few operators.Equal) (omega arith)
others_few Sneq numbers other = less_still _ 200 (operator_few operators.NotEqual) (omega arith)
others_few Slt numbers other = less_still _ 300 (signed_few operators.Less (slice_index numbers 0)) (omega arith)
others_few Sgt numbers other = less_still _ 300 (signed_few operators.Greater (slice_index numbers 0)) (omega arith)
others_few Sle numbers other = less_still _ 300 (signed_few operators.AtMost (slice_index numbers 0)) (omega arith)
others_few Sge numbers other = less_still _ 300 (signed_few operators.AtLeast (slice_index numbers 0)) (omega arith)
others_few Mux numbers other = less_still _ 100 simple_few.2 (omega arith)
others_few Reg numbers other = less_still _ 600 (register_few (slice_index numbers 0)) (omega arith)
others_few StdMemD1 numbers other = (memory_few 1 numbers (omega arith))
others_few StdMemD2 numbers other = (memory_few 2 numbers (omega arith))
others_few StdMemD3 numbers other = (memory_few 3 numbers (omega arith))
others_few StdMemD4 numbers other = (memory_few 4 numbers (omega arith))
others_few CombMemD1 numbers other = (memory_few 1 numbers (omega arith))
others_few CombMemD2 numbers other = (memory_few 2 numbers (omega arith))
others_few CombMemD3 numbers other = (memory_few 3 numbers (omega arith))
others_few CombMemD4 numbers other = (memory_few 4 numbers (omega arith))
others_few SeqMemD1 numbers other = (sequential_few 1 numbers (omega arith))
others_few SeqMemD2 numbers other = (sequential_few 2 numbers (omega arith))
others_few SeqMemD3 numbers other = (sequential_few 3 numbers (omega arith))
others_few SeqMemD4 numbers other = (sequential_few 4 numbers (omega arith))
others_few MultPipe numbers other = (multiplier_few (slice_index numbers 0))
others_few DivPipe numbers other = absurd (other refl)
others_few Timer numbers other = less_still _ 591 (timer_few (slice_index numbers 0)) (omega arith)

pub memory_pieces_few : (p : PrimitiveRow) → is_memory (row_of p).shape ≡ true → pieces_cost (pieces_of p.name p.numbers) ≤ 2000
memory_pieces_few p memory = others_few p.name p.numbers (λ e. not_divider p.numbers (subst (λ (n : PrimitiveName). is_memory (unwrap_or (row_at n p.numbers) no_row).shape ≡ true) e memory))
