-- How long the module of a component is at most, by what its net has: its names are short where its parts are few.
use Rattle.std.proofs.Common.{◌≡◌, ℕ, ◌+◌, ◌*◌, ◌^◌, ◌<◌, ◌≤◌, true, List, [], ◌∷◌, ◌++◌, length, refl, arith, length-append}
use Rattle.std.specs.Prelude.{codes, decimal}
use Rattle.std.proofs.lemmas.Fmt.{length-decimal-le}
use Rattle.cx_text.specs.Members.{Each}
use Rattle.cx_meaning.specs.declared.kinds.PortDecl.{PortDecl}
use Rattle.cx_vtree.specs.Plain.{PlainPort, PlainDecl, PlainConn}
use Rattle.cx_net.specs.Nets.{PlainNetComponent}
use Rattle.cx_emit.specs.Names.{numbered, twice_numbered, input_name, output_name, cell_port_name, wire_name, register_name, instance_name}
use Rattle.cx_emit.specs.Numbered.{with_numbers, lists_from}
use Rattle.cx_emit.specs.Signatures.{one_bit, input_port, output_port, module_ports, PlainCellPorts}
use Rattle.cx_emit.specs.Sources.{port_decl, cell_decls, port_conn, cell_instance, wire_decl, register_decl, decls_with}
use Rattle.cx_emitted.proofs.TextBytes.{conns_bytes, sum_over}
use Rattle.cx_emitted.proofs.ModuleBytes.{sum_over-append, port_bytes, declared_bytes, instance_bytes}
use Rattle.cx_emitted.proofs.SumBytes.{sum_same, from_zero, numbered_sum, lists_sum}

-- NAMES
short : (k n : ℕ) → 1 ≤ k → k ≤ 7 → n < 10 ^ k → n < 10 ^ 7 → length (decimal n) ≤ k
short k n some few small wide = let h : n < 2 ^ 64 = omega (arith, wide) in let positive : 0 < k = omega (arith, some) in length-decimal-le k n positive small h

numbered_few : (letters : List ℕ) (n : ℕ) → n < 10 ^ 7 → length (numbered letters n) ≤ length letters + 10
numbered_few letters n small =
    let seven : length (decimal n) ≤ 7 = short 7 n (omega arith) (omega arith) small small in
    let all : length ((codes "cx_" ++ letters) ++ decimal n) ≡ length (codes "cx_" ++ letters) + length (decimal n) = length-append (codes "cx_" ++ letters) (decimal n) in
    let front : length (codes "cx_" ++ letters) ≡ 3 + length letters = length-append (codes "cx_") letters in
    omega (arith, seven, all, front)

pub five : (letters : List ℕ) (n : ℕ) → n < 10 ^ 5 → length (numbered letters n) ≤ length letters + 8
five letters n small =
    let wide : n < 10 ^ 7 = omega (arith, small) in
    let few : length (decimal n) ≤ 5 = short 5 n (omega arith) (omega arith) small wide in
    let all : length ((codes "cx_" ++ letters) ++ decimal n) ≡ length (codes "cx_" ++ letters) + length (decimal n) = length-append (codes "cx_" ++ letters) (decimal n) in
    let front : length (codes "cx_" ++ letters) ≡ 3 + length letters = length-append (codes "cx_") letters in
    omega (arith, few, all, front)

twice_few : (letters : List ℕ) (n m : ℕ) → n < 10 ^ 5 → m < 10 ^ 5 → length (twice_numbered letters n m) ≤ length letters + 14
twice_few letters n m first second =
    let wide : n < 10 ^ 7 = omega (arith, first) in
    let far : m < 10 ^ 7 = omega (arith, second) in
    let one : length (decimal n) ≤ 5 = short 5 n (omega arith) (omega arith) first wide in
    let two : length (decimal m) ≤ 5 = short 5 m (omega arith) (omega arith) second far in
    let a : length ((((codes "cx_" ++ letters) ++ decimal n) ++ codes "_") ++ decimal m) ≡ length (((codes "cx_" ++ letters) ++ decimal n) ++ codes "_") + length (decimal m) = length-append (((codes "cx_" ++ letters) ++ decimal n) ++ codes "_") (decimal m) in
    let b : length (((codes "cx_" ++ letters) ++ decimal n) ++ codes "_") ≡ length ((codes "cx_" ++ letters) ++ decimal n) + 1 = length-append ((codes "cx_" ++ letters) ++ decimal n) (codes "_") in
    let c : length ((codes "cx_" ++ letters) ++ decimal n) ≡ length (codes "cx_" ++ letters) + length (decimal n) = length-append (codes "cx_" ++ letters) (decimal n) in
    let d : length (codes "cx_" ++ letters) ≡ 3 + length letters = length-append (codes "cx_") letters in
    omega (arith, one, two, a, b, c, d)

pub wire_short : (n : ℕ) → n < 10 ^ 7 → length (wire_name n) ≤ 11
wire_short n small = numbered_few (codes "w") n small

pub register_short : (n : ℕ) → n < 10 ^ 7 → length (register_name n) ≤ 11
register_short n small = numbered_few (codes "r") n small

pub port_short : (c p : ℕ) → c < 10 ^ 5 → p < 10 ^ 5 → length (cell_port_name c p) ≤ 15
port_short c p first second = twice_few (codes "c") c p first second

pub instance_short : (c : ℕ) → c < 10 ^ 5 → length (instance_name c) ≤ 9
instance_short c small = five (codes "i") c small

pub input_short : (n : ℕ) → n < 10 ^ 5 → length (input_name n) ≤ 10
input_short n small = five (codes "in") n small

pub output_short : (n : ℕ) → n < 10 ^ 5 → length (output_name n) ≤ 11
output_short n small = five (codes "out") n small

-- PARTS of a component that has few, whose cells have few ports with short names
abbrev pub PortShort : PlainPort → Type 0
PortShort p = length p.name ≤ 16

pub record CellShort (cell : PlainCellPorts) : Type 0 where
  pub few : length cell.ports ≤ 10 ^ 5
  pub ports : Each PortShort cell.ports

abbrev pub any_one : {A : Type 0} → A → Type 0
any_one x = Unit {0}

pub each_one : {A : Type 0} (xs : List A) → Each any_one xs
each_one [] = tt
each_one (x ∷ xs) = (tt, each_one xs)

abbrev pub kind_bytes : PlainCellPorts → ℕ
kind_bytes cell = length cell.kind

abbrev pub ports_count : PlainCellPorts → ℕ
ports_count cell = length cell.ports

conns_sum : (cs : List PlainConn) → conns_bytes cs ≡ sum_over (λ (c : PlainConn). length c.port + (length c.net + 3) + 2) cs
conns_sum [] = refl
conns_sum (c ∷ cs) = let h : conns_bytes cs ≡ sum_over (λ (x : PlainConn). length x.port + (length x.net + 3) + 2) cs = conns_sum cs in omega (arith, h)

-- THE MODULE, part by part
module _ (part : PlainNetComponent) (cells : List PlainCellPorts)
    (few_inputs : length part.inputs ≤ 10 ^ 5) (few_outputs : length part.outputs ≤ 10 ^ 5) (few_wires : length part.wires ≤ 10 ^ 7) (few_registers : length part.registers ≤ 10 ^ 7)
    (few_cells : length cells ≤ 10 ^ 5) (short_cells : Each CellShort cells) where
  abbrev ports_total : ℕ
  ports_total = sum_over ports_count cells

  -- a sum of the cells is one of their ports
  thirty_two : (xs : List PlainCellPorts) → sum_over (λ (x : PlainCellPorts). length x.ports * 32) xs ≡ 32 * sum_over ports_count xs
  thirty_two [] = refl
  thirty_two (x ∷ xs) = let h : sum_over (λ (y : PlainCellPorts). length y.ports * 32) xs ≡ 32 * sum_over ports_count xs = thirty_two xs in omega (arith, h)

  instances_total : (xs : List PlainCellPorts) → sum_over (λ (x : PlainCellPorts). 42 + length x.kind + length x.ports * 36) xs ≡ 42 * length xs + sum_over kind_bytes xs + 36 * sum_over ports_count xs
  instances_total [] = refl
  instances_total (x ∷ xs) = let h : sum_over (λ (y : PlainCellPorts). 42 + length y.kind + length y.ports * 36) xs ≡ 42 * length xs + sum_over kind_bytes xs + 36 * sum_over ports_count xs = instances_total xs in omega (arith, h)

  -- PORTS
  pub ports_sum : sum_over port_bytes (module_ports part) ≤ 110 + (35 * length part.inputs + 35 * length part.outputs)
  ports_sum =
      let ins : List PlainPort = with_numbers input_port part.inputs in
      let outs : List PlainPort = with_numbers output_port part.outputs in
      let last : List PlainPort = record { output = true; name = codes "done"; width = 1 } ∷ [] in
      let a : sum_over port_bytes (((one_bit (codes "go") ∷ ins) ++ outs) ++ last) ≡ sum_over port_bytes ((one_bit (codes "go") ∷ ins) ++ outs) + sum_over port_bytes last = sum_over-append port_bytes ((one_bit (codes "go") ∷ ins) ++ outs) last in
      let b : sum_over port_bytes ((one_bit (codes "go") ∷ ins) ++ outs) ≡ sum_over port_bytes (one_bit (codes "go") ∷ ins) + sum_over port_bytes outs = sum_over-append port_bytes (one_bit (codes "go") ∷ ins) outs in
      let c : sum_over port_bytes ins ≤ sum_over (λ (x : PortDecl). 35) part.inputs =
      numbered_sum port_bytes (λ (x : PortDecl). 35) any_one (10 ^ 5) input_port (λ m x less one. let h : length (input_name m) ≤ 10 = input_short m less in omega (arith, h)) 0 part.inputs (from_zero (length part.inputs) (10 ^ 5) few_inputs) (each_one part.inputs) in
      let d : sum_over port_bytes outs ≤ sum_over (λ (x : PortDecl). 35) part.outputs =
      numbered_sum port_bytes (λ (x : PortDecl). 35) any_one (10 ^ 5) output_port (λ m x less one. let h : length (output_name m) ≤ 11 = output_short m less in omega (arith, h)) 0 part.outputs (from_zero (length part.outputs) (10 ^ 5) few_outputs) (each_one part.outputs) in
      let e : sum_over (λ (x : PortDecl). 35) part.inputs ≡ length part.inputs * 35 = sum_same 35 part.inputs in
      let f : sum_over (λ (x : PortDecl). 35) part.outputs ≡ length part.outputs * 35 = sum_same 35 part.outputs in
      omega (arith, a, b, c, d, e, f)

  -- DECLARATIONS
  cell_declared : (c : ℕ) (cell : PlainCellPorts) → c < 10 ^ 5 → CellShort cell → sum_over declared_bytes (cell_decls c cell) ≤ length cell.ports * 32
  cell_declared c cell less short_cell =
      let a : sum_over declared_bytes (cell_decls c cell) ≤ sum_over (λ (x : PlainPort). 32) cell.ports =
      numbered_sum declared_bytes (λ (x : PlainPort). 32) PortShort (10 ^ 5) (port_decl c) (λ p x below own. let h : length (cell_port_name c p) ≤ 15 = port_short c p less below in omega (arith, h)) 0 cell.ports (from_zero (length cell.ports) (10 ^ 5) short_cell.few) short_cell.ports in
      let b : sum_over (λ (x : PlainPort). 32) cell.ports ≡ length cell.ports * 32 = sum_same 32 cell.ports in
      omega (arith, a, b)

  pub decls_sum : sum_over declared_bytes (decls_with part cells) ≤ 32 * ports_total + (28 * length part.wires + 28 * length part.registers)
  decls_sum =
      let first : List PlainDecl = lists_from cell_decls 0 cells in
      let second : List PlainDecl = with_numbers wire_decl part.wires in
      let third : List PlainDecl = with_numbers register_decl part.registers in
      let a : sum_over declared_bytes ((first ++ second) ++ third) ≡ sum_over declared_bytes (first ++ second) + sum_over declared_bytes third = sum_over-append declared_bytes (first ++ second) third in
      let b : sum_over declared_bytes (first ++ second) ≡ sum_over declared_bytes first + sum_over declared_bytes second = sum_over-append declared_bytes first second in
      let c : sum_over declared_bytes first ≤ sum_over (λ (x : PlainCellPorts). length x.ports * 32) cells =
      lists_sum declared_bytes (λ (x : PlainCellPorts). length x.ports * 32) CellShort (10 ^ 5) cell_decls cell_declared 0 cells (from_zero (length cells) (10 ^ 5) few_cells) short_cells in
      let d : sum_over declared_bytes second ≤ sum_over (λ (x : ℕ). 28) part.wires =
      numbered_sum declared_bytes (λ (x : ℕ). 28) any_one (10 ^ 7) wire_decl (λ m x less one. let h : length (wire_name m) ≤ 11 = wire_short m less in omega (arith, h)) 0 part.wires (from_zero (length part.wires) (10 ^ 7) few_wires) (each_one part.wires) in
      let e : sum_over declared_bytes third ≤ sum_over (λ (x : ℕ). 28) part.registers =
      numbered_sum declared_bytes (λ (x : ℕ). 28) any_one (10 ^ 7) register_decl (λ m x less one. let h : length (register_name m) ≤ 11 = register_short m less in omega (arith, h)) 0 part.registers (from_zero (length part.registers) (10 ^ 7) few_registers) (each_one part.registers) in
      let f : sum_over (λ (x : ℕ). 28) part.wires ≡ length part.wires * 28 = sum_same 28 part.wires in
      let g : sum_over (λ (x : ℕ). 28) part.registers ≡ length part.registers * 28 = sum_same 28 part.registers in
      let h : sum_over (λ (x : PlainCellPorts). length x.ports * 32) cells ≡ 32 * ports_total = thirty_two cells in
      omega (arith, a, b, c, d, e, f, g, h)

  -- INSTANCES
  port_connected : (c p : ℕ) (x : PlainPort) → c < 10 ^ 5 → p < 10 ^ 5 → PortShort x → length (port_conn c p x).port + (length (port_conn c p x).net + 3) + 2 ≤ 36
  port_connected c p x less below own = let h : length (cell_port_name c p) ≤ 15 = port_short c p less below in omega (arith, h, own)

  cell_connected : (c : ℕ) (cell : PlainCellPorts) → c < 10 ^ 5 → CellShort cell → instance_bytes (cell_instance c cell) ≤ 42 + length cell.kind + length cell.ports * 36
  cell_connected c cell less short_cell =
      let a : sum_over (λ (x : PlainConn). length x.port + (length x.net + 3) + 2) (with_numbers (port_conn c) cell.ports) ≤ sum_over (λ (x : PlainPort). 36) cell.ports =
      numbered_sum (λ (x : PlainConn). length x.port + (length x.net + 3) + 2) (λ (x : PlainPort). 36) PortShort (10 ^ 5) (port_conn c) (λ p x below own. port_connected c p x less below own) 0 cell.ports (from_zero (length cell.ports) (10 ^ 5) short_cell.few) short_cell.ports in
      let b : sum_over (λ (x : PlainPort). 36) cell.ports ≡ length cell.ports * 36 = sum_same 36 cell.ports in
      let d : conns_bytes (with_numbers (port_conn c) cell.ports) ≡ sum_over (λ (x : PlainConn). length x.port + (length x.net + 3) + 2) (with_numbers (port_conn c) cell.ports) = conns_sum (with_numbers (port_conn c) cell.ports) in
      let e : length (instance_name c) ≤ 9 = instance_short c less in
      omega (arith, a, b, d, e)

  pub instances_sum : sum_over instance_bytes (with_numbers cell_instance cells) ≤ 42 * length cells + sum_over kind_bytes cells + 36 * ports_total
  instances_sum =
      let a : sum_over instance_bytes (with_numbers cell_instance cells) ≤ sum_over (λ (x : PlainCellPorts). 42 + length x.kind + length x.ports * 36) cells =
      numbered_sum instance_bytes (λ (x : PlainCellPorts). 42 + length x.kind + length x.ports * 36) CellShort (10 ^ 5) cell_instance cell_connected 0 cells (from_zero (length cells) (10 ^ 5) few_cells) short_cells in
      let b : sum_over (λ (x : PlainCellPorts). 42 + length x.kind + length x.ports * 36) cells ≡ 42 * length cells + sum_over kind_bytes cells + 36 * ports_total = instances_total cells in
      omega (arith, a, b)
