-- What the assigns and the edge of a component's module have of bytes: names, the ends of chains, and the drivers.
use Rattle.std.proofs.Common.{◌≡◌, ℕ, suc, ◌+◌, ◌*◌, ◌^◌, ◌<◌, ◌≤◌, ◌==◌, Bool, true, false, List, [], ◌∷◌, ◌++◌, length, Some, None, refl, arith, if◌then◌else◌}
use Rattle.cx_text.specs.Members.{Each}
use Rattle.cx_meaning.specs.declared.kinds.PortDecl.{PortDecl}
use Rattle.cx_meaning.specs.declared.ports.PortRef.TheVariants as ports
use Rattle.cx_vtree.specs.Plain.{PlainPort, PlainAssign}
use Rattle.cx_net.specs.Nets.{ToPort, PlainNetDriver, PlainNetComponent}
use Rattle.cx_emit.specs.Names.{cell_port_name, wire_name, register_name, output_name}
use Rattle.cx_emit.specs.Numbered.{numbered_from, with_numbers, lists_from}
use Rattle.cx_emit.specs.Exprs.{literal}
use Rattle.cx_emit.specs.Chains.{chain_to}
use Rattle.cx_emit.specs.Signatures.{PlainCellPorts}
use Rattle.cx_emit.specs.Sources.{assign, port_assigns, cell_assigns, wire_assign, output_assign, done_assign, register_reset, register_assign, register_step, edge_of, assigns_with, module_with}
use Rattle.cx_emit.specs.Driven.{port_driven, cell_driven, driven_by}
use Rattle.cx_emitted.proofs.TextBytes.{sum_over}
use Rattle.cx_emitted.proofs.ModuleBytes.{sum_over-append, assigned_bytes, reset_bytes, step_bytes, edge_bytes, module_bytes}
use Rattle.cx_emitted.proofs.DrivenBytes.{value_bytes, option_bytes, cell_bytes, driven_bytes, before_bytes, driven_few}
use Rattle.cx_emitted.proofs.SumBytes.{sum_same, from_zero, numbered_sum, lists_sum}
use Rattle.cx_emitted.proofs.ComponentBytes.{wire_short, register_short, output_short, port_short, PortShort, CellShort, any_one, each_one, kind_bytes, ports_count, ports_sum, decls_sum, instances_sum}

-- of an assign all but its value
abbrev named_bytes : PlainAssign → ℕ
named_bytes a = length a.name + 14

split_sum : (xs : List PlainAssign) → sum_over assigned_bytes xs ≡ sum_over named_bytes xs + sum_over value_bytes xs
split_sum [] = refl
split_sum (a ∷ xs) = let h : sum_over assigned_bytes xs ≡ sum_over named_bytes xs + sum_over value_bytes xs = split_sum xs in omega (arith, h)

-- the inputs of cells, and what stands for them by drivers
module _ (ds : List PlainNetDriver) where
  port_value : (c p : ℕ) (port : PlainPort) → sum_over value_bytes (port_assigns ds c p port) ≡ option_bytes (port_driven ds c p port)
  port_value c p port = by port.output
    where
      by : (b : Bool) → sum_over value_bytes (if b then [] else assign (cell_port_name c p) (chain_to (ToPort (ports.Cell c p)) (literal port.width 0) ds) ∷ [])
          ≡ option_bytes (if b then None else Some (assign (cell_port_name c p) (chain_to (ToPort (ports.Cell c p)) (literal port.width 0) ds)))
      by true = refl
      by false = omega arith

  cell_values : (c n : ℕ) (those : List PlainPort) → sum_over value_bytes (lists_from (port_assigns ds c) n those) ≡ sum_over option_bytes (numbered_from (port_driven ds c) n those)
  cell_values c n [] = refl
  cell_values c n (port ∷ those) =
      let own : sum_over value_bytes (port_assigns ds c n port) ≡ option_bytes (port_driven ds c n port) = port_value c n port in
      let rest : sum_over value_bytes (lists_from (port_assigns ds c) (suc n) those) ≡ sum_over option_bytes (numbered_from (port_driven ds c) (suc n) those) = cell_values c (suc n) those in
      let both : sum_over value_bytes (port_assigns ds c n port ++ lists_from (port_assigns ds c) (suc n) those) ≡ sum_over value_bytes (port_assigns ds c n port) + sum_over value_bytes (lists_from (port_assigns ds c) (suc n) those) =
      sum_over-append value_bytes (port_assigns ds c n port) (lists_from (port_assigns ds c) (suc n) those) in
      omega (arith, own, rest, both)

  cells_values : (n : ℕ) (cells : List PlainCellPorts) → sum_over value_bytes (lists_from (cell_assigns ds) n cells) ≡ sum_over cell_bytes (numbered_from (cell_driven ds) n cells)
  cells_values n [] = refl
  cells_values n (cell ∷ cells) =
      let own : sum_over value_bytes (cell_assigns ds n cell) ≡ cell_bytes (cell_driven ds n cell) = cell_values n 0 cell.ports in
      let rest : sum_over value_bytes (lists_from (cell_assigns ds) (suc n) cells) ≡ sum_over cell_bytes (numbered_from (cell_driven ds) (suc n) cells) = cells_values (suc n) cells in
      let both : sum_over value_bytes (cell_assigns ds n cell ++ lists_from (cell_assigns ds) (suc n) cells) ≡ sum_over value_bytes (cell_assigns ds n cell) + sum_over value_bytes (lists_from (cell_assigns ds) (suc n) cells) =
      sum_over-append value_bytes (cell_assigns ds n cell) (lists_from (cell_assigns ds) (suc n) cells) in
      omega (arith, own, rest, both)

  -- registers: 23 beside their values
  steps_sum : (n : ℕ) (ws : List ℕ) → n + length ws ≤ 10 ^ 7 → sum_over step_bytes (numbered_from (register_step ds) n ws) ≤ 23 * length ws + sum_over value_bytes (numbered_from (register_assign ds) n ws)
  steps_sum n [] few = omega arith
  steps_sum n (w ∷ ws) few =
      let small : n < 10 ^ 7 = omega (arith, few) in
      let own : length (register_name n) ≤ 11 = register_short n small in
      let more : suc n + length ws ≤ 10 ^ 7 = omega (arith, few) in
      let rest : sum_over step_bytes (numbered_from (register_step ds) (suc n) ws) ≤ 23 * length ws + sum_over value_bytes (numbered_from (register_assign ds) (suc n) ws) = steps_sum (suc n) ws more in
      omega (arith, own, rest)

scaled_29 : (xs : List PlainCellPorts) → sum_over (λ (x : PlainCellPorts). length x.ports * 29) xs ≡ 29 * sum_over ports_count xs
scaled_29 [] = refl
scaled_29 (x ∷ xs) = let h : sum_over (λ (y : PlainCellPorts). length y.ports * 29) xs ≡ 29 * sum_over ports_count xs = scaled_29 xs in omega (arith, h)

scaled_37 : (xs : List PlainCellPorts) → sum_over (λ (x : PlainCellPorts). length x.ports * 37) xs ≡ 37 * sum_over ports_count xs
scaled_37 [] = refl
scaled_37 (x ∷ xs) = let h : sum_over (λ (y : PlainCellPorts). length y.ports * 37) xs ≡ 37 * sum_over ports_count xs = scaled_37 xs in omega (arith, h)

module _ (part : PlainNetComponent) (cells : List PlainCellPorts)
    (few_inputs : length part.inputs ≤ 10 ^ 5) (few_outputs : length part.outputs ≤ 10 ^ 5) (few_wires : length part.wires ≤ 10 ^ 7) (few_registers : length part.registers ≤ 10 ^ 7)
    (few_cells : length cells ≤ 10 ^ 5) (short_cells : Each CellShort cells) where
  abbrev total : ℕ
  total = sum_over ports_count cells

  abbrev ds : List PlainNetDriver
  ds = part.drivers

  -- NAMES
  port_named : (c p : ℕ) (x : PlainPort) → c < 10 ^ 5 → p < 10 ^ 5 → sum_over named_bytes (port_assigns ds c p x) ≤ 29
  port_named c p x less below = by x.output
    where
      by : (b : Bool) → sum_over named_bytes (if b then [] else assign (cell_port_name c p) (chain_to (ToPort (ports.Cell c p)) (literal x.width 0) ds) ∷ []) ≤ 29
      by true = omega arith
      by false = let h : length (cell_port_name c p) ≤ 15 = port_short c p less below in omega (arith, h)

  cell_named : (c : ℕ) (cell : PlainCellPorts) → c < 10 ^ 5 → CellShort cell → sum_over named_bytes (cell_assigns ds c cell) ≤ length cell.ports * 29
  cell_named c cell less short_cell =
      let a : sum_over named_bytes (cell_assigns ds c cell) ≤ sum_over (λ (x : PlainPort). 29) cell.ports =
      lists_sum named_bytes (λ (x : PlainPort). 29) PortShort (10 ^ 5) (port_assigns ds c) (λ p x below own. port_named c p x less below) 0 cell.ports (from_zero (length cell.ports) (10 ^ 5) short_cell.few) short_cell.ports in
      let b : sum_over (λ (x : PlainPort). 29) cell.ports ≡ length cell.ports * 29 = sum_same 29 cell.ports in
      omega (arith, a, b)

  names_sum : sum_over named_bytes (assigns_with part cells) ≤ 29 * total + (25 * length part.wires + (25 * length part.outputs + 18))
  names_sum =
      let first : List PlainAssign = lists_from (cell_assigns ds) 0 cells in
      let second : List PlainAssign = with_numbers (wire_assign ds) part.wires in
      let third : List PlainAssign = with_numbers (output_assign ds) part.outputs in
      let last : List PlainAssign = done_assign ds ∷ [] in
      let a : sum_over named_bytes (((first ++ second) ++ third) ++ last) ≡ sum_over named_bytes ((first ++ second) ++ third) + sum_over named_bytes last = sum_over-append named_bytes ((first ++ second) ++ third) last in
      let b : sum_over named_bytes ((first ++ second) ++ third) ≡ sum_over named_bytes (first ++ second) + sum_over named_bytes third = sum_over-append named_bytes (first ++ second) third in
      let c : sum_over named_bytes (first ++ second) ≡ sum_over named_bytes first + sum_over named_bytes second = sum_over-append named_bytes first second in
      let d : sum_over named_bytes first ≤ sum_over (λ (x : PlainCellPorts). length x.ports * 29) cells =
      lists_sum named_bytes (λ (x : PlainCellPorts). length x.ports * 29) CellShort (10 ^ 5) (cell_assigns ds) cell_named 0 cells (from_zero (length cells) (10 ^ 5) few_cells) short_cells in
      let e : sum_over named_bytes second ≤ sum_over (λ (x : ℕ). 25) part.wires =
      numbered_sum named_bytes (λ (x : ℕ). 25) any_one (10 ^ 7) (wire_assign ds) (λ m x less one. let h : length (wire_name m) ≤ 11 = wire_short m less in omega (arith, h)) 0 part.wires (from_zero (length part.wires) (10 ^ 7) few_wires) (each_one part.wires) in
      let f : sum_over named_bytes third ≤ sum_over (λ (x : PortDecl). 25) part.outputs =
      numbered_sum named_bytes (λ (x : PortDecl). 25) any_one (10 ^ 5) (output_assign ds) (λ m x less one. let h : length (output_name m) ≤ 11 = output_short m less in omega (arith, h)) 0 part.outputs (from_zero (length part.outputs) (10 ^ 5) few_outputs) (each_one part.outputs) in
      let g : sum_over (λ (x : ℕ). 25) part.wires ≡ length part.wires * 25 = sum_same 25 part.wires in
      let h : sum_over (λ (x : PortDecl). 25) part.outputs ≡ length part.outputs * 25 = sum_same 25 part.outputs in
      let i : sum_over (λ (x : PlainCellPorts). length x.ports * 29) cells ≡ 29 * total = scaled_29 cells in
      omega (arith, a, b, c, d, e, f, g, h, i)

  -- VALUES
  values_sum : sum_over value_bytes (assigns_with part cells) + sum_over value_bytes (with_numbers (register_assign ds) part.registers) ≡ driven_bytes (driven_by part cells ds)
  values_sum =
      let first : List PlainAssign = lists_from (cell_assigns ds) 0 cells in
      let second : List PlainAssign = with_numbers (wire_assign ds) part.wires in
      let third : List PlainAssign = with_numbers (output_assign ds) part.outputs in
      let last : List PlainAssign = done_assign ds ∷ [] in
      let a : sum_over value_bytes (((first ++ second) ++ third) ++ last) ≡ sum_over value_bytes ((first ++ second) ++ third) + sum_over value_bytes last = sum_over-append value_bytes ((first ++ second) ++ third) last in
      let b : sum_over value_bytes ((first ++ second) ++ third) ≡ sum_over value_bytes (first ++ second) + sum_over value_bytes third = sum_over-append value_bytes (first ++ second) third in
      let c : sum_over value_bytes (first ++ second) ≡ sum_over value_bytes first + sum_over value_bytes second = sum_over-append value_bytes first second in
      let d : sum_over value_bytes first ≡ sum_over cell_bytes (with_numbers (cell_driven ds) cells) = cells_values ds 0 cells in
      omega (arith, a, b, c, d)

  -- where nothing drives
  port_ends : (c p : ℕ) (x : PlainPort) → option_bytes (port_driven [] c p x) ≤ 37
  port_ends c p x = by x.output
    where
      by : (b : Bool) → option_bytes (if b then None else Some (assign (cell_port_name c p) (chain_to (ToPort (ports.Cell c p)) (literal x.width 0) []))) ≤ 37
      by true = omega arith
      by false = omega arith

  cell_ends : (c : ℕ) (cell : PlainCellPorts) → c < 10 ^ 5 → CellShort cell → cell_bytes (cell_driven [] c cell) ≤ length cell.ports * 37
  cell_ends c cell less short_cell =
      let a : cell_bytes (cell_driven [] c cell) ≤ sum_over (λ (x : PlainPort). 37) cell.ports =
      numbered_sum option_bytes (λ (x : PlainPort). 37) PortShort (10 ^ 5) (port_driven [] c) (λ p x below own. port_ends c p x) 0 cell.ports (from_zero (length cell.ports) (10 ^ 5) short_cell.few) short_cell.ports in
      let b : sum_over (λ (x : PlainPort). 37) cell.ports ≡ length cell.ports * 37 = sum_same 37 cell.ports in
      omega (arith, a, b)

  ends_sum : driven_bytes (driven_by part cells []) ≤ 37 * total + (37 * length part.outputs + (37 * length part.wires + (11 * length part.registers + 37)))
  ends_sum =
      let a : sum_over cell_bytes (with_numbers (cell_driven []) cells) ≤ sum_over (λ (x : PlainCellPorts). length x.ports * 37) cells =
      numbered_sum cell_bytes (λ (x : PlainCellPorts). length x.ports * 37) CellShort (10 ^ 5) (cell_driven []) cell_ends 0 cells (from_zero (length cells) (10 ^ 5) few_cells) short_cells in
      let b : sum_over (λ (x : PlainCellPorts). length x.ports * 37) cells ≡ 37 * total = scaled_37 cells in
      let c : sum_over value_bytes (with_numbers (output_assign []) part.outputs) ≤ sum_over (λ (x : PortDecl). 37) part.outputs =
      numbered_sum value_bytes (λ (x : PortDecl). 37) any_one (10 ^ 5) (output_assign []) (λ m x less one. (omega arith)) 0 part.outputs (from_zero (length part.outputs) (10 ^ 5) few_outputs) (each_one part.outputs) in
      let d : sum_over value_bytes (with_numbers (wire_assign []) part.wires) ≤ sum_over (λ (x : ℕ). 37) part.wires =
      numbered_sum value_bytes (λ (x : ℕ). 37) any_one (10 ^ 7) (wire_assign []) (λ m x less one. (omega arith)) 0 part.wires (from_zero (length part.wires) (10 ^ 7) few_wires) (each_one part.wires) in
      let e : sum_over value_bytes (with_numbers (register_assign []) part.registers) ≤ sum_over (λ (x : ℕ). 11) part.registers =
      numbered_sum value_bytes (λ (x : ℕ). 11) any_one (10 ^ 7) (register_assign []) (λ m x less one. let h : length (register_name m) ≤ 11 = register_short m less in omega (arith, h)) 0 part.registers (from_zero (length part.registers) (10 ^ 7) few_registers) (each_one part.registers) in
      let f : sum_over (λ (x : PortDecl). 37) part.outputs ≡ length part.outputs * 37 = sum_same 37 part.outputs in
      let g : sum_over (λ (x : ℕ). 37) part.wires ≡ length part.wires * 37 = sum_same 37 part.wires in
      let h : sum_over (λ (x : ℕ). 11) part.registers ≡ length part.registers * 11 = sum_same 11 part.registers in
      omega (arith, a, b, c, d, e, f, g, h)

  -- THE EDGE
  edge_sum : edge_bytes (edge_of part) ≤ 85 + (60 * length part.registers + (23 * length part.registers + sum_over value_bytes (with_numbers (register_assign ds) part.registers)))
  edge_sum =
      let a : sum_over reset_bytes (with_numbers register_reset part.registers) ≤ sum_over (λ (x : ℕ). 60) part.registers =
      numbered_sum reset_bytes (λ (x : ℕ). 60) any_one (10 ^ 7) register_reset (λ m x less one. let h : length (register_name m) ≤ 11 = register_short m less in omega (arith, h)) 0 part.registers (from_zero (length part.registers) (10 ^ 7) few_registers) (each_one part.registers) in
      let b : sum_over (λ (x : ℕ). 60) part.registers ≡ length part.registers * 60 = sum_same 60 part.registers in
      let c : sum_over step_bytes (with_numbers (register_step ds) part.registers) ≤ 23 * length part.registers + sum_over value_bytes (with_numbers (register_assign ds) part.registers) = steps_sum ds 0 part.registers (from_zero (length part.registers) (10 ^ 7) few_registers) in
      by (length part.registers == 0) a b c
    where
      by : (t : Bool) → sum_over reset_bytes (with_numbers register_reset part.registers) ≤ sum_over (λ (x : ℕ). 60) part.registers → sum_over (λ (x : ℕ). 60) part.registers ≡ length part.registers * 60
          → sum_over step_bytes (with_numbers (register_step ds) part.registers) ≤ 23 * length part.registers + sum_over value_bytes (with_numbers (register_assign ds) part.registers)
          → edge_bytes (if t then None else Some (record { reset = with_numbers register_reset part.registers; step = with_numbers (register_step ds) part.registers }))
          ≤ 85 + (60 * length part.registers + (23 * length part.registers + sum_over value_bytes (with_numbers (register_assign ds) part.registers)))
      by true a b c = omega arith
      by false a b c = omega (arith, a, b, c)

  -- THE MODULE of a component
  pub component_bytes : (name : List ℕ) → module_bytes (module_with name part cells)
      ≤ length name + (272 + (35 * length part.inputs + (97 * length part.outputs + (134 * total + (42 * length cells + (sum_over kind_bytes cells + (90 * length part.wires + (122 * length part.registers + sum_over before_bytes ds))))))))
  component_bytes name =
      let a = ports_sum part cells few_inputs few_outputs few_wires few_registers few_cells short_cells in
      let b = decls_sum part cells few_inputs few_outputs few_wires few_registers few_cells short_cells in
      let c = instances_sum part cells few_inputs few_outputs few_wires few_registers few_cells short_cells in
      let d : sum_over assigned_bytes (assigns_with part cells) ≡ sum_over named_bytes (assigns_with part cells) + sum_over value_bytes (assigns_with part cells) = split_sum (assigns_with part cells) in
      let e = names_sum in
      let f = values_sum in
      let g : driven_bytes (driven_by part cells ds) ≤ driven_bytes (driven_by part cells []) + sum_over before_bytes ds = driven_few part cells ds in
      let h = ends_sum in
      let i = edge_sum in
      omega (arith, a, b, c, d, e, f, g, h, i)
