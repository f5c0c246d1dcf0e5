-- THE DESIGN OF A TREE: its parts by number, and a group for each invoke that calls or captures. Where a name names
-- nothing, its number is 0; a tree that keeps the rules on names has none such.
use Rattle.std.specs.Prelude.{ℕ, suc, ◌+◌, ◌^◌, ◌-◌, Bool, true, false, ◌||◌, is_some, nat_lt, List, [], ◌∷◌, ◌++◌, Option, Some, None, codes, map, flat_map, length, unwrap_or, if◌then◌else◌}
use Rattle.cx_text.specs.declared.places.Place.{Place}
use Rattle.cx_ast.specs.declared.operands.OperandItem.{OperandItem}
use Rattle.cx_ast.specs.declared.operands.OperandForm.{OperandForm}
use Rattle.cx_ast.specs.declared.operands.OperandForm.TheVariants as operands
use Rattle.cx_ast.specs.declared.wiring.GroupWord.{GroupWord}
use Rattle.cx_ast.specs.declared.wiring.GroupWord.TheVariants as words
use Rattle.cx_ast.specs.declared.guards.Comparison.{Comparison}
use Rattle.cx_ast.specs.declared.guards.Comparison.TheVariants as written
use Rattle.cx_ast.specs.declared.statements.BindItem.{BindItem}
use Rattle.cx_ast.specs.PlainTree as ast
use Rattle.cx_ast.specs.PlainGuards as guards
use Rattle.cx_ast.specs.PlainStatements as statements
use Rattle.cx_meaning.specs.declared.ports.PortRef.{PortRef}
use Rattle.cx_meaning.specs.declared.ports.PortRef.TheVariants as ports
use Rattle.cx_meaning.specs.declared.ports.PlacedPort.{PlacedPort}
use Rattle.cx_meaning.specs.declared.ports.Comparison as comparisons
use Rattle.cx_meaning.specs.declared.ports.Comparison.TheVariants as comparing
use Rattle.cx_meaning.specs.declared.kinds.GroupKind.{GroupKind}
use Rattle.cx_meaning.specs.declared.kinds.GroupKind.TheVariants as kinds
use Rattle.cx_meaning.specs.declared.kinds.PortDecl.{PortDecl}
use Rattle.cx_meaning.specs.Designs.{PlainGuard, Always, Atom, Negation, All, Any, Compared, Within, PlainGuards, no_guards, a_guard, guards_of, PlainAssign, PlainInvoke, PlainGroup, PlainKind, OfPrimitive, OfComponent, PlainCell, PlainForm, PlainStatement, Placed, PlainStatements, no_statements, a_statement, PlainComponent, PlainDesign}
use Rattle.cx_meaning.specs.Designs as plain
use Rattle.cx_numbering.specs.Names.{number_of, signature_ports, port_names, component_names, cell_names, groups_in, always_in, group_names, cell_among, CellOf, Neither, APrimitive, AComponent, cell_of, found_cell_ports, found_latency, cell_go, is_external}

abbrev pub number_or_0 : List ℕ → List (List ℕ) → ℕ
number_or_0 name names = unwrap_or (number_of name names) 0

-- an invoke: the cell, whether the word static stands there and with what length, the binds, and the statement's place
pub record Invoke : Type 0 where
  pub cell : List ℕ
  pub written : Bool
  pub length : Option ℕ
  pub inputs : List BindItem
  pub outputs : List BindItem
  pub place : Place

-- the numbers of the group and of the static invoke that come next
pub record Next : Type 0 where
  pub group : ℕ
  pub invoke : ℕ

-- PORTS. A bare name is an input of the signature, or an output; a hole is a done
abbrev pub own_port : Option ℕ → ℕ → PortRef
own_port (Some input) output = ports.Input input
own_port None output = ports.Output output

module _ (tree : ast.PlainTree) (part : ast.PlainComponent) where
  abbrev pub cell_port : List ℕ → List ℕ → PortRef
  cell_port cell port =
      ports.Cell (number_or_0 cell (cell_names part))
      (number_or_0 port (found_cell_ports tree (cell_among cell part.cells)))

  abbrev pub port_of : OperandForm → PortRef
  port_of (operands.Own name) =
      own_port (number_of name (port_names part.inputs)) (number_or_0 name (port_names part.outputs))
  port_of (operands.Port cell port) = cell_port cell port
  port_of (operands.Hole group hole) = ports.Done (number_or_0 group (group_names part))
  port_of (operands.Literal width value) = ports.Literal width value

  abbrev pub placed_of : OperandItem → PlacedPort
  placed_of o = record { port = port_of o.form; place = o.place }

  -- GUARDS. %a is the offset a alone, and for the greatest number the empty range
  abbrev pub comparison_of : Comparison → comparisons.Comparison
  comparison_of written.Equal = comparing.Equal
  comparison_of written.NotEqual = comparing.NotEqual
  comparison_of written.Less = comparing.Less
  comparison_of written.Greater = comparing.Greater
  comparison_of written.LessEqual = comparing.AtMost
  comparison_of written.GreaterEqual = comparing.AtLeast

  abbrev mutual
    pub guard_of : guards.PlainGuard → PlainGuard
    guard_of (guards.Or gs) = Any (guards_in gs)
    guard_of (guards.And gs) = All (guards_in gs)
    guard_of (guards.Compare c left right) = Compared (comparison_of c) (placed_of left) (placed_of right)
    guard_of (guards.Not g) = Negation (guard_of g)
    guard_of (guards.Operand o) = Atom (placed_of o)
    guard_of (guards.At n) = Within n (if nat_lt n (2 ^ 64 - 1) then n + 1 else n)
    guard_of (guards.During from to) = Within from to

    pub guards_in : guards.PlainGuards → PlainGuards
    guards_in guards.NoGuards = no_guards
    guards_in (guards.GuardThen g gs) = a_guard (guard_of g) (guards_in gs)

  abbrev pub guard_or_always : Option guards.PlainGuard → PlainGuard
  guard_or_always None = Always
  guard_or_always (Some g) = guard_of g

  abbrev pub assign_of : ast.PlainAssign → PlainAssign
  assign_of a =
      record {
        target = port_of a.target.form;
        guard = guard_or_always a.guard;
        source = placed_of a.source;
        place = a.place;
      }

  abbrev pub kind_of : GroupWord → GroupKind
  kind_of words.Plain = kinds.Plain
  kind_of words.Comb = kinds.Comb
  kind_of (words.Timed n) = kinds.Timed n

  abbrev pub group_of : ast.PlainGroup → PlainGroup
  group_of g = record { name = g.name; kind = kind_of g.kind; assigns = map assign_of g.assigns; place = g.place }

  -- INVOKES
  abbrev pub go_port : Option (List ℕ) → List ℕ → PortRef
  go_port None cell = cell_port cell []
  go_port (Some name) cell = cell_port cell name

  abbrev pub found_go : Option ast.PlainCell → Option (List ℕ)
  found_go None = None
  found_go (Some cell) = cell_go (cell_of tree cell)

  abbrev pub at : Place → PortRef → PlacedPort
  at place port = record { port = port; place = place }

  abbrev pub one : PortRef
  one = ports.Literal 1 1

  -- each named input is driven by its source
  abbrev pub input_assign : Invoke → BindItem → PlainAssign
  input_assign k bind =
      record {
        target = cell_port k.cell bind.name;
        guard = Always;
        source = placed_of bind.value;
        place = k.place;
      }

  -- with outputs the go is cut by the done
  abbrev pub go_guard : Invoke → List BindItem → PlainGuard
  go_guard k [] = Always
  go_guard k (bind ∷ binds) = Negation (Atom (at k.place (cell_port k.cell (codes "done"))))

  abbrev pub go_assign : Invoke → PlainAssign
  go_assign k =
      record {
        target = go_port (found_go (cell_among k.cell part.cells)) k.cell;
        guard = go_guard k k.outputs;
        source = at k.place one;
        place = k.place;
      }

  -- the cell of an output's register
  abbrev pub register_of : BindItem → List ℕ
  register_of bind = name_in bind.value.form
    where
      name_in : OperandForm → List ℕ
      name_in (operands.Own name) = []
      name_in (operands.Port cell port) = cell
      name_in (operands.Hole group hole) = []
      name_in (operands.Literal width value) = []

  -- r.in = c.q; r.write_en = c.done
  abbrev pub capture_assigns : Invoke → BindItem → List PlainAssign
  capture_assigns k bind =
      record {
        target = port_of bind.value.form;
        guard = Always;
        source = at bind.place (cell_port k.cell bind.name);
        place = k.place;
      }
      ∷ record {
        target = cell_port (register_of bind) (codes "write_en");
        guard = Always;
        source = at k.place (cell_port k.cell (codes "done"));
        place = k.place;
      } ∷ []

  abbrev pub register_done : Invoke → BindItem → PlacedPort
  register_done k bind = at k.place (cell_port (register_of bind) (codes "done"))

  -- the done of group g: c.done, or r.done of one register, or 1'd1 under the conjunction of several
  abbrev pub done_assign : Invoke → ℕ → List BindItem → PlainAssign
  done_assign k g [] =
      record {
        target = ports.Done g;
        guard = Always;
        source = at k.place (cell_port k.cell (codes "done"));
        place = k.place;
      }
  done_assign k g (bind ∷ []) =
      record { target = ports.Done g; guard = Always; source = register_done k bind; place = k.place }
  done_assign k g (bind ∷ other ∷ binds) =
      record {
        target = ports.Done g;
        guard = All (guards_of (map (λ b. Atom (register_done k b)) (bind ∷ other ∷ binds)));
        source = at k.place one;
        place = k.place;
      }

  -- the group of an invoke, of number g: the inputs in the order of the binds, the go, the captures, the done
  abbrev pub invoke_group : ℕ → Invoke → PlainGroup
  invoke_group g k = record {
    name = [];
    kind = kinds.Plain;
    assigns =
        map (input_assign k) k.inputs
        ++ (go_assign k ∷ (flat_map (capture_assigns k) k.outputs ++ (done_assign k g k.outputs ∷ [])));
    place = k.place;
  }

  -- an invoke is static where the word static stands there, or where the cell's component is static
  abbrev pub invoke_latency : Invoke → Option ℕ
  invoke_latency k = found_latency tree (cell_among k.cell part.cells)

  abbrev pub is_static_invoke : Invoke → Bool
  is_static_invoke k = k.written || is_some (invoke_latency k)

  -- what it captures: r.in = c.q; r.write_en = 1'd1
  abbrev pub static_capture : Invoke → BindItem → List PlainAssign
  static_capture k bind =
      record {
        target = port_of bind.value.form;
        guard = Always;
        source = at bind.place (cell_port k.cell bind.name);
        place = k.place;
      }
      ∷ record {
        target = cell_port (register_of bind) (codes "write_en");
        guard = Always;
        source = at k.place one;
        place = k.place;
      } ∷ []

  abbrev pub capture_group : Invoke → PlainGroup
  capture_group k =
      record {
        name = [];
        kind = kinds.Timed 1;
        assigns = flat_map (static_capture k) k.outputs;
        place = k.place;
      }

  -- NUMBERS. A static invoke has one of its own; each other invoke has a group, and so has a static one that captures
  abbrev pub capture_count : List BindItem → ℕ
  capture_count [] = 0
  capture_count (bind ∷ binds) = 1

  abbrev pub after_static : Bool → Next → List BindItem → Next
  after_static true n outputs = record { group = n.group + capture_count outputs; invoke = suc n.invoke }
  after_static false n outputs = record { group = suc n.group; invoke = n.invoke }

  abbrev pub after : Next → Invoke → Next
  after n k = after_static (is_static_invoke k) n k.outputs

  abbrev pub past : Next → List Invoke → Next
  past n [] = n
  past n (k ∷ ks) = past (after n k) ks

  abbrev pub captures_number : ℕ → List BindItem → Option ℕ
  captures_number g [] = None
  captures_number g (bind ∷ binds) = Some g

  abbrev pub plain_invoke_of : Next → Invoke → PlainInvoke
  plain_invoke_of n k = record {
    cell = number_or_0 k.cell (cell_names part);
    written = k.written;
    length = k.length;
    latency = invoke_latency k;
    inputs = map (input_assign k) k.inputs;
    captures = captures_number n.group k.outputs;
  }

-- the invokes of control in source order
abbrev mutual
  pub invokes_in : statements.PlainForm → Place → List Invoke
  invokes_in (statements.Enable group marks) place = []
  invokes_in (statements.Seq marks block) place = invokes_of block
  invokes_in (statements.Par marks block) place = invokes_of block
  invokes_in (statements.StaticSeq length marks block) place = invokes_of block
  invokes_in (statements.StaticPar length marks block) place = invokes_of block
  invokes_in (statements.If test comb yes_block otherwise) place = invokes_of yes_block ++ invokes_else otherwise
  invokes_in (statements.StaticIf length test yes_block otherwise) place =
      invokes_of yes_block ++ invokes_else otherwise
  invokes_in (statements.While test comb body) place = invokes_of body
  invokes_in (statements.Repeat count body) place = invokes_of body
  invokes_in (statements.StaticRepeat length count body) place = invokes_of body
  invokes_in (statements.Invoke cell inputs outputs) place =
      record { cell = cell; written = false; length = None; inputs = inputs; outputs = outputs; place = place } ∷ []
  invokes_in (statements.StaticInvoke length cell inputs outputs) place =
      record { cell = cell; written = true; length = length; inputs = inputs; outputs = outputs; place = place } ∷ []

  pub invokes_else : statements.PlainElse → List Invoke
  invokes_else statements.NoElse = []
  invokes_else (statements.Else block) = invokes_of block

  pub invokes_of : statements.PlainBlock → List Invoke
  invokes_of (statements.Braces list place) = invokes_all list

  pub invokes_all : statements.PlainStatements → List Invoke
  invokes_all statements.NoStatements = []
  invokes_all (statements.StatementThen (statements.Placed attributes form place) rest) =
      invokes_in form place ++ invokes_all rest

-- STATEMENTS. n has the numbers that come next
module _ (tree : ast.PlainTree) (part : ast.PlainComponent) where
  abbrev pub group_number : List ℕ → ℕ
  group_number name = number_or_0 name (group_names part)

  abbrev pub comb_number : Option (List ℕ) → Option ℕ
  comb_number None = None
  comb_number (Some name) = Some (group_number name)

  -- a block without statements is the empty statement, with one it is that, with several it is a seq, which in static
  -- control is a static seq; what is implied has the place of the block's brace
  abbrev pub seq_form : Bool → PlainStatements → PlainForm
  seq_form true parts = plain.StaticSeq None parts
  seq_form false parts = plain.Seq parts

  abbrev pub of_block : Bool → Place → PlainStatements → PlainStatement
  of_block static place no_statements = Placed plain.Empty place
  of_block static place (a_statement s no_statements) = s
  of_block static place (a_statement s (a_statement t rest)) =
      Placed (seq_form static (a_statement s (a_statement t rest))) place

  abbrev pub invoke_form : Bool → Next → PlainForm
  invoke_form true n = plain.Timed n.invoke
  invoke_form false n = plain.Enable n.group

  abbrev mutual
    pub form_of : Next → Place → statements.PlainForm → PlainForm
    form_of n place (statements.Enable group marks) = plain.Enable (group_number group)
    form_of n place (statements.Seq marks block) = plain.Seq (parts_of n block)
    form_of n place (statements.Par marks block) = plain.Par (parts_of n block)
    form_of n place (statements.StaticSeq length marks block) = plain.StaticSeq length (parts_of n block)
    form_of n place (statements.StaticPar length marks block) = plain.StaticPar length (parts_of n block)
    form_of n place (statements.If test comb block otherwise) =
        plain.If (placed_of tree part test) (comb_number comb) (block_of false n block)
        (else_of false (past tree part n (invokes_of block)) place otherwise)
    form_of n place (statements.StaticIf written test block otherwise) =
        plain.StaticIf written (placed_of tree part test) (block_of true n block)
        (else_of true (past tree part n (invokes_of block)) place otherwise)
    form_of n place (statements.While test comb body) =
        plain.While (placed_of tree part test) (comb_number comb) (block_of false n body)
    form_of n place (statements.Repeat count body) = plain.Repeat count (block_of false n body)
    form_of n place (statements.StaticRepeat length count body) = plain.StaticRepeat length count (block_of true n body)
    form_of n place (statements.Invoke cell inputs outputs) =
        invoke_form (is_static_invoke tree part
        (record {
          cell = cell;
          written = false;
          length = None;
          inputs = inputs;
          outputs = outputs;
          place = place;
        })) n
    form_of n place (statements.StaticInvoke length cell inputs outputs) = plain.Timed n.invoke

    -- an absent block is the empty statement, with the place of the statement that lacks it
    pub else_of : Bool → Next → Place → statements.PlainElse → PlainStatement
    else_of static n place statements.NoElse = Placed plain.Empty place
    else_of static n place (statements.Else block) = block_of static n block

    pub block_of : Bool → Next → statements.PlainBlock → PlainStatement
    block_of static n (statements.Braces list place) = of_block static place (all_of n list)

    pub parts_of : Next → statements.PlainBlock → PlainStatements
    parts_of n (statements.Braces list place) = all_of n list

    pub all_of : Next → statements.PlainStatements → PlainStatements
    all_of n statements.NoStatements = no_statements
    all_of n (statements.StatementThen (statements.Placed attributes form place) rest) =
        a_statement (Placed (form_of n place form) place) (all_of (past tree part n (invokes_in form place)) rest)

  -- the groups of the invokes, numbered after the others
  abbrev pub captures_for : Invoke → List BindItem → List PlainGroup
  captures_for k [] = []
  captures_for k (bind ∷ binds) = capture_group tree part k ∷ []

  abbrev pub groups_for : Bool → Next → Invoke → List PlainGroup
  groups_for true n k = captures_for k k.outputs
  groups_for false n k = invoke_group tree part n.group k ∷ []

  abbrev pub invoke_groups : Next → List Invoke → List PlainGroup
  invoke_groups n [] = []
  invoke_groups n (k ∷ ks) = groups_for (is_static_invoke tree part k) n k ++ invoke_groups (after tree part n k) ks

  -- the static invokes by their numbers
  abbrev pub static_for : Bool → Next → Invoke → List PlainInvoke
  static_for true n k = plain_invoke_of tree part n k ∷ []
  static_for false n k = []

  abbrev pub static_invokes : Next → List Invoke → List PlainInvoke
  static_invokes n [] = []
  static_invokes n (k ∷ ks) = static_for (is_static_invoke tree part k) n k ++ static_invokes (after tree part n k) ks

  -- the first numbers: the groups that are written come before those of invokes
  abbrev pub first : Next
  first = record { group = length (group_names part); invoke = 0 }

  abbrev pub control_invokes : Option statements.PlainBlock → List Invoke
  control_invokes None = []
  control_invokes (Some block) = invokes_of block

  abbrev pub control_of : Option statements.PlainBlock → PlainStatement
  control_of None = Placed plain.Empty part.place
  control_of (Some block) = block_of false first block

  -- CELLS
  abbrev pub kind_or : CellOf → PlainKind
  kind_or Neither = OfComponent 0
  kind_or (APrimitive primitive) = OfPrimitive primitive
  kind_or (AComponent component) = OfComponent (number_or_0 component.name (component_names tree))

  abbrev pub plain_cell_of : ast.PlainCell → PlainCell
  plain_cell_of cell =
      record {
        name = cell.name;
        kind = kind_or (cell_of tree cell);
        external = is_external cell;
        place = cell.place;
      }

  abbrev pub decl_of : ast.PlainPort → PortDecl
  decl_of port = record { name = port.name; width = port.width }

  abbrev pub component_of : PlainComponent
  component_of = record {
    name = part.name;
    latency = part.length;
    inputs = map decl_of (signature_ports part.inputs);
    outputs = map decl_of (signature_ports part.outputs);
    cells = map plain_cell_of part.cells;
    groups = map (group_of tree part) (groups_in part.wires) ++ invoke_groups first (control_invokes part.control);
    invokes = static_invokes first (control_invokes part.control);
    always = map (assign_of tree part) (always_in part.wires);
    control = control_of part.control;
    place = part.place;
  }

-- THE DESIGN
abbrev pub design_of : ast.PlainTree → PlainDesign
design_of tree =
    record {
      components = map (component_of tree) tree.components;
      main = number_or_0 (codes "main") (component_names tree);
    }
