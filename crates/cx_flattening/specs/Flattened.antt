-- A FLAT COMPONENT: the cells of a static child stand in its caller behind the caller's own, its outputs become wires, and each of its
-- invokes becomes a copy of its control with copies of the groups that this enables, in which the inputs are their sources.
use Rattle.std.specs.Prelude.{ℕ, zero, suc, ◌+◌, ◌-◌, Bool, true, false, List, [], ◌∷◌, ◌++◌, Option, Some, None, codes, map, flat_map, length, take}
use Rattle.cx_prim.specs.declared.names.PrimitiveName.TheVariants as primitives
use Rattle.cx_meaning.specs.declared.ports.PortRef.{PortRef}
use Rattle.cx_meaning.specs.declared.ports.PortRef.TheVariants as ports
use Rattle.cx_meaning.specs.declared.kinds.PortDecl.{PortDecl}
use Rattle.cx_meaning.specs.Designs.{PlainAssign, PlainGroup, OfPrimitive, PlainCell, PlainInvoke, PlainForm, Empty, Enable, Seq, Par, If, While, Repeat, StaticSeq, StaticPar, StaticIf, StaticRepeat, Timed, PlainStatement, Placed, PlainStatements, no_statements, a_statement, PlainComponent, no_place}
use Rattle.cx_meaning.specs.Control.{groups_of}
use Rattle.cx_rewrites.specs.Moving.{moved_port, moved_assign, moved_group}
use Rattle.cx_flattening.specs.Events.{the_invoke, source_to}
use Rattle.cx_meaning.specs.Instances.{Instance, Node, Cells, no_cells, a_primitive, an_instance}
use Rattle.cx_flattening.specs.Whole.{is_static}
use Rattle.cx_flattening.specs.Copies.{copied_group, copied_statement, enabled_below, enabled_groups}

-- THE CELLS. A cell of the child is named by the child's cell, a point and its name; an output becomes a wire, with a point behind its name
abbrev pub point : List ℕ
point = codes "."

abbrev pub inner_cell : PlainCell → PlainCell → PlainCell
inner_cell c inner =
    record { name = c.name ++ point ++ inner.name; kind = inner.kind; external = false; place = c.place }

abbrev pub wire_of : PlainCell → PortDecl → PlainCell
wire_of c output =
    record {
      name = c.name ++ point ++ output.name ++ point;
      kind = OfPrimitive (record { name = primitives.Wire; numbers = output.width ∷ [] });
      external = false;
      place = c.place;
    }

-- kids gives, for each cell in order, the flat component of a static child, or none for a cell that is kept
abbrev pub Kids : Type 0
Kids = List (Option PlainComponent)

abbrev pub kid_at : Kids → ℕ → Option PlainComponent
kid_at [] c = None
kid_at (k ∷ ks) zero = k
kid_at (k ∷ ks) (suc c) = kid_at ks c

abbrev pub kept_if : Option PlainComponent → PlainCell → List PlainCell → List PlainCell
kept_if None c rest = c ∷ rest
kept_if (Some child) c rest = rest

abbrev pub kept : Kids → List PlainCell → List PlainCell
kept [] cs = cs
kept (k ∷ ks) [] = []
kept (k ∷ ks) (c ∷ cs) = kept_if k c (kept ks cs)

-- the block of a static child: its cells, and a wire for each of its outputs
abbrev pub block : Option PlainComponent → PlainCell → List PlainCell
block None c = []
block (Some child) c = map (inner_cell c) child.cells ++ map (wire_of c) child.outputs

abbrev pub blocks : Kids → List PlainCell → List PlainCell
blocks [] cs = []
blocks (k ∷ ks) [] = []
blocks (k ∷ ks) (c ∷ cs) = block k c ++ blocks ks cs

abbrev pub flat_cells : Kids → List PlainCell → List PlainCell
flat_cells kids cs = kept kids cs ++ blocks kids cs

-- where cell c stands, where it is kept; and where its block begins behind the cells that are kept
abbrev pub behind : Option PlainComponent → ℕ → ℕ
behind None n = suc n
behind (Some child) n = n

abbrev pub kept_at : Kids → ℕ → ℕ
kept_at [] c = c
kept_at (k ∷ ks) zero = 0
kept_at (k ∷ ks) (suc c) = behind k (kept_at ks c)

abbrev pub block_size : Option PlainComponent → ℕ
block_size None = 0
block_size (Some child) = length child.cells + length child.outputs

abbrev pub block_at : Kids → ℕ → ℕ
block_at [] c = 0
block_at (k ∷ ks) zero = 0
block_at (k ∷ ks) (suc c) = block_size k + block_at ks c

-- a statement, and the group that captures after it
abbrev pub with_capture : Option ℕ → PlainStatement → PlainForm
with_capture None (Placed form place) = form
with_capture (Some g) s = StaticSeq None (a_statement s (a_statement (Placed (Enable g) no_place) no_statements))

module _ (kids : Kids) (part : PlainComponent) where
  abbrev pub start_of : ℕ → ℕ
  start_of c = length (kept kids part.cells) + block_at kids c

  abbrev pub wire_at : PlainComponent → ℕ → ℕ → ℕ
  wire_at child c n = start_of c + length child.cells + n

  -- PORTS of the caller: an output of a static child is that of its wire. The ports of a component's cell are go, inputs, outputs, done
  abbrev pub port_if : Option PlainComponent → ℕ → ℕ → PortRef
  port_if None c p = ports.Cell (kept_at kids c) p
  port_if (Some child) c p = ports.Cell (wire_at child c (p - 1 - length child.inputs)) 1

  abbrev pub own_port : PortRef → PortRef
  own_port (ports.Cell c p) = port_if (kid_at kids c) c p
  own_port (ports.Input n) = ports.Input n
  own_port (ports.Output n) = ports.Output n
  own_port (ports.Done g) = ports.Done g
  own_port (ports.Literal w v) = ports.Literal w v

  -- PORTS of the child at cell c, whose inputs are seen as their sources
  abbrev pub child_port : PlainComponent → ℕ → (ℕ → PortRef) → PortRef → PortRef
  child_port child c sources (ports.Cell e p) = ports.Cell (start_of c + e) p
  child_port child c sources (ports.Input n) = sources n
  child_port child c sources (ports.Output n) = ports.Cell (wire_at child c n) 0
  child_port child c sources (ports.Done g) = ports.Done g
  child_port child c sources (ports.Literal w v) = ports.Literal w v

  abbrev pub invoke_port : PlainComponent → PlainInvoke → PortRef → PortRef
  invoke_port child v = child_port child v.cell (λ n. own_port (source_to v.cell v.inputs n))

  -- the continuous assignments of the child, which name no input
  abbrev pub always_if : Option PlainComponent → ℕ → List PlainAssign
  always_if None c = []
  always_if (Some child) c = map (moved_assign (child_port child c (λ n. ports.Input n))) child.always

  abbrev pub always_from : ℕ → Kids → List PlainAssign
  always_from c [] = []
  always_from c (k ∷ ks) = always_if k c ++ always_from (suc c) ks

  -- THE GROUPS: the caller's own, and for each static invoke, by number, copies of those that the child's control enables
  abbrev pub copies_if : Option PlainComponent → PlainInvoke → List PlainGroup
  copies_if None v = []
  copies_if (Some child) v =
      map (copied_group (invoke_port child v)) (enabled_groups (groups_of child.control) 0 child.groups)

  abbrev pub copies : PlainInvoke → List PlainGroup
  copies v = copies_if (kid_at kids v.cell) v

  abbrev pub flat_groups : List PlainGroup
  flat_groups = map (moved_group own_port) part.groups ++ flat_map copies part.invokes

  -- the number of the first copy for an invoke, and of the copy of a group of the child
  abbrev pub first_copy : ℕ → ℕ
  first_copy k = length part.groups + length (flat_map copies (take k part.invokes))

  abbrev pub copy_of : PlainComponent → ℕ → ℕ → ℕ
  copy_of child k g = first_copy k + enabled_below (groups_of child.control) g

  -- CONTROL: an invoke is a copy of the child's control, and the group that captures after it
  abbrev pub inlined : Option PlainComponent → ℕ → PlainInvoke → PlainForm
  inlined None k v = Empty
  inlined (Some child) k v =
      with_capture v.captures (copied_statement (invoke_port child v) (copy_of child k) child.control)

  abbrev mutual
    pub flat_form : PlainForm → PlainForm
    flat_form Empty = Empty
    flat_form (Enable g) = Enable g
    flat_form (Seq ss) = Seq (flat_statements ss)
    flat_form (Par arms) = Par (flat_statements arms)
    flat_form (If test comb a b) = If (moved_port own_port test) comb (flat_statement a) (flat_statement b)
    flat_form (While test comb a) = While (moved_port own_port test) comb (flat_statement a)
    flat_form (Repeat count a) = Repeat count (flat_statement a)
    flat_form (StaticSeq length ss) = StaticSeq length (flat_statements ss)
    flat_form (StaticPar length arms) = StaticPar length (flat_statements arms)
    flat_form (StaticIf length test a b) =
        StaticIf length (moved_port own_port test) (flat_statement a) (flat_statement b)
    flat_form (StaticRepeat length count a) = StaticRepeat length count (flat_statement a)
    flat_form (Timed k) = inlined (kid_at kids (the_invoke part k).cell) k (the_invoke part k)

    pub flat_statement : PlainStatement → PlainStatement
    flat_statement (Placed form place) = Placed (flat_form form) place

    pub flat_statements : PlainStatements → PlainStatements
    flat_statements no_statements = no_statements
    flat_statements (a_statement s ss) = a_statement (flat_statement s) (flat_statements ss)

  abbrev pub flat_component : PlainComponent
  flat_component = record {
    name = part.name;
    latency = None;
    inputs = part.inputs;
    outputs = part.outputs;
    cells = flat_cells kids part.cells;
    groups = flat_groups;
    invokes = [];
    always = map (moved_assign own_port) part.always ++ always_from 0 kids;
    control = flat_statement part.control;
    place = part.place;
  }

-- THE FLAT COMPONENT of an instance, from the leaves of the tree up
abbrev pub kid_if : Bool → PlainComponent → Option PlainComponent
kid_if true child = Some child
kid_if false child = None

abbrev mutual
  pub flat_part : Instance → PlainComponent
  flat_part (Node part cells) = flat_component (flat_kids cells) part

  pub flat_kids : Cells → Kids
  flat_kids no_cells = []
  flat_kids (a_primitive row rest) = None ∷ flat_kids rest
  flat_kids (an_instance child rest) = kid_if (is_static child) (flat_part child) ∷ flat_kids rest
