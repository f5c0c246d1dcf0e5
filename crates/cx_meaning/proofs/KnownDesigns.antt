-- Small designs for worked examples, as plain data.
use Rattle.std.specs.Prelude.{ℕ, true, false, List, [], ◌∷◌, None}
use Rattle.cx_text.specs.declared.places.Place.{Place}
use Rattle.cx_prim.specs.declared.names.PrimitiveName.{PrimitiveName}
use Rattle.cx_prim.specs.declared.names.PrimitiveName.TheVariants as primitives
use Rattle.cx_meaning.specs.declared.ports.PortRef.{PortRef}
use Rattle.cx_meaning.specs.declared.ports.PortRef.TheVariants.{Cell, Done, Literal}
use Rattle.cx_meaning.specs.declared.ports.PlacedPort.{PlacedPort}
use Rattle.cx_meaning.specs.declared.kinds.GroupKind.TheVariants as kinds
use Rattle.cx_meaning.specs.Designs.{PlainGuard, Always, PlainAssign, PlainGroup, OfPrimitive, OfComponent, PlainCell, PlainForm, Enable, PlainStatement, Placed, statements_of, Seq, Par, PlainComponent, PlainDesign, no_place}

abbrev pub at : ℕ → Place
at column = record { line = 5; column = column }

abbrev pub placed : PortRef → PlacedPort
placed port = record { port = port; place = no_place }

-- target = source, the assignments of a group in the order of their columns
abbrev pub assign : PortRef → PortRef → ℕ → PlainAssign
assign target source column = record { target = target; guard = Always; source = placed source; place = at column }

abbrev pub guarded : PortRef → PlainGuard → PortRef → ℕ → PlainAssign
guarded target guard source column = record { target = target; guard = guard; source = placed source; place = at column }

abbrev pub plain_group : List PlainAssign → PlainGroup
plain_group assigns = record { name = []; kind = kinds.Plain; assigns = assigns; place = no_place }

abbrev pub comb_group : List PlainAssign → PlainGroup
comb_group assigns = record { name = []; kind = kinds.Comb; assigns = assigns; place = no_place }

abbrev pub timed_group : ℕ → List PlainAssign → PlainGroup
timed_group cycles assigns = record { name = []; kind = kinds.Timed cycles; assigns = assigns; place = no_place }

abbrev pub cell : PrimitiveName → List ℕ → PlainCell
cell name numbers = record { name = []; kind = OfPrimitive (record { name = name; numbers = numbers }); external = false; place = no_place }

abbrev pub child_cell : ℕ → PlainCell
child_cell k = record { name = []; kind = OfComponent k; external = false; place = no_place }

-- @external mem = std_mem_d1(32, 1, 1), cell 0 of each example
abbrev pub mem : PlainCell
mem = record { name = []; kind = OfPrimitive (record { name = primitives.StdMemD1; numbers = 32 ∷ 1 ∷ 1 ∷ [] }); external = true; place = no_place }

abbrev pub reg : ℕ → PlainCell
reg width = cell primitives.Reg (width ∷ [])

abbrev pub adder : PlainCell
adder = cell primitives.Add (32 ∷ [])

abbrev pub st : PlainForm → PlainStatement
st form = Placed form no_place

abbrev pub enable : ℕ → PlainStatement
enable g = st (Enable g)

abbrev pub seq : List PlainStatement → PlainStatement
seq parts = st (Seq (statements_of parts))

abbrev pub par : List PlainStatement → PlainStatement
par arms = st (Par (statements_of arms))

abbrev pub component : List PlainCell → List PlainGroup → List PlainAssign → PlainStatement → PlainComponent
component cells groups always control = record { name = []; latency = None; inputs = []; outputs = []; cells = cells; groups = groups; invokes = []; always = always; control = control; place = no_place }

abbrev pub design : List PlainCell → List PlainGroup → List PlainAssign → PlainStatement → PlainDesign
design cells groups always control = record { components = component cells groups always control ∷ []; main = 0 }

abbrev pub one_bit : ℕ → PortRef
one_bit v = Literal 1 v

abbrev pub number : ℕ → PortRef
number v = Literal 32 v

-- r.in = source; r.write_en = 1'd1; g[done] = r.done
abbrev pub write : ℕ → ℕ → PortRef → PlainGroup
write r g source = plain_group (assign (Cell r 0) source 1 ∷ assign (Cell r 1) (one_bit 1) 2 ∷ assign (Done g) (Cell r 3) 3 ∷ [])

-- mem.addr0 = 1'd0; mem.write_data = source; mem.write_en = 1'd1; g[done] = mem.done
abbrev pub store : ℕ → PortRef → PlainGroup
store g source = plain_group (assign (Cell 0 0) (one_bit 0) 1 ∷ assign (Cell 0 1) source 2 ∷ assign (Cell 0 2) (one_bit 1) 3 ∷ assign (Done g) (Cell 0 4) 4 ∷ [])

-- r.in = r.out + source by the adder a; r.write_en = 1'd1; g[done] = r.done
abbrev pub add_to : ℕ → ℕ → ℕ → PortRef → PlainGroup
add_to r a g source = plain_group (assign (Cell a 0) (Cell r 2) 1 ∷ assign (Cell a 1) source 2 ∷ assign (Cell r 0) (Cell a 2) 3 ∷ assign (Cell r 1) (one_bit 1) 4 ∷ assign (Done g) (Cell r 3) 5 ∷ [])
