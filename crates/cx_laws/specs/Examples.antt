-- Two designs that are refused, as plain data, with the places of their parts in the text.
use Rattle.std.specs.Prelude.{ℕ, true, false, List, [], ◌∷◌, None, codes}
use Rattle.cx_text.specs.declared.places.Place.{Place}
use Rattle.cx_prim.specs.declared.names.PrimitiveName.{PrimitiveName}
use Rattle.cx_prim.specs.declared.names.PrimitiveName.TheVariants.{StdMemD1, Reg, Wire, And}
use Rattle.cx_meaning.specs.declared.ports.PortRef.{PortRef}
use Rattle.cx_meaning.specs.declared.ports.PortRef.TheVariants.{Cell, Done, Literal}
use Rattle.cx_meaning.specs.declared.kinds.GroupKind.TheVariants.{Plain}
use Rattle.cx_meaning.specs.Designs.{Always, PlainAssign, PlainGroup, OfPrimitive, PlainCell, Enable, Par, PlainStatement, Placed, statements_of, PlainDesign}
use Rattle.cx_rules.specs.Spots.{AnAssign, AStatement, Spot}

abbrev pub at : ℕ → ℕ → Place
at line column = record { line = line; column = column }

-- target = source, where the target stands in line 5
abbrev pub assign : PortRef → PortRef → (column source_column : ℕ) → PlainAssign
assign target source column source_column =
    record {
      target = target;
      guard = Always;
      source = record { port = source; place = at 5 source_column };
      place = at 5 column;
    }

abbrev pub cell : List ℕ → PrimitiveName → List ℕ → ℕ → PlainCell
cell name primitive numbers column =
    record {
      name = name;
      kind = OfPrimitive (record { name = primitive; numbers = numbers });
      external = false;
      place = at 3 column;
    }

abbrev pub group : List ℕ → List PlainAssign → ℕ → PlainGroup
group name assigns column = record { name = name; kind = Plain; assigns = assigns; place = at 5 column }

-- a component main alone
abbrev pub main_of : List PlainCell → List PlainGroup → List PlainAssign → PlainStatement → PlainDesign
main_of cells groups always control = record {
  components =
      record {
        name = codes "main";
        latency = None;
        inputs = [];
        outputs = [];
        cells = cells;
        groups = groups;
        invokes = [];
        always = always;
        control = control;
        place = at 1 1;
      } ∷ [];
  main = 0;
}

-- @external mem = std_mem_d1(32, 1, 1); x = std_reg(32); y = std_reg(32); w = std_wire(32);
-- w.in = x.out; group g { x.in = 32'd1; x.write_en = 1'd1; g[done] = x.done; } group h { y.in = w.out; y.write_en =
-- 1'd1; h[done] = y.done; } par { g; h; }
abbrev pub racing : PlainDesign
racing = main_of
    (record {
      name = codes "mem";
      kind = OfPrimitive (record { name = StdMemD1; numbers = 32 ∷ 1 ∷ 1 ∷ [] });
      external = true;
      place = at 3 11;
    }
    ∷ cell (codes "x") Reg (32 ∷ []) 39 ∷ cell (codes "y") Reg (32 ∷ []) 56 ∷ cell (codes "w") Wire (32 ∷ []) 73 ∷ [])
    (group (codes "g") (assign (Cell 1 0) (Literal 32 1) 25 32 ∷ assign (Cell 1 1) (Literal 1 1) 39 52 ∷
    assign (Done 0) (Cell 1 3) 58 68 ∷ []) 15
    ∷ group (codes "h") (assign (Cell 2 0) (Cell 3 1) 88 95 ∷ assign (Cell 2 1) (Literal 1 1) 102 115 ∷
    assign (Done 1) (Cell 2 3) 121 131 ∷ []) 78
    ∷ [])
    (assign (Cell 3 0) (Cell 1 2) 1 8 ∷ [])
    (Placed (Par (statements_of (Placed (Enable 0) (at 7 7) ∷ Placed (Enable 1) (at 7 10) ∷ []))) (at 7 1))

-- r = std_reg(1); n = std_and(1);
-- group g { n.left = r.done; n.right = 1'd1; r.in = 1'd1; r.write_en = 1'd1; g[done] = n.out; }
-- g;
abbrev pub restless : PlainDesign
restless = main_of
    (cell (codes "r") Reg (1 ∷ []) 1 ∷ cell (codes "n") And (1 ∷ []) 17 ∷ [])
    (group (codes "g")
    (assign (Cell 1 0) (Cell 0 3) 11 20 ∷ assign (Cell 1 1) (Literal 1 1) 28 38 ∷
    assign (Cell 0 0) (Literal 1 1) 44 51 ∷ assign (Cell 0 1) (Literal 1 1) 57 70 ∷
    assign (Done 0) (Cell 1 2) 76 86 ∷ []) 1
    ∷ [])
    []
    (Placed (Enable 0) (at 7 1))

-- statement n of the component, in pre-order, and assignment n, in source order
abbrev pub statement_of_main : ℕ → Spot
statement_of_main n = record { component = 0; part = AStatement n }

abbrev pub assign_of_main : ℕ → Spot
assign_of_main n = record { component = 0; part = AnAssign n }
