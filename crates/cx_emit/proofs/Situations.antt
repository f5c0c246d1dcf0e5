-- An instance of a net in a cycle in which all has a value, beside its instance in the source.
use Rattle.std.proofs.Common.{◌≡◌, ℕ, suc, Bool, true, List, [], ◌∷◌, length, Option, Some, None, option_map, slice_get, refl, ap, sym, ◌∙◌, if◌then◌else◌}
use Rattle.std.specs.Prelude.{IsSome, unwrap_or}
use Rattle.cx_bits.specs.BitVector.{BitVector, zero_of}
use Rattle.cx_prim.specs.Table.{PrimitiveRow, row_of}
use Rattle.cx_meaning.specs.declared.kinds.PortDecl.{PortDecl}
use Rattle.cx_meaning.specs.declared.ports.PortRef.TheVariants as ports
use Rattle.cx_meaning.specs.Designs.{OfPrimitive, OfComponent, PlainCell}
use Rattle.cx_meaning.specs.Instances.{Path}
use Rattle.cx_vtree.specs.Meaning.{Moment}
use Rattle.cx_vtree.specs.Sound.{is_sound}
use Rattle.cx_vmods.specs.Built.{IsAt}
use Rattle.cx_net.specs.Nets.{PlainNet}
use Rattle.cx_net.specs.NetTree.{net_component_at, net_tree}
use Rattle.cx_net.specs.NetMeaning.{NetState, below_cell, Node, APort, NetLook, NetAround, around_child, outside, truth_bit}
use Rattle.cx_net.specs.NetEdges.{inputs_from}
use Rattle.cx_net.specs.NetRuns.{IsWholeLook}
use Rattle.cx_emit.specs.Signatures.{primitive_module}
use Rattle.cx_emit.specs.Sources.{source_of}
use Rattle.cx_net.specs.NetPaths.{LeadsTo}
use Rattle.cx_emit.specs.Places.{cell_number}
use Rattle.cx_vmods.specs.Laws.{EachIsBuilt}
use Rattle.cx_net.specs.NetFits.{port_width}
use Rattle.cx_emit.specs.Fits.{IsFlat, node_width, stand_for}
use Rattle.cx_emit.specs.States.{StatesStand}
use Rattle.cx_emit.proofs.Standing.{tree, IsPlaced, main_placed, main_inputs, cell_placed, child_placed}
use Rattle.cx_net.proofs.GatherLemmas.{length-inputs_from, input-from_look}
use Rattle.cx_emit.proofs.CellValues.{inputs_stand}
use Rattle.cx_net.proofs.DriverLemmas.{primitive_width, component_width}
use Rattle.cx_emit.proofs.NodeValues.{HasAround, IsLooked, stand_below, around_below, main_around, node_has}
use Rattle.cx_emit.proofs.NetWholes.{Has, node_there}
use Rattle.cx_emit.proofs.PortPlaces.{input_place}
use Rattle.cx_text.proofs.OptionLaws.{map_some, same_some}

some_has : (o : Option BitVector) → IsSome o → Has o
some_has (Some v) h = (v, refl)
some_has None h = absurd (cc)

-- all that is there has a value, below an instance of component k, and around it
abbrev pub HasAll : PlainNet → ℕ → NetLook → Type 0
HasAll net k look = (path : Path) (h : ℕ) (node : Node) (w : ℕ) → LeadsTo net k path h → node_width net (net_component_at net h) node ≡ Some w → Has (look path node)

pub record AroundHas (net : PlainNet) (k : ℕ) (around : NetAround) : Type 0 where
  pub goes : Has around.go
  pub given : (n w : ℕ) → port_width net (net_component_at net k) (ports.Input n) ≡ Some w → Has (around.input n)

module _ (net : PlainNet) (sound : is_sound (source_of net) ≡ true) (fit : IsFlat net) (built : EachIsBuilt) (now : Moment) where
  -- what is kept and known of an instance of component k, which is instance i of the source
  pub record Situation (k i : ℕ) (around : NetAround) (s : NetState) (look : NetLook) : Type 0 where
    pub here : IsPlaced net sound fit k i
    pub stand : StatesStand net k i s now.state
    pub outward : HasAround net sound fit built now k i around
    pub looked : IsLooked net sound fit built now k i look
    pub all : HasAll net k look
    pub has : AroundHas net k around

  -- that of the instance at a cell
  pub situation_below : (k i : ℕ) (around : NetAround) (s : NetState) (look : NetLook) → Situation k i around s look → (c : ℕ) (cell : PlainCell) (child : ℕ) → slice_get (net_component_at net k).cells c ≡ Some cell
      → cell.kind ≡ OfComponent child → Situation child (cell_number (source_of net) i c) (around_child c (look [])) (below_cell c s) (λ q. look (c ∷ q))
  situation_below k i around s look x c cell child there is = record {
    here = child_placed net sound fit k i c cell child x.here there is;
    stand = stand_below net sound fit built now k i s x.stand c cell child there is;
    outward = around_below net sound fit built now k i x.here around s look x.stand x.outward x.looked c cell child there is;
    looked = λ q g node w v leads wide known. x.looked (c ∷ q) g node w v (cell, child, there, is, leads) wide known;
    all = λ q g node w leads wide. x.all (c ∷ q) g node w (cell, child, there, is, leads) wide;
    has = record {
      goes = x.all [] k (APort (ports.Cell c 0)) 1 refl (component_width net (net_component_at net k) c cell child 0 1 there is refl);
      given = λ n w wide.
          let (d, at, same) = map_some (λ (y : PortDecl). y.width) (slice_get (net_component_at net child).inputs n) w wide in
          x.all [] k (APort (ports.Cell c (suc n))) w refl (component_width net (net_component_at net k) c cell child (suc n) w there is ((input_place (net_component_at net child) n d at).0 ∙ ap Some same));
    };
  }

  -- the instance of a primitive cell, with what stands at its ports
  pub primitive_at : (k i : ℕ) (around : NetAround) (s : NetState) (look : NetLook) (x : Situation k i around s look) (c : ℕ) (cell : PlainCell) (p : PrimitiveRow) → slice_get (net_component_at net k).cells c ≡ Some cell
      → cell.kind ≡ OfPrimitive p
      → IsAt (primitive_module p) (row_of p) (stand_for p) (tree net sound fit) now (cell_number (source_of net) i c) (s.cell (c ∷ [])) (inputs_from look c 0 (row_of p).ports)
  primitive_at k i around s look x c cell p there is =
      let state = x.stand.cells [] k c cell p refl there is in
      inputs_stand net sound fit built now k i c cell p x.here there is (cell_placed net sound fit k i c cell x.here there) (s.cell (c ∷ [])) (inputs_from look c 0 (row_of p).ports) state.0 state.1
      (length-inputs_from look c 0 (row_of p).ports)
      (λ n port v at e.
      let wide = primitive_width net (net_component_at net k) c cell p n port there is at in
      let (u, known) = x.all [] k (APort (ports.Cell c n)) port.width refl wide in
      let same : u ≡ v = same_some u v (sym (input-from_look look c (row_of p).ports n port at ∙ ap (λ o. Some (unwrap_or o (zero_of port.width))) known) ∙ e) in
      x.looked [] k (APort (ports.Cell c n)) port.width v refl wide (known ∙ ap Some same))

  -- that of main
  pub main_situation : (go : Bool) (s : NetState) (look : NetLook) → StatesStand net net.main 0 s now.state → now.go ≡ (if go then 1 else 0) → IsWholeLook (net_tree net) go s look → Situation net.main 0 (outside go) s look
  main_situation go s look stand goes whole = record {
    here = main_placed net sound fit;
    stand = stand;
    outward = main_around net sound fit built now go s stand goes;
    looked = λ path h node w v leads wide e. node_has net sound fit built now go s stand goes (whole.right path node v e) h w leads wide;
    all = λ path h node w leads wide. some_has (look path node) (whole.whole path node (node_there net fit path (length net.components) net.main fit.fits.has_main fit.fits.has_main h node w leads wide));
    has = record {
      goes = (truth_bit go, refl);
      given = λ n w wide. absurd (let none = ap (λ (ds : List PortDecl). option_map (λ d. d.width) (slice_get ds n)) (main_inputs net sound fit) in let wrong = sym none ∙ wide in cc);
    };
  }
