-- After an edge the states stand for each other again.
use Rattle.std.proofs.Common.{◌≡◌, ℕ, zero, suc, ◌<◌, ◌^◌, Bool, true, false, List, [], ◌∷◌, ◌++◌, length, Some, option_map, slice_get, refl, ap, sym, ◌∙◌, subst, if◌then◌else◌, arith}
use Rattle.std.specs.Prelude.{IsSome}
use Rattle.std.specs.Option.{option_map_or}
use Rattle.std.proofs.lemmas.Nat.{pow_pos}
use Rattle.cx_bits.specs.BitVector.{BitVector}
use Rattle.cx_prim.specs.CellStates.{CellState, IsState}
use Rattle.cx_prim.specs.Rows.{Inputs, Row, IsLawful}
use Rattle.cx_prim.specs.Table.{PrimitiveRow, row_of}
use Rattle.cx_prim.proofs.TableLaws.{row_of_lawful}
use Rattle.cx_meaning.specs.Designs.{OfPrimitive, OfComponent, PlainCell}
use Rattle.cx_meaning.specs.Instances.{Path}
use Rattle.cx_vtree.specs.Plain.{PlainExpr, Named, PlainSource}
use Rattle.cx_vtree.specs.InstanceTree.{Placed, assigned}
use Rattle.cx_vtree.specs.Meaning.{State, Moment, Look, expr_at}
use Rattle.cx_vtree.specs.Edges.{edge_at, acting_sets, number_or, state_after}
use Rattle.cx_vtree.specs.SimRun.{IsWhole}
use Rattle.cx_vtree.specs.Sound.{is_sound}
use Rattle.cx_vmods.specs.Built.{kept_at}
use Rattle.cx_net.specs.Nets.{ToRegister, PlainNetComponent, PlainNet}
use Rattle.cx_net.specs.NetTree.{NetCells, net_component_at, net_cells_for, net_within, net_tree}
use Rattle.cx_net.specs.NetMeaning.{NetState, below_cell, NetLook, NetAround, around_child, outside, drivers_to, registers_of}
use Rattle.cx_net.specs.NetEdges.{inputs_from, row_after, cell_after, own_register, register_after, net_after}
use Rattle.cx_net.specs.NetRuns.{IsWholeLook}
use Rattle.cx_emit.specs.Names.{register_name}
use Rattle.cx_emit.specs.Exprs.{literal}
use Rattle.cx_emit.specs.Chains.{chain_to}
use Rattle.cx_emit.specs.Sources.{source_of}
use Rattle.cx_net.specs.NetPaths.{LeadsTo}
use Rattle.cx_emit.specs.Places.{cell_number, number_at}
use Rattle.cx_vmods.specs.Laws.{EachIsBuilt}
use Rattle.cx_vmods.proofs.TableLaws.{each_is_built}
use Rattle.cx_net.specs.NetFits.{IsFit, HasNoHoles}
use Rattle.cx_emit.specs.Fits.{IsFlat, stand_for}
use Rattle.cx_emit.specs.States.{StatesStand}
use Rattle.cx_emit.specs.RunsAs.{EdgesCarry}
use Rattle.cx_emit.proofs.Standing.{tree, main_placed, cell_placed, child_lower, placed_at}
use Rattle.cx_net.proofs.GatherLemmas.{input-from_look}
use Rattle.cx_emit.proofs.CellValues.{is_built, cell_stands}
use Rattle.cx_net.proofs.DriverLemmas.{drivers_fit, register-at, state-at}
use Rattle.cx_emit.proofs.NodeValues.{register_reads}
use Rattle.cx_emit.proofs.Situations.{Situation, situation_below, primitive_at, main_situation}
use Rattle.cx_emit.proofs.TextWholes.{eval_whole}
use Rattle.cx_emit.proofs.NetWholes.{chain_takes}
use Rattle.cx_emit.proofs.EdgeLemmas.{set_with_reset, set_without, reset_state}

module _ (net : PlainNet) (sound : is_sound (source_of net) ≡ true) (fit : IsFlat net) (built : EachIsBuilt) (now : Moment) (text : Look) (whole : IsWhole (tree net sound fit) now text) where
  abbrev the_source : PlainSource
  the_source = source_of net

  abbrev the_tree : List Placed
  the_tree = tree net sound fit

  abbrev after : State
  after = state_after the_tree now text

  -- a register that the edge sets to the value of an expression
  register_set_to : (i n : ℕ) (e : PlainExpr) (v : BitVector) → assigned (acting_sets now.reset (edge_at the_tree i)) (register_name n) ≡ Some e → expr_at the_tree now text i e ≡ Some v
      → after.register i (register_name n) ≡ v.value
  register_set_to i n e v is value =
      let old : ℕ = now.state.register i (register_name n) in
      ap (λ o. option_map_or (λ e. number_or old (expr_at the_tree now text i e)) o old) is ∙ ap (number_or old) value

  module _ (quiet : now.reset ≡ 0) where
    own_register_carries : (k i levels : ℕ) (around : NetAround) (s : NetState) (look : NetLook) → Situation net sound fit built now k i around s look → (n w : ℕ) → slice_get (net_component_at net k).registers n ≡ Some w
        → (after.register i (register_name n) ≡ own_register (net_component_at net k) (net_cells_for (net_within net levels) (net_component_at net k).cells) around s look n)
        × (own_register (net_component_at net k) (net_cells_for (net_within net levels) (net_component_at net k).cells) around s look n < 2 ^ w)
    own_register_carries k i levels around s look x n w there =
        let part : PlainNetComponent = net_component_at net k in
        let cells : NetCells = net_cells_for (net_within net levels) part.cells in
        let old : BitVector = record { width = w; value = s.register [] n } in
        let (v, e, same) = chain_takes net part (fit.no_holes k) around (registers_of part cells around s (look []) (λ c. look (c ∷ []))) (look []) (λ node u wide. x.all [] k node u refl wide)
        (λ m u at. (record { width = u; value = s.register [] m }, ap (option_map (λ w. record { width = w; value = s.register [] m })) at)) x.has.goes x.has.given old w (drivers_to (ToRegister n) part.drivers)
        (drivers_fit net part (ToRegister n) w there part.drivers (fit.fits.components k x.here.within).drivers) in
        let r = register_reads net sound fit built now k i x.here around s look x.stand x.outward x.looked cells n w v there e in
        let set = subst (λ reset. assigned (acting_sets reset (edge_at the_tree i)) (register_name n) ≡ Some (chain_to (ToRegister n) (Named (register_name n)) part.drivers)) (sym quiet) (set_without net sound fit k i x.here n w there) in
        let small : v.value < 2 ^ w = subst (λ u. v.value < 2 ^ u) r.1.same_width r.1.fits.in_range in
        (register_set_to i n _ v set (eval_whole the_source sound now text whole i _ v r.0) ∙ same, subst (λ u. u < 2 ^ w) same small)

    registers_carry : (path : Path) (levels k i : ℕ) → k < levels → (around : NetAround) (s : NetState) (look : NetLook) → Situation net sound fit built now k i around s look
        → (h n w : ℕ) → LeadsTo net k path h → slice_get (net_component_at net h).registers n ≡ Some w
        → (after.register (number_at the_source i path) (register_name n) ≡ register_after (net_within net levels k) around s look path n) × (register_after (net_within net levels k) around s look path n < 2 ^ w)
    registers_carry path zero k i lower around s look x h n w leads there = absurd (omega arith)
    registers_carry [] (suc levels) k i lower around s look x h n w leads there =
        own_register_carries k i levels around s look x n w (subst (λ g. slice_get (net_component_at net g).registers n ≡ Some w) (sym leads) there)
    registers_carry (c ∷ path) (suc levels) k i lower around s look x h n w (cell, child, at, is, leads) there =
        let less = child_lower net sound fit k i c cell child x.here at is in
        let r = registers_carry path levels child (cell_number the_source i c) (omega arith) (around_child c (look [])) (below_cell c s) (λ q. look (c ∷ q))
        (situation_below net sound fit built now k i around s look x c cell child at is) h n w leads there in
        let same = register-at (net_within net levels) (around_child c (look [])) (below_cell c s) (λ q. look (c ∷ q)) path (net_component_at net k).cells c cell child at is n in
        (r.0 ∙ sym same, subst (λ u. u < 2 ^ w) (sym same) r.1)

  -- a primitive cell of an instance
  own_state_carries : (with_reset : Bool) → now.reset ≡ (if with_reset then 1 else 0) → (k i : ℕ) (around : NetAround) (s : NetState) (look : NetLook) → Situation net sound fit built now k i around s look
      → (c : ℕ) (cell : PlainCell) (p : PrimitiveRow) → slice_get (net_component_at net k).cells c ≡ Some cell → cell.kind ≡ OfPrimitive p
      → stand_for p (kept_at after (cell_number the_source i c)) (row_after with_reset look c (row_of p) (s.cell (c ∷ []))) × IsState (row_of p).shape (row_after with_reset look c (row_of p) (s.cell (c ∷ [])))
  own_state_carries true resets k i around s look x c cell p there is =
      let h = cell_placed net sound fit k i c cell x.here there in
      let state = x.stand.cells [] k c cell p refl there is in
      let lawful : IsLawful (row_of p) = row_of_lawful p in
      let module_is_built = is_built net sound fit built now k i c cell p x.here there is h in (
        module_is_built.reset_edge the_tree now text (cell_number the_source i c) (s.cell (c ∷ [])) (cell_stands net sound fit built now k i c cell p x.here there is h) state.0 state.1 whole resets,
        reset_state (row_of p).shape (s.cell (c ∷ [])) (row_of p).start state.1 lawful.states.start,
      )
  own_state_carries false quiet k i around s look x c cell p there is =
      let h = cell_placed net sound fit k i c cell x.here there in
      let state = x.stand.cells [] k c cell p refl there is in
      let row : Row = row_of p in
      let lawful : IsLawful row = row_of_lawful p in
      let inputs : Inputs = inputs_from look c 0 row.ports in
      let module_is_built = is_built net sound fit built now k i c cell p x.here there is h in
      let at_row = primitive_at net sound fit built now k i around s look x c cell p there is in (
        module_is_built.step the_tree now text (cell_number the_source i c) (s.cell (c ∷ [])) inputs at_row (λ n port at inward. subst IsSome (sym (input-from_look look c row.ports n port at)) refl) whole quiet,
        lawful.states.next (s.cell (c ∷ [])) inputs state.1 at_row.fits at_row.values,
      )

  states_carry : (with_reset : Bool) → now.reset ≡ (if with_reset then 1 else 0) → (path : Path) (levels k i : ℕ) → k < levels → (around : NetAround) (s : NetState) (look : NetLook)
      → Situation net sound fit built now k i around s look → (h c : ℕ) (cell : PlainCell) (p : PrimitiveRow) → LeadsTo net k path h → slice_get (net_component_at net h).cells c ≡ Some cell → cell.kind ≡ OfPrimitive p
      → stand_for p (kept_at after (number_at the_source i (path ++ c ∷ []))) (cell_after with_reset (net_within net levels k) look (path ++ c ∷ []) (s.cell (path ++ c ∷ [])))
      × IsState (row_of p).shape (cell_after with_reset (net_within net levels k) look (path ++ c ∷ []) (s.cell (path ++ c ∷ [])))
  states_carry with_reset resets path zero k i lower around s look x h c cell p leads there is = absurd (omega arith)
  states_carry with_reset resets [] (suc levels) k i lower around s look x h c cell p leads there is =
      let there_here : slice_get (net_component_at net k).cells c ≡ Some cell = subst (λ g. slice_get (net_component_at net g).cells c ≡ Some cell) (sym leads) there in
      let same : cell_after with_reset (net_within net (suc levels) k) look (c ∷ []) (s.cell (c ∷ [])) ≡ row_after with_reset look c (row_of p) (s.cell (c ∷ [])) =
      state-at (net_within net levels) with_reset look (s.cell (c ∷ [])) (OfPrimitive p) (net_component_at net k).cells c c cell [] there_here is in
      subst (λ d. stand_for p (kept_at after (cell_number the_source i c)) d × IsState (row_of p).shape d) (sym same) (own_state_carries with_reset resets k i around s look x c cell p there_here is)
  states_carry with_reset resets (e ∷ path) (suc levels) k i lower around s look x h c cell p (outer, child, at, kind, leads) there is =
      let less = child_lower net sound fit k i e outer child x.here at kind in
      let r = states_carry with_reset resets path levels child (cell_number the_source i e) (omega arith) (around_child e (look [])) (below_cell e s) (λ q. look (e ∷ q))
      (situation_below net sound fit built now k i around s look x e outer child at kind) h c cell p leads there is in
      let d : CellState = s.cell (e ∷ path ++ c ∷ []) in
      let same : cell_after with_reset (net_within net (suc levels) k) look (e ∷ path ++ c ∷ []) d ≡ cell_after with_reset (net_within net levels child) (λ q. look (e ∷ q)) (path ++ c ∷ []) d =
      state-at (net_within net levels) with_reset look d (OfComponent child) (net_component_at net k).cells e e outer (path ++ c ∷ []) at kind in
      subst (λ y. stand_for p (kept_at after (number_at the_source (cell_number the_source i e) (path ++ c ∷ []))) y × IsState (row_of p).shape y) (sym same) r

  -- with reset a register is 0
  registers_reset : now.reset ≡ 1 → (path : Path) (h n w : ℕ) → LeadsTo net net.main path h → slice_get (net_component_at net h).registers n ≡ Some w → (after.register (number_at the_source 0 path) (register_name n) ≡ 0) × (0 < 2 ^ w)
  registers_reset resets path h n w leads there =
      let i : ℕ = number_at the_source 0 path in
      let here = placed_at net sound fit net.main 0 path h (main_placed net sound fit) leads in
      let set = subst (λ reset. assigned (acting_sets reset (edge_at the_tree i)) (register_name n) ≡ Some (literal w 0)) (sym resets) (set_with_reset net sound fit h i here n w there) in
      (register_set_to i n (literal w 0) (record { width = w; value = 0 }) set refl, pow_pos w)

  module _ (with_reset go : Bool) (s : NetState) (look : NetLook) (stand : StatesStand net net.main 0 s now.state) (goes : now.go ≡ (if go then 1 else 0)) (resets : now.reset ≡ (if with_reset then 1 else 0))
      (is_whole : IsWholeLook (net_tree net) go s look) where
    main : Situation net sound fit built now net.main 0 (outside go) s look
    main = main_situation net sound fit built now go s look stand goes is_whole

    registers_after : (b : Bool) → now.reset ≡ (if b then 1 else 0) → (path : Path) (h n w : ℕ) → LeadsTo net net.main path h → slice_get (net_component_at net h).registers n ≡ Some w
        → (after.register (number_at the_source 0 path) (register_name n) ≡ (if b then 0 else register_after (net_tree net) (outside go) s look path n)) × ((if b then 0 else register_after (net_tree net) (outside go) s look path n) < 2 ^ w)
    registers_after true is path h n w leads there = registers_reset is path h n w leads there
    registers_after false is path h n w leads there =
        registers_carry is path (length net.components) net.main 0 fit.fits.has_main (outside go) s look main h n w leads there

    pub edge_carries : StatesStand net net.main 0 (net_after (net_tree net) with_reset go s look) after
    edge_carries = record {
      registers = λ path h n w leads there. registers_after with_reset resets path h n w leads there;
      cells = λ path h c cell p leads there is.
          states_carry with_reset resets path (length net.components) net.main 0 fit.fits.has_main (outside go) s look main h c cell p leads there is;
    }

pub edges_carry : (net : PlainNet) → IsFit net → HasNoHoles net → is_sound (source_of net) ≡ true → EdgesCarry net
edges_carry net fits no_holes sound with_reset go s now look text stand goes resets net_whole whole =
    edge_carries net sound (record { fits = fits; no_holes = no_holes }) each_is_built now text whole with_reset go s look stand goes resets net_whole
