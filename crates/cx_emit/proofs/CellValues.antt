-- What stands at the ports of a primitive cell stands at its module's, and its outputs have the values of the row.
use Rattle.std.proofs.Common.{◌≡◌, ℕ, suc, ◌+◌, ◌<◌, ◌≤◌, true, List, [], length, map, Option, Some, None, option_map, slice_get, refl, ap, sym, ◌∙◌, subst, arith}
use Rattle.std.specs.Prelude.{IsSome, unwrap_or}
use Rattle.std.proofs.lemmas.Nat.{pow_pos}
use Rattle.std.proofs.lemmas.Option.{slice_get-map}
use Rattle.cx_bits.specs.BitVector.{BitVector, zero_of}
use Rattle.cx_prim.specs.CellStates.{CellState, IsState}
use Rattle.cx_prim.specs.declared.ports.PortRow.{PortRow}
use Rattle.cx_prim.specs.Rows.{Inputs, Row, input, is_output_side, IsOfWidth, IsLawful}
use Rattle.cx_prim.specs.Table.{PrimitiveRow, row_of}
use Rattle.cx_prim.proofs.TableLaws.{row_of_lawful}
use Rattle.cx_meaning.specs.Designs.{OfPrimitive, PlainCell}
use Rattle.cx_vtree.specs.Plain.{PlainPort, PlainModule}
use Rattle.cx_vtree.specs.InstanceTree.{Placed}
use Rattle.cx_vtree.specs.Meaning.{Moment, HasValue}
use Rattle.cx_vtree.specs.Sound.{is_sound}
use Rattle.cx_vmods.specs.Modules.{port_of}
use Rattle.cx_vmods.specs.Built.{kept_at, port_net, Stands, IsAt, zero_at, IsBuilt}
use Rattle.cx_net.specs.Nets.{PlainNet}
use Rattle.cx_emit.specs.Names.{cell_port_name, primitive_name}
use Rattle.cx_emit.specs.Signatures.{primitive_module, kind_ports}
use Rattle.cx_emit.specs.Sources.{source_of}
use Rattle.cx_emit.specs.Places.{cell_number}
use Rattle.cx_vmods.specs.Laws.{EachIsBuilt}
use Rattle.cx_emit.specs.Fits.{IsFlat, stand_for}
use Rattle.cx_emit.proofs.Evals.{value_tied}
use Rattle.cx_emit.proofs.Standing.{tree, comp, IsPlaced, ports_of_cell, IsCell, primitive_placed, primitive_fits}
use Rattle.cx_emit.proofs.Origins.{port_is_wide, cell_input_tied, cell_output_ties}
use Rattle.cx_net.proofs.GatherLemmas.{input_within}
use Rattle.cx_text.proofs.ListLaws.{there_at}
use Rattle.cx_vlaws.proofs.ExpressionWidths.{IsWide}

-- a net of an instance has this value, which is this wide
abbrev pub Carried : List Placed → Moment → ℕ → List ℕ → ℕ → BitVector → Type 0
Carried tree now i name w v = HasValue tree now i name v × IsOfWidth w v

pub zero_fits : (w : ℕ) → IsWide w → IsOfWidth w (zero_of w)
zero_fits w wide =
    let more = wide.0 in
    let some : 1 ≤ w = omega arith in
    record { same_width = refl; fits = record { some_bits = some; few_bits = wide.1; in_range = pow_pos w } }

module _ (net : PlainNet) (sound : is_sound (source_of net) ≡ true) (fit : IsFlat net) (built : EachIsBuilt) (now : Moment) (k i c : ℕ) (cell : PlainCell) (p : PrimitiveRow)
    (here : IsPlaced net sound fit k i) (there : slice_get (comp net sound fit k).cells c ≡ Some cell) (is : cell.kind ≡ OfPrimitive p) (h : IsCell net sound fit k i c cell) where
  abbrev the_tree : List Placed
  the_tree = tree net sound fit

  abbrev row : Row
  row = row_of p

  abbrev pub its_module : PlainModule
  its_module = primitive_module p

  abbrev j : ℕ
  j = cell_number (source_of net) i c

  lawful : IsLawful row
  lawful = row_of_lawful p

  pub is_built : IsBuilt its_module row (stand_for p)
  is_built = built p (primitive_name p) (primitive_fits net sound fit k i c cell p here there is)

  pub cell_stands : Stands its_module the_tree j
  cell_stands = record { inner = h.inner; placed = h.place; there = h.at; is = primitive_placed net sound fit k i c cell p here there is h }

  -- the ports of the text
  pub text_port : (n : ℕ) (port : PortRow) → slice_get row.ports n ≡ Some port → slice_get (ports_of_cell net sound fit cell) n ≡ Some (port_of port)
  text_port n port at = subst (λ kind. slice_get (kind_ports net kind).ports n ≡ Some (port_of port)) (sym is) (slice_get-map port_of row.ports n ∙ ap (option_map port_of) at)

  net_of_port : (n : ℕ) (port : PortRow) → slice_get row.ports n ≡ Some port → port_net its_module n ≡ (port_of port).name
  net_of_port n port at =
      let place : n + 2 ≡ suc (suc n) = omega arith in
      ap (λ q. unwrap_or (slice_get (map (λ (x : PlainPort). x.name) its_module.ports) q) []) place
      ∙ ap (λ o. unwrap_or o []) (slice_get-map (λ (x : PlainPort). x.name) (map port_of row.ports) n ∙ ap (option_map (λ (x : PlainPort). x.name)) (slice_get-map port_of row.ports n ∙ ap (option_map port_of) at))

  -- with these values at its ports the instance is in this state
  pub inputs_stand : (state : CellState) (inputs : Inputs) → stand_for p (kept_at now.state j) state → IsState row.shape state → length inputs ≡ length row.ports
      → ((n : ℕ) (port : PortRow) (x : BitVector) → slice_get row.ports n ≡ Some port → input inputs n ≡ Some x → Carried the_tree now i (cell_port_name c n) port.width x)
      → IsAt its_module row (stand_for p) the_tree now j state inputs
  inputs_stand state inputs holds of_row count carried = record {
    stands = cell_stands;
    holds = holds;
    of_row = of_row;
    fits = record { count = count; widths = λ n port x at e. (carried n port x at e).1.same_width };
    values = λ n x e.
        let within = input_within inputs n x e in
        let (port, at) = there_at row.ports n (subst (λ l. n < l) count within) in
        (carried n port x at e).1.fits;
    given = λ n port x at inward e.
        subst (λ name. HasValue the_tree now j name x) (sym (net_of_port n port at))
        (value_tied the_tree now j (port_of port).name i (cell_port_name c n) x (cell_input_tied net sound fit k i here c cell there n (port_of port) (text_port n port at) h inward) (carried n port x at e).0);
  }

  zero_same : (n : ℕ) (port : PortRow) → slice_get row.ports n ≡ Some port → zero_at row n ≡ zero_of port.width
  zero_same n port at = ap (λ o. record { width = unwrap_or o 1; value = 0 }) (slice_get-map (λ (x : PortRow). x.width) row.ports n ∙ ap (option_map (λ (x : PortRow). x.width)) at)

  -- an output of the cell, as soon as what it reads has values
  pub output_carried : (state : CellState) (inputs : Inputs) → IsAt its_module row (stand_for p) the_tree now j state inputs → (n : ℕ) (port : PortRow) → slice_get row.ports n ≡ Some port
      → is_output_side port.side ≡ true → ((q : ℕ) → row.reads n q ≡ true → IsSome (input inputs q))
      → Carried the_tree now i (cell_port_name c n) port.width (unwrap_or (row.output state inputs n) (zero_of port.width))
  output_carried state inputs at_row n port at outward reads =
      let has = is_built.outputs the_tree now j n state inputs at_row (port, at, outward) reads in
      let zero_is = zero_same n port at in
      let named : HasValue the_tree now j (port_of port).name (unwrap_or (row.output state inputs n) (zero_of port.width)) =
      subst (λ name. HasValue the_tree now j name (unwrap_or (row.output state inputs n) (zero_of port.width))) (net_of_port n port at)
      (subst (λ z. HasValue the_tree now j (port_net its_module n) (unwrap_or (row.output state inputs n) z)) zero_is has) in (
        value_tied the_tree now i (cell_port_name c n) j (port_of port).name _ (cell_output_ties net sound fit k i here c cell there n (port_of port) (text_port n port at) h outward) named,
        go (row.output state inputs n) refl,
      )
    where
      go : (o : Option BitVector) → row.output state inputs n ≡ o → IsOfWidth port.width (unwrap_or o (zero_of port.width))
      go None e = zero_fits port.width (port_is_wide net sound fit k i here c cell there n (port_of port) (text_port n port at))
      go (Some b) e = lawful.widths state inputs n port b at_row.of_row at_row.fits at_row.values at outward e
