-- The cells of a node in one cycle in which its ports solve their equations: what a primitive looks at is what stands at its ports, a
-- primitive that no group drives which goes makes its idle step, and a component cell that none drives has no go.
use Rattle.std.proofs.Common.{◌≡◌, ℕ, suc, ◌+◌, ◌<◌, false, ◌&&◌, if◌then◌else◌, List, [], ◌∷◌, length, Some, None, unwrap_or, refl, sym, ap, ◌∙◌, arith}
use Rattle.std.proofs.lemmas.Bool.{lt-ltb}
use Rattle.cx_bits.specs.BitVector.{BitVector, zero_of as zero_wide}
use Rattle.cx_prim.specs.declared.ports.PortRow.{PortRow}
use Rattle.cx_prim.specs.declared.ports.Side.TheVariants as sides
use Rattle.cx_prim.specs.Rows.{Row, IsLawful}
use Rattle.cx_meaning.specs.declared.ports.PortRef.TheVariants as ports
use Rattle.cx_meaning.specs.Rows.{side_of}
use Rattle.cx_meaning.specs.Designs.{group_at}
use Rattle.cx_meaning.specs.Instances.{Instance, OfRow, OfInstance, part_of, cells_of, cell_at}
use Rattle.cx_meaning.specs.Active.{Owned, source_order, drivers, offset_of}
use Rattle.cx_text.specs.Members.{In}
use Rattle.cx_meaning.specs.Islands.{group_length}
use Rattle.cx_rules.specs.Ports.{width_of}
use Rattle.cx_rules.proofs.ForeignLemmas.{assigns_drive_in, acting_none, OwnerOf, continuous, of_group, owner_of}
use Rattle.cx_frames.specs.Rests.{IsUndriven}
use Rattle.cx_control.specs.Flows.{zero_of, first_on, given, cell_flow}
use Rattle.cx_control.proofs.CellLemmas.{idle_step}
use Rattle.cx_net.specs.NetMeaning.{NetState, NetLook, NetAround, APort, AHole, is_true, truth_bit}
use Rattle.cx_net.specs.NetEdges.{inputs_from}
use Rattle.cx_static.specs.Lowering.{lowered_component}
use Rattle.cx_wiring.specs.Assignments.{owner_drives}
use Rattle.cx_wiring_runs.specs.PortValues.{has_port, around_of, value_beyond, port_value, own_offset, offset_now, active_now, WiresSolve}
use Rattle.cx_meaning.proofs.DesignsLemmas.{driver_there}

module _ (i : Instance) (around : NetAround) (s : NetState) (look : NetLook) where
  -- where no group goes none drives a cell
  pub none_drives : ((g : ℕ) → g < length (part_of i).groups → look [] (AHole (length (part_of i).groups + g)) ≡ Some (truth_bit false)) → (c : ℕ) → IsUndriven (part_of i) (active_now i around s look) c
  none_drives stopped c g drives =
      ap (λ o. if is_true (unwrap_or o (zero_of (Some 1))) && owner_drives (lowered_component (part_of i)) (Some g) then Some (own_offset (group_length (part_of i) g) (offset_now i around s look g)) else None) (stopped g (driver_there (part_of i) g c drives))

  -- what a primitive looks at
  module _ (c : ℕ) (row : Row) (at : cell_at (cells_of i) c ≡ OfRow row) (known : (p : ℕ) → p < length row.ports → (x : BitVector) × (look [] (APort (ports.Cell c p)) ≡ Some x)) where
    one_given : (p w : ℕ) → p < length row.ports → unwrap_or (look [] (APort (ports.Cell c p))) (zero_wide w) ≡ port_value i around s look (ports.Cell c p)
    one_given p w less =
        let k = known p less in
        ap (λ o. unwrap_or o (zero_wide w)) k.1 ∙ sym (ap (λ o. unwrap_or o (zero_of None)) k.1)
        ∙ sym (ap (λ b. if b then unwrap_or (look [] (APort (ports.Cell c p))) (zero_of None) else value_beyond i around s look c p (cell_at (cells_of i) c)) (ap (λ x. has_port x p) at ∙ lt-ltb p (length row.ports) less))

    all_given : (list : List PortRow) (p : ℕ) → p + length list ≡ length row.ports → inputs_from look c p list ≡ given (port_value i around s look) c p list
    all_given [] p there = refl
    all_given (port ∷ list) p there =
        let less : p < length row.ports = omega arith in
        let later : suc p + length list ≡ length row.ports = omega arith in
        ap (λ x. Some x ∷ inputs_from look c (suc p) list) (one_given p port.width less) ∙ ap (λ xs. Some (port_value i around s look (ports.Cell c p)) ∷ xs) (all_given list (suc p) later)

    pub inputs_given : inputs_from look c 0 row.ports ≡ given (port_value i around s look) c 0 row.ports
    inputs_given = all_given row.ports 0 (omega arith)

    -- A PRIMITIVE that none drives
    pub row_idles : WiresSolve i around s look → IsLawful row → IsUndriven (part_of i) (active_now i around s look) c
        → ((o : Owned) (p : ℕ) → In (source_order (part_of i)) o → o.owner ≡ None → o.assign.target ≡ ports.Cell c p → side_of row p ≡ sides.Enable → ⊥)
        → row.next (s.cell (c ∷ [])) (inputs_from look c 0 row.ports) ≡ row.idle (s.cell (c ∷ []))
    row_idles solves lawful undriven bare =
        ap (row.next (s.cell (c ∷ []))) inputs_given
        ∙ idle_step i (active_now i around s look) (λ path. s.cell path) (around_of i around s look) (port_value i around s look) solves c row at lawful undriven bare

  -- A COMPONENT CELL that none drives
  module _ (c : ℕ) (child : Instance) (at : cell_at (cells_of i) c ≡ OfInstance child) (known : (x : BitVector) × (look [] (APort (ports.Cell c 0)) ≡ Some x)) where
    no_driver : IsUndriven (part_of i) (active_now i around s look) c → ((o : Owned) → In (source_order (part_of i)) o → o.owner ≡ None → o.assign.target ≡ ports.Cell c 0 → ⊥)
        → drivers (part_of i) (active_now i around s look) (ports.Cell c 0) ≡ []
    no_driver undriven bare = acting_none (active_now i around s look) (ports.Cell c 0) (source_order (part_of i)) (λ o stands target. by o stands target (owner_of (part_of i) o stands))
      where
        by : (o : Owned) → In (source_order (part_of i)) o → o.assign.target ≡ ports.Cell c 0 → OwnerOf (part_of i) o → offset_of (active_now i around s look) o.owner ≡ None
        by o stands target (continuous owner there) = absurd (bare o stands owner target)
        by o stands target (of_group g owner there) = ap (offset_of (active_now i around s look)) owner ∙ undriven g (assigns_drive_in (group_at (part_of i) g).assigns o.assign c 0 there target)

    pub go_stands : look [] (APort (ports.Cell c 0)) ≡ Some (port_value i around s look (ports.Cell c 0))
    go_stands =
        known.1 ∙ ap Some (sym (ap (λ o. unwrap_or o (zero_of None)) known.1)
        ∙ sym (ap (λ b. if b then unwrap_or (look [] (APort (ports.Cell c 0))) (zero_of None) else value_beyond i around s look c 0 (cell_at (cells_of i) c))
        (ap (λ x. has_port x 0) at ∙ lt-ltb 0 (2 + length (part_of child).inputs + length (part_of child).outputs) (omega arith))))

    pub no_go : WiresSolve i around s look → IsUndriven (part_of i) (active_now i around s look) c → ((o : Owned) → In (source_order (part_of i)) o → o.owner ≡ None → o.assign.target ≡ ports.Cell c 0 → ⊥)
        → (x : BitVector) × (look [] (APort (ports.Cell c 0)) ≡ Some x) × (is_true x ≡ false)
    no_go solves undriven bare = (
      zero_of (width_of i (ports.Cell c 0)),
      go_stands ∙ ap Some (solves (ports.Cell c 0) ∙ ap (cell_flow i (active_now i around s look) (λ path. s.cell path) (around_of i around s look) (port_value i around s look) c 0) at
          ∙ ap (first_on (port_value i around s look) (zero_of (width_of i (ports.Cell c 0)))) (no_driver undriven bare)),
      refl,
    )
