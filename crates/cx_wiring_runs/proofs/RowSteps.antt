-- The enabling ports of a primitive in the net: 0 where no group goes that drives them but comb groups.
use Rattle.std.proofs.Common.{◌≡◌, ◌⊎◌, inl, inr, ℕ, true, [], ◌∷◌, None, ap, ◌∙◌}
use Rattle.cx_bits.specs.BitVector.{BitVector}
use Rattle.cx_prim.specs.Rows.{Row}
use Rattle.cx_prim.specs.declared.ports.Side.TheVariants as sides
use Rattle.cx_meaning.specs.declared.ports.PortRef.TheVariants as ports
use Rattle.cx_meaning.specs.Rows.{side_of}
use Rattle.cx_meaning.specs.Designs.{PlainComponent, PlainDesign, group_at}
use Rattle.cx_meaning.specs.Instances.{Instance, Node, Cells, OfRow, cell_at}
use Rattle.cx_meaning.specs.Active.{Active, Owned, source_order, offset_of, drivers}
use Rattle.cx_text.specs.Members.{In}
use Rattle.cx_meaning.specs.Control.{group_drives}
use Rattle.cx_rules.specs.Items.{is_comb}
use Rattle.cx_rules.specs.Ports.{width_of}
use Rattle.cx_rules.proofs.ForeignLemmas.{assigns_drive_in, acting_none, OwnerOf, continuous, of_group, owner_of}
use Rattle.cx_control.specs.Flows.{Values, zero_of, first_on, side_flow, cell_flow}
use Rattle.cx_control.specs.Spots.{Cell, Kept, cells_in}
use Rattle.cx_net.specs.NetMeaning.{NetState, NetLook, NetAround}
use Rattle.cx_wiring.specs.PartNets.{wired_in, timers_of}
use Rattle.cx_wiring_runs.proofs.SeamRules.{SeamRules}
use Rattle.cx_wiring_runs.specs.Blocks.{block, Solves}
use Rattle.cx_wiring_runs.specs.PortValues.{around_of, port_value, active_now}
use Rattle.cx_wiring_runs.proofs.SeamFlows.{st_solves}

module _ (d : PlainDesign) (numbers : Instance → NetState → ℕ → ℕ) (part : PlainComponent) (cells : Cells) (rules : SeamRules d (Node part cells)) (around : NetAround) (v : NetState) (look : NetLook)
    (solves : Solves (block (wired_in d) timers_of numbers (Node part cells)) around v look) (s : Kept) (same : (c : ℕ) (row : Row) → cell_at cells c ≡ OfRow row → v.cell (c ∷ []) ≡ s (Cell (c ∷ [])))
    (c : ℕ) (row : Row) (at : cell_at cells c ≡ OfRow row) where
  abbrev V : Values
  V = port_value (Node part cells) around v look

  abbrev Now : Active
  Now = active_now (Node part cells) around v look

  pub enable_flow : (q : ℕ) → side_of row q ≡ sides.Enable → V (ports.Cell c q) ≡ first_on V (zero_of (width_of (Node part cells) (ports.Cell c q))) (drivers part Now (ports.Cell c q))
  enable_flow q side =
      st_solves d numbers part cells rules around v look solves (cells_in s) same (ports.Cell c q)
      ∙ ap (cell_flow (Node part cells) (active_now (Node part cells) around v look) (cells_in s) (around_of (Node part cells) around v look) V c q) at
      ∙ ap (side_flow (Node part cells) (active_now (Node part cells) around v look) (cells_in s) (around_of (Node part cells) around v look) V row c q) side

  -- WHERE NO GROUP GOES THAT ENABLES IT it idles
  pub enable_low : ((h : ℕ) → group_drives part h c ≡ true → (Now.offset h ≡ None) ⊎ (is_comb (group_at part h).kind ≡ true)) → (q : ℕ) → side_of row q ≡ sides.Enable → (V (ports.Cell c q)).value ≡ 0
  enable_low free q side = ap (λ (b : BitVector). b.value) (enable_flow q side ∙ ap (first_on V (zero_of (width_of (Node part cells) (ports.Cell c q)))) (acting_none Now (ports.Cell c q) (source_order part) (λ o j target. by o j target (owner_of part o j))))
    where
      by : (o : Owned) → In (source_order part) o → o.assign.target ≡ ports.Cell c q → OwnerOf part o → offset_of Now o.owner ≡ None
      by o j target (continuous owner there) = absurd (rules.kept.quiet o c q row j owner target at side)
      by o j target (of_group h owner there) = of_free (free h (assigns_drive_in (group_at part h).assigns o.assign c q there target))
        where
          of_free : (Now.offset h ≡ None) ⊎ (is_comb (group_at part h).kind ≡ true) → offset_of Now o.owner ≡ None
          of_free (inl none) = ap (offset_of Now) owner ∙ none
          of_free (inr comb) = absurd (rules.rests.combs o h c q row j owner comb target at side)
