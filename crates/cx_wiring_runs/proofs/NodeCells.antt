-- What an accepted design gives the cells of each node: rows are lawful, nothing continuous enables a primitive or drives a component
-- cell. So in a cycle in which no group goes each primitive makes its idle step and no child has go.
use Rattle.std.proofs.Common.{◌≡◌, ℕ, ◌+◌, ◌<◌, ◌^◌, inl, inr, ⊎_elim, true, false, [], ◌∷◌, length, Option, Some, None, refl, ap, ◌∙◌, subst, arith}
use Rattle.cx_text.proofs.MemberLaws.{number_in}
use Rattle.cx_bits.specs.BitVector.{BitVector}
use Rattle.cx_prim.specs.declared.ports.Side.TheVariants as sides
use Rattle.cx_prim.specs.Rows.{Row, IsLawful}
use Rattle.cx_prim.proofs.TableLaws.{row_of_lawful}
use Rattle.cx_meaning.specs.declared.ports.PortRef.TheVariants as ports
use Rattle.cx_meaning.specs.Rows.{side_of}
use Rattle.cx_meaning.specs.Designs.{PlainComponent, PlainDesign, no_component, component_at, group_at}
use Rattle.cx_meaning.specs.Instances as instances
use Rattle.cx_meaning.specs.Instances.{Instance, Cells, At, OfRow, OfInstance, part_of, cells_of, cell_at, Path, tree_of, instance_at}
use Rattle.cx_meaning.specs.Active.{Owned, source_order}
use Rattle.cx_text.specs.Members.{In}
use Rattle.cx_meaning.specs.Control.{group_drives}
use Rattle.cx_rules.specs.Items.{Visited, statements_in, is_plain}
use Rattle.cx_rules.specs.LimitRule.{OnRepeat, word_of, count_in, is_too_many}
use Rattle.cx_rules.proofs.LimitRuleLemmas.{over_repeat}
use Rattle.cx_rules.specs.Spots.{AStatement}
use Rattle.cx_text.specs.declared.rules.Rule.TheVariants.{Limit}
use Rattle.cx_text.specs.declared.limits.TheConstants.{REPETITIONS}
use Rattle.std.proofs.lemmas.Bool.{cases_lt, le-leb}
use Rattle.cx_rules.specs.Flat.{IsFlat}
use Rattle.cx_rules.specs.Accepted.{IsAccepted}
use Rattle.cx_rules.specs.Ports.{component_of}
use Rattle.cx_rules.specs.Wellformed.{IsForm, IsDesign, port_count}
use Rattle.cx_rules.proofs.ItemsLemmas.{bare_form}
use Rattle.cx_frames.specs.Rests.{IsUndriven}
use Rattle.cx_frames.proofs.RuleLemmas.{kept_instance}
use Rattle.cx_control.proofs.InstanceLemmas.{instance_rows}
use Rattle.cx_control.proofs.BesideLemmas.{StandsFor, of_component, of_nothing, instance_stands, keeps_calls}
use Rattle.cx_control.proofs.ShapeLemmas.{none_outside, plain_if_driven}
use Rattle.cx_control.proofs.DesignRules.{instance_part}
use Rattle.cx_net.specs.NetMeaning.{NetState, NetLook, NetAround, APort, AHole, truth_bit, around_child}
use Rattle.cx_net.specs.NetEdges.{inputs_from}
use Rattle.cx_control.specs.Numbers.{number_idle}
use Rattle.cx_wiring.specs.PartNets.{wired_in, timers_of}
use Rattle.cx_wiring_runs.proofs.NodeRules.{NodeRules}
use Rattle.cx_wiring_runs.specs.Blocks.{block, block_below, Solves, HasGo, IsIdle, Idles, BlockLaws, after_edge}
use Rattle.cx_wiring_runs.specs.PortValues.{active_now, WiresSolve}
use Rattle.cx_wiring_runs.proofs.NodePorts.{port_stands}
use Rattle.cx_wiring_runs.proofs.WireSolves.{wires_solve}
use Rattle.cx_wiring_runs.proofs.CellEdges as edges
use Rattle.cx_wiring_runs.proofs.NodeIdles.{OwesIdle, node_idles}
use Rattle.cx_meaning.proofs.DesignsLemmas.{same_part}

pub record CellRules (i : Instance) : Type 0 where
  pub lawful : (c : ℕ) (row : Row) → cell_at (cells_of i) c ≡ OfRow row → IsLawful row
  pub no_enable : (o : Owned) (c p : ℕ) (row : Row) → In (source_order (part_of i)) o → o.owner ≡ None → o.assign.target ≡ ports.Cell c p → cell_at (cells_of i) c ≡ OfRow row → side_of row p ≡ sides.Enable → ⊥
  pub no_part : (o : Owned) (c p : ℕ) (child : Instance) → In (source_order (part_of i)) o → o.owner ≡ None → o.assign.target ≡ ports.Cell c p → cell_at (cells_of i) c ≡ OfInstance child → ⊥
  -- plain groups alone drive component cells, and the group of a test is a comb group
  pub plain_part : (g c : ℕ) (child : Instance) → cell_at (cells_of i) c ≡ OfInstance child → group_drives (part_of i) g c ≡ true → is_plain (group_at (part_of i) g).kind ≡ true
  pub forms : (v : Visited) → In (statements_in (part_of i)) v → IsForm (part_of i) v.form
  -- rounds are numbers of 32 bits
  pub rounds : (v : Visited) → In (statements_in (part_of i)) v → (n : ℕ) → count_in v.form ≡ Some n → n < 2 ^ 32

-- of every instance of an accepted design's tree
pub cell_rules : (d : PlainDesign) → IsDesign d → IsFlat d → IsAccepted d → (path : Path) → CellRules (instance_at (tree_of d) path)
cell_rules d design flat accepted path = record {
  lawful = λ c row at. let p = instance_rows d path c row at in subst IsLawful p.1 (row_of_lawful p.0);
  no_enable = λ o c p row i owner target at side. (kept_instance d design accepted path).quiet o c p row i owner target at side;
  no_part = λ o c p child i owner target at. outside (instance_stands d path) o c p child i owner target at;
  plain_part = λ g c child at drives. plain_if_driven d accepted path g c child at drives;
  forms = instance_part d design accepted (λ part. (v : Visited) → In (statements_in part) v → IsForm part v.form) (λ k within v i. subst (λ part. IsForm part v.form) (same_part d (length d.components) k) ((design.components k within).statements v i).form) bare_form path;
  rounds = instance_part d design accepted (λ part. (v : Visited) → In (statements_in part) v → (n : ℕ) → count_in v.form ≡ Some n → n < 2 ^ 32) (λ k within v i n e. few k within v i n e) (λ v i n e. no_rounds v i n e) path;
}
  where
    outside : StandsFor d (instance_at (tree_of d) path) → (o : Owned) (c p : ℕ) (child : Instance) → In (source_order (part_of (instance_at (tree_of d) path))) o → o.owner ≡ None → o.assign.target ≡ ports.Cell c p
        → cell_at (cells_of (instance_at (tree_of d) path)) c ≡ OfInstance child → ⊥
    outside (of_component k l beside) o c p child i owner target at =
        none_outside (instance_at (tree_of d) path) (component_of d k) (keeps_calls d accepted k l (instance_at (tree_of d) path) beside) o (subst (λ part. In (source_order part) o) beside.same i) owner c p child target at
    outside (of_nothing none) o c p child i owner target at = subst (λ (part : PlainComponent). In (source_order part) o) none i

    -- too many rounds break the limit
    few : (k : ℕ) → k < length d.components → (v : Visited) → In (statements_in (component_at d k)) v → (n : ℕ) → count_in v.form ≡ Some n → n < 2 ^ 32
    few k within v i n e =
        ⊎_elim
        (λ l. l)
        (λ l. let m = number_in (statements_in (component_at d k)) v i in
        let over : is_too_many (count_in v.form) ≡ true = ap is_too_many e ∙ le-leb REPETITIONS n l in
        absurd (accepted.limits Limit (record { component = k; part = AStatement m.0 }) v.place (word_of OnRepeat) refl
        (inr (inr (inl (record {
          within = within;
          number = m.0;
          is = refl;
          statement = v;
          stands = m.1;
          breaks = (OnRepeat, over_repeat (component_of d k) v over, (refl, refl));
        }))))))
        (cases_lt n (2 ^ 32))

    no_rounds : (v : Visited) → In (statements_in no_component) v → (n : ℕ) → count_in v.form ≡ Some n → n < 2 ^ 32
    no_rounds v (inl same) n e = none (ap (λ (x : Visited). count_in x.form) same ∙ e)
      where
        none : {A : Type 0} → ◌≡◌ {A = Option ℕ} None (Some n) → A
        none f = absurd cc
    no_rounds v (inr i) n e = absurd i

module _ (d : PlainDesign) (numbers : Instance → NetState → ℕ → ℕ) (part : PlainComponent) (cells : Cells) (rules : NodeRules d (instances.Node part cells)) (own : CellRules (instances.Node part cells)) where
  module _ (v : NetState) (around : NetAround) (look : NetLook) (solves : Solves (block (wired_in d) timers_of numbers (instances.Node part cells)) around v look) where
    wires : WiresSolve (instances.Node part cells) around v look
    wires = wires_solve d numbers part cells rules around v look solves

    pub port_known : (c p : ℕ) (at : At) → cell_at cells c ≡ at → p < port_count at → (x : BitVector) × (look [] (APort (ports.Cell c p)) ≡ Some x)
    port_known c p at is less = solves.whole [] (APort (ports.Cell c p)) (port_stands d numbers part cells c p at is less)

    -- A PRIMITIVE that no group drives which goes
    pub row_waits : (c : ℕ) (row : Row) → cell_at cells c ≡ OfRow row → IsUndriven part (active_now (instances.Node part cells) around v look) c
        → row.next (v.cell (c ∷ [])) (inputs_from look c 0 row.ports) ≡ row.idle (v.cell (c ∷ []))
    row_waits c row at undriven =
        edges.row_idles (instances.Node part cells) around v look c row at (λ p less. port_known c p (OfRow row) at less) wires (own.lawful c row at) undriven
        (λ o p i owner target side. own.no_enable o c p row i owner target at side)

    -- A CHILD that none drives
    pub child_waits : (c : ℕ) (child : Instance) → cell_at cells c ≡ OfInstance child → IsUndriven part (active_now (instances.Node part cells) around v look) c
        → HasGo (block_below (wired_in d) timers_of numbers cells (timers_of part) c) (around_child c (look [])) false
    child_waits c child at undriven =
        edges.no_go (instances.Node part cells) around v look c child at (port_known c 0 (OfInstance child) at (omega arith)) wires undriven (λ o i owner target. own.no_part o c 0 child i owner target at)

    -- WHERE NO GROUP GOES
    pub owes_idle : ((n : ℕ) → numbers (instances.Node part cells) (after_edge (block (wired_in d) timers_of numbers (instances.Node part cells)) around v look) n ≡ number_idle (instances.Node part cells) n (numbers (instances.Node part cells) v n))
        → ((g : ℕ) → g < length part.groups → look [] (AHole (length part.groups + g)) ≡ Some (truth_bit false)) → OwesIdle (wired_in d) timers_of numbers part cells v around look
    owes_idle own_numbers stopped = record {
      own = own_numbers;
      rows = λ c row at. row_waits c row at (edges.none_drives (instances.Node part cells) around v look stopped c);
      no_go = λ c child at. child_waits c child at (edges.none_drives (instances.Node part cells) around v look stopped c);
    }

  -- THE IDLE EDGE of a node, where its control gives what it owes
  pub record ControlWaits : Type 0 where
    pub numbers_idle : (v : NetState) (around : NetAround) (look : NetLook) → IsIdle (block (wired_in d) timers_of numbers (instances.Node part cells)) around v → Solves (block (wired_in d) timers_of numbers (instances.Node part cells)) around v look
        → (n : ℕ) → numbers (instances.Node part cells) (after_edge (block (wired_in d) timers_of numbers (instances.Node part cells)) around v look) n ≡ number_idle (instances.Node part cells) n (numbers (instances.Node part cells) v n)
    pub none_goes : (v : NetState) (around : NetAround) (look : NetLook) → IsIdle (block (wired_in d) timers_of numbers (instances.Node part cells)) around v → Solves (block (wired_in d) timers_of numbers (instances.Node part cells)) around v look
        → (g : ℕ) → g < length part.groups → look [] (AHole (length part.groups + g)) ≡ Some (truth_bit false)

  pub idles_of_control : ControlWaits → ((c : ℕ) (child : Instance) → cell_at cells c ≡ OfInstance child → BlockLaws (block_below (wired_in d) timers_of numbers cells (timers_of part) c))
      → Idles (block (wired_in d) timers_of numbers (instances.Node part cells))
  idles_of_control waits children =
      node_idles (wired_in d) timers_of numbers part cells children (λ v around look idle solves. owes_idle v around look solves (waits.numbers_idle v around look idle solves) (waits.none_goes v around look idle solves))
