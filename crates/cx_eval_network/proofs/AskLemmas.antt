-- The place of a port that is found, and its step.
use Rattle.std.proofs.Common.{◌≡◌, ℕ, ◌+◌, ◌≤◌, ◌<◌, nat_eq, nat_le, Bool, true, false, Option, Some, None, length, refl, sym, ap, ◌∙◌, subst, arith}
use Rattle.std.specs.Prelude.{slice_get, if◌then◌else◌}
use Rattle.cx_prim.specs.Rows.{Row}
use Rattle.cx_prim.specs.declared.ports.PortRow.{PortRow}
use Rattle.cx_meaning.specs.declared.ports.PortRef.TheVariants as ports
use Rattle.cx_meaning.specs.declared.sights.Seen.TheVariants.{Undefined, Value}
use Rattle.cx_meaning.specs.Active as plain
use Rattle.cx_meaning.specs.Designs.{PlainComponent, PlainDesign}
use Rattle.cx_meaning.specs.Instances.{Instance, OfRow, cell_at, cells_of}
use Rattle.cx_meaning.specs.Sights.{unheld}
use Rattle.cx_rules.specs.Ports.{component_of}
use Rattle.cx_rules.specs.Wellformed.{IsThere, port_count}
use Rattle.cx_laws.specs.Widths.{HoldsWidths}
use Rattle.cx_design.specs.declared.actives.Active.{Active}
use Rattle.cx_design.specs.declared.actives.Active.TheVariants as actives
use Rattle.cx_design.specs.PlainActives.{plain_active}
use Rattle.cx_state.specs.States.{inputs_held}
use Rattle.cx_design_parts.proofs.ReadLemmas.{component_cells}
use Rattle.cx_eval_network.specs.declared.numbering.NodePort.{NodePort}
use Rattle.cx_eval_network.specs.declared.numbering.Nodes.{Nodes}
use Rattle.cx_eval_network.specs.Nodes.{IsAt, IsPortOf, first_node, found_at, part_at}
use Rattle.cx_eval_network.proofs.FoundLemmas.{found_is}
use Rattle.cx_eval_network.specs.Networks as networks
use Rattle.cx_eval_network.specs.Networks.{Asked, IsNetwork, active_at, below_at, held_at, leads_of, look_at, path_at, seen_at, value_at}
use Rattle.cx_eval_network.proofs.NetworkLemmas.{same_instance}
use Rattle.cx_eval_network.specs.Asked.{CanAsk, active_in}
use Rattle.cx_eval_network.specs.Askings.{IsFound, asked_of}
use Rattle.cx_eval_network.specs.declared.asking.Asking.{Asking}
use Rattle.cx_text.proofs.NumberLaws.{from_eq}
use Rattle.cx_prim.proofs.PortsLemmas.{port_below}
use Rattle.cx_rules.proofs.PortsLemmas.{part_is as component_part}
use Rattle.cx_meaning.proofs.CycleLemmas.{row_within}

pub active_there : (a : Asked) (active : Active) (k : ℕ) → a.active ≡ plain_active (networks.instance_of a a.instance) active → (i : Instance) → i ≡ networks.instance_of a k
    → plain_active i (active_in a.instance active k) ≡ active_at a k
active_there a active k is i e = choice (nat_eq k a.instance) refl
  where
    choice : (b : Bool) → nat_eq k a.instance ≡ b → plain_active i (if b then active else actives.Nothing) ≡ (if b then a.active else plain.nothing)
    choice true f = ap (λ j. plain_active j active) (e ∙ ap (networks.instance_of a) (from_eq k a.instance f)) ∙ sym is
    choice false f = refl

pub held_wide : (a : Asked) (k : ℕ) (part : PlainComponent) → HoldsWidths part (inputs_held a.state k) → HoldsWidths part (held_at a k)
held_wide a k part wide = choice (nat_eq k a.instance)
  where
    choice : (b : Bool) → HoldsWidths part (if b then inputs_held a.state k else unheld)
    choice true = wide
    choice false = λ n x e. absurd (let no : Undefined ≡ Value x = e in cc)

pub is_there : (d : PlainDesign) (k c n : ℕ) (row : Row) (port : PortRow) → k < length d.components → cell_at (cells_of (component_of d k)) c ≡ OfRow row → slice_get row.ports n ≡ Some port
    → IsThere (component_of d k) (ports.Cell c n)
is_there d k c n row port lt e f = (
  subst (λ (part : PlainComponent). c < length part.cells) (sym (component_part d k)) (subst (λ m. c < m) (component_cells d k lt) (row_within (cells_of (component_of d k)) c row e)),
  subst (λ at. n < port_count at) (sym e) (port_below row.ports n port f),
)

-- what is found and asked is found there
pub found_asked : (a : Asked) (nodes : Nodes) → IsNetwork a nodes → (node : ℕ) (found : NodePort) → networks.asked_port a (found_at nodes node) ≡ Some found → IsFound a found
found_asked a nodes h node found e = choice (found_at nodes node) (found_is a.design a.rows nodes h.numbered node) e
  where
    le_true : (m n : ℕ) → nat_le m n ≡ true → m ≤ n
    le_true m n e = grind arith

    choose : (x : NodePort) → IsAt a.design a.rows node x → (b : Bool) → nat_le a.instance x.instance ≡ b → networks.if_asked a b x ≡ Some found → IsFound a found
    choose x at true f g = subst (IsFound a) (same g) (record { from = le_true a.instance x.instance f; within = at.within; component = at.component; number = at.number })
      where
        same : Some x ≡ Some found → x ≡ found
        same e = cc
    choose x at false f g = absurd (cc)

    choice : (o : Option NodePort) → IsPortOf a.design a.rows node o → networks.asked_port a o ≡ Some found → IsFound a found
    choice None at g = absurd (cc)
    choice (Some x) at g = choose x at (nat_le a.instance x.instance) refl g

-- and at its node
pub asked_at : (a : Asked) (nodes : Nodes) → IsNetwork a nodes → (node : ℕ) (found : NodePort) → networks.asked_port a (found_at nodes node) ≡ Some found → first_node a.design a.rows found.instance + found.number ≡ node
asked_at a nodes h node found e = choice (found_at nodes node) (found_is a.design a.rows nodes h.numbered node) e
  where
    choose : (x : NodePort) → IsAt a.design a.rows node x → (b : Bool) → networks.if_asked a b x ≡ Some found → first_node a.design a.rows found.instance + found.number ≡ node
    choose x at true g = subst (λ y. first_node a.design a.rows y.instance + y.number ≡ node) (same g) at.is
      where
        same : Some x ≡ Some found → x ≡ found
        same e = cc
    choose x at false g = absurd (cc)

    choice : (o : Option NodePort) → IsPortOf a.design a.rows node o → networks.asked_port a o ≡ Some found → first_node a.design a.rows found.instance + found.number ≡ node
    choice None at g = absurd (cc)
    choice (Some x) at g = choose x at (nat_le a.instance x.instance) g

module _ (asking : Asking) (can : CanAsk (asked_of asking) asking.nodes.now) (found : NodePort) (f : IsFound (asked_of asking) found) where
  abbrev a : Asked
  a = asked_of asking

  pub there : networks.instance_of a found.instance ≡ part_at a.design a.rows found.instance
  there = same_instance a asking.nodes.now can.network found.instance f.within
