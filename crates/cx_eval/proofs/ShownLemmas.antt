-- What ports of the asked instance are seen as that have no node.
use Rattle.std.proofs.Common.{◌≡◌, ◌≢◌, ℕ, ◌<◌, Bool, length, Option, Some, None, sym, ap, ◌∙◌, subst}
use Rattle.std.specs.Prelude.{if◌then◌else◌}
use Rattle.cx_meaning.specs.declared.ports.PortRef.{PortRef}
use Rattle.cx_meaning.specs.declared.ports.PortRef.TheVariants as ports
use Rattle.cx_meaning.specs.declared.sights.Seen.TheVariants.{Undefined, Value}
use Rattle.cx_meaning.specs.Instances.{tree_of}
use Rattle.cx_rules.specs.Wellformed.{IsThere}
use Rattle.cx_state.specs.States.{under_path}
use Rattle.cx_state.specs.ReadStates.{state_in}
use Rattle.cx_eval_network.specs.declared.numbering.Nodes.{Nodes}
use Rattle.cx_eval_network.specs.Nodes.{node_at}
use Rattle.cx_eval_network.proofs.NodeLemmas.{ports_have}
use Rattle.cx_eval_network.specs.Networks.{Asked, IsNetwork, active_at, held_at, instance_of, literal_seen, path_at, seen_at}
use Rattle.cx_eval_network.proofs.NetworkLemmas.{number_at, same_instance}
use Rattle.cx_eval.specs.Evaluated.{IsKept, IsPort}
use Rattle.cx_meaning.proofs.InstancesLemmas.{literal_is}

no_node : (node : ℕ) (o : Option ℕ) → o ≡ Some node → o ≡ None → ⊥
no_node node o e f = cc

module _ (a : Asked) (nodes : Nodes) (h : IsNetwork a nodes) (within : a.instance < length a.rows) where
  abbrev n : ℕ
  n = a.instance

  -- a port without a node is a literal, which the rules accept
  pub literal_shown : (p : PortRef) → IsPort a.design n p → node_at a.design a.rows n p ≡ None → literal_seen p ≡ seen_at a n p
  literal_shown p port none = by p (port (path_at a.design n) (number_at a nodes h n within)) none
    where
      other : (p : PortRef) → IsThere (instance_of a n) p → ((w v : ℕ) → p ≢ ports.Literal w v) → node_at a.design a.rows n p ≡ None → ⊥
      other p there differs none =
          let r = ports_have a.design a.rows n p (subst (λ i. IsThere i p) (same_instance a nodes h n within) there) differs in
          no_node r.0 (node_at a.design a.rows n p) r.1 none

      by : (p : PortRef) → IsThere (instance_of a n) p × IsKept p → node_at a.design a.rows n p ≡ None → literal_seen p ≡ seen_at a n p
      by (ports.Cell c q) there none = absurd (other (ports.Cell c q) there.0 (λ w v e. cc) none)
      by (ports.Input k) there none = absurd (other (ports.Input k) there.0 (λ w v e. cc) none)
      by (ports.Output k) there none = absurd (other (ports.Output k) there.0 (λ w v e. cc) none)
      by (ports.Done g) there none = absurd (other (ports.Done g) there.0 (λ w v e. cc) none)
      by (ports.Literal w v) there none =
          ap (λ (b : Bool). if b then Value (record { width = w; value = v }) else Undefined) there.1
          ∙ sym (literal_is (instance_of a n) (held_at a n) (active_at a n) (under_path (path_at a.design n) (state_in (tree_of a.design) a.state)) w v)
