-- What an accepted design gives each node of its tree: the rules of its ports, the groups that it names, targets that have ranks of
-- their own, and tests of one bit.
use Rattle.std.proofs.Common.{◌≡◌, inl, inr, ℕ, zero, suc, ◌+◌, ◌≤◌, false, List, [], ◌∷◌, ◌++◌, length, Option, Some, None, refl, arith}
use Rattle.cx_text.proofs.MemberLaws.{in_left, in_right}
use Rattle.cx_meaning.specs.declared.ports.PortRef.{PortRef}
use Rattle.cx_meaning.specs.declared.ports.PortRef.TheVariants as ports
use Rattle.cx_meaning.specs.declared.ports.PlacedPort.{PlacedPort}
use Rattle.cx_meaning.specs.Designs.{PlainDesign, PlainComponent, no_component, component_at, PlainForm, Empty, Enable, Seq, Par, If, While, Repeat, StaticSeq, StaticPar, StaticIf, StaticRepeat, Timed, PlainStatement, Placed, PlainStatements, no_statements, a_statement}
use Rattle.cx_meaning.specs.Instances.{Instance, cells_of, part_of, Path, tree_within, tree_of, instance_at}
use Rattle.cx_meaning.specs.Active.{Owned, source_order}
use Rattle.cx_text.specs.Members.{In}
use Rattle.cx_meaning.specs.Islands.{group_length}
use Rattle.cx_rules.specs.Items.{Context, Dynamic, below_dynamic, Visited, visit, visit_parts, visit_all, test_in}
use Rattle.cx_rules.specs.Flat.{IsFlat}
use Rattle.cx_rules.specs.Accepted.{IsAccepted}
use Rattle.cx_rules.specs.Wellformed.{IsDesign}
use Rattle.cx_net.specs.Nets.{PlainNetTarget, ToWire, PlainNetDriver}
use Rattle.cx_net.specs.NetMeaning.{same_target}
use Rattle.cx_static.specs.declared.islands.IslandTimer.{IslandTimer}
use Rattle.cx_static.specs.Lowering.{Lowering, after, lowered_enable, lowered_form, lowered, lowered_parts, unlowered, lowered_component}
use Rattle.cx_wiring.specs.Assignments.{target_of, is_driven, driven_assigns}
use Rattle.cx_wiring.specs.Control.{control_drivers}
use Rattle.cx_wiring.specs.Assignments.{assigns_drivers}
use Rattle.cx_wiring.specs.Wiring.{groups, first_of_control, first_of_assigns, bits, plain_wires, plain_drivers}
use Rattle.cx_wiring.specs.Bounds.{AllDrive, IslandsName, StatementNames, AssignsName}
use Rattle.cx_wiring.specs.NetBits.{FormTests, StatementTests, PartsTests}
use Rattle.cx_wiring.proofs.RoomLemmas.{drive_both}
use Rattle.std.proofs.lemmas.Bool.{ne_eqb}
use Rattle.cx_wiring.proofs.ControlTargets.{control_drives}
use Rattle.cx_wiring.proofs.AssignTargets.{assigns_drive_to}
use Rattle.cx_wiring.proofs.NetTargets.{plain_wires_count}
use Rattle.cx_wiring.proofs.DrivenLemmas.{IsProper}
use Rattle.cx_wiring.proofs.ComponentTakes.{IsPlain}
use Rattle.cx_wiring.proofs.DesignNames.{control_named, islands_named, assigns_named, in_filter}
use Rattle.cx_wiring.proofs.WholeInstances.{IsWhole, of_component, of_nothing, instance_whole}
use Rattle.cx_wiring_cycles.proofs.ControlPorts.{OfTimers, control_free}
use Rattle.cx_wiring_cycles.proofs.AssignLaws.{no_port_wire}
use Rattle.cx_wiring_runs.proofs.TimerRules.{TimerRules, timer_rules, no_timer_rules}
use Rattle.cx_wiring_runs.proofs.InstancePorts.{IsTarget, PortRules, port_rules}

-- TARGETS have ranks of their own, and are no wires of rests
module _ (P Q : PlainNetTarget → Type 0) where
  drive_zip : (ds : List PlainNetDriver) → AllDrive P ds → AllDrive Q ds → AllDrive (λ t. P t × Q t) ds
  drive_zip [] h k = tt
  drive_zip (d ∷ ds) h k = ((h.0, k.0), drive_zip ds h.1 k.1)

proper_target : (p : PortRef) → IsTarget p → IsProper (target_of p)
proper_target (ports.Cell c p) is = tt
proper_target (ports.Input n) is = absurd is
proper_target (ports.Output n) is = tt
proper_target (ports.Done g) is = tt
proper_target (ports.Literal w v) is = absurd is

timers_proper : (timers : List IslandTimer) → OfTimers IsProper timers
timers_proper [] = tt
timers_proper (timer ∷ rest) = (tt, timers_proper rest)

module _ (part : PlainComponent) (islands : IslandsName (groups (lowered_component part)) (lowered_component part).islands) (control : StatementNames (groups (lowered_component part)) (lowered part part.control (unlowered part)))
    (targets : (o : Owned) → In (source_order part) o → IsTarget o.assign.target) where
  abbrev Free : PlainNetTarget → Type 0
  Free t = (m : ℕ) → length (plain_wires (lowered_component part)) ≤ m → same_target t (ToWire m) ≡ false

  driven_target : (o : Owned) → In (driven_assigns (lowered_component part)) o → IsTarget o.assign.target
  driven_target o i = targets o (in_filter (is_driven (lowered_component part)) (source_order part) o i)

  free_target : (p : PortRef) → Free (target_of p)
  free_target (ports.Cell c p) m from = refl
  free_target (ports.Input n) m from = refl
  free_target (ports.Output n) m from = refl
  free_target (ports.Done g) m from = refl
  free_target (ports.Literal w v) m from = refl

  abbrev CD : List PlainNetDriver
  CD = control_drivers (groups (lowered_component part)) (lowered_component part).islands (first_of_control (lowered_component part)) (lowered part part.control (unlowered part))

  abbrev AD : List PlainNetDriver
  AD = assigns_drivers (groups (lowered_component part)) (first_of_assigns (lowered_component part)) (driven_assigns (lowered_component part))

  plain_targets : AllDrive (IsPlain (length (plain_wires (lowered_component part)))) (plain_drivers (lowered_component part))
  plain_targets =
      let count : length (plain_wires (lowered_component part)) ≡ groups (lowered_component part) + bits (lowered_component part) = plain_wires_count (lowered_component part) in
      drive_zip IsProper Free (plain_drivers (lowered_component part))
      (drive_both IsProper CD AD
      (control_free IsProper (λ n. tt) (λ n. tt) (λ n. tt) tt (groups (lowered_component part)) (lowered_component part).islands (λ k island e. timers_proper island.timers)
      (first_of_control (lowered_component part)) (lowered part part.control (unlowered part)))
      (assigns_drive_to IsProper (groups (lowered_component part)) (driven_assigns (lowered_component part)) (first_of_assigns (lowered_component part)) (λ o i. proper_target o.assign.target (driven_target o i)) (record { among = λ n l h. tt })))
      (drive_both Free CD AD
      (control_drives Free (λ p m from. no_port_wire m p) (groups (lowered_component part)) (lowered_component part).islands (λ n less m from. ne_eqb n m (λ e. omega arith)) (λ g less m from. refl) islands (λ m from. refl)
      (first_of_control (lowered_component part)) (lowered part part.control (unlowered part)) control (record { wire_in = λ n l h m from. ne_eqb n m (λ e. omega arith); register_in = λ n l h m from. refl }))
      (assigns_drive_to Free (groups (lowered_component part)) (driven_assigns (lowered_component part)) (first_of_assigns (lowered_component part)) (λ o i. free_target o.assign.target) (record { among = λ n l h m from. ne_eqb n m (λ e. omega arith) })))

-- THE NODE of an instance
pub record NodeRules (d : PlainDesign) (i : Instance) : Type 0 where
  pub ports : PortRules d i
  pub islands_named : IslandsName (groups (lowered_component (part_of i))) (lowered_component (part_of i)).islands
  pub control_named : StatementNames (groups (lowered_component (part_of i))) (lowered (part_of i) (part_of i).control (unlowered (part_of i)))
  pub assigns_named : AssignsName (groups (lowered_component (part_of i))) (driven_assigns (lowered_component (part_of i)))
  pub plain : AllDrive (IsPlain (length (plain_wires (lowered_component (part_of i))))) (plain_drivers (lowered_component (part_of i)))
  pub timers : TimerRules (part_of i) (cells_of i)

-- of every instance of an accepted design's tree
pub node_rules : (d : PlainDesign) → IsDesign d → IsFlat d → IsAccepted d → (path : Path) → NodeRules d (instance_at (tree_of d) path)
node_rules d design flat accepted path = by (instance_whole d design path) (port_rules d design flat accepted path)
  where
    by : {i : Instance} → IsWhole d i → PortRules d i → NodeRules d i
    by (of_component m k within) rules = record {
      ports = rules;
      islands_named = islands_named d design k within;
      control_named = control_named d design k within;
      assigns_named = assigns_named d design k within;
      plain = plain_targets (component_at d k) (islands_named d design k within) (control_named d design k within) (λ o i. (rules.assigns o i).is_target);
      timers = timer_rules d design flat accepted k within (tree_within d m) (λ o i. (rules.assigns o i).target);
    }
    by of_nothing rules = record { ports = rules; islands_named = tt; control_named = tt; assigns_named = tt; plain = plain_targets no_component tt tt (λ o i. absurd i); timers = no_timer_rules (λ o i. absurd i) }

-- TESTS of a lowered statement are those of the statement
module _ (part : PlainComponent) (P : PortRef → Type 0) where
  abbrev KeepTests : List Visited → Type 0
  KeepTests vs = (v : Visited) (p : PlacedPort) → In vs v → test_in v.form ≡ Some p → P p.port

  keep_first : (vs more : List Visited) → KeepTests (vs ++ more) → KeepTests vs
  keep_first vs more keep v p i = keep v p (in_left vs more v i)

  keep_rest : (vs more : List Visited) → KeepTests (vs ++ more) → KeepTests more
  keep_rest vs more keep v p i = keep v p (in_right vs more v i)

  enable_tests : (g : ℕ) (o : Option ℕ) (l : Lowering) → FormTests P (lowered_enable part g o l)
  enable_tests g None l = tt
  enable_tests g (Some n) l = tt

  mutual
    form_tests : (form : PlainForm) (context : Context) (l : Lowering) → ((p : PlacedPort) → test_in form ≡ Some p → P p.port) → KeepTests (visit_parts context form) → FormTests P (lowered_form part form l)
    form_tests Empty context l own keep = tt
    form_tests (Enable g) context l own keep = enable_tests g (group_length part g) l
    form_tests (Seq parts) context l own keep = parts_tests parts (below_dynamic context) l keep
    form_tests (Par arms) context l own keep = parts_tests arms (below_dynamic context) l keep
    form_tests (If test comb a b) context l own keep = (
      own test refl,
      (
        statement_tests a (below_dynamic context) l (keep_first (visit (below_dynamic context) a) (visit (below_dynamic context) b) keep),
        statement_tests b (below_dynamic context) (after part a l) (keep_rest (visit (below_dynamic context) a) (visit (below_dynamic context) b) keep),
      ),
    )
    form_tests (While test comb a) context l own keep = (own test refl, statement_tests a (below_dynamic context) l keep)
    form_tests (Repeat zero a) context l own keep = tt
    form_tests (Repeat (suc n) a) context l own keep = statement_tests a (below_dynamic context) l keep
    form_tests (StaticSeq written parts) context l own keep = tt
    form_tests (StaticPar written arms) context l own keep = tt
    form_tests (StaticIf written test a b) context l own keep = tt
    form_tests (StaticRepeat written count a) context l own keep = tt
    form_tests (Timed k) context l own keep = tt

    pub statement_tests : (s : PlainStatement) (context : Context) (l : Lowering) → KeepTests (visit context s) → StatementTests P (lowered part s l)
    statement_tests (Placed form place) context l keep =
        form_tests form context l (λ p e. keep (record { context = context; form = form; place = place }) p (inl refl) e) (λ v p i. keep v p (inr i))

    parts_tests : (ss : PlainStatements) (context : Context) (l : Lowering) → KeepTests (visit_all context ss) → PartsTests P (lowered_parts part ss l)
    parts_tests no_statements context l keep = tt
    parts_tests (a_statement s ss) context l keep =
        (statement_tests s context l (keep_first (visit context s) (visit_all context ss) keep), parts_tests ss context (after part s l) (keep_rest (visit context s) (visit_all context ss) keep))

  -- so tests keep what all tests of a component keep
  pub control_tests : ((v : Visited) (p : PlacedPort) → In (visit Dynamic part.control) v → test_in v.form ≡ Some p → P p.port) → StatementTests P (lowered part part.control (unlowered part))
  control_tests each = statement_tests part.control Dynamic (unlowered part) (λ v p j e. each v p j e)
