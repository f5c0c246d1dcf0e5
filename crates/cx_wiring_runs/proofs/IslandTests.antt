-- The ports of the static ifs that begin in a cycle of an island have in the net what the machine takes, where it has no fault: they rest on
-- state, so no group that goes disturbs them.
use Rattle.std.proofs.Common.{◌≡◌, ◌⊎◌, inl, inr, ℕ, zero, suc, ◌+◌, ◌-◌, ◌%◌, Bool, true, false, if◌then◌else◌, List, [], ◌∷◌, Option, Some, None, unwrap_or, refl, sym, ap, ◌∙◌, subst}
use Rattle.std.specs.Prelude.{nat_lt}
use Rattle.cx_text.proofs.MemberLaws.{in_either, in_left, in_right}
use Rattle.cx_text.specs.Members.{In}
use Rattle.cx_text.specs.declared.places.Place.{Place}
use Rattle.cx_bits.specs.BitVector.{BitVector, zero_of}
use Rattle.cx_prim.specs.Rows.{Row}
use Rattle.cx_meaning.specs.declared.ports.PortRef.{PortRef}
use Rattle.cx_meaning.specs.declared.ports.PortRef.TheVariants as ports
use Rattle.cx_meaning.specs.declared.ports.PlacedPort.{PlacedPort}
use Rattle.cx_meaning.specs.declared.sights.Seen.{Seen}
use Rattle.cx_meaning.specs.declared.sights.Seen.TheVariants.{Value, Conflict, Undefined}
use Rattle.cx_meaning.specs.Designs.{PlainComponent, PlainDesign, PlainForm, Empty, Enable, Seq, Par, If, While, Repeat, StaticSeq, StaticPar, StaticIf, StaticRepeat, Timed, PlainStatement, Placed, PlainStatements, no_statements, a_statement}
use Rattle.cx_meaning.specs.Instances.{Instance, Node, Cells, OfRow, OfInstance, cell_at}
use Rattle.cx_meaning.specs.Active.{nothing, entries}
use Rattle.cx_meaning.specs.Truths.{truth_of, truth_of_bit}
use Rattle.cx_meaning.specs.Sights.{Look, Sees, seen}
use Rattle.cx_meaning.specs.Cycles.{Ended, Fault, cycle}
use Rattle.cx_meaning.specs.Control.{groups_of}
use Rattle.cx_meaning.specs.Islands.{length_of, is_one, fault_of, first_unclear, unless_unclear}
use Rattle.cx_rules.specs.Items.{Context, Dynamic, InStatic, Branch, Visited, visit, visit_all, statements_in, test_in}
use Rattle.cx_rules.specs.ShapeRules.{is_hole}
use Rattle.cx_rules.specs.Footprints.{Reads, tested, at_once, by_way_of}
use Rattle.cx_rules.proofs.FoundLemmas.{seen_found}
use Rattle.cx_laws.specs.Positions.{no_port, port_at}
use Rattle.cx_laws.specs.Samples.{Samples, says, ifs_of, form_by, statement_by, while_by, parts_by, arms_by, begun_by, active_by}
use Rattle.cx_laws.proofs.VisitLemmas.{visited}
use Rattle.cx_control.specs.Flows.{Values, Reaches, is_set}
use Rattle.cx_lockstep.specs.Worlds.{Machine}
use Rattle.cx_control.specs.Spots.{Cell, Kept, cells_in, held_in}
use Rattle.cx_control.specs.Leaves.{Coded, Cycle, turn_faults, sampled_now, island_faults}
use Rattle.cx_control.specs.Controls.{coded_control}
use Rattle.cx_control.specs.Standing.{RestsAt, bare}
use Rattle.cx_control.specs.InstanceRules.{Stands}
use Rattle.cx_control.specs.ControlRules.{ControlRules}
use Rattle.cx_net.specs.Nets.{OfPort}
use Rattle.cx_net.specs.NetMeaning.{NetState, NetLook, NetAround, is_true, registers_of}
use Rattle.cx_wiring.specs.PartNets.{wired_in, timers_of, net_of_cells}
use Rattle.cx_wiring.specs.Takings.{value}
use Rattle.cx_wiring.proofs.TakingLemmas.{true_bit}
use Rattle.cx_wiring_runs.proofs.SeamRules.{SeamRules}
use Rattle.cx_wiring_runs.specs.Blocks.{block, Solves, FitsInputs}
use Rattle.cx_wiring_runs.specs.PortValues.{port_value}
use Rattle.cx_wiring_runs.proofs.NodePorts.{bit_says}
use Rattle.cx_wiring_runs.proofs.SeamFlows.{Nearby, reach_reads, rested_seen}
use Rattle.cx_wiring_runs.proofs.NodeSeam.{NodeRest}
use Rattle.cx_rules.proofs.ItemsLemmas.{tests_flat}

-- A PORT THAT BEGINS is the test of a static if of the island
record IsTest (visits : List Visited) (port : PortRef) : Type 0 where
  at : Visited
  is_in : In visits at
  written : Option ℕ
  test : PlacedPort
  then_branch : PlainStatement
  else_branch : PlainStatement
  form : at.form ≡ StaticIf written test then_branch else_branch
  port_is : test.port ≡ port

wider : (xs ys : List Visited) (port : PortRef) → ((v : Visited) → In xs v → In ys v) → IsTest xs port → IsTest ys port
wider xs ys port within t =
    record { at = IsTest.at t; is_in = within (IsTest.at t) (IsTest.is_in t); written = IsTest.written t; test = IsTest.test t; then_branch = IsTest.then_branch t; else_branch = IsTest.else_branch t; form = IsTest.form t; port_is = IsTest.port_is t }

in_one : (b : Bool) (xs ys : List PortRef) (p : PortRef) → In (if b then xs else ys) p → In xs p ⊎ In ys p
in_one true xs ys p i = inl i
in_one false xs ys p i = inr i

in_some : (b : Bool) (xs : List PortRef) (p : PortRef) → In (if b then xs else []) p → In xs p
in_some true xs p i = i
in_some false xs p i = absurd i

begun_port : (port p : PortRef) (j : ℕ) → In (port_at port j) p → port ≡ p
begun_port port p zero (inl e) = e
begun_port port p zero (inr none) = absurd none
begun_port port p (suc j) i = absurd i

module _ (part : PlainComponent) (kept : Samples) (port : PortRef) where
  abbrev By : PlainForm → ℕ → ℕ → List PortRef
  By form n j = form_by part kept no_port port_at form n j

  in_branches : (c : Context) (written : Option ℕ) (test : PlacedPort) (a b : PlainStatement) (place : Place) (n j : ℕ) → (In (while_by part kept no_port port_at a (suc n) j) port → IsTest (visit Branch a) port)
      → (In (while_by part kept no_port port_at b (suc n + ifs_of a) j) port → IsTest (visit Branch b) port)
      → In (port_at test.port j) port ⊎ In (if kept n then while_by part kept no_port port_at a (suc n) j else while_by part kept no_port port_at b (suc n + ifs_of a) j) port → IsTest (visit c (Placed (StaticIf written test a b) place)) port
  in_branches c written test a b place n j first second (inl k) =
      record { at = record { context = c; form = StaticIf written test a b; place = place }; is_in = inl refl; written = written; test = test; then_branch = a; else_branch = b; form = refl; port_is = begun_port test.port port j k }
  in_branches c written test a b place n j first second (inr k) =
      branch (in_one (kept n) (while_by part kept no_port port_at a (suc n) j) (while_by part kept no_port port_at b (suc n + ifs_of a) j) port k)
    where
      branch : In (while_by part kept no_port port_at a (suc n) j) port ⊎ In (while_by part kept no_port port_at b (suc n + ifs_of a) j) port → IsTest (visit c (Placed (StaticIf written test a b) place)) port
      branch (inl m) = wider (visit Branch a) (visit c (Placed (StaticIf written test a b) place)) port (λ v u. inr (in_left (visit Branch a) (visit Branch b) v u)) (first m)
      branch (inr m) = wider (visit Branch b) (visit c (Placed (StaticIf written test a b) place)) port (λ v u. inr (in_right (visit Branch a) (visit Branch b) v u)) (second m)

  in_two : (c : Context) (s : PlainStatement) (ss : PlainStatements) (xs ys : List PortRef) → (In xs port → IsTest (visit c s) port) → (In ys port → IsTest (visit_all c ss) port) → In xs port ⊎ In ys port → IsTest (visit_all c (a_statement s ss)) port
  in_two c s ss xs ys first second (inl k) = wider (visit c s) (visit_all c (a_statement s ss)) port (λ v m. in_left (visit c s) (visit_all c ss) v m) (first k)
  in_two c s ss xs ys first second (inr k) = wider (visit_all c ss) (visit_all c (a_statement s ss)) port (λ v m. in_right (visit c s) (visit_all c ss) v m) (second k)

  mutual
    form_begun : (form : PlainForm) (place : Place) (c : Context) (n j : ℕ) → In (form_by part kept no_port port_at form n j) port → IsTest (visit c (Placed form place)) port
    form_begun Empty place c n j i = absurd i
    form_begun (Enable g) place c n j i = absurd i
    form_begun (Seq parts) place c n j i = absurd i
    form_begun (Par arms) place c n j i = absurd i
    form_begun (If test comb a b) place c n j i = absurd i
    form_begun (While test comb a) place c n j i = absurd i
    form_begun (Repeat count a) place c n j i = absurd i
    form_begun (StaticSeq written parts) place c n j i = wider (visit_all InStatic parts) (visit c (Placed (StaticSeq written parts) place)) port (λ v k. inr k) (parts_begun parts InStatic n j i)
    form_begun (StaticPar written arms) place c n j i = wider (visit_all InStatic arms) (visit c (Placed (StaticPar written arms) place)) port (λ v k. inr k) (arms_begun arms InStatic n j i)
    form_begun (StaticIf written test a b) place c n j i =
        in_branches c written test a b place n j (while_begun a Branch (suc n) j) (while_begun b Branch (suc n + ifs_of a) j)
        (in_either (port_at test.port j) (if kept n then while_by part kept no_port port_at a (suc n) j else while_by part kept no_port port_at b (suc n + ifs_of a) j) port i)
    form_begun (StaticRepeat written count a) place c n j i = wider (visit InStatic a) (visit c (Placed (StaticRepeat written count a) place)) port (λ v k. inr k) (statement_begun a InStatic n (j % length_of part a) i)
    form_begun (Timed k) place c n j i = absurd i

    statement_begun : (s : PlainStatement) (c : Context) (n j : ℕ) → In (statement_by part kept no_port port_at s n j) port → IsTest (visit c s) port
    statement_begun (Placed form place) c n j i = form_begun form place c n j i

    while_begun : (s : PlainStatement) (c : Context) (n j : ℕ) → In (while_by part kept no_port port_at s n j) port → IsTest (visit c s) port
    while_begun (Placed form place) c n j i = form_begun form place c n j (in_some (nat_lt j (length_of part (Placed form place))) (form_by part kept no_port port_at form n j) port i)

    parts_begun : (ss : PlainStatements) (c : Context) (n j : ℕ) → In (parts_by part kept no_port port_at ss n j) port → IsTest (visit_all c ss) port
    parts_begun no_statements c n j i = absurd i
    parts_begun (a_statement s ss) c n j i =
        in_two c s ss (statement_by part kept no_port port_at s n j) (parts_by part kept no_port port_at ss (n + ifs_of s) (j - length_of part s)) (statement_begun s c n j) (parts_begun ss c (n + ifs_of s) (j - length_of part s))
        (in_one (nat_lt j (length_of part s)) (statement_by part kept no_port port_at s n j) (parts_by part kept no_port port_at ss (n + ifs_of s) (j - length_of part s)) port i)

    arms_begun : (ss : PlainStatements) (c : Context) (n j : ℕ) → In (arms_by part kept no_port port_at ss n j) port → IsTest (visit_all c ss) port
    arms_begun no_statements c n j i = absurd i
    arms_begun (a_statement s ss) c n j i =
        in_two c s ss (while_by part kept no_port port_at s n j) (arms_by part kept no_port port_at ss (n + ifs_of s) j) (while_begun s c n j) (arms_begun ss c (n + ifs_of s) j)
        (in_either (while_by part kept no_port port_at s n j) (arms_by part kept no_port port_at ss (n + ifs_of s) j) port i)

hole_test : (x : PortRef) {g : ℕ} → x ≡ ports.Done g → is_hole x ≡ false → ⊥
hole_test x e f = let no_such = sym (ap is_hole e) ∙ f in cc

-- where none is unclear each is a value
all_clear : (look : Look) (ps : List PortRef) → first_unclear look ps ≡ None → (p : PortRef) → In ps p → (b : BitVector) × (look p ≡ Value b)
all_clear look [] e p i = absurd i
all_clear look (q ∷ ps) e p i = by (look q) refl e i (λ g j. all_clear look ps g p j)
  where
    none_some : (f : Fault) → ◌≡◌ {A = Option Fault} (Some f) None → ⊥
    none_some f g = cc

    by : (x : Seen) → look q ≡ x → fault_of q x (first_unclear look ps) ≡ None → In (q ∷ ps) p → (first_unclear look ps ≡ None → In ps p → (b : BitVector) × (look p ≡ Value b)) → (b : BitVector) × (look p ≡ Value b)
    by (Value b) f g (inl same) later = (b, ap look (sym same) ∙ f)
    by (Value b) f g (inr j) later = later g j
    by Conflict f g j later = absurd (none_some _ g)
    by Undefined f g j later = absurd (none_some _ g)

says_bit : (b : Bool) → is_one (truth_of_bit b) ≡ b
says_bit true = refl
says_bit false = refl

module _ (d : PlainDesign) (numbers : Instance → NetState → ℕ → ℕ) (part : PlainComponent) (cells : Cells) (rules : SeamRules d (Node part cells)) (control : ControlRules (Node part cells)) (around : NetAround) (v : NetState) (look : NetLook)
    (solves : Solves (block (wired_in d) timers_of numbers (Node part cells)) around v look) (s : Kept) (same : (c : ℕ) (row : Row) → cell_at cells c ≡ OfRow row → v.cell (c ∷ []) ≡ s (Cell (c ∷ [])))
    (fits : FitsInputs (block (wired_in d) timers_of numbers (Node part cells)) s around) (p : Machine.Place (Coded.machine (coded_control (Node part cells)))) (seam : NodeRest part cells around v look s p)
    (form : PlainForm) (place : Place) (stands : Stands (Node part cells) (Placed form place)) (rests : (c : ℕ) (child : Instance) → Reads part (Placed form place) c → cell_at cells c ≡ OfInstance child → RestsAt cells c (bare s)) where
  abbrev V : Values
  V = port_value (Node part cells) around v look

  abbrev R : ℕ → Option BitVector
  R = registers_of (wired_in d part) (net_of_cells (wired_in d) timers_of numbers cells (timers_of part)) around v (look []) (λ c. look (c ∷ []))

  -- A STATIC IF of the island
  module _ (port : PortRef) (t : IsTest (visit Dynamic (Placed form place)) port) where
    stands_in : In (statements_in part) (IsTest.at t)
    stands_in = visited Dynamic part.control (record { context = Dynamic; form = form; place = place }) (IsTest.at t) stands (IsTest.is_in t)

    has : test_in (IsTest.at t).form ≡ Some (IsTest.test t)
    has = ap test_in (IsTest.form t)

    -- what its port reaches the island reads
    no_own : (g o : ℕ) → nothing.offset g ≡ Some o → In (groups_of (Placed form place)) g
    no_own g o e = absurd cc

    from_port : (q : PortRef) → (IsTest.test t).port ≡ q → (c m : ℕ) → Reaches (Node part cells) nothing q (ports.Cell c m) → Reads part (Placed form place) c
    from_port (ports.Cell x y) e c m reach =
        reach_reads d numbers part cells rules around v look solves (cells_in s) same (Placed form place) nothing no_own x y
        (tested y (IsTest.test t) (tests_flat (visit Dynamic (Placed form place)) (IsTest.at t) (IsTest.test t) (IsTest.is_in t) has) e) c m reach
    from_port (ports.Input n) e c m (inl f) = absurd cc
    from_port (ports.Input n) e c m (inr (at_once l)) = absurd l
    from_port (ports.Input n) e c m (inr (by_way_of r l deeper)) = absurd l
    from_port (ports.Output n) e c m reach = absurd (rules.kept.tests (IsTest.at t) (IsTest.test t) n stands_in has e)
    from_port (ports.Done g) e c m reach = let no_hole = (rules.node.ports.tests (IsTest.at t) (IsTest.test t) stands_in has).named.no_hole in absurd (hole_test (IsTest.test t).port e no_hole)
    from_port (ports.Literal w n) e c m (inl f) = absurd cc
    from_port (ports.Literal w n) e c m (inr (at_once l)) = absurd l
    from_port (ports.Literal w n) e c m (inr (by_way_of r l deeper)) = absurd l

    near : Nearby d numbers part cells rules around v look solves (cells_in s) same (held_in s) nothing (λ c m. Reaches (Node part cells) nothing (IsTest.test t).port (ports.Cell c m))
    near = record {
      inputs = fits;
      outputs = λ c q n child b reach at port_is sees.
          seam.child_seen c (λ e path k. (rests c child (from_port (IsTest.test t).port refl c q reach) at).numbers_rest (e ∷ path) k) q n child b at port_is sees;
      dones = λ c q child reach at port_is. seam.rests_done c child (rests c child (from_port (IsTest.test t).port refl c q reach) at) at;
    }

    test_value : (b : BitVector) → seen (Node part cells) (held_in s) nothing (cells_in s) (IsTest.test t).port ≡ Value b → V (IsTest.test t).port ≡ b
    test_value b e =
        rested_seen d numbers part cells rules around v look solves (cells_in s) same (held_in s) nothing (IsTest.test t).port
        (rules.rests.tests (IsTest.at t) (IsTest.written t) (IsTest.test t) (IsTest.then_branch t) (IsTest.else_branch t) stands_in (IsTest.form t)) near b
        (subst (Sees (Node part cells) (held_in s) nothing (cells_in s) (IsTest.test t).port) e
        (seen_found (Node part cells) (held_in s) nothing (cells_in s) (control.rules.circles).0 (control.rules.circles).1 (IsTest.test t).port))

    test_says : (b : BitVector) → seen (Node part cells) (held_in s) nothing (cells_in s) (IsTest.test t).port ≡ Value b
        → is_true (unwrap_or (value around R (look []) (OfPort (IsTest.test t).port)) (zero_of 1)) ≡ says (seen (Node part cells) (held_in s) nothing (cells_in s)) (IsTest.test t).port
    test_says b e =
        let kept = rules.node.ports.tests (IsTest.at t) (IsTest.test t) stands_in has in
        ap (λ o. is_true (unwrap_or o (zero_of 1))) (bit_says d numbers part cells rules.node.ports around v look solves (IsTest.test t).port kept.named kept.one_bit) ∙ true_bit (is_set (V (IsTest.test t).port))
        ∙ ap is_set (test_value b e) ∙ sym (ap (λ x. is_one (truth_of x)) e ∙ says_bit (is_set b))

  -- THE PORTS THAT BEGIN in a cycle of the island
  pub begun_seen : (t : ℕ) (kept : Samples) → island_faults (Node part cells) form (Cycle t kept) s ≡ false → (port : PortRef) → In (begun_by part (sampled_now (Node part cells) form t kept s) t form) port
      → is_true (unwrap_or (value around R (look []) (OfPort port)) (zero_of 1)) ≡ says (seen (Node part cells) (held_in s) nothing (cells_in s)) port
  begun_seen t kept fine port i =
      let test = form_begun part (sampled_now (Node part cells) form t kept s) port form place Dynamic 0 t i in
      let b = all_clear (seen (Node part cells) (held_in s) nothing (cells_in s)) (begun_by part (sampled_now (Node part cells) form t kept s) t form)
      (clear (first_unclear (seen (Node part cells) (held_in s) nothing (cells_in s)) (begun_by part (sampled_now (Node part cells) form t kept s) t form))
      (cycle (Node part cells) (held_in s) (entries (active_by part (sampled_now (Node part cells) form t kept s) t form)) (cells_in s)) fine) port i in
      subst (λ q. is_true (unwrap_or (value around R (look []) (OfPort q)) (zero_of 1)) ≡ says (seen (Node part cells) (held_in s) nothing (cells_in s)) q) (IsTest.port_is test)
      (test_says port test b.0 (ap (seen (Node part cells) (held_in s) nothing (cells_in s)) (IsTest.port_is test) ∙ b.1))
    where
      clear : (o : Option Fault) (e : Ended) → turn_faults (unless_unclear o e) ≡ false → o ≡ None
      clear None e f = refl
      clear (Some fault) e f = absurd (true_not f)
        where
          true_not : true ≡ false → ⊥
          true_not g = cc
