-- STATIC INVOKES: what one of the shared design does amiss, that of the design does. The cells that static invokes name share their numbers with
-- no other: what they run is a component, what they capture stands in registers, and their inputs rest on state, as no output of a candidate does.
use Rattle.std.proofs.Common.{◌≡◌, ℕ, suc, ◌<◌, inl, inr, ⊎_elim, Bool, true, false, ◌||◌, List, [], ◌∷◌, length, Some, None, refl, sym, ap, ◌∙◌, subst}
use Rattle.std.specs.List.{list_any}
use Rattle.std.proofs.lemmas.Bool.{both_ways, or_cases}
use Rattle.cx_text.proofs.MemberLaws.{image_in, in_at, number_in, flat_in}
use Rattle.cx_text.specs.Members.{In}
use Rattle.cx_text.proofs.ListLaws.{there_below}
use Rattle.cx_text.specs.declared.places.Place.{Place}
use Rattle.cx_text.specs.declared.rules.Rule.TheVariants as rules
use Rattle.cx_prim.specs.Rows.{Row}
use Rattle.cx_meaning.specs.Rows.{side_of}
use Rattle.cx_meaning.specs.declared.ports.PortRef.{PortRef}
use Rattle.cx_meaning.specs.declared.ports.PortRef.TheVariants as ports
use Rattle.cx_meaning.specs.declared.ports.PlacedPort.{PlacedPort}
use Rattle.cx_meaning.specs.Designs.{Always, PlainAssign, PlainInvoke, PlainComponent, PlainDesign, component_at, group_at, PlainForm, Empty, Enable, Seq, Par, If, While, Repeat, StaticSeq, StaticPar, StaticIf, StaticRepeat, Timed}
use Rattle.cx_meaning.specs.Instances.{Instance, At, OfInstance, part_of, cells_of, cell_at}
use Rattle.cx_meaning.specs.Active.{same_port}
use Rattle.cx_meaning.specs.Control.{targets_cell}
use Rattle.cx_meaning.specs.Sights.{GuardNames}
use Rattle.cx_meaning.proofs.DesignsLemmas.{same_part}
use Rattle.cx_meaning.proofs.InstancesLemmas.{just_true}
use Rattle.cx_rules.specs.Ports.{component_of}
use Rattle.cx_rules.specs.Items.{operands_of, Visited, statements_in}
use Rattle.cx_rules.specs.Footprints.{AssignNames, Rests, registered_rests, output_rests, done_rests, combinational_rests}
use Rattle.cx_rules.specs.Invokes.{invoke_at, invoke_in}
use Rattle.cx_rules.specs.InvokeShape.{latency_at, LeadsToCell, itself, through, input_port, InvokeBreak, another_kind, unbound, restless, fed_back, BreaksInvoke}
use Rattle.cx_rules.specs.Spots.{AStatement}
use Rattle.cx_rules.specs.Accepted.{IsAccepted}
use Rattle.cx_rules.specs.Wellformed.{port_count, IsThere, IsInvoke, IsBind, IsCapture, takes, enables, IsDesign}
use Rattle.cx_rewrites.specs.Moving.{moved_assign}
use Rattle.cx_rewrites.proofs.ReflectLemmas.{names_back}
use Rattle.cx_rewrites.proofs.MovedLists.{some_target-moved, moved_visited}
use Rattle.cx_rewrites.proofs.MovedCalls.{apart_right}
use Rattle.cx_rewrites.proofs.MovedInvokes.{timed_back}
use Rattle.cx_rewrites.proofs.PlaceRules.{ByStatement}
use Rattle.cx_sharing.specs.Uses.{assign_uses, group_uses, is_candidate}
use Rattle.cx_sharing.specs.Giving.{new_cell}
use Rattle.cx_sharing.specs.SharedDesign.{shared_invoke}
use Rattle.cx_sharing.proofs.RowLemmas.{stateless_row}
use Rattle.cx_sharing.proofs.TwinLemmas.{candidate_holds_nothing, part_other}
use Rattle.cx_sharing.proofs.SharedParts.{AtShared, no_cell, a_row, a_part, Shares, new_port, own_always, invoke_back}
use Rattle.cx_sharing.proofs.RestsShared.{HasInputs, stands_for, row_there, read_input, always_apart}
use Rattle.cx_sharing.proofs.StateRules.{restless_back}
use Rattle.cx_sharing.proofs.CallsShared.{cell_apart, sole, part_at, register_is_other}

-- what static invokes run, what their groups that capture use, and what their inputs name, are no candidates
pub record NoneInvoked (part : PlainComponent) : Type 0 where
  pub cells : (w : PlainInvoke) → In part.invokes w → is_candidate part w.cell ≡ false
  pub captures : (w : PlainInvoke) → In part.invokes w → (g c : ℕ) → w.captures ≡ Some g → group_uses part g c ≡ true → is_candidate part c ≡ false
  pub inputs : (w : PlainInvoke) → In part.invokes w → (a : PlainAssign) → In w.inputs a → (c p : ℕ) → AssignNames a (ports.Cell c p) → is_candidate part c ≡ false

-- THE RULE ON STATIC INVOKES
module _ (i j : Instance) (shares : Shares i j) (inputs : HasInputs i) (none : NoneInvoked (part_of i)) where
  abbrev number : ℕ → ℕ
  number = new_cell (part_of i)

  abbrev move : PortRef → PortRef
  move = new_port shares

  leads_back : (e c : ℕ) → LeadsToCell (part_of j) (number e) c → (d : ℕ) × (number d ≡ c) × LeadsToCell (part_of i) e d
  leads_back e c itself = (e, refl, itself)
  leads_back e c (through m p q a leads among target names) =
      let r = leads_back e m leads in
      let x = image_in (moved_assign move) (part_of i).always a (subst (λ list. In list a) (own_always shares) among) in
      let t = stands_for number x.0.target m p (ap (λ (z : PlainAssign). z.target) x.2 ∙ target) in
      let y = names_back move x.0 (ports.Cell c q) (subst (λ (z : PlainAssign). AssignNames z (ports.Cell c q)) (sym x.2) names) in
      let u = stands_for number y.0 c q y.1 in
      let same : t.own ≡ r.0 = always_apart i j shares r.0 t.own p x.0 x.1 t.is (t.number ∙ sym r.1) in
      (u.own, u.number, through r.0 p q x.0 r.2 x.1 (t.is ∙ ap (λ n. ports.Cell n p) same) (subst (AssignNames x.0) u.is y.2))

  break_back : (w : PlainInvoke) → In (part_of i).invokes w → InvokeBreak j (shared_invoke number w) → InvokeBreak i w
  break_back w stands (another_kind e) = another_kind e
  break_back w stands (unbound child n at less missing) =
      let b = part_at i j shares w.cell child at in
      unbound b.child n b.there (subst (λ (x : PlainComponent). n < length x.inputs) b.part less)
      (sym (some_target-moved move (same_port (input_port w.cell n)) (same_port (input_port (number w.cell) n))
      (apart_right move (input_port w.cell n) (cell_apart number w.cell (suc n) (sole (part_of i) w.cell b.other))) w.inputs) ∙ missing)
  break_back w stands (restless a q among names wrong) =
      let x = image_in (moved_assign move) w.inputs a among in
      let y = names_back move x.0 q (subst (λ (z : PlainAssign). AssignNames z q) (sym x.2) names) in
      restless x.0 y.0 x.1 y.2 (restless_back i j shares inputs q y.0 y.1 wrong)
  break_back w stands (fed_back a e p among names leads) =
      let x = image_in (moved_assign move) w.inputs a among in
      let y = names_back move x.0 (ports.Cell e p) (subst (λ (z : PlainAssign). AssignNames z (ports.Cell e p)) (sym x.2) names) in
      let u = stands_for number y.0 e p y.1 in
      let l = leads_back u.own (number w.cell) (subst (λ c. LeadsToCell (part_of j) c (number w.cell)) (sym u.number) leads) in
      fed_back x.0 u.own p x.1 (subst (AssignNames x.0) u.is y.2) (subst (LeadsToCell (part_of i) u.own) (sole (part_of i) w.cell (none.cells w stands) l.0 l.1) l.2)

  pub invoke_break_back : (v : Visited) (place : Place) (name : List ℕ) → BreaksInvoke j (moved_visited move v) place name → ByStatement BreaksInvoke i v
  invoke_break_back v place name (k, w, is, at, broken, told) =
      let x = invoke_back shares k w at in
      (_, _, (k, x.0, timed_back move v.form k is, x.1, break_back x.0 (in_at (part_of i).invokes k x.0 x.1) (subst (InvokeBreak j) (sym x.2) broken), (refl, refl)))

-- AN OUTPUT OF A CANDIDATE rests on no state
module _ (i j : Instance) (shares : Shares i j) (inputs : HasInputs i) where
  no_part : {at to : At} (c : ℕ) (child : Instance) → AtShared (part_of i) c at to → at ≡ OfInstance child → is_candidate (part_of i) c ≡ true → ⊥
  no_part c child no_cell e is = absurd (cc)
  no_part c child (a_row p kind) e is = absurd (cc)
  no_part c child (a_part k own twin kind same) e is = both_ways (is_candidate (part_of i) c) (part_other (part_of i) c k kind) is

  candidate_restless : (c p : ℕ) → is_candidate (part_of i) c ≡ true → p < port_count (cell_at (cells_of i) c) → Rests i (ports.Cell c p) → ⊥
  candidate_restless c p is there (registered_rests row at side) =
      let r = row_there row (shares.cells c) at in
      let few : p < length row.ports = subst (λ x. p < port_count x) at there in
      (stateless_row r.0 (candidate_holds_nothing (part_of i) c r.0 r.1 is)).unregistered p (subst (λ (x : Row). p < length x.ports) (sym r.2) few) (ap (λ x. side_of x p) r.2 ∙ side)
  candidate_restless c p is there (output_rests n child at port) = no_part c child (shares.cells c) at is
  candidate_restless c p is there (done_rests child at port) = no_part c child (shares.cells c) at is
  candidate_restless c p is there (combinational_rests row at side undriven all) = let r = read_input i j shares inputs c p row at is in undriven r.0 r.1 r.2 r.3 r.4 r.5

-- IN AN ACCEPTED DESIGN
timed_of : (form : PlainForm) (k : ℕ) → In (invoke_in form) k → form ≡ Timed k
timed_of Empty k i = absurd i
timed_of (Enable g) k i = absurd i
timed_of (Seq parts) k i = absurd i
timed_of (Par arms) k i = absurd i
timed_of (If test comb a b) k i = absurd i
timed_of (While test comb a) k i = absurd i
timed_of (Repeat count a) k i = absurd i
timed_of (StaticSeq length parts) k i = absurd i
timed_of (StaticPar length arms) k i = absurd i
timed_of (StaticIf length test a b) k i = absurd i
timed_of (StaticRepeat length count a) k i = absurd i
timed_of (Timed n) k (inl same) = ap Timed same
timed_of (Timed n) k (inr i) = absurd i

some_of : {A : Type 0} (test : A → Bool) (list : List A) → list_any test list ≡ true → (x : A) × In list x × (test x ≡ true)
some_of test [] e = absurd (cc)
some_of test (x ∷ xs) e = ⊎_elim (λ h. (x, inl refl, h)) (λ h. let r = some_of test xs h in (r.0, inr r.1, r.2)) (or_cases (test x) (list_any test xs) e)

-- what an assignment without a guard uses is the cell of its target or of its source
bare_uses : (a : PlainAssign) (c : ℕ) → a.guard ≡ Always → assign_uses a c ≡ true → (targets_cell a.target c || (targets_cell a.source.port c || false)) ≡ true
bare_uses a c bare e = ap (λ g. targets_cell a.target c || (targets_cell a.source.port c || list_any (λ (p : PlacedPort). targets_cell p.port c) (operands_of g))) (sym bare) ∙ e

module _ (d : PlainDesign) (design : IsDesign d) (accepted : IsAccepted d) (k : ℕ) (within : k < length d.components) (j : Instance) (shares : Shares (component_of d k) j) (inputs : HasInputs (component_of d k)) where
  abbrev i : Instance
  i = component_of d k

  abbrev part : PlainComponent
  part = part_of i

  part_is : part ≡ component_at d k
  part_is = same_part d (length d.components) k

  own : (w : PlainInvoke) → In part.invokes w → IsInvoke i w
  own w stands = (design.components k within).invokes w (subst (λ (x : PlainComponent). In x.invokes w) part_is stands)

  -- no invoke of a design that is accepted does anything amiss
  nothing_amiss : (w : PlainInvoke) → In part.invokes w → InvokeBreak i w → ⊥
  nothing_amiss w stands broken =
      let here : In (component_at d k).invokes w = subst (λ (x : PlainComponent). In x.invokes w) part_is stands in
      let n = number_in (component_at d k).invokes w here in
      let v = flat_in (λ (x : Visited). invoke_in x.form) (statements_in (component_at d k)) n.0 ((design.components k within).invoked n.0 (within_of n.0 n.1)) in
      let m = number_in (statements_in (component_at d k)) v.0 v.1 in
      accepted.shapes rules.CallShape (record { component = k; part = AStatement m.0 }) v.0.place _ refl
      (inr (inr (inr (record {
        within = within;
        number = m.0;
        is = refl;
        statement = v.0;
        stands = m.1;
        breaks = (n.0, w, timed_of v.0.form n.0 v.2, ap (λ x. invoke_at x n.0) part_is ∙ n.1, broken, (refl, refl));
      }))))
    where
      within_of : (n : ℕ) → invoke_at (component_at d k) n ≡ Some w → n < length (component_at d k).invokes
      within_of n at = there_below (component_at d k).invokes n w at

  dynamic : {at to : At} (c : ℕ) → AtShared part c at to → is_candidate part c ≡ true → latency_at at ≡ None
  dynamic c no_cell is = refl
  dynamic c (a_row p kind) is = refl
  dynamic c (a_part n child twin kind same) is = absurd (both_ways (is_candidate part c) (part_other part c n kind) is)

  -- no candidate, since the other case does not come
  unless : (c : ℕ) → (is_candidate part c ≡ true → ⊥) → is_candidate part c ≡ false
  unless c never = by (is_candidate part c) refl
    where
      by : (b : Bool) → is_candidate part c ≡ b → b ≡ false
      by false e = refl
      by true e = absurd (never e)

  run_none : (w : PlainInvoke) → In part.invokes w → is_candidate part w.cell ≡ false
  run_none w stands = unless w.cell (λ is. nothing_amiss w stands (another_kind ((own w stands).latency ∙ dynamic w.cell (shares.cells w.cell) is)))

  captured_none : (w : PlainInvoke) → In part.invokes w → (c : ℕ) (a : PlainAssign) → IsCapture i w.cell a → assign_uses a c ≡ true → is_candidate part c ≡ false
  captured_none w stands c a (takes r q is target bare source) uses =
      ⊎_elim
      (λ h. ap (is_candidate part) (sym (just_true r c (sym (ap (λ t. targets_cell t c) target) ∙ h))) ∙ register_is_other part r is)
      (λ h. ap (is_candidate part) (sym (just_true w.cell c (sym (ap (λ t. targets_cell t c) source) ∙ or_none (targets_cell a.source.port c) h))) ∙ run_none w stands)
      (or_cases (targets_cell a.target c) (targets_cell a.source.port c || false) (bare_uses a c bare uses))
    where
      or_none : (b : Bool) → (b || false) ≡ true → b ≡ true
      or_none true e = refl
      or_none false e = absurd (cc)
  captured_none w stands c a (enables r is target bare source) uses =
      ⊎_elim
      (λ h. ap (is_candidate part) (sym (just_true r c (sym (ap (λ t. targets_cell t c) target) ∙ h))) ∙ register_is_other part r is)
      (λ h. absurd (let none : (targets_cell a.source.port c || false) ≡ false = ap (λ t. targets_cell t c || false) source in both_ways (targets_cell a.source.port c || false) none h))
      (or_cases (targets_cell a.target c) (targets_cell a.source.port c || false) (bare_uses a c bare uses))

  fed_none : (w : PlainInvoke) → In part.invokes w → (a : PlainAssign) → In w.inputs a → (c p : ℕ) → AssignNames a (ports.Cell c p) → is_candidate part c ≡ false
  fed_none w stands a among c p names =
      let bind : IsBind i w.cell a = (own w stands).inputs a among in
      let is : a.source.port ≡ ports.Cell c p = bare_names bind names in
      let there : p < port_count (cell_at (cells_of i) c) = (subst (IsThere i) is bind.source).1 in
      unless c (λ on. nothing_amiss w stands (restless a (ports.Cell c p) among names (candidate_restless i j shares inputs c p on there)))
    where
      bare_names : IsBind i w.cell a → AssignNames a (ports.Cell c p) → a.source.port ≡ ports.Cell c p
      bare_names bind (inl guarded) = absurd (subst (λ g. GuardNames g (ports.Cell c p)) bind.no_guard guarded)
      bare_names bind (inr e) = e

  pub none_invoked : NoneInvoked part
  none_invoked = record {
    cells = run_none;
    captures = λ w stands g c e uses.
        let a = some_of (λ (x : PlainAssign). assign_uses x c) (group_at part g).assigns uses in captured_none w stands c a.0 (((own w stands).captures g e).assigns a.0 a.1) a.2;
    inputs = fed_none;
  }
