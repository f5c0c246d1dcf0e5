-- THE HOLE OF A GROUP THAT CAPTURES: it is 0 where what the group drives rests, and 1 where that is as the capture cycle left it.
use Rattle.std.proofs.Common.{◌≡◌, ℕ, suc, ◌+◌, ◌-◌, ◌⊎◌, inl, inr, Bool, true, false, ◌&&◌, ◌||◌, nat_eq, List, [], ◌∷◌, Option, Some, None, length, if◌then◌else◌, refl, sym, ap, ◌∙◌, subst, arith}
use Rattle.std.specs.Prelude.{slice_get, map}
use Rattle.std.proofs.lemmas.Bool.{eqb-true, le-ltb}
use Rattle.cx_text.specs.Members.{In}
use Rattle.cx_prim.specs.Rows.{Row, is_enable_side}
use Rattle.cx_prim.specs.RegisterRow.{register_output, register_row}
use Rattle.cx_meaning.specs.declared.ports.PortRef.{PortRef}
use Rattle.cx_meaning.specs.declared.ports.PortRef.TheVariants as ports
use Rattle.cx_meaning.specs.declared.sights.Seen.TheVariants.{Value}
use Rattle.cx_meaning.specs.Rows.{side_of}
use Rattle.cx_meaning.specs.Designs.{PlainGuard, Always, Atom, Negation, All, Any, Compared, Within, PlainAssign, PlainCell, PlainComponent, group_at}
use Rattle.cx_meaning.specs.Instances.{Instance, Cells, At, Nothing, OfRow, OfInstance, cell_at, cells_of, part_of, State, under, idle_at}
use Rattle.cx_meaning.specs.Active.{Active, Owned, group, capture, same_port, source_order, drivers}
use Rattle.cx_meaning.specs.Truths.{One, truth_of}
use Rattle.cx_meaning.specs.Sights.{Look, Held, AnInput, AnOutput, ItsDone, part_port, output_port, bit_of, of_option, guard_truth, target_seen, cell_step, part_step, seen, outputs_below}
use Rattle.cx_meaning.specs.Cycles.{Goes, cycle}
use Rattle.cx_meaning.specs.Islands.{is_one}
use Rattle.cx_meaning.specs.Calls.{enables_at, enables_primitive, captures_in}
use Rattle.cx_rules.specs.ShapeRules.{some_target}
use Rattle.cx_rules.specs.Circles.{IsAcyclic, AcyclicBelow}
use Rattle.cx_rules.specs.CallShape.{done_port, write_en_of, register_done, is_reg_kind, is_register_cell, is_register, one, is_atom, is_always, is_right_enable, is_register_enable, with_target, captured, wanted_dones, conjuncts, are_dones, is_right_done_assign, is_right_done}
use Rattle.cx_rules.proofs.FoundLemmas.{same_is, seen_solves}
use Rattle.cx_frames.proofs.CircleFrames.{capture_acyclic}
use Rattle.cx_control.proofs.LeafLaws.{is_one_of}
use Rattle.cx_control.proofs.ConjunctLemmas.{conjuncts_hold, conjunction_holds, AreOnce, wanted_are_in, wanted_are_all}
use Rattle.cx_control.proofs.TargetLemmas.{TakenFrom, target_one, target_all, in_filter, of_filter, group_acts, ActsAlone, acts_alone}
use Rattle.cx_control.proofs.RegisterLemmas.{set, rest_is_not_done, written_is_done, cycle_steps, Captured, captured_is, captured_has, dones_once, done_of_one, one_of_dones}
use Rattle.cx_text.proofs.BoolLaws.{and_both, or_either}
use Rattle.cx_meaning.proofs.ActiveLemmas.{only_self}
use Rattle.cx_text.proofs.NumberLaws.{false_true, equal}
use Rattle.cx_rules.proofs.ShapeRulesLemmas.{some_in, a_target, always_is}
use Rattle.cx_frames.proofs.CycleLemmas.{idle_at-row}

-- an assignment that enables a primitive cell
record Enabling (cells : Cells) (list : List PlainAssign) : Type 0 where
  assign : PlainAssign
  is_in : In list assign
  cell : ℕ
  port : ℕ
  row : Row
  target : assign.target ≡ ports.Cell cell port
  at : cell_at cells cell ≡ OfRow row
  enables : is_enable_side (side_of row port) ≡ true

enabling : (cells : Cells) (list : List PlainAssign) → captures_in cells list ≡ true → Enabling cells list
enabling cells [] e = absurd (false_true e)
enabling cells (a ∷ rest) e = of_target a.target refl e (λ f. more (enabling cells rest f))
  where
    more : Enabling cells rest → Enabling cells (a ∷ rest)
    more r = record { assign = r.assign; is_in = inr r.is_in; cell = r.cell; port = r.port; row = r.row; target = r.target; at = r.at; enables = r.enables }

    by : (b : Bool) (c p : ℕ) (row : Row) → a.target ≡ ports.Cell c p → cell_at cells c ≡ OfRow row → is_enable_side (side_of row p) ≡ b → (b || captures_in cells rest) ≡ true → (captures_in cells rest ≡ true → Enabling cells (a ∷ rest)) → Enabling cells (a ∷ rest)
    by true c p row is at on f later = record { assign = a; is_in = inl refl; cell = c; port = p; row = row; target = is; at = at; enables = on }
    by false c p row is at on f later = later f

    of_at : (k : At) (c p : ℕ) → a.target ≡ ports.Cell c p → cell_at cells c ≡ k → (enables_at k p || captures_in cells rest) ≡ true → (captures_in cells rest ≡ true → Enabling cells (a ∷ rest)) → Enabling cells (a ∷ rest)
    of_at Nothing c p is at f later = later f
    of_at (OfRow row) c p is at f later = by (is_enable_side (side_of row p)) c p row is at refl f later
    of_at (OfInstance child) c p is at f later = later f

    of_target : (t : PortRef) → a.target ≡ t → (enables_primitive cells t || captures_in cells rest) ≡ true → (captures_in cells rest ≡ true → Enabling cells (a ∷ rest)) → Enabling cells (a ∷ rest)
    of_target (ports.Cell c p) is f later = of_at (cell_at cells c) c p is refl f later
    of_target (ports.Input n) is f later = later f
    of_target (ports.Output n) is f later = later f
    of_target (ports.Done g) is f later = later f
    of_target (ports.Literal w v) is f later = later f

-- the last port of a component cell is its done
pub last_is_done : (part : PlainComponent) → part_port part (suc (length part.inputs + length part.outputs)) ≡ ItsDone
last_is_done part =
    let back : (length part.inputs + length part.outputs) - length part.inputs ≡ length part.outputs = omega arith in
    ap (λ b. if b then AnInput (length part.inputs + length part.outputs) else output_port (length part.outputs) ((length part.inputs + length part.outputs) - length part.inputs))
    (le-ltb (length part.inputs + length part.outputs) (length part.inputs) (omega arith))
    ∙ ap (output_port (length part.outputs)) back ∙ ap (λ b. if b then AnOutput (length part.outputs) else ItsDone) (le-ltb (length part.outputs) (length part.outputs) (omega arith))

-- WHAT THE RULES SAY of the group, and what its instance is
pub record CaptureRules (i : Instance) (g c : ℕ) : Type 0 where
  pub child : Instance
  pub at_child : cell_at (cells_of i) c ≡ OfInstance child
  pub acyclic : IsAcyclic i (group g)
  pub deeper : AcyclicBelow (cells_of i)
  -- nothing continuous drives the hole of a group, or an enabling port of a primitive cell
  pub own_hole : (o : Owned) → In (source_order (part_of i)) o → o.owner ≡ None → o.assign.target ≡ ports.Done g → ⊥
  pub no_enable : (o : Owned) → In (source_order (part_of i)) o → o.owner ≡ None → (r p : ℕ) (row : Row) → o.assign.target ≡ ports.Cell r p → cell_at (cells_of i) r ≡ OfRow row → is_enable_side (side_of row p) ≡ true → ⊥
  pub right_done : is_right_done (wanted_dones (done_port c child) (captured (part_of i) (group_at (part_of i) g).assigns)) (with_target (ports.Done g) (group_at (part_of i) g).assigns) ≡ true
  pub right_enable : (a : PlainAssign) → In (group_at (part_of i) g).assigns a → (r p : ℕ) (row : Row) → a.target ≡ ports.Cell r p → cell_at (cells_of i) r ≡ OfRow row → is_enable_side (side_of row p) ≡ true
      → (is_register_enable (part_of i) a.target && is_right_enable (done_port c child) (with_target a.target (group_at (part_of i) g).assigns)) ≡ true
  -- a std_reg among the cells has the row of a register
  pub registers : (r : ℕ) (cell : PlainCell) → slice_get (PlainComponent.cells (part_of i)) r ≡ Some cell → is_reg_kind cell.kind ≡ true → (w : ℕ) × (cell_at (cells_of i) r ≡ OfRow (register_row w))

module _ (i : Instance) (g c : ℕ) (rules : CaptureRules i g c) (captures : captures_in (cells_of i) (group_at (part_of i) g).assigns ≡ true) where
  abbrev assigns : List PlainAssign
  assigns = (group_at (part_of i) g).assigns

  abbrev pub registers_now : List ℕ
  registers_now = captured (part_of i) assigns

  abbrev pub wanted : List PortRef
  wanted = wanted_dones (done_port c rules.child) (captured (part_of i) assigns)

  -- some register is captured
  some_captured : (r : ℕ) × In registers_now r
  some_captured =
      let e = enabling (cells_of i) assigns captures in
      let right = and_both (is_register_enable (part_of i) e.assign.target) (is_right_enable (done_port c rules.child) (with_target e.assign.target assigns)) (rules.right_enable e.assign e.is_in e.cell e.port e.row e.target e.at e.enables) in
      let is_one = subst (λ t. is_register_enable (part_of i) t ≡ true) e.target right.0 in
      let both = and_both (is_register (part_of i) e.cell) (nat_eq e.port 1) is_one in
      let cell = of_option e.cell (slice_get (PlainComponent.cells (part_of i)) e.cell) refl both.0 in
      let from : 0 + e.cell ≡ e.cell = omega arith in (
        e.cell,
        subst (λ k. In registers_now k) from
            (captured_has assigns (PlainComponent.cells (part_of i)) 0 e.cell cell.0 cell.1 cell.2
            (subst (λ k. some_target (same_port (write_en_of k)) assigns ≡ true) (sym from)
            (driven assigns e.assign e.is_in e.cell e.port (subst (λ p. same_port (write_en_of e.cell) (ports.Cell e.cell p) ≡ true) (sym (eqb-true e.port 1 both.1)) (itself e.cell)) e.target))),
      )
    where
      of_option : (r : ℕ) (o : Option PlainCell) → slice_get (PlainComponent.cells (part_of i)) r ≡ o → is_register_cell o ≡ true → (cell : PlainCell) × (slice_get (PlainComponent.cells (part_of i)) r ≡ Some cell) × (is_reg_kind cell.kind ≡ true)
      of_option r None e f = absurd (false_true f)
      of_option r (Some cell) e f = (cell, e, f)

      itself : (r : ℕ) → same_port (write_en_of r) (ports.Cell r 1) ≡ true
      itself r = ap (λ b. b && true) (equal r)

      driven : (list : List PlainAssign) (a : PlainAssign) → In list a → (r p : ℕ) → same_port (write_en_of r) (ports.Cell r p) ≡ true → a.target ≡ ports.Cell r p → some_target (same_port (write_en_of r)) list ≡ true
      driven list a j r p e f = some_in (same_port (write_en_of r)) list a j (ap (same_port (write_en_of r)) f ∙ e)

  -- what is wanted are the dones of the captured registers
  pub wanted_are : wanted ≡ map register_done registers_now
  wanted_are = of_list registers_now some_captured.1
    where
      of_list : (rs : List ℕ) → In rs some_captured.0 → wanted_dones (done_port c rules.child) rs ≡ map register_done rs
      of_list [] j = absurd j
      of_list (r ∷ rs) j = refl

  -- a captured register
  pub record Register (r : ℕ) : Type 0 where
    pub width : ℕ
    pub at : cell_at (cells_of i) r ≡ OfRow (register_row width)
    pub driven : some_target (same_port (write_en_of r)) assigns ≡ true

  pub register : (r : ℕ) → In registers_now r → Register r
  register r j =
      let k = captured_is assigns (PlainComponent.cells (part_of i)) 0 r j in
      let from : 0 + Captured.number k ≡ Captured.number k = omega arith in
      let it = rules.registers r (Captured.cell k) (subst (λ n. slice_get (PlainComponent.cells (part_of i)) n ≡ Some (Captured.cell k)) (sym (Captured.is k ∙ from)) (Captured.stands k)) (Captured.register k) in
      record { width = it.0; at = it.1; driven = Captured.driven k }

  -- the one assignment of the done
  record TheDone : Type 0 where
    assign : PlainAssign
    alone : with_target (ports.Done g) assigns ≡ assign ∷ []
    right : is_right_done_assign wanted assign ≡ true

  the_done : TheDone
  the_done = of_list (with_target (ports.Done g) assigns) refl rules.right_done
    where
      of_list : (l : List PlainAssign) → with_target (ports.Done g) assigns ≡ l → is_right_done wanted l ≡ true → TheDone
      of_list [] e f = absurd (false_true f)
      of_list (a ∷ []) e f = record { assign = a; alone = e; right = f }
      of_list (a ∷ b ∷ rest) e f = absurd (false_true f)

  -- WHAT IS SEEN at a register's done, and at the hole
  pub done_seen : (held : Held) (s : State) (r w : ℕ) → cell_at (cells_of i) r ≡ OfRow (register_row w) → seen i held (group g) s (register_done r) ≡ of_option (register_output w (s (r ∷ [])) 3)
  done_seen held s r w at =
      seen_solves i held (group g) s rules.acyclic rules.deeper (register_done r)
      ∙ ap (λ k. cell_step (part_of i) (group g) s (seen i held (group g) s) (outputs_below (cells_of i) (λ d. under d s)) r 3 k) at

  one_seen : (held : Held) (act : Active) (s : State) → IsAcyclic i act → seen i held act s one ≡ Value set
  one_seen held act s acyclic = seen_solves i held act s acyclic rules.deeper one

  hole_seen : (held : Held) (s : State) → seen i held (group g) s (ports.Done g) ≡ target_seen (bit_of false) (seen i held (group g) s) (drivers (part_of i) (group g) (ports.Done g))
  hole_seen held s = seen_solves i held (group g) s rules.acyclic rules.deeper (ports.Done g)

  module _ (held : Held) (s : State) where
    abbrev pub look : Look
    look = seen i held (group g) s

    -- where the hole is 1 all captured registers are done
    pub all_done : truth_of (look (ports.Done g)) ≡ One → (w : PortRef) → In wanted w → truth_of (look w) ≡ One
    all_done is_set = of_assign from_is (or_either (is_always (TheDone.assign the_done).guard && are_dones wanted (Some ((TheDone.assign the_done).source.port ∷ []))) (same_port (TheDone.assign the_done).source.port one && are_dones wanted (conjuncts (TheDone.assign the_done).guard)) (TheDone.right the_done))
      where
        from : TakenFrom look (drivers (part_of i) (group g) (ports.Done g))
        from = target_one look (drivers (part_of i) (group g) (ports.Done g)) (sym (ap truth_of (hole_seen held s)) ∙ is_set)

        from_is : TheDone.assign the_done ≡ (TakenFrom.from from).assign
        from_is =
            let r = group_acts (part_of i) g (group g) (λ h. refl) (ports.Done g) (λ o j none target. rules.own_hole o j none target) (TakenFrom.from from) (TakenFrom.acts_so from) in
            one_of (subst (λ l. In l (TakenFrom.from from).assign) (TheDone.alone the_done) (in_filter (ports.Done g) assigns (TakenFrom.from from).assign r.0 (ap (λ p. same_port p (ports.Done g)) r.1 ∙ equal g)))
          where
            one_of : In (TheDone.assign the_done ∷ []) (TakenFrom.from from).assign → TheDone.assign the_done ≡ (TakenFrom.from from).assign
            one_of (inl e) = e
            one_of (inr none) = absurd none

        of_conjuncts : (o : Option (List PortRef)) → conjuncts (TheDone.assign the_done).guard ≡ o → are_dones wanted o ≡ true → (w : PortRef) → In wanted w → truth_of (look w) ≡ One
        of_conjuncts None is f w j = absurd (false_true f)
        of_conjuncts (Some ps) is f w j =
            conjuncts_hold look (TakenFrom.from from).offset (TheDone.assign the_done).guard ps is
            (ap (λ (a : PlainAssign). guard_truth look (TakenFrom.from from).offset a.guard) from_is ∙ TakenFrom.guard from) w (wanted_are_in wanted ps f w j)

        of_assign : TheDone.assign the_done ≡ (TakenFrom.from from).assign
            → ((is_always (TheDone.assign the_done).guard && are_dones wanted (Some ((TheDone.assign the_done).source.port ∷ []))) ≡ true) ⊎ ((same_port (TheDone.assign the_done).source.port one && are_dones wanted (conjuncts (TheDone.assign the_done).guard)) ≡ true)
            → (w : PortRef) → In wanted w → truth_of (look w) ≡ One
        of_assign same (inl e) w j = of_source (wanted_are_in wanted ((TheDone.assign the_done).source.port ∷ []) (and_both (is_always (TheDone.assign the_done).guard) (are_dones wanted (Some ((TheDone.assign the_done).source.port ∷ []))) e).1 w j)
          where
            of_source : In ((TheDone.assign the_done).source.port ∷ []) w → truth_of (look w) ≡ One
            of_source (inl f) = ap (λ p. truth_of (look p)) (sym f) ∙ ap (λ (a : PlainAssign). truth_of (look a.source.port)) same ∙ TakenFrom.source from
            of_source (inr none) = absurd none
        of_assign same (inr e) w j = of_conjuncts (conjuncts (TheDone.assign the_done).guard) refl (and_both (same_port (TheDone.assign the_done).source.port one) (are_dones wanted (conjuncts (TheDone.assign the_done).guard)) e).1 w j

    -- so it is not while one of them rests
    pub hole_is_open : ((r : ℕ) → In registers_now r → idle_at i (r ∷ []) (s (r ∷ [])) ≡ s (r ∷ [])) → is_one (truth_of (look (ports.Done g))) ≡ false
    hole_is_open rest = either (is_one (truth_of (look (ports.Done g)))) refl
      where
        either : (b : Bool) → is_one (truth_of (look (ports.Done g))) ≡ b → b ≡ false
        either false e = refl
        either true e =
            let r = some_captured in
            let it = register r.0 r.1 in
            absurd (rest_is_not_done (Register.width it) (s (r.0 ∷ [])) (sym (idle_at-row i r.0 (register_row (Register.width it)) (s (r.0 ∷ [])) (Register.at it)) ∙ rest r.0 r.1)
            (sym (ap truth_of (done_seen held s r.0 (Register.width it) (Register.at it)))
            ∙ all_done (is_one_of (truth_of (look (ports.Done g))) e) (register_done r.0) (subst (λ l. In l (register_done r.0)) (sym wanted_are) (one_of_dones registers_now r.0 r.1))))

    -- where all are done it is 1
    pub hole_is_set : ((r : ℕ) → In registers_now r → look (register_done r) ≡ Value set) → is_one (truth_of (look (ports.Done g))) ≡ true
    hole_is_set each = ap (λ v. is_one (truth_of v)) (hole_seen held s ∙ ap (target_seen (bit_of false) look) (ActsAlone.are acts) ∙ value)
      where
        each_wanted : (w : PortRef) → In wanted w → look w ≡ Value set
        each_wanted w j = let r = done_of_one registers_now w (subst (λ l. In l w) wanted_are j) in ap look r.2 ∙ each r.0 r.1

        once : AreOnce wanted
        once = subst AreOnce (sym wanted_are) (dones_once assigns (PlainComponent.cells (part_of i)) 0)

        stands : In assigns (TheDone.assign the_done) × (same_port (PlainAssign.target (TheDone.assign the_done)) (ports.Done g) ≡ true)
        stands = of_filter (ports.Done g) assigns (TheDone.assign the_done) (subst (λ l. In l (TheDone.assign the_done)) (sym (TheDone.alone the_done)) (inl refl))

        acts : ActsAlone (part_of i) g (group g) (λ h. refl) (ports.Done g) (λ o j none target. rules.own_hole o j none target) (TheDone.assign the_done)
        acts = acts_alone (part_of i) g (group g) (λ h. refl) (ports.Done g) (λ o j none target. rules.own_hole o j none target) (TheDone.assign the_done) (TheDone.alone the_done) stands.0 stands.1 (only_self g)

        source_and_guard : (look (PlainAssign.source (TheDone.assign the_done)).port ≡ Value set) × ((at : ℕ) → guard_truth look at (PlainAssign.guard (TheDone.assign the_done)) ≡ One)
        source_and_guard = of_right (or_either (is_always (PlainAssign.guard (TheDone.assign the_done)) && are_dones wanted (Some ((PlainAssign.source (TheDone.assign the_done)).port ∷ []))) (same_port ((PlainAssign.source (TheDone.assign the_done)).port) one && are_dones wanted (conjuncts (PlainAssign.guard (TheDone.assign the_done)))) (TheDone.right the_done))
          where
            of_conjuncts : (o : Option (List PortRef)) → conjuncts (PlainAssign.guard (TheDone.assign the_done)) ≡ o → are_dones wanted o ≡ true → (at : ℕ) → guard_truth look at (PlainAssign.guard (TheDone.assign the_done)) ≡ One
            of_conjuncts None is f at = absurd (false_true f)
            of_conjuncts (Some ps) is f at = conjunction_holds look at (PlainAssign.guard (TheDone.assign the_done)) ps is (λ p j. ap truth_of (each_wanted p (wanted_are_all wanted ps once f p j)))

            of_right : ((is_always (PlainAssign.guard (TheDone.assign the_done)) && are_dones wanted (Some ((PlainAssign.source (TheDone.assign the_done)).port ∷ []))) ≡ true)
                ⊎ ((same_port (PlainAssign.source (TheDone.assign the_done)).port one && are_dones wanted (conjuncts (PlainAssign.guard (TheDone.assign the_done)))) ≡ true)
                → (look (PlainAssign.source (TheDone.assign the_done)).port ≡ Value set) × ((at : ℕ) → guard_truth look at (PlainAssign.guard (TheDone.assign the_done)) ≡ One)
            of_right (inl e) =
                let both = and_both (is_always (PlainAssign.guard (TheDone.assign the_done))) (are_dones wanted (Some ((PlainAssign.source (TheDone.assign the_done)).port ∷ []))) e in
                (each_wanted ((PlainAssign.source (TheDone.assign the_done)).port) (wanted_are_all wanted ((PlainAssign.source (TheDone.assign the_done)).port ∷ []) once both.1 ((PlainAssign.source (TheDone.assign the_done)).port) (inl refl)), λ at. ap (guard_truth look at) (always_is (PlainAssign.guard (TheDone.assign the_done)) both.0))
            of_right (inr e) =
                let both = and_both (same_port ((PlainAssign.source (TheDone.assign the_done)).port) one) (are_dones wanted (conjuncts (PlainAssign.guard (TheDone.assign the_done)))) e in
                (ap look (same_is ((PlainAssign.source (TheDone.assign the_done)).port) one both.0) ∙ one_seen held (group g) s rules.acyclic, of_conjuncts (conjuncts (PlainAssign.guard (TheDone.assign the_done))) refl both.1)

        value : target_seen (bit_of false) look (ActsAlone.first acts ∷ ActsAlone.rest acts) ≡ Value set
        value =
            target_all look (TheDone.assign the_done) set source_and_guard.0 (bit_of false) (ActsAlone.first acts) (ActsAlone.rest acts)
            (λ x j. let same = ActsAlone.all acts x (subst (λ l. In l x) (sym (ActsAlone.are acts)) j) in (same, ap (λ (a : PlainAssign). guard_truth look x.offset a.guard) same ∙ source_and_guard.1 x.offset))

  -- THE CAPTURE CYCLE writes every captured register
  module _ (held : Held) (s after : State) (goes : cycle i held (capture g c) s ≡ Goes after) where
    abbrev then_seen : Look
    then_seen = seen i held (capture g c) s

    acyclic_too : IsAcyclic i (capture g c)
    acyclic_too = capture_acyclic i g c rules.acyclic

    cell_done : then_seen (done_port c rules.child) ≡ Value set
    cell_done =
        seen_solves i held (capture g c) s acyclic_too rules.deeper (done_port c rules.child)
        ∙ ap (λ k. cell_step (part_of i) (capture g c) s then_seen (outputs_below (cells_of i) (λ d. under d s)) c (suc (length (part_of rules.child).inputs + length (part_of rules.child).outputs)) k) rules.at_child
        ∙ ap (part_step (part_of i) (capture g c) s then_seen (outputs_below (cells_of i) (λ d. under d s)) c (suc (length (part_of rules.child).inputs + length (part_of rules.child).outputs))) (last_is_done (part_of rules.child))
        ∙ ap bit_of (equal c)

    write_en_seen : (r : ℕ) → In registers_now r → then_seen (ports.Cell r 1) ≡ Value set
    write_en_seen r j =
        seen_solves i held (capture g c) s acyclic_too rules.deeper (ports.Cell r 1)
        ∙ ap (λ k. cell_step (part_of i) (capture g c) s then_seen (outputs_below (cells_of i) (λ d. under d s)) r 1 k) (Register.at (register r j))
        ∙ of_list (with_target (ports.Cell r 1) assigns) refl right
      where
        driving : (a : PlainAssign) × In assigns a × (same_port (write_en_of r) a.target ≡ true)
        driving = a_target (same_port (write_en_of r)) assigns (Register.driven (register r j))

        target_is : driving.0.target ≡ ports.Cell r 1
        target_is = sym (same_is (write_en_of r) driving.0.target driving.2)

        right : is_right_enable (done_port c rules.child) (with_target (ports.Cell r 1) assigns) ≡ true
        right = subst (λ t. is_right_enable (done_port c rules.child) (with_target t assigns) ≡ true) target_is (and_both (is_register_enable (part_of i) driving.0.target) (is_right_enable (done_port c rules.child) (with_target driving.0.target assigns)) (rules.right_enable driving.0 driving.1 r 1 (register_row (Register.width (register r j))) target_is (Register.at (register r j)) refl)).1

        bare : (o : Owned) → In (source_order (part_of i)) o → o.owner ≡ None → o.assign.target ≡ ports.Cell r 1 → ⊥
        bare o k none target = rules.no_enable o k none r 1 (register_row (Register.width (register r j))) target (Register.at (register r j)) refl

        of_guard : (q : PlainGuard) → is_atom (done_port c rules.child) q ≡ true → (at : ℕ) → guard_truth then_seen at q ≡ One
        of_guard Always e at = absurd (false_true e)
        of_guard (Atom p) e at = ap (λ x. truth_of (then_seen x)) (same_is p.port (done_port c rules.child) e) ∙ ap truth_of cell_done
        of_guard (Negation q) e at = absurd (false_true e)
        of_guard (All gs) e at = absurd (false_true e)
        of_guard (Any gs) e at = absurd (false_true e)
        of_guard (Compared k a b) e at = absurd (false_true e)
        of_guard (Within from to) e at = absurd (false_true e)

        source_and_guard : (a : PlainAssign) → ((same_port a.source.port (done_port c rules.child) && is_always a.guard) ≡ true) ⊎ ((same_port a.source.port one && is_atom (done_port c rules.child) a.guard) ≡ true)
            → (then_seen a.source.port ≡ Value set) × ((at : ℕ) → guard_truth then_seen at a.guard ≡ One)
        source_and_guard a (inl e) = let both = and_both (same_port a.source.port (done_port c rules.child)) (is_always a.guard) e in (ap then_seen (same_is a.source.port (done_port c rules.child) both.0) ∙ cell_done, λ at. ap (guard_truth then_seen at) (always_is a.guard both.1))
        source_and_guard a (inr e) = let both = and_both (same_port a.source.port one) (is_atom (done_port c rules.child) a.guard) e in (ap then_seen (same_is a.source.port one both.0) ∙ one_seen held (capture g c) s acyclic_too, of_guard a.guard both.1)

        of_list : (l : List PlainAssign) → with_target (ports.Cell r 1) assigns ≡ l → is_right_enable (done_port c rules.child) l ≡ true → target_seen (bit_of false) then_seen (drivers (part_of i) (capture g c) (ports.Cell r 1)) ≡ Value set
        of_list [] e f = absurd (false_true f)
        of_list (a ∷ []) e f =
            let stands = of_filter (ports.Cell r 1) assigns a (subst (λ l. In l a) (sym e) (inl refl)) in
            let acts = acts_alone (part_of i) g (capture g c) (λ h. refl) (ports.Cell r 1) bare a e stands.0 stands.1 (only_self g) in
            let both = source_and_guard a (or_either (same_port a.source.port (done_port c rules.child) && is_always a.guard) (same_port a.source.port one && is_atom (done_port c rules.child) a.guard) f) in
            ap (target_seen (bit_of false) then_seen) (ActsAlone.are acts)
            ∙ target_all then_seen a set both.0 (bit_of false) (ActsAlone.first acts) (ActsAlone.rest acts)
            (λ x k. let same = ActsAlone.all acts x (subst (λ l. In l x) (sym (ActsAlone.are acts)) k) in (same, ap (λ (y : PlainAssign). guard_truth then_seen x.offset y.guard) same ∙ both.1 x.offset))
        of_list (a ∷ b ∷ rest) e f = absurd (false_true f)

    -- so afterwards each of them is done
    pub all_written : (r : ℕ) (j : In registers_now r) → of_option (register_output (Register.width (register r j)) (after (r ∷ [])) 3) ≡ Value set
    all_written r j =
        written_is_done (Register.width (register r j)) r then_seen (s (r ∷ [])) (after (r ∷ [])) (write_en_seen r j)
        (cycle_steps i held (capture g c) s after r (register_row (Register.width (register r j))) goes (Register.at (register r j)))

    -- and the hole is 1, wherever they are as it left them
    pub captured_hole : (other : Held) (t : State) → ((r : ℕ) → In registers_now r → t (r ∷ []) ≡ after (r ∷ [])) → is_one (truth_of (seen i other (group g) t (ports.Done g))) ≡ true
    captured_hole other t same =
        hole_is_set other t (λ r j. done_seen other t r (Register.width (register r j)) (Register.at (register r j))
        ∙ ap (λ d. of_option (register_output (Register.width (register r j)) d 3)) (same r j) ∙ all_written r j)
