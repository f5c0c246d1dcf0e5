-- A CALL of a dynamic child: its inputs are seen alike, its run is that of the child, and its state stands where it stood.
use Rattle.std.proofs.Common.{◌≡◌, ℕ, zero, suc, ◌+◌, ◌-◌, ◌<◌, ◌≤◌, inl, inr, Bool, true, false, ◌||◌, List, [], ◌∷◌, length, map, get_or, Some, None, refl, sym, ap, ◌∙◌, subst, arith}
use Rattle.std.specs.Prelude.{◌⊎◌, if◌then◌else◌, flat_map}
use Rattle.std.proofs.Math.Path.{fun_ext}
use Rattle.std.proofs.lemmas.Bool.{cases_eq, eqb-true, eq-eqb}
use Rattle.std.proofs.lemmas.List.{get_or_append_left, get_or-map, length-map}
use Rattle.cx_text.proofs.MemberLaws.{in_at}
use Rattle.cx_text.specs.Members.{In}
use Rattle.cx_prim.specs.Rows.{Row}
use Rattle.cx_meaning.specs.declared.ports.PortRef.{PortRef}
use Rattle.cx_meaning.specs.declared.ports.PortRef.TheVariants as ports
use Rattle.cx_meaning.specs.Designs.{PlainAssign, PlainComponent, group_at, no_group}
use Rattle.cx_meaning.specs.Instances.{Instance, Node, Cells, no_cells, a_primitive, an_instance, At, Nothing, OfRow, OfInstance, part_of, cells_of, cell_at, Path, State, under, put, beneath, idle}
use Rattle.cx_meaning.specs.Active.{group, capture}
use Rattle.cx_meaning.specs.Sights.{Held, seen}
use Rattle.cx_meaning.specs.Cycles.{Fault, cycle}
use Rattle.cx_meaning.specs.Answers.{Answer, End, More, after_turns, then_do, idle_turn, one_turn}
use Rattle.cx_meaning.specs.Answers as answers
use Rattle.cx_meaning.specs.Islands.{turn_of}
use Rattle.cx_meaning.specs.Calls.{enables_at, enables_primitive, captures_in, captures, lift_answer, inputs_of_call, fault_below}
use Rattle.cx_meaning.specs.Calls as calls
use Rattle.cx_meaning.specs.Running.{Children}
use Rattle.cx_meaning.proofs.InstancesLemmas.{just_same, not_just, row_instance}
use Rattle.cx_meaning.proofs.DesignsLemmas.{there_below}
use Rattle.cx_rewrites.specs.Moving.{moved_assign, moved_group}
use Rattle.cx_flattening.specs.Whole.{is_static, whole_cycle, after_child, call}
use Rattle.cx_flattening.specs.Flattened.{Kids, kid_at, kept_at, start_of, flat_kids, flat_part, own_port, copies}
use Rattle.cx_flattening.specs.Embedded.{Stands, AllStand}
use Rattle.cx_flattening.specs.Fair.{IsFair}
use Rattle.cx_flattening.specs.FlatFaults.{spot_if, flat_spot, spot_in, at_spot}
use Rattle.cx_flattening.specs.Targets.{OwnTarget}
use Rattle.cx_flattening.specs.Events.{spot}
use Rattle.cx_flattening.specs.Runs.{AnswerAs}
use Rattle.cx_flattening.specs.Calling.{IsCallBeside, RunsAs}
use Rattle.cx_flattening.proofs.Placing.{kept_less, kept_apart}
use Rattle.cx_flattening.proofs.PortLemmas.{own-kept}
use Rattle.cx_flattening.proofs.Standing.{within_child, fair_own, embedded_row, embedded_dynamic, stands_dynamic}
use Rattle.cx_flattening.proofs.LevelSights.{kid-row, kid-static, kid-dynamic}
use Rattle.cx_flattening.proofs.FlatCycles.{stands_alike}
use Rattle.cx_flattening.proofs.FlatTops.{flat_seen, flat_cycle}
use Rattle.cx_flattening.proofs.StillActs.{group_acts, capture_acts}
use Rattle.cx_flattening.proofs.FlatIslands.{turn_as, turn_then_as}
use Rattle.cx_flattening.proofs.IdleStands.{idle_stands}

-- STATES that are the same from cell `first` on
mutual
  stands_beyond : (i : Instance) (first : ℕ) (s z w : State) → ((h : ℕ) (path : Path) → first ≤ h → z (h ∷ path) ≡ w (h ∷ path)) → Stands i first s z → Stands i first s w
  stands_beyond (Node part cells) first s z w same h = all_beyond cells (flat_kids cells) part 0 first s z w same h

  all_beyond : (rest : Cells) (kids : Kids) (part : PlainComponent) (c first : ℕ) (s z w : State) → ((h : ℕ) (path : Path) → first ≤ h → z (h ∷ path) ≡ w (h ∷ path)) → AllStand kids part rest c first s z → AllStand kids part rest c first s w
  all_beyond no_cells kids part c first s z w same h = tt
  all_beyond (a_primitive row rest) kids part c first s z w same h = (sym (same (first + kept_at kids c) [] (omega arith)) ∙ h.0, all_beyond rest kids part (suc c) first s z w same h.1)
  all_beyond (an_instance child rest) kids part c first s z w same h = (
    λ static. stands_beyond child (first + start_of kids part c) (under c s) z w (λ k path less. same k path (omega (arith, less))) (h.0 static),
    λ dynamic. subst (Stands child 0 (under c s)) (fun_ext (λ path. same (first + kept_at kids c) path (omega arith))) (h.1 dynamic),
    all_beyond rest kids part (suc c) first s z w same h.2,
  )

put_other : (c d : ℕ) (own s : State) → (d ≡ c → ⊥) → (path : Path) → put c own s (d ∷ path) ≡ s (d ∷ path)
put_other c d own s apart path = ap (λ b. if b then beneath own (d ∷ path) else s (d ∷ path)) (not_just c d apart)

put_here : (c : ℕ) (own s : State) (path : Path) → put c own s (c ∷ path) ≡ own path
put_here c own s path = ap (λ b. if b then beneath own (c ∷ path) else s (c ∷ path)) (just_same c)

-- A CHILD'S STATE, put back
module _ (part : PlainComponent) (cells : Cells) (fair : IsFair (Node part cells)) (c : ℕ) (child : Instance) (at : cell_at cells c ≡ OfInstance child) (dynamic : is_static child ≡ false) (own twin s z : State) (stood : Stands child 0 own twin) where
  abbrev kids : Kids
  kids = flat_kids cells

  here : c < length part.cells
  here = within_child (Node part cells) fair c child at

  its : kid_at kids c ≡ None
  its = kid-dynamic cells c child at dynamic

  kept_other : (d : ℕ) → kid_at kids d ≡ None → (d ≡ c → ⊥) → 0 + kept_at kids d ≡ kept_at kids c → ⊥
  kept_other d none apart same =
      let one : kept_at kids d ≡ kept_at kids c = omega (arith, same) in
      apart (eqb-true d c (sym (kept_apart kids d c none its) ∙ eq-eqb (kept_at kids d) (kept_at kids c) one))

  back : (rest : Cells) (d : ℕ) → ((n : ℕ) → cell_at rest n ≡ cell_at cells (d + n)) → AllStand kids part rest d 0 s z → AllStand kids part rest d 0 (put c own s) (put (kept_at kids c) twin z)
  back no_cells d tail h = tt
  back (a_primitive row rest) d tail h = (
    put_other (kept_at kids c) (0 + kept_at kids d) twin z (kept_other d (kid-row cells d row d_at) apart) [] ∙ h.0 ∙ sym (put_other c d own s apart []),
    back rest (suc d) (λ n. tail (suc n) ∙ ap (cell_at cells) (plus d n)) h.1,
  )
    where
      plus : (a b : ℕ) → a + suc b ≡ suc a + b
      plus a b = omega arith

      zero_plus : (a : ℕ) → a + 0 ≡ a
      zero_plus a = omega arith

      d_at : cell_at cells d ≡ OfRow row
      d_at = ap (cell_at cells) (sym (zero_plus d)) ∙ sym (tail 0)

      apart : d ≡ c → ⊥
      apart e = row_instance row child (sym d_at ∙ ap (cell_at cells) e ∙ at)
  back (an_instance other rest) d tail h = (
    λ static.
        stands_beyond other (0 + start_of kids part d) (under d (put c own s)) z (put (kept_at kids c) twin z)
        (λ k path less. sym (put_other (kept_at kids c) k twin z (beyond k less) path))
        (stands_alike other (0 + start_of kids part d) (under d s) (under d (put c own s)) z z (λ path. sym (put_other c d own s (λ e. not_both static (ap (cell_at cells) (sym e) ∙ d_at)) path)) (λ path. refl) (h.0 static)),
    λ other_dynamic. choice other_dynamic (cases_eq d c),
    back rest (suc d) (λ n. tail (suc n) ∙ ap (cell_at cells) (plus d n)) h.2,
  )
    where
      plus : (a b : ℕ) → a + suc b ≡ suc a + b
      plus a b = omega arith

      zero_plus : (a : ℕ) → a + 0 ≡ a
      zero_plus a = omega arith

      d_at : cell_at cells d ≡ OfInstance other
      d_at = ap (cell_at cells) (sym (zero_plus d)) ∙ sym (tail 0)

      one_child : cell_at cells c ≡ OfInstance other → child ≡ other
      one_child e = let same : OfInstance child ≡ OfInstance other = sym at ∙ e in cc

      not_both : is_static other ≡ true → cell_at cells c ≡ OfInstance other → ⊥
      not_both static e = let none : false ≡ true = sym dynamic ∙ ap is_static (one_child e) ∙ static in cc

      beyond : (k : ℕ) → 0 + start_of kids part d ≤ k → k ≡ kept_at kids c → ⊥
      beyond k less same = let inside = kept_less kids part.cells c here its in omega (arith, less, same, inside)

      choice : is_static other ≡ false → (d ≡ c) ⊎ (d ≡ c → ⊥) → Stands other 0 (under d (put c own s)) (under (0 + kept_at kids d) (put (kept_at kids c) twin z))
      choice other_dynamic (inr apart) =
          stands_alike other 0 (under d s) (under d (put c own s)) (under (0 + kept_at kids d) z) (under (0 + kept_at kids d) (put (kept_at kids c) twin z))
          (λ path. sym (put_other c d own s apart path)) (λ path. sym (put_other (kept_at kids c) (0 + kept_at kids d) twin z (kept_other d (kid-dynamic cells d other d_at other_dynamic) apart) path)) (h.1 other_dynamic)
      choice other_dynamic (inl e) =
          subst (λ x. Stands x 0 (under d (put c own s)) (under (0 + kept_at kids d) (put (kept_at kids c) twin z))) (one_child (ap (cell_at cells) (sym e) ∙ d_at))
          (stands_alike child 0 own (under d (put c own s)) twin (under (0 + kept_at kids d) (put (kept_at kids c) twin z))
          (λ path. sym (ap (λ k. put c own s (k ∷ path)) e ∙ put_here c own s path))
          (λ path. sym (ap (λ k. put (kept_at kids c) twin z (k ∷ path)) (place e) ∙ put_here (kept_at kids c) twin z path)) stood)
        where
          place : d ≡ c → 0 + kept_at kids d ≡ kept_at kids c
          place f = let same : kept_at kids d ≡ kept_at kids c = ap (kept_at kids) f in omega (arith, same)

  put_stands : Stands (Node part cells) 0 s z → Stands (Node part cells) 0 (put c own s) (put (kept_at kids c) twin z)
  put_stands h = back cells 0 (λ n. ap (cell_at cells) (zero n)) h
    where
      zero : (a : ℕ) → a ≡ 0 + a
      zero a = omega arith

-- a fault of a dynamic child
pub spot-below : (cells : Cells) (c : ℕ) (child : Instance) (start cell : ℕ) (path : Path) (p : PortRef) → cell_at cells c ≡ OfInstance child → is_static child ≡ false → spot_in cells c start cell path p ≡ spot_if false cell (flat_spot child start path p) (flat_spot child 0 path p)
spot-below no_cells c child start cell path p e dynamic = absurd (cc)
spot-below (a_primitive row rest) zero child start cell path p e dynamic = absurd (cc)
spot-below (a_primitive row rest) (suc c) child start cell path p e dynamic = spot-below rest c child start cell path p e dynamic
spot-below (an_instance other rest) zero child start cell path p e dynamic =
    let same : other ≡ child = cc in
    ap (λ k. spot_if (is_static k) cell (flat_spot k start path p) (flat_spot k 0 path p)) same ∙ ap (λ b. spot_if b cell (flat_spot child start path p) (flat_spot child 0 path p)) dynamic
spot-below (an_instance other rest) (suc c) child start cell path p e dynamic = spot-below rest c child start cell path p e dynamic

-- ANSWERS, some turns later and with more to do
later_turns : (i : Instance) (k : ℕ) (x y : Answer State Fault) → AnswerAs i x y → AnswerAs i (after_turns k x) (after_turns k y)
later_turns i k (End after n) y h = (h.0, ap (after_turns k) h.1, h.2)
later_turns i k (answers.Fault f n) y h = ap (after_turns k) h
later_turns i k More y h = ap (after_turns k) h

then_as : (i : Instance) (x y : Answer State Fault) (n : ℕ) (go more : State → ℕ → Answer State Fault) → AnswerAs i x y → ((s z : State) (m : ℕ) → Stands i 0 s z → AnswerAs i (go s m) (more z m)) → AnswerAs i (then_do x n go) (then_do y n more)
then_as i (End after t) y n go more h later = subst (λ w. AnswerAs i (after_turns t (go after (n - t))) (then_do w n more)) (sym h.1) (later_turns i t (go after (n - t)) (more h.0 (n - t)) (later after h.0 (n - t) h.2))
then_as i (answers.Fault f t) y n go more h later = ap (λ w. then_do w n more) h
then_as i More y n go more h later = ap (λ w. then_do w n more) h

module _ (part : PlainComponent) (cells : Cells) (flat : Instance) (held : Held) (g c : ℕ) (child : Instance) (its : IsCallBeside (Node part cells) flat g c child) where
  abbrev i : Instance
  i = Node part cells

  abbrev e : ℕ
  e = kept_at (flat_kids cells) c

  fair : IsFair i
  fair = fair_own i its.group.fair

  inside : c < length part.cells
  inside = within_child i fair c child its.stands

  kept : kid_at (flat_kids cells) c ≡ None
  kept = kid-dynamic cells c child its.stands its.dynamic

  not_static : (other : Instance) → cell_at cells c ≡ OfInstance other → is_static other ≡ true → ⊥
  not_static other at static =
      let same : OfInstance child ≡ OfInstance other = sym its.stands ∙ at in
      let one : child ≡ other = cc in
      let none : false ≡ true = sym its.dynamic ∙ ap is_static one ∙ static in cc

  lifted : (x y : Answer State Fault) (s z : State) → Stands i 0 s z → AnswerAs child x y → AnswerAs i (lift_answer c s x) (lift_answer e z y)
  lifted (End own t) y s z stands h = (put e h.0 z, ap (lift_answer e z) h.1, put_stands part cells fair c child its.stands its.dynamic own h.0 s z h.2 stands)
  lifted (answers.Fault f t) y s z stands h =
      ap (lift_answer e z) h
      ∙ ap (λ x. answers.Fault (at_spot f.kind x) t) told
    where
      told : spot (e ∷ (flat_spot child 0 f.path f.port).at) (flat_spot child 0 f.path f.port).port ≡ flat_spot i 0 (c ∷ f.path) f.port
      told = let same : e ≡ 0 + e = omega arith in
          ap (λ k. spot (k ∷ (flat_spot child 0 f.path f.port).at) (flat_spot child 0 f.path f.port).port) same
          ∙ sym (spot-below cells c child (0 + start_of (flat_kids cells) part c) (0 + e) f.path f.port its.stands its.dynamic)
  lifted More y s z stands h = ap (lift_answer e z) h

  -- the inputs of the call
  pub inputs_alike : (s z : State) → Stands i 0 s z → inputs_of_call flat held g e z ≡ inputs_of_call i held g c s
  inputs_alike s z stands =
      fun_ext (λ input. ap (seen flat held (group g) z) (sym (own-kept (flat_kids cells) part c (suc input) kept))
      ∙ flat_seen i flat held (group g) (group g) [] s z (ports.Cell c (suc input)) (record {
        flattened = its.group.flattened;
        fair = its.group.fair;
        stands = stands;
        acts = group_acts i g (its.group.there g refl);
        done = refl;
        kept = λ d none. absurd (cc);
        no_circle = its.group.no_circle;
      }) (inside, λ other at static. absurd (not_static other at static)))

  -- after the child's turns
  idle_as : (s z : State) (n : ℕ) → Stands i 0 s z → AnswerAs i (idle_turn (idle i) s n) (idle_turn (idle flat) z n)
  idle_as s z zero stands = refl
  idle_as s z (suc n) stands = (idle flat z, refl, idle_stands i flat s z its.group.flattened.1 stands)

  after_as : (b : Bool) (s z : State) (n : ℕ) → Stands i 0 s z → AnswerAs i (after_child i held g c b s n) (calls.after_child flat held g e b z n)
  after_as false s z n stands = idle_as s z n stands
  after_as true s z zero stands = refl
  after_as true s z (suc n) stands =
      turn_then_as i flat s z (turn_of (whole_cycle i held (capture g c) [] s)) (turn_of (cycle flat held (capture g e) z)) (λ after. idle_turn (idle i) after n) (λ after. idle_turn (idle flat) after n)
      (turn_as i (whole_cycle i held (capture g c) [] s) (cycle flat held (capture g e) z) (flat_cycle i flat held (capture g c) (capture g e) [] s z (record {
        flattened = its.group.flattened;
        fair = its.group.fair;
        stands = stands;
        acts = capture_acts i g c e (its.group.there g refl);
        done = refl;
        kept = λ d same. subst (λ k. (k < length part.cells) × (kid_at (flat_kids cells) k ≡ None)) (number c d same) (inside, kept);
        no_circle = its.no_circle;
      }))) (idle_stands i flat s z its.group.flattened.1 stands) (λ after w there. idle_as after w n there)
    where
      number : (a b : ℕ) → Some a ≡ Some b → a ≡ b
      number a b f = cc

  zero_plus : (a : ℕ) → 0 + a ≡ a
  zero_plus a = omega arith

  -- the group captures alike
  target_alike : (t : PortRef) → OwnTarget (flat_kids cells) part t → enables_primitive (cells_of flat) (own_port (flat_kids cells) part t) ≡ enables_primitive cells t
  target_alike (ports.Cell d p) own = ap (enables_primitive (cells_of flat)) (own-kept (flat_kids cells) part d p own.1) ∙ by_cell (cell_at cells d) refl
    where
      row_place : (n : ℕ) (row : Row) → cell_at cells n ≡ OfRow row → cell_at (cells_of flat) (kept_at (flat_kids cells) n) ≡ OfRow row
      row_place n row at =
          ap (cell_at (cells_of flat)) (sym (zero_plus (kept_at (flat_kids cells) n)) ∙ ap (λ k. 0 + kept_at (flat_kids cells) k) (sym (zero_plus n))) ∙ embedded_row (flat_kids cells) part 0 (cells_of flat) cells 0 n row its.group.flattened.1 at

      twin_place : (n : ℕ) (other : Instance) → cell_at cells n ≡ OfInstance other → is_static other ≡ false → (twin : Instance) × (cell_at (cells_of flat) (kept_at (flat_kids cells) n) ≡ OfInstance twin)
      twin_place n other at other_dynamic =
          let r = embedded_dynamic (flat_kids cells) part 0 (cells_of flat) cells 0 n other its.group.flattened.1 at other_dynamic in
          (r.0, ap (cell_at (cells_of flat)) (sym (zero_plus (kept_at (flat_kids cells) n)) ∙ ap (λ k. 0 + kept_at (flat_kids cells) k) (sym (zero_plus n))) ∙ r.1)

      by_cell : (x : At) → cell_at cells d ≡ x → enables_at (cell_at (cells_of flat) (kept_at (flat_kids cells) d)) p ≡ enables_at (cell_at cells d) p
      by_cell Nothing at = absurd (fair.counts d own.0 at)
      by_cell (OfRow row) at =
          ap (λ x. enables_at x p) (row_place d row at) ∙ ap (λ x. enables_at x p) (sym at)
      by_cell (OfInstance other) at = by_static (is_static other) refl
        where
          by_static : (b : Bool) → is_static other ≡ b → enables_at (cell_at (cells_of flat) (kept_at (flat_kids cells) d)) p ≡ enables_at (cell_at cells d) p
          by_static true static = absurd (let none : None ≡ Some (flat_part other) = sym own.1 ∙ kid-static cells d other at static in cc)
          by_static false other_dynamic = ap (λ x. enables_at x p) (twin_place d other at other_dynamic).1 ∙ ap (λ x. enables_at x p) (sym at)
  target_alike (ports.Input n) own = absurd own
  target_alike (ports.Output n) own = refl
  target_alike (ports.Done h) own = refl
  target_alike (ports.Literal w v) own = absurd own

  captures_alike : (list : List PlainAssign) → ((a : PlainAssign) → In list a → OwnTarget (flat_kids cells) part a.target) → captures_in (cells_of flat) (map (moved_assign (own_port (flat_kids cells) part)) list) ≡ captures_in cells list
  captures_alike [] own = refl
  captures_alike (a ∷ rest) own =
      ap (λ b. b || captures_in (cells_of flat) (map (moved_assign (own_port (flat_kids cells) part)) rest)) (target_alike a.target (own a (inl refl)))
      ∙ ap (λ b. enables_primitive cells a.target || b) (captures_alike rest (λ x j. own x (inr j)))

  its_group : group_at (part_of flat) g ≡ moved_group (own_port (flat_kids cells) part) (group_at part g)
  its_group =
      ap (λ gs. get_or gs g no_group) its.group.flattened.0.groups
      ∙ get_or_append_left (map (moved_group (own_port (flat_kids cells) part)) part.groups) (flat_map (copies (flat_kids cells) part) part.invokes) no_group g
      (let there = its.group.there g refl in let same = length-map part.groups (moved_group (own_port (flat_kids cells) part)) in omega (arith, there, same))
      ∙ get_or-map (moved_group (own_port (flat_kids cells) part)) part.groups g no_group no_group (its.group.there g refl)

  captures_same : captures flat g ≡ captures i g
  captures_same =
      ap (λ x. captures_in (cells_of flat) x.assigns) its_group
      ∙ captures_alike (group_at part g).assigns (λ a j. fair.targets.groups (group_at part g) a (in_at part.groups g (group_at part g) (there_below part.groups g (its.group.there g refl))) j)

  -- A CALL
  pub call_as : (children others : Children) → RunsAs child c e children others → (s z : State) (n : ℕ) → Stands i 0 s z → AnswerAs i (call i children held g c s n) (calls.call flat others held g e z n)
  call_as children others runs s z n stands =
      then_as i (lift_answer c s (children c (inputs_of_call i held g c s) (under c s) n)) (lift_answer e z (others e (inputs_of_call flat held g e z) (under e z) n)) n
      (after_child i held g c (captures i g)) (calls.after_child flat held g e (captures flat g))
      (lifted (children c (inputs_of_call i held g c s) (under c s) n) (others e (inputs_of_call flat held g e z) (under e z) n) s z stands
      (subst (λ x. AnswerAs child (children c (inputs_of_call i held g c s) (under c s) n) (others e x (under e z) n)) (sym (inputs_alike s z stands)) (runs (inputs_of_call i held g c s) (under c s) (under e z) n child_stands)))
      (λ after w m there. subst (λ b. AnswerAs i (after_child i held g c (captures i g) after m) (calls.after_child flat held g e b w m)) (sym captures_same) (after_as (captures i g) after w m there))
    where
      child_stands : Stands child 0 (under c s) (under e z)
      child_stands =
          subst (λ k. Stands child 0 (under c s) (under k z)) (zero_plus e)
          (subst (λ k. Stands child 0 (under k s) (under (0 + kept_at (flat_kids cells) k) z)) (zero_plus c) (stands_dynamic (flat_kids cells) part 0 s z cells 0 c child stands its.stands its.dynamic))

pub flat_call : (i flat : Instance) (held : Held) (g c : ℕ) (child : Instance) → IsCallBeside i flat g c child → (children others : Children) → RunsAs child c (kept_at (flat_kids (cells_of i)) c) children others → (s z : State) (n : ℕ) → Stands i 0 s z
    → AnswerAs i (call i children held g c s n) (calls.call flat others held g (kept_at (flat_kids (cells_of i)) c) z n)
flat_call (Node part cells) flat held g c child its children others runs s z n stands = call_as part cells flat held g c child its children others runs s z n stands
