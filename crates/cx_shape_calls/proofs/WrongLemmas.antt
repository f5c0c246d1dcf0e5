-- An assignment of a group that calls is wrong exactly where it breaks a condition.
use Rattle.std.proofs.Common.{◌≡◌, ◌≢◌, ℕ, zero, suc, ◌+◌, ◌-◌, Bool, true, false, ◌&&◌, not, nat_eq, nat_lt, cond, List, [], ◌∷◌, Option, Some, None, length, ◌⊎◌, inl, inr, ⊎_elim, refl, sym, ap, ◌∙◌, subst, true≢false}
use Rattle.cx_text.specs.Members.{In}
use Rattle.cx_meaning.specs.declared.ports.PortRef.{PortRef}
use Rattle.cx_meaning.specs.declared.ports.PortRef.TheVariants as ports
use Rattle.cx_meaning.specs.Designs.{PlainAssign, PlainComponent, group_at}
use Rattle.cx_meaning.specs.Instances.{Instance, At, Nothing, OfRow, OfInstance, part_of, cells_of, cell_at}
use Rattle.cx_meaning.specs.Active.{same_port, port_number, cell_number}
use Rattle.cx_meaning.specs.Sights.{PartPort, Go, AnInput, AnOutput, ItsDone, part_port, later_port}
use Rattle.cx_rules.specs.Ports.{is_primitive_enable}
use Rattle.cx_meaning.specs.Calls.{enables_at}
use Rattle.cx_rules.specs.ShapeRules.{is_hole_of}
use Rattle.cx_rules.specs.CallShape.{Calls, go_port, done_port, captured, with_target, wanted_dones, is_register_enable, is_right_go, is_right_enable, is_right_done, CallBreak, another_cell, wrong_go, input_by_output, wrong_enable, wrong_done}
use Rattle.cx_rules.specs.InvokeShape.{is_static_port}
use Rattle.cx_callees.specs.Callees.{PlainCallee, done_of, callee_at, callee_of, called_of}
use Rattle.cx_shape_calls.specs.Forms.{is_wrong_done}
use Rattle.cx_shape_calls.specs.Inputs.{AreDependent, IsDependent}
use Rattle.cx_shape_calls.specs.Decisions.{calls_other, wrong_port, wrong_bare, wrong_enable_of, wrong_for, is_wrong}
use Rattle.cx_shape_calls.proofs.BoolLemmas.{not_same, other_than, grouped, any_in, any_has, in_filter, lone}
use Rattle.cx_callees.proofs.TargetLemmas.{callee, Target, target_of, is_dynamic}
use Rattle.cx_callees.proofs.CalledLemmas.{callee_is, driven_by, called_sound, called_all, part_callee, part_port_is}
use Rattle.cx_text.proofs.NumberLaws.{from_eq, equal}
use Rattle.cx_text.proofs.BoolLaws.{from_not, or_either, or_left, or_right, and_both}
use Rattle.std.proofs.lemmas.Bool.{not_from_false}
use Rattle.cx_meaning.proofs.PortsLemmas.{same_self}

later_no_go : (a b n : ℕ) → later_port a b n ≡ Go → ⊥
later_no_go a b n e = choice (nat_lt n a) (nat_lt (n - a) b) e
  where
    choice : (s t : Bool) → cond s (AnInput n) (cond t (AnOutput (n - a)) ItsDone) ≡ Go → ⊥
    choice true t e = cc
    choice false true e = cc
    choice false false e = cc

go_zero : (part : PlainComponent) (p : ℕ) → part_port part p ≡ Go → p ≡ 0
go_zero part zero e = refl
go_zero part (suc n) e = absurd (later_no_go (length part.inputs) (length part.outputs) n e)

enable_cell : (i : Instance) (t : PortRef) → is_primitive_enable i t ≡ true → t ≡ ports.Cell (cell_number t) (port_number t)
enable_cell i (ports.Cell c p) h = refl
enable_cell i (ports.Input n) h = absurd (true≢false (sym h))
enable_cell i (ports.Output n) h = absurd (true≢false (sym h))
enable_cell i (ports.Done g) h = absurd (true≢false (sym h))
enable_cell i (ports.Literal w v) h = absurd (true≢false (sym h))

enable_callee : (i : Instance) (t : PortRef) → is_primitive_enable i t ≡ true → callee_of i t ≡ None
enable_callee i (ports.Cell c p) h = choice (cell_at (cells_of i) c) h
  where
    choice : (at : At) → enables_at at p ≡ true → callee_at c at ≡ None
    choice Nothing h = refl
    choice (OfRow row) h = refl
    choice (OfInstance child) h = absurd (true≢false (sym h))
enable_callee i (ports.Input n) h = refl
enable_callee i (ports.Output n) h = refl
enable_callee i (ports.Done g) h = refl
enable_callee i (ports.Literal w v) h = refl

hole_is : (g : ℕ) (t : PortRef) → is_hole_of g t ≡ true → t ≡ ports.Done g
hole_is g (ports.Cell c p) h = absurd (true≢false (sym h))
hole_is g (ports.Input n) h = absurd (true≢false (sym h))
hole_is g (ports.Output n) h = absurd (true≢false (sym h))
hole_is g (ports.Done k) h = ap ports.Done (from_eq k g h)
hole_is g (ports.Literal w v) h = absurd (true≢false (sym h))

module _ (i : Instance) (g : ℕ) where
  abbrev assigns : List PlainAssign
  assigns = (group_at (part_of i) g).assigns

  abbrev called : List PlainCallee
  called = called_of i assigns

  pub record IsBroken (t : PortRef) : Type 0 where
    pub cell : ℕ
    pub calls : Calls i assigns cell
    pub breaks : CallBreak i g cell calls.child t

  module _ (driven dependent : ℕ → ℕ → ℕ) (is_bad : Bool) (a : PlainAssign) (there : In assigns a)
      (d : (c p : ℕ) → driven c p ≡ length (with_target (ports.Cell c p) assigns))
      (bad_is : is_bad ≡ is_wrong_done called (captured (part_of i) assigns) (with_target (ports.Done g) assigns))
      (dep : AreDependent i g assigns dependent) where
    done_same : (k : PlainCallee) (child : Instance) → k.part ≡ part_of child → done_of k ≡ done_port k.cell child
    done_same k child e = ap (λ part. ports.Cell k.cell (suc (length part.inputs + length part.outputs))) e

    -- of the assignments of the target, this is one
    among : (t : PortRef) → a.target ≡ t → In (with_target t assigns) a
    among t e = in_filter (λ x. same_port x.target t) assigns a there (ap (λ x. same_port x t) e ∙ same_self t)

    go_alone : (k : PlainCallee) (child : Instance) → k.part ≡ part_of child → a.target ≡ go_port k.cell
        → is_right_go (done_port k.cell child) (with_target (go_port k.cell) assigns) ≡ nat_eq (driven k.cell 0) 1 && is_right_go (done_of k) (a ∷ [])
    go_alone k child e t =
        lone (is_right_go (done_port k.cell child)) (λ x y rest. refl) (with_target (go_port k.cell) assigns) a (among (go_port k.cell) t)
        ∙ ap (λ n. nat_eq n 1 && is_right_go (done_port k.cell child) (a ∷ [])) (sym (d k.cell 0))
        ∙ ap (λ p. nat_eq (driven k.cell 0) 1 && is_right_go p (a ∷ [])) (sym (done_same k child e))

    enable_alone : (k : PlainCallee) (child : Instance) (t : PortRef) → k.part ≡ part_of child → a.target ≡ t → t ≡ ports.Cell (cell_number t) (port_number t)
        → is_register_enable (part_of i) t && is_right_enable (done_port k.cell child) (with_target t assigns)
        ≡ (is_register_enable (part_of i) t && nat_eq (driven (cell_number t) (port_number t)) 1) && is_right_enable (done_of k) (a ∷ [])
    enable_alone k child t e at cell =
        let many : length (with_target t assigns) ≡ driven (cell_number t) (port_number t) = ap (λ p. length (with_target p assigns)) cell ∙ sym (d (cell_number t) (port_number t)) in
        ap (λ b. is_register_enable (part_of i) t && b)
        (lone (is_right_enable (done_port k.cell child)) (λ x y rest. refl) (with_target t assigns) a (among t at)
        ∙ ap (λ n. nat_eq n 1 && is_right_enable (done_port k.cell child) (a ∷ [])) many
        ∙ ap (λ p. nat_eq (driven (cell_number t) (port_number t)) 1 && is_right_enable p (a ∷ [])) (sym (done_same k child e)))
        ∙ sym (grouped (is_register_enable (part_of i) t) (nat_eq (driven (cell_number t) (port_number t)) 1) (is_right_enable (done_of k) (a ∷ [])))

    abbrev calls_of : is_static_port i a.target ≡ false → (k : PlainCallee) (t : Target i a.target k) → Calls i assigns k.cell
    calls_of other k t = record {
      child = t.child;
      is_component = t.stands;
      dynamic = is_dynamic i a.target k.cell t.port t.child t.is t.stands other;
      driven = driven_by i assigns a k.cell t.port there t.is;
    }

    -- WRONG, so a break, where the target is no port of a static cell
    port_sound : is_static_port i a.target ≡ false → (k : PlainCallee) (t : Target i a.target k) (port : PartPort) → part_port k.part (port_number a.target) ≡ port
        → wrong_port driven dependent a k (port_number a.target) port ≡ true → IsBroken a.target
    port_sound other k t Go e h =
        let calls : Calls i assigns k.cell = calls_of other k t in
        let first : t.port ≡ 0 = ap port_number (sym t.is) ∙ go_zero k.part (port_number a.target) e in
        let at : a.target ≡ go_port k.cell = t.is ∙ ap (λ p. ports.Cell k.cell p) first in
        record {
          cell = k.cell;
          calls = calls;
          breaks = subst (λ p. CallBreak i g k.cell t.child p) (sym at) (wrong_go (go_alone k t.child t.part at ∙ from_not (nat_eq (driven k.cell 0) 1 && is_right_go (done_of k) (a ∷ [])) h));
        }
    port_sound other k t (AnInput n) e h =
        let number : port_number a.target ≡ t.port = ap port_number t.is in
        let r = (dep a k.cell (port_number a.target) there (t.is ∙ ap (λ p. ports.Cell k.cell p) (sym number))).0 (from_not (nat_eq (dependent k.cell (port_number a.target)) 0) h) in
        record {
          cell = r.cell;
          calls = record {
            child = r.child;
            is_component = r.stands;
            dynamic = is_dynamic i a.target r.cell r.input r.child r.is r.stands other;
            driven = driven_by i assigns a r.cell r.input there r.is;
          };
          breaks = subst (λ p. CallBreak i g r.cell r.child p) (sym r.is) (input_by_output r.input ((r.number, r.is_input), (r.output, r.is_output, r.depends)));
        }
    port_sound other k t (AnOutput n) e h = absurd (true≢false (sym h))
    port_sound other k t ItsDone e h = absurd (true≢false (sym h))

    other_sound : is_static_port i a.target ≡ false → (k : PlainCallee) (t : Target i a.target k) → callee_of i a.target ≡ Some k → calls_other called k.cell ≡ true → IsBroken a.target
    other_sound other k t e h =
        let r = any_in (λ l. not (nat_eq l.cell k.cell)) called h in
        record {
          cell = k.cell;
          calls = calls_of other k t;
          breaks = another_cell ((r.0.cell, (called_sound i assigns r.0 r.1).calls, not_same r.0.cell k.cell (from_not (nat_eq r.0.cell k.cell) r.2)), part_port_is i a.target k e);
        }

    enable_sound : is_primitive_enable i a.target ≡ true → wrong_enable_of (part_of i) called driven a a.target ≡ true → IsBroken a.target
    enable_sound en h =
        let t = a.target in
        let r = any_in (λ k. not ((is_register_enable (part_of i) t && nat_eq (driven (cell_number t) (port_number t)) 1) && is_right_enable (done_of k) (a ∷ []))) called h in
        let s = called_sound i assigns r.0 r.1 in
        record {
          cell = r.0.cell;
          calls = s.calls;
          breaks = wrong_enable en (enable_alone r.0 s.calls.child t s.part refl (enable_cell i t en)
              ∙ from_not ((is_register_enable (part_of i) t && nat_eq (driven (cell_number t) (port_number t)) 1) && is_right_enable (done_of r.0) (a ∷ [])) r.2);
        }

    hole_sound : is_hole_of g a.target && is_bad ≡ true → IsBroken a.target
    hole_sound h =
        let b = and_both (is_hole_of g a.target) is_bad h in
        let dones = with_target (ports.Done g) assigns in
        let registers = captured (part_of i) assigns in
        let r = any_in (λ k. not (is_right_done (wanted_dones (done_of k) registers) dones)) called (sym bad_is ∙ b.1) in
        let s = called_sound i assigns r.0 r.1 in
        record {
          cell = r.0.cell;
          calls = s.calls;
          breaks = subst (λ p. CallBreak i g r.0.cell s.calls.child p) (sym (hole_is g a.target b.0))
              (wrong_done (ap (λ p. is_right_done (wanted_dones p registers) dones) (sym (done_same r.0 s.calls.child s.part)) ∙ from_not (is_right_done (wanted_dones (done_of r.0) registers) dones) r.2));
        }

    pub sound : is_static_port i a.target ≡ false → is_wrong i g called driven dependent is_bad a a.target ≡ true → IsBroken a.target
    sound other h = choice (callee_of i a.target) refl h
      where
        bare : (b : Bool) → is_primitive_enable i a.target ≡ b → cond b (wrong_enable_of (part_of i) called driven a a.target) (is_hole_of g a.target && is_bad) ≡ true → IsBroken a.target
        bare true e h = enable_sound e h
        bare false e h = hole_sound h

        choice : (o : Option PlainCallee) → callee_of i a.target ≡ o → wrong_for i g called driven dependent is_bad a o a.target ≡ true → IsBroken a.target
        choice None e h = bare (is_primitive_enable i a.target) refl h
        choice (Some k) e h =
            let t = target_of i a.target k e in
            ⊎_elim
            (λ o. other_sound other k t e o)
            (λ p. port_sound other k t (part_port k.part (port_number a.target)) refl p)
            (or_either (calls_other called k.cell) (wrong_port driven dependent a k (port_number a.target) (part_port k.part (port_number a.target))) h)

    -- A BREAK, so wrong
    of_callee : (k : PlainCallee) (t : PortRef) → callee_of i t ≡ Some k → (calls_other called k.cell ≡ true) ⊎ (wrong_port driven dependent a k (port_number t) (part_port k.part (port_number t)) ≡ true)
        → is_wrong i g called driven dependent is_bad a t ≡ true
    of_callee k t e h =
        ap (λ o. wrong_for i g called driven dependent is_bad a o t) e
        ∙ ⊎_elim
        (λ o. or_left (calls_other called k.cell) (wrong_port driven dependent a k (port_number t) (part_port k.part (port_number t))) o)
        (λ p. or_right (calls_other called k.cell) (wrong_port driven dependent a k (port_number t) (part_port k.part (port_number t))) p)
        h

    other_of : (c e cell : ℕ) → Calls i assigns c → Calls i assigns e → e ≢ c → calls_other called cell ≡ true
    other_of c e cell x y ne = choice (nat_eq c cell) refl
      where
        choice : (b : Bool) → nat_eq c cell ≡ b → calls_other called cell ≡ true
        choice true h =
            any_has (λ k. not (nat_eq k.cell cell)) called (callee e y.child) (called_all i assigns e y.child y.is_component y.dynamic y.driven)
            (not_from_false (nat_eq e cell) (other_than e cell (λ s. ne (s ∙ sym (from_eq c cell h)))))
        choice false h = any_has (λ k. not (nat_eq k.cell cell)) called (callee c x.child) (called_all i assigns c x.child x.is_component x.dynamic x.driven) (not_from_false (nat_eq c cell) h)

    bare_of : (t : PortRef) → callee_of i t ≡ None → wrong_bare i g called driven is_bad a t ≡ true → is_wrong i g called driven dependent is_bad a t ≡ true
    bare_of t e h = ap (λ o. wrong_for i g called driven dependent is_bad a o t) e ∙ h

    pub complete : {t : PortRef} (c : ℕ) (calls : Calls i assigns c) → a.target ≡ t → CallBreak i g c calls.child t → is_wrong i g called driven dependent is_bad a t ≡ true
    complete {t} c calls at (another_cell ((e, other, ne), part)) =
        let k = part_callee i t part in of_callee k.0 t k.1 (inl (other_of c e k.0.cell calls other ne))
    complete c calls at (wrong_go h) =
        let k = callee c calls.child in
        of_callee k (go_port c) (callee_is i c 0 calls.child calls.is_component)
        (inr (not_from_false (nat_eq (driven c 0) 1 && is_right_go (done_of k) (a ∷ [])) (sym (go_alone k calls.child refl at) ∙ h)))
    complete c calls at (input_by_output p ((n, input), (q, output, depends))) =
        let k = callee c calls.child in
        let is : IsDependent i g a.target = record { cell = c; input = p; is = at; child = calls.child; stands = calls.is_component; number = n; is_input = input; output = q; is_output = output; depends = depends } in
        of_callee k (ports.Cell c p) (callee_is i c p calls.child calls.is_component)
        (inr (ap (λ port. wrong_port driven dependent a k p port) input ∙ not_from_false (nat_eq (dependent c p) 0) ((dep a c p there at).1 is)))
    complete {t} c calls at (wrong_enable en h) =
        let k = callee c calls.child in
        bare_of t (enable_callee i t en)
        (ap (λ b. cond b (wrong_enable_of (part_of i) called driven a t) (is_hole_of g t && is_bad)) en
        ∙ any_has (λ l. not ((is_register_enable (part_of i) t && nat_eq (driven (cell_number t) (port_number t)) 1) && is_right_enable (done_of l) (a ∷ []))) called k
        (called_all i assigns c calls.child calls.is_component calls.dynamic calls.driven)
        (not_from_false ((is_register_enable (part_of i) t && nat_eq (driven (cell_number t) (port_number t)) 1) && is_right_enable (done_of k) (a ∷ [])) (sym (enable_alone k calls.child t refl at (enable_cell i t en)) ∙ h)))
    complete c calls at (wrong_done h) =
        let k = callee c calls.child in
        let dones = with_target (ports.Done g) assigns in
        let registers = captured (part_of i) assigns in
        bare_of (ports.Done g) refl
        (ap (λ b. b && is_bad) (equal g)
        ∙ bad_is ∙ any_has (λ l. not (is_right_done (wanted_dones (done_of l) registers) dones)) called k (called_all i assigns c calls.child calls.is_component calls.dynamic calls.driven)
        (not_from_false (is_right_done (wanted_dones (done_of k) registers) dones) h))
