-- THE CONTROL OF A STATIC CHILD, copied, is static.
use Rattle.std.proofs.Common.{◌≡◌, ℕ, zero, suc, ◌<◌, inl, Bool, true, false, List, length, Option, Some, None, refl, sym, ap, ◌∙◌, subst}
use Rattle.std.specs.Prelude.{is_some}
use Rattle.cx_meaning.specs.declared.ports.PortRef.{PortRef}
use Rattle.cx_meaning.specs.declared.kinds.GroupKind.{GroupKind}
use Rattle.cx_meaning.specs.declared.kinds.GroupKind.TheVariants as kinds
use Rattle.cx_meaning.specs.Designs.{PlainComponent, group_at, PlainForm, Empty, Enable, Seq, Par, If, While, Repeat, StaticSeq, StaticPar, StaticIf, StaticRepeat, Timed, PlainStatement, Placed, form_of}
use Rattle.cx_meaning.specs.Instances.{Instance, Node, Cells, no_cells, a_primitive, an_instance, OfInstance, cell_at}
use Rattle.cx_meaning.specs.Control.{groups_in, groups_of}
use Rattle.cx_meaning.specs.Islands.{kind_length, group_length}
use Rattle.cx_text.specs.Members.{In}
use Rattle.cx_rules.specs.Items.{InStatic}
use Rattle.cx_rules.specs.StaticControl.{may_stand}
use Rattle.cx_flattening.specs.Events.{the_invoke}
use Rattle.cx_flattening.specs.Copies.{copied_form, copied_statement}
use Rattle.cx_flattening.specs.Flattened.{kid_at, flat_kids, flat_part, invoke_port, copy_of, with_capture, inlined, flat_form, flat_statement}
use Rattle.cx_flattening.specs.Whole.{is_static}
use Rattle.cx_flattening.specs.Fair.{IsFair, AllFair, AllFairBelow}
use Rattle.cx_flattening.specs.Controlled.{timed_in, timed_of, IsInvoked, IsControlled, AllControlled, AllControlledBelow}
use Rattle.cx_flattening.specs.Asking.{IsStaticForm}
use Rattle.cx_flattening.proofs.CopiedControl.{statement_twice}
use Rattle.cx_flattening.proofs.FlatGroups.{own-length}
use Rattle.cx_flattening.proofs.LevelSights.{kid-static}
use Rattle.cx_flattening.proofs.FlatLengths.{Lasting, LastsAlike, invoke_lasting, kids_last}
use Rattle.cx_flattening.proofs.Ruled.{IsRuled, AllRuled, AllRuledBelow}
use Rattle.cx_flattening.proofs.FairParts.{some_of}

-- a group with a length is timed
kind_timed : (kind : GroupKind) → is_some (kind_length kind) ≡ true → (n : ℕ) × (kind ≡ kinds.Timed n)
kind_timed kinds.Plain e = absurd (let f : false ≡ true = e in cc)
kind_timed kinds.Comb e = absurd (let f : false ≡ true = e in cc)
kind_timed (kinds.Timed n) e = (n, refl)

pub timed_group : (J : PlainComponent) (g : ℕ) → is_some (group_length J g) ≡ true → (n : ℕ) × ((group_at J g).kind ≡ kinds.Timed n)
timed_group J g e = kind_timed (group_at J g).kind e

pub form_copied : (f : PortRef → PortRef) (copy : ℕ → ℕ) (s : PlainStatement) → form_of (copied_statement f copy s) ≡ copied_form f copy (form_of s)
form_copied f copy (Placed form place) = refl

form_captured : (f : PortRef → PortRef) (copy : ℕ → ℕ) (s : PlainStatement) → copied_form f copy (with_capture None s) ≡ form_of (copied_statement f copy s)
form_captured f copy (Placed form place) = refl

flat_form_of : (kids : List (Option PlainComponent)) (part : PlainComponent) (s : PlainStatement) → form_of (flat_statement kids part s) ≡ flat_form kids part (form_of s)
flat_form_of kids part (Placed form place) = refl

groups_form : (s : PlainStatement) (g : ℕ) → In (groups_in (form_of s)) g → In (groups_of s) g
groups_form (Placed form place) g i = i

pub timed_form : (s : PlainStatement) (k : ℕ) → In (timed_in (form_of s)) k → In (timed_of s) k
timed_form (Placed form place) k i = i

-- what is claimed of a tree
abbrev pub StaticControl : Instance → Type 0
StaticControl i = (J : PlainComponent) (f : PortRef → PortRef) (copy : ℕ → ℕ) → Lasting J (flat_part i) copy (groups_of (flat_part i).control) → IsStaticForm J (copied_form f copy (form_of (flat_part i).control))

module _ (part : PlainComponent) (cells : Cells) (ruled : IsRuled part (Node part cells)) (fair : IsFair (Node part cells)) (controlled : IsControlled (Node part cells))
    (lasting : (c : ℕ) (child : Instance) → cell_at cells c ≡ OfInstance child → LastsAlike child) (below : (c : ℕ) (child : Instance) → cell_at cells c ≡ OfInstance child → is_static child ≡ true → StaticControl child)
    (n : ℕ) (static : part.latency ≡ Some n) where
  stands : (form : PlainForm) → form_of part.control ≡ form → may_stand part InStatic form ≡ true
  stands form e = by (may_stand part InStatic form) refl
    where
      by : (b : Bool) → may_stand part InStatic form ≡ b → b ≡ true
      by true f = refl
      by false f = absurd (ruled.control n static (inl (ap (may_stand part InStatic) e ∙ f)))

  module _ (J : PlainComponent) (f : PortRef → PortRef) (copy : ℕ → ℕ) (lasts : Lasting J (flat_part (Node part cells)) copy (groups_of (flat_part (Node part cells)).control)) where
    lasts_form : (form : PlainForm) → form_of part.control ≡ form → Lasting J (flat_part (Node part cells)) copy (groups_in (flat_form (flat_kids cells) part form))
    lasts_form form e g i =
        lasts g (groups_form (flat_statement (flat_kids cells) part part.control) g
        (subst (λ x. In (groups_in x) g) (sym (flat_form_of (flat_kids cells) part part.control ∙ ap (flat_form (flat_kids cells) part) e)) i))

    enable_static : (g : ℕ) → form_of part.control ≡ Enable g → IsStaticForm J (Enable (copy g))
    enable_static g e =
        let inside : g < length part.groups = controlled.enables g (groups_form part.control g (subst (λ x. In (groups_in x) g) (sym e) (inl refl))) in
        timed_group J (copy g) (ap is_some (lasts_form (Enable g) e g (inl refl) ∙ own-length (flat_kids cells) part g inside) ∙ stands (Enable g) e)

    invoke_static : (k : ℕ) → form_of part.control ≡ Timed k → IsStaticForm J (copied_form f copy (flat_form (flat_kids cells) part (Timed k)))
    invoke_static k e =
        subst (λ o. IsStaticForm J (copied_form f copy (inlined (flat_kids cells) part o k (the_invoke part k)))) (sym at)
        (captured (the_invoke part k).captures refl)
      where
        there : k < length part.invokes
        there = controlled.timed k (timed_form part.control k (subst (λ x. In (timed_in x) k) (sym e) (inl refl)))

        its : IsInvoked (Node part cells) (the_invoke part k)
        its = controlled.invokes k there

        kid : PlainComponent
        kid = flat_part its.child

        at : kid_at (flat_kids cells) (the_invoke part k).cell ≡ Some kid
        at = kid-static cells (the_invoke part k).cell its.child its.stands its.static

        whole : Lasting J (flat_part (Node part cells)) copy (groups_in (with_capture (the_invoke part k).captures (copied_statement (invoke_port (flat_kids cells) part kid (the_invoke part k)) (copy_of (flat_kids cells) part kid k) kid.control)))
        whole = subst (λ o. Lasting J (flat_part (Node part cells)) copy (groups_in (inlined (flat_kids cells) part o k (the_invoke part k)))) at (lasts_form (Timed k) e)

        captured : (o : Option ℕ) → (the_invoke part k).captures ≡ o
            → IsStaticForm J (copied_form f copy (with_capture o (copied_statement (invoke_port (flat_kids cells) part kid (the_invoke part k)) (copy_of (flat_kids cells) part kid k) kid.control)))
        captured (Some g) h = tt
        captured None h =
            subst (IsStaticForm J)
            (sym (form_captured f copy (copied_statement (invoke_port (flat_kids cells) part kid (the_invoke part k)) (copy_of (flat_kids cells) part kid k) kid.control)
            ∙ ap form_of (statement_twice f (invoke_port (flat_kids cells) part kid (the_invoke part k)) copy (copy_of (flat_kids cells) part kid k) kid.control)
            ∙ form_copied (λ q. f (invoke_port (flat_kids cells) part kid (the_invoke part k) q)) (λ g. copy (copy_of (flat_kids cells) part kid k g)) kid.control))
            (below (the_invoke part k).cell its.child its.stands its.static J (λ q. f (invoke_port (flat_kids cells) part kid (the_invoke part k) q)) (λ g. copy (copy_of (flat_kids cells) part kid k g))
            (invoke_lasting part cells fair controlled lasting J copy k there kid at whole))

    by_form : (form : PlainForm) → form_of part.control ≡ form → IsStaticForm J (copied_form f copy (flat_form (flat_kids cells) part form))
    by_form Empty e = absurd (let none : false ≡ true = stands Empty e in cc)
    by_form (Enable g) e = enable_static g e
    by_form (Seq parts) e = absurd (let none : false ≡ true = stands (Seq parts) e in cc)
    by_form (Par arms) e = absurd (let none : false ≡ true = stands (Par arms) e in cc)
    by_form (If test comb a b) e = absurd (let none : false ≡ true = stands (If test comb a b) e in cc)
    by_form (While test comb a) e = absurd (let none : false ≡ true = stands (While test comb a) e in cc)
    by_form (Repeat count a) e = absurd (let none : false ≡ true = stands (Repeat count a) e in cc)
    by_form (StaticSeq written parts) e = tt
    by_form (StaticPar written arms) e = tt
    by_form (StaticIf written test a b) e = tt
    by_form (StaticRepeat written count a) e = tt
    by_form (Timed k) e = invoke_static k e

    pub part_static : IsStaticForm J (copied_form f copy (form_of (flat_part (Node part cells)).control))
    part_static = subst (λ x. IsStaticForm J (copied_form f copy x)) (sym (flat_form_of (flat_kids cells) part part.control)) (by_form (form_of part.control) refl)

mutual
  pub control_static : (i : Instance) → AllRuled i → AllFair i → AllControlled i → is_static i ≡ true → StaticControl i
  control_static (Node part cells) ruled fair controlled static J f copy lasts =
      let n = some_of part.latency static in
      part_static part cells ruled.0 fair.0 controlled.0 (kids_last cells fair.1 controlled.1) (λ c child at is. kids_static cells ruled.1 fair.1 controlled.1 c child at is) n.0 n.1 J f copy lasts

  pub kids_static : (cells : Cells) → AllRuledBelow cells → AllFairBelow cells → AllControlledBelow cells → (c : ℕ) (child : Instance) → cell_at cells c ≡ OfInstance child → is_static child ≡ true → StaticControl child
  kids_static no_cells ruled fair controlled c child at static = absurd (cc)
  kids_static (a_primitive row rest) ruled fair controlled zero child at static = absurd (cc)
  kids_static (a_primitive row rest) ruled fair controlled (suc c) child at static = kids_static rest ruled fair controlled c child at static
  kids_static (an_instance other rest) ruled fair controlled zero child at static =
      let same : other ≡ child = cc in subst StaticControl same (control_static other ruled.0 fair.0 controlled.0 (ap is_static same ∙ static))
  kids_static (an_instance other rest) ruled fair controlled (suc c) child at static = kids_static rest ruled.1 fair.1 controlled.1 c child at static
