-- WHAT CONTROL OWES whatever its leaves are: tests, and which groups static control enables.
use Rattle.std.proofs.Common.{◌≡◌, ℕ, ◌⊎◌, inl, inr, Bool, true, false, Option, Some, None, refl, sym, ap, ◌∙◌, subst}
use Rattle.std.specs.Prelude.{nat_eq, if◌then◌else◌}
use Rattle.std.proofs.lemmas.Bool.{eqb-true}
use Rattle.cx_text.proofs.MemberLaws.{in_right}
use Rattle.cx_text.specs.Members.{In}
use Rattle.cx_text.specs.declared.places.Place.{Place}
use Rattle.cx_meaning.specs.declared.kinds.GroupKind.{GroupKind}
use Rattle.cx_meaning.specs.declared.kinds.GroupKind.TheVariants as kinds
use Rattle.cx_meaning.specs.declared.ports.PortRef.{PortRef}
use Rattle.cx_meaning.specs.Designs.{PlainGroup, PlainComponent, group_at, PlainForm, Placed, PlainStatements, no_statements, a_statement}
use Rattle.cx_meaning.specs.Instances.{Instance, Node, Cells, State}
use Rattle.cx_meaning.specs.Active.{comb}
use Rattle.cx_meaning.specs.Sights.{Held}
use Rattle.cx_meaning.specs.Cycles.{Fault}
use Rattle.cx_meaning.specs.Answers.{Test, Holds, Fails, Unclear}
use Rattle.cx_meaning.specs.Control.{groups_in}
use Rattle.cx_meaning.specs.Islands.{kind_length, group_length}
use Rattle.cx_meaning.specs.Calls.{test}
use Rattle.cx_rules.specs.Circles.{IsAcyclic}
use Rattle.cx_rules.specs.Items.{Context, Dynamic, Visited, visit, visit_all, statements_in, is_plain, is_comb}
use Rattle.cx_rules.specs.StaticControl.{is_static}
use Rattle.cx_rules.specs.Wellformed.{IsWith}
use Rattle.cx_rules.proofs.CirclesLemmas.{own_acyclic}
use Rattle.cx_rewrites.specs.Carrying.{NoLater, TestCarried}
use Rattle.cx_rewrites.specs.Beside.{joined}
use Rattle.cx_promotion.specs.Made.{IsPromoted}
use Rattle.cx_promotion.proofs.Twins.{Twins, beside_each}
use Rattle.cx_promotion.proofs.MadeBeside.{MadeBeside}
use Rattle.cx_promotion.proofs.Shapes.{shape_of}
use Rattle.cx_promotion.proofs.Members.{group_made, not_promoted, not_promoted_kind}
use Rattle.cx_promotion.proofs.Stays.{IsIdle}
use Rattle.cx_promotion.proofs.StaticStays.{parts_static}
use Rattle.cx_promotion.proofs.LeavesQuicken.{same_fault, test_stays}
use Rattle.cx_promotion.proofs.Impossible.{no_true}
use Rattle.cx_rules.proofs.ItemsLemmas.{plain_untimed}

comb_no_plain : (kind : GroupKind) → is_comb kind ≡ true → is_plain kind ≡ false
comb_no_plain kinds.Plain e = no_true e
comb_no_plain kinds.Comb e = refl
comb_no_plain (kinds.Timed n) e = no_true e

-- statements behind others are visited with them
pub visit_joined : (context : Context) (first later : PlainStatements) (v : Visited) → In (visit_all context later) v → In (visit_all context (joined first later)) v
visit_joined context no_statements later v k = k
visit_joined context (a_statement s ss) later v k = in_right (visit context s) (visit_all context (joined ss later)) v (visit_joined context ss later v k)

test_itself : (x : Test Fault) → TestCarried NoLater same_fault x x
test_itself Holds = refl
test_itself Fails = refl
test_itself (Unclear f) = tt

module _ (part other : PlainComponent) (cells more : Cells) (t : Twins MadeBeside (Node part cells) (Node other more)) (held : Held) where
  abbrev i : Instance
  i = Node part cells

  abbrev j : Instance
  j = Node other more

  abbrev h : MadeBeside i j
  h = beside_each MadeBeside i j t

  abbrev P : ℕ → Type 0
  P g = IsPromoted h.whole part other g

  -- TESTS
  comb_idle : (with_group : Option ℕ) → IsWith part with_group → IsIdle i j h (comb with_group)
  comb_idle None is g promoted = refl
  comb_idle (Some k) is g promoted = by (nat_eq k g) refl
    where
      by : (b : Bool) → nat_eq k g ≡ b → ◌≡◌ {A = Option ℕ} (if b then Some 0 else None) None
      by true e = absurd (not_promoted_kind h.whole part other k (comb_no_plain (group_at part k).kind is.1) (subst P (sym (eqb-true k g e)) promoted))
      by false e = refl

  comb_acyclic : (with_group : Option ℕ) → IsWith part with_group → IsAcyclic i (comb with_group)
  comb_acyclic None is = own_acyclic i h.acyclic
  comb_acyclic (Some k) is = h.groups k is.0

  pub tests_carry : (p : PortRef) (with_group : Option ℕ) → IsWith part with_group → (s z : State) → s ≡ z → TestCarried NoLater same_fault (test i held p with_group s) (test j held p with_group z)
  tests_carry p with_group is s z same =
      subst (λ x. TestCarried NoLater same_fault (test i held p with_group s) x)
      (ap (test i held p with_group) same ∙ sym (test_stays i j t held p with_group z (comb_idle with_group is) (comb_acyclic with_group is)))
      (test_itself (test i held p with_group s))

  -- STATIC CONTROL of the source
  pub static_still : (form : PlainForm) (place : Place) → is_static form ≡ true → ((v : Visited) → In (visit Dynamic (Placed form place)) v → In (statements_in part) v)
      → (g : ℕ) → In (groups_in form) g → (P g → ⊥) × (group_length other g ≡ group_length part g)
  static_still form place is sub g k = by (group_made h.whole h.made.groups g)
    where
      by : (group_at other g ≡ group_at part g) ⊎ P g → (P g → ⊥) × (group_length other g ≡ group_length part g)
      by (inl stays) = (not_promoted h.whole part other g stays, ap (λ (x : PlainGroup). kind_length x.kind) stays)
      by (inr promoted) =
          absurd (plain_untimed (group_at part g).kind (shape_of h.whole (group_at part g) promoted.0 promoted.1).plain
          (parts_static part Dynamic form is (λ v inside stat. h.statics v (sub v (inr inside)) stat) g k))
