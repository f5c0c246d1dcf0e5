-- Static statements of an accepted design have a length, which is not 0, and enable static groups alone.
use Rattle.std.proofs.Common.{◌≡◌, ℕ, ◌<◌, ◌⊎◌, inl, inr, ⊎_elim, Bool, true, false, ◌&&◌, ◌||◌, List, [], ◌∷◌, ◌++◌, Some, length, refl, sym, ap, ◌∙◌, subst, arith}
use Rattle.std.specs.Prelude.{is_some, nat_eq}
use Rattle.std.proofs.lemmas.Bool.{cases_lt}
use Rattle.cx_text.proofs.MemberLaws.{in_either, in_left, in_right, number_in}
use Rattle.cx_text.specs.declared.rules.Rule.TheVariants.{StaticShape}
use Rattle.cx_meaning.specs.Designs.{PlainComponent, PlainDesign, component_at, group_at, PlainForm, Empty, Enable, Seq, Par, If, While, Repeat, StaticSeq, StaticPar, StaticIf, StaticRepeat, Timed, PlainStatement, Placed, PlainStatements, no_statements, a_statement}
use Rattle.cx_meaning.specs.Instances.{part_of}
use Rattle.cx_text.specs.Members.{In}
use Rattle.cx_meaning.specs.Control.{groups_in, groups_of, groups_in_all}
use Rattle.cx_meaning.specs.Islands.{group_length, form_length}
use Rattle.cx_rules.specs.Ports.{component_of}
use Rattle.cx_rules.specs.Items.{Context, Dynamic, InStatic, Branch, Visited, visit, visit_parts, visit_all, statements_in}
use Rattle.cx_rules.specs.Spots.{AStatement, AGroup}
use Rattle.cx_rules.specs.ShapeRules.{is_hole, some_target, enabled_name}
use Rattle.cx_rules.specs.StaticControl.{is_static, is_in_static, may_stand, form_has_length, has_length, all_have_length}
use Rattle.cx_rules.specs.Invokes.{form_lasts}
use Rattle.cx_rules.specs.Flat.{IsFlat}
use Rattle.cx_rules.specs.Accepted.{IsAccepted}
use Rattle.cx_rules.proofs.InvokesLemmas.{form_lasts-flat, timed_may_not}
use Rattle.cx_meaning.proofs.DesignsLemmas.{same_part}
use Rattle.cx_text.proofs.NumberLaws.{false_true}

module _ (part : PlainComponent) where
  -- all may stand where they stand
  abbrev pub AllMay : List Visited → Type 0
  AllMay list = (v : Visited) → In list v → is_in_static v.context ≡ true → may_stand part v.context v.form ≡ true

  -- so a static statement has a length, and its groups are static
  pub record IsStatic (has_length : Bool) (groups : List ℕ) : Type 0 where
    pub has : has_length ≡ true
    pub static : (g : ℕ) → In groups g → is_some (group_length part g) ≡ true

  both_static : (a b : Bool) (gs hs : List ℕ) → IsStatic a gs → IsStatic b hs → IsStatic (a && b) (gs ++ hs)
  both_static a b gs hs first second = record { has = ap (λ c. c && b) first.has ∙ second.has; static = λ g i. either g (in_either gs hs g i) }
    where
      either : (g : ℕ) → In gs g ⊎ In hs g → is_some (group_length part g) ≡ true
      either g (inl i) = first.static g i
      either g (inr i) = second.static g i

  mutual
    pub static_form : part.invokes ≡ [] → (context : Context) (form : PlainForm) → may_stand part context form ≡ true → AllMay (visit_parts context form) → IsStatic (form_has_length part context form) (groups_in form)
    static_form none context Empty m w = record { has = m; static = λ g i. absurd i }
    static_form none context (Enable h) m w = record { has = m; static = λ g i. one g i }
      where
        one : (g : ℕ) → In (h ∷ []) g → is_some (group_length part g) ≡ true
        one g (inl e) = subst (λ k. is_some (group_length part k) ≡ true) e m
        one g (inr none) = absurd none
    static_form none context (Seq parts) m w = absurd (false_true m)
    static_form none context (Par arms) m w = absurd (false_true m)
    static_form none context (If test comb a b) m w = absurd (false_true m)
    static_form none context (While test comb a) m w = absurd (false_true m)
    static_form none context (Repeat count a) m w = absurd (false_true m)
    static_form none context (StaticSeq length parts) m w = static_all none parts w
    static_form none context (StaticPar length arms) m w = static_all none arms w
    static_form none context (StaticIf length test a b) m w =
        both_static (has_length part Branch a) (has_length part Branch b) (groups_of a) (groups_of b)
        (static_part none Branch a refl (λ v i. w v (in_left (visit Branch a) (visit Branch b) v i))) (static_part none Branch b refl (λ v i. w v (in_right (visit Branch a) (visit Branch b) v i)))
    static_form none context (StaticRepeat length count a) m w = static_part none InStatic a refl w
    static_form none context (Timed k) m w = absurd (false_true (sym (timed_may_not part none context k) ∙ m))

    static_part : part.invokes ≡ [] → (context : Context) (s : PlainStatement) → is_in_static context ≡ true → AllMay (visit context s) → IsStatic (has_length part context s) (groups_of s)
    static_part none context (Placed form place) e w = static_form none context form (w (record { context = context; form = form; place = place }) (inl refl) e) (λ v i. w v (inr i))

    static_all : part.invokes ≡ [] → (ss : PlainStatements) → AllMay (visit_all InStatic ss) → IsStatic (all_have_length part ss) (groups_in_all ss)
    static_all none no_statements w = record { has = refl; static = λ g i. absurd i }
    static_all none (a_statement s ss) w =
        both_static (has_length part InStatic s) (all_have_length part ss) (groups_of s) (groups_in_all ss)
        (static_part none InStatic s refl (λ v i. w v (in_left (visit InStatic s) (visit_all InStatic ss) v i))) (static_all none ss (λ v i. w v (in_right (visit InStatic s) (visit_all InStatic ss) v i)))

  -- a static statement may stand in dynamic control
  pub static_may : (form : PlainForm) → is_static form ≡ true → may_stand part Dynamic form ≡ true
  static_may Empty e = absurd (false_true e)
  static_may (Enable g) e = absurd (false_true e)
  static_may (Seq parts) e = absurd (false_true e)
  static_may (Par arms) e = absurd (false_true e)
  static_may (If test comb a b) e = absurd (false_true e)
  static_may (While test comb a) e = absurd (false_true e)
  static_may (Repeat count a) e = absurd (false_true e)
  static_may (StaticSeq length parts) e = refl
  static_may (StaticPar length arms) e = refl
  static_may (StaticIf length test a b) e = refl
  static_may (StaticRepeat length count a) e = refl
  static_may (Timed k) e = absurd (false_true e)

-- THE RULES on static control, in a component
module _ (d : PlainDesign) (accepted : IsAccepted d) (k : ℕ) (within : k < length d.components) where
  may : (v : Visited) → In (statements_in (component_at d k)) v → is_in_static v.context ≡ true → may_stand (part_of (component_of d k)) v.context v.form ≡ true
  may v i static = either (may_stand (part_of (component_of d k)) v.context v.form) refl
    where
      either : (b : Bool) → may_stand (part_of (component_of d k)) v.context v.form ≡ b → b ≡ true
      either true e = refl
      either false e =
          let n = number_in (statements_in (component_at d k)) v i in
          absurd (accepted.shapes StaticShape (record { component = k; part = AStatement n.0 }) v.place (enabled_name (part_of (component_of d k)) v.form) refl
          (inr (inl (record { within = within; number = n.0; is = refl; statement = v; stands = n.1; breaks = (static, e, (refl, refl)) }))))

  pub all_may : AllMay (component_at d k) (statements_in (component_at d k))
  all_may v i static = subst (λ part. may_stand part v.context v.form ≡ true) (same_part d (length d.components) k) (may v i static)

  -- without static components it has the length of its groups
  module _ (flat : IsFlat d) where
    takes_cycles : (v : Visited) → In (statements_in (component_at d k)) v → is_static v.form ≡ true → form_has_length (part_of (component_of d k)) v.context v.form ≡ true → 0 < form_lasts (part_of (component_of d k)) v.form
    takes_cycles v i static has =
        ⊎_elim
        (λ l. l)
        (λ l. let n = number_in (statements_in (component_at d k)) v i in
        let none : form_lasts (part_of (component_of d k)) v.form ≡ 0 = omega arith in
        absurd (accepted.shapes StaticShape (record { component = k; part = AStatement n.0 }) v.place [] refl
        (inr (inr (inl (record { within = within; number = n.0; is = refl; statement = v; stands = n.1; breaks = (static, has, inr none, (refl, refl)) }))))))
        (cases_lt 0 (form_lasts (part_of (component_of d k)) v.form))

    pub static_lasts : (v : Visited) → In (statements_in (component_at d k)) v → is_static v.form ≡ true → form_has_length (component_at d k) v.context v.form ≡ true → 0 < form_length (component_at d k) v.form
    static_lasts v i static has =
        subst (λ n. 0 < n)
        (ap (λ part. form_lasts part v.form) (same_part d (length d.components) k) ∙ form_lasts-flat (component_at d k) (flat k within).no_invoke v.form)
        (takes_cycles v i static (subst (λ part. form_has_length part v.context v.form ≡ true) (sym (same_part d (length d.components) k)) has))

  pub group_lasts : (g n : ℕ) → g < length (component_at d k).groups → group_length (component_at d k) g ≡ Some n → 0 < n
  group_lasts g n there is =
      ⊎_elim
      (λ l. l)
      (λ l. let none : n ≡ 0 = omega arith in
      absurd (accepted.shapes StaticShape (record { component = k; part = AGroup g }) (group_at (part_of (component_of d k)) g).place (group_at (part_of (component_of d k)) g).name refl
      (inl (record {
        within = within;
        number = g;
        is = refl;
        stands = there;
        breaks = (n, subst (λ part. group_length part g ≡ Some n) (sym (same_part d (length d.components) k)) is, or_true (some_target is_hole (group_at (part_of (component_of d k)) g).assigns) (nat_eq n 0) (zero_is n none), (refl, refl));
      }))))
      (cases_lt 0 n)
    where
      zero_is : (m : ℕ) → m ≡ 0 → nat_eq m 0 ≡ true
      zero_is m e = subst (λ x. nat_eq x 0 ≡ true) (sym e) refl

      or_true : (a b : Bool) → b ≡ true → (a || b) ≡ true
      or_true true b e = refl
      or_true false b e = e
