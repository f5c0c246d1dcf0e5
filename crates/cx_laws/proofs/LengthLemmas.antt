-- In an accepted design no static if is empty.
use Rattle.std.proofs.Common.{◌≡◌, ℕ, ◌<◌, inl, inr, ⊎_elim, true, List, [], length, refl, sym, subst}
use Rattle.std.proofs.lemmas.Bool.{cases_lt}
use Rattle.std.proofs.lemmas.List.{get_or_past}
use Rattle.cx_text.proofs.MemberLaws.{in_left, in_right}
use Rattle.cx_text.specs.declared.places.Place.{Place}
use Rattle.cx_meaning.specs.Designs.{PlainComponent, PlainDesign, component_at, no_component, PlainForm, Empty, Enable, Seq, Par, If, While, Repeat, StaticSeq, StaticPar, StaticIf, StaticRepeat, Timed, PlainStatement, Placed, PlainStatements, no_statements, a_statement}
use Rattle.cx_meaning.specs.Instances.{Instance, part_of, tree_of, Path, instance_at}
use Rattle.cx_text.specs.Members.{In}
use Rattle.cx_meaning.specs.Islands.{form_length}
use Rattle.cx_rules.specs.Items.{Context, InStatic, Branch, Visited, visit, visit_parts, visit_all, statements_in}
use Rattle.cx_rules.specs.StaticControl.{is_static, is_in_static, may_stand, form_has_length}
use Rattle.cx_rules.specs.Accepted.{IsAccepted}
use Rattle.cx_rules.specs.Flat.{IsFlat}
use Rattle.cx_rules.proofs.CountsLemmas.{no_invokes}
use Rattle.cx_rules.proofs.CircleLemmas.{Reached, a_tree, no_tree, reached}
use Rattle.cx_laws.specs.Positions.{StatementIfs, AllIfs, HasNoEmptyIf}
use Rattle.cx_laws.proofs.VisitLemmas.{AllHold, first_hold, rest_hold, visited}
use Rattle.cx_laws.proofs.StaticLemmas.{AllMay, static_form, all_may, static_lasts}
use Rattle.cx_meaning.proofs.DesignsLemmas.{same_part}

-- it may stand where it stands, and where it is static and has a length this is not 0
pub record StandsWell (part : PlainComponent) (v : Visited) : Type 0 where
  pub stands : is_in_static v.context ≡ true → may_stand part v.context v.form ≡ true
  pub lasts : is_static v.form ≡ true → form_has_length part v.context v.form ≡ true → 0 < form_length part v.form

module _ (part : PlainComponent) (none : part.invokes ≡ []) where
  stand_well : (list : List Visited) → AllHold (StandsWell part) list → AllMay part list
  stand_well list w v i = (w v i).stands

  -- where all may stand in static control there is a length
  pub long_form : (context : Context) (form : PlainForm) → may_stand part context form ≡ true → AllHold (StandsWell part) (visit_parts context form) → form_has_length part context form ≡ true
  long_form context form m w = (static_form part none context form m (stand_well (visit_parts context form) w)).has

  -- so each static if takes a cycle
  mutual
    pub ifs_form : (context : Context) (form : PlainForm) (place : Place) → AllHold (StandsWell part) (visit context (Placed form place)) → HasNoEmptyIf part form
    ifs_form context Empty place w = tt
    ifs_form context (Enable g) place w = tt
    ifs_form context (Seq parts) place w = tt
    ifs_form context (Par arms) place w = tt
    ifs_form context (If test comb a b) place w = tt
    ifs_form context (While test comb a) place w = tt
    ifs_form context (Repeat count a) place w = tt
    ifs_form context (StaticSeq length parts) place w = ifs_all parts (λ v i. w v (inr i))
    ifs_form context (StaticPar length arms) place w = ifs_all arms (λ v i. w v (inr i))
    ifs_form context (StaticIf length test a b) place w = (
      (w (record { context = context; form = StaticIf length test a b; place = place }) (inl refl)).lasts refl (long_form context (StaticIf length test a b) refl (λ v i. w v (inr i))),
      ifs Branch a (λ v i. w v (inr (in_left (visit Branch a) (visit Branch b) v i))),
      ifs Branch b (λ v i. w v (inr (in_right (visit Branch a) (visit Branch b) v i))),
    )
    ifs_form context (StaticRepeat length count a) place w = ifs InStatic a (λ v i. w v (inr i))
    ifs_form context (Timed k) place w = tt

    ifs : (context : Context) (s : PlainStatement) → AllHold (StandsWell part) (visit context s) → StatementIfs (λ n. 0 < n) part s
    ifs context (Placed form place) w = ifs_form context form place w

    ifs_all : (ss : PlainStatements) → AllHold (StandsWell part) (visit_all InStatic ss) → AllIfs (λ n. 0 < n) part ss
    ifs_all no_statements w = tt
    ifs_all (a_statement s ss) w = (ifs InStatic s (first_hold (visit InStatic s) (visit_all InStatic ss) w), ifs_all ss (rest_hold (visit InStatic s) (visit_all InStatic ss) w))

module _ (d : PlainDesign) (flat : IsFlat d) (accepted : IsAccepted d) (k : ℕ) (within : k < length d.components) where
  pub stands_well : (v : Visited) → In (statements_in (component_at d k)) v → StandsWell (component_at d k) v
  stands_well v i = record { stands = all_may d accepted k within v i; lasts = static_lasts d accepted k within flat v i }

  pub no_empty : (v : Visited) → In (statements_in (component_at d k)) v → HasNoEmptyIf (component_at d k) v.form
  no_empty v i = ifs_form (component_at d k) (no_invokes d flat k) v.context v.form v.place (λ w j. stands_well w (visited _ (component_at d k).control v w i j))

-- an instance without a component has no statement but the empty one
pub no_empty_bare : (part : PlainComponent) → part ≡ no_component → (v : Visited) → In (statements_in part) v → HasNoEmptyIf part v.form
no_empty_bare part e v i = subst (λ x. HasNoEmptyIf x v.form) (sym e) (of_bare (subst (λ x. In (statements_in x) v) e i))
  where
    of_bare : In (statements_in no_component) v → HasNoEmptyIf no_component v.form
    of_bare (inl f) = subst (λ w. HasNoEmptyIf no_component w.form) f tt
    of_bare (inr none) = absurd none

module _ (d : PlainDesign) (flat : IsFlat d) (accepted : IsAccepted d) (v : Visited) where
  no_empty_part : (k : ℕ) → In (statements_in (component_at d k)) v → HasNoEmptyIf (component_at d k) v.form
  no_empty_part k i =
      ⊎_elim
      (λ l. no_empty d flat accepted k l v i)
      (λ l. no_empty_bare (component_at d k) (get_or_past d.components k no_component l) v i)
      (cases_lt k (length d.components))

  no_empty_reached : {i : Instance} → Reached d i → In (statements_in (part_of i)) v → HasNoEmptyIf (part_of i) v.form
  no_empty_reached (a_tree m k) i = subst (λ x. HasNoEmptyIf x v.form) (sym (same_part d m k)) (no_empty_part k (subst (λ x. In (statements_in x) v) (same_part d m k) i))
  no_empty_reached no_tree i = no_empty_bare no_component refl v i

  pub no_empty_if : (path : Path) → In (statements_in (part_of (instance_at (tree_of d) path))) v → HasNoEmptyIf (part_of (instance_at (tree_of d) path)) v.form
  no_empty_if path i = no_empty_reached (reached d path (length d.components) d.main) i
