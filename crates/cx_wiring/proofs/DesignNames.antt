-- The groups that a lowered component of a design names are there: those that its control enables, the comb groups of its tests, those
-- of its islands, and those whose done is driven.
use Rattle.std.proofs.Common.{◌≡◌, inl, inr, ⊎_elim, ℕ, ◌+◌, ◌*◌, ◌<◌, Bool, true, false, List, [], ◌∷◌, ◌++◌, length, Option, Some, None, cond, refl, ap, sym, ◌∙◌, subst, arith}
use Rattle.std.specs.Prelude.{filter}
use Rattle.std.proofs.lemmas.Bool.{cases_lt}
use Rattle.std.proofs.lemmas.List.{get_or_past}
use Rattle.cx_text.proofs.MemberLaws.{in_left, in_right}
use Rattle.cx_meaning.specs.declared.ports.PortRef.{PortRef}
use Rattle.cx_meaning.specs.declared.ports.PortRef.TheVariants as ports
use Rattle.cx_meaning.specs.Active.{Owned, owned, owned_by_groups, source_order}
use Rattle.cx_meaning.specs.Designs.{PlainAssign, PlainGroup, PlainComponent, PlainDesign, component_at, group_at, no_group, PlainForm, Empty, Enable, Seq, Par, If, While, Repeat, StaticSeq, StaticPar, StaticIf, StaticRepeat, Timed, PlainStatement, Placed, PlainStatements, no_statements, a_statement}
use Rattle.cx_meaning.specs.Instances.{Instance, part_of}
use Rattle.cx_meaning.specs.Islands.{group_length, form_length, length_of}
use Rattle.cx_text.specs.Members.{In}
use Rattle.cx_rules.specs.Items.{Context, Dynamic, InStatic, Branch, below_dynamic, Visited, visit, visit_parts, visit_all}
use Rattle.cx_rules.specs.Ports.{component_of}
use Rattle.cx_rules.specs.Wellformed.{IsThere, StandsIn, IsWith, IsForm, IsDesign}
use Rattle.cx_rules.proofs.ForeignLemmas.{sorted_among, owned_among, split, groups_among}
use Rattle.cx_static.specs.Islands.{PlainOccurrence, PlainIsland}
use Rattle.cx_static.specs.Lowering.{Gathered, Begin, begin_at, later, if_sampled, with_timer, with_point, with_occurrence, form_gathered, gathered, parts_gathered, arms_gathered, island_of, island_gathered, Lowering, with_island, after_enable, lowered_enable, form_after, after, parts_after, lowered_form, lowered, lowered_parts, unlowered, lowered_component}
use Rattle.cx_wiring.specs.Assignments.{is_driven, driven_assigns}
use Rattle.cx_wiring.specs.Bounds.{OccurrencesName, IslandsName, CombNames, FormNames, StatementNames, PartsName, TargetNames, AssignsName}
use Rattle.cx_wiring.specs.Wiring.{groups}
use Rattle.cx_meaning.proofs.DesignsLemmas.{same_part}

occurrences_both : (count : ℕ) (xs ys : List PlainOccurrence) → OccurrencesName count xs → OccurrencesName count ys → OccurrencesName count (xs ++ ys)
occurrences_both count [] ys some more = more
occurrences_both count (x ∷ xs) ys some more = (some.0, occurrences_both count xs ys some.1 more)

islands_both : (count : ℕ) (xs ys : List PlainIsland) → IslandsName count xs → IslandsName count ys → IslandsName count (xs ++ ys)
islands_both count [] ys some more = more
islands_both count (x ∷ xs) ys some more = (some.0, islands_both count xs ys some.1 more)

module _ (part : PlainComponent) where
  -- the statements in a list keep the rule of their forms
  abbrev KeepForms : List Visited → Type 0
  KeepForms vs = (v : Visited) → In vs v → IsForm part v.form

  keep_first : (vs more : List Visited) → KeepForms (vs ++ more) → KeepForms vs
  keep_first vs more keep v i = keep v (in_left vs more v i)

  keep_rest : (vs more : List Visited) → KeepForms (vs ++ more) → KeepForms more
  keep_rest vs more keep v i = keep v (in_right vs more v i)

  comb_named : (comb : Option ℕ) → IsWith part comb → CombNames (length part.groups) comb
  comb_named None is = tt
  comb_named (Some g) is = is.0

  enable_named : (g : ℕ) (o : Option ℕ) (l : Lowering) → g < length part.groups → FormNames (length part.groups) (lowered_enable part g o l)
  enable_named g None l is = is
  enable_named g (Some n) l is = tt

  -- CONTROL
  mutual
    form_named : (form : PlainForm) (context : Context) (l : Lowering) → IsForm part form → KeepForms (visit_parts context form) → FormNames (length part.groups) (lowered_form part form l)
    form_named Empty context l is keep = tt
    form_named (Enable g) context l is keep = enable_named g (group_length part g) l is.0
    form_named (Seq parts) context l is keep = parts_named parts (below_dynamic context) l keep
    form_named (Par arms) context l is keep = parts_named arms (below_dynamic context) l keep
    form_named (If test comb a b) context l is keep = (
      comb_named comb is,
      (
        statement_named a (below_dynamic context) l (keep_first (visit (below_dynamic context) a) (visit (below_dynamic context) b) keep),
        statement_named b (below_dynamic context) (after part a l) (keep_rest (visit (below_dynamic context) a) (visit (below_dynamic context) b) keep),
      ),
    )
    form_named (While test comb a) context l is keep = (comb_named comb is, statement_named a (below_dynamic context) l keep)
    form_named (Repeat count a) context l is keep = statement_named a (below_dynamic context) l keep
    form_named (StaticSeq written parts) context l is keep = tt
    form_named (StaticPar written arms) context l is keep = tt
    form_named (StaticIf written test a b) context l is keep = tt
    form_named (StaticRepeat written count a) context l is keep = tt
    form_named (Timed k) context l is keep = tt

    statement_named : (s : PlainStatement) (context : Context) (l : Lowering) → KeepForms (visit context s) → StatementNames (length part.groups) (lowered part s l)
    statement_named (Placed form place) context l keep =
        form_named form context l (keep (record { context = context; form = form; place = place }) (inl refl)) (λ v i. keep v (inr i))

    parts_named : (ss : PlainStatements) (context : Context) (l : Lowering) → KeepForms (visit_all context ss) → PartsName (length part.groups) (lowered_parts part ss l)
    parts_named no_statements context l keep = tt
    parts_named (a_statement s ss) context l keep =
        (statement_named s context l (keep_first (visit context s) (visit_all context ss) keep), parts_named ss context (after part s l) (keep_rest (visit context s) (visit_all context ss) keep))

  -- ISLANDS: the groups of their occurrences
  abbrev HasNamed : Gathered → Type 0
  HasNamed g = OccurrencesName (length part.groups) g.occurrences

  occurrence_named : (group : ℕ) (x : Begin) (o : Option ℕ) (g : Gathered) → group < length part.groups → HasNamed g → HasNamed (with_occurrence group x o g)
  occurrence_named group x None g is named = named
  occurrence_named group x (Some n) g is named = occurrences_both (length part.groups) g.occurrences _ named (is, tt)

  mutual
    form_occurs : (form : PlainForm) (context : Context) (x : Begin) (g : Gathered) → IsForm part form → KeepForms (visit_parts context form) → HasNamed g → HasNamed (form_gathered part form x g)
    form_occurs Empty context x g is keep named = named
    form_occurs (Enable group) context x g is keep named = occurrence_named group x (group_length part group) g is.0 named
    form_occurs (Seq parts) context x g is keep named = named
    form_occurs (Par arms) context x g is keep named = named
    form_occurs (If test comb a b) context x g is keep named = named
    form_occurs (While test comb a) context x g is keep named = named
    form_occurs (Repeat count a) context x g is keep named = named
    form_occurs (StaticSeq written parts) context x g is keep named = parts_occur parts x g keep named
    form_occurs (StaticPar written arms) context x g is keep named = arms_occur arms x g keep named
    form_occurs (StaticIf written test a b) context x g is keep named =
        occurs b Branch (if_sampled (length g.points) false x) (gathered part a (if_sampled (length g.points) true x) (with_point test.port x g)) (keep_rest (visit Branch a) (visit Branch b) keep)
        (occurs a Branch (if_sampled (length g.points) true x) (with_point test.port x g) (keep_first (visit Branch a) (visit Branch b) keep) named)
    form_occurs (StaticRepeat written count a) context x g is keep named =
        occurs a InStatic (begin_at (length g.timers) 0 x.samples) (with_timer part.place (length_of part a) (Some x.timer) x.at (x.at + count * length_of part a) g) keep named
    form_occurs (Timed k) context x g is keep named = named

    occurs : (s : PlainStatement) (context : Context) (x : Begin) (g : Gathered) → KeepForms (visit context s) → HasNamed g → HasNamed (gathered part s x g)
    occurs (Placed form place) context x g keep named =
        form_occurs form context x g (keep (record { context = context; form = form; place = place }) (inl refl)) (λ v i. keep v (inr i)) named

    parts_occur : (ss : PlainStatements) (x : Begin) (g : Gathered) → KeepForms (visit_all InStatic ss) → HasNamed g → HasNamed (parts_gathered part ss x g)
    parts_occur no_statements x g keep named = named
    parts_occur (a_statement s ss) x g keep named =
        parts_occur ss (later (length_of part s) x) (gathered part s x g) (keep_rest (visit InStatic s) (visit_all InStatic ss) keep) (occurs s InStatic x g (keep_first (visit InStatic s) (visit_all InStatic ss) keep) named)

    arms_occur : (ss : PlainStatements) (x : Begin) (g : Gathered) → KeepForms (visit_all InStatic ss) → HasNamed g → HasNamed (arms_gathered part ss x g)
    arms_occur no_statements x g keep named = named
    arms_occur (a_statement s ss) x g keep named =
        arms_occur ss x (gathered part s x g) (keep_rest (visit InStatic s) (visit_all InStatic ss) keep) (occurs s InStatic x g (keep_first (visit InStatic s) (visit_all InStatic ss) keep) named)

  abbrev AreNamed : Lowering → Type 0
  AreNamed l = IslandsName (length part.groups) l.islands

  island_named : (form : PlainForm) (context : Context) (l : Lowering) → IsForm part form → KeepForms (visit_parts context form) → AreNamed l → AreNamed (with_island part form l)
  island_named form context l is keep named =
      islands_both (length part.groups) l.islands (island_of (form_length part form) (island_gathered part form l.cells) ∷ []) named
      (form_occurs form context (begin_at 0 0 []) (with_timer part.place (form_length part form) None 0 (form_length part form) (record { cells = l.cells; timers = []; points = []; occurrences = [] })) is keep tt, tt)

  enable_islands : (g : ℕ) (o : Option ℕ) (context : Context) (l : Lowering) → IsForm part (Enable g) → AreNamed l → AreNamed (after_enable part g o l)
  enable_islands g None context l is named = named
  enable_islands g (Some n) context l is named = island_named (Enable g) context l is (λ v i. absurd i) named

  mutual
    form_islands : (form : PlainForm) (context : Context) (l : Lowering) → IsForm part form → KeepForms (visit_parts context form) → AreNamed l → AreNamed (form_after part form l)
    form_islands Empty context l is keep named = named
    form_islands (Enable g) context l is keep named = enable_islands g (group_length part g) context l is named
    form_islands (Seq parts) context l is keep named = parts_islands parts (below_dynamic context) l keep named
    form_islands (Par arms) context l is keep named = parts_islands arms (below_dynamic context) l keep named
    form_islands (If test comb a b) context l is keep named =
        statement_islands b (below_dynamic context) (after part a l) (keep_rest (visit (below_dynamic context) a) (visit (below_dynamic context) b) keep)
        (statement_islands a (below_dynamic context) l (keep_first (visit (below_dynamic context) a) (visit (below_dynamic context) b) keep) named)
    form_islands (While test comb a) context l is keep named = statement_islands a (below_dynamic context) l keep named
    form_islands (Repeat count a) context l is keep named = statement_islands a (below_dynamic context) l keep named
    form_islands (StaticSeq written parts) context l is keep named = island_named (StaticSeq written parts) context l is keep named
    form_islands (StaticPar written arms) context l is keep named = island_named (StaticPar written arms) context l is keep named
    form_islands (StaticIf written test a b) context l is keep named = island_named (StaticIf written test a b) context l is keep named
    form_islands (StaticRepeat written count a) context l is keep named = island_named (StaticRepeat written count a) context l is keep named
    form_islands (Timed k) context l is keep named = named

    statement_islands : (s : PlainStatement) (context : Context) (l : Lowering) → KeepForms (visit context s) → AreNamed l → AreNamed (after part s l)
    statement_islands (Placed form place) context l keep named =
        form_islands form context l (keep (record { context = context; form = form; place = place }) (inl refl)) (λ v i. keep v (inr i)) named

    parts_islands : (ss : PlainStatements) (context : Context) (l : Lowering) → KeepForms (visit_all context ss) → AreNamed l → AreNamed (parts_after part ss l)
    parts_islands no_statements context l keep named = named
    parts_islands (a_statement s ss) context l keep named =
        parts_islands ss context (after part s l) (keep_rest (visit context s) (visit_all context ss) keep) (statement_islands s context l (keep_first (visit context s) (visit_all context ss) keep) named)

  -- ASSIGNMENTS stand in their groups
  group_there : (g : ℕ) (a : PlainAssign) → In (group_at part g).assigns a → g < length part.groups
  group_there g a i =
      ⊎_elim (λ h. h) (λ h. absurd (subst (λ (x : PlainGroup). In x.assigns a) (get_or_past part.groups g no_group h) i)) (cases_lt g (length part.groups))

  pub stands_in : (o : Owned) → In (source_order part) o → StandsIn part o.owner o.assign
  stands_in o i =
      ⊎_elim
      (λ j. let r = owned_among None part.always o j in subst (λ w. StandsIn part w o.assign) (sym r.0) r.1)
      (λ j. let r = groups_among 0 part.groups o j in let e : 0 + r.number ≡ r.number = omega arith in
      subst (λ w. StandsIn part w o.assign) (sym (r.owner ∙ ap Some e)) (group_there r.number o.assign r.stands, r.stands))
      (split (owned None part.always) (owned_by_groups 0 part.groups) o (sorted_among (owned None part.always ++ owned_by_groups 0 part.groups) o i))

module _ {A : Type 0} (p : A → Bool) where
  in_one : (x : A) (xs ys : List A) (y : A) (b : Bool) → (In ys y → In xs y) → In (cond b (x ∷ ys) ys) y → In (x ∷ xs) y
  in_one x xs ys y true later (inl e) = inl e
  in_one x xs ys y true later (inr i) = inr (later i)
  in_one x xs ys y false later i = inr (later i)

  -- what passes a test among others is one of them
  pub in_filter : (xs : List A) (y : A) → In (filter p xs) y → In xs y
  in_filter [] y i = i
  in_filter (x ∷ xs) y i = in_one x xs (filter p xs) y (p x) (in_filter xs y) i

target_named : (i : Instance) (count : ℕ) (p : PortRef) → length (part_of i).groups ≡ count → IsThere i p → TargetNames count p
target_named i count (ports.Cell c p) is there = tt
target_named i count (ports.Input n) is there = tt
target_named i count (ports.Output n) is there = tt
target_named i count (ports.Done g) is there = subst (λ n. g < n) is there
target_named i count (ports.Literal w v) is there = tt

assigns_named_by : (count : ℕ) (list : List Owned) → ((o : Owned) → In list o → TargetNames count o.assign.target) → AssignsName count list
assigns_named_by count [] each = tt
assigns_named_by count (o ∷ list) each = (each o (inl refl), assigns_named_by count list (λ x i. each x (inr i)))

module _ (d : PlainDesign) (rules : IsDesign d) (k : ℕ) (within : k < length d.components) where
  forms_keep : KeepForms (component_at d k) (visit Dynamic (component_at d k).control)
  forms_keep v i = subst (λ part. IsForm part v.form) (same_part d (length d.components) k) ((rules.components k within).statements v i).form

  -- the groups that control enables, and the comb groups of its tests
  pub control_named : StatementNames (groups (lowered_component (component_at d k))) (lowered_component (component_at d k)).part.control
  control_named = statement_named (component_at d k) (component_at d k).control Dynamic (unlowered (component_at d k)) forms_keep

  -- the groups of islands
  pub islands_named : IslandsName (groups (lowered_component (component_at d k))) (lowered_component (component_at d k)).islands
  islands_named = statement_islands (component_at d k) (component_at d k).control Dynamic (unlowered (component_at d k)) forms_keep tt

  -- an assignment that drives in the net stands in the component
  pub driven_stands : (o : Owned) → In (driven_assigns (lowered_component (component_at d k))) o → StandsIn (component_at d k) o.owner o.assign
  driven_stands o i = stands_in (component_at d k) o (in_filter (is_driven (lowered_component (component_at d k))) (source_order (component_at d k)) o i)

  -- the groups whose done is driven
  pub assigns_named : AssignsName (groups (lowered_component (component_at d k))) (driven_assigns (lowered_component (component_at d k)))
  assigns_named =
      assigns_named_by (groups (lowered_component (component_at d k))) (driven_assigns (lowered_component (component_at d k)))
      (λ o i. target_named (component_of d k) (groups (lowered_component (component_at d k))) o.assign.target (ap (λ part. length part.groups) (same_part d (length d.components) k))
      ((rules.components k within).assigns o.owner o.assign (driven_stands o i)).target)
