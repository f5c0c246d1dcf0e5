-- What looking at statements finds are the breaks of the rule on races.
use Rattle.std.proofs.Common.{◌≡◌, ℕ, zero, suc, ◌+◌, ◌<◌, ◌≤◌, false, List, [], ◌∷◌, ◌++◌, Option, Some, None, length, map, slice_get, ◌⊎◌, inl, inr, ⊎_elim, refl, sym, ap, ◌∙◌, subst, arith}
use Rattle.std.proofs.lemmas.List.{length-map}
use Rattle.std.proofs.lemmas.Option.{slice_get_within}
use Rattle.cx_text.proofs.MemberLaws.{in_either, in_left, in_right}
use Rattle.cx_text.specs.declared.places.Place.{Place}
use Rattle.cx_text.specs.declared.rules.Rule.{Rule}
use Rattle.cx_text.specs.declared.rules.Rule.TheVariants as rule
use Rattle.cx_meaning.specs.Designs.{PlainComponent, PlainDesign, component_at, PlainForm, PlainStatement}
use Rattle.cx_meaning.specs.Instances.{part_of}
use Rattle.cx_text.specs.Members.{In}
use Rattle.cx_rules.specs.Ports.{component_of, cell_name}
use Rattle.cx_rules.specs.Items.{Visited, Dynamic, statements_in}
use Rattle.cx_rules.specs.Spots.{AStatement, Spot, Tells, OnStatement}
use Rattle.cx_rules.specs.RaceRule.{arms_of, IsShared, IsEnabledTwice, BreaksRace}
use Rattle.cx_rules.specs.Wellformed.{IsDesign}
use Rattle.cx_rules.specs.Accepted.{Breaks, stage_of, key_of, comes_before}
use Rattle.cx_design_parts.specs.Breaks.{Broken, key, first_of}
use Rattle.cx_design_parts.specs.Answers.{AreBreaks}
use Rattle.cx_design_parts.proofs.Lists.{first_append}
use Rattle.cx_race.specs.declared.parts.Footprints.{Footprints}
use Rattle.cx_race.specs.Cells.{targets_in_group, cells_in_group}
use Rattle.cx_race.specs.Footprints.{AreFootprints}
use Rattle.cx_race.proofs.FormLemmas.{visited_forms, arms_among}
use Rattle.cx_race.proofs.Bounds.{AreForms, groups_there, invoked_there, met_there, enabled_there}
use Rattle.cx_race.specs.declared.races.Race.{Race}
use Rattle.cx_race.specs.declared.races.Race.TheVariants.{Cell, Group}
use Rattle.cx_race.specs.Races.{AreWithin, IsFirstRace, race_name}
use Rattle.cx_race.specs.RaceBreaks.{race_break, IsAt, IsBefore, IsOf, IsBeforeOf, Looked}
use Rattle.cx_rules.proofs.SpotsLemmas.{same_number}
use Rattle.cx_rules.proofs.KeyOrder.{before_irreflexive}
use Rattle.cx_meaning.proofs.DesignsLemmas.{same_part}

-- nothing is looked at
pub looked_none : (d : PlainDesign) (At : Spot → Type 0) (best : Option Broken) → ((spot : Spot) → At spot → ⊥) → Looked d At best best
looked_none d At best none = record {
  found = [];
  first = refl;
  is_race = λ b i. absurd i;
  breaks = λ b i. absurd i;
  all = λ spot place name at o. absurd (none spot at);
}

-- some parts, and then others
pub looked_more : (d : PlainDesign) (At Bt Ct : Spot → Type 0) (best mid last : Option Broken) → ((spot : Spot) → Ct spot → At spot ⊎ Bt spot) → Looked d At best mid → Looked d Bt mid last → Looked d Ct best last
looked_more d At Bt Ct best mid last either a b = record {
  found = a.found ++ b.found;
  first = b.first ∙ ap (λ o. first_of o b.found) a.first ∙ sym (first_append best a.found b.found);
  is_race = λ x i. ⊎_elim (λ l. a.is_race x l) (λ r. b.is_race x r) (in_either a.found b.found x i);
  breaks = λ x i. ⊎_elim (λ l. a.breaks x l) (λ r. b.breaks x r) (in_either a.found b.found x i);
  all = λ spot place name at o. ⊎_elim
      (λ l. let h = a.all spot place name l o in (h.0, in_left a.found b.found h.0 h.1, h.2))
      (λ r. let h = b.all spot place name r o in (h.0, in_right a.found b.found h.0 h.1, h.2))
      (either spot at);
}

abbrev RaceIn : PlainComponent → Visited → Place → List ℕ → Type 0
RaceIn part v place name =
    ((c : ℕ) × IsShared part (arms_of v.form) c × ((e : ℕ) → e < c → IsShared part (arms_of v.form) e → ⊥) × Tells place name v.place (cell_name part.cells c))
    ⊎ (((c : ℕ) → IsShared part (arms_of v.form) c → ⊥)
    × ((g : ℕ) × IsEnabledTwice (arms_of v.form) g × ((h : ℕ) → h < g → IsEnabledTwice (arms_of v.form) h → ⊥) × Tells place name v.place (race_name part (Group g))))

told : (part : PlainComponent) (v : Visited) (race : Race) → IsFirstRace part (arms_of v.form) (Some race) → RaceIn part v v.place (race_name part race)
told part v (Cell c) h = inl (c, h.0, h.1, (refl, refl))
told part v (Group g) h = inr (h.0, (g, h.1.0, h.1.1, (refl, refl)))

some_race : (part : PlainComponent) (v : Visited) (place : Place) (name : List ℕ) (race : Option Race) → IsFirstRace part (arms_of v.form) race → RaceIn part v place name → (r : Race) × (race ≡ Some r) × (place ≡ v.place)
some_race part v place name None h (inl b) = absurd (h.0 b.0 b.1)
some_race part v place name None h (inr b) = absurd (h.1 b.1.0 b.1.1)
some_race part v place name (Some r) h (inl b) = (r, refl, b.3.0)
some_race part v place name (Some r) h (inr b) = (r, refl, b.1.3.0)

abbrev broken : PlainComponent → Spot → Place → Race → Broken
broken part spot place race = record { rule = rule.Race; spot = spot; place = place; name = race_name part race }

break_is : (part : PlainComponent) (spot : Spot) (place : Place) (race : Option Race) (b : Broken) → In (race_break part spot place race) b → (r : Race) × (race ≡ Some r) × (broken part spot place r ≡ b)
break_is part spot place None b i = absurd i
break_is part spot place (Some r) b (inl e) = (r, refl, e)
break_is part spot place (Some r) b (inr i) = absurd i

has_break : (part : PlainComponent) (spot : Spot) (place : Place) (race : Option Race) (r : Race) → race ≡ Some r → In (race_break part spot place race) (broken part spot place r)
has_break part spot place race r e = subst (λ o. In (race_break part spot place o) (broken part spot place r)) (sym e) (inl refl)

abbrev visited_or : Visited → Option Visited → Visited
visited_or v None = v
visited_or v (Some w) = w

-- ONE STATEMENT
module _ (d : PlainDesign) (k n : ℕ) (v : Visited) (within : k < length d.components) (stands : slice_get (statements_in (component_at d k)) n ≡ Some v) where
  abbrev part : PlainComponent
  part = component_at d k

  abbrev here : Spot
  here = record { component = k; part = AStatement n }

  same : part_of (component_of d k) ≡ part
  same = same_part d (length d.components) k

  breaks_here : (r : Race) → IsFirstRace part (arms_of v.form) (Some r) → OnStatement BreaksRace d here v.place (race_name part r)
  breaks_here r h = record {
    within = within;
    number = n;
    is = refl;
    statement = v;
    stands = stands;
    breaks = subst (λ p. RaceIn p v v.place (race_name part r)) (sym same) (told part v r h);
  }

  race_here : (place : Place) (name : List ℕ) (race : Option Race) → IsFirstRace part (arms_of v.form) race → OnStatement BreaksRace d here place name → (r : Race) × (race ≡ Some r) × (place ≡ v.place)
  race_here place name race h o =
      let number : o.number ≡ n = same_number o.number n (sym o.is) in
      let it : o.statement ≡ v = ap (visited_or v) (sym o.stands ∙ ap (λ m. slice_get (statements_in part) m) number ∙ stands) in
      some_race part v place name race h (subst (λ p. RaceIn p v place name) same (subst (λ w. BreaksRace (component_of d k) w place name) it o.breaks))

  spot_is : (spot : Spot) → IsAt k n spot → spot ≡ here
  spot_is spot at = ap (λ c. record { component = c; part = spot.part }) at.0 ∙ ap (λ p. record { component = k; part = p }) at.1

  -- a statement is looked at
  pub statement_looked : (race : Option Race) (best after : Option Broken) → IsFirstRace part (arms_of v.form) race → after ≡ first_of best (race_break part here v.place race) → Looked d (IsAt k n) best after
  statement_looked race best after h e = record {
    found = race_break part here v.place race;
    first = e;
    is_race = λ b i. let is = break_is part here v.place race b i in ap (λ x. x.rule) (sym is.2);
    breaks = λ b i.
        let is = break_is part here v.place race b i in
        subst (λ x. OnStatement BreaksRace d x.spot x.place x.name) is.2 (breaks_here is.0 (subst (λ o. IsFirstRace part (arms_of v.form) o) is.1 h));
    all = λ spot place name at o.
        let it = spot_is spot at in
        let r = race_here place name race h (subst (λ s. OnStatement BreaksRace d s place name) it o) in
        (broken part here v.place r.0, has_break part here v.place race r.0 r.1, ap (λ s. key_of rule.Race s v.place) (sym it) ∙ ap (λ p. key_of rule.Race spot p) (sym r.2));
  }

  abbrev form_in : Visited → PlainForm
  form_in w = w.form

  in_forms : (vs : List Visited) (m : ℕ) → slice_get vs m ≡ Some v → In (map form_in vs) v.form
  in_forms [] m e = absurd (cc)
  in_forms (w ∷ vs) zero e = inl (ap (λ o. form_in (visited_or w o)) e)
  in_forms (w ∷ vs) (suc m) e = inr (in_forms vs m e)

  -- its arms have forms of the component's control
  arms_are_forms : (s : PlainStatement) → In (arms_of v.form) s → AreForms part s
  arms_are_forms s i f j = arms_among part.control v.form s f (subst (λ l. In l v.form) (visited_forms Dynamic part.control) (in_forms (statements_in part) n stands)) i j

  -- what its arms name is there
  pub arms_within : ∥ IsDesign d ∥₁ → (f : Footprints) → AreFootprints part f → AreWithin part f (arms_of v.form)
  arms_within keeps f a =
      let cells : length part.cells ≡ length f.links.items = sym a.links.size ∙ length-map f.links.items (λ l. l.items) in
      let groups : length part.groups ≡ length f.driven.items = sym (length-map part.groups targets_in_group) ∙ ap length (sym a.driven) ∙ length-map f.driven.items (λ l. l.items) in
      let named : length part.groups ≡ length f.named.items = sym (length-map part.groups cells_in_group) ∙ ap length (sym a.named) ∙ length-map f.named.items (λ l. l.items) in
      record {
        graph = a.links.graph;
        same = sym named ∙ groups;
        driven = λ g n i. subst (λ c. n < c) cells (a.driven_within g n i);
        named = λ g n i. subst (λ c. n < c) cells (a.named_within g n i);
        groups = λ s i g j. subst (λ c. g < c) groups (groups_there d keeps k within s (arms_are_forms s i) g j);
        invoked = λ s i n j. subst (λ c. n < c) cells (invoked_there d keeps k within s n j);
        met = λ s i n j. subst (λ c. n < c) cells (met_there d keeps k within s (arms_are_forms s i) n j);
        enabled = λ s i g j. subst (λ c. g < c) groups (enabled_there d keeps k within s (arms_are_forms s i) g j);
      }

below_or_same : (m n : ℕ) → m < n + 1 → (m < n) ⊎ (m ≡ n)
below_or_same zero zero h = inr refl
below_or_same zero (suc n) h = inl (omega arith)
below_or_same (suc m) zero h = absurd (omega (arith, h))
below_or_same (suc m) (suc n) h = ⊎_elim (λ lt. inl (omega (arith, lt))) (λ e. inr (ap (λ x. suc x) e)) (below_or_same m n (omega (arith, h)))

-- one more statement is looked at
pub next_statement : (d : PlainDesign) (k n : ℕ) (best mid last : Option Broken) → Looked d (IsBefore k n) best mid → Looked d (IsAt k n) mid last → Looked d (IsBefore k (n + 1)) best last
next_statement d k n best mid last a b = looked_more d (IsBefore k n) (IsAt k n) (IsBefore k (n + 1)) best mid last either a b
  where
    either : (spot : Spot) → IsBefore k (n + 1) spot → IsBefore k n spot ⊎ IsAt k n spot
    either spot at = ⊎_elim (λ lt. inl (at.0, (at.1.0, lt, at.1.2))) (λ e. inr (at.0, at.1.2 ∙ ap (λ m. AStatement m) e)) (below_or_same at.1.0 n at.1.1)

-- all statements of a component are looked at
pub component_looked : (d : PlainDesign) (k n : ℕ) (best last : Option Broken) → length (statements_in (component_at d k)) ≤ n → Looked d (IsBefore k n) best last → Looked d (IsOf k) best last
component_looked d k n best last long a = record {
  found = a.found;
  first = a.first;
  is_race = a.is_race;
  breaks = a.breaks;
  all = λ spot place name at o. a.all spot place name (at, (o.number, number spot place name at o, o.is)) o;
}
  where
    number : (spot : Spot) (place : Place) (name : List ℕ) → spot.component ≡ k → (o : OnStatement BreaksRace d spot place name) → o.number < n
    number spot place name at o =
        let few = slice_get_within (statements_in (component_at d spot.component)) o.number o.statement o.stands in
        let there : o.number < length (statements_in (component_at d k)) = subst (λ c. o.number < length (statements_in (component_at d c))) at few in
        omega (arith, there, long)

-- one more component is looked at
pub next_component : (d : PlainDesign) (k : ℕ) (best mid last : Option Broken) → Looked d (IsBeforeOf k) best mid → Looked d (IsOf k) mid last → Looked d (IsBeforeOf (k + 1)) best last
next_component d k best mid last a b = looked_more d (IsBeforeOf k) (IsOf k) (IsBeforeOf (k + 1)) best mid last (λ spot h. below_or_same spot.component k h) a b

-- THE WHOLE DESIGN
module _ (d : PlainDesign) (first : Option Broken) (l : Looked d (IsBeforeOf (length d.components)) None first) where
  abbrev Found : Rule → Spot → Place → Type 0
  Found r spot place = (b : Broken) × In l.found b × (comes_before (key_of r spot place) (key b) ≡ false)

  found_race : (spot : Spot) (place : Place) (name : List ℕ) → OnStatement BreaksRace d spot place name → Found rule.Race spot place
  found_race spot place name o =
      let b = l.all spot place name o.within o in
      (b.0, b.1, subst (λ x. comes_before (key_of rule.Race spot place) x ≡ false) (sym b.2) (before_irreflexive (key_of rule.Race spot place)))

  all_breaks : (r : Rule) (spot : Spot) (place : Place) (name : List ℕ) → stage_of r ≡ 6 → Breaks d r spot place name → Found r spot place
  all_breaks rule.Race spot place name h o = found_race spot place name o
  all_breaks rule.BadByte spot place name h o = absurd o
  all_breaks rule.OpenComment spot place name h o = absurd o
  all_breaks rule.OpenString spot place name h o = absurd o
  all_breaks rule.BadLiteral spot place name h o = absurd o
  all_breaks rule.Unexpected spot place name h o = absurd o
  all_breaks rule.TooDeep spot place name h o = absurd o
  all_breaks rule.Duplicate spot place name h o = absurd o
  all_breaks rule.UnknownName spot place name h o = absurd o
  all_breaks rule.UnknownPrimitive spot place name h o = absurd o
  all_breaks rule.BadParameters spot place name h o = absurd o
  all_breaks rule.Recursive spot place name h o = absurd o
  all_breaks rule.NoMain spot place name h o = absurd o
  all_breaks rule.LeftOut spot place name h o = absurd o
  all_breaks rule.Width spot place name h o = absurd (omega (arith, h))
  all_breaks rule.GuardWidth spot place name h o = absurd (omega (arith, h))
  all_breaks rule.Literal spot place name h o = absurd (omega (arith, h))
  all_breaks rule.NotATarget spot place name h o = absurd (omega (arith, h))
  all_breaks rule.NotASource spot place name h o = absurd (omega (arith, h))
  all_breaks rule.NoDone spot place name h o = absurd (omega (arith, h))
  all_breaks rule.DoneNotState spot place name h o = absurd (omega (arith, h))
  all_breaks rule.AlwaysEnable spot place name h o = absurd (omega (arith, h))
  all_breaks rule.CombEnable spot place name h o = absurd (omega (arith, h))
  all_breaks rule.StaticGuard spot place name h o = absurd (omega (arith, h))
  all_breaks rule.StaticShape spot place name h o = absurd (omega (arith, h))
  all_breaks rule.CallShape spot place name h o = absurd (omega (arith, h))
  all_breaks rule.OutputNotState spot place name h o = absurd (omega (arith, h))
  all_breaks rule.CombCycle spot place name h o = absurd (omega (arith, h))
  all_breaks rule.Limit spot place name h o = absurd (omega (arith, h))
  all_breaks rule.TooLarge spot place name h o = absurd o

  -- what is found is the list of the stage's breaks
  pub are_breaks : AreBreaks 6 d l.found
  are_breaks = record {
    in_stage = λ b i. ap stage_of (l.is_race b i);
    break = λ b i. subst (λ r. Breaks d r b.spot b.place b.name) (sym (l.is_race b i)) (l.breaks b i);
    all = λ r spot place name s o. all_breaks r spot place name s o;
  }
