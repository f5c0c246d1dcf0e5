-- LIMITS ON ISLANDS: a statement of the flat component exceeds none, where none of the component does with its invokes written out.
use Rattle.std.proofs.Common.{◌≡◌, ℕ, ◌<◌, inl, inr, ⊎_elim, Bool, true, false, ◌&&◌, ◌||◌, List, length, Option, Some, None, refl, sym, ap, ◌∙◌, subst}
use Rattle.std.proofs.lemmas.Bool.{false_from_ne_true}
use Rattle.std.specs.Prelude.{slice_get}
use Rattle.cx_text.proofs.MemberLaws.{number_in}
use Rattle.cx_text.specs.declared.places.Place.{Place}
use Rattle.cx_text.specs.declared.rules.Rule.TheVariants as rules
use Rattle.cx_meaning.specs.Designs.{PlainForm, PlainComponent, PlainDesign, component_at}
use Rattle.cx_meaning.specs.Instances.{Instance, Node, Cells, part_of}
use Rattle.cx_meaning.specs.Islands.{group_length, form_length}
use Rattle.cx_text.specs.Members.{In}
use Rattle.cx_meaning.proofs.DesignsLemmas.{same_part}
use Rattle.cx_rules.specs.Accepted.{IsAccepted}
use Rattle.cx_rules.specs.Counts.{inners_of, form_counted, is_any_island}
use Rattle.cx_rules.specs.Invokes.{form_lasts}
use Rattle.cx_rules.specs.Items.{Context, Dynamic, Visited, statements_in}
use Rattle.cx_rules.specs.LimitRule.{Limited, OnRepeat, OnOccurrences, OnLatency, word_of, count_in, is_too_many, first_limit, flat_limit}
use Rattle.cx_rules.specs.LimitRule as whole
use Rattle.cx_rules.specs.Ports.{component_of}
use Rattle.cx_rules.specs.Spots.{AStatement, Spot, OnStatement}
use Rattle.cx_rules.specs.StaticControl.{is_dynamic, is_island_form, is_island, form_occurrences}
use Rattle.cx_rules.specs.Wellformed.{IsDesign}
use Rattle.cx_rewrites.specs.FlatRules.{BreaksStatement}
use Rattle.cx_flattening.specs.Flattened.{Kids, flat_form, flat_kids, flat_part}
use Rattle.cx_flattening.specs.FlatDesign.{flat_design}
use Rattle.cx_flattening.specs.Fair.{AllFair}
use Rattle.cx_flattening.specs.Controlled.{AllControlled}
use Rattle.cx_flattening.specs.Ends.{NoneNamesDone}
use Rattle.cx_flattening.proofs.CopiedSizes.{occurrences_alike, island_alike}
use Rattle.cx_flattening.proofs.FlatCounts.{from_flat}
use Rattle.cx_flattening.proofs.FlatLengths.{form_lasting, kids_last}
use Rattle.cx_flattening.proofs.FlatLists.{form_still}
use Rattle.cx_flattening.proofs.FlatNumbers.{IsMade, made}
use Rattle.cx_flattening.proofs.FlatOccurrences.{is_any, flat_occurs, flat_any, become_head, here, forms_there, counted_below}
use Rattle.cx_flattening.proofs.FlatRanges.{slice_in}
use Rattle.cx_flattening.proofs.FlatRepeats.{keeps_repeats}
use Rattle.cx_flattening.proofs.FlatStages.{good_component}
use Rattle.cx_flattening.proofs.FlatStands.{kids_may}
use Rattle.cx_flattening.proofs.FlatVisits.{flattened_one, becomes, flat_visits, AreThere}
use Rattle.cx_flattening.proofs.Ruled.{AllRuled}

none_later : (many island : Bool) (occurring long : ℕ) → first_limit many island occurring long ≡ None → first_limit false island occurring long ≡ None
none_later true island occurring long e = absurd (cc)
none_later false island occurring long e = e

spread : (a b c : Bool) → (a && (b || c)) ≡ ((a && b) || (a && c))
spread true b c = refl
spread false b c = refl

abbrev IsFew : Visited → Type 0
IsFew w = is_too_many (count_in w.form) ≡ false

module _ (part : PlainComponent) (cells : Cells) (ruled : AllRuled (Node part cells)) (fair : AllFair (Node part cells)) (controlled : AllControlled (Node part cells))
    (J : PlainComponent) (same : (g : ℕ) → group_length J g ≡ group_length (flat_part (Node part cells)) g) where
  abbrev kids : Kids
  kids = flat_kids cells

  abbrev flat : PlainComponent
  flat = flat_part (Node part cells)

  abbrev Standing : PlainForm → Type 0
  Standing = AreThere (length part.groups) (length part.invokes)

  occurs : (form : PlainForm) → Standing form → form_occurrences J (flat_form kids part form) ≡ form_counted part (inners_of cells) form
  occurs form there =
      occurrences_alike J flat same (flat_form kids part form)
      ∙ flat_occurs part cells fair.0 controlled.0 (kids_last cells fair.1 controlled.1) (kids_may cells ruled.1 fair.1 controlled.1) (counted_below cells ruled.1 fair.1 controlled.1) form there.0 there.1

  is_one : (c : Context) (form : PlainForm) → Standing form → (is_dynamic c && is_island_form J (flat_form kids part form)) ≡ (is_dynamic c && is_any part form)
  is_one c form there =
      ap (λ b. is_dynamic c && b)
      (island_alike J flat same (flat_form kids part form)
      ∙ flat_any part cells fair.0 controlled.0 (kids_last cells fair.1 controlled.1) (kids_may cells ruled.1 fair.1 controlled.1) (counted_below cells ruled.1 fair.1 controlled.1) form there.0 there.1)

  long : (form : PlainForm) → Standing form → form_length J (flat_form kids part form) ≡ form_lasts part form
  long form there =
      ap (form_length J) (sym (form_still (flat_form kids part form)))
      ∙ form_lasting part cells fair.0 controlled.0 (kids_last cells fair.1 controlled.1) J (λ q. q) (λ g. g) form there.0 there.1 (λ g i. same g)

  head_quiet : (c : Context) (place : Place) (form : PlainForm) → Standing form → whole.statement_limit (Node part cells) (here c place form) ≡ None → IsFew (flattened_one kids part c place form)
      → flat_limit J (flattened_one kids part c place form) ≡ None
  head_quiet c place form there quiet few =
      let x = flat_form kids part form in
      ap (λ b. first_limit b (is_dynamic c && is_island_form J x) (form_occurrences J x) (form_length J x)) few
      ∙ ap (λ b. first_limit false b (form_occurrences J x) (form_length J x)) (is_one c form there ∙ spread (is_dynamic c) _ _)
      ∙ ap (λ n. first_limit false (is_any_island part (here c place form)) n (form_length J x)) (occurs form there)
      ∙ ap (first_limit false (is_any_island part (here c place form)) (form_counted part (inners_of cells) form)) (long form there)
      ∙ none_later (is_too_many (count_in form)) (is_any_island part (here c place form)) (form_counted part (inners_of cells) form) (form_lasts part form) quiet

  still_quiet : (w : Visited) → is_dynamic w.context ≡ false → IsFew w → flat_limit J w ≡ None
  still_quiet w still few =
      ap (λ b. first_limit b (is_island J w) (form_occurrences J w.form) (form_length J w.form)) few
      ∙ ap (λ b. first_limit false (b && is_island_form J w.form) (form_occurrences J w.form) (form_length J w.form)) still

  flat_quiet : ((v : Visited) → In (statements_in part) v → whole.statement_limit (Node part cells) v ≡ None) → (w : Visited) → In (statements_in flat) w → IsFew w → flat_limit J w ≡ None
  flat_quiet quiet w i few =
      let r = from_flat (becomes kids part) (statements_in part) w (subst (λ l. In l w) (flat_visits kids part Dynamic part.control) i) in
      let there = forms_there part cells fair.0 controlled.0 (kids_last cells fair.1 controlled.1) (kids_may cells ruled.1 fair.1 controlled.1) (counted_below cells ruled.1 fair.1 controlled.1) r.0 r.1 in
      ⊎_elim
      (λ e. subst (λ y. IsFew y → flat_limit J y ≡ None) e (head_quiet r.0.context r.0.place r.0.form there (quiet r.0 r.1)) few)
      (λ still. still_quiet w still few)
      (become_head part cells fair.0 controlled.0 (kids_last cells fair.1 controlled.1) (kids_may cells ruled.1 fair.1 controlled.1) (counted_below cells ruled.1 fair.1 controlled.1)
      r.0.context r.0.place r.0.form there.1 w r.2)

quiet_instance : (i : Instance) → AllRuled i → AllFair i → AllControlled i → (J : PlainComponent) → ((g : ℕ) → group_length J g ≡ group_length (flat_part i) g)
    → ((v : Visited) → In (statements_in (part_of i)) v → whole.statement_limit i v ≡ None) → (w : Visited) → In (statements_in (flat_part i)) w → IsFew w → flat_limit J w ≡ None
quiet_instance (Node part cells) ruled fair controlled J same quiet = flat_quiet part cells ruled fair controlled J same quiet

module _ (d : PlainDesign) (design : IsDesign d) (accepted : IsAccepted d) (undone : NoneNamesDone d) where
  quiet_component : (k : ℕ) → k < length d.components → (v : Visited) → In (statements_in (part_of (component_of d k))) v → whole.statement_limit (component_of d k) v ≡ None
  quiet_component k within v i = by (whole.statement_limit (component_of d k) v) refl
    where
      at : (n : ℕ) × ◌≡◌ {A = Option Visited} (slice_get (statements_in (component_at d k)) n) (Some v)
      at = number_in (statements_in (component_at d k)) v (subst (λ (p : PlainComponent). In (statements_in p) v) (same_part d (length d.components) k) i)

      by : (o : Option Limited) → whole.statement_limit (component_of d k) v ≡ o → o ≡ None
      by None e = refl
      by (Some limited) e =
          absurd (accepted.limits rules.Limit (record { component = k; part = AStatement at.0 }) v.place (word_of limited) refl
          (inr (inr (inl (record { within = within; number = at.0; is = refl; statement = v; stands = at.1; breaks = (limited, e, (refl, refl)) })))))

  -- RULE limit, at statements
  pub keeps_statements : (spot : Spot) (place : Place) (name : List ℕ) → OnStatement BreaksStatement (flat_design d) spot place name → ⊥
  keeps_statements spot place name b =
      let g = good_component d design accepted undone m.old m.less in
      let few = false_from_ne_true (is_too_many (count_in b.statement.form))
      (λ e. keeps_repeats d accepted design spot place name (record { within = b.within; number = b.number; is = b.is; statement = b.statement; stands = b.stands; breaks = e })) in
      let quiet = quiet_instance (component_of d m.old) g.rules g.fair g.controlled (part_of (component_of (flat_design d) spot.component))
      (λ h. ap (λ (l : PlainComponent). group_length l h) (same_part (flat_design d) (length (flat_design d).components) spot.component ∙ m.part)) (quiet_component m.old m.less) b.statement
      (subst (λ (p : PlainComponent). In (statements_in p) b.statement) m.part (slice_in (statements_in (component_at (flat_design d) spot.component)) b.number b.statement b.stands)) few in
      let clash : None ≡ Some bad.0 = sym quiet ∙ bad.1 in
      absurd (cc)
    where
      m : IsMade d spot.component
      m = made d design spot.component b.within

      bad : BreaksStatement (component_of (flat_design d) spot.component) b.statement place name
      bad = b.breaks
