-- In an accepted design islands are short.
use Rattle.std.proofs.Common.{◌≡◌, ℕ, ◌<◌, ◌≤◌, inl, inr, ⊎_elim, true, false, length, refl, sym, ap, ◌∙◌, subst}
use Rattle.std.proofs.lemmas.Bool.{cases_lt}
use Rattle.std.proofs.lemmas.List.{get_or_past}
use Rattle.cx_text.proofs.MemberLaws.{number_in}
use Rattle.cx_text.specs.declared.limits.TheConstants.{REPETITIONS}
use Rattle.cx_text.specs.declared.rules.Rule.TheVariants.{Limit}
use Rattle.cx_meaning.specs.Designs.{PlainComponent, PlainDesign, component_at, no_component}
use Rattle.cx_meaning.specs.Instances.{Instance, part_of, tree_of, Path, instance_at}
use Rattle.cx_text.specs.Members.{In}
use Rattle.cx_meaning.specs.Islands.{form_length}
use Rattle.cx_rules.specs.Ports.{component_of}
use Rattle.cx_rules.specs.Items.{Visited, statements_in}
use Rattle.cx_rules.specs.StaticControl.{is_island}
use Rattle.cx_rules.specs.LimitRule.{word_of}
use Rattle.cx_rules.specs.Spots.{AStatement}
use Rattle.cx_rules.specs.Flat.{IsFlat}
use Rattle.cx_rules.specs.Accepted.{IsAccepted}
use Rattle.cx_rules.proofs.CountsLemmas.{lasts_within}
use Rattle.cx_rules.proofs.LimitRuleLemmas.{over_latency}
use Rattle.cx_rules.proofs.CircleLemmas.{Reached, a_tree, no_tree, reached}
use Rattle.cx_meaning.proofs.DesignsLemmas.{same_part}

module _ (d : PlainDesign) (flat : IsFlat d) (accepted : IsAccepted d) (v : Visited) where
  abbrev IsShort : PlainComponent → Type 0
  IsShort part = In (statements_in part) v → is_island part v ≡ true → form_length part v.form < REPETITIONS

  short_here : (k : ℕ) → k < length d.components → IsShort (component_at d k)
  short_here k within i island =
      ⊎_elim
      (λ l. l)
      (λ l. let n = number_in (statements_in (component_at d k)) v i in
      let part : part_of (component_of d k) ≡ component_at d k = same_part d (length d.components) k in
      let long = lasts_within d flat (length d.components) k v.form ∙ ap (λ x. form_length x v.form) part in
      let over = over_latency (component_of d k) v (ap (λ x. is_island x v) part ∙ island) (subst (λ n. REPETITIONS ≤ n) (sym long) l) in
      absurd (accepted.limits Limit (record { component = k; part = AStatement n.0 }) v.place (word_of over.0) refl
      (inr (inr (inl (record { within = within; number = n.0; is = refl; statement = v; stands = n.1; breaks = (over.0, over.1, (refl, refl)) }))))))
      (cases_lt (form_length (component_at d k) v.form) REPETITIONS)

  -- an instance without a component has no island
  short_bare : (part : PlainComponent) → part ≡ no_component → IsShort part
  short_bare part e = subst IsShort (sym e) bare
    where
      bare : IsShort no_component
      bare (inl f) island = absurd (never (ap (λ w. is_island no_component w) f ∙ island))
        where
          never : false ≡ true → ⊥
          never e = cc
      bare (inr none) island = absurd none

  short_part : (k : ℕ) → IsShort (component_at d k)
  short_part k =
      ⊎_elim
      (λ l. short_here k l)
      (λ l. short_bare (component_at d k) (get_or_past d.components k no_component l))
      (cases_lt k (length d.components))

  short_reached : {i : Instance} → Reached d i → IsShort (part_of i)
  short_reached (a_tree m k) = subst IsShort (sym (same_part d m k)) (short_part k)
  short_reached no_tree = short_bare no_component refl

  pub short_island : (path : Path) → IsShort (part_of (instance_at (tree_of d) path))
  short_island path = short_reached (reached d path (length d.components) d.main)
