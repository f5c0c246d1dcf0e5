-- The list of breaks has the breaks of the rules on combinational cycles, and no others.
use Rattle.std.proofs.Common.{◌≡◌, ◌+◌, ◌<◌, ℕ, zero, suc, Bool, true, false, List, [], ◌∷◌, ◌++◌, Option, Some, None, length, drop, slice_get, add-one, ◌⊎◌, inl, inr, ⊎_elim, refl, sym, ap, ◌∙◌, subst, arith}
use Rattle.std.proofs.lemmas.Option.{slice_get_within}
use Rattle.cx_text.proofs.MemberLaws.{in_either, in_left, in_right}
use Rattle.cx_text.specs.declared.places.Place.{Place}
use Rattle.cx_text.specs.declared.rules.Rule.{Rule}
use Rattle.cx_text.specs.declared.rules.Rule.TheVariants as rule
use Rattle.cx_meaning.specs.Designs.{PlainComponent, PlainDesign, PlainGroup, component_at, group_at}
use Rattle.cx_text.specs.Members.{In}
use Rattle.cx_rules.specs.Ports.{component_of}
use Rattle.cx_rules.specs.Spots.{Part, Itself, AGroup, Spot, OnGroup}
use Rattle.cx_rules.specs.RaceRule.{BreaksCombCycle, GroupBreaksCombCycle}
use Rattle.cx_rules.specs.Accepted.{Breaks, stage_of, key_of, comes_before}
use Rattle.cx_design_parts.specs.Breaks.{Broken, key, earlier, first_of}
use Rattle.cx_design_parts.specs.Numbered.{numbered}
use Rattle.cx_design_parts.specs.Answers.{AreBreaks, AreBreaksBy, StageBreaks}
use Rattle.cx_design_parts.proofs.Lists.{first_append, in_numbered, numbered_in}
use Rattle.cx_design_parts.proofs.Families.{Either, breaks_of_either, breaks_of_same, breaks_of_stage}
use Rattle.cx_comb.specs.Circles.{AreCircles}
use Rattle.cx_comb.specs.CombBreaks.{told_if, whole_break, group_break, group_breaks, component_breaks, CombBreaks, BreaksBefore, BreaksAt}
use Rattle.cx_text.proofs.NumberLaws.{before_more}
use Rattle.cx_rules.proofs.KeyOrder.{before_irreflexive}
use Rattle.cx_rules.proofs.PortsLemmas.{part_is}

told_in : (found : Bool) (b other : Broken) → In (told_if found b) other → (found ≡ true) × (b ≡ other)
told_in true b other (inl e) = (refl, e)
told_in true b other (inr i) = absurd i
told_in false b other i = absurd i

told_has : (found : Bool) (b other : Broken) → found ≡ true → b ≡ other → In (told_if found b) other
told_has true b other h e = inl e
told_has false b other h e = absurd (cc)

found_at : (flags : List Bool) (g : ℕ) → g < length flags → (found : Bool) × (slice_get flags g ≡ Some found)
found_at [] g h = absurd (omega (arith, h))
found_at (x ∷ flags) zero h = (x, refl)
found_at (x ∷ flags) (suc g) h = found_at flags g (omega (arith, h))

module _ (d : PlainDesign) (k : ℕ) (whole : Bool) (flags : List Bool) (within : k < length d.components) (circles : AreCircles (component_of d k) whole flags) where
  abbrev list : List Broken
  list = component_breaks d k whole flags

  same_groups : length flags ≡ length (component_at d k).groups
  same_groups = circles.count ∙ ap (λ (part : PlainComponent). length part.groups) (part_is d k)

  whole_holds : (b : Broken) → In (told_if whole (whole_break d k)) b → BreaksAt d k b.rule b.spot b.place b.name
  whole_holds b i =
      let r = told_in whole (whole_break d k) b i in
      subst (λ (x : Broken). BreaksAt d k x.rule x.spot x.place x.name) r.1
      (refl, (refl, inl (record { within = within; is = refl; cycle = circles.bare.0 r.0; tells = (refl, refl) })))

  group_holds : (b : Broken) → In (numbered (group_breaks d k) 0 flags) b → BreaksAt d k b.rule b.spot b.place b.name
  group_holds b i =
      let r = numbered_in (group_breaks d k) 0 flags b i in
      let at : 0 + r.0 ≡ r.0 = omega arith in
      let t = told_in r.1 (group_break d k r.0) b (subst (λ n. In (group_breaks d k n r.1) b) at r.3) in
      let there : r.0 < length (component_at d k).groups = subst (λ n. r.0 < n) same_groups (slice_get_within flags r.0 r.1 r.2) in
      subst (λ (x : Broken). BreaksAt d k x.rule x.spot x.place x.name) t.1 (
        refl,
        (
          refl,
          inr (record {
            within = within;
            number = r.0;
            is = refl;
            stands = there;
            breaks = (
              (circles.grouped r.0 r.1 r.2).0 t.0,
              (ap (λ (part : PlainComponent). (group_at part r.0).place) (sym (part_is d k)), ap (λ (part : PlainComponent). (group_at part r.0).name) (sym (part_is d k))),
            );
          }),
        ),
      )

  -- each break is in the list
  all_at : (part : Part) (place : Place) (name : List ℕ)
      → BreaksCombCycle d (record { component = k; part = part }) place name ⊎ OnGroup GroupBreaksCombCycle d (record { component = k; part = part }) place name
      → In list (record { rule = rule.CombCycle; spot = record { component = k; part = part }; place = place; name = name })
  all_at part place name (inl o) =
      let b : Broken = record { rule = rule.CombCycle; spot = record { component = k; part = part }; place = place; name = name } in
      let same : whole_break d k ≡ b =
      ap (λ q. record { rule = rule.CombCycle; spot = record { component = k; part = q }; place = (component_at d k).place; name = (component_at d k).name }) (sym o.is)
      ∙ ap (λ q. record { rule = rule.CombCycle; spot = record { component = k; part = part }; place = q; name = (component_at d k).name }) (sym o.tells.0)
      ∙ ap (λ q. record { rule = rule.CombCycle; spot = record { component = k; part = part }; place = place; name = q }) (sym o.tells.1) in
      in_left (told_if whole (whole_break d k)) (numbered (group_breaks d k) 0 flags) b (told_has whole (whole_break d k) b (circles.bare.1 o.cycle) same)
  all_at part place name (inr o) =
      let b : Broken = record { rule = rule.CombCycle; spot = record { component = k; part = part }; place = place; name = name } in
      let g = o.number in
      let f = found_at flags g (subst (λ n. g < n) (sym same_groups) o.stands) in
      let place_is : place ≡ (group_at (component_at d k) g).place = o.breaks.1.0 ∙ ap (λ (p : PlainComponent). (group_at p g).place) (part_is d k) in
      let name_is : name ≡ (group_at (component_at d k) g).name = o.breaks.1.1 ∙ ap (λ (p : PlainComponent). (group_at p g).name) (part_is d k) in
      let same : group_break d k g ≡ b =
      ap (λ q. record { rule = rule.CombCycle; spot = record { component = k; part = q }; place = (group_at (component_at d k) g).place; name = (group_at (component_at d k) g).name }) (sym o.is)
      ∙ ap (λ q. record { rule = rule.CombCycle; spot = record { component = k; part = part }; place = q; name = (group_at (component_at d k) g).name }) (sym place_is)
      ∙ ap (λ q. record { rule = rule.CombCycle; spot = record { component = k; part = part }; place = place; name = q }) (sym name_is) in
      let at : g ≡ 0 + g = omega arith in
      in_right (told_if whole (whole_break d k)) (numbered (group_breaks d k) 0 flags) b
      (in_numbered (group_breaks d k) 0 flags g f.0 b f.1
      (subst (λ n. In (group_breaks d k n f.0) b) at (told_has f.0 (group_break d k g) b ((circles.grouped g f.0 f.1).1 o.breaks.0) same)))

  pub component_has : AreBreaksBy (BreaksAt d k) list
  component_has = record {
    by_family = λ b i. ⊎_elim (whole_holds b) (group_holds b) (in_either (told_if whole (whole_break d k)) (numbered (group_breaks d k) 0 flags) b i);
    all_family = λ r spot place name h.
        let here : Spot = record { component = k; part = spot.part } in
        let spot_is : here ≡ spot = ap (λ c. record { component = c; part = spot.part }) (sym h.0) in
        let b : Broken = record { rule = rule.CombCycle; spot = here; place = place; name = name } in
        let i : In list b = all_at spot.part place name (subst (λ s. BreaksCombCycle d s place name ⊎ OnGroup GroupBreaksCombCycle d s place name) (sym spot_is) h.1.1) in
        (b, i, subst (λ s. comes_before (key_of r s place) (key b) ≡ false) spot_is (subst (λ x. comes_before (key_of x here place) (key b) ≡ false) (sym h.1.0) (before_irreflexive (key b))));
  }

-- what is told, where it is found
pub whole_told : (d : PlainDesign) (k : ℕ) (part : PlainComponent) (found : Bool) (first next : Option Broken) → found ≡ true → part ≡ component_at d k
    → next ≡ earlier first (record { rule = rule.CombCycle; spot = record { component = k; part = Itself 0 }; place = part.place; name = part.name }) → next ≡ first_of first (told_if found (whole_break d k))
whole_told d k part found first next e is step =
    step
    ∙ ap (λ (p : PlainComponent). earlier first (record { rule = rule.CombCycle; spot = record { component = k; part = Itself 0 }; place = p.place; name = p.name })) is
    ∙ ap (λ b. first_of first (told_if b (whole_break d k))) (sym e)

pub group_told : (d : PlainDesign) (k g : ℕ) (x : PlainGroup) (found : Bool) (first next : Option Broken) → found ≡ true → x ≡ group_at (component_at d k) g
    → next ≡ earlier first (record { rule = rule.CombCycle; spot = record { component = k; part = AGroup g }; place = x.place; name = x.name }) → next ≡ first_of first (group_breaks d k g found)
group_told d k g x found first next e is step =
    step
    ∙ ap (λ (y : PlainGroup). earlier first (record { rule = rule.CombCycle; spot = record { component = k; part = AGroup g }; place = y.place; name = y.name })) is
    ∙ ap (λ b. first_of first (group_breaks d k g b)) (sym e)

-- one more flag is looked at
pub next_flag : {A : Type 0} (f : ℕ → A → List Broken) (n : ℕ) (xs : List A) (x : A) (best next rest : Option Broken)
    → drop n xs ≡ x ∷ drop (n + 1) xs → next ≡ first_of best (f n x) → first_of best (numbered f n (drop n xs)) ≡ rest
    → first_of next (numbered f (n + 1) (drop (n + 1) xs)) ≡ rest
next_flag f n xs x best next rest at step so_far =
    let more = drop (n + 1) xs in
    ap (λ m. first_of next (numbered f m more)) (add-one n)
    ∙ ap (λ b. first_of b (numbered f (suc n) more)) step
    ∙ sym (first_append best (f n x) (numbered f (suc n) more))
    ∙ ap (λ l. first_of best (numbered f n l)) (sym at)
    ∙ so_far

-- THE DESIGN, component by component
abbrev pub FirstSo : PlainDesign → ℕ → Option Broken → Type 0
FirstSo d k first = (found : List Broken) × AreBreaksBy (BreaksBefore d k) found × (first ≡ first_of None found)

pub none_so : (d : PlainDesign) → FirstSo d 0 None
none_so d = ([], record { by_family = λ b i. absurd i; all_family = λ r spot place name h. let none : spot.component < 0 = h.0 in absurd (omega (arith, none)) }, refl)

pub next_so : (d : PlainDesign) (k : ℕ) (first next : Option Broken) → FirstSo d k first → (found : List Broken) × AreBreaksBy (BreaksAt d k) found × (next ≡ first_of first found) → FirstSo d (k + 1) next
next_so d k first next (before, is, so) (here, are, step) = (
  before ++ here,
  breaks_of_same (Either (BreaksBefore d k) (BreaksAt d k)) (BreaksBefore d (k + 1)) (before ++ here)
      (λ r spot place name e. ⊎_elim
      (λ h. let lt : spot.component < k = h.0 in (omega (arith, lt), h.1))
      (λ h. let same : spot.component ≡ k = h.0 in (omega (arith, same), h.1)) e)
      (λ r spot place name h. ⊎_elim (λ lt. inl (lt, h.1)) (λ same. inr (same, h.1)) (before_more k spot.component h.0))
      (breaks_of_either (BreaksBefore d k) (BreaksAt d k) before here is are),
  step ∙ ap (λ b. first_of b here) so ∙ sym (first_append None before here),
)

of_stage : (d : PlainDesign) (r : Rule) (spot : Spot) (place : Place) (name : List ℕ) → stage_of r ≡ 5 → Breaks d r spot place name → CombBreaks d r spot place name
of_stage d rule.CombCycle spot place name h o = (refl, o)
of_stage d _ spot place name h o = absurd (omega (arith, h))

there : (d : PlainDesign) (spot : Spot) (place : Place) (name : List ℕ) → BreaksCombCycle d spot place name ⊎ OnGroup GroupBreaksCombCycle d spot place name → spot.component < length d.components
there d spot place name (inl o) = o.within
there d spot place name (inr o) = o.within

pub all_so : (d : PlainDesign) (first : Option Broken) → FirstSo d (length d.components) first → (found : List Broken) × AreBreaks 5 d found × (first ≡ first_of None found)
all_so d first (found, is, so) = (
  found,
  breaks_of_stage 5 d found
      (breaks_of_same (BreaksBefore d (length d.components)) (StageBreaks 5 d) found
      (λ r spot place name h. (ap stage_of h.1.0, subst (λ x. Breaks d x spot place name) (sym h.1.0) h.1.1))
      (λ r spot place name h. let o = of_stage d r spot place name h.0 h.1 in (there d spot place name o.1, o)) is),
  so,
)
