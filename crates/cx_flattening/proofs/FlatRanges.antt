-- GUARDS AND CONTINUOUS ASSIGNMENTS of the flat design: ranges stand in static groups, within their lengths; nothing continuous enables.
use Rattle.std.proofs.Common.{◌≡◌, ℕ, zero, suc, ◌<◌, ◌≤◌, inl, inr, ⊎_elim, true, false, List, [], ◌∷◌, ◌++◌, length, get_or, Option, Some, None, refl, sym, ap, ◌∙◌, subst, arith}
use Rattle.std.specs.Prelude.{slice_get}
use Rattle.std.proofs.lemmas.Bool.{cases_lt}
use Rattle.std.proofs.lemmas.List.{get_or_past}
use Rattle.cx_text.proofs.MemberLaws.{number_in}
use Rattle.cx_text.specs.declared.places.Place.{Place}
use Rattle.cx_text.specs.declared.rules.Rule.TheVariants as rules
use Rattle.cx_meaning.specs.declared.ports.PortRef.{PortRef}
use Rattle.cx_meaning.specs.declared.kinds.GroupKind.{GroupKind}
use Rattle.cx_meaning.specs.Designs.{PlainGuard, Always, Atom, Negation, All, Any, Compared, Within, PlainGuards, no_guards, a_guard, PlainAssign, PlainGroup, PlainComponent, PlainDesign, component_at, no_component, group_at, no_group}
use Rattle.cx_meaning.specs.Active.{source_order}
use Rattle.cx_meaning.specs.Islands.{kind_length}
use Rattle.cx_text.specs.Members.{In}
use Rattle.cx_meaning.proofs.DesignsLemmas.{same_part}
use Rattle.cx_rules.specs.Accepted.{IsAccepted}
use Rattle.cx_rules.specs.Items.{Range, ranges_of, ranges_in}
use Rattle.cx_rules.specs.Ports.{component_of, path_of}
use Rattle.cx_rules.specs.ShapeRules.{owner_length, is_bad_range, BreaksStaticGuard, BreaksAlwaysEnable}
use Rattle.cx_rules.specs.Spots.{AnAssign, Spot, OnAssign}
use Rattle.cx_rules.specs.Wellformed.{StandsIn, IsDesign}
use Rattle.cx_rewrites.specs.Moving.{moved_guard, moved_guards, moved_assign}
use Rattle.cx_flattening.specs.Ends.{NoneNamesDone}
use Rattle.cx_flattening.specs.FlatDesign.{flat_design}
use Rattle.cx_flattening.proofs.Ruled.{in_order}
use Rattle.cx_flattening.proofs.RestingPorts.{OfOne, owner_of}
use Rattle.cx_flattening.proofs.FlatBare.{flat_bare}
use Rattle.cx_flattening.proofs.FlatKeeps.{Keeps, flat_keeps, keep_within}
use Rattle.cx_flattening.proofs.FlatNumbers.{made}
use Rattle.cx_flattening.proofs.FlatStages.{good_component}

-- ranges of a guard stay
mutual
  ranges_stay : (f : PortRef → PortRef) (g : PlainGuard) → ranges_of (moved_guard f g) ≡ ranges_of g
  ranges_stay f Always = refl
  ranges_stay f (Atom p) = refl
  ranges_stay f (Negation g) = ranges_stay f g
  ranges_stay f (All gs) = all_stay f gs
  ranges_stay f (Any gs) = all_stay f gs
  ranges_stay f (Compared c a b) = refl
  ranges_stay f (Within from to) = refl

  all_stay : (f : PortRef → PortRef) (gs : PlainGuards) → ranges_in (moved_guards f gs) ≡ ranges_in gs
  all_stay f no_guards = refl
  all_stay f (a_guard g gs) = ap (λ l. l ++ ranges_in (moved_guards f gs)) (ranges_stay f g) ∙ ap (λ l. ranges_of g ++ l) (all_stay f gs)

abbrev length_of : Option GroupKind → Option ℕ
length_of None = None
length_of (Some kind) = kind_length kind

abbrev GoodRanges : Option GroupKind → PlainAssign → Type 0
GoodRanges kind a = (r : Range) → In (ranges_of a.guard) r → is_bad_range (length_of kind) r ≡ true → ⊥

ranges_move : (kind : Option GroupKind) (f : PortRef → PortRef) (a : PlainAssign) → GoodRanges kind a → GoodRanges kind (moved_assign f a)
ranges_move kind f a good r i = good r (subst (λ l. In l r) (ranges_stay f a.guard) i)

pub in_number : (xs : List PlainGroup) (x : PlainGroup) → In xs x → (g : ℕ) × (g < length xs) × (get_or xs g no_group ≡ x)
in_number [] x i = absurd i
in_number (y ∷ ys) x (inl e) = (0, omega arith, e)
in_number (y ∷ ys) x (inr i) = let r = in_number ys x i in (suc r.0, (let h = r.1 in omega (arith, h)), r.2)

pub slice_in : {A : Type 0} (xs : List A) (n : ℕ) (o : A) → slice_get xs n ≡ Some o → In xs o
slice_in [] n o e = absurd (cc)
slice_in (x ∷ xs) zero o e = inl (let same : x ≡ o = cc in same)
slice_in (x ∷ xs) (suc n) o e = inr (slice_in xs n o e)

module _ (d : PlainDesign) (accepted : IsAccepted d) where
  good_range : (k : ℕ) → k < length d.components → (owner : Option ℕ) (a : PlainAssign) → StandsIn (component_at d k) owner a → (r : Range) → In (ranges_of a.guard) r → is_bad_range (owner_length (component_at d k) owner) r ≡ true → ⊥
  good_range k within owner a s r i bad =
      let n = number_in (source_order (component_at d k)) (record { owner = owner; assign = a }) (in_order (component_at d k) owner a s) in
      accepted.shapes rules.StaticGuard (record { component = k; part = AnAssign n.0 }) a.place (path_of (component_of d k) a.target) refl
      (record {
        within = within;
        number = n.0;
        is = refl;
        assign = record { owner = owner; assign = a };
        stands = n.1;
        breaks = (r, i, ap (λ p. is_bad_range (owner_length p owner) r) (same_part d (length d.components) k) ∙ bad, (refl, refl));
      })

  part_ranges : (k : ℕ) → Keeps GoodRanges ranges_move (component_at d k)
  part_ranges k = ⊎_elim there past (cases_lt k (length d.components))
    where
      there : k < length d.components → Keeps GoodRanges ranges_move (component_at d k)
      there less = record {
        always = λ a j r i bad. good_range k less None a j r i bad;
        groups = λ x a j m r i bad.
            let g = in_number (component_at d k).groups x j in
            good_range k less (Some g.0) a (g.1, subst (λ (y : PlainGroup). In y.assigns a) (sym g.2) m) r i (ap (λ (y : PlainGroup). is_bad_range (kind_length y.kind) r) g.2 ∙ bad);
      }

      past : length d.components ≤ k → Keeps GoodRanges ranges_move (component_at d k)
      past h = subst (Keeps GoodRanges ranges_move) (sym (get_or_past d.components k no_component h)) (record { always = λ a j. absurd j; groups = λ x a j. absurd j })

module _ (d : PlainDesign) (design : IsDesign d) (accepted : IsAccepted d) where
  -- RULE static-guard
  pub keeps_guards : (spot : Spot) (place : Place) (name : List ℕ) → OnAssign BreaksStaticGuard (flat_design d) spot place name → ⊥
  keeps_guards spot place name b =
      ⊎_elim
      (λ h. keep.always b.assign.assign h.1 bad.0 bad.1 (ap (λ o. is_bad_range (owner_length part o) bad.0) (sym h.0) ∙ worse))
      (λ (h : OfOne part b.assign). keep.groups (group_at part h.number) b.assign.assign h.is_there h.stands bad.0 bad.1 (ap (λ o. is_bad_range (owner_length part o) bad.0) (sym h.owner) ∙ worse))
      (owner_of part b.assign (slice_in (source_order part) b.number b.assign b.stands))
    where
      part : PlainComponent
      part = component_at (flat_design d) spot.component

      bad : BreaksStaticGuard (component_of (flat_design d) spot.component) b.assign place name
      bad = b.breaks

      worse : is_bad_range (owner_length part b.assign.owner) bad.0 ≡ true
      worse = ap (λ p. is_bad_range (owner_length p b.assign.owner) bad.0) (sym (same_part (flat_design d) (length (flat_design d).components) spot.component)) ∙ bad.2

      keep : Keeps GoodRanges ranges_move part
      keep =
          let m = made d design spot.component b.within in
          let k = flat_keeps GoodRanges ranges_move (component_of d m.old) (keep_within GoodRanges ranges_move d (part_ranges d accepted) (length d.components) m.old) in
          subst (Keeps GoodRanges ranges_move) (sym m.part) (record { always = k.always; groups = k.groups })

  -- RULE always-enable
  pub keeps_always : NoneNamesDone d → (spot : Spot) (place : Place) (name : List ℕ) → OnAssign BreaksAlwaysEnable (flat_design d) spot place name → ⊥
  keeps_always undone spot place name b =
      let m = made d design spot.component b.within in
      let g = good_component d design accepted undone m.old m.less in
      let bad = b.breaks in
      let among = slice_in (source_order (component_at (flat_design d) spot.component)) b.number b.assign b.stands in
      let never = flat_bare (component_of d m.old) (component_of (flat_design d) spot.component) m.flattened g.rules g.fair b.assign
      (subst (λ p. In (source_order p) b.assign) (sym (same_part (flat_design d) (length (flat_design d).components) spot.component)) among) bad.0 in
      let clash : true ≡ false = sym bad.1 ∙ never in
      absurd (cc)
