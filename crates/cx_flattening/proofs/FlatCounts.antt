-- GROUPS: the flat component has as many groups as are counted with static invokes written out.
use Rattle.std.proofs.Common.{◌≡◌, ℕ, zero, suc, ◌+◌, ◌<◌, inl, inr, ⊎_elim, Bool, true, false, is_some, List, [], ◌∷◌, ◌++◌, length, map, get_or, Option, Some, None, refl, sym, ap, ◌∙◌, subst, arith}
use Rattle.std.specs.Prelude.{flat_map}
use Rattle.std.proofs.lemmas.List.{length-append, length-map}
use Rattle.std.proofs.lemmas.Option.{slice_get-get_or}
use Rattle.cx_text.proofs.MemberLaws.{in_either, in_left, in_right}
use Rattle.cx_text.specs.declared.places.Place.{Place}
use Rattle.cx_text.specs.declared.rules.Rule.TheVariants as rules
use Rattle.cx_text.specs.declared.limits.TheConstants.{GROUPS}
use Rattle.cx_meaning.specs.Designs.{PlainGroup, PlainInvoke, PlainComponent, PlainDesign, component_at}
use Rattle.cx_meaning.specs.Instances.{Instance, Node, Cells, no_cells, a_primitive, an_instance, OfInstance, cell_at}
use Rattle.cx_meaning.specs.Control.{groups_in, groups_of}
use Rattle.cx_text.specs.Members.{In}
use Rattle.cx_rules.specs.Items.{Dynamic, visit, option_list}
use Rattle.cx_rules.specs.Counts.{Inner, needed, needed_from, needed_groups, is_one_of, group_if, inner_at, group_count_of, groups_for, inner, if_static, inners_of, counted_groups}
use Rattle.cx_rules.specs.Invokes.{invoke_at, invoke_in, invokes_of, capture_of, captures_of}
use Rattle.cx_rules.specs.Accepted.{IsAccepted}
use Rattle.cx_rules.specs.LimitRule.{OnGroups, order_of, word_of}
use Rattle.cx_rules.specs.Ports.{component_of}
use Rattle.cx_rules.specs.Spots.{Itself, Spot}
use Rattle.cx_rules.specs.Wellformed.{IsDesign}
use Rattle.cx_rewrites.specs.FlatRules.{BreaksGroups}
use Rattle.cx_rewrites.specs.Moving.{moved_group}
use Rattle.cx_flattening.specs.Events.{no_invoke, the_invoke}
use Rattle.cx_flattening.specs.Whole.{is_static}
use Rattle.cx_flattening.specs.Copies.{copied_statement, enabled_below, enabled_groups}
use Rattle.cx_flattening.specs.Flattened.{Kids, kid_at, own_port, invoke_port, copies, copy_of, with_capture, inlined, flat_kids, flat_part}
use Rattle.cx_flattening.specs.Controlled.{timed_of, IsControlled, AllControlled, AllControlledBelow}
use Rattle.cx_flattening.proofs.LevelSights.{kid-static}
use Rattle.cx_flattening.proofs.FlatGroups.{in_one_of, one_of_in, copies_flat}
use Rattle.cx_flattening.proofs.FlatLengths.{copied_one, capture_in, captures_in_it}
use Rattle.cx_flattening.proofs.FlatOrigins.{Origin, of_own, capturing, copied, origin}
use Rattle.cx_flattening.proofs.FlatDrives.{own_one, timed_single, timed_there}
use Rattle.cx_flattening.specs.Ends.{NoneNamesDone}
use Rattle.cx_flattening.specs.FlatDesign.{flat_design}
use Rattle.cx_flattening.proofs.FlatNumbers.{made}
use Rattle.cx_flattening.proofs.FlatStages.{good_component}
use Rattle.cx_flattening.proofs.FlatCircles.{enabled_back, invoke_back}
use Rattle.cx_flattening.proofs.Statements.{timed_one}
use Rattle.cx_flattening.proofs.Ruled.{invoke_found, IsRuled, AllRuled, AllRuledBelow}
use Rattle.cx_text.proofs.BoolLaws.{bools_same}

zero_plus : (a : ℕ) → 0 + a ≡ a
zero_plus a = omega arith

next : (a b : ℕ) → suc a + b ≡ a + suc b
next a b = omega arith

in_flat : {A B : Type 0} (f : A → List B) (xs : List A) (x : A) (y : B) → In xs x → In (f x) y → In (flat_map f xs) y
in_flat f [] x y i j = absurd i
in_flat f (z ∷ xs) x y (inl e) j = in_left (f z) (flat_map f xs) y (subst (λ w. In (f w) y) (sym e) j)
in_flat f (z ∷ xs) x y (inr i) j = in_right (f z) (flat_map f xs) y (in_flat f xs x y i j)

pub from_flat : {A B : Type 0} (f : A → List B) (xs : List A) (y : B) → In (flat_map f xs) y → (x : A) × In xs x × In (f x) y
from_flat f [] y i = absurd i
from_flat f (x ∷ xs) y i = ⊎_elim (λ j. (x, inl refl, j)) (λ j. let r = from_flat f xs y j in (r.0, inr r.1, r.2)) (in_either (f x) (flat_map f xs) y i)

-- ENABLED ONES, counted
size_if : (b : Bool) (x : PlainGroup) (xs : List PlainGroup) (n : ℕ) → length xs ≡ n → (ys : List PlainGroup) (y : PlainGroup) → length ys ≡ n → length (group_if b x xs) ≡ length (group_if b y ys)
size_if true x xs n e ys y f = let one : suc (length xs) ≡ suc (length ys) = omega (arith, e, f) in one
size_if false x xs n e ys y f = e ∙ sym f

enabled_both : (used : List ℕ) (g : ℕ) (xs ys : List PlainGroup) → length (enabled_groups used g (xs ++ ys)) ≡ length (enabled_groups used g xs) + length (enabled_groups used (g + length xs) ys)
enabled_both used g [] ys = ap (λ k. length (enabled_groups used k ys)) (let z : g ≡ g + 0 = omega arith in z) ∙ sym (zero_plus (length (enabled_groups used (g + 0) ys)))
enabled_both used g (x ∷ xs) ys = by (is_one_of g used) (enabled_both used (suc g) xs ys ∙ ap (λ k. length (enabled_groups used (suc g) xs) + length (enabled_groups used k ys)) (next g (length xs)))
  where
    by : (b : Bool) → length (enabled_groups used (suc g) (xs ++ ys)) ≡ length (enabled_groups used (suc g) xs) + length (enabled_groups used (g + suc (length xs)) ys)
        → length (group_if b x (enabled_groups used (suc g) (xs ++ ys))) ≡ length (group_if b x (enabled_groups used (suc g) xs)) + length (enabled_groups used (g + suc (length xs)) ys)
    by true e = let one : suc (length (enabled_groups used (suc g) (xs ++ ys))) ≡ suc (length (enabled_groups used (suc g) xs)) + length (enabled_groups used (g + suc (length xs)) ys) = omega (arith, e) in one
    by false e = e

enabled_all : (used : List ℕ) (g : ℕ) (xs : List PlainGroup) → ((n : ℕ) → n < length xs → is_one_of (g + n) used ≡ true) → length (enabled_groups used g xs) ≡ length xs
enabled_all used g [] all = refl
enabled_all used g (x ∷ xs) all =
    ap (λ b. length (group_if b x (enabled_groups used (suc g) xs))) (ap (λ k. is_one_of k used) (let z : g ≡ g + 0 = omega arith in z) ∙ all 0 (omega arith))
    ∙ ap suc (enabled_all used (suc g) xs (λ n less. ap (λ k. is_one_of k used) (next g n) ∙ all (suc n) (omega (arith, less))))

enabled_same : (used gs : List ℕ) (f : PlainGroup → PlainGroup) (g : ℕ) (xs : List PlainGroup) → ((n : ℕ) → n < length xs → is_one_of (g + n) used ≡ is_one_of (g + n) gs) → length (enabled_groups used g (map f xs)) ≡ length (needed_from gs g xs)
enabled_same used gs f g [] same = refl
enabled_same used gs f g (x ∷ xs) same =
    ap (λ b. length (group_if b (f x) (enabled_groups used (suc g) (map f xs)))) (ap (λ k. is_one_of k used) (let z : g ≡ g + 0 = omega arith in z) ∙ same 0 (omega arith) ∙ ap (λ k. is_one_of k gs) (let z : g + 0 ≡ g = omega arith in z))
    ∙ size_if (is_one_of g gs) (f x) (enabled_groups used (suc g) (map f xs)) (length (needed_from gs (suc g) xs))
    (enabled_same used gs f (suc g) xs (λ n less. ap (λ k. is_one_of k used) (next g n) ∙ same (suc n) (omega (arith, less)) ∙ sym (ap (λ k. is_one_of k gs) (next g n))))
    (needed_from gs (1 + g) xs) x (ap (λ k. length (needed_from gs k xs)) (let z : 1 + g ≡ suc g = omega arith in z))

-- what is counted of a static child
pub inner_there : (cells : Cells) (c : ℕ) (part : PlainComponent) (below : Cells) → cell_at cells c ≡ OfInstance (Node part below) → is_some part.latency ≡ true → inner_at (inners_of cells) c ≡ Some (inner part (inners_of below))
inner_there no_cells c part below at static = absurd (cc)
inner_there (a_primitive row rest) zero part below at static = absurd (cc)
inner_there (a_primitive row rest) (suc c) part below at static = inner_there rest c part below at static
inner_there (an_instance (Node p cs) rest) zero part below at static = let same : Node p cs ≡ Node part below = cc in subst (λ i. counted_at i ≡ Some (inner part (inners_of below))) (sym same) (by part.latency static)
  where
    counted_at : Instance → Option Inner
    counted_at (Node q ds) = if_static q.latency (inner q (inners_of ds))

    by : (o : Option ℕ) → is_some o ≡ true → if_static o (inner part (inners_of below)) ≡ Some (inner part (inners_of below))
    by None e = absurd (let clash : false ≡ true = e in cc)
    by (Some n) e = refl
inner_there (an_instance (Node p cs) rest) (suc c) part below at static = inner_there rest c part below at static

abbrev pub enabled_count : Instance → ℕ
enabled_count i = length (enabled_groups (groups_of (flat_part i).control) 0 (flat_part i).groups)

abbrev pub needed_count : Instance → ℕ
needed_count (Node part cells) = length (needed_groups part) + groups_for (inners_of cells) part.invokes

abbrev pub CountsAlike : Instance → Type 0
CountsAlike i = enabled_count i ≡ needed_count i

module _ (part : PlainComponent) (cells : Cells) (ruled : IsRuled part (Node part cells)) (controlled : IsControlled (Node part cells)) (below : (c : ℕ) (child : Instance) → cell_at cells c ≡ OfInstance child → CountsAlike child) where
  abbrev kids : Kids
  kids = flat_kids cells

  abbrev used : List ℕ
  used = groups_of (flat_part (Node part cells)).control

  in_control : (j : ℕ) → j < length part.invokes → In (timed_of part.control) j
  in_control j less = let s = ruled.enabled j less in timed_there j Dynamic part.control s.0 s.1 s.2

  kid_of : (j : ℕ) (less : j < length part.invokes) → kid_at kids (the_invoke part j).cell ≡ Some (flat_part (controlled.invokes j less).child)
  kid_of j less = let v = controlled.invokes j less in kid-static cells (the_invoke part j).cell v.child v.stands v.static

  invoke_is : (j : ℕ) → j < length part.invokes → invoke_at part j ≡ Some (the_invoke part j)
  invoke_is j less = slice_get-get_or part.invokes j no_invoke less

  -- a group of the invoke's copy
  invoke_used : (j g : ℕ) (less : j < length part.invokes) → In (groups_in (inlined kids part (Some (flat_part (controlled.invokes j less).child)) j (the_invoke part j))) g → In used g
  invoke_used j g less i = timed_single kids part g j (subst (λ k. In (groups_in (inlined kids part k j (the_invoke part j))) g) (sym (kid_of j less)) i) part.control (in_control j less)

  -- OWN GROUPS are enabled where they are needed
  pub own_needed : (g : ℕ) → g < length part.groups → In used g → In (needed part) g
  own_needed g less i = by (origin kids part g part.control i)
    where
      by : Origin kids part g (groups_of part.control) (timed_of part.control) → In (needed part) g
      by (of_own j) = in_left (groups_of part.control) (captures_of part (invokes_of part.control)) g j
      by (capturing j child t its e) =
          let r = timed_one j Dynamic part.control t in
          in_right (groups_of part.control) (captures_of part (invokes_of part.control)) g
          (in_flat (λ k. capture_of (invoke_at part k)) (invokes_of part.control) j g
          (in_flat (λ v. invoke_in v.form) (visit Dynamic part.control) r.0 j r.1 (subst (λ form. In (invoke_in form) j) (sym r.2) (inl refl)))
          (subst (λ o. In (capture_of o) g) (sym (invoke_is j (controlled.timed j t))) (subst (λ o. In (option_list o) g) (sym e) (inl refl))))
      by (copied j h child t its k e) = absurd (omega (arith, less, e))

  pub own_used : (g : ℕ) → In (needed part) g → In used g
  own_used g i =
      ⊎_elim (own_one kids part g part.control)
      (λ j.
      let r = from_flat (λ k. capture_of (invoke_at part k)) (invokes_of part.control) g j in
      let s = invoke_found (visit Dynamic part.control) r.0 r.1 in
      let t = timed_there r.0 Dynamic part.control s.0 s.1 s.2 in
      let less = controlled.timed r.0 t in
      capture r.0 less (subst (λ o. In (capture_of o) g) (invoke_is r.0 less) r.2))
      (in_either (groups_of part.control) (captures_of part (invokes_of part.control)) g i)
    where
      capture : (j : ℕ) → j < length part.invokes → In (option_list (the_invoke part j).captures) g → In used g
      capture j less k = by (the_invoke part j).captures refl k
        where
          by : (o : Option ℕ) → (the_invoke part j).captures ≡ o → In (option_list o) g → In used g
          by None e l = absurd l
          by (Some h) e (inl same) =
              let kid = flat_part (controlled.invokes j less).child in
              let s = copied_statement (invoke_port kids part kid (the_invoke part j)) (copy_of kids part kid j) kid.control in
              invoke_used j g less (subst (λ o. In (groups_in (with_capture o s)) g) (sym (e ∙ ap Some same)) (captures_in_it g s))
          by (Some h) e (inr l) = absurd l

  -- COPIES are all enabled
  pub copy_used : (n : ℕ) → n < length (flat_map (copies kids part) part.invokes) → In used (length part.groups + n)
  copy_used n less =
      let r = invoke_back kids part part.invokes n less in
      let kid = flat_part (controlled.invokes r.0 r.2).child in
      let size : length (copies kids part (the_invoke part r.0)) ≡ length (enabled_groups (groups_of kid.control) 0 kid.groups) = ap length (copies_flat kids part (the_invoke part r.0) kid (kid_of r.0 r.2)) ∙ length-map (enabled_groups (groups_of kid.control) 0 kid.groups) _ in
      let inside = r.3 in
      let x = enabled_back (groups_of kid.control) 0 kid.groups r.1 (omega (arith, inside, size)) in
      let s = copied_statement (invoke_port kids part kid (the_invoke part r.0)) (copy_of kids part kid r.0) kid.control in
      subst (In used) (let e = r.4 in let f = x.3 in let z : 0 + x.0 ≡ x.0 = omega arith in let k : enabled_below (groups_of kid.control) (0 + x.0) ≡ enabled_below (groups_of kid.control) x.0 = ap (enabled_below (groups_of kid.control)) z in omega (arith, e, f, k))
      (invoke_used r.0 (copy_of kids part kid r.0 x.0) r.2
      (capture_in (the_invoke part r.0).captures s (copy_of kids part kid r.0 x.0)
      (copied_one (invoke_port kids part kid (the_invoke part r.0)) (copy_of kids part kid r.0) kid.control x.0 (one_of_in x.0 (groups_of kid.control) (subst (λ a. is_one_of a (groups_of kid.control) ≡ true) (zero_plus x.0) x.2)))))

  -- copies, counted
  copies_count : (vs : List PlainInvoke) → ((v : PlainInvoke) → In vs v → (j : ℕ) × (j < length part.invokes) × (the_invoke part j ≡ v)) → length (flat_map (copies kids part) vs) ≡ groups_for (inners_of cells) vs
  copies_count [] each = refl
  copies_count (v ∷ vs) each =
      length-append (copies kids part v) (flat_map (copies kids part) vs)
      ∙ ap (λ n. n + length (flat_map (copies kids part) vs)) (let r = each v (inl refl) in subst (λ (w : PlainInvoke). length (copies kids part w) ≡ group_count_of (inner_at (inners_of cells) w.cell)) r.2 (one r.0 r.1))
      ∙ ap (λ n. group_count_of (inner_at (inners_of cells) v.cell) + n) (copies_count vs (λ w i. each w (inr i)))
    where
      of_child : (c : ℕ) (child : Instance) → cell_at cells c ≡ OfInstance child → is_static child ≡ true → enabled_count child ≡ needed_count child → enabled_count child ≡ group_count_of (inner_at (inners_of cells) c)
      of_child c (Node p cs) at static e = e ∙ sym (ap group_count_of (inner_there cells c p cs at static))

      one : (j : ℕ) → j < length part.invokes → length (copies kids part (the_invoke part j)) ≡ group_count_of (inner_at (inners_of cells) (the_invoke part j).cell)
      one j less =
          let w = controlled.invokes j less in
          let kid = flat_part w.child in
          ap length (copies_flat kids part (the_invoke part j) kid (kid_of j less)) ∙ length-map (enabled_groups (groups_of kid.control) 0 kid.groups) _
          ∙ of_child (the_invoke part j).cell w.child w.stands w.static (below (the_invoke part j).cell w.child w.stands)

  pub numbered : (vs : List PlainInvoke) (v : PlainInvoke) → In vs v → (j : ℕ) × (j < length vs) × (get_or vs j no_invoke ≡ v)
  numbered [] v i = absurd i
  numbered (x ∷ xs) v (inl e) = (0, omega arith, e)
  numbered (x ∷ xs) v (inr i) = let r = numbered xs v i in (suc r.0, (let h = r.1 in omega (arith, h)), r.2)

  pub node_copies : length (flat_map (copies kids part) part.invokes) ≡ groups_for (inners_of cells) part.invokes
  node_copies = copies_count part.invokes (numbered part.invokes)

  node_count : CountsAlike (Node part cells)
  node_count =
      enabled_both used 0 (map (moved_group (own_port kids part)) part.groups) (flat_map (copies kids part) part.invokes)
      ∙ ap (λ n. n + length (enabled_groups used (0 + length (map (moved_group (own_port kids part)) part.groups)) (flat_map (copies kids part) part.invokes)))
      (enabled_same used (needed part) (moved_group (own_port kids part)) 0 part.groups
      (λ n less. bools_same (is_one_of (0 + n) used) (is_one_of (0 + n) (needed part))
      (λ e. in_one_of (0 + n) (needed part) (own_needed (0 + n) (omega (arith, less)) (one_of_in (0 + n) used e)))
      (λ e. in_one_of (0 + n) used (own_used (0 + n) (one_of_in (0 + n) (needed part) e)))))
      ∙ ap (λ n. length (needed_groups part) + n)
      (enabled_all used (0 + length (map (moved_group (own_port kids part)) part.groups)) (flat_map (copies kids part) part.invokes)
      (λ n less. in_one_of (0 + length (map (moved_group (own_port kids part)) part.groups) + n) used
      (subst (In used) (let same = length-map part.groups (moved_group (own_port kids part)) in omega (arith, same)) (copy_used n less)))
      ∙ node_copies)

mutual
  pub counts_alike : (i : Instance) → AllRuled i → AllControlled i → CountsAlike i
  counts_alike (Node part cells) ruled controlled = node_count part cells ruled.0 controlled.0 (λ c child at. counts_below cells ruled.1 controlled.1 c child at)

  pub counts_below : (cells : Cells) → AllRuledBelow cells → AllControlledBelow cells → (c : ℕ) (child : Instance) → cell_at cells c ≡ OfInstance child → CountsAlike child
  counts_below no_cells ruled controlled c child at = absurd (cc)
  counts_below (a_primitive row rest) ruled controlled zero child at = absurd (cc)
  counts_below (a_primitive row rest) ruled controlled (suc c) child at = counts_below rest ruled controlled c child at
  counts_below (an_instance other rest) ruled controlled zero child at = let same : other ≡ child = cc in subst CountsAlike same (counts_alike other ruled.0 controlled.0)
  counts_below (an_instance other rest) ruled controlled (suc c) child at = counts_below rest ruled.1 controlled.1 c child at

-- THE GROUPS of the flat component
pub flat_group_count : (i : Instance) → AllRuled i → AllControlled i → length (flat_part i).groups ≡ counted_groups i
flat_group_count (Node part cells) ruled controlled =
    length-append (map (moved_group (own_port (flat_kids cells) part)) part.groups) (flat_map (copies (flat_kids cells) part) part.invokes)
    ∙ ap (λ n. n + length (flat_map (copies (flat_kids cells) part) part.invokes)) (length-map part.groups (moved_group (own_port (flat_kids cells) part)))
    ∙ ap (λ n. length part.groups + n) (node_copies part cells ruled.0 controlled.0 (λ c child at. counts_below cells ruled.1 controlled.1 c child at))

-- THE LIMIT ON GROUPS
module _ (d : PlainDesign) (design : IsDesign d) (accepted : IsAccepted d) (undone : NoneNamesDone d) where
  pub keeps_groups : (spot : Spot) (place : Place) (name : List ℕ) → BreaksGroups (flat_design d) spot place name → ⊥
  keeps_groups spot place name b =
      let m = made d design spot.component b.within in
      let g = good_component d design accepted undone m.old m.less in
      accepted.limits rules.Limit (record { component = m.old; part = Itself (order_of OnGroups) }) (component_at d m.old).place (word_of OnGroups) refl
      (inr (inl (record {
        within = m.less;
        is = refl;
        exceeds = subst (λ n. GROUPS < n) (ap (λ (p : PlainComponent). length p.groups) m.part ∙ flat_group_count (component_of d m.old) g.rules g.controlled) b.exceeds;
        tells = (refl, refl);
      })))
