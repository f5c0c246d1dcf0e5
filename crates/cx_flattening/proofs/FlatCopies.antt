-- COPIES: what the control of a static child enables has, with its assignments and guards, the size that is counted for an invoke of it; so
-- do continuous assignments and groups of a flat component.
use Rattle.std.proofs.Common.{◌≡◌, ℕ, zero, suc, ◌+◌, ◌<◌, inl, inr, Bool, true, false, is_some, List, [], ◌∷◌, ◌++◌, length, map, Option, Some, None, refl, sym, ap, ap₂, ◌∙◌, subst, arith}
use Rattle.std.specs.Prelude.{flat_map}
use Rattle.std.proofs.lemmas.List.{length-map}
use Rattle.cx_meaning.specs.declared.ports.PortRef.TheVariants as ports
use Rattle.cx_meaning.specs.Designs.{PlainGroup, PlainInvoke, PlainComponent}
use Rattle.cx_meaning.specs.Instances.{Instance, Node, Cells, no_cells, a_primitive, an_instance, OfInstance, cell_at}
use Rattle.cx_meaning.specs.Control.{groups_of}
use Rattle.cx_text.specs.Members.{In}
use Rattle.cx_rules.specs.Sizes.{assigns_size, groups_size}
use Rattle.cx_rules.specs.Counts.{needed, needed_from, needed_groups, is_one_of, group_if, inner_at, always_count_of, always_in, copy_count_of, copies_for, inner, if_static, inners_of}
use Rattle.cx_rewrites.specs.Moving.{moved_assign, moved_group}
use Rattle.cx_rewrites.proofs.MovedLists as lists
use Rattle.cx_flattening.specs.Events.{the_invoke}
use Rattle.cx_flattening.specs.Whole.{is_static}
use Rattle.cx_flattening.specs.Copies.{enabled_groups}
use Rattle.cx_flattening.specs.Flattened.{Kids, kid_if, own_port, child_port, invoke_port, always_if, always_from, copies, flat_kids, flat_part}
use Rattle.cx_flattening.specs.Controlled.{IsControlled, AllControlled, AllControlledBelow}
use Rattle.cx_flattening.proofs.LevelSights.{kid-static}
use Rattle.cx_flattening.proofs.FlatGroups.{in_one_of, one_of_in, copies_flat}
use Rattle.cx_flattening.proofs.FlatCounts.{CountsAlike, inner_there, own_needed, own_used, copy_used, numbered, counts_below}
use Rattle.cx_flattening.proofs.CopiedSizes.{assigns_size-append, groups_size-append, groups_size-copied}
use Rattle.cx_flattening.proofs.Ruled.{IsRuled, AllRuled, AllRuledBelow}
use Rattle.cx_text.proofs.BoolLaws.{bools_same}

-- CONTINUOUS ASSIGNMENTS
abbrev AlwaysAlike : Instance → Type 0
AlwaysAlike (Node part cells) = assigns_size (flat_part (Node part cells)).always ≡ assigns_size part.always + always_in (inners_of cells)

mutual
  always_alike : (i : Instance) → AlwaysAlike i
  always_alike (Node part cells) =
      assigns_size-append (map (moved_assign (own_port (flat_kids cells) part)) part.always) (always_from (flat_kids cells) part 0 (flat_kids cells))
      ∙ ap₂ (λ n m. n + m) (lists.assigns_size-moved (own_port (flat_kids cells) part) part.always) (always_below (flat_kids cells) part 0 cells)

  always_below : (kids : Kids) (part : PlainComponent) (c : ℕ) (cells : Cells) → assigns_size (always_from kids part c (flat_kids cells)) ≡ always_in (inners_of cells)
  always_below kids part c no_cells = refl
  always_below kids part c (a_primitive row rest) = zero_plus (always_below kids part (suc c) rest)
    where
      zero_plus : {a b : ℕ} → a ≡ b → a ≡ 0 + b
      zero_plus e = omega (arith, e)
  always_below kids part c (an_instance (Node own cells) rest) = by own.latency (always_alike (Node own cells)) (always_below kids part (suc c) rest)
    where
      child : PlainComponent
      child = flat_part (Node own cells)

      by : (o : Option ℕ) → assigns_size child.always ≡ assigns_size own.always + always_in (inners_of cells) → assigns_size (always_from kids part (suc c) (flat_kids rest)) ≡ always_in (inners_of rest)
          → assigns_size (always_if kids part (kid_if (is_some o) child) c ++ always_from kids part (suc c) (flat_kids rest)) ≡ always_count_of (if_static o (inner own (inners_of cells))) + always_in (inners_of rest)
      by None its later = omega (arith, later)
      by (Some n) its later =
          assigns_size-append (always_if kids part (Some child) c) (always_from kids part (suc c) (flat_kids rest))
          ∙ ap₂ (λ a b. a + b) (lists.assigns_size-moved (child_port kids part child c (λ m. ports.Input m)) child.always ∙ its) later

pub flat_always : (part : PlainComponent) (cells : Cells) → assigns_size (flat_part (Node part cells)).always ≡ assigns_size part.always + always_in (inners_of cells)
flat_always part cells = always_alike (Node part cells)

-- ENABLED ONES
next : (a b : ℕ) → suc a + b ≡ a + suc b
next a b = omega arith

enabled_both : (used : List ℕ) (g : ℕ) (xs ys : List PlainGroup) → enabled_groups used g (xs ++ ys) ≡ enabled_groups used g xs ++ enabled_groups used (g + length xs) ys
enabled_both used g [] ys = ap (λ k. enabled_groups used k ys) (let z : g ≡ g + 0 = omega arith in z)
enabled_both used g (x ∷ xs) ys = by (is_one_of g used) (enabled_both used (suc g) xs ys ∙ ap (λ k. enabled_groups used (suc g) xs ++ enabled_groups used k ys) (next g (length xs)))
  where
    by : (b : Bool) → enabled_groups used (suc g) (xs ++ ys) ≡ enabled_groups used (suc g) xs ++ enabled_groups used (g + suc (length xs)) ys
        → group_if b x (enabled_groups used (suc g) (xs ++ ys)) ≡ group_if b x (enabled_groups used (suc g) xs) ++ enabled_groups used (g + suc (length xs)) ys
    by true e = ap (λ l. x ∷ l) e
    by false e = e

enabled_all : (used : List ℕ) (g : ℕ) (xs : List PlainGroup) → ((n : ℕ) → n < length xs → is_one_of (g + n) used ≡ true) → enabled_groups used g xs ≡ xs
enabled_all used g [] all = refl
enabled_all used g (x ∷ xs) all =
    ap (λ b. group_if b x (enabled_groups used (suc g) xs)) (ap (λ k. is_one_of k used) (let z : g ≡ g + 0 = omega arith in z) ∙ all 0 (omega arith))
    ∙ ap (λ l. x ∷ l) (enabled_all used (suc g) xs (λ n less. ap (λ k. is_one_of k used) (next g n) ∙ all (suc n) (omega (arith, less))))

enabled_same : (used gs : List ℕ) (f : PlainGroup → PlainGroup) (g : ℕ) (xs : List PlainGroup) → ((n : ℕ) → n < length xs → is_one_of (g + n) used ≡ is_one_of (g + n) gs) → enabled_groups used g (map f xs) ≡ map f (needed_from gs g xs)
enabled_same used gs f g [] same = refl
enabled_same used gs f g (x ∷ xs) same =
    ap (λ b. group_if b (f x) (enabled_groups used (suc g) (map f xs))) (ap (λ k. is_one_of k used) (let z : g ≡ g + 0 = omega arith in z) ∙ same 0 (omega arith) ∙ ap (λ k. is_one_of k gs) (let z : g + 0 ≡ g = omega arith in z))
    ∙ by (is_one_of g gs)
    (enabled_same used gs f (suc g) xs (λ n less. ap (λ k. is_one_of k used) (next g n) ∙ same (suc n) (omega (arith, less)) ∙ sym (ap (λ k. is_one_of k gs) (next g n)))
    ∙ ap (λ k. map f (needed_from gs k xs)) (let z : suc g ≡ 1 + g = omega arith in z))
  where
    by : (b : Bool) → enabled_groups used (suc g) (map f xs) ≡ map f (needed_from gs (1 + g) xs) → group_if b (f x) (enabled_groups used (suc g) (map f xs)) ≡ map f (group_if b x (needed_from gs (1 + g) xs))
    by true e = ap (λ l. f x ∷ l) e
    by false e = e

-- what is claimed of a tree
abbrev enabled_size : Instance → ℕ
enabled_size i = groups_size (enabled_groups (groups_of (flat_part i).control) 0 (flat_part i).groups)

abbrev needed_size : Instance → ℕ
needed_size (Node part cells) = groups_size (needed_groups part) + copies_for (inners_of cells) part.invokes

abbrev CopiesAlike : Instance → Type 0
CopiesAlike i = enabled_size i ≡ needed_size i

module _ (part : PlainComponent) (cells : Cells) (ruled : IsRuled part (Node part cells)) (controlled : IsControlled (Node part cells))
    (counted : (c : ℕ) (child : Instance) → cell_at cells c ≡ OfInstance child → CountsAlike child) (below : (c : ℕ) (child : Instance) → cell_at cells c ≡ OfInstance child → CopiesAlike child) where
  abbrev kids : Kids
  kids = flat_kids cells

  abbrev used : List ℕ
  used = groups_of (flat_part (Node part cells)).control

  copies_size : (vs : List PlainInvoke) → ((v : PlainInvoke) → In vs v → (j : ℕ) × (j < length part.invokes) × (the_invoke part j ≡ v)) → groups_size (flat_map (copies kids part) vs) ≡ copies_for (inners_of cells) vs
  copies_size [] each = refl
  copies_size (v ∷ vs) each =
      groups_size-append (copies kids part v) (flat_map (copies kids part) vs)
      ∙ ap₂ (λ n m. n + m) (let r = each v (inl refl) in subst (λ (w : PlainInvoke). groups_size (copies kids part w) ≡ copy_count_of (inner_at (inners_of cells) w.cell)) r.2 (one r.0 r.1))
      (copies_size vs (λ w i. each w (inr i)))
    where
      of_child : (c : ℕ) (child : Instance) → cell_at cells c ≡ OfInstance child → is_static child ≡ true → enabled_size child ≡ needed_size child → enabled_size child ≡ copy_count_of (inner_at (inners_of cells) c)
      of_child c (Node p cs) at static e = e ∙ sym (ap copy_count_of (inner_there cells c p cs at static))

      one : (j : ℕ) → j < length part.invokes → groups_size (copies kids part (the_invoke part j)) ≡ copy_count_of (inner_at (inners_of cells) (the_invoke part j).cell)
      one j less =
          let w = controlled.invokes j less in
          let kid = flat_part w.child in
          ap groups_size (copies_flat kids part (the_invoke part j) kid (kid-static cells (the_invoke part j).cell w.child w.stands w.static))
          ∙ groups_size-copied (invoke_port kids part kid (the_invoke part j)) (enabled_groups (groups_of kid.control) 0 kid.groups)
          ∙ of_child (the_invoke part j).cell w.child w.stands w.static (below (the_invoke part j).cell w.child w.stands)

  node_copies_size : groups_size (flat_map (copies kids part) part.invokes) ≡ copies_for (inners_of cells) part.invokes
  node_copies_size = copies_size part.invokes (numbered part cells ruled controlled counted part.invokes)

  own_enabled : enabled_groups used 0 (map (moved_group (own_port kids part)) part.groups) ≡ map (moved_group (own_port kids part)) (needed_groups part)
  own_enabled =
      enabled_same used (needed part) (moved_group (own_port kids part)) 0 part.groups
      (λ n less. bools_same (is_one_of (0 + n) used) (is_one_of (0 + n) (needed part))
      (λ e. in_one_of (0 + n) (needed part) (own_needed part cells ruled controlled counted (0 + n) (omega (arith, less)) (one_of_in (0 + n) used e)))
      (λ e. in_one_of (0 + n) used (own_used part cells ruled controlled counted (0 + n) (one_of_in (0 + n) (needed part) e))))

  copies_enabled : enabled_groups used (0 + length (map (moved_group (own_port kids part)) part.groups)) (flat_map (copies kids part) part.invokes) ≡ flat_map (copies kids part) part.invokes
  copies_enabled =
      enabled_all used (0 + length (map (moved_group (own_port kids part)) part.groups)) (flat_map (copies kids part) part.invokes)
      (λ n less. in_one_of (0 + length (map (moved_group (own_port kids part)) part.groups) + n) used
      (subst (In used) (let same = length-map part.groups (moved_group (own_port kids part)) in omega (arith, same)) (copy_used part cells ruled controlled counted n less)))

  node_size : CopiesAlike (Node part cells)
  node_size =
      ap groups_size
      (enabled_both used 0 (map (moved_group (own_port kids part)) part.groups) (flat_map (copies kids part) part.invokes)
      ∙ ap₂ (λ xs ys. xs ++ ys) own_enabled copies_enabled)
      ∙ groups_size-append (map (moved_group (own_port kids part)) (needed_groups part)) (flat_map (copies kids part) part.invokes)
      ∙ ap₂ (λ n m. n + m) (lists.groups_size-moved (own_port kids part) (needed_groups part)) node_copies_size

mutual
  copies_alike : (i : Instance) → AllRuled i → AllControlled i → CopiesAlike i
  copies_alike (Node part cells) ruled controlled =
      node_size part cells ruled.0 controlled.0 (λ c child at. counts_below cells ruled.1 controlled.1 c child at) (λ c child at. copies_below cells ruled.1 controlled.1 c child at)

  copies_below : (cells : Cells) → AllRuledBelow cells → AllControlledBelow cells → (c : ℕ) (child : Instance) → cell_at cells c ≡ OfInstance child → CopiesAlike child
  copies_below no_cells ruled controlled c child at = absurd (cc)
  copies_below (a_primitive row rest) ruled controlled zero child at = absurd (cc)
  copies_below (a_primitive row rest) ruled controlled (suc c) child at = copies_below rest ruled controlled c child at
  copies_below (an_instance other rest) ruled controlled zero child at = let same : other ≡ child = cc in subst CopiesAlike same (copies_alike other ruled.0 controlled.0)
  copies_below (an_instance other rest) ruled controlled (suc c) child at = copies_below rest ruled.1 controlled.1 c child at

-- THE GROUPS of a flat component, with those of its copies
pub flat_groups_size : (part : PlainComponent) (cells : Cells) → AllRuled (Node part cells) → AllControlled (Node part cells)
    → groups_size (flat_part (Node part cells)).groups ≡ groups_size part.groups + copies_for (inners_of cells) part.invokes
flat_groups_size part cells ruled controlled =
    groups_size-append (map (moved_group (own_port (flat_kids cells) part)) part.groups) (flat_map (copies (flat_kids cells) part) part.invokes)
    ∙ ap₂ (λ n m. n + m) (lists.groups_size-moved (own_port (flat_kids cells) part) part.groups)
    (node_copies_size part cells ruled.0 controlled.0 (λ c child at. counts_below cells ruled.1 controlled.1 c child at) (λ c child at. copies_below cells ruled.1 controlled.1 c child at))
