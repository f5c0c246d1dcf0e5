-- ASSIGNMENTS IN SOURCE ORDER, and the groups that they stand in; and the groups of the new design.
use Rattle.std.proofs.Common.{◌≡◌, ℕ, zero, suc, ◌⊎◌, inl, inr, Bool, true, false, List, [], ◌∷◌, Option, Some, None, refl, sym, ap, ◌∙◌, subst, get_or}
use Rattle.std.specs.Prelude.{nat_eq, if◌then◌else◌}
use Rattle.std.proofs.lemmas.Bool.{eqb-true}
use Rattle.cx_meaning.specs.declared.kinds.GroupKind.{GroupKind}
use Rattle.cx_meaning.specs.declared.kinds.GroupKind.TheVariants as kinds
use Rattle.cx_meaning.specs.Designs.{Always, PlainAssign, PlainGroup, PlainComponent, group_at, no_group}
use Rattle.cx_meaning.specs.Instances.{Instance}
use Rattle.cx_meaning.specs.Active.{group, entries, offset_of}
use Rattle.cx_text.specs.Members.{In}
use Rattle.cx_meaning.specs.Islands.{kind_length}
use Rattle.cx_rules.specs.Items.{is_plain}
use Rattle.cx_rules.specs.Ports.{is_primitive_enable}
use Rattle.cx_rules.specs.ShapeRules.{is_hole}
use Rattle.cx_promotion.specs.Promotable.{promotable, bare_enable, promoted_assigns, promoted_group}
use Rattle.cx_promotion.specs.Made.{GroupsMade, no_groups, a_group, IsPromoted}
use Rattle.cx_promotion.proofs.Orders.{Both}
use Rattle.cx_promotion.proofs.Shapes.{shape_of}
use Rattle.cx_promotion.proofs.Runs.{entry}
use Rattle.cx_promotion.proofs.Impossible.{no_true, no_some}

-- THE ACTIVE ASSIGNMENTS of one group are its own and the continuous ones, at whatever offset
module _ (g o : ℕ) where
  pub one_offset : (w : Option ℕ) → Both (offset_of (group g) w) (offset_of (entries (entry (λ k. k) g o ∷ [])) w)
  one_offset None = tt
  one_offset (Some k) = by (nat_eq g k)
    where
      by : (b : Bool) → Both (if b then Some 0 else None) (if b then Some o else None)
      by true = tt
      by false = tt

  pub is_owner : (w : Option ℕ) (k : ℕ) → offset_of (group g) w ≡ Some k → (w ≡ None) ⊎ (w ≡ Some g)
  is_owner None k e = inl refl
  is_owner (Some h) k e = by (nat_eq g h) refl e
    where
      by : (b : Bool) → nat_eq g h ≡ b → (if b then Some 0 else None) ≡ Some k → (Some h ≡ None) ⊎ (Some h ≡ Some g)
      by true is f = inr (ap Some (sym (eqb-true g h is)))
      by false is f = no_some k f

-- a plain group has no length
pub plain_length : (kind : GroupKind) → is_plain kind ≡ true → kind_length kind ≡ None
plain_length kinds.Plain e = refl
plain_length kinds.Comb e = no_true e
plain_length (kinds.Timed n) e = no_true e

-- GROUPS of the new design
module _ (i : Instance) (x : PlainGroup) where
  bare_is : (a b : PlainAssign) → bare_enable i a ≡ b → is_primitive_enable i b.target ≡ true → b.guard ≡ Always
  bare_is a b e enable = by (is_primitive_enable i a.target) refl e
    where
      by : (t : Bool) → is_primitive_enable i a.target ≡ t → (if t then record a { guard = Always } else a) ≡ b → b.guard ≡ Always
      by true is f = sym (ap (λ (y : PlainAssign). y.guard) f)
      by false is f = absurd (let wrong : true ≡ false = sym enable ∙ sym (ap (λ (y : PlainAssign). is_primitive_enable i y.target) f) ∙ is in cc)

  -- an enabling port of a promoted group is driven without a guard
  pub promoted_bare : (list : List PlainAssign) (b : PlainAssign) → In (promoted_assigns i list) b → is_primitive_enable i b.target ≡ true → b.guard ≡ Always
  promoted_bare [] b j enable = absurd j
  promoted_bare (a ∷ rest) b j enable = by (is_hole a.target) j (λ k. promoted_bare rest b k enable)
    where
      by : (t : Bool) → In (if t then promoted_assigns i rest else bare_enable i a ∷ promoted_assigns i rest) b → (In (promoted_assigns i rest) b → b.guard ≡ Always) → b.guard ≡ Always
      by true k later = later k
      by false (inl e) later = bare_is a b e enable
      by false (inr k) later = later k

-- a group stays or is promoted
pub group_made : (i : Instance) {xs ys : List PlainGroup} → GroupsMade i xs ys → (g : ℕ) → (get_or ys g no_group ≡ get_or xs g no_group)
    ⊎ ((n : ℕ) × (promotable i (get_or xs g no_group) ≡ Some n) × (get_or ys g no_group ≡ promoted_group i n (get_or xs g no_group)))
group_made i no_groups g = inl refl
group_made i (a_group here later) zero = here
group_made i (a_group here later) (suc g) = group_made i later g

-- and not both
pub not_promoted : (i : Instance) (old new : PlainComponent) (g : ℕ) → group_at new g ≡ group_at old g → IsPromoted i old new g → ⊥
not_promoted i old new g stays (n, is, made) =
    let shape = shape_of i (group_at old g) n is in
    let same : (group_at old g).kind ≡ kinds.Timed n = ap (λ (x : PlainGroup). x.kind) (sym stays ∙ made) in
    no_true (subst (λ kind. is_plain kind ≡ true) same shape.plain)

pub not_promoted_kind : (i : Instance) (old new : PlainComponent) (g : ℕ) → is_plain (group_at old g).kind ≡ false → IsPromoted i old new g → ⊥
not_promoted_kind i old new g kind (n, is, made) =
    let shape = shape_of i (group_at old g) n is in
    let wrong : true ≡ false = sym shape.plain ∙ kind in cc
