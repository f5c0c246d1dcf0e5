-- The ports that matter while some groups are active: those of cells that are no candidates, or that are used. What leads from them does
-- not leave them, and the new numbers keep them apart from all that is driven.
use Rattle.std.proofs.Common.{◌≡◌, ℕ, zero, suc, ◌+◌, ◌<◌, ◌≤◌, inl, inr, ◌⊎◌, ⊎_elim, Bool, true, false, ◌||◌, ◌&&◌, Some, None, List, [], ◌∷◌, length, refl, sym, ap, ◌∙◌, subst, arith}
use Rattle.std.specs.Prelude.{not, nat_eq, get_or}
use Rattle.std.specs.List.{list_any}
use Rattle.std.proofs.lemmas.Bool.{eqb-true, eq-eqb, both_ways, cases_lt, or_right}
use Rattle.std.proofs.lemmas.List.{get_or_past}
use Rattle.cx_meaning.specs.declared.ports.PortRef.{PortRef}
use Rattle.cx_meaning.specs.declared.ports.PortRef.TheVariants as ports
use Rattle.cx_meaning.specs.declared.ports.PlacedPort.{PlacedPort}
use Rattle.cx_meaning.specs.Designs.{PlainAssign, PlainGroup, PlainComponent, group_at, no_group}
use Rattle.cx_meaning.specs.Instances.{Instance, part_of}
use Rattle.cx_meaning.specs.Active.{Active, Owned, owned, owned_by_groups, source_order, offset_of, same_port}
use Rattle.cx_meaning.specs.Control.{targets_cell, assigns_drive}
use Rattle.cx_text.specs.Members.{In}
use Rattle.cx_meaning.proofs.InstancesLemmas.{just_same}
use Rattle.cx_rules.specs.Items.{sources_of, statements_in}
use Rattle.cx_rules.specs.Footprints.{AssignNames, Leads}
use Rattle.cx_rules.proofs.ForeignLemmas.{sorted_among, owned_among, split, groups_among, OwnerOf, continuous, of_group}
use Rattle.cx_rewrites.specs.Renaming.{renamed}
use Rattle.cx_rewrites.specs.Driving.{assigns_of, KeepsApart}
use Rattle.cx_rewrites.proofs.ClosedLemmas.{is_closed}
use Rattle.cx_sharing.specs.Uses.{assign_uses, assigns_use, group_uses, is_combinational, kind_in, is_candidate}
use Rattle.cx_sharing.specs.Meeting.{has_both, form_meets, meet}
use Rattle.cx_sharing.proofs.KeptLemmas.{AreApart}
use Rattle.cx_rules.proofs.FoundLemmas.{source_in}

pub any_of : {A : Type 0} (test : A → Bool) (list : List A) (x : A) → In list x → test x ≡ true → list_any test list ≡ true
any_of test [] x i e = absurd i
any_of test (y ∷ ys) x (inl same) e = ap (λ b. b || list_any test ys) (ap test same ∙ e)
any_of test (y ∷ ys) x (inr i) e = or_right (test y) (list_any test ys) (any_of test ys x i e)

-- an assignment uses the cells of its target, and of the ports that it names
pub target_used : (a : PlainAssign) (c n : ℕ) → a.target ≡ ports.Cell c n → assign_uses a c ≡ true
target_used a c n e =
    ap (λ p. targets_cell p c || list_any (λ (q : PlacedPort). targets_cell q.port c) (sources_of a)) e
    ∙ ap (λ b. b || list_any (λ (q : PlacedPort). targets_cell q.port c) (sources_of a)) (just_same c)

pub named_used : (a : PlainAssign) (c n : ℕ) → AssignNames a (ports.Cell c n) → assign_uses a c ≡ true
named_used a c n names =
    let r = source_in a (ports.Cell c n) names in
    or_right (targets_cell a.target c) (list_any (λ (q : PlacedPort). targets_cell q.port c) (sources_of a))
    (any_of (λ (q : PlacedPort). targets_cell q.port c) (sources_of a) r.0 r.1 (ap (λ p. targets_cell p c) r.2 ∙ just_same c))

-- an assignment of a component is a continuous one, or one of a group
pub owner_of : (part : PlainComponent) (o : Owned) → In (assigns_of part) o → OwnerOf part o
owner_of part o i =
    ⊎_elim
    (λ j. let r = owned_among None part.always o j in continuous r.0 r.1)
    (λ j. let r = groups_among 0 part.groups o j in let e : 0 + r.number ≡ r.number = omega arith in of_group r.number (r.owner ∙ ap Some e) r.stands)
    (split (owned None part.always) (owned_by_groups 0 part.groups) o i)

module _ (part : PlainComponent) where
  -- what a continuous assignment names or drives is no candidate
  pub no_candidate : (c : ℕ) → assigns_use part.always c ≡ true → is_candidate part c ≡ false
  no_candidate c e =
      ap (λ b. is_combinational (kind_in part.cells c) && list_any (λ (g : PlainGroup). assigns_drive g.assigns c) part.groups && not b) e
      ∙ gone (is_combinational (kind_in part.cells c)) (list_any (λ (g : PlainGroup). assigns_drive g.assigns c) part.groups)
    where
      gone : (a b : Bool) → (a && b && false) ≡ false
      gone true true = refl
      gone true false = refl
      gone false true = refl
      gone false false = refl

  module _ (used : ℕ → Type 0) where
    -- a cell that is no candidate, or is among the used ones; the ports of such cells
    abbrev pub IsIn : ℕ → Type 0
    IsIn c = (is_candidate part c ≡ false) ⊎ used c

    abbrev pub Inside : PortRef → Type 0
    Inside (ports.Cell c n) = IsIn c
    Inside (ports.Input n) = Unit {0}
    Inside (ports.Output n) = Unit {0}
    Inside (ports.Done g) = Unit {0}
    Inside (ports.Literal w v) = Unit {0}

    -- what an active group uses is among them
    abbrev pub Covers : Active → Type 0
    Covers act = (g k c : ℕ) → act.offset g ≡ Some k → group_uses part g c ≡ true → used c

    inside_by : (q : PortRef) → ((c n : ℕ) → q ≡ ports.Cell c n → IsIn c) → Inside q
    inside_by (ports.Cell c n) h = h c n refl
    inside_by (ports.Input n) h = tt
    inside_by (ports.Output n) h = tt
    inside_by (ports.Done g) h = tt
    inside_by (ports.Literal w v) h = tt

    -- a cell that an active assignment uses
    pub active_uses : (act : Active) → Covers act → (o : Owned) (k c : ℕ) → In (assigns_of part) o → offset_of act o.owner ≡ Some k → assign_uses o.assign c ≡ true → IsIn c
    active_uses act covers o k c i acts uses = by (owner_of part o i)
      where
        by : OwnerOf part o → IsIn c
        by (continuous e j) = inl (no_candidate c (any_of (λ a. assign_uses a c) part.always o.assign j uses))
        by (of_group g e j) = inr (covers g k c (ap (offset_of act) (sym e) ∙ acts) (any_of (λ a. assign_uses a c) (group_at part g).assigns o.assign j uses))

    -- CLOSED
    pub inside_closed : (i : Instance) (act : Active) → Covers act → part_of i ≡ part → (p q : PortRef) → Inside p → Leads i act p q → Inside q
    inside_closed i act covers same p q here leads = is_closed i act Inside named (λ c n m row at side reads inside. inside) p q here leads
      where
        named : (o : Owned) (k : ℕ) (r : PortRef) → In (source_order (part_of i)) o → offset_of act o.owner ≡ Some k → Inside o.assign.target → AssignNames o.assign r → Inside r
        named o k r stands acts target names =
            inside_by r (λ c n e. active_uses act covers o k c (subst (λ x. In (assigns_of x) o) same (sorted_among (assigns_of (part_of i)) o stands)) acts
            (named_used o.assign c n (subst (AssignNames o.assign) e names)))

    -- two candidates that are used at once meet, or are one
    abbrev pub UsedMeet : Type 0
    UsedMeet = (x y : ℕ) → is_candidate part x ≡ true → is_candidate part y ≡ true → used x → used y → (x ≡ y) ⊎ (meet part x y ≡ true)

    module _ (cell : ℕ → ℕ) (apart : AreApart part cell) (meets : UsedMeet) where
      pub one_number : (x y : ℕ) → IsIn x → IsIn y → cell x ≡ cell y → x ≡ y
      one_number x y a b e = ⊎_elim (λ same. same) (λ h. by a b h.0 h.1 h.2) (apart x y e)
        where
          by : IsIn x → IsIn y → is_candidate part x ≡ true → is_candidate part y ≡ true → (meet part x y ≡ false) ⊎ (meet part y x ≡ false) → x ≡ y
          by (inl none) b cx cy off = absurd (both_ways (is_candidate part x) none cx)
          by (inr u) (inl none) cx cy off = absurd (both_ways (is_candidate part y) none cy)
          by (inr u) (inr v) cx cy (inl off) = ⊎_elim (λ same. same) (λ on. absurd (both_ways (meet part x y) off on)) (meets x y cx cy u v)
          by (inr u) (inr v) cx cy (inr off) = ⊎_elim (λ same. sym same) (λ on. absurd (both_ways (meet part y x) off on)) (meets y x cy cx v u)

      same_numbers : (d c : ℕ) → IsIn d → IsIn c → nat_eq (cell d) (cell c) ≡ nat_eq d c
      same_numbers d c a b = by (nat_eq (cell d) (cell c)) refl (nat_eq d c) refl
        where
          self : (n : ℕ) → nat_eq n n ≡ true
          self n = eq-eqb n n refl

          by : (x : Bool) → nat_eq (cell d) (cell c) ≡ x → (y : Bool) → nat_eq d c ≡ y → x ≡ y
          by true e true f = refl
          by false e false f = refl
          by true e false f = sym (sym f ∙ ap (λ n. nat_eq d n) (sym (one_number d c a b (eqb-true (cell d) (cell c) e))) ∙ self d)
          by false e true f = sym e ∙ ap (λ n. nat_eq (cell d) (cell n)) (sym (eqb-true d c f)) ∙ self (cell d)

      -- two ports inside of one new number are one
      pub one_port : (p q : PortRef) → Inside p → Inside q → renamed cell p ≡ renamed cell q → p ≡ q
      one_port (ports.Cell c n) (ports.Cell d m) a b e =
          let cells : cell c ≡ cell d = cc in let numbers : n ≡ m = cc in ap (λ x. ports.Cell x n) (one_number c d a b cells) ∙ ap (ports.Cell d) numbers
      one_port (ports.Cell c n) (ports.Input m) a b e = absurd (cc)
      one_port (ports.Cell c n) (ports.Output m) a b e = absurd (cc)
      one_port (ports.Cell c n) (ports.Done g) a b e = absurd (cc)
      one_port (ports.Cell c n) (ports.Literal w v) a b e = absurd (cc)
      one_port (ports.Input n) (ports.Cell c m) a b e = absurd (cc)
      one_port (ports.Input n) (ports.Input m) a b e = e
      one_port (ports.Input n) (ports.Output m) a b e = e
      one_port (ports.Input n) (ports.Done g) a b e = e
      one_port (ports.Input n) (ports.Literal w v) a b e = e
      one_port (ports.Output n) (ports.Cell c m) a b e = absurd (cc)
      one_port (ports.Output n) (ports.Input m) a b e = e
      one_port (ports.Output n) (ports.Output m) a b e = e
      one_port (ports.Output n) (ports.Done g) a b e = e
      one_port (ports.Output n) (ports.Literal w v) a b e = e
      one_port (ports.Done h) (ports.Cell c m) a b e = absurd (cc)
      one_port (ports.Done h) (ports.Input m) a b e = e
      one_port (ports.Done h) (ports.Output m) a b e = e
      one_port (ports.Done h) (ports.Done g) a b e = e
      one_port (ports.Done h) (ports.Literal w v) a b e = e
      one_port (ports.Literal x u) (ports.Cell c m) a b e = absurd (cc)
      one_port (ports.Literal x u) (ports.Input m) a b e = e
      one_port (ports.Literal x u) (ports.Output m) a b e = e
      one_port (ports.Literal x u) (ports.Done g) a b e = e
      one_port (ports.Literal x u) (ports.Literal w v) a b e = e

      -- APART
      pub inside_apart : (act : Active) → Covers act → (p : PortRef) → Inside p → KeepsApart (renamed cell) act p (assigns_of part)
      inside_apart act covers p here o k i acts = by o.assign.target refl p here
        where
          driven : (d m : ℕ) → o.assign.target ≡ ports.Cell d m → IsIn d
          driven d m e = active_uses act covers o k d i acts (target_used o.assign d m e)

          by : (t : PortRef) → o.assign.target ≡ t → (q : PortRef) → Inside q → same_port (renamed cell t) (renamed cell q) ≡ same_port t q
          by (ports.Cell d m) e (ports.Cell c n) inside = ap (λ b. b && nat_eq m n) (same_numbers d c (driven d m e) inside)
          by (ports.Cell d m) e (ports.Input n) inside = refl
          by (ports.Cell d m) e (ports.Output n) inside = refl
          by (ports.Cell d m) e (ports.Done g) inside = refl
          by (ports.Cell d m) e (ports.Literal w v) inside = refl
          by (ports.Input m) e (ports.Cell c n) inside = refl
          by (ports.Input m) e (ports.Input n) inside = refl
          by (ports.Input m) e (ports.Output n) inside = refl
          by (ports.Input m) e (ports.Done g) inside = refl
          by (ports.Input m) e (ports.Literal w v) inside = refl
          by (ports.Output m) e (ports.Cell c n) inside = refl
          by (ports.Output m) e (ports.Input n) inside = refl
          by (ports.Output m) e (ports.Output n) inside = refl
          by (ports.Output m) e (ports.Done g) inside = refl
          by (ports.Output m) e (ports.Literal w v) inside = refl
          by (ports.Done h) e (ports.Cell c n) inside = refl
          by (ports.Done h) e (ports.Input n) inside = refl
          by (ports.Done h) e (ports.Output n) inside = refl
          by (ports.Done h) e (ports.Done g) inside = refl
          by (ports.Done h) e (ports.Literal w v) inside = refl
          by (ports.Literal x u) e (ports.Cell c n) inside = refl
          by (ports.Literal x u) e (ports.Input n) inside = refl
          by (ports.Literal x u) e (ports.Output n) inside = refl
          by (ports.Literal x u) e (ports.Done g) inside = refl
          by (ports.Literal x u) e (ports.Literal w v) inside = refl

  -- ONE GROUP: what it uses meets
  pub group_meets : (g x y : ℕ) → group_uses part g x ≡ true → group_uses part g y ≡ true → meet part x y ≡ true
  group_meets g x y a b =
      left_or (list_any (λ v. form_meets part v.form x y) (statements_in part))
      (any_of (λ (z : PlainGroup). has_both (assigns_use z.assigns) x y) part.groups (group_at part g) (at_in part.groups g (there (cases_lt g (length part.groups)))) (ap (λ t. t && assigns_use (group_at part g).assigns y) a ∙ b))
    where
      left_or : {t : Bool} (u : Bool) → t ≡ true → (t || u) ≡ true
      left_or u e = ap (λ z. z || u) e

      at_in : (list : List PlainGroup) (n : ℕ) → n < length list → In list (get_or list n no_group)
      at_in [] n lt = absurd (omega (arith, lt))
      at_in (z ∷ zs) zero lt = inl refl
      at_in (z ∷ zs) (suc n) lt = inr (at_in zs n (omega (arith, lt)))

      there : (g < length part.groups) ⊎ (length part.groups ≤ g) → g < length part.groups
      there (inl lt) = lt
      there (inr le) = absurd (both_ways (assigns_use no_group.assigns x) refl (ap (λ (z : PlainGroup). assigns_use z.assigns x) (sym (get_or_past part.groups g no_group le)) ∙ a))

  -- ONE CONDITION, with its comb group; ARMS of a par
  pub statement_meets : (x y : ℕ) → list_any (λ v. form_meets part v.form x y) (statements_in part) ≡ true → meet part x y ≡ true
  statement_meets x y e = or_right (list_any (λ (g : PlainGroup). has_both (assigns_use g.assigns) x y) part.groups) (list_any (λ v. form_meets part v.form x y) (statements_in part)) e
