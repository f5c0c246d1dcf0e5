-- Nothing leads in a circle under what a statement may have active at once.
use Rattle.std.proofs.Common.{◌≡◌, ℕ, suc, ◌<◌, ◌⊎◌, inl, inr, Bool, true, false, List, [], ◌∷◌, ◌++◌, length, Option, Some, None, refl, sym, ap, ◌∙◌, subst}
use Rattle.std.specs.Prelude.{nat_eq, if◌then◌else◌}
use Rattle.std.proofs.lemmas.Bool.{eqb-true}
use Rattle.cx_text.proofs.MemberLaws.{in_left, in_right, number_in}
use Rattle.cx_meaning.specs.declared.ports.PortRef.{PortRef}
use Rattle.cx_meaning.specs.declared.ports.PortRef.TheVariants as ports
use Rattle.cx_meaning.specs.Designs.{PlainDesign, PlainComponent, PlainGroup, group_at, no_group, Par, StaticPar, PlainStatement}
use Rattle.cx_meaning.specs.Instances.{Instance, part_of, tree_of, Path, instance_at}
use Rattle.cx_meaning.specs.Active.{Active, nothing, only_at, group, comb, entries, Owned, source_order, drivers, offset_of}
use Rattle.cx_text.specs.Members.{In}
use Rattle.cx_meaning.specs.Control.{with_comb, groups_of, group_drives, drives}
use Rattle.cx_rules.specs.Footprints.{AssignNames, Reads, Mentions, Depends, at_once, by_way_of, Leads}
use Rattle.cx_rules.specs.Items.{Context, InStatic, Branch, below_dynamic, Visited, visit, statements_in}
use Rattle.cx_rules.specs.RaceRule.{arms_of, IsShared}
use Rattle.cx_rules.specs.Accepted.{IsAccepted}
use Rattle.cx_rules.specs.Circles.{IsAcyclic}
use Rattle.cx_control.specs.Apart.{IsApart, HasLess}
use Rattle.cx_control.specs.Together.{or_else, union, IsTogether, at_rest, enabled, in_seq, at_if, in_then, in_else, at_while, in_while, in_repeat, at_offset, in_static_seq, in_static_par, in_static_then, in_static_else, in_static_repeat, in_par, AreTogether, no_arm, an_arm}
use Rattle.cx_control.proofs.InstanceLemmas.{KeepsPorts, there_below}
use Rattle.cx_control.proofs.LeadsLemmas.{less_acyclic, leads_by}
use Rattle.cx_control.proofs.UnionLemmas.{union_acyclic}
use Rattle.cx_meaning.proofs.SightsLaws.{behind_comb}
use Rattle.cx_text.proofs.OptionLaws.{none_some}
use Rattle.cx_rules.proofs.FrameLemmas.{acting_alike}
use Rattle.cx_meaning.proofs.ControlLaws.{groups_drive_in, in_parts}
use Rattle.cx_rules.proofs.InvokesLemmas.{drives_more, reads_more}
use Rattle.cx_rules.proofs.ItemsLemmas.{part_in}
use Rattle.cx_rules.proofs.ForeignLemmas.{OwnerOf, continuous, of_group, owner_of}
use Rattle.cx_frames.proofs.ShareLemmas.{none_shared}

only_is : (g h o : ℕ) → only_at g h ≡ Some o → g ≡ h
only_is g h o e = by (nat_eq g h) refl e
  where
    by : (t : Bool) → nat_eq g h ≡ t → (if t then Some 0 else None) ≡ Some o → g ≡ h
    by true f k = eqb-true g h f
    by false f k = absurd (none_some o k)

comb_in : (c : Option ℕ) (gs : List ℕ) (g o : ℕ) → (comb c).offset g ≡ Some o → In (with_comb c gs) g
comb_in None gs g o e = absurd (none_some o e)
comb_in (Some h) gs g o e = inl (only_is h g o e)

entry_is : (h k g o : ℕ) → (entries (record { group = h; offset = k } ∷ [])).offset g ≡ Some o → h ≡ g
entry_is h k g o e = by (nat_eq h g) refl e
  where
    by : (t : Bool) → nat_eq h g ≡ t → (if t then Some k else None) ≡ Some o → h ≡ g
    by true f l = eqb-true h g f
    by false f l = absurd (none_some o l)

record OfArm (arms : List PlainStatement) (g : ℕ) : Type 0 where
  arm : PlainStatement
  stands : In arms arm
  has : In (groups_of arm) g

mutual
  pub together_groups : {s : PlainStatement} {act : Active} → IsTogether s act → (g o : ℕ) → act.offset g ≡ Some o → In (groups_of s) g
  together_groups at_rest g o e = absurd (none_some o e)
  together_groups (enabled {g}) k o e = inl (only_is g k o e)
  together_groups (in_seq {parts} {place} {s} i t) g o e = in_parts parts s g i (together_groups t g o e)
  together_groups (at_if {test} {c} {a} {b}) g o e = comb_in c (groups_of a ++ groups_of b) g o e
  together_groups (in_then {test} {c} {a} {b} t) g o e = behind_comb c (groups_of a ++ groups_of b) g (in_left (groups_of a) (groups_of b) g (together_groups t g o e))
  together_groups (in_else {test} {c} {a} {b} t) g o e = behind_comb c (groups_of a ++ groups_of b) g (in_right (groups_of a) (groups_of b) g (together_groups t g o e))
  together_groups (at_while {test} {c} {a}) g o e = comb_in c (groups_of a) g o e
  together_groups (in_while {test} {c} {a} t) g o e = behind_comb c (groups_of a) g (together_groups t g o e)
  together_groups (in_repeat t) g o e = together_groups t g o e
  together_groups (at_offset {g} {place} n) k o e = inl (entry_is g n k o e)
  together_groups (in_static_seq {n} {parts} {place} {s} i t) g o e = in_parts parts s g i (together_groups t g o e)
  together_groups (in_static_par {n} {arms} t) g o e = let it = arms_groups t g o e in in_parts arms it.arm g it.stands it.has
  together_groups (in_static_then {n} {test} {a} {b} t) g o e = in_left (groups_of a) (groups_of b) g (together_groups t g o e)
  together_groups (in_static_else {n} {test} {a} {b} t) g o e = in_right (groups_of a) (groups_of b) g (together_groups t g o e)
  together_groups (in_static_repeat t) g o e = together_groups t g o e
  together_groups (in_par {arms} t) g o e = let it = arms_groups t g o e in in_parts arms it.arm g it.stands it.has

  arms_groups : {ss : List PlainStatement} {act : Active} → AreTogether ss act → (g o : ℕ) → act.offset g ≡ Some o → OfArm ss g
  arms_groups no_arm g o e = absurd (none_some o e)
  arms_groups (an_arm {s} {rest} {act} {other} t ts) g o e = by (act.offset g) refl e (λ k f. together_groups t g k f) (λ f. arms_groups ts g o f)
    where
      later : OfArm rest g → OfArm (s ∷ rest) g
      later it = record { arm = it.arm; stands = inr it.stands; has = it.has }

      by : (k : Option ℕ) → act.offset g ≡ k → or_else k (other.offset g) ≡ Some o → ((n : ℕ) → act.offset g ≡ Some n → In (groups_of s) g) → (other.offset g ≡ Some o → OfArm rest g) → OfArm (s ∷ rest) g
      by (Some n) f h first rest_has = record { arm = s; stands = inl refl; has = first n f }
      by None f h first rest_has = later (rest_has h)

-- ARMS that share no cell are apart
abbrev Unshared : PlainComponent → List PlainStatement → Type 0
Unshared part arms = (c : ℕ) → IsShared part arms c → ⊥

unshared_later : (part : PlainComponent) (s : PlainStatement) (rest : List PlainStatement) → Unshared part (s ∷ rest) → Unshared part rest
unshared_later part s rest none c (two, d, r) = none c (
  record {
    one = suc two.one;
    other = suc two.other;
    differ = λ e. two.differ (same two.one two.other e);
    first = two.first;
    second = two.second;
    first_stands = two.first_stands;
    second_stands = two.second_stands;
  },
  d,
  r,
)
  where
    same : (m n : ℕ) → suc m ≡ suc n → m ≡ n
    same m n e = cc

later_drives_not : (part : PlainComponent) (s : PlainStatement) (rest : List PlainStatement) → Unshared part (s ∷ rest) → (t : PlainStatement) → In rest t → (c : ℕ) → drives part t c ≡ true → Reads part s c → ⊥
later_drives_not part s rest none t i c d r =
    let n = number_in rest t i in
    none c (record { one = suc n.0; other = 0; differ = λ e. differ n.0 e; first = t; second = s; first_stands = n.1; second_stands = refl }, drives_more part t c d, reads_more part s c r)
  where
    differ : (n : ℕ) → suc n ≡ 0 → ⊥
    differ n e = cc

arm_apart : (part : PlainComponent) (s : PlainStatement) (rest : List PlainStatement) (act other : Active) → Unshared part (s ∷ rest) → IsTogether s act → AreTogether rest other → IsApart part s act (union act other)
arm_apart part s rest act other none t ts = record {
  its_own = λ g o e. together_groups t g o e;
  same = λ g c read d. by g c read d (act.offset g) (other.offset g) refl;
}
  where
    by : (g c : ℕ) → Reads part s c → group_drives part g c ≡ true → (a o : Option ℕ) → other.offset g ≡ o → a ≡ or_else a (other.offset g)
    by g c read d (Some k) o e = refl
    by g c read d None None e = sym e
    by g c read d None (Some k) e =
        let it = arms_groups ts g k e in
        absurd (later_drives_not part s rest none it.arm it.stands c (groups_drive_in part (groups_of it.arm) g c it.has d) read)

-- A GROUP, where each is acyclic
comb_acyclic : (i : Instance) → IsAcyclic i nothing → ((g : ℕ) → IsAcyclic i (group g)) → (c : Option ℕ) → IsAcyclic i (comb c)
comb_acyclic i bare each None = bare
comb_acyclic i bare each (Some g) = each g

entry_less : (h k : ℕ) → HasLess (entries (record { group = h; offset = k } ∷ [])) (group h)
entry_less h k g o e = (0, by (nat_eq h g) refl)
  where
    by : (t : Bool) → nat_eq h g ≡ t → only_at h g ≡ Some 0
    by true f = ap (λ (t : Bool). if t then Some 0 else None) f
    by false f = absurd (none_some o (sym (ap (λ (t : Bool). if t then Some k else None) f) ∙ e))

abbrev NoneShared : PlainComponent → List Visited → Type 0
NoneShared part visited = (v : Visited) → In visited v → Unshared part (arms_of v.form)

module _ (i : Instance) (keeps : (o : Owned) → In (source_order (part_of i)) o → KeepsPorts o) (no_output : (o : Owned) → In (source_order (part_of i)) o → (n : ℕ) → AssignNames o.assign (ports.Output n) → ⊥)
    (bare : IsAcyclic i nothing) (each : (g : ℕ) → IsAcyclic i (group g)) where
  mutual
    pub together_acyclic : {s : PlainStatement} {act : Active} → IsTogether s act → (context : Context) → NoneShared (part_of i) (visit context s) → IsAcyclic i act
    together_acyclic at_rest context none = bare
    together_acyclic (enabled {g}) context none = each g
    together_acyclic (in_seq {parts} {place} {s} j t) context none = together_acyclic t (below_dynamic context) (λ v k. none v (inr (part_in (below_dynamic context) parts s j v k)))
    together_acyclic (at_if {test} {c}) context none = comb_acyclic i bare each c
    together_acyclic (in_then {test} {c} {a} {b} t) context none = together_acyclic t (below_dynamic context) (λ v k. none v (inr (in_left (visit (below_dynamic context) a) (visit (below_dynamic context) b) v k)))
    together_acyclic (in_else {test} {c} {a} {b} t) context none = together_acyclic t (below_dynamic context) (λ v k. none v (inr (in_right (visit (below_dynamic context) a) (visit (below_dynamic context) b) v k)))
    together_acyclic (at_while {test} {c}) context none = comb_acyclic i bare each c
    together_acyclic (in_while t) context none = together_acyclic t (below_dynamic context) (λ v k. none v (inr k))
    together_acyclic (in_repeat t) context none = together_acyclic t (below_dynamic context) (λ v k. none v (inr k))
    together_acyclic (at_offset {g} {place} k) context none = less_acyclic (entries (record { group = g; offset = k } ∷ [])) (group g) (entry_less g k) i (each g)
    together_acyclic (in_static_seq {n} {parts} {place} {s} j t) context none = together_acyclic t InStatic (λ v k. none v (inr (part_in InStatic parts s j v k)))
    together_acyclic (in_static_par {n} {arms} {place} t) context none =
        arms_acyclic t InStatic (λ s j v k. none v (inr (part_in InStatic arms s j v k))) (none (record { context = context; form = StaticPar n arms; place = place }) (inl refl))
    together_acyclic (in_static_then {n} {test} {a} {b} t) context none = together_acyclic t Branch (λ v k. none v (inr (in_left (visit Branch a) (visit Branch b) v k)))
    together_acyclic (in_static_else {n} {test} {a} {b} t) context none = together_acyclic t Branch (λ v k. none v (inr (in_right (visit Branch a) (visit Branch b) v k)))
    together_acyclic (in_static_repeat t) context none = together_acyclic t InStatic (λ v k. none v (inr k))
    together_acyclic (in_par {arms} {place} t) context none =
        arms_acyclic t (below_dynamic context) (λ s j v k. none v (inr (part_in (below_dynamic context) arms s j v k))) (none (record { context = context; form = Par arms; place = place }) (inl refl))

    arms_acyclic : {ss : List PlainStatement} {act : Active} → AreTogether ss act → (context : Context) → ((s : PlainStatement) → In ss s → NoneShared (part_of i) (visit context s)) → Unshared (part_of i) ss → IsAcyclic i act
    arms_acyclic no_arm context none apart = bare
    arms_acyclic (an_arm {s} {rest} {act} {other} t ts) context none apart =
        union_acyclic i s act other (arm_apart (part_of i) s rest act other apart t ts) keeps no_output (together_acyclic t context (none s (inl refl)))
        (arms_acyclic ts context (λ u j. none u (inr j)) (unshared_later (part_of i) s rest apart))

-- IN AN ACCEPTED DESIGN no two arms share a cell
module _ (d : PlainDesign) (accepted : IsAccepted d) where
  pub instance_unshared : (path : Path) → NoneShared (part_of (instance_at (tree_of d) path)) (statements_in (part_of (instance_at (tree_of d) path)))
  instance_unshared path = none_shared d accepted path

-- a group that is not there leads nowhere
module _ (i : Instance) (bare : IsAcyclic i nothing) (g : ℕ) (none : group_at (part_of i) g ≡ no_group) where
  lone_drivers : (p : PortRef) → drivers (part_of i) (group g) p ≡ drivers (part_of i) nothing p
  lone_drivers p = acting_alike (group g) nothing p (source_order (part_of i)) (λ o stands target. by o (owner_of (part_of i) o stands))
    where
      by : (o : Owned) → OwnerOf (part_of i) o → offset_of (group g) o.owner ≡ offset_of nothing o.owner
      by o (continuous owner there) = ap (offset_of (group g)) owner ∙ sym (ap (offset_of nothing) owner)
      by o (of_group h owner there) = ap (offset_of (group g)) owner ∙ other (nat_eq g h) refl ∙ sym (ap (offset_of nothing) owner)
        where
          other : (t : Bool) → nat_eq g h ≡ t → only_at g h ≡ None
          other true f = absurd (subst (λ (x : PlainGroup). In x.assigns o.assign) (ap (group_at (part_of i)) (sym (eqb-true g h f)) ∙ none) there)
          other false f = ap (λ (t : Bool). if t then Some 0 else None) f

  lone_leads : (p q : PortRef) → Leads i (group g) p q → Leads i nothing p q
  lone_leads p q l = leads_by i (group g) nothing p (λ r m. subst (λ acts. Mentions acts r) (lone_drivers p) m) q l

  lone_depends : {p q : PortRef} → Depends i (group g) p q → Depends i nothing p q
  lone_depends {p} {q} (at_once l) = at_once (lone_leads p q l)
  lone_depends {p} {q} (by_way_of r l deeper) = by_way_of r (lone_leads p r l) (lone_depends deeper)

  lone_acyclic : IsAcyclic i (group g)
  lone_acyclic (p, circle) = bare (p, lone_depends circle)

pub groups_acyclic : (i : Instance) → IsAcyclic i nothing → ((g : ℕ) → g < length (part_of i).groups → IsAcyclic i (group g)) → (g : ℕ) → IsAcyclic i (group g)
groups_acyclic i bare each g = by (there_below (part_of i) g)
  where
    by : (g < length (part_of i).groups) ⊎ (group_at (part_of i) g ≡ no_group) → IsAcyclic i (group g)
    by (inl h) = each g h
    by (inr e) = lone_acyclic i bare g e
