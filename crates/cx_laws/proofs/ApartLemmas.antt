-- In an accepted design the groups that an island has active in one cycle look at nothing that another of them drives.
use Rattle.std.proofs.Common.{◌≡◌, ℕ, ◌<◌, inl, inr, ⊎_elim, Bool, true, false, ◌||◌, Some, List, [], ◌∷◌, length, refl, sym, ap, ◌∙◌, subst}
use Rattle.std.specs.Prelude.{if◌then◌else◌, nat_eq}
use Rattle.std.proofs.lemmas.Bool.{cases_lt, eqb-true, eqb-false}
use Rattle.std.proofs.lemmas.List.{get_or_past}
use Rattle.cx_meaning.specs.declared.ports.PortRef.TheVariants as ports
use Rattle.cx_meaning.specs.Designs.{PlainAssign, PlainComponent, PlainDesign, PlainStatement, Placed, component_at, no_component, group_at}
use Rattle.cx_meaning.specs.Instances.{Instance, part_of, tree_of, Path, instance_at}
use Rattle.cx_meaning.specs.Active.{Active, Entry, offset_in, entries}
use Rattle.cx_text.specs.Members.{In}
use Rattle.cx_meaning.specs.Control.{groups_of, group_drives, drives}
use Rattle.cx_meaning.specs.Islands.{History, form_length, form_flat, active_in}
use Rattle.cx_rules.specs.Items.{Visited, Dynamic, statements_in}
use Rattle.cx_rules.specs.Footprints as footprints
use Rattle.cx_rules.specs.Footprints.{AssignNames, Reads}
use Rattle.cx_rules.specs.RaceRule.{Arms, arms_of, enabled_in}
use Rattle.cx_rules.specs.Accepted.{IsAccepted}
use Rattle.cx_rules.specs.Wellformed.{IsDesign}
use Rattle.cx_rules.specs.Circles.{IsAcyclic}
use Rattle.cx_rules.proofs.CircleLemmas.{Reached, a_tree, no_tree, reached, instance_acyclic, instance_group}
use Rattle.cx_laws.specs.Closures.{IsClosed}
use Rattle.cx_laws.specs.Positions.{active_at}
use Rattle.cx_laws.proofs.ReadsLemmas.{reads_least}
use Rattle.cx_rules.proofs.InvokesLemmas.{drives_more, reads_more}
use Rattle.cx_laws.proofs.IslandLemmas.{active_is, active_past}
use Rattle.cx_laws.proofs.EdgeLemmas.{IsActive, enabled, StandApart, no_shared_circle}
use Rattle.cx_laws.proofs.TogetherLemmas.{InPar, Together, among, together}
use Rattle.cx_laws.proofs.SourceLemmas.{fit_source}
use Rattle.cx_laws.proofs.RaceLemmas.{unshared, not_twice}
use Rattle.cx_laws.proofs.VisitLemmas.{visited}
use Rattle.cx_meaning.proofs.ControlLaws.{groups_drive_in}
use Rattle.cx_text.proofs.NumberLaws.{false_true}
use Rattle.cx_rules.proofs.CirclesLemmas.{own_acyclic}
use Rattle.cx_meaning.proofs.ActiveLemmas.{entry_of}
use Rattle.cx_meaning.proofs.DesignsLemmas.{same_part}

only_drives : (part : PlainComponent) (g c : ℕ) → drives part (enabled g) c ≡ true → group_drives part g c ≡ true
only_drives part g c e = go (group_drives part g c) e
  where
    go : (b : Bool) → (b || false) ≡ true → b ≡ true
    go true e = refl
    go false e = e

group_reads : (part : PlainComponent) (s : PlainStatement) (g : ℕ) → In (groups_of s) g → {c : ℕ} → Reads part (enabled g) c → Reads part s c
group_reads part s g i {c} r = reads_least part (enabled g) (Reads part s) closed r
  where
    named : (e p k : ℕ) (a : PlainAssign) → In (g ∷ []) k → In (group_at part k).assigns a → AssignNames a (ports.Cell e p) → Reads part s e
    named e p k a (inl same) j n = footprints.named p k a (subst (In (groups_of s)) same i) j n
    named e p k a (inr none) j n = absurd none

    closed : IsClosed part (enabled g) (Reads part s)
    closed = record {
      driven = λ e h. footprints.driven (groups_drive_in part (groups_of s) g e i (only_drives part g e h));
      named = named;
      tested = λ e p test j h. absurd j;
      through = λ e p f q a h j t n. footprints.through e p q a h j t n;
    }

module _ (d : PlainDesign) (accepted : IsAccepted d) (k : ℕ) (within : k < length d.components) where
  -- two groups that stand in two arms
  par_apart : (g f c : ℕ) → InPar (statements_in (component_at d k)) g f → group_drives (component_at d k) f c ≡ true → Reads (component_at d k) (enabled g) c → ⊥
  par_apart g f c p h r =
      let a = p.arms in
      let two : Arms (arms_of p.statement.form) = record { one = a.two.other; other = a.two.one; differ = λ e. a.two.differ (sym e); first = a.two.second; second = a.two.first; first_stands = a.two.second_stands; second_stands = a.two.first_stands } in
      unshared d accepted k within p.statement p.stands c
      (two, drives_more (component_at d k) a.two.second c (groups_drive_in (component_at d k) (groups_of a.two.second) f c a.other h), reads_more (component_at d k) a.two.first c (group_reads (component_at d k) a.two.first g a.one r))

  module _ (v : Visited) (stands : In (statements_in (component_at d k)) v) (h : History) (t : ℕ) where
    entries_within : (e f : Entry) → t < form_length (component_at d k) v.form → In (active_in h t (form_flat (component_at d k) v.form 0 [])) e → In (active_in h t (form_flat (component_at d k) v.form 0 [])) f → Together (statements_in (component_at d k)) e f
    entries_within e f l i j =
        let same : active_in h t (form_flat (component_at d k) v.form 0 []) ≡ active_at (component_at d k) h t v.form = active_is h t (component_at d k) v.form l in
        among (λ w p. visited Dynamic (component_at d k).control v w stands p)
        (together (component_at d k) h t v.context (Placed v.form v.place) t e f (subst (λ x. In x e) same i) (subst (λ x. In x f) same j))

    entries_together : (e f : Entry) → In (active_in h t (form_flat (component_at d k) v.form 0 [])) e → In (active_in h t (form_flat (component_at d k) v.form 0 [])) f → Together (statements_in (component_at d k)) e f
    entries_together e f i j =
        ⊎_elim
        (λ l. entries_within e f l i j)
        (λ l. let none : In [] e = subst (λ x. In x e) (active_past h t (component_at d k) v.form l) i in absurd none)
        (cases_lt t (form_length (component_at d k) v.form))

    by_together : (e f : Entry) (c : ℕ) → (e.group ≡ f.group → ⊥) → Together (statements_in (component_at d k)) e f → group_drives (component_at d k) f.group c ≡ true → Reads (component_at d k) (enabled e.group) c → ⊥
    by_together e f c differ (inl same) drives reads = differ (ap (λ x. x.group) same)
    by_together e f c differ (inr p) drives reads = par_apart e.group f.group c p drives reads

    -- each group is in one entry
    pub entry_once : (e f : Entry) → In (active_in h t (form_flat (component_at d k) v.form 0 [])) e → In (active_in h t (form_flat (component_at d k) v.form 0 [])) f → e.group ≡ f.group → e ≡ f
    entry_once e f i j same =
        ⊎_elim
        (λ r. r)
        (λ p. absurd (not_twice d accepted k within p.statement p.stands e.group (p.arms.two, p.arms.one_enabled, subst (In (enabled_in p.arms.two.second)) (sym same) p.arms.other_enabled)))
        (entries_together e f i j)

    apart : (g f c : ℕ) → IsActive (entries (active_in h t (form_flat (component_at d k) v.form 0 []))) g → IsActive (entries (active_in h t (form_flat (component_at d k) v.form 0 []))) f → (g ≡ f → ⊥)
        → group_drives (component_at d k) f c ≡ true → Reads (component_at d k) (enabled g) c → ⊥
    apart g f c (m, a) (n, b) differ drives reads =
        let x = entry_of (active_in h t (form_flat (component_at d k) v.form 0 [])) g m a in
        let y = entry_of (active_in h t (form_flat (component_at d k) v.form 0 [])) f n b in
        by_together x.0 y.0 c (λ e. differ (sym x.2 ∙ e ∙ y.2)) (entries_together x.0 y.0 x.1 y.1)
        (subst (λ z. group_drives (component_at d k) z c ≡ true) (sym y.2) drives) (subst (λ z. Reads (component_at d k) (enabled z) c) (sym x.2) reads)

    pub stand_apart : IsDesign d → StandApart (component_at d k) (entries (active_in h t (form_flat (component_at d k) v.form 0 [])))
    stand_apart design = record { sources = fit_source d design accepted k within; apart = apart }

-- where each group is in one entry its offset is that of its entry
offset_once : (es : List Entry) (e : Entry) → ((f : Entry) → In es f → f.group ≡ e.group → f ≡ e) → In es e → offset_in es e.group ≡ Some e.offset
offset_once [] e once i = absurd i
offset_once (x ∷ xs) e once i = go (nat_eq x.group e.group) refl i (offset_once xs e (λ f j same. once f (inr j) same))
  where
    go : (b : Bool) → nat_eq x.group e.group ≡ b → In (x ∷ xs) e → (In xs e → offset_in xs e.group ≡ Some e.offset) → (if b then Some x.offset else offset_in xs e.group) ≡ Some e.offset
    go true same i rest = ap (λ f. Some f.offset) (once x (inl refl) (eqb-true x.group e.group same))
    go false differ (inl same) rest = absurd (eqb-false x.group e.group differ (ap (λ f. f.group) same))
    go false differ (inr j) rest = rest j

-- a component without assignments
bare_apart : (part : PlainComponent) (act : Active) → part ≡ no_component → StandApart part act
bare_apart part act e = subst (λ x. StandApart x act) (sym e) (record { sources = λ o i q n. absurd i; apart = λ g k c a b differ drives reads. absurd (false_true drives) })

-- an instance without a component has no active groups
bare_entries : (part : PlainComponent) (v : Visited) (h : History) (t : ℕ) → part ≡ no_component → In (statements_in part) v → active_in h t (form_flat part v.form 0 []) ≡ []
bare_entries part v h t e i = subst (λ x. active_in h t (form_flat x v.form 0 []) ≡ []) (sym e) (of_bare (subst (λ x. In (statements_in x) v) e i))
  where
    of_bare : In (statements_in no_component) v → active_in h t (form_flat no_component v.form 0 []) ≡ []
    of_bare (inl f) = subst (λ w. active_in h t (form_flat no_component w.form 0 []) ≡ []) f refl
    of_bare (inr none) = absurd none

module _ (d : PlainDesign) (accepted : IsAccepted d) (v : Visited) (h : History) (t : ℕ) where
  abbrev OneOffset : PlainComponent → Type 0
  OneOffset part = (e : Entry) → In (active_in h t (form_flat part v.form 0 [])) e → offset_in (active_in h t (form_flat part v.form 0 [])) e.group ≡ Some e.offset

  bare_offset : (part : PlainComponent) → part ≡ no_component → In (statements_in part) v → OneOffset part
  bare_offset part same stands e i = let none : In [] e = subst (λ x. In x e) (bare_entries part v h t same stands) i in absurd none

  component_offset : (k : ℕ) → In (statements_in (component_at d k)) v → OneOffset (component_at d k)
  component_offset k stands =
      ⊎_elim
      (λ l. λ e i. offset_once (active_in h t (form_flat (component_at d k) v.form 0 [])) e (λ f j same. entry_once d accepted k l v stands h t f e j i same) i)
      (λ l. bare_offset (component_at d k) (get_or_past d.components k no_component l) stands)
      (cases_lt k (length d.components))

  reached_offset : {i : Instance} → Reached d i → In (statements_in (part_of i)) v → OneOffset (part_of i)
  reached_offset (a_tree m k) stands = subst OneOffset (sym (same_part d m k)) (component_offset k (subst (λ x. In (statements_in x) v) (same_part d m k) stands))
  reached_offset no_tree stands = bare_offset no_component refl stands

  pub one_offset : (path : Path) → In (statements_in (part_of (instance_at (tree_of d) path))) v → OneOffset (part_of (instance_at (tree_of d) path))
  one_offset path stands = reached_offset (reached d path (length d.components) d.main) stands

module _ (d : PlainDesign) (design : IsDesign d) (accepted : IsAccepted d) (v : Visited) (h : History) (t : ℕ) where
  abbrev shown : PlainComponent → Active
  shown part = entries (active_in h t (form_flat part v.form 0 []))

  component_apart : (k : ℕ) → In (statements_in (component_at d k)) v → StandApart (component_at d k) (shown (component_at d k))
  component_apart k stands =
      ⊎_elim
      (λ l. stand_apart d accepted k l v stands h t design)
      (λ l. bare_apart (component_at d k) (shown (component_at d k)) (get_or_past d.components k no_component l))
      (cases_lt k (length d.components))

  reached_apart : {i : Instance} → Reached d i → In (statements_in (part_of i)) v → StandApart (part_of i) (shown (part_of i))
  reached_apart (a_tree m k) stands = subst (λ x. StandApart x (shown x)) (sym (same_part d m k)) (component_apart k (subst (λ x. In (statements_in x) v) (same_part d m k) stands))
  reached_apart no_tree stands = bare_apart no_component (shown no_component) refl

  pub entries_acyclic : (path : Path) → In (statements_in (part_of (instance_at (tree_of d) path))) v → IsAcyclic (instance_at (tree_of d) path) (shown (part_of (instance_at (tree_of d) path)))
  entries_acyclic path stands =
      no_shared_circle (instance_at (tree_of d) path) (shown (part_of (instance_at (tree_of d) path)))
      (reached_apart (reached d path (length d.components) d.main) stands)
      (own_acyclic (instance_at (tree_of d) path) (instance_acyclic d accepted path))
      (λ g there. instance_group d accepted path g there)
