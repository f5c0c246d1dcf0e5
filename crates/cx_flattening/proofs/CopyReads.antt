-- WHAT A COPY OF A STATIC CHILD'S STATEMENT DRIVES AND READS: in the block of the child what the statement does there, and outside it what
-- the sources of the inputs lead to, from which no rule lets anything lead back to the child.
use Rattle.std.proofs.Common.{◌≡◌, ℕ, ◌+◌, ◌<◌, ◌⊎◌, inl, inr, ⊎_elim, true, length, Option, Some, None, refl, sym, ap, ◌∙◌, subst, arith}
use Rattle.cx_text.proofs.MemberLaws.{image_in}
use Rattle.cx_meaning.specs.declared.ports.PortRef.{PortRef}
use Rattle.cx_meaning.specs.declared.ports.PortRef.TheVariants as ports
use Rattle.cx_meaning.specs.declared.ports.PlacedPort.{PlacedPort}
use Rattle.cx_meaning.specs.Designs.{PlainAssign, PlainGroup, PlainComponent, group_at, PlainStatement}
use Rattle.cx_meaning.specs.Instances.{Node, Cells}
use Rattle.cx_meaning.specs.Control.{groups_of, drives}
use Rattle.cx_text.specs.Members.{In}
use Rattle.cx_meaning.proofs.ControlLaws.{groups_drive_in, driver}
use Rattle.cx_rules.specs.Footprints.{AssignNames, Reads, driven, named, tested, through}
use Rattle.cx_rules.specs.InvokeShape.{LeadsToCell, itself, fed_back}
use Rattle.cx_rules.specs.InvokeShape as shape
use Rattle.cx_rules.specs.Items.{option_list, test_in, tests_of}
use Rattle.cx_rules.proofs.ForeignLemmas.{assigns_drive_in}
use Rattle.cx_rewrites.specs.Moving.{moved_port, moved_assign}
use Rattle.cx_rewrites.proofs.ReflectLemmas.{names_back}
use Rattle.cx_flattening.specs.Events.{the_invoke}
use Rattle.cx_flattening.specs.Copies.{copied_statement}
use Rattle.cx_flattening.specs.Flattened.{Kids, kid_at, start_of, child_port, invoke_port, copy_of, flat_kids, flat_part}
use Rattle.cx_flattening.specs.Targets.{BlockTarget}
use Rattle.cx_flattening.specs.Fair.{IsFair}
use Rattle.cx_flattening.specs.Controlled.{IsControlled}
use Rattle.cx_flattening.proofs.FlatDrives.{driving}
use Rattle.cx_flattening.proofs.FlatOrigins.{copied_back}
use Rattle.cx_flattening.proofs.FlatForms.{tested_form, form_tested, test_copied}
use Rattle.cx_flattening.proofs.FlatForms as forms
use Rattle.cx_flattening.proofs.FlatInside.{IsAt, in_child, one_cell, IsInside, copied_assigns, used_block}
use Rattle.cx_flattening.proofs.FlatReads.{LeadsOn, own_leads, kid_leads, leads_on, has_closed, LookedAt, in_it, in_source, looked_at}
use Rattle.cx_flattening.proofs.FairParts.{HasCells, unbroken}
use Rattle.cx_flattening.proofs.Ruled.{IsRuled}
use Rattle.cx_meaning.specs.Active.{cell_number}

-- the conditions of a copy
pub tests_back : (f : PortRef → PortRef) (copy : ℕ → ℕ) (s : PlainStatement) (p : PlacedPort) → In (tests_of (copied_statement f copy s)) p → (q : PlacedPort) × In (tests_of s) q × (moved_port f q ≡ p)
tests_back f copy s p k =
    let r = tested_form (copied_statement f copy s) p k in
    let c = forms.copied_back f copy s r.0 r.1 in
    let t = image_in (moved_port f) (option_list (test_in c.0)) p (subst (λ l. In l p) (test_copied f copy c.0) (subst (λ y. In (option_list (test_in y)) p) (sym c.2) r.2)) in
    (t.0, form_tested s c.0 t.0 c.1 t.1, t.2)

module _ (part : PlainComponent) (cells : Cells) (fair : IsFair (Node part cells)) (controlled : IsControlled (Node part cells)) (ruled : IsRuled part (Node part cells)) (has : HasCells part cells)
    (inside : (c : ℕ) (child : PlainComponent) → kid_at (flat_kids cells) c ≡ Some child → IsInside child) (j : ℕ) (less : j < length part.invokes) (child : PlainComponent)
    (its : kid_at (flat_kids cells) (the_invoke part j).cell ≡ Some child) where
  abbrev kids : Kids
  kids = flat_kids cells

  abbrev K : PlainComponent
  K = flat_part (Node part cells)

  abbrev c : ℕ
  c = (the_invoke part j).cell

  abbrev move : PortRef → PortRef
  move = invoke_port kids part child (the_invoke part j)

  abbrev copy : PlainStatement → PlainStatement
  copy = copied_statement (invoke_port kids part child (the_invoke part j)) (copy_of kids part child j)

  -- A CELL of the tree that a source of an input leads to
  record IsLed (d : ℕ) : Type 0 where
    input : PlainAssign
    cell : ℕ
    port : ℕ
    among : In (the_invoke part j).inputs input
    names : AssignNames input (ports.Cell cell port)
    leads : LeadsToCell part cell d

  led_on : (d e m n : ℕ) (a : PlainAssign) → IsLed d → In part.always a → a.target ≡ ports.Cell d m → AssignNames a (ports.Cell e n) → IsLed e
  led_on d e m n a h k target name = record { input = h.input; cell = h.cell; port = h.port; among = h.among; names = h.names; leads = shape.through d m n a h.leads k target name }

  -- nothing leads back
  not_back : IsLed c → ⊥
  not_back h = unbroken part cells ruled has j less (fed_back h.input h.cell h.port h.among h.names h.leads)

  same_kid : (d : ℕ) (other : PlainComponent) → kid_at kids d ≡ Some other → d ≡ c → other ≡ child
  same_kid d other has_it same = let both : Some other ≡ Some child = sym has_it ∙ ap (kid_at kids) same ∙ its in cc

  kept_no_kid : (d : ℕ) → kid_at kids d ≡ None → d ≡ c → ⊥
  kept_no_kid d none same = let both : ◌≡◌ {A = Option PlainComponent} None (Some child) = sym none ∙ ap (kid_at kids) same ∙ its in cc

  module _ (s : PlainStatement) (used : (g : ℕ) → In (groups_of s) g → In (groups_of child.control) g) (tests : (p : PlacedPort) → In (tests_of s) p → In (tests_of child.control) p) where
    -- an assignment of a group of the copy
    abbrev CopiedAssign : PlainAssign → Type 0
    CopiedAssign b = (h : ℕ) × (a : PlainAssign) × In (groups_of s) h × In (group_at child h).assigns a × (moved_assign move a ≡ b)

    copied_assign : (g : ℕ) → In (groups_of (copy s)) g → (b : PlainAssign) → In (group_at K g).assigns b → CopiedAssign b
    copied_assign g k b m =
        let r = copied_back move (copy_of kids part child j) g s k in
        let a = image_in (moved_assign move) (group_at child r.0).assigns b
        (subst (λ (x : PlainGroup). In x.assigns b) (ap (λ x. group_at K x) (sym r.2) ∙ copied_assigns part cells fair controlled j r.0 child less its (used r.0 r.1)) m) in
        (r.0, a.0, r.1, a.1, a.2)

    -- WHAT IT DRIVES
    abbrev Driven : ℕ → Type 0
    Driven x = (e : ℕ) × (e < length child.cells) × (start_of kids part c + e ≡ x) × (drives child s e ≡ true)

    copy_drives : (x : ℕ) → drives K (copy s) x ≡ true → Driven x
    copy_drives x e =
        let r = driver K (groups_of (copy s)) x e in
        let d = driving (group_at K r.0).assigns x r.2 in
        let a = copied_assign r.0 r.1 d.0 d.2 in
        by a.0 a.1 a.2 a.3 a.1.target refl (used_block part cells fair controlled c a.0 child a.1 its (used a.0 a.2) a.3) d.1 (ap (λ (z : PlainAssign). z.target) a.4 ∙ d.3)
      where
        by : (h : ℕ) (a : PlainAssign) → In (groups_of s) h → In (group_at child h).assigns a → (t : PortRef) → a.target ≡ t → BlockTarget child t → (p : ℕ) → move t ≡ ports.Cell x p → Driven x
        by h a k m (ports.Cell f q) target block p is = (f, block, ap cell_number is, groups_drive_in child (groups_of s) h f k (assigns_drive_in (group_at child h).assigns a f q m target))
        by h a k m (ports.Input n) target block p is = absurd block
        by h a k m (ports.Output n) target block p is = absurd ((inside c child its).drives h n a (used h k) m target)
        by h a k m (ports.Done g) target block p is = absurd block
        by h a k m (ports.Literal w v) target block p is = absurd block

    -- WHAT IT READS
    abbrev There : ℕ → Type 0
    There x = (e : ℕ) × (e < length child.cells) × (start_of kids part c + e ≡ x) × Reads child s e

    abbrev HasLed : ℕ → Type 0
    HasLed x = (d : ℕ) × IsAt kids part d x × IsLed d

    port_read : (q : PortRef) (x : ℕ) → LookedAt part cells fair controlled ruled has inside j child q x → ((e m : ℕ) → q ≡ ports.Cell e m → Reads child s e) → There x ⊎ HasLed x
    port_read q x (in_it e m is there at) reads = inl (e, there, at, reads e m is)
    port_read q x (in_source d m a k is at) reads = inr (d, at, record { input = a; cell = d; port = m; among = k; names = inr is; leads = itself })

    group_read : (b : PlainAssign) (x p : ℕ) → CopiedAssign b → AssignNames b (ports.Cell x p) → There x ⊎ HasLed x
    group_read b x p a names =
        let n = names_back move a.1 (ports.Cell x p) (subst (λ z. AssignNames z (ports.Cell x p)) (sym a.4) names) in
        port_read n.0 x (looked_at part cells fair controlled ruled has inside j child less its n.0 ((inside c child its).groups a.0 a.1 n.0 (used a.0 a.2) a.3 n.2) x p n.1)
        (λ e m is. named m a.0 a.1 a.2 a.3 (subst (AssignNames a.1) is n.2))

    test_read : (test : PlacedPort) (x p : ℕ) → In (tests_of (copy s)) test → test.port ≡ ports.Cell x p → There x ⊎ HasLed x
    test_read test x p k port =
        let q = tests_back move (copy_of kids part child j) s test k in
        port_read q.0.port x (looked_at part cells fair controlled ruled has inside j child less its q.0.port ((inside c child its).tests q.0 (tests q.0 q.1)) x p (ap (λ (z : PlacedPort). z.port) q.2 ∙ port))
        (λ e m is. tested m q.0 q.1 is)

    -- by a continuous assignment
    on_from : (y p x : ℕ) → LeadsOn part cells fair controlled ruled has inside y p x → There y → There x ⊎ HasLed x
    on_from y p x (own_leads d e m n a k target name none at there) h =
        absurd (kept_no_kid d none (one_cell kids part d c y at (in_child child h.0 its (let l = h.1 in omega (arith, l)) h.2)))
    on_from y p x (kid_leads d e n other a has_it k at target name within there) h =
        let same = one_cell kids part d c y at (in_child child h.0 its (let l = h.1 in omega (arith, l)) h.2) in
        let kid = same_kid d other has_it same in
        let first : start_of kids part d ≡ start_of kids part c = ap (start_of kids part) same in
        by same kid first a.target refl ((fair.targets.blocks d other has_it).always a k)
      where
        by : d ≡ c → other ≡ child → start_of kids part d ≡ start_of kids part c → (t : PortRef) → a.target ≡ t → BlockTarget other t → There x ⊎ HasLed x
        by same kid first (ports.Cell f m) is block =
            let at_y : start_of kids part d + f ≡ y = ap cell_number (sym (ap (child_port kids part other d (λ o. ports.Input o)) is) ∙ target) in
            let here = h.2 in
            let one : h.0 ≡ f = omega (arith, at_y, here, first) in
            inl (
              e,
              subst (λ (z : PlainComponent). e < length z.cells) kid within,
              omega (arith, there, first),
              through h.0 m n a h.3 (subst (λ (z : PlainComponent). In z.always a) kid k) (is ∙ ap (λ z. ports.Cell z m) (sym one)) name,
            )
        by same kid first (ports.Input o) is block = absurd block
        by same kid first (ports.Output o) is block =
            let at_y : start_of kids part d + length other.cells + o ≡ y = ap cell_number (sym (ap (child_port kids part other d (λ z. ports.Input z)) is) ∙ target) in
            let here = h.2 in
            let small = h.1 in
            let size : length other.cells ≡ length child.cells = ap (λ (z : PlainComponent). length z.cells) kid in
            absurd (omega (arith, at_y, here, first, small, size))
        by same kid first (ports.Done g) is block = absurd block
        by same kid first (ports.Literal w v) is block = absurd block

    copy_reads : (x : ℕ) → Reads K (copy s) x → There x ⊎ HasLed x
    copy_reads x (driven e) = let r = copy_drives x e in inl (r.0, r.1, r.2, driven r.3)
    copy_reads x (named p g b k m names) = group_read b x p (copied_assign g k b m) names
    copy_reads x (tested p test k port) = test_read test x p k port
    copy_reads x (through y p q b r k target names) =
        ⊎_elim
        (on_from y p x (leads_on part cells fair controlled ruled has inside y p x q b k target names))
        (λ h. inr (has_closed part cells fair controlled ruled has inside IsLed led_on y p x q b h k target names))
        (copy_reads y r)

  -- OF TWO COPIES one reads of what the other drives only what its statement does
  pub copies_apart : (s t : PlainStatement) → ((g : ℕ) → In (groups_of s) g → In (groups_of child.control) g) → ((g : ℕ) → In (groups_of t) g → In (groups_of child.control) g)
      → ((p : PlacedPort) → In (tests_of s) p → In (tests_of child.control) p) → ((p : PlacedPort) → In (tests_of t) p → In (tests_of child.control) p)
      → ((e : ℕ) → drives child s e ≡ true → Reads child t e → ⊥) → (x : ℕ) → drives K (copy s) x ≡ true → Reads K (copy t) x → ⊥
  copies_apart s t s_used t_used s_tests t_tests apart x e reads =
      let d = copy_drives s s_used s_tests x e in
      ⊎_elim
      (λ h. let one : h.0 ≡ d.0 = (let a = h.2 in let b = d.2 in omega (arith, a, b)) in apart d.0 d.3 (subst (Reads child t) one h.3))
      (λ h. not_back (subst IsLed (one_cell kids part h.0 c x h.1 (in_child child d.0 its (let l = d.1 in omega (arith, l)) d.2)) h.2))
      (copy_reads t t_used t_tests x reads)
