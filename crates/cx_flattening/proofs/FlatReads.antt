-- WHAT A FLAT STATEMENT DRIVES AND READS: a flat cell that it drives or reads is, or stands in the block of, a cell that the statement
-- drives or reads in the tree.
use Rattle.std.proofs.Common.{◌≡◌, ℕ, ◌+◌, ◌<◌, inl, inr, ⊎_elim, true, length, map, Some, None, refl, sym, ap, ◌∙◌, subst, arith}
use Rattle.cx_text.proofs.MemberLaws.{image_in, in_either}
use Rattle.cx_meaning.specs.declared.ports.PortRef.{PortRef}
use Rattle.cx_meaning.specs.declared.ports.PortRef.TheVariants as ports
use Rattle.cx_meaning.specs.declared.ports.PlacedPort.{PlacedPort}
use Rattle.cx_meaning.specs.Designs.{PlainAssign, PlainComponent, group_at, PlainStatement}
use Rattle.cx_meaning.specs.Instances.{Instance, Node, Cells}
use Rattle.cx_meaning.specs.Control.{groups_of, drives}
use Rattle.cx_text.specs.Members.{In}
use Rattle.cx_meaning.proofs.ControlLaws.{driver}
use Rattle.cx_rules.specs.Footprints.{AssignNames, Reads}
use Rattle.cx_rules.specs.Footprints as plain
use Rattle.cx_rules.specs.InvokeShape.{input_port}
use Rattle.cx_rules.specs.Invokes.{drives_all, ReadsAll, driven, fed, tested, through}
use Rattle.cx_rules.specs.Items.{tests_of}
use Rattle.cx_rules.proofs.ForeignLemmas.{assigns_drive_in}
use Rattle.cx_rewrites.specs.Moving.{moved_assign}
use Rattle.cx_rewrites.proofs.ReflectLemmas.{names_back}
use Rattle.cx_flattening.specs.Events.{the_invoke, source_to}
use Rattle.cx_flattening.specs.Flattened.{Kids, kid_at, start_of, own_port, child_port, invoke_port, always_from, flat_kids, flat_part, flat_statement}
use Rattle.cx_flattening.specs.Targets.{OwnTarget}
use Rattle.cx_flattening.specs.Fair.{IsNamed, IsFair}
use Rattle.cx_flattening.specs.Controlled.{timed_of, IsControlled}
use Rattle.cx_flattening.proofs.PortLemmas.{own-kept, in_block}
use Rattle.cx_flattening.proofs.LevelSights.{flat-inputs}
use Rattle.cx_flattening.proofs.FlatLengths.{AllThere}
use Rattle.cx_flattening.proofs.FlatDrives.{driving}
use Rattle.cx_flattening.proofs.FlatBlocks.{kid_always}
use Rattle.cx_flattening.proofs.FlatSafe.{kid_from}
use Rattle.cx_flattening.proofs.FlatKinds.{in_groups}
use Rattle.cx_flattening.proofs.FlatInside.{IsAt, is_kept, in_child, one_cell, IsLooked, IsInside, own_at, source_named, AssignFrom, of_group, of_child, timed_as, assign_from, TestFrom, of_test, of_child_test, test_from}
use Rattle.cx_flattening.proofs.DeedsApart.{invoke_among, at_number, owned_drives, fed_drives, owned_reads}
use Rattle.cx_flattening.proofs.FairParts.{HasCells, bound_source, input_bound}
use Rattle.cx_flattening.proofs.Ruled.{IsRuled}
use Rattle.cx_meaning.specs.Active.{cell_number}

module _ (part : PlainComponent) (cells : Cells) (fair : IsFair (Node part cells)) (controlled : IsControlled (Node part cells)) (ruled : IsRuled part (Node part cells)) (has : HasCells part cells)
    (inside : (c : ℕ) (child : PlainComponent) → kid_at (flat_kids cells) c ≡ Some child → IsInside child) where
  abbrev i : Instance
  i = Node part cells

  abbrev kids : Kids
  kids = flat_kids cells

  abbrev K : PlainComponent
  K = flat_part (Node part cells)

  abbrev At : ℕ → ℕ → Type 0
  At = IsAt kids part

  -- a port that is driven, where it is one of a cell
  record TargetAt (t : PortRef) (x : ℕ) : Type 0 where
    cell : ℕ
    port : ℕ
    is : t ≡ ports.Cell cell port
    none : kid_at kids cell ≡ None
    at : At cell x

  target_at : (t : PortRef) → OwnTarget kids part t → (x p : ℕ) → own_port kids part t ≡ ports.Cell x p → TargetAt t x
  target_at (ports.Cell c m) own x p e = record { cell = c; port = m; is = refl; none = own.1; at = is_kept own.0 own.1 (ap cell_number (sym (own-kept kids part c m own.1) ∙ e)) }
  target_at (ports.Input n) own x p e = absurd own
  target_at (ports.Output n) own x p e = absurd (cc)
  target_at (ports.Done g) own x p e = absurd (cc)
  target_at (ports.Literal w v) own x p e = absurd own

  -- CONTINUOUS ASSIGNMENTS lead from a cell to another in the tree, or from a port of a block to a cell in it
  pub data LeadsOn (x p y : ℕ) : Type 0 where
    own_leads : (c e m n : ℕ) (a : PlainAssign) → In part.always a → a.target ≡ ports.Cell c m → AssignNames a (ports.Cell e n) → kid_at kids c ≡ None → At c x → At e y → LeadsOn x p y
    kid_leads : (c e n : ℕ) (child : PlainComponent) (a : PlainAssign) → kid_at kids c ≡ Some child → In child.always a → At c x → child_port kids part child c (λ m. ports.Input m) a.target ≡ ports.Cell x p
        → AssignNames a (ports.Cell e n) → e < length child.cells → start_of kids part c + e ≡ y → LeadsOn x p y

  pub leads_on : (x p y q : ℕ) (b : PlainAssign) → In K.always b → b.target ≡ ports.Cell x p → AssignNames b (ports.Cell y q) → LeadsOn x p y
  leads_on x p y q b k target names =
      ⊎_elim
      (λ m. let r = image_in (moved_assign (own_port kids part)) part.always b m in of_own r.0 r.1 r.2)
      (λ m. let h = kid_always kids part 0 kids b m in
      of_kid h.cell h.child h.its h.assign h.among (ap (λ c. moved_assign (child_port kids part h.child c (λ n. ports.Input n)) h.assign) (zero_plus h.cell) ∙ h.is))
      (in_either (map (moved_assign (own_port kids part)) part.always) (always_from kids part 0 kids) b k)
    where
      zero_plus : (n : ℕ) → n ≡ 0 + n
      zero_plus n = omega arith

      of_own : (a : PlainAssign) → In part.always a → moved_assign (own_port kids part) a ≡ b → LeadsOn x p y
      of_own a m is =
          let t = target_at a.target (fair.targets.always a m) x p (ap (λ (z : PlainAssign). z.target) is ∙ target) in
          let n = names_back (own_port kids part) a (ports.Cell y q) (subst (λ z. AssignNames z (ports.Cell y q)) (sym is) names) in
          let r = own_at part cells fair controlled n.0 (fair.names a n.0 (inl m) n.2) y q n.1 in
          own_leads t.cell r.cell t.port r.port a m t.is (subst (AssignNames a) r.is n.2) t.none t.at r.at

      of_kid : (c : ℕ) (child : PlainComponent) → kid_at kids c ≡ Some child → (a : PlainAssign) → In child.always a → moved_assign (child_port kids part child c (λ n. ports.Input n)) a ≡ b → LeadsOn x p y
      of_kid c child its a m is = by n.0 n.1 n.2
        where
          n : (r : PortRef) × (child_port kids part child c (λ n. ports.Input n) r ≡ ports.Cell y q) × AssignNames a r
          n = names_back (child_port kids part child c (λ n. ports.Input n)) a (ports.Cell y q) (subst (λ z. AssignNames z (ports.Cell y q)) (sym is) names)

          aim : child_port kids part child c (λ n. ports.Input n) a.target ≡ ports.Cell x p
          aim = ap (λ (z : PlainAssign). z.target) is ∙ target

          at : At c x
          at =
              let r = in_block kids part child c (λ n. ports.Input n) a.target ((fair.targets.blocks c child its).always a m) in
              in_child child r.cell its r.less (ap cell_number (sym r.is ∙ aim))

          by : (r : PortRef) → child_port kids part child c (λ n. ports.Input n) r ≡ ports.Cell y q → AssignNames a r → LeadsOn x p y
          by (ports.Cell e o) f named = kid_leads c e o child a its m at aim named ((inside c child its).always a (ports.Cell e o) m named) (ap cell_number f)
          by (ports.Input o) f named = absurd (cc)
          by (ports.Output o) f named = absurd ((inside c child its).always a (ports.Output o) m named)
          by (ports.Done g) f named = absurd (cc)
          by (ports.Literal w v) f named = absurd (cc)

  -- SO A SET OF CELLS that they do not leave in the tree they do not leave in the flat component
  module _ (P : ℕ → Type 0) (closed : (c e m n : ℕ) (a : PlainAssign) → P c → In part.always a → a.target ≡ ports.Cell c m → AssignNames a (ports.Cell e n) → P e) where
    abbrev pub Has : ℕ → Type 0
    Has x = (c : ℕ) × At c x × P c

    pub has_closed : (x p y q : ℕ) (b : PlainAssign) → Has x → In K.always b → b.target ≡ ports.Cell x p → AssignNames b (ports.Cell y q) → Has y
    has_closed x p y q b h k target names = by (leads_on x p y q b k target names)
      where
        by : LeadsOn x p y → Has y
        by (own_leads c e m n a j t named none at there) = (e, there, closed c e m n a (subst P (one_cell kids part h.0 c x h.1 at) h.2) j t named)
        by (kid_leads c e n child a its j at aim named less is) = (c, in_child child e its (omega (arith, less)) is, subst P (one_cell kids part h.0 c x h.1 at) h.2)

  -- THE SOURCE of an input of an invoke is one that it binds
  pub source_bound : (j n : ℕ) (child : PlainComponent) → j < length part.invokes → kid_at kids (the_invoke part j).cell ≡ Some child → n < length child.inputs
      → (a : PlainAssign) × In (the_invoke part j).inputs a × (a.source.port ≡ source_to (the_invoke part j).cell (the_invoke part j).inputs n)
  source_bound j n child less its there =
      let k = kid_from cells (the_invoke part j).cell child its in
      bound_source (λ q. (a : PlainAssign) × In (the_invoke part j).inputs a × (a.source.port ≡ q)) (the_invoke part j).cell (input_port (the_invoke part j).cell n) (the_invoke part j).inputs
      (input_bound part cells ruled has j n k.0 less k.1 (subst (λ l. n < length l) (ap (λ (x : PlainComponent). x.inputs) (sym k.3) ∙ flat-inputs k.0) there))
      (λ a m. (a, m, refl))

  -- what a port of a static child that is looked at is, where it is one of a flat cell: a cell of its block, or a bound source
  pub data LookedAt (j : ℕ) (child : PlainComponent) (q : PortRef) (x : ℕ) : Type 0 where
    in_it : (e m : ℕ) → q ≡ ports.Cell e m → e < length child.cells → start_of kids part (the_invoke part j).cell + e ≡ x → LookedAt j child q x
    in_source : (c m : ℕ) (a : PlainAssign) → In (the_invoke part j).inputs a → a.source.port ≡ ports.Cell c m → At c x → LookedAt j child q x

  pub looked_at : (j : ℕ) (child : PlainComponent) → j < length part.invokes → kid_at kids (the_invoke part j).cell ≡ Some child → (q : PortRef) → IsLooked child q → (x p : ℕ)
      → invoke_port kids part child (the_invoke part j) q ≡ ports.Cell x p → LookedAt j child q x
  looked_at j child less its (ports.Cell e m) looked x p is = in_it e m refl looked (ap cell_number is)
  looked_at j child less its (ports.Input n) looked x p is =
      let b = source_bound j n child less its looked in
      let r = own_at part cells fair controlled (source_to (the_invoke part j).cell (the_invoke part j).inputs n) (source_named part cells fair controlled j n child less its looked) x p is in
      in_source r.cell r.port b.0 b.1 (b.2 ∙ r.is) r.at
  looked_at j child less its (ports.Output n) looked x p is = absurd looked
  looked_at j child less its (ports.Done g) looked x p is = absurd (cc)
  looked_at j child less its (ports.Literal w v) looked x p is = absurd (cc)

  -- OF A STATEMENT
  module _ (s : PlainStatement) (own : AllThere (groups_of s) (length part.groups)) (timed : AllThere (timed_of s) (length part.invokes)) (tests : (p : PlacedPort) → In (tests_of s) p → IsNamed i p.port) where
    pub flat_drives : (x : ℕ) → drives K (flat_statement kids part s) x ≡ true → (c : ℕ) × At c x × (drives_all part s c ≡ true)
    flat_drives x e =
        let r = driver K (groups_of (flat_statement kids part s)) x e in
        let d = driving (group_at K r.0).assigns x r.2 in
        by d.0 d.1 d.3 (assign_from part cells fair controlled s own timed r.0 r.1 d.0 d.2)
      where
        by : (b : PlainAssign) (p : ℕ) → b.target ≡ ports.Cell x p → AssignFrom part cells fair controlled s b → (c : ℕ) × At c x × (drives_all part s c ≡ true)
        by b p target (of_group g a owned less k is) =
            let t = target_at a.target (fair.targets.groups (group_at part g) a (in_groups part.groups g less) k) x p (ap (λ (z : PlainAssign). z.target) is ∙ target) in
            (t.cell, t.at, owned_drives part s g t.cell owned (assigns_drive_in (group_at part g).assigns a t.cell t.port k t.is))
        by b p target (of_child j h child a t less its used k block is) =
            let r = in_block kids part child (the_invoke part j).cell (λ m. own_port kids part (source_to (the_invoke part j).cell (the_invoke part j).inputs m)) a.target block in
            ((the_invoke part j).cell, in_child child r.cell its r.less (ap cell_number (sym r.is ∙ ap (λ (z : PlainAssign). z.target) is ∙ target)), fed_drives part s (the_invoke part j).cell (j, timed_as part cells fair controlled s j t, less, refl))

    abbrev HasRead : ℕ → Type 0
    HasRead x = (c : ℕ) × At c x × ReadsAll part s c

    child_read : (j : ℕ) (child : PlainComponent) (q : PortRef) (x : ℕ) → In (timed_of s) j → kid_at kids (the_invoke part j).cell ≡ Some child → LookedAt j child q x → HasRead x
    child_read j child q x t its (in_it e m is less there) =
        ((the_invoke part j).cell, in_child child e its (omega (arith, less)) there, driven (fed_drives part s (the_invoke part j).cell (j, timed_as part cells fair controlled s j t, timed j t, refl)))
    child_read j child q x t its (in_source c m a k is at) =
        (c, at, fed m a (record { number = j; stands = invoke_among part s j t; invoke = the_invoke part j; is = at_number part j (timed j t); input = k }) (inr is))

    group_read : (b : PlainAssign) (x p : ℕ) → AssignFrom part cells fair controlled s b → AssignNames b (ports.Cell x p) → HasRead x
    group_read b x p (of_group g a owned less k is) names =
        let n = names_back (own_port kids part) a (ports.Cell x p) (subst (λ z. AssignNames z (ports.Cell x p)) (sym is) names) in
        let r = own_at part cells fair controlled n.0 (fair.names a n.0 (inr (group_at part g, in_groups part.groups g less, k)) n.2) x p n.1 in
        (r.cell, r.at, owned_reads part s g owned (plain.named r.port g a (inl refl) k (subst (AssignNames a) r.is n.2)))
    group_read b x p (of_child j h child a t less its used k block is) names =
        let n = names_back (invoke_port kids part child (the_invoke part j)) a (ports.Cell x p) (subst (λ z. AssignNames z (ports.Cell x p)) (sym is) names) in
        child_read j child n.0 x t its (looked_at j child less its n.0 ((inside (the_invoke part j).cell child its).groups h a n.0 used k n.2) x p n.1)

    test_read : (test : PlacedPort) (x p : ℕ) → TestFrom part cells fair controlled s test → test.port ≡ ports.Cell x p → HasRead x
    test_read test x p (of_test q k is) port =
        let r = own_at part cells fair controlled q.port (tests q k) x p (ap (λ (z : PlacedPort). z.port) is ∙ port) in (r.cell, r.at, tested r.port q k r.is)
    test_read test x p (of_child_test j child q t its k is) port =
        child_read j child q.port x t its (looked_at j child (timed j t) its q.port ((inside (the_invoke part j).cell child its).tests q k) x p (ap (λ (z : PlacedPort). z.port) is ∙ port))

    pub flat_reads : (x : ℕ) → Reads K (flat_statement kids part s) x → (c : ℕ) × At c x × ReadsAll part s c
    flat_reads x (plain.driven e) = let r = flat_drives x e in (r.0, r.1, driven r.2)
    flat_reads x (plain.named p g b k m names) = group_read b x p (assign_from part cells fair controlled s own timed g k b m) names
    flat_reads x (plain.tested p test k port) = test_read test x p (test_from part cells fair controlled s test k) port
    flat_reads x (plain.through y p q b r k target names) = has_closed (ReadsAll part s) (λ c e m n a h j t named. through c m n a h j t named) y p x q b (flat_reads y r) k target names
