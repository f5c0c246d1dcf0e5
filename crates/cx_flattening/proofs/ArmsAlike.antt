-- THE ARMS OF A PAR drive in the flat instance what they drive in the tree; and of two arms neither drives what the other does.
use Rattle.std.proofs.Common.{◌≡◌, ℕ, zero, suc, ◌+◌, ◌<◌, inl, inr, ⊎_elim, Bool, true, false, ◌||◌, List, [], ◌∷◌, length, map, get_or, Some, None, refl, sym, ap, ◌∙◌, subst, arith}
use Rattle.std.specs.Prelude.{flat_map, slice_get}
use Rattle.std.proofs.lemmas.Bool.{cases_eq, eq-eqb, eqb-true, false_from_ne_true}
use Rattle.std.proofs.lemmas.List.{get_or_append_left, get_or-map, length-map}
use Rattle.cx_text.proofs.MemberLaws.{image_in, in_image}
use Rattle.cx_meaning.specs.declared.ports.PortRef.{PortRef}
use Rattle.cx_meaning.specs.declared.ports.PortRef.TheVariants as ports
use Rattle.cx_meaning.specs.Designs.{PlainAssign, PlainGroup, PlainComponent, group_at, no_group, PlainStatement, Placed, form_of, PlainStatements, no_statements, a_statement, list_of}
use Rattle.cx_meaning.specs.Instances.{Instance, Node, Cells, part_of}
use Rattle.cx_meaning.specs.Control.{groups_in, groups_of, assigns_drive, group_drives, groups_drive, drives}
use Rattle.cx_text.specs.Members.{In}
use Rattle.cx_meaning.proofs.ControlLaws.{groups_drive_in, driver}
use Rattle.cx_rules.specs.RaceRule.{IsShared}
use Rattle.cx_rules.specs.Invokes.{invokes_of, captures_of, invokes_cell, drives_all, driven}
use Rattle.cx_rules.specs.Counts.{is_one_of}
use Rattle.cx_rules.proofs.ForeignLemmas.{assigns_drive_in}
use Rattle.cx_text.proofs.BoolLaws.{or_either, bools_same}
use Rattle.cx_rewrites.specs.Moving.{moved_assign, moved_group}
use Rattle.cx_flattening.specs.Events.{the_invoke, source_to}
use Rattle.cx_flattening.specs.Copies.{copied_statement}
use Rattle.cx_flattening.specs.Flattened.{Kids, kid_at, kept_at, block_size, start_of, own_port, invoke_port, copies, copy_of, with_capture, inlined, flat_kids, flat_part, flat_statement}
use Rattle.cx_flattening.specs.Targets.{OwnTarget, BlockTarget}
use Rattle.cx_flattening.specs.Embedded.{IsFlattened}
use Rattle.cx_flattening.specs.Arms.{DrivesAlike, NoneDrive, IsApart}
use Rattle.cx_flattening.specs.Fair.{IsFair}
use Rattle.cx_flattening.specs.Controlled.{timed_in, timed_of, IsControlled}
use Rattle.cx_flattening.proofs.Placing.{kept_less, kept_apart, blocks_apart}
use Rattle.cx_flattening.proofs.PortLemmas.{own-kept, in_block}
use Rattle.cx_flattening.proofs.FlatGroups.{in_one_of, copy-is}
use Rattle.cx_flattening.proofs.LevelSights.{kid-static}
use Rattle.cx_flattening.proofs.FlatLengths.{AllThere, captures_in_it}
use Rattle.cx_flattening.proofs.FlatOrigins.{Origin, of_own, capturing, copied, origin}
use Rattle.cx_flattening.proofs.FlatDrives.{driving, used_target, own_one, timed_single, invoke_timed, capture_found, cell_found}
use Rattle.cx_flattening.proofs.DeedsApart.{owned_drives, fed_drives}
use Rattle.cx_meaning.specs.Active.{cell_number}

in_groups : (xs : List PlainGroup) (n : ℕ) → n < length xs → In xs (get_or xs n no_group)
in_groups [] n less = absurd (omega (arith, less))
in_groups (x ∷ xs) zero less = inl refl
in_groups (x ∷ xs) (suc n) less = inr (in_groups xs n (omega (arith, less)))

module _ (part : PlainComponent) (cells : Cells) (fair : IsFair (Node part cells)) (controlled : IsControlled (Node part cells)) (flat : Instance) (flattened : IsFlattened (Node part cells) flat) where
  abbrev kids : Kids
  kids = flat_kids cells

  abbrev K : PlainComponent
  K = flat_part (Node part cells)

  alike : (g c : ℕ) → group_drives (part_of flat) g c ≡ group_drives K g c
  alike g c = ap (λ (gs : List PlainGroup). assigns_drive (get_or gs g no_group).assigns c) flattened.0.groups

  at_own : (g : ℕ) → g < length part.groups → group_at K g ≡ moved_group (own_port kids part) (group_at part g)
  at_own g less =
      get_or_append_left (map (moved_group (own_port kids part)) part.groups) (flat_map (copies kids part) part.invokes) no_group g (let same = length-map part.groups (moved_group (own_port kids part)) in omega (arith, less, same))
      ∙ get_or-map (moved_group (own_port kids part)) part.groups g no_group no_group less

  -- AN OWN GROUP drives the cells that are kept as it did, and no cell of a block
  own_forth : (g c : ℕ) → g < length part.groups → kid_at kids c ≡ None → group_drives part g c ≡ true → group_drives K g (kept_at kids c) ≡ true
  own_forth g c less none e =
      let r = driving (group_at part g).assigns c e in
      assigns_drive_in (group_at K g).assigns (moved_assign (own_port kids part) r.0) (kept_at kids c) r.1
      (subst (λ (x : PlainGroup). In x.assigns (moved_assign (own_port kids part) r.0)) (sym (at_own g less)) (in_image (moved_assign (own_port kids part)) (group_at part g).assigns r.0 r.2))
      (ap (own_port kids part) r.3 ∙ own-kept kids part c r.1 none)

  record OwnDriver (g k : ℕ) : Type 0 where
    assign : PlainAssign
    among : In (group_at part g).assigns assign
    cell : ℕ
    port : ℕ
    target : assign.target ≡ ports.Cell cell port
    less : cell < length part.cells
    none : kid_at kids cell ≡ None
    is : kept_at kids cell ≡ k

  own_driver : (g k : ℕ) → g < length part.groups → group_drives K g k ≡ true → OwnDriver g k
  own_driver g k less e =
      let r = driving (moved_group (own_port kids part) (group_at part g)).assigns k (ap (λ (x : PlainGroup). assigns_drive x.assigns k) (sym (at_own g less)) ∙ e) in
      let q = image_in (moved_assign (own_port kids part)) (group_at part g).assigns r.0 r.2 in
      by q.0 q.1 q.0.target refl (fair.targets.groups (group_at part g) q.0 (in_groups part.groups g less) q.1) r.1 (ap (λ (x : PlainAssign). x.target) q.2 ∙ r.3)
    where
      by : (a : PlainAssign) → In (group_at part g).assigns a → (t : PortRef) → a.target ≡ t → OwnTarget kids part t → (p : ℕ) → own_port kids part t ≡ ports.Cell k p → OwnDriver g k
      by a i (ports.Cell c q) f own p h =
          record { assign = a; among = i; cell = c; port = q; target = f; less = own.0; none = own.1; is = ap cell_number (sym (own-kept kids part c q own.1) ∙ h) }
      by a i (ports.Input n) f own p h = absurd own
      by a i (ports.Output n) f own p h = absurd (cc)
      by a i (ports.Done n) f own p h = absurd (cc)
      by a i (ports.Literal w v) f own p h = absurd own

  own_back : (g c : ℕ) → g < length part.groups → kid_at kids c ≡ None → group_drives K g (kept_at kids c) ≡ true → group_drives part g c ≡ true
  own_back g c less none e =
      let d = own_driver g (kept_at kids c) less e in
      let same : d.cell ≡ c = eqb-true d.cell c (sym (kept_apart kids d.cell c d.none none) ∙ eq-eqb (kept_at kids d.cell) (kept_at kids c) d.is) in
      assigns_drive_in (group_at part g).assigns d.assign c d.port d.among (d.target ∙ ap (λ x. ports.Cell x d.port) same)

  own_block : (g c e : ℕ) → g < length part.groups → group_drives K g (start_of kids part c + e) ≡ true → ⊥
  own_block g c e less h =
      let d = own_driver g (start_of kids part c + e) less h in
      let inside = kept_less kids part.cells d.cell d.less d.none in
      let is = d.is in
      omega (arith, inside, is)

  -- A COPY drives cells of its block alone
  copy_cell : (j h k : ℕ) (child : PlainComponent) → j < length part.invokes → kid_at kids (the_invoke part j).cell ≡ Some child → In (groups_of child.control) h → group_drives K (copy_of kids part child j h) k ≡ true
      → (n : ℕ) × (n < block_size (Some child)) × (k ≡ start_of kids part (the_invoke part j).cell + n)
  copy_cell j h k child less its used e =
      let block = fair.targets.blocks (the_invoke part j).cell child its in
      let there = block.there h (in_one_of h (groups_of child.control) used) in
      let move = invoke_port kids part child (the_invoke part j) in
      let group_is = copy-is kids part j h child less its (in_one_of h (groups_of child.control) used) there in
      let r = driving (map (moved_assign move) (group_at child h).assigns) k (ap (λ (x : PlainGroup). assigns_drive x.assigns k) (sym group_is) ∙ e) in
      let q = image_in (moved_assign move) (group_at child h).assigns r.0 r.2 in
      let target = used_target (λ a. BlockTarget child a.target) (groups_of child.control) 0 child.groups block.used h there (ap (λ x. is_one x) (zero_plus h) ∙ in_one_of h (groups_of child.control) used) q.0 q.1 in
      let b = in_block kids part child (the_invoke part j).cell (λ n. own_port kids part (source_to (the_invoke part j).cell (the_invoke part j).inputs n)) q.0.target target in
      (b.cell, b.less, ap cell_number (sym (ap (λ (x : PlainAssign). x.target) q.2 ∙ r.3) ∙ b.is))
    where
      is_one : ℕ → Bool
      is_one x = is_one_of x (groups_of child.control)

      zero_plus : (a : ℕ) → 0 + a ≡ a
      zero_plus a = omega arith

  kid_of : (j : ℕ) → j < length part.invokes → (child : PlainComponent) × (kid_at kids (the_invoke part j).cell ≡ Some child)
  kid_of j less = let its = controlled.invokes j less in (flat_part its.child, kid-static cells (the_invoke part j).cell its.child its.stands its.static)

  capture_there : (j g : ℕ) → j < length part.invokes → (the_invoke part j).captures ≡ Some g → g < length part.groups
  capture_there j g less e = ((controlled.invokes j less).captures g e).0

  -- a group that captures is one of the flat form of its invoke
  capture_in : (j g : ℕ) → j < length part.invokes → (the_invoke part j).captures ≡ Some g → In (groups_in (inlined kids part (kid_at kids (the_invoke part j).cell) j (the_invoke part j))) g
  capture_in j g less e =
      let k = kid_of j less in
      subst (λ o. In (groups_in (inlined kids part o j (the_invoke part j))) g) (sym k.1)
      (subst (λ o. In (groups_in (with_capture o (copied_statement (invoke_port kids part k.0 (the_invoke part j)) (copy_of kids part k.0 j) k.0.control))) g) (sym e)
      (captures_in_it g (copied_statement (invoke_port kids part k.0 (the_invoke part j)) (copy_of kids part k.0 j) k.0.control)))

  module _ (s : PlainStatement) (own : AllThere (groups_of s) (length part.groups)) (timed : AllThere (timed_of s) (length part.invokes)) where
    groups_as : (g : ℕ) → In (groups_of s) g → In (groups_in (form_of s)) g
    groups_as g i = cased s i
      where
        cased : (x : PlainStatement) → In (groups_of x) g → In (groups_in (form_of x)) g
        cased (Placed form place) k = k

    timed_as : (j : ℕ) → In (timed_of s) j → In (timed_in (form_of s)) j
    timed_as j i = cased s i
      where
        cased : (x : PlainStatement) → In (timed_of x) j → In (timed_in (form_of x)) j
        cased (Placed form place) k = k

    -- a cell that is kept
    kept_back : (c : ℕ) → c < length part.cells → kid_at kids c ≡ None → drives (part_of flat) (flat_statement kids part s) (kept_at kids c) ≡ true → drives_all part s c ≡ true
    kept_back c less none e = let r = driver (part_of flat) (groups_of (flat_statement kids part s)) (kept_at kids c) e in by r.0 (origin kids part r.0 s r.1) (sym (alike r.0 (kept_at kids c)) ∙ r.2)
      where
        by : (g : ℕ) → Origin kids part g (groups_of s) (timed_of s) → group_drives K g (kept_at kids c) ≡ true → drives_all part s c ≡ true
        by g (of_own i) h = owned_drives part s g c (inl (groups_as g i)) (own_back g c (own g i) none h)
        by g (capturing j child i its f) h =
            owned_drives part s g c (inr (j, timed_as j i, timed j i, f)) (own_back g c (capture_there j g (timed j i) f) none h)
        by g (copied j k child i its used f) h =
            let r = copy_cell j k (kept_at kids c) child (timed j i) its used (ap (λ x. group_drives K x (kept_at kids c)) f ∙ h) in
            let inside = kept_less kids part.cells c less none in
            let is = r.2 in
            absurd (omega (arith, inside, is))

    own_drives : (g c : ℕ) → In (groups_of (flat_statement kids part s)) g → g < length part.groups → kid_at kids c ≡ None → group_drives part g c ≡ true → drives (part_of flat) (flat_statement kids part s) (kept_at kids c) ≡ true
    own_drives g c i less none e = groups_drive_in (part_of flat) (groups_of (flat_statement kids part s)) g (kept_at kids c) i (alike g (kept_at kids c) ∙ own_forth g c less none e)

    kept_forth : (c : ℕ) → kid_at kids c ≡ None → drives_all part s c ≡ true → drives (part_of flat) (flat_statement kids part s) (kept_at kids c) ≡ true
    kept_forth c none e =
        ⊎_elim
        (λ (h : drives part s c ≡ true).
        let r = driver part (groups_of s) c h in own_drives r.0 c (own_one kids part r.0 s r.1) (own r.0 r.1) none r.2)
        (λ h. ⊎_elim
        (λ (f : invokes_cell part (invokes_of s) c ≡ true).
        let r = cell_found part (invokes_of s) c f in
        let k = kid_of r.0 r.2 in
        absurd (let not_kept : None ≡ Some k.0 = sym none ∙ ap (kid_at kids) (sym r.3) ∙ k.1 in cc))
        (λ (f : groups_drive part (captures_of part (invokes_of s)) c ≡ true).
        let r = driver part (captures_of part (invokes_of s)) c f in
        let q = capture_found part (invokes_of s) r.0 r.1 in
        own_drives r.0 c (timed_single kids part r.0 q.0 (capture_in q.0 r.0 q.2 q.3) s (invoke_timed s q.0 q.1)) (capture_there q.0 r.0 q.2 q.3) none r.2)
        (or_either (invokes_cell part (invokes_of s) c) (groups_drive part (captures_of part (invokes_of s)) c) h))
        (or_either (drives part s c) (invokes_cell part (invokes_of s) c || groups_drive part (captures_of part (invokes_of s)) c) e)

    -- a cell of a block
    block_back : (c e : ℕ) (child : PlainComponent) → kid_at kids c ≡ Some child → e < length child.cells → drives (part_of flat) (flat_statement kids part s) (start_of kids part c + e) ≡ true → drives_all part s c ≡ true
    block_back c e child its less h =
        let r = driver (part_of flat) (groups_of (flat_statement kids part s)) (start_of kids part c + e) h in by r.0 (origin kids part r.0 s r.1) (sym (alike r.0 (start_of kids part c + e)) ∙ r.2)
      where
        by : (g : ℕ) → Origin kids part g (groups_of s) (timed_of s) → group_drives K g (start_of kids part c + e) ≡ true → drives_all part s c ≡ true
        by g (of_own i) d = absurd (own_block g c e (own g i) d)
        by g (capturing j kid i j_its f) d = absurd (own_block g c e (capture_there j g (timed j i) f) d)
        by g (copied j k kid i j_its used f) d =
            let r = copy_cell j k (start_of kids part c + e) kid (timed j i) j_its used (ap (λ x. group_drives K x (start_of kids part c + e)) f ∙ d) in
            ⊎_elim
            (λ (same : (the_invoke part j).cell ≡ c). fed_drives part s c (j, timed_as j i, timed j i, same))
            (λ (apart : (the_invoke part j).cell ≡ c → ⊥).
            absurd (blocks_apart kids (the_invoke part j).cell c r.0 e kid child apart j_its its r.1 (omega (arith, less)) (let is = r.2 in omega (arith, is))))
            (cases_eq (the_invoke part j).cell c)

    -- THE FLAT STATEMENT drives what the statement drives
    pub drives_alike : DrivesAlike (Node part cells) flat s
    drives_alike = record {
      kept = λ c less none. bools_same (drives (part_of flat) (flat_statement kids part s) (kept_at kids c)) (drives_all part s c) (kept_back c less none) (kept_forth c none);
      block = λ c e child less its inside undriven.
          false_from_ne_true (drives (part_of flat) (flat_statement kids part s) (start_of kids part c + e))
          (λ h. let none : false ≡ true = sym undriven ∙ block_back c e child its inside h in cc);
    }

-- of two arms neither drives what the other does
module _ (part : PlainComponent) (all : List PlainStatement) (unshared : (c : ℕ) → IsShared part all c → ⊥) where
  later_none : (k n : ℕ) (s : PlainStatement) (ss : PlainStatements) (c : ℕ) → slice_get all k ≡ Some s → k < n → ((m : ℕ) → slice_get (list_of ss) m ≡ slice_get all (n + m)) → drives_all part s c ≡ true → NoneDrive part c ss
  later_none k n s no_statements c at less tail e = tt
  later_none k n s (a_statement x xs) c at less tail e = (
    false_from_ne_true (drives_all part x c) (λ h.
        unshared c (record { one = k; other = n; differ = (λ same. omega (arith, less, same)); first = s; second = x; first_stands = at; second_stands = ap (slice_get all) (let z : n ≡ n + 0 = omega arith in z) ∙ sym (tail 0) }, e, driven h)),
    later_none k (suc n) s xs c at (omega (arith, less)) (λ m. tail (suc m) ∙ ap (slice_get all) (let z : n + suc m ≡ suc n + m = omega arith in z)) e,
  )

  pub arm_apart : (n : ℕ) (s : PlainStatement) (ss : PlainStatements) → ((m : ℕ) → slice_get (list_of (a_statement s ss)) m ≡ slice_get all (n + m)) → IsApart part s ss
  arm_apart n s ss tail c e =
      later_none n (suc n) s ss c (ap (slice_get all) (let z : n ≡ n + 0 = omega arith in z) ∙ sym (tail 0)) (omega arith) (λ m. tail (suc m) ∙ ap (slice_get all) (let z : n + suc m ≡ suc n + m = omega arith in z)) e
