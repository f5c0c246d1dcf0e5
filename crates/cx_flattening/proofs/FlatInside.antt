-- WHERE A FLAT CELL STANDS: it is one that is kept, or in the block of a static child, of one cell of the tree alone; where what flat
-- groups drive and look at comes from; and that all that is looked at stands in the flat component.
use Rattle.std.proofs.Common.{◌≡◌, ℕ, zero, suc, ◌+◌, ◌<◌, inl, inr, ⊎_elim, Bool, true, false, length, map, Option, Some, None, refl, sym, ap, ◌∙◌, subst, arith}
use Rattle.std.specs.Prelude.{◌-◌, flat_map}
use Rattle.std.proofs.lemmas.Bool.{cases_eq, eq-eqb, eqb-true}
use Rattle.std.proofs.lemmas.List.{get_or_append_left, get_or-map, length-map}
use Rattle.cx_text.proofs.MemberLaws.{image_in, in_either}
use Rattle.cx_meaning.specs.declared.ports.PortRef.{PortRef}
use Rattle.cx_meaning.specs.declared.ports.PortRef.TheVariants as ports
use Rattle.cx_meaning.specs.declared.ports.PlacedPort.{PlacedPort}
use Rattle.cx_meaning.specs.Designs.{PlainAssign, PlainGroup, PlainComponent, group_at, no_group, PlainForm, Timed, PlainStatement, Placed, form_of}
use Rattle.cx_meaning.specs.Instances.{Instance, Node, Cells, no_cells, a_primitive, an_instance, At, Nothing, OfRow, OfInstance, part_of, cell_at}
use Rattle.cx_meaning.specs.Control.{groups_in, groups_of}
use Rattle.cx_text.specs.Members.{In}
use Rattle.cx_rules.specs.Footprints.{AssignNames}
use Rattle.cx_rules.specs.Items.{Dynamic, test_in, option_list, tests_of}
use Rattle.cx_rules.specs.Counts.{is_one_of}
use Rattle.cx_rewrites.specs.Moving.{moved_port, moved_assign, moved_group}
use Rattle.cx_rewrites.proofs.ReflectLemmas.{names_back}
use Rattle.cx_flattening.specs.Events.{the_invoke, source_to}
use Rattle.cx_flattening.specs.Whole.{is_static}
use Rattle.cx_flattening.specs.Copies.{copied_group}
use Rattle.cx_flattening.specs.Flattened.{Kids, kid_at, kept_at, block_size, start_of, wire_at, port_if, own_port, child_port, invoke_port, always_from, copies, copy_of, flat_kids, flat_part, flat_statement}
use Rattle.cx_flattening.specs.Targets.{BlockTarget}
use Rattle.cx_flattening.specs.Fair.{IsNamed, IsFair, AllFair, AllFairBelow}
use Rattle.cx_flattening.specs.Controlled.{timed_in, timed_of, IsControlled, AllControlled, AllControlledBelow}
use Rattle.cx_flattening.proofs.Placing.{kept_less, kept_apart, blocks_apart}
use Rattle.cx_flattening.proofs.PortLemmas.{own-kept, in_block}
use Rattle.cx_flattening.proofs.CellLayout.{kept_inside}
use Rattle.cx_flattening.proofs.Standing.{in_flat_cells}
use Rattle.cx_flattening.proofs.FlatGroups.{in_one_of, copy-is}
use Rattle.cx_flattening.proofs.LevelSights.{kid-row, kid-static, kid-dynamic, output_number, flat-inputs, flat-outputs}
use Rattle.cx_flattening.proofs.FlatLengths.{AllThere}
use Rattle.cx_flattening.proofs.FlatOrigins.{Origin, of_own, capturing, copied, origin}
use Rattle.cx_flattening.proofs.FlatDrives.{used_target, timed_there}
use Rattle.cx_flattening.proofs.FlatBlocks.{kid_always, kid_there}
use Rattle.cx_flattening.proofs.FlatSafe.{kid_from}
use Rattle.cx_flattening.proofs.FlatKinds.{in_groups}
use Rattle.cx_flattening.proofs.FlatForms.{forms_of, visited_at, tested_form, form_tested, test_copied, test_flat, Comes, comes}
use Rattle.cx_flattening.proofs.FlatForms as forms
use Rattle.cx_flattening.proofs.DeedsApart.{IsOwned}
use Rattle.cx_flattening.proofs.FairParts.{HasCells, AllHave, AllHaveBelow, named}
use Rattle.cx_flattening.proofs.Ruled.{IsRuled, AllRuled, AllRuledBelow}
use Rattle.cx_laws.proofs.TreeLemmas.{output_there}
use Rattle.cx_rules.proofs.ItemsLemmas.{option_in}
use Rattle.cx_meaning.specs.Active.{cell_number}

module _ (kids : Kids) (part : PlainComponent) where
  -- CELL c of the tree stands for flat cell x, or has it in its block
  pub data IsAt (c x : ℕ) : Type 0 where
    is_kept : c < length part.cells → kid_at kids c ≡ None → kept_at kids c ≡ x → IsAt c x
    in_child : (child : PlainComponent) (n : ℕ) → kid_at kids c ≡ Some child → n < block_size (Some child) → start_of kids part c + n ≡ x → IsAt c x

  pub one_cell : (c d x : ℕ) → IsAt c x → IsAt d x → c ≡ d
  one_cell c d x (is_kept less none e) (is_kept more also f) = eqb-true c d (sym (kept_apart kids c d none also) ∙ eq-eqb (kept_at kids c) (kept_at kids d) (e ∙ sym f))
  one_cell c d x (is_kept less none e) (in_child child n its inside f) = let front = kept_less kids part.cells c less none in absurd (omega (arith, front, e, f))
  one_cell c d x (in_child child n its inside e) (is_kept less none f) = let front = kept_less kids part.cells d less none in absurd (omega (arith, front, e, f))
  one_cell c d x (in_child child n its inside e) (in_child other m has within f) =
      ⊎_elim (λ s. s) (λ apart. absurd (blocks_apart kids c d n m child other apart its has inside within (omega (arith, e, f)))) (cases_eq c d)

-- WHAT MAY BE LOOKED AT in a flat component: a cell that is there, an input that is there, no output
abbrev pub IsLooked : PlainComponent → PortRef → Type 0
IsLooked K (ports.Cell e p) = e < length K.cells
IsLooked K (ports.Input n) = n < length K.inputs
IsLooked K (ports.Output n) = ⊥
IsLooked K (ports.Done g) = Unit {0}
IsLooked K (ports.Literal w v) = Unit {0}

-- nothing else is looked at, and no group that control enables drives an output
pub record IsInside (K : PlainComponent) : Type 0 where
  pub always : (a : PlainAssign) (q : PortRef) → In K.always a → AssignNames a q → IsLooked K q
  pub groups : (g : ℕ) (a : PlainAssign) (q : PortRef) → In (groups_of K.control) g → In (group_at K g).assigns a → AssignNames a q → IsLooked K q
  pub tests : (p : PlacedPort) → In (tests_of K.control) p → IsLooked K p.port
  pub drives : (g n : ℕ) (a : PlainAssign) → In (groups_of K.control) g → In (group_at K g).assigns a → a.target ≡ ports.Output n → ⊥

module _ (part : PlainComponent) (cells : Cells) (fair : IsFair (Node part cells)) (controlled : IsControlled (Node part cells)) where
  abbrev i : Instance
  i = Node part cells

  abbrev kids : Kids
  kids = flat_kids cells

  abbrev K : PlainComponent
  K = flat_part (Node part cells)

  -- a port that is named, where it is one of a cell
  pub record NamedAt (q : PortRef) (y : ℕ) : Type 0 where
    pub cell : ℕ
    pub port : ℕ
    pub is : q ≡ ports.Cell cell port
    pub at : IsAt kids part cell y

  pub own_at : (q : PortRef) → IsNamed i q → (y p : ℕ) → own_port kids part q ≡ ports.Cell y p → NamedAt q y
  own_at (ports.Cell c m) name y p e = by (cell_at cells c) refl
    where
      kept_one : kid_at kids c ≡ None → NamedAt (ports.Cell c m) y
      kept_one none = record { cell = c; port = m; is = refl; at = is_kept name.0 none (ap cell_number (sym (own-kept kids part c m none) ∙ e)) }

      of_child : (child : Instance) → cell_at cells c ≡ OfInstance child → (b : Bool) → is_static child ≡ b → NamedAt (ports.Cell c m) y
      of_child child at false dynamic = kept_one (kid-dynamic cells c child at dynamic)
      of_child child at true static =
          let o = name.1 child at static in
          let its : kid_at kids c ≡ Some (flat_part child) = kid-static cells c child at static in
          let number : m - 1 - length (flat_part child).inputs ≡ o.0 = ap (λ l. m - 1 - length l) (flat-inputs child) ∙ output_number (part_of child) m o.0 o.1 in
          let less : o.0 < length (flat_part child).outputs = subst (λ l. o.0 < length l) (sym (flat-outputs child)) (output_there (part_of child) m o.0 o.1) in
          let there : wire_at kids part (flat_part child) c (m - 1 - length (flat_part child).inputs) ≡ y = ap cell_number (sym (ap (λ k. port_if kids part k c m) its) ∙ e) in
          let wire : wire_at kids part (flat_part child) c o.0 ≡ y = ap (wire_at kids part (flat_part child) c) (sym number) ∙ there in
          record { cell = c; port = m; is = refl; at = in_child (flat_part child) (length (flat_part child).cells + o.0) its (omega (arith, less)) (omega (arith, wire)) }

      by : (x : At) → cell_at cells c ≡ x → NamedAt (ports.Cell c m) y
      by Nothing at = absurd (fair.counts c name.0 at)
      by (OfRow row) at = kept_one (kid-row cells c row at)
      by (OfInstance child) at = of_child child at (is_static child) refl
  own_at (ports.Input n) name y p e = absurd (cc)
  own_at (ports.Output n) name y p e = absurd (cc)
  own_at (ports.Done g) name y p e = absurd (cc)
  own_at (ports.Literal w v) name y p e = absurd (cc)

  pub at_less : (c x : ℕ) → IsAt kids part c x → x < length K.cells
  at_less c x (is_kept less none e) = subst (λ y. y < length K.cells) e (kept_inside kids part.cells c less none)
  at_less c x (in_child child n its inside e) = subst (λ y. y < length K.cells) e (in_flat_cells kids part c n child (fair.within c (kid_there cells c child its)) its inside)

  -- WHAT IS NAMED stands in the flat component
  own_looked : (q : PortRef) → IsNamed i q → IsLooked K (own_port kids part q)
  own_looked (ports.Cell c m) name = by (kid_at kids c) refl
    where
      there : (y p : ℕ) → own_port kids part (ports.Cell c m) ≡ ports.Cell y p → IsLooked K (own_port kids part (ports.Cell c m))
      there y p e = let r = own_at (ports.Cell c m) name y p e in subst (IsLooked K) (sym e) (at_less r.cell y r.at)

      by : (k : Option PlainComponent) → kid_at kids c ≡ k → IsLooked K (own_port kids part (ports.Cell c m))
      by None its = there (kept_at kids c) m (ap (λ k. port_if kids part k c m) its)
      by (Some child) its = there (wire_at kids part child c (m - 1 - length child.inputs)) 1 (ap (λ k. port_if kids part k c m) its)
  own_looked (ports.Input n) name = name
  own_looked (ports.Output n) name = name
  own_looked (ports.Done g) name = tt
  own_looked (ports.Literal w v) name = tt

  child_looked : (c : ℕ) (child : PlainComponent) (sources : ℕ → PortRef) → kid_at kids c ≡ Some child → (q : PortRef) → IsLooked child q → ((n : ℕ) → q ≡ ports.Input n → IsLooked K (sources n)) → IsLooked K (child_port kids part child c sources q)
  child_looked c child sources its (ports.Cell e p) looked given = at_less c (start_of kids part c + e) (in_child child e its (omega (arith, looked)) refl)
  child_looked c child sources its (ports.Input n) looked given = given n refl
  child_looked c child sources its (ports.Output n) looked given = absurd looked
  child_looked c child sources its (ports.Done g) looked given = tt
  child_looked c child sources its (ports.Literal w v) looked given = tt

  -- the source of an input of an invoke
  pub source_named : (j n : ℕ) (child : PlainComponent) → j < length part.invokes → kid_at kids (the_invoke part j).cell ≡ Some child → n < length child.inputs
      → IsNamed i (source_to (the_invoke part j).cell (the_invoke part j).inputs n)
  source_named j n child less its there =
      let k = kid_from cells (the_invoke part j).cell child its in
      fair.sources j n k.0 less k.1 (subst (λ l. n < length l) (ap (λ (x : PlainComponent). x.inputs) (sym k.3) ∙ flat-inputs k.0) there)

  source_looked : (j : ℕ) (child : PlainComponent) → j < length part.invokes → kid_at kids (the_invoke part j).cell ≡ Some child → (q : PortRef) → IsLooked child q → (n : ℕ) → q ≡ ports.Input n
      → IsLooked K (own_port kids part (source_to (the_invoke part j).cell (the_invoke part j).inputs n))
  source_looked j child less its q looked n e =
      own_looked (source_to (the_invoke part j).cell (the_invoke part j).inputs n) (source_named j n child less its (subst (IsLooked child) e looked))

  -- AN ASSIGNMENT of a group of a flat statement is one of a group of the statement, or of a static child that it invokes
  pub data AssignFrom (s : PlainStatement) (b : PlainAssign) : Type 0 where
    of_group : (g : ℕ) (a : PlainAssign) → IsOwned part (form_of s) g → g < length part.groups → In (group_at part g).assigns a → moved_assign (own_port kids part) a ≡ b → AssignFrom s b
    of_child : (j h : ℕ) (child : PlainComponent) (a : PlainAssign) → In (timed_of s) j → j < length part.invokes → kid_at kids (the_invoke part j).cell ≡ Some child → In (groups_of child.control) h
        → In (group_at child h).assigns a → BlockTarget child a.target → moved_assign (invoke_port kids part child (the_invoke part j)) a ≡ b → AssignFrom s b

  groups_as : (s : PlainStatement) (g : ℕ) → In (groups_of s) g → In (groups_in (form_of s)) g
  groups_as (Placed form place) g k = k

  pub timed_as : (s : PlainStatement) (j : ℕ) → In (timed_of s) j → In (timed_in (form_of s)) j
  timed_as (Placed form place) j k = k

  pub group_moved : (g : ℕ) → g < length part.groups → group_at K g ≡ moved_group (own_port kids part) (group_at part g)
  group_moved g less =
      get_or_append_left (map (moved_group (own_port kids part)) part.groups) (flat_map (copies kids part) part.invokes) no_group g (let same = length-map part.groups (moved_group (own_port kids part)) in omega (arith, less, same))
      ∙ get_or-map (moved_group (own_port kids part)) part.groups g no_group no_group less

  pub capture_there : (j g : ℕ) → j < length part.invokes → (the_invoke part j).captures ≡ Some g → g < length part.groups
  capture_there j g less e = ((controlled.invokes j less).captures g e).0

  -- what a group that a static child's control enables drives may be driven there
  pub used_block : (c h : ℕ) (child : PlainComponent) (a : PlainAssign) → kid_at kids c ≡ Some child → In (groups_of child.control) h → In (group_at child h).assigns a → BlockTarget child a.target
  used_block c h child a its used k =
      let block = fair.targets.blocks c child its in
      let one = in_one_of h (groups_of child.control) used in
      used_target (λ x. BlockTarget child x.target) (groups_of child.control) 0 child.groups block.used h (block.there h one) (ap (λ x. is_one_of x (groups_of child.control)) (zero_plus h) ∙ one) a k
    where
      zero_plus : (n : ℕ) → 0 + n ≡ n
      zero_plus n = omega arith

  pub copied_assigns : (j h : ℕ) (child : PlainComponent) → j < length part.invokes → kid_at kids (the_invoke part j).cell ≡ Some child → In (groups_of child.control) h
      → group_at K (copy_of kids part child j h) ≡ copied_group (invoke_port kids part child (the_invoke part j)) (group_at child h)
  copied_assigns j h child less its used =
      let one = in_one_of h (groups_of child.control) used in copy-is kids part j h child less its one ((fair.targets.blocks (the_invoke part j).cell child its).there h one)

  module _ (s : PlainStatement) (own : AllThere (groups_of s) (length part.groups)) (timed : AllThere (timed_of s) (length part.invokes)) where
    pub assign_from : (g : ℕ) → In (groups_of (flat_statement kids part s)) g → (b : PlainAssign) → In (group_at K g).assigns b → AssignFrom s b
    assign_from g k b m = by (origin kids part g s k)
      where
        owned : IsOwned part (form_of s) g → g < length part.groups → AssignFrom s b
        owned o less =
            let r = image_in (moved_assign (own_port kids part)) (group_at part g).assigns b (subst (λ (x : PlainGroup). In x.assigns b) (group_moved g less) m) in of_group g r.0 o less r.1 r.2

        by : Origin kids part g (groups_of s) (timed_of s) → AssignFrom s b
        by (of_own n) = owned (inl (groups_as s g n)) (own g n)
        by (capturing j child n its e) = owned (inr (j, timed_as s j n, timed j n, e)) (capture_there j g (timed j n) e)
        by (copied j h child n its used e) =
            let r = image_in (moved_assign (invoke_port kids part child (the_invoke part j))) (group_at child h).assigns b
            (subst (λ (x : PlainGroup). In x.assigns b) (ap (λ x. group_at K x) (sym e) ∙ copied_assigns j h child (timed j n) its used) m) in
            of_child j h child r.0 n (timed j n) its used r.1 (used_block (the_invoke part j).cell h child r.0 its used r.1) r.2

  -- A CONDITION of a flat statement is one of the statement, or of a static child that it invokes
  pub data TestFrom (s : PlainStatement) (p : PlacedPort) : Type 0 where
    of_test : (q : PlacedPort) → In (tests_of s) q → moved_port (own_port kids part) q ≡ p → TestFrom s p
    of_child_test : (j : ℕ) (child : PlainComponent) (q : PlacedPort) → In (timed_of s) j → kid_at kids (the_invoke part j).cell ≡ Some child → In (tests_of child.control) q
        → moved_port (invoke_port kids part child (the_invoke part j)) q ≡ p → TestFrom s p

  pub form_timed : (s : PlainStatement) (j : ℕ) → In (forms_of s) (Timed j) → In (timed_of s) j
  form_timed s j k = let v = visited_at Dynamic s (Timed j) k in timed_there j Dynamic s v.0 v.1 v.2

  pub test_from : (s : PlainStatement) (p : PlacedPort) → In (tests_of (flat_statement kids part s)) p → TestFrom s p
  test_from s p k = let r = tested_form (flat_statement kids part s) p k in by r.0 (comes kids part r.0 s r.1) r.2
    where
      by : (x : PlainForm) → Comes kids part x (forms_of s) → In (option_list (test_in x)) p → TestFrom s p
      by x (forms.moved w n untimed e) m =
          let r = image_in (moved_port (own_port kids part)) (option_list (test_in w)) p (subst (λ l. In l p) (test_flat kids part w untimed) (subst (λ y. In (option_list (test_in y)) p) (sym e) m)) in
          of_test r.0 (form_tested s w r.0 n r.1) r.2
      by x (forms.copied j child w n its l e) m =
          let f = invoke_port kids part child (the_invoke part j) in
          let r = image_in (moved_port f) (option_list (test_in w)) p (subst (λ l. In l p) (test_copied f (copy_of kids part child j) w) (subst (λ y. In (option_list (test_in y)) p) (sym e) m)) in
          of_child_test j child r.0 (form_timed s j n) its (form_tested child.control w r.0 l r.1) r.2
      by x (forms.captures j g n e f) m = absurd (subst (λ y. In (option_list (test_in y)) p) (sym f) m)
      by x (forms.bare arms enabled test) m = absurd (subst (λ y. In (option_list y) p) test m)

  module _ (ruled : IsRuled part (Node part cells)) (has : HasCells part cells) where
    pub test_named : (p : PlacedPort) → In (tests_of part.control) p → IsNamed i p.port
    test_named p k =
        let r = tested_form part.control p k in
        let v = visited_at Dynamic part.control r.0 r.1 in
        named part cells ruled has p.port (ruled.tests v.0 p v.1 (option_in (test_in v.0.form) p (subst (λ y. In (option_list (test_in y)) p) (sym v.2) r.2)))

    module _ (below : (c : ℕ) (child : PlainComponent) → kid_at kids c ≡ Some child → IsInside child) where
      inside_always : (a : PlainAssign) (q : PortRef) → In K.always a → AssignNames a q → IsLooked K q
      inside_always a q k names =
          ⊎_elim
          (λ m. let r = image_in (moved_assign (own_port kids part)) part.always a m in
          let n = names_back (own_port kids part) r.0 q (subst (λ x. AssignNames x q) (sym r.2) names) in
          subst (IsLooked K) n.1 (own_looked n.0 (fair.names r.0 n.0 (inl r.1) n.2)))
          (λ m. let h = kid_always kids part 0 kids a m in
          let n = names_back (child_port kids part h.child (0 + h.cell) (λ x. ports.Input x)) h.assign q (subst (λ x. AssignNames x q) (sym h.is) names) in
          subst (IsLooked K) n.1
          (subst (λ c. IsLooked K (child_port kids part h.child c (λ x. ports.Input x) n.0)) (zero_plus h.cell)
          (child_looked h.cell h.child (λ x. ports.Input x) h.its n.0 ((below h.cell h.child h.its).always h.assign n.0 h.among n.2)
          (λ x e. absurd ((fair.targets.blocks h.cell h.child h.its).no_input h.assign x h.among (subst (AssignNames h.assign) e n.2))))))
          (in_either (map (moved_assign (own_port kids part)) part.always) (always_from kids part 0 kids) a k)
        where
          zero_plus : (n : ℕ) → n ≡ 0 + n
          zero_plus n = omega arith

      inside_group : (b : PlainAssign) (q : PortRef) → AssignFrom part.control b → AssignNames b q → IsLooked K q
      inside_group b q (of_group g a owned less k e) names =
          let n = names_back (own_port kids part) a q (subst (λ x. AssignNames x q) (sym e) names) in
          subst (IsLooked K) n.1 (own_looked n.0 (fair.names a n.0 (inr (group_at part g, in_groups part.groups g less, k)) n.2))
      inside_group b q (of_child j h child a t less its used k target e) names =
          let n = names_back (invoke_port kids part child (the_invoke part j)) a q (subst (λ x. AssignNames x q) (sym e) names) in
          let looked = (below (the_invoke part j).cell child its).groups h a n.0 used k n.2 in
          subst (IsLooked K) n.1 (child_looked (the_invoke part j).cell child _ its n.0 looked (source_looked j child less its n.0 looked))

      inside_test : (p : PlacedPort) → TestFrom part.control p → IsLooked K p.port
      inside_test p (of_test q k e) = subst (λ (x : PlacedPort). IsLooked K x.port) e (own_looked q.port (test_named q k))
      inside_test p (of_child_test j child q t its k e) =
          let looked = (below (the_invoke part j).cell child its).tests q k in
          subst (λ (x : PlacedPort). IsLooked K x.port) e (child_looked (the_invoke part j).cell child _ its q.port looked (source_looked j child (controlled.timed j t) its q.port looked))

      own_output : (q : PortRef) (n : ℕ) → own_port kids part q ≡ ports.Output n → q ≡ ports.Output n
      own_output (ports.Cell c p) n e = by (kid_at kids c) e
        where
          by : (o : Option PlainComponent) → port_if kids part o c p ≡ ports.Output n → ports.Cell c p ≡ ports.Output n
          by None f = absurd (cc)
          by (Some child) f = absurd (cc)
      own_output (ports.Input m) n e = absurd (cc)
      own_output (ports.Output m) n e = e
      own_output (ports.Done g) n e = absurd (cc)
      own_output (ports.Literal w v) n e = absurd (cc)

      inside_drives : (b : PlainAssign) (n : ℕ) → AssignFrom part.control b → b.target ≡ ports.Output n → ⊥
      inside_drives b n (of_group g a owned less k e) target =
          fair.outputs_outside (group_at part g) a n (in_groups part.groups g less) k (own_output a.target n (ap (λ (x : PlainAssign). x.target) e ∙ target))
      inside_drives b n (of_child j h child a t less its used k block e) target =
          let r = in_block kids part child (the_invoke part j).cell (λ m. own_port kids part (source_to (the_invoke part j).cell (the_invoke part j).inputs m)) a.target block in
          let clash : ports.Cell (start_of kids part (the_invoke part j).cell + r.cell) r.port ≡ ports.Output n = sym r.is ∙ ap (λ (x : PlainAssign). x.target) e ∙ target in
          absurd (cc)

      part_inside : IsInside K
      part_inside = record {
        always = inside_always;
        groups = λ g a q k m names. inside_group a q (assign_from part.control controlled.enables controlled.timed g k a m) names;
        tests = λ p k. inside_test p (test_from part.control p k);
        drives = λ g n a k m target. inside_drives a n (assign_from part.control controlled.enables controlled.timed g k a m) target;
      }

mutual
  -- AT EVERY DEPTH
  pub all_inside : (i : Instance) → AllFair i → AllControlled i → AllRuled i → AllHave i → IsInside (flat_part i)
  all_inside (Node part cells) fair controlled ruled has =
      part_inside part cells fair.0 controlled.0 ruled.0 has.0
      (λ c child its. let k = kid_from cells c child its in subst IsInside k.3 (below_inside cells fair.1 controlled.1 ruled.1 has.1 c k.0 k.1))

  pub below_inside : (cells : Cells) → AllFairBelow cells → AllControlledBelow cells → AllRuledBelow cells → AllHaveBelow cells → (c : ℕ) (child : Instance) → cell_at cells c ≡ OfInstance child → IsInside (flat_part child)
  below_inside no_cells fair controlled ruled has c child at = absurd (cc)
  below_inside (a_primitive row rest) fair controlled ruled has zero child at = absurd (cc)
  below_inside (a_primitive row rest) fair controlled ruled has (suc c) child at = below_inside rest fair controlled ruled has c child at
  below_inside (an_instance other rest) fair controlled ruled has zero child at =
      let same : other ≡ child = cc in subst (λ x. IsInside (flat_part x)) same (all_inside other fair.0 controlled.0 ruled.0 has.0)
  below_inside (an_instance other rest) fair controlled ruled has (suc c) child at = below_inside rest fair.1 controlled.1 ruled.1 has.1 c child at
