-- THE RULE ON CALLS: the flat design of an accepted design keeps it. A plain group of a flat component is one of the component, whose calls have the
-- form that they had; nothing else drives a port of a component cell.
use Rattle.std.proofs.Common.{◌≡◌, ℕ, suc, ◌+◌, ◌<◌, ◌⊎◌, inl, inr, ⊎_elim, Bool, true, false, ◌&&◌, nat_eq, List, [], ◌∷◌, length, map, Option, Some, None, is_some, refl, sym, ap, ap₂, ◌∙◌, subst, arith}
use Rattle.std.proofs.lemmas.Bool.{eqb-true, eq-eqb}
use Rattle.cx_text.proofs.MemberLaws.{image_in, number_in}
use Rattle.cx_text.specs.Members.{In}
use Rattle.cx_text.specs.declared.places.Place.{Place}
use Rattle.cx_text.specs.declared.rules.Rule.TheVariants as rules
use Rattle.cx_prim.specs.Rows.{Row}
use Rattle.cx_meaning.specs.declared.ports.PortRef.{PortRef}
use Rattle.cx_meaning.specs.declared.ports.PortRef.TheVariants as ports
use Rattle.cx_meaning.specs.Designs.{PlainAssign, PlainGroup, PlainComponent, PlainDesign, component_at, group_at}
use Rattle.cx_meaning.specs.Instances.{Instance, Node, Cells, At, Nothing, OfRow, OfInstance, part_of, cells_of, cell_at}
use Rattle.cx_meaning.specs.Active.{Owned, same_port, source_order}
use Rattle.cx_meaning.specs.Sights.{part_port}
use Rattle.cx_meaning.proofs.InstancesLemmas.{row_instance, instance_is}
use Rattle.cx_meaning.proofs.DesignsLemmas.{same_part}
use Rattle.cx_rules.specs.Accepted.{IsAccepted}
use Rattle.cx_rules.specs.Items.{is_plain}
use Rattle.cx_rules.specs.Ports.{component_of, path_of, is_instance, is_primitive_enable, is_part_port}
use Rattle.cx_meaning.specs.Calls.{enables_at}
use Rattle.cx_rules.specs.ShapeRules.{is_hole_of, some_target}
use Rattle.cx_rules.specs.CallShape.{is_port_of, Calls, go_port, done_port, register_done, with_target, is_right_go, is_right_enable, is_register_enable, captured, wanted_dones, is_right_done, assigns_of, IsOutputOrDone, has_right_go, IsFedBack, has_right_enable, has_right_done, CallBreak, another_cell, wrong_go, input_by_output, wrong_enable, wrong_done, IsOutside, IsMisshapen, BreaksCallShape, GroupBreaksCallShape}
use Rattle.cx_rules.specs.Spots.{AnAssign, AGroup, Spot, OnAssign, OnGroup}
use Rattle.cx_rules.specs.Wellformed.{IsDesign}
use Rattle.cx_rules.proofs.ShapeRulesLemmas.{some_in, a_target}
use Rattle.cx_rewrites.specs.Moving.{moved_assign, moved_group}
use Rattle.cx_rewrites.proofs.MovedLists.{some_target-moved}
use Rattle.cx_rewrites.proofs.MovedCalls.{Anywhere, IsApart, apart_right, apart_alone, all_anywhere, with_target-moved, is_right_go-moved, is_right_enable-moved, is_right_done-moved}
use Rattle.cx_flattening.specs.Whole.{is_static}
use Rattle.cx_flattening.specs.Flattened.{Kids, kid_at, kept_at, flat_cells, own_port, flat_kids, flat_part}
use Rattle.cx_flattening.specs.FlatDesign.{reached_below, renumbered_cell, flat_design}
use Rattle.cx_flattening.specs.Targets.{OwnTarget}
use Rattle.cx_flattening.specs.Embedded.{IsLike, IsFlattened}
use Rattle.cx_flattening.specs.Fair.{IsNamed, AllFair}
use Rattle.cx_flattening.specs.Ends.{NoneNamesDone}
use Rattle.cx_flattening.proofs.CellLayout.{kind_at, at_kind, cell_for, renumbered_host}
use Rattle.cx_flattening.proofs.PortLemmas.{own-kept}
use Rattle.cx_flattening.proofs.Standing.{embedded_row, embedded_dynamic}
use Rattle.cx_flattening.proofs.LevelSights.{kid-static, flat-inputs, flat-outputs}
use Rattle.cx_flattening.proofs.FlatOutputs.{ports_like}
use Rattle.cx_flattening.proofs.RestingPorts.{OfOne, owner_of}
use Rattle.cx_flattening.proofs.AcceptedTrees.{IsGood}
use Rattle.cx_flattening.proofs.FlatKinds.{IsTimed, in_groups, OwnGroup, own_or_timed, hole_stays, assigned_less}
use Rattle.cx_flattening.proofs.FlatNumbers.{IsMade, made}
use Rattle.cx_flattening.proofs.FlatRanges.{slice_in}
use Rattle.cx_flattening.proofs.FlatStages.{good_component}
use Rattle.cx_flattening.proofs.Ruled.{in_order}
use Rattle.cx_flattening.proofs.FlatCaptures.{own_one, cell_alone, done_alone, register_kept, captured_moved, captured_one}
use Rattle.cx_flattening.proofs.FlatDepends.{depends_back}
use Rattle.cx_flattening.proofs.FlatCallees.{AtKinds, tree_kinds, part_callee, PlainCall, plain_calls}
use Rattle.cx_rules.proofs.ItemsLemmas.{plain_untimed}

no_latency : (latency : Option ℕ) → is_some latency ≡ false → latency ≡ None
no_latency None e = refl
no_latency (Some n) e = absurd (cc)

zero_plus : (a : ℕ) → 0 + a ≡ a
zero_plus a = omega arith

module _ (part : PlainComponent) (cells : Cells) (flat : Instance) (flattened : IsFlattened (Node part cells) flat) (fair : AllFair (Node part cells))
    (d : PlainDesign) (its_cells : (part_of flat).cells ≡ map (renumbered_cell d) (flat_cells (flat_kids cells) part.cells)) where
  abbrev i : Instance
  i = Node part cells

  abbrev kids : Kids
  kids = flat_kids cells

  abbrev f : PortRef → PortRef
  f = own_port kids part

  -- WHAT STANDS at a cell that is kept
  abbrev there : ℕ → At
  there c = cell_at (cells_of flat) (kept_at kids c)

  flat_at : (c : ℕ) (x : At) → cell_at (cells_of flat) (0 + kept_at kids (0 + c)) ≡ x → there c ≡ x
  flat_at c x e = ap (cell_at (cells_of flat)) (sym (zero_plus (kept_at kids c))) ∙ ap (λ k. cell_at (cells_of flat) (0 + kept_at kids k)) (sym (zero_plus c)) ∙ e

  flat_row : (c : ℕ) (row : Row) → cell_at cells c ≡ OfRow row → there c ≡ OfRow row
  flat_row c row at = flat_at c (OfRow row) (embedded_row kids part 0 (cells_of flat) cells 0 c row flattened.1 at)

  abbrev Twin : ℕ → Instance → Type 0
  Twin c child = (twin : Instance) × (there c ≡ OfInstance twin) × IsLike (part_of twin) (flat_part child)

  flat_twin : (c : ℕ) (child : Instance) → cell_at cells c ≡ OfInstance child → is_static child ≡ false → Twin c child
  flat_twin c child at dynamic = let r = embedded_dynamic kids part 0 (cells_of flat) cells 0 c child flattened.1 at dynamic in (r.0, flat_at c (OfInstance r.0) r.1, r.2)

  -- it is of the same sort
  alike : (sort : At → Bool) → ((a b : Instance) → sort (OfInstance a) ≡ sort (OfInstance b)) → (c : ℕ) → c < length part.cells → kid_at kids c ≡ None → sort (there c) ≡ sort (cell_at cells c)
  alike sort same c less none = by (cell_at cells c) refl
    where
      by : (x : At) → cell_at cells c ≡ x → sort (there c) ≡ sort (cell_at cells c)
      by Nothing at = absurd (fair.0.counts c less at)
      by (OfRow row) at = ap sort (flat_row c row at) ∙ sym (ap sort at)
      by (OfInstance child) at = of_child (is_static child) refl
        where
          of_child : (b : Bool) → is_static child ≡ b → sort (there c) ≡ sort (cell_at cells c)
          of_child true static = absurd (let not_kept : None ≡ Some (flat_part child) = sym none ∙ kid-static cells c child at static in cc)
          of_child false dynamic = let r = flat_twin c child at dynamic in ap sort r.1 ∙ same r.0 child ∙ sym (ap sort at)

  part_alike : (q : PortRef) → OwnTarget kids part q → is_part_port flat (f q) ≡ is_part_port i q
  part_alike (ports.Cell c p) own = ap (is_part_port flat) (own-kept kids part c p own.1) ∙ alike is_instance (λ a b. refl) c own.0 own.1
  part_alike (ports.Input n) own = absurd own
  part_alike (ports.Output n) own = refl
  part_alike (ports.Done g) own = refl
  part_alike (ports.Literal w v) own = absurd own

  enable_alike : (q : PortRef) → OwnTarget kids part q → is_primitive_enable flat (f q) ≡ is_primitive_enable i q
  enable_alike (ports.Cell c p) own = ap (is_primitive_enable flat) (own-kept kids part c p own.1) ∙ alike (λ x. enables_at x p) (λ a b. refl) c own.0 own.1
  enable_alike (ports.Input n) own = absurd own
  enable_alike (ports.Output n) own = refl
  enable_alike (ports.Done g) own = refl
  enable_alike (ports.Literal w v) own = absurd own

  register_alike : (q : PortRef) → OwnTarget kids part q → is_register_enable (part_of flat) (f q) ≡ is_register_enable part q
  register_alike (ports.Cell c p) own = ap (is_register_enable (part_of flat)) (own-kept kids part c p own.1) ∙ ap (λ b. b && nat_eq p 1) (register_kept d kids part (part_of flat) its_cells c own.0 own.1)
  register_alike (ports.Input n) own = absurd own
  register_alike (ports.Output n) own = refl
  register_alike (ports.Done g) own = refl
  register_alike (ports.Literal w v) own = absurd own

  -- A GROUP OF THE COMPONENT ITSELF
  module _ (g : ℕ) (less_group : g < length part.groups) (own_group : group_at (part_of flat) g ≡ moved_group f (group_at part g)) where
    abbrev list : List PlainAssign
    list = assigns_of i g

    own_target : (a : PlainAssign) → In list a → OwnTarget kids part a.target
    own_target a j = fair.0.targets.groups (group_at part g) a (in_groups part.groups g less_group) j

    list_moved : assigns_of flat g ≡ map (moved_assign f) list
    list_moved = ap (λ (x : PlainGroup). x.assigns) own_group

    -- the component cell that it drives
    record Callee (e : ℕ) (twin : Instance) : Type 0 where
      cell : ℕ
      less : cell < length part.cells
      none : kid_at kids cell ≡ None
      number : kept_at kids cell ≡ e
      child : Instance
      at : cell_at cells cell ≡ OfInstance child
      dynamic : is_static child ≡ false
      like : IsLike (part_of twin) (flat_part child)
      driven : some_target (is_port_of cell) list ≡ true

    callee : (e : ℕ) (k : Calls flat (assigns_of flat g) e) → Callee e k.child
    callee e k =
        let t = a_target (is_port_of e) (assigns_of flat g) k.driven in
        let r = image_in (moved_assign f) list t.0 (subst (λ l. In l t.0) list_moved t.1) in
        of_target r.0 r.1 r.0.target refl (own_target r.0 r.1) (ap (λ (x : PlainAssign). is_port_of e x.target) r.2 ∙ t.2)
      where
        of_cell : (a : PlainAssign) → In list a → (c p : ℕ) → a.target ≡ ports.Cell c p → c < length part.cells → kid_at kids c ≡ None → kept_at kids c ≡ e → Callee e k.child
        of_cell a j c p is inside none same = by (cell_at cells c) refl
          where
            stood : there c ≡ OfInstance k.child
            stood = ap (cell_at (cells_of flat)) same ∙ k.is_component

            by : (x : At) → cell_at cells c ≡ x → Callee e k.child
            by Nothing at = absurd (fair.0.counts c inside at)
            by (OfRow row) at = absurd (row_instance row k.child (sym (flat_row c row at) ∙ stood))
            by (OfInstance child) at = of_child (is_static child) refl
              where
                of_child : (b : Bool) → is_static child ≡ b → Callee e k.child
                of_child true static = absurd (let not_kept : None ≡ Some (flat_part child) = sym none ∙ kid-static cells c child at static in cc)
                of_child false dynamic =
                    let r = flat_twin c child at dynamic in
                    record {
                      cell = c;
                      less = inside;
                      none = none;
                      number = same;
                      child = child;
                      at = at;
                      dynamic = dynamic;
                      like = subst (λ x. IsLike (part_of x) (flat_part child)) (instance_is r.0 k.child (sym r.1 ∙ stood)) r.2;
                      driven = some_in (is_port_of c) list a j (ap (is_port_of c) is ∙ eq-eqb c c refl);
                    }

        of_target : (a : PlainAssign) → In list a → (q : PortRef) → a.target ≡ q → OwnTarget kids part q → is_port_of e (f q) ≡ true → Callee e k.child
        of_target a j (ports.Cell c p) is own port = of_cell a j c p is own.0 own.1 (eqb-true (kept_at kids c) e (sym (ap (is_port_of e) (own-kept kids part c p own.1)) ∙ port))
        of_target a j (ports.Input n) is own port = absurd own
        of_target a j (ports.Output n) is own port = absurd (cc)
        of_target a j (ports.Done h) is own port = absurd (cc)
        of_target a j (ports.Literal w v) is own port = absurd own

    module _ (e : ℕ) (twin : Instance) (k : Callee e twin) where
      abbrev c : ℕ
      c = k.cell

      abbrev child : Instance
      child = k.child

      abbrev old_calls : Calls i list c
      old_calls = record { child = child; is_component = k.at; dynamic = no_latency (part_of child).latency k.dynamic; driven = k.driven }

      -- its ports
      port_is : (p : ℕ) → f (ports.Cell c p) ≡ ports.Cell e p
      port_is p = own-kept kids part c p k.none ∙ ap (λ x. ports.Cell x p) k.number

      alone : (p : ℕ) → IsApart f (ports.Cell c p)
      alone p = cell_alone kids part c p k.less k.none

      inputs_same : (part_of twin).inputs ≡ (part_of child).inputs
      inputs_same = k.like.inputs ∙ flat-inputs child

      outputs_same : (part_of twin).outputs ≡ (part_of child).outputs
      outputs_same = k.like.outputs ∙ flat-outputs child

      done_is : done_port e twin ≡ f (done_port c child)
      done_is =
          ap (λ ins. ports.Cell e (suc (length ins + length (part_of twin).outputs))) inputs_same
          ∙ ap (λ outs. ports.Cell e (suc (length (part_of child).inputs + length outs))) outputs_same
          ∙ sym (port_is (suc (length (part_of child).inputs + length (part_of child).outputs)))

      ports_same : (p : ℕ) → part_port (part_of twin) p ≡ part_port (part_of child) p
      ports_same p = ports_like (part_of twin) (part_of child) inputs_same outputs_same p

      done_at : IsApart f (done_port c child)
      done_at = alone (suc (length (part_of child).inputs + length (part_of child).outputs))

      target_moved : (q : PortRef) → IsApart f q → with_target (f q) (map (moved_assign f) list) ≡ map (moved_assign f) (with_target q list)
      target_moved q apart = with_target-moved f (own_one kids part) Anywhere q (apart_alone f q apart) list (all_anywhere list)

      -- the go
      go_kept : has_right_go flat g e twin ≡ has_right_go i g c child
      go_kept =
          ap₂ (λ x l. is_right_go x (with_target (go_port e) l)) done_is list_moved
          ∙ ap (λ q. is_right_go (f (done_port c child)) (with_target q (map (moved_assign f) list))) (sym (port_is 0))
          ∙ ap (is_right_go (f (done_port c child))) (target_moved (go_port c) (alone 0))
          ∙ is_right_go-moved f (own_one kids part) Anywhere (done_port c child) (apart_alone f (done_port c child) done_at) (with_target (go_port c) list) (all_anywhere (with_target (go_port c) list))

      -- enables of registers
      enable_kept : (q : PortRef) → OwnTarget kids part q → has_right_enable flat g e twin (f q) ≡ has_right_enable i g c child q
      enable_kept (ports.Cell r p) own =
          let q = ports.Cell r p in
          ap₂ ◌&&◌ (register_alike q own)
          (ap₂ (λ x l. is_right_enable x (with_target (f q) l)) done_is list_moved
          ∙ ap (is_right_enable (f (done_port c child))) (target_moved q (cell_alone kids part r p own.0 own.1))
          ∙ is_right_enable-moved f (own_one kids part) Anywhere (done_port c child) (apart_alone f (done_port c child) done_at) (with_target q list) (all_anywhere (with_target q list)))
      enable_kept (ports.Input n) own = absurd own
      enable_kept (ports.Output n) own = refl
      enable_kept (ports.Done h) own = refl
      enable_kept (ports.Literal w v) own = absurd own

      -- the done
      abbrev Kept : ℕ → Type 0
      Kept r = (r < length part.cells) × (kid_at kids r ≡ None)

      wanted_moved : (done : PortRef) (rs : List ℕ) → ((r : ℕ) → In rs r → Kept r) → wanted_dones (f done) (map (kept_at kids) rs) ≡ map f (wanted_dones done rs)
      wanted_moved done [] each = refl
      wanted_moved done (r ∷ rs) each = ap₂ ◌∷◌ (sym (own-kept kids part r 3 (each r (inl refl)).1)) (rest rs (λ x j. each x (inr j)))
        where
          rest : (more : List ℕ) → ((x : ℕ) → In more x → Kept x) → map register_done (map (kept_at kids) more) ≡ map f (map register_done more)
          rest [] all = refl
          rest (x ∷ xs) all = ap₂ ◌∷◌ (sym (own-kept kids part x 3 (all x (inl refl)).1)) (rest xs (λ y j. all y (inr j)))

      wanted_alone : (done : PortRef) → IsApart f done → (rs : List ℕ) → ((r : ℕ) → In rs r → Kept r) → (w : PortRef) → In (wanted_dones done rs) w → IsApart f w
      wanted_alone done is [] each w (inl same) = subst (IsApart f) same is
      wanted_alone done is [] each w (inr j) = absurd j
      wanted_alone done is (r ∷ rs) each w j =
          let n = image_in register_done (r ∷ rs) w j in
          subst (IsApart f) n.2 (cell_alone kids part n.0 3 (each n.0 n.1).0 (each n.0 n.1).1)

      captured_kept : (r : ℕ) → In (captured part list) r → Kept r
      captured_kept r j = let h = captured_one kids part list own_target r j in (h.0, h.1)

      done_kept : has_right_done flat g e twin ≡ has_right_done i g c child
      done_kept =
          let done = done_port c child in
          let rs = captured part list in
          ap₂ (λ x l. is_right_done (wanted_dones x (captured (part_of flat) l)) (with_target (ports.Done g) l)) done_is list_moved
          ∙ ap (λ x. is_right_done (wanted_dones (f done) x) (with_target (ports.Done g) (map (moved_assign f) list))) (captured_moved kids part list own_target d (part_of flat) its_cells)
          ∙ ap₂ is_right_done (wanted_moved done rs captured_kept) (target_moved (ports.Done g) (done_alone kids part g))
          ∙ is_right_done-moved f (own_one kids part) Anywhere (wanted_dones done rs) (λ w j. apart_alone f w (wanted_alone done done_at rs captured_kept w j)) (with_target (ports.Done g) list) (all_anywhere (with_target (ports.Done g) list))

      -- inputs by outputs
      named : (p : ℕ) → IsNamed i (ports.Cell c p)
      named p = (k.less, λ other at static. absurd (let same = instance_is child other (sym k.at ∙ at) in let clash : false ≡ true = sym k.dynamic ∙ ap is_static same ∙ static in cc))

      fed_back : (p : ℕ) → IsFedBack flat g e twin p → IsFedBack i g c child p
      fed_back p ((n, input), (q, output, depends)) =
          ((n, sym (ports_same p) ∙ input), (q, out output, depends_back part cells flat flattened fair g own_group own_target c q k.less k.none (ports.Cell e p) (ports.Cell e q) (ports.Cell c p) (named p) (port_is p) (port_is q) depends))
        where
          out : IsOutputOrDone twin q → IsOutputOrDone child q
          out (inl (m, is)) = inl (m, sym (ports_same q) ∙ is)
          out (inr is) = inr (sym (ports_same q) ∙ is)

      -- A BROKEN CONDITION
      break_back : (q target : PortRef) → OwnTarget kids part q → f q ≡ target → CallBreak flat g e twin target → CallBreak i g c child q
      break_back q target own is (another_cell ((n, calls, differs), called)) =
          let o = callee n calls in
          another_cell ((o.cell, other_calls n calls.child o, (λ same. differs (sym o.number ∙ ap (kept_at kids) same ∙ k.number))), sym (part_alike q own) ∙ ap (is_part_port flat) is ∙ called)
        where
          other_calls : (n : ℕ) (other : Instance) → (o : Callee n other) → Calls i list o.cell
          other_calls n other o = record { child = o.child; is_component = o.at; dynamic = no_latency (part_of o.child).latency o.dynamic; driven = o.driven }
      break_back q target own is (wrong_go wrong) = subst (CallBreak i g c child) (sym (alone 0 q (is ∙ sym (port_is 0)))) (wrong_go (sym go_kept ∙ wrong))
      break_back q target own is (input_by_output p back) = subst (CallBreak i g c child) (sym (alone p q (is ∙ sym (port_is p)))) (input_by_output p (fed_back p back))
      break_back q target own is (wrong_enable enable wrong) =
          wrong_enable (sym (enable_alike q own) ∙ ap (is_primitive_enable flat) is ∙ enable) (sym (enable_kept q own) ∙ ap (has_right_enable flat g e twin) is ∙ wrong)
      break_back q target own is (wrong_done wrong) = subst (CallBreak i g c child) (sym (done_alone kids part g q is)) (wrong_done (sym done_kept ∙ wrong))

      -- a go or a done that is not driven
      ends_kept : (some_target (same_port (go_port e)) (assigns_of flat g) && some_target (is_hole_of g) (assigns_of flat g)) ≡ (some_target (same_port (go_port c)) list && some_target (is_hole_of g) list)
      ends_kept =
          ap₂ ◌&&◌
          (ap₂ (λ q l. some_target (same_port q) l) (sym (port_is 0)) list_moved ∙ some_target-moved f (same_port (go_port c)) (same_port (f (go_port c))) (apart_right f (go_port c) (alone 0)) list)
          (ap (some_target (is_hole_of g)) list_moved ∙ some_target-moved f (is_hole_of g) (is_hole_of g) (hole_stays kids part g) list)

-- IN THE TREE
plain_there : (i flat : Instance) (g : ℕ) → group_at (part_of flat) g ≡ moved_group (own_port (flat_kids (cells_of i)) (part_of i)) (group_at (part_of i) g)
    → is_plain (group_at (part_of flat) g).kind ≡ true → is_plain (group_at (part_of i) g).kind ≡ true
plain_there i flat g own_group plain = sym (ap (λ (x : PlainGroup). is_plain x.kind) own_group) ∙ plain

module _ (d : PlainDesign) where
  abbrev HasCells : Instance → Instance → Type 0
  HasCells i flat = (part_of flat).cells ≡ map (renumbered_cell d) (flat_part i).cells

  abbrev IsOwn : Instance → Instance → ℕ → Type 0
  IsOwn i flat g = (g < length (part_of i).groups) × (group_at (part_of flat) g ≡ moved_group (own_port (flat_kids (cells_of i)) (part_of i)) (group_at (part_of i) g))

  misshapen_back : (i flat : Instance) → IsFlattened i flat → AllFair i → HasCells i flat → (o : Owned) (m : IsMisshapen flat o) → IsOwn i flat m.group
      → (a : PlainAssign) → In (assigns_of i m.group) a → moved_assign (own_port (flat_kids (cells_of i)) (part_of i)) a ≡ o.assign → IsMisshapen i (record { owner = Some m.group; assign = a })
  misshapen_back (Node part cells) flat flattened fair has o m own a among is =
      let k = callee part cells flat flattened fair d has m.group own.0 own.1 m.cell m.calls in
      record {
        group = m.group;
        owner = refl;
        plain = plain_there (Node part cells) flat m.group own.1 m.plain;
        cell = k.cell;
        calls = old_calls part cells flat flattened fair d has m.group own.0 own.1 m.cell m.calls.child k;
        breaks = break_back part cells flat flattened fair d has m.group own.0 own.1 m.cell m.calls.child k a.target o.assign.target
            (own_target part cells flat flattened fair d has m.group own.0 own.1 a among) (ap (λ (x : PlainAssign). x.target) is) m.breaks;
      }

  -- what breaks the rule on groups
  abbrev LacksEnds : Instance → ℕ → Type 0
  LacksEnds i g = (c : ℕ) × Calls i (assigns_of i g) c × ((some_target (same_port (go_port c)) (assigns_of i g) && some_target (is_hole_of g) (assigns_of i g)) ≡ false)

  lacks_back : (i flat : Instance) → IsFlattened i flat → AllFair i → HasCells i flat → (g : ℕ) → IsOwn i flat g → LacksEnds flat g → LacksEnds i g
  lacks_back (Node part cells) flat flattened fair has g own (e, calls, bad) =
      let k = callee part cells flat flattened fair d has g own.0 own.1 e calls in
      (k.cell, old_calls part cells flat flattened fair d has g own.0 own.1 e calls.child k, sym (ends_kept part cells flat flattened fair d has g own.0 own.1 e calls.child k) ∙ bad)

module _ (d : PlainDesign) (design : IsDesign d) (accepted : IsAccepted d) (undone : NoneNamesDone d) (n : ℕ) (there : n < length (flat_design d).components) where
  m : IsMade d n
  m = made d design n there

  abbrev tree : Instance
  tree = component_of d m.old

  abbrev flat : Instance
  flat = component_of (flat_design d) n

  good : IsGood tree
  good = good_component d design accepted undone m.old m.less

  flat_is : part_of flat ≡ component_at (flat_design d) n
  flat_is = same_part (flat_design d) (length (flat_design d).components) n

  old_is : part_of tree ≡ component_at d m.old
  old_is = same_part d (length d.components) m.old

  has_cells : HasCells d tree flat
  has_cells = ap (λ (p : PlainComponent). p.cells) (flat_is ∙ m.part)

  group_same : (g : ℕ) → group_at (part_of flat) g ≡ group_at (flat_part tree) g
  group_same g = ap (λ p. group_at p g) (flat_is ∙ m.part)

  -- a plain group is one of the component
  plain_own : (g : ℕ) → g < length (flat_part tree).groups → is_plain (group_at (part_of flat) g).kind ≡ true → IsOwn d tree flat g
  plain_own g less plain =
      ⊎_elim
      (λ (h : OwnGroup tree g). (h.0, group_same g ∙ h.1))
      (λ (h : IsTimed (group_at (flat_part tree) g)). absurd (plain_untimed (group_at (flat_part tree) g).kind (sym (ap (λ (x : PlainGroup). is_plain x.kind) (group_same g)) ∙ plain) h))
      (own_or_timed tree good.rules good.has good.controlled g less)

  -- what stands at the cells of the flat component
  flat_kinds : AtKinds flat (flat_part tree).cells
  flat_kinds =
      let k = tree_kinds (flat_design d) (length (flat_design d).components) n (omega (arith, there)) in
      let cs = (flat_part tree).cells in (
        λ j. k.0 (reached_below d j),
        λ e. k.1 e ∙ ap (λ (p : PlainComponent). at_kind k.0 (kind_at p.cells e)) m.part ∙ sym (cell_for k.0 (map (renumbered_cell d) cs) e) ∙ renumbered_host d k.0 cs e,
      )

  -- OUTSIDE PLAIN GROUPS nothing drives a port of a component cell
  no_outside : (o : Owned) → In (source_order (component_at (flat_design d) n)) o → IsOutside flat o → ⊥
  no_outside o among outside =
      part_callee flat (flat_part tree).cells flat_kinds o.assign.target
      (⊎_elim
      (λ h. plain.always o.assign (subst (λ (p : PlainComponent). In p.always o.assign) m.part h.1))
      (λ (h : OfOne (component_at (flat_design d) n) o).
      plain.groups (group_at (flat_part tree) h.number) o.assign
      (subst (λ (p : PlainComponent). In p.groups (group_at p h.number)) m.part h.is_there)
      (sym (ap (λ (x : PlainGroup). is_plain x.kind) (group_same h.number)) ∙ not_plain h outside.1)
      (subst (λ (p : PlainComponent). In (group_at p h.number).assigns o.assign) m.part h.stands))
      (owner_of (component_at (flat_design d) n) o among))
      outside.0
    where
      plain : PlainCall (flat_part tree)
      plain = plain_calls d accepted m.old good.fair

      not_plain : (h : OfOne (component_at (flat_design d) n) o) → (o.owner ≡ None) ⊎ ((g : ℕ) × (o.owner ≡ Some g) × (is_plain (group_at (part_of flat) g).kind ≡ false)) → is_plain (group_at (part_of flat) h.number).kind ≡ false
      not_plain h (inl none) = absurd (let clash : None ≡ Some h.number = sym none ∙ h.owner in cc)
      not_plain h (inr (g, owner, other)) =
          let both : Some g ≡ Some h.number = sym owner ∙ h.owner in
          let same : g ≡ h.number = cc in
          subst (λ x. is_plain (group_at (part_of flat) x).kind ≡ false) same other

  -- no call has another form
  no_misshapen : (o : Owned) → In (source_order (component_at (flat_design d) n)) o → IsMisshapen flat o → ⊥
  no_misshapen o among bad =
      ⊎_elim
      (λ h. absurd (let clash : None ≡ Some bad.group = sym h.0 ∙ bad.owner in cc))
      (λ (h : OfOne (component_at (flat_design d) n) o).
      let both : Some h.number ≡ Some bad.group = sym h.owner ∙ bad.owner in
      let same : h.number ≡ bad.group = cc in
      of_group (subst (λ (p : PlainComponent). In (group_at p bad.group).assigns o.assign) m.part (subst (λ x. In (group_at (component_at (flat_design d) n) x).assigns o.assign) same h.stands)))
      (owner_of (component_at (flat_design d) n) o among)
    where
      of_group : In (group_at (flat_part tree) bad.group).assigns o.assign → ⊥
      of_group stands =
          let own = plain_own bad.group (assigned_less (flat_part tree).groups bad.group o.assign stands) bad.plain in
          let f = own_port (flat_kids (cells_of tree)) (part_of tree) in
          let r = image_in (moved_assign f) (assigns_of tree bad.group) o.assign (subst (λ (x : PlainGroup). In x.assigns o.assign) (sym (group_same bad.group) ∙ own.1) stands) in
          let w : Owned = record { owner = Some bad.group; assign = r.0 } in
          let at = number_in (source_order (component_at d m.old)) w (in_order (component_at d m.old) (Some bad.group) r.0
          (subst (λ (p : PlainComponent). bad.group < length p.groups) old_is own.0, subst (λ (p : PlainComponent). In (group_at p bad.group).assigns r.0) old_is r.1)) in
          accepted.shapes rules.CallShape (record { component = m.old; part = AnAssign at.0 }) r.0.place (path_of tree r.0.target) refl
          (inl (record {
            within = m.less;
            number = at.0;
            is = refl;
            assign = w;
            stands = at.1;
            breaks = (inr (misshapen_back d tree flat m.flattened good.fair has_cells o bad own r.0 r.1 r.2), (refl, refl));
          }))

  -- nor lacks a go or a done
  no_lack : (g : ℕ) → g < length (component_at (flat_design d) n).groups → is_plain (group_at (part_of flat) g).kind ≡ true → LacksEnds d flat g → ⊥
  no_lack g less plain lacks =
      let own = plain_own g (subst (λ (p : PlainComponent). g < length p.groups) m.part less) plain in
      accepted.shapes rules.CallShape (record { component = m.old; part = AGroup g }) (group_at (part_of tree) g).place (group_at (part_of tree) g).name refl
      (inr (inl (record {
        within = m.less;
        number = g;
        is = refl;
        stands = subst (λ (p : PlainComponent). g < length p.groups) old_is own.0;
        breaks = (plain_there tree flat g own.1 plain, lacks_back d tree flat m.flattened good.fair has_cells g own lacks, (refl, refl));
      })))

module _ (d : PlainDesign) (design : IsDesign d) (accepted : IsAccepted d) (undone : NoneNamesDone d) where
  -- RULE call-shape, of assignments and of groups
  pub keeps_calls : (spot : Spot) (place : Place) (name : List ℕ) → OnAssign BreaksCallShape (flat_design d) spot place name → ⊥
  keeps_calls spot place name b =
      let among = slice_in (source_order (component_at (flat_design d) spot.component)) b.number b.assign b.stands in
      let bad = b.breaks in
      ⊎_elim (no_outside d design accepted undone spot.component b.within b.assign among) (no_misshapen d design accepted undone spot.component b.within b.assign among) bad.0

  pub keeps_call_groups : (spot : Spot) (place : Place) (name : List ℕ) → OnGroup GroupBreaksCallShape (flat_design d) spot place name → ⊥
  keeps_call_groups spot place name b = let bad = b.breaks in no_lack d design accepted undone spot.component b.within b.number b.stands bad.0 bad.1
