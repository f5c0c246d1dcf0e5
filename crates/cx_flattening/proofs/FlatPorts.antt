-- PORTS OF A FLAT COMPONENT are there, in any host in which it stands: those that are driven and those that are looked at, of which none is a
-- hole, where each port of the tree is there.
use Rattle.std.proofs.Common.{◌≡◌, ℕ, zero, suc, ◌+◌, ◌-◌, ◌<◌, inl, inr, ⊎_elim, Bool, true, false, List, [], ◌∷◌, length, map, Option, Some, None, refl, sym, ap, ◌∙◌, subst, arith}
use Rattle.std.specs.Prelude.{flat_map}
use Rattle.cx_text.proofs.MemberLaws.{image_in, in_either}
use Rattle.cx_meaning.specs.declared.kinds.PortDecl.{PortDecl}
use Rattle.cx_meaning.specs.declared.ports.PortRef.{PortRef}
use Rattle.cx_meaning.specs.declared.ports.PortRef.TheVariants as ports
use Rattle.cx_meaning.specs.Designs.{PlainAssign, PlainGroup, PlainInvoke, PlainComponent}
use Rattle.cx_meaning.specs.Instances.{Instance, Node, Cells, At, Nothing, OfRow, OfInstance, part_of, cells_of, cell_at}
use Rattle.cx_meaning.specs.Control.{groups_of}
use Rattle.cx_text.specs.Members.{In}
use Rattle.cx_laws.proofs.TreeLemmas.{output_there}
use Rattle.cx_rules.specs.Footprints.{AssignNames}
use Rattle.cx_rules.specs.Wellformed.{port_count, IsThere}
use Rattle.cx_rewrites.specs.Moving.{moved_assign, moved_group}
use Rattle.cx_rewrites.proofs.ReflectLemmas.{names_back}
use Rattle.cx_flattening.specs.Events.{the_invoke, source_to}
use Rattle.cx_flattening.specs.Whole.{is_static}
use Rattle.cx_flattening.specs.Copies.{copied_group, copied_statement, enabled_groups}
use Rattle.cx_flattening.specs.Flattened.{Kids, kid_at, kept_at, start_of, wire_at, port_if, own_port, child_port, invoke_port, always_from, copies_if, copies, copy_of, inlined, flat_kids, flat_part}
use Rattle.cx_flattening.specs.Targets.{OwnTarget}
use Rattle.cx_flattening.specs.Embedded.{wire_row, HasWires, IsEmbedded, IsFlattened}
use Rattle.cx_flattening.specs.Fair.{IsFair, IsNamed}
use Rattle.cx_flattening.specs.Controlled.{IsControlled}
use Rattle.cx_flattening.proofs.MovedTwice.{assign_twice, assign_still}
use Rattle.cx_flattening.proofs.PortLemmas.{own-kept}
use Rattle.cx_flattening.proofs.Standing.{TwinAt, embedded_row, embedded_static, embedded_dynamic}
use Rattle.cx_flattening.proofs.LevelSights.{kid-row, kid-static, kid-dynamic, output_number, flat-inputs, flat-outputs}
use Rattle.cx_flattening.proofs.FlatBlocks.{IsAlways, kid_always}
use Rattle.cx_flattening.proofs.FlatSafe.{kid_from}
use Rattle.cx_flattening.proofs.FairParts.{in_invokes}
use Rattle.cx_flattening.proofs.FlatKeeps.{enabled_in}
use Rattle.cx_flattening.proofs.FlatTyped.{Allows, Calls, Every, embedded_child}
use Rattle.cx_flattening.proofs.TypedTests.{FormTests, Tests, tests_copied, tests_flat, captured}

-- A PORT OF A HOST that may be looked at, and one that may be driven
abbrev pub Look : Instance → PortRef → Type 0
Look host (ports.Cell c p) = p < port_count (cell_at (cells_of host) c)
Look host (ports.Input n) = n < length (part_of host).inputs
Look host (ports.Output n) = ⊥
Look host (ports.Done g) = ⊥
Look host (ports.Literal w v) = Unit {0}

abbrev pub Drive : Instance → PortRef → Type 0
Drive host (ports.Cell c p) = p < port_count (cell_at (cells_of host) c)
Drive host (ports.Input n) = ⊥
Drive host (ports.Output n) = n < length (part_of host).outputs
Drive host (ports.Done g) = Unit {0}
Drive host (ports.Literal w v) = ⊥

abbrev pub Fits : Instance → PlainAssign → Type 0
Fits host a = Drive host a.target × ((q : PortRef) → AssignNames a q → Look host q)

-- PORTS OF A COMPONENT with static children
abbrev pub OwnLook : Instance → (ℕ → Type 0) → PortRef → Type 0
OwnLook i inputs q = IsThere i q × IsNamed i q × Allows inputs q

abbrev pub OwnDrive : Instance → PortRef → Type 0
OwnDrive i q = IsThere i q × OwnTarget (flat_kids (cells_of i)) (part_of i) q

abbrev pub OwnFits : Instance → (ℕ → Type 0) → PlainAssign → Type 0
OwnFits i inputs a = OwnDrive i a.target × ((q : PortRef) → AssignNames a q → OwnLook i inputs q)

pub record IsBased (i : Instance) : Type 0 where
  pub always : (a : PlainAssign) → In (part_of i).always a → OwnFits i (Calls i) a
  pub groups : (x : PlainGroup) (a : PlainAssign) → In (part_of i).groups x → In x.assigns a → OwnFits i Every a
  pub binds : (v : PlainInvoke) (child : Instance) (n : ℕ) → In (part_of i).invokes v → cell_at (cells_of i) v.cell ≡ OfInstance child → n < length (part_of child).inputs → OwnLook i Every (source_to v.cell v.inputs n)
  pub tests : Tests (OwnLook i Every) (part_of i).control

two_ports : (w : ℕ) → port_count (OfRow (wire_row w)) ≡ 2
two_ports w = refl

wire_ports : (outputs : List PortDecl) (e n p : ℕ) (host : Cells) → HasWires outputs e host → n < length outputs → p < 2 → p < port_count (cell_at host (e + n))
wire_ports [] e n p host h less few = absurd (omega (arith, less))
wire_ports (o ∷ os) e zero p host h less few = subst (λ k. p < k) (sym (ap (λ k. port_count (cell_at host k)) (let z : e + 0 ≡ e = omega arith in z) ∙ ap port_count h.0 ∙ two_ports o.width)) few
wire_ports (o ∷ os) e (suc n) p host h less few = subst (λ k. p < port_count (cell_at host k)) (let z : suc e + n ≡ e + suc n = omega arith in z) (wire_ports os (suc e) n p host h.1 (omega (arith, less)) few)

module _ (host : Instance) where
  -- ports of a flat component, in the host
  pub record Moves (i : Instance) (first : ℕ) (inputs : ℕ → Type 0) (f : PortRef → PortRef) : Type 0 where
    pub cells : (e p : ℕ) → f (ports.Cell e p) ≡ ports.Cell (first + e) p
    pub literals : (w v : ℕ) → f (ports.Literal w v) ≡ ports.Literal w v
    pub given : (n : ℕ) → inputs n → n < length (part_of i).inputs → Look host (f (ports.Input n))
    pub outputs : (n : ℕ) → n < length (part_of i).outputs → Drive host (f (ports.Output n))
    pub holes : (g : ℕ) → f (ports.Done g) ≡ ports.Done g

  abbrev AlwaysGood : Instance → ℕ → Type 0
  AlwaysGood i first = (f : PortRef → PortRef) → Moves i first (Calls i) f → (a : PlainAssign) → In (flat_part i).always a → Fits host (moved_assign f a)

  abbrev GroupsGood : Instance → ℕ → Type 0
  GroupsGood i first = (f : PortRef → PortRef) → Moves i first Every f → (x : PlainGroup) (a : PlainAssign) → In (flat_part i).groups x → In x.assigns a → Fits host (moved_assign f a)

  abbrev TestsGood : Instance → ℕ → Type 0
  TestsGood i first = (f : PortRef → PortRef) → Moves i first Every f → Tests (λ p. Look host (f p)) (flat_part i).control

  pub record AllGoodAt (i : Instance) (first : ℕ) : Type 0 where
    pub always : AlwaysGood i first
    pub groups : GroupsGood i first
    pub tests : TestsGood i first

  module _ (part : PlainComponent) (cells : Cells) (fair : IsFair (Node part cells)) (based : IsBased (Node part cells)) (first : ℕ) (embedded : IsEmbedded (Node part cells) first (cells_of host)) where
    abbrev i : Instance
    i = Node part cells

    abbrev kids : Kids
    kids = flat_kids cells

    zero_plus : (a : ℕ) → 0 + a ≡ a
    zero_plus a = omega arith

    -- a cell that is kept has as many ports
    kept_alike : (c : ℕ) → c < length part.cells → kid_at kids c ≡ None → port_count (cell_at (cells_of host) (first + kept_at kids c)) ≡ port_count (cell_at cells c)
    kept_alike c less none = by (cell_at cells c) refl
      where
        of_child : (child : Instance) → cell_at cells c ≡ OfInstance child → (b : Bool) → is_static child ≡ b → port_count (cell_at (cells_of host) (first + kept_at kids c)) ≡ port_count (cell_at cells c)
        of_child child at true static = absurd (let clash : ◌≡◌ {A = Option PlainComponent} None (Some (flat_part child)) = sym none ∙ kid-static cells c child at static in cc)
        of_child child at false dynamic =
            let r = subst (TwinAt kids part first (cells_of host) child) (zero_plus c) (embedded_dynamic kids part first (cells_of host) cells 0 c child embedded at dynamic) in
            ap port_count r.1 ∙ ap (λ l. 2 + length l + length (part_of r.0).outputs) (r.2.inputs ∙ flat-inputs child) ∙ ap (λ l. 2 + length (part_of child).inputs + length l) (r.2.outputs ∙ flat-outputs child) ∙ sym (ap port_count at)

        by : (x : At) → cell_at cells c ≡ x → port_count (cell_at (cells_of host) (first + kept_at kids c)) ≡ port_count (cell_at cells c)
        by Nothing at = absurd (fair.counts c less at)
        by (OfRow row) at =
            ap (λ k. port_count (cell_at (cells_of host) (first + kept_at kids k))) (sym (zero_plus c)) ∙ ap port_count (embedded_row kids part first (cells_of host) cells 0 c row embedded at) ∙ sym (ap port_count at)
        by (OfInstance child) at = of_child child at (is_static child) refl

    -- the wires of a static child
    wires : (c n p : ℕ) (child : Instance) → cell_at cells c ≡ OfInstance child → is_static child ≡ true → n < length (part_of child).outputs → p < 2 → p < port_count (cell_at (cells_of host) (first + wire_at kids part (flat_part child) c n))
    wires c n p child at static less few =
        subst (λ k. p < port_count (cell_at (cells_of host) k)) (let z : first + wire_at kids part (flat_part child) c 0 + n ≡ first + wire_at kids part (flat_part child) c n = omega arith in z)
        (wire_ports (part_of child).outputs (first + wire_at kids part (flat_part child) c 0) n p (cells_of host)
        (subst (λ k. IsEmbedded child (first + start_of kids part k) (cells_of host) × HasWires (part_of child).outputs (first + wire_at kids part (flat_part child) k 0) (cells_of host)) (zero_plus c)
        (embedded_static kids part first (cells_of host) cells 0 c child embedded at static)).1
        less few)

    module _ (inputs : ℕ → Type 0) (f : PortRef → PortRef) (moves : Moves i first inputs f) where
      kept_there : (c p : ℕ) → c < length part.cells → kid_at kids c ≡ None → p < port_count (cell_at cells c) → (f (own_port kids part (ports.Cell c p)) ≡ ports.Cell (first + kept_at kids c) p) × (p < port_count (cell_at (cells_of host) (first + kept_at kids c)))
      kept_there c p less none there =
          (ap f (own-kept kids part c p none) ∙ moves.cells (kept_at kids c) p, subst (λ k. p < k) (sym (kept_alike c less none)) there)

      -- WHAT IS LOOKED AT
      own_look : (q : PortRef) → OwnLook i inputs q → Look host (f (own_port kids part q))
      own_look (ports.Cell c p) s = by (cell_at cells c) refl
        where
          stays : kid_at kids c ≡ None → Look host (f (own_port kids part (ports.Cell c p)))
          stays none = let r = kept_there c p s.0.0 none s.0.1 in subst (Look host) (sym r.0) r.1

          of_child : (child : Instance) → cell_at cells c ≡ OfInstance child → (b : Bool) → is_static child ≡ b → Look host (f (own_port kids part (ports.Cell c p)))
          of_child child at false dynamic = stays (kid-dynamic cells c child at dynamic)
          of_child child at true static =
              let o = s.1.1 child at static in
              let number : p - 1 - length (flat_part child).inputs ≡ o.0 = ap (λ l. p - 1 - length l) (flat-inputs child) ∙ output_number (part_of child) p o.0 o.1 in
              subst (Look host)
              (sym (ap (λ k. f (port_if kids part k c p)) (kid-static cells c child at static) ∙ ap (λ n. f (ports.Cell (wire_at kids part (flat_part child) c n) 1)) number ∙ moves.cells (wire_at kids part (flat_part child) c o.0) 1))
              (wires c o.0 1 child at static (output_there (part_of child) p o.0 o.1) (omega arith))

          by : (x : At) → cell_at cells c ≡ x → Look host (f (own_port kids part (ports.Cell c p)))
          by Nothing at = absurd (fair.counts c s.0.0 at)
          by (OfRow row) at = stays (kid-row cells c row at)
          by (OfInstance child) at = of_child child at (is_static child) refl
      own_look (ports.Input n) s = moves.given n s.2 s.0
      own_look (ports.Output n) s = absurd s.1
      own_look (ports.Done g) s = absurd s.1
      own_look (ports.Literal x v) s = subst (Look host) (sym (moves.literals x v)) tt

      -- WHAT IS DRIVEN
      own_drive : (q : PortRef) → OwnDrive i q → Drive host (f (own_port kids part q))
      own_drive (ports.Cell c p) t = let r = kept_there c p t.1.0 t.1.1 t.0.1 in subst (Drive host) (sym r.0) r.1
      own_drive (ports.Input n) t = absurd t.1
      own_drive (ports.Output n) t = moves.outputs n t.0
      own_drive (ports.Done g) t = subst (Drive host) (sym (moves.holes g)) tt
      own_drive (ports.Literal x v) t = absurd t.1

      -- an assignment of the component itself
      own_good : (a : PlainAssign) → OwnFits i inputs a → Fits host (moved_assign f (moved_assign (own_port kids part) a))
      own_good a h =
          subst (Fits host) (sym (assign_twice f (own_port kids part) a))
          (own_drive a.target h.0, λ q names. let r = names_back (λ x. f (own_port kids part x)) a q names in subst (Look host) r.1 (own_look r.0 (h.1 r.0 r.2)))

      -- a static child's ports
      below_moves : (c : ℕ) (child : Instance) → cell_at cells c ≡ OfInstance child → is_static child ≡ true → (asked : ℕ → Type 0) (sources : ℕ → PortRef)
          → ((n : ℕ) → asked n → n < length (part_of child).inputs → Look host (f (sources n)))
          → Moves child (first + start_of kids part c) asked (λ q. f (child_port kids part (flat_part child) c sources q))
      below_moves c child at static asked sources given = record {
        cells = λ e p. moves.cells (start_of kids part c + e) p ∙ ap (λ k. ports.Cell k p) (let z : first + (start_of kids part c + e) ≡ first + start_of kids part c + e = omega arith in z);
        literals = moves.literals;
        given = given;
        outputs = λ n less. subst (Drive host) (sym (moves.cells (wire_at kids part (flat_part child) c n) 0)) (wires c n 0 child at static less (omega arith));
        holes = moves.holes;
      }

    -- THE FLAT COMPONENT
    module _ (controlled : IsControlled (Node part cells)) (below : (c : ℕ) (child : Instance) → cell_at cells c ≡ OfInstance child → is_static child ≡ true → AllGoodAt child (first + start_of kids part c)) where
      always_good : AlwaysGood i first
      always_good f moves a j =
          ⊎_elim
          (λ m. let r = image_in (moved_assign (own_port kids part)) part.always a m in subst (λ x. Fits host (moved_assign f x)) r.2 (own_good (Calls i) f moves r.0 (based.always r.0 r.1)))
          (λ m. of_kid (kid_always kids part 0 kids a m))
          (in_either (map (moved_assign (own_port kids part)) part.always) (always_from kids part 0 kids) a j)
        where
          of_kid : IsAlways kids part 0 kids a → Fits host (moved_assign f a)
          of_kid h =
              let k = kid_from cells h.cell h.child h.its in
              let among : In (flat_part k.0).always h.assign = subst (λ (x : PlainComponent). In x.always h.assign) (sym k.3) h.among in
              let inner = (below h.cell k.0 k.1 k.2).always (λ q. f (child_port kids part (flat_part k.0) h.cell (λ n. ports.Input n) q))
              (below_moves (Calls i) f moves h.cell k.0 k.1 k.2 (Calls k.0) (λ n. ports.Input n) (λ n dynamic less. absurd (let clash : true ≡ false = sym k.2 ∙ dynamic in cc))) h.assign among in
              subst (λ x. Fits host (moved_assign f x)) h.is
              (subst (Fits host) (sym (assign_twice f (child_port kids part h.child (0 + h.cell) (λ n. ports.Input n)) h.assign))
              (subst (λ c. Fits host (moved_assign (λ q. f (child_port kids part h.child c (λ n. ports.Input n) q)) h.assign)) (sym (zero_plus h.cell))
              (subst (λ x. Fits host (moved_assign (λ q. f (child_port kids part x h.cell (λ n. ports.Input n) q)) h.assign)) k.3 inner)))

      group_good : (f : PortRef → PortRef) (list : List PlainAssign) (g : PortRef → PortRef) → ((a : PlainAssign) → In list a → Fits host (moved_assign f (moved_assign g a))) → (a : PlainAssign) → In (map (moved_assign g) list) a → Fits host (moved_assign f a)
      group_good f list g each a j = let r = image_in (moved_assign g) list a j in subst (λ x. Fits host (moved_assign f x)) r.2 (each r.0 r.1)

      -- the ports of a copy for an invoke
      invoke_moves : (f : PortRef → PortRef) → Moves i first Every f → (v : PlainInvoke) → In part.invokes v → (child : Instance) (at : cell_at cells v.cell ≡ OfInstance child) (static : is_static child ≡ true)
          → Moves child (first + start_of kids part v.cell) Every (λ q. f (invoke_port kids part (flat_part child) v q))
      invoke_moves f moves v here child at static =
          below_moves Every f moves v.cell child at static Every (λ n. own_port kids part (source_to v.cell v.inputs n)) (λ n asked less. own_look Every f moves (source_to v.cell v.inputs n) (based.binds v child n here at less))

      copies_good : (f : PortRef → PortRef) → Moves i first Every f → (v : PlainInvoke) → In part.invokes v → (k : Option PlainComponent) → kid_at kids v.cell ≡ k → (x : PlainGroup) (a : PlainAssign) → In (copies_if kids part k v) x → In x.assigns a → Fits host (moved_assign f a)
      copies_good f moves v here None its x a j m = absurd j
      copies_good f moves v here (Some kid) its x a j m =
          let r = image_in (copied_group (invoke_port kids part kid v)) (enabled_groups (groups_of kid.control) 0 kid.groups) x j in
          let k = kid_from cells v.cell kid its in
          subst (λ (y : PlainGroup). (b : PlainAssign) → In y.assigns b → Fits host (moved_assign f b)) r.2
          (group_good f r.0.assigns (invoke_port kids part kid v)
          (λ b l.
          subst (Fits host) (sym (assign_twice f (invoke_port kids part kid v) b))
          (subst (λ y. Fits host (moved_assign (λ q. f (invoke_port kids part y v q)) b)) k.3
          ((below v.cell k.0 k.1 k.2).groups (λ q. f (invoke_port kids part (flat_part k.0) v q)) (invoke_moves f moves v here k.0 k.1 k.2)
          r.0 b (subst (λ (y : PlainComponent). In y.groups r.0) (sym k.3) (enabled_in (groups_of kid.control) 0 kid.groups r.0 r.1)) l)))) a m

      groups_good : GroupsGood i first
      groups_good f moves x a j m =
          ⊎_elim
          (λ k.
          let r = image_in (moved_group (own_port kids part)) part.groups x k in
          subst (λ (y : PlainGroup). (b : PlainAssign) → In y.assigns b → Fits host (moved_assign f b)) r.2
          (group_good f r.0.assigns (own_port kids part) (λ b l. own_good Every f moves b (based.groups r.0 b r.1 l))) a m)
          (λ k. let r = copied_of part.invokes x k in copies_good f moves r.0 r.1 (kid_at kids r.0.cell) refl x a r.2 m)
          (in_either (map (moved_group (own_port kids part)) part.groups) (flat_map (copies kids part) part.invokes) x j)
        where
          copied_of : (vs : List PlainInvoke) (y : PlainGroup) → In (flat_map (copies kids part) vs) y → (v : PlainInvoke) × In vs v × In (copies kids part v) y
          copied_of [] y l = absurd l
          copied_of (v ∷ vs) y l =
              ⊎_elim (λ n. (v, inl refl, n)) (λ n. let r = copied_of vs y n in (r.0, inr r.1, r.2)) (in_either (copies kids part v) (flat_map (copies kids part) vs) y l)

      tests_good : TestsGood i first
      tests_good f moves =
          tests_flat (λ p. Look host (f p)) (OwnLook i Every) kids part (own_look Every f moves) (λ k less. of_kid k less (kid_at kids (the_invoke part k).cell) refl) part.control controlled.timed based.tests
        where
          of_kid : (k : ℕ) → k < length part.invokes → (kid : Option PlainComponent) → kid_at kids (the_invoke part k).cell ≡ kid → FormTests (λ p. Look host (f p)) (inlined kids part kid k (the_invoke part k))
          of_kid k less None its = tt
          of_kid k less (Some kid) its =
              let v = the_invoke part k in
              let r = kid_from cells v.cell kid its in
              captured (λ p. Look host (f p)) v.captures (copied_statement (invoke_port kids part kid v) (copy_of kids part kid k) kid.control)
              (tests_copied (λ p. Look host (f p)) (invoke_port kids part kid v) (copy_of kids part kid k) kid.control
              (subst (λ y. Tests (λ p. Look host (f (invoke_port kids part y v p))) y.control) r.3
              ((below v.cell r.0 r.1 r.2).tests (λ q. f (invoke_port kids part (flat_part r.0) v q)) (invoke_moves f moves v (in_invokes part.invokes k less) r.0 r.1 r.2))))

-- WHEREVER IT STANDS
abbrev pub FitsAll : Instance → Type 0
FitsAll i = (host : Instance) (first : ℕ) → IsEmbedded i first (cells_of host) → AllGoodAt host i first

pub part_fits : (part : PlainComponent) (cells : Cells) → IsFair (Node part cells) → IsControlled (Node part cells) → IsBased (Node part cells)
    → ((c : ℕ) (child : Instance) → cell_at cells c ≡ OfInstance child → is_static child ≡ true → FitsAll child) → FitsAll (Node part cells)
part_fits part cells fair controlled based below host first embedded = record {
  always = always_good host part cells fair based first embedded controlled inner;
  groups = groups_good host part cells fair based first embedded controlled inner;
  tests = tests_good host part cells fair based first embedded controlled inner;
}
  where
    inner : (c : ℕ) (child : Instance) → cell_at cells c ≡ OfInstance child → is_static child ≡ true → AllGoodAt host child (first + start_of (flat_kids cells) part c)
    inner c child at static = below c child at static host (first + start_of (flat_kids cells) part c) (embedded_child host part cells first c child embedded at static)

-- IN THE FLAT INSTANCE
module _ (i flat : Instance) (flattened : IsFlattened i flat) (fits : FitsAll i) where
  top : (inputs : ℕ → Type 0) → Moves flat i 0 inputs (λ q. q)
  top inputs = record {
    cells = λ e p. ap (λ k. ports.Cell k p) (let z : e ≡ 0 + e = omega arith in z);
    literals = λ w v. refl;
    given = λ n asked less. subst (λ l. n < length l) (sym (flattened.0.inputs ∙ flat-inputs i)) less;
    outputs = λ n less. subst (λ l. n < length l) (sym (flattened.0.outputs ∙ flat-outputs i)) less;
    holes = λ g. refl;
  }

  pub flat_always_fit : (a : PlainAssign) → In (flat_part i).always a → Fits flat a
  flat_always_fit a j = subst (Fits flat) (assign_still a) ((fits flat 0 flattened.1).always (λ q. q) (top (Calls i)) a j)

  pub flat_groups_fit : (x : PlainGroup) (a : PlainAssign) → In (flat_part i).groups x → In x.assigns a → Fits flat a
  flat_groups_fit x a j m = subst (Fits flat) (assign_still a) ((fits flat 0 flattened.1).groups (λ q. q) (top Every) x a j m)

  pub flat_tests_fit : Tests (Look flat) (flat_part i).control
  flat_tests_fit = (fits flat 0 flattened.1).tests (λ q. q) (top Every)
