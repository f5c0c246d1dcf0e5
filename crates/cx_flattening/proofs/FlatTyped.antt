-- TYPED IN THE FLAT COMPONENT: where each assignment of a tree is typed, and each source of an invoke as wide as its input, so is each of
-- the flat component, in any host in which it stands.
use Rattle.std.proofs.Common.{◌≡◌, ℕ, zero, suc, ◌+◌, ◌-◌, ◌<◌, inl, inr, ⊎_elim, Bool, true, false, List, [], ◌∷◌, length, map, Option, Some, None, refl, sym, ap, ◌∙◌, subst, arith}
use Rattle.std.specs.Prelude.{flat_map, not}
use Rattle.cx_text.proofs.MemberLaws.{image_in, in_either}
use Rattle.cx_text.specs.Members.{In}
use Rattle.cx_meaning.specs.declared.kinds.PortDecl.{PortDecl}
use Rattle.cx_meaning.specs.declared.ports.PortRef.{PortRef}
use Rattle.cx_meaning.specs.declared.ports.PortRef.TheVariants as ports
use Rattle.cx_meaning.specs.Designs.{PlainAssign, PlainGroup, PlainInvoke, PlainComponent}
use Rattle.cx_meaning.specs.Instances.{Instance, Node, Cells, no_cells, a_primitive, an_instance, At, Nothing, OfRow, OfInstance, part_of, cells_of, cell_at}
use Rattle.cx_meaning.specs.Control.{groups_of}
use Rattle.cx_meaning.specs.Sights.{PartPort, Go, AnInput, AnOutput, ItsDone, part_port}
use Rattle.cx_rules.specs.Ports.{declared_width, part_width, cell_width, is_part_output, is_cell_output}
use Rattle.cx_rewrites.specs.Moving.{moved_assign, moved_group}
use Rattle.cx_flattening.specs.Events.{source_to}
use Rattle.cx_flattening.specs.Whole.{is_static}
use Rattle.cx_flattening.specs.Copies.{copied_group, enabled_groups}
use Rattle.cx_flattening.specs.Flattened.{Kids, kid_at, kept_at, start_of, wire_at, port_if, own_port, child_port, invoke_port, always_from, copies_if, copies, flat_kids, flat_part}
use Rattle.cx_flattening.specs.Targets.{OwnTarget}
use Rattle.cx_flattening.specs.Embedded.{wire_row, HasWires, IsEmbedded, IsFlattened}
use Rattle.cx_flattening.specs.Fair.{IsFair, IsNamed, AllFair}
use Rattle.cx_flattening.proofs.MovedTwice.{assign_twice, assign_still}
use Rattle.cx_flattening.proofs.PortLemmas.{own-kept}
use Rattle.cx_flattening.proofs.Standing.{TwinAt, embedded_row, embedded_static, embedded_dynamic}
use Rattle.cx_flattening.proofs.LevelSights.{kid-row, kid-static, kid-dynamic, output_number, flat-inputs, flat-outputs}
use Rattle.cx_flattening.proofs.FlatOutputs.{ports_like}
use Rattle.cx_flattening.proofs.FlatBlocks.{IsAlways, kid_always}
use Rattle.cx_flattening.proofs.FlatSafe.{kid_from}
use Rattle.cx_flattening.proofs.FlatDeeper.{fair_child}
use Rattle.cx_flattening.proofs.FlatKeeps.{enabled_in}
use Rattle.cx_flattening.proofs.Typed.{Typed, typed_moved, Source, Target}

-- inputs that may be looked at
abbrev pub Allows : (ℕ → Type 0) → PortRef → Type 0
Allows inputs (ports.Cell c p) = Unit {0}
Allows inputs (ports.Input n) = inputs n
Allows inputs (ports.Output n) = Unit {0}
Allows inputs (ports.Done g) = Unit {0}
Allows inputs (ports.Literal w v) = Unit {0}

abbrev pub OwnSource : Instance → (ℕ → Type 0) → ℕ → PortRef → Type 0
OwnSource i inputs w q = Source i w q × IsNamed i q × Allows inputs q

abbrev pub OwnTargets : Instance → ℕ → PortRef → Type 0
OwnTargets i w q = Target i w q × OwnTarget (flat_kids (cells_of i)) (part_of i) q

-- no continuous assignment of a static component looks at an input
abbrev pub Calls : Instance → ℕ → Type 0
Calls i n = is_static i ≡ false

abbrev pub Every : ℕ → Type 0
Every n = Unit {0}

-- A COMPONENT whose assignments are typed
pub record IsTyped (i : Instance) : Type 0 where
  pub always : (a : PlainAssign) → In (part_of i).always a → Typed (OwnSource i (Calls i)) (OwnTargets i) a
  pub groups : (x : PlainGroup) (a : PlainAssign) → In (part_of i).groups x → In x.assigns a → Typed (OwnSource i Every) (OwnTargets i) a
  pub binds : (v : PlainInvoke) (child : Instance) (n w : ℕ) → In (part_of i).invokes v → cell_at (cells_of i) v.cell ≡ OfInstance child → declared_width (part_of child).inputs n ≡ Some w
      → OwnSource i Every w (source_to v.cell v.inputs n)

abbrev mutual
  pub AllTyped : Instance → Type 0
  AllTyped (Node part cells) = IsTyped (Node part cells) × TypedBelow cells

  pub TypedBelow : Cells → Type 0
  TypedBelow no_cells = Unit {0}
  TypedBelow (a_primitive row rest) = TypedBelow rest
  TypedBelow (an_instance child rest) = AllTyped child × TypedBelow rest

wire_width : (outputs : List PortDecl) (e n w : ℕ) (host : Cells) → HasWires outputs e host → declared_width outputs n ≡ Some w → cell_at host (e + n) ≡ OfRow (wire_row w)
wire_width [] e n w host h is = absurd (let clash : ◌≡◌ {A = Option ℕ} None (Some w) = is in cc)
wire_width (o ∷ os) e zero w host h is = ap (cell_at host) (let z : e + 0 ≡ e = omega arith in z) ∙ h.0 ∙ ap (λ k. OfRow (wire_row k)) (let same : o.width ≡ w = cc in same)
wire_width (o ∷ os) e (suc n) w host h is = ap (cell_at host) (let z : e + suc n ≡ suc e + n = omega arith in z) ∙ wire_width os (suc e) n w host h.1 is

like_width : (a b : PlainComponent) → a.inputs ≡ b.inputs → a.outputs ≡ b.outputs → (x : PartPort) → part_width a x ≡ part_width b x
like_width a b inputs outputs Go = refl
like_width a b inputs outputs (AnInput n) = ap (λ l. declared_width l n) inputs
like_width a b inputs outputs (AnOutput n) = ap (λ l. declared_width l n) outputs
like_width a b inputs outputs ItsDone = refl

module _ (host : Instance) where
  -- ports of a flat component, in the host
  pub record Moves (i : Instance) (first : ℕ) (inputs : ℕ → Type 0) (f : PortRef → PortRef) : Type 0 where
    pub cells : (e p : ℕ) → f (ports.Cell e p) ≡ ports.Cell (first + e) p
    pub literals : (w v : ℕ) → f (ports.Literal w v) ≡ ports.Literal w v
    pub given : (n w : ℕ) → inputs n → declared_width (part_of i).inputs n ≡ Some w → Source host w (f (ports.Input n))
    pub outputs : (n w : ℕ) → declared_width (part_of i).outputs n ≡ Some w → Target host w (f (ports.Output n))
    pub holes : (g : ℕ) → f (ports.Done g) ≡ ports.Done g

  abbrev Good : PlainAssign → Type 0
  Good = Typed (Source host) (Target host)

  abbrev AlwaysGood : Instance → ℕ → Type 0
  AlwaysGood i first = (f : PortRef → PortRef) → Moves i first (Calls i) f → (a : PlainAssign) → In (flat_part i).always a → Good (moved_assign f a)

  abbrev GroupsGood : Instance → ℕ → Type 0
  GroupsGood i first = (f : PortRef → PortRef) → Moves i first Every f → (x : PlainGroup) (a : PlainAssign) → In (flat_part i).groups x → In x.assigns a → Good (moved_assign f a)

  abbrev AllGoodAt : Instance → ℕ → Type 0
  AllGoodAt i first = AlwaysGood i first × GroupsGood i first

  module _ (part : PlainComponent) (cells : Cells) (fair : IsFair (Node part cells)) (typed : IsTyped (Node part cells)) (first : ℕ) (embedded : IsEmbedded (Node part cells) first (cells_of host)) where
    abbrev i : Instance
    i = Node part cells

    abbrev kids : Kids
    kids = flat_kids cells

    zero_plus : (a : ℕ) → 0 + a ≡ a
    zero_plus a = omega arith

    abbrev AreAlike : ℕ → ℕ → Type 0
    AreAlike c p = (cell_width (cell_at (cells_of host) (first + kept_at kids c)) p ≡ cell_width (cell_at cells c) p) × (is_cell_output (cell_at (cells_of host) (first + kept_at kids c)) p ≡ is_cell_output (cell_at cells c) p)

    -- a cell that is kept
    kept_alike : (c p : ℕ) → c < length part.cells → kid_at kids c ≡ None → AreAlike c p
    kept_alike c p less none = by (cell_at cells c) refl
      where
        same : (x : At) → cell_at (cells_of host) (first + kept_at kids c) ≡ x → (cell_width x p ≡ cell_width (cell_at cells c) p) × (is_cell_output x p ≡ is_cell_output (cell_at cells c) p) → AreAlike c p
        same x is h = (ap (λ y. cell_width y p) is ∙ h.0, ap (λ y. is_cell_output y p) is ∙ h.1)

        of_child : (child : Instance) → cell_at cells c ≡ OfInstance child → (b : Bool) → is_static child ≡ b → AreAlike c p
        of_child child at true static = absurd (let clash : ◌≡◌ {A = Option PlainComponent} None (Some (flat_part child)) = sym none ∙ kid-static cells c child at static in cc)
        of_child child at false dynamic =
            let r = subst (TwinAt kids part first (cells_of host) child) (zero_plus c) (embedded_dynamic kids part first (cells_of host) cells 0 c child embedded at dynamic) in
            let ins = r.2.inputs ∙ flat-inputs child in
            let outs = r.2.outputs ∙ flat-outputs child in
            same (OfInstance r.0) r.1 (
              ap (part_width (part_of r.0)) (ports_like (part_of r.0) (part_of child) ins outs p) ∙ like_width (part_of r.0) (part_of child) ins outs (part_port (part_of child) p) ∙ ap (λ y. cell_width y p) (sym at),
              ap is_part_output (ports_like (part_of r.0) (part_of child) ins outs p) ∙ ap (λ y. is_cell_output y p) (sym at),
            )

        by : (x : At) → cell_at cells c ≡ x → AreAlike c p
        by Nothing at = absurd (fair.counts c less at)
        by (OfRow row) at =
            same (OfRow row) (ap (λ k. cell_at (cells_of host) (first + kept_at kids k)) (sym (zero_plus c)) ∙ embedded_row kids part first (cells_of host) cells 0 c row embedded at)
            (ap (λ y. cell_width y p) (sym at), ap (λ y. is_cell_output y p) (sym at))
        by (OfInstance child) at = of_child child at (is_static child) refl

    -- the wires of a static child
    wires : (c : ℕ) (child : Instance) → cell_at cells c ≡ OfInstance child → is_static child ≡ true → HasWires (part_of child).outputs (first + wire_at kids part (flat_part child) c 0) (cells_of host)
    wires c child at static =
        (subst (λ k. IsEmbedded child (first + start_of kids part k) (cells_of host) × HasWires (part_of child).outputs (first + wire_at kids part (flat_part child) k 0) (cells_of host)) (zero_plus c)
        (embedded_static kids part first (cells_of host) cells 0 c child embedded at static)).1

    wire_is : (c n w : ℕ) (child : Instance) → cell_at cells c ≡ OfInstance child → is_static child ≡ true → declared_width (part_of child).outputs n ≡ Some w → cell_at (cells_of host) (first + wire_at kids part (flat_part child) c n) ≡ OfRow (wire_row w)
    wire_is c n w child at static is =
        ap (cell_at (cells_of host)) (let z : first + wire_at kids part (flat_part child) c n ≡ first + wire_at kids part (flat_part child) c 0 + n = omega arith in z)
        ∙ wire_width (part_of child).outputs (first + wire_at kids part (flat_part child) c 0) n w (cells_of host) (wires c child at static) is

    module _ (inputs : ℕ → Type 0) (f : PortRef → PortRef) (moves : Moves i first inputs f) where
      kept_source : (c p w : ℕ) → c < length part.cells → kid_at kids c ≡ None → Source i w (ports.Cell c p) → Source host w (f (own_port kids part (ports.Cell c p)))
      kept_source c p w less none s =
          let a = kept_alike c p less none in
          subst (Source host w) (sym (ap f (own-kept kids part c p none) ∙ moves.cells (kept_at kids c) p)) (a.0 ∙ s.0, ap not a.1 ∙ s.1)

      -- SOURCES
      pub own_source : (w : ℕ) (q : PortRef) → OwnSource i inputs w q → Source host w (f (own_port kids part q))
      own_source w (ports.Cell c p) s = by (cell_at cells c) refl
        where
          of_child : (child : Instance) → cell_at cells c ≡ OfInstance child → (b : Bool) → is_static child ≡ b → Source host w (f (own_port kids part (ports.Cell c p)))
          of_child child at false dynamic = kept_source c p w s.1.0 (kid-dynamic cells c child at dynamic) s.0
          of_child child at true static =
              let o = s.1.1 child at static in
              let width : declared_width (part_of child).outputs o.0 ≡ Some w = ap (part_width (part_of child)) (sym o.1) ∙ ap (λ x. cell_width x p) (sym at) ∙ s.0.0 in
              let wire = wire_is c o.0 w child at static width in
              let number : p - 1 - length (flat_part child).inputs ≡ o.0 = ap (λ l. p - 1 - length l) (flat-inputs child) ∙ output_number (part_of child) p o.0 o.1 in
              subst (Source host w)
              (sym (ap (λ k. f (port_if kids part k c p)) (kid-static cells c child at static) ∙ ap (λ n. f (ports.Cell (wire_at kids part (flat_part child) c n) 1)) number ∙ moves.cells (wire_at kids part (flat_part child) c o.0) 1))
              (ap (λ x. cell_width x 1) wire, ap (λ x. not (is_cell_output x 1)) wire)

          by : (x : At) → cell_at cells c ≡ x → Source host w (f (own_port kids part (ports.Cell c p)))
          by Nothing at = absurd (fair.counts c s.1.0 at)
          by (OfRow row) at = kept_source c p w s.1.0 (kid-row cells c row at) s.0
          by (OfInstance child) at = of_child child at (is_static child) refl
      own_source w (ports.Input n) s = moves.given n w s.2 s.0.0
      own_source w (ports.Output n) s = absurd s.1
      own_source w (ports.Done g) s = absurd s.1
      own_source w (ports.Literal x v) s = subst (Source host w) (sym (moves.literals x v)) s.0

      -- TARGETS
      own_target : (w : ℕ) (q : PortRef) → OwnTargets i w q → Target host w (f (own_port kids part q))
      own_target w (ports.Cell c p) t =
          let a = kept_alike c p t.1.0 t.1.1 in
          subst (Target host w) (sym (ap f (own-kept kids part c p t.1.1) ∙ moves.cells (kept_at kids c) p)) (a.0 ∙ t.0.0, a.1 ∙ t.0.1)
      own_target w (ports.Input n) t = absurd t.1
      own_target w (ports.Output n) t = moves.outputs n w t.0.0
      own_target w (ports.Done g) t = subst (Target host w) (sym (moves.holes g)) t.0
      own_target w (ports.Literal x v) t = absurd t.1

      -- an assignment of the component itself
      own_good : (a : PlainAssign) → Typed (OwnSource i inputs) (OwnTargets i) a → Good (moved_assign f (moved_assign (own_port kids part) a))
      own_good a h =
          subst Good (sym (assign_twice f (own_port kids part) a))
          (typed_moved (OwnSource i inputs) (OwnTargets i) (Source host) (Target host) (λ q. f (own_port kids part q)) own_source own_target a h)

      -- a static child's ports
      pub below_moves : (c : ℕ) (child : Instance) → cell_at cells c ≡ OfInstance child → is_static child ≡ true → (asked : ℕ → Type 0) (sources : ℕ → PortRef)
          → ((n w : ℕ) → asked n → declared_width (part_of child).inputs n ≡ Some w → Source host w (f (sources n)))
          → Moves child (first + start_of kids part c) asked (λ q. f (child_port kids part (flat_part child) c sources q))
      below_moves c child at static asked sources given = record {
        cells = λ e p. moves.cells (start_of kids part c + e) p ∙ ap (λ k. ports.Cell k p) (let z : first + (start_of kids part c + e) ≡ first + start_of kids part c + e = omega arith in z);
        literals = moves.literals;
        given = given;
        outputs = λ n w is.
            let wire = wire_is c n w child at static is in
            subst (Target host w) (sym (moves.cells (wire_at kids part (flat_part child) c n) 0)) (ap (λ x. cell_width x 0) wire, ap (λ x. is_cell_output x 0) wire);
        holes = moves.holes;
      }

    -- THE FLAT COMPONENT
    module _ (below : (c : ℕ) (child : Instance) → cell_at cells c ≡ OfInstance child → is_static child ≡ true → AllGoodAt child (first + start_of kids part c)) where
      always_good : AlwaysGood i first
      always_good f moves a j =
          ⊎_elim
          (λ m. let r = image_in (moved_assign (own_port kids part)) part.always a m in subst (λ x. Good (moved_assign f x)) r.2 (own_good (Calls i) f moves r.0 (typed.always r.0 r.1)))
          (λ m. of_kid (kid_always kids part 0 kids a m))
          (in_either (map (moved_assign (own_port kids part)) part.always) (always_from kids part 0 kids) a j)
        where
          of_kid : IsAlways kids part 0 kids a → Good (moved_assign f a)
          of_kid h =
              let k = kid_from cells h.cell h.child h.its in
              let among : In (flat_part k.0).always h.assign = subst (λ (x : PlainComponent). In x.always h.assign) (sym k.3) h.among in
              let inner = (below h.cell k.0 k.1 k.2).0 (λ q. f (child_port kids part (flat_part k.0) h.cell (λ n. ports.Input n) q))
              (below_moves (Calls i) f moves h.cell k.0 k.1 k.2 (Calls k.0) (λ n. ports.Input n) (λ n w dynamic is. absurd (let clash : true ≡ false = sym k.2 ∙ dynamic in cc))) h.assign among in
              subst (λ x. Good (moved_assign f x)) h.is
              (subst Good (sym (assign_twice f (child_port kids part h.child (0 + h.cell) (λ n. ports.Input n)) h.assign))
              (subst (λ c. Good (moved_assign (λ q. f (child_port kids part h.child c (λ n. ports.Input n) q)) h.assign)) (sym (zero_plus h.cell))
              (subst (λ x. Good (moved_assign (λ q. f (child_port kids part x h.cell (λ n. ports.Input n) q)) h.assign)) k.3 inner)))

      group_good : (f : PortRef → PortRef) (list : List PlainAssign) (g : PortRef → PortRef) → ((a : PlainAssign) → In list a → Good (moved_assign f (moved_assign g a))) → (a : PlainAssign) → In (map (moved_assign g) list) a → Good (moved_assign f a)
      group_good f list g each a j = let r = image_in (moved_assign g) list a j in subst (λ x. Good (moved_assign f x)) r.2 (each r.0 r.1)

      copies_good : (f : PortRef → PortRef) → Moves i first Every f → (v : PlainInvoke) → In part.invokes v → (k : Option PlainComponent) → kid_at kids v.cell ≡ k → (x : PlainGroup) (a : PlainAssign) → In (copies_if kids part k v) x → In x.assigns a → Good (moved_assign f a)
      copies_good f moves v here None its x a j m = absurd j
      copies_good f moves v here (Some kid) its x a j m =
          let r = image_in (copied_group (invoke_port kids part kid v)) (enabled_groups (groups_of kid.control) 0 kid.groups) x j in
          let k = kid_from cells v.cell kid its in
          subst (λ (y : PlainGroup). (b : PlainAssign) → In y.assigns b → Good (moved_assign f b)) r.2
          (group_good f r.0.assigns (invoke_port kids part kid v)
          (λ b l.
          subst Good (sym (assign_twice f (invoke_port kids part kid v) b))
          (subst (λ y. Good (moved_assign (λ q. f (invoke_port kids part y v q)) b)) k.3
          ((below v.cell k.0 k.1 k.2).1 (λ q. f (invoke_port kids part (flat_part k.0) v q))
          (below_moves Every f moves v.cell k.0 k.1 k.2 Every (λ n. own_port kids part (source_to v.cell v.inputs n)) (λ n w asked is. own_source Every f moves w (source_to v.cell v.inputs n) (typed.binds v k.0 n w here k.1 is)))
          r.0 b (subst (λ (y : PlainComponent). In y.groups r.0) (sym k.3) (enabled_in (groups_of kid.control) 0 kid.groups r.0 r.1)) l)))) a m

      groups_good : GroupsGood i first
      groups_good f moves x a j m =
          ⊎_elim
          (λ k.
          let r = image_in (moved_group (own_port kids part)) part.groups x k in
          subst (λ (y : PlainGroup). (b : PlainAssign) → In y.assigns b → Good (moved_assign f b)) r.2
          (group_good f r.0.assigns (own_port kids part) (λ b l. own_good Every f moves b (typed.groups r.0 b r.1 l))) a m)
          (λ k. let r = copied_of part.invokes x k in copies_good f moves r.0 r.1 (kid_at kids r.0.cell) refl x a r.2 m)
          (in_either (map (moved_group (own_port kids part)) part.groups) (flat_map (copies kids part) part.invokes) x j)
        where
          copied_of : (vs : List PlainInvoke) (y : PlainGroup) → In (flat_map (copies kids part) vs) y → (v : PlainInvoke) × In vs v × In (copies kids part v) y
          copied_of [] y l = absurd l
          copied_of (v ∷ vs) y l =
              ⊎_elim (λ n. (v, inl refl, n)) (λ n. let r = copied_of vs y n in (r.0, inr r.1, r.2)) (in_either (copies kids part v) (flat_map (copies kids part) vs) y l)

  pub embedded_child : (part : PlainComponent) (cells : Cells) (first c : ℕ) (child : Instance) → IsEmbedded (Node part cells) first (cells_of host) → cell_at cells c ≡ OfInstance child → is_static child ≡ true → IsEmbedded child (first + start_of (flat_kids cells) part c) (cells_of host)
  embedded_child part cells first c child embedded at static =
      (subst (λ k. IsEmbedded child (first + start_of (flat_kids cells) part k) (cells_of host) × HasWires (part_of child).outputs (first + wire_at (flat_kids cells) part (flat_part child) k 0) (cells_of host)) (let z : 0 + c ≡ c = omega arith in z)
      (embedded_static (flat_kids cells) part first (cells_of host) cells 0 c child embedded at static)).0

  mutual
    all_good : (i : Instance) → AllFair i → AllTyped i → (first : ℕ) → IsEmbedded i first (cells_of host) → AllGoodAt i first
    all_good (Node part cells) fair typed first embedded = (
      always_good part cells fair.0 typed.0 first embedded (λ c child at static. good_below cells c child at (fair_child cells c child fair.1 at) typed.1 (first + start_of (flat_kids cells) part c) (embedded_child part cells first c child embedded at static)),
      groups_good part cells fair.0 typed.0 first embedded (λ c child at static. good_below cells c child at (fair_child cells c child fair.1 at) typed.1 (first + start_of (flat_kids cells) part c) (embedded_child part cells first c child embedded at static)),
    )

    good_below : (cells : Cells) (c : ℕ) (child : Instance) → cell_at cells c ≡ OfInstance child → AllFair child → TypedBelow cells → (first : ℕ) → IsEmbedded child first (cells_of host) → AllGoodAt child first
    good_below no_cells c child at fair typed first embedded = absurd (cc)
    good_below (a_primitive row rest) zero child at fair typed first embedded = absurd (cc)
    good_below (a_primitive row rest) (suc c) child at fair typed first embedded = good_below rest c child at fair typed first embedded
    good_below (an_instance other rest) zero child at fair typed first embedded =
        let same : child ≡ other = cc in
        subst (λ x. AllGoodAt x first) (sym same) (all_good other (subst AllFair same fair) typed.0 first (subst (λ x. IsEmbedded x first (cells_of host)) same embedded))
    good_below (an_instance other rest) (suc c) child at fair typed first embedded = good_below rest c child at fair typed.1 first embedded

-- IN THE FLAT INSTANCE
module _ (i flat : Instance) (flattened : IsFlattened i flat) (fair : AllFair i) (typed : AllTyped i) where
  pub top : (inputs : ℕ → Type 0) → Moves flat i 0 inputs (λ q. q)
  top inputs = record {
    cells = λ e p. ap (λ k. ports.Cell k p) (let z : e ≡ 0 + e = omega arith in z);
    literals = λ w v. refl;
    given = λ n w asked is. (ap (λ l. declared_width l n) (flattened.0.inputs ∙ flat-inputs i) ∙ is, refl);
    outputs = λ n w is. (ap (λ l. declared_width l n) (flattened.0.outputs ∙ flat-outputs i) ∙ is, refl);
    holes = λ g. refl;
  }

  pub flat_always_typed : (a : PlainAssign) → In (flat_part i).always a → Typed (Source flat) (Target flat) a
  flat_always_typed a j = subst (Typed (Source flat) (Target flat)) (assign_still a) ((all_good flat i fair typed 0 flattened.1).0 (λ q. q) (top (Calls i)) a j)

  pub flat_groups_typed : (x : PlainGroup) (a : PlainAssign) → In (flat_part i).groups x → In x.assigns a → Typed (Source flat) (Target flat) a
  flat_groups_typed x a j m = subst (Typed (Source flat) (Target flat)) (assign_still a) ((all_good flat i fair typed 0 flattened.1).1 (λ q. q) (top Every) x a j m)
