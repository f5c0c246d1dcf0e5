-- WHAT RESTS ON STATE in an instance rests in a host in which its flat component stands, an output of a static child by its wire.
use Rattle.std.proofs.Common.{◌≡◌, ℕ, zero, suc, ◌+◌, ◌-◌, ◌<◌, inl, inr, ⊎_elim, Bool, true, false, List, [], ◌∷◌, length, map, Some, None, refl, sym, ap, ◌∙◌, subst, arith}
use Rattle.std.proofs.lemmas.Bool.{ltb-true}
use Rattle.cx_text.specs.Members.{In}
use Rattle.cx_prim.specs.declared.ports.Side.TheVariants as sides
use Rattle.cx_prim.specs.Rows.{Row}
use Rattle.cx_meaning.specs.declared.ports.PortRef.{PortRef}
use Rattle.cx_meaning.specs.declared.ports.PortRef.TheVariants as ports
use Rattle.cx_meaning.specs.Rows.{side_of}
use Rattle.cx_meaning.specs.Designs.{PlainGuard, Always, Atom, Negation, All, Any, Compared, Within, PlainGuards, no_guards, a_guard, PlainAssign, PlainGroup, PlainComponent, group_at}
use Rattle.cx_meaning.specs.Instances.{Instance, Node, Cells, no_cells, a_primitive, an_instance, OfRow, OfInstance, part_of, cells_of, cell_at}
use Rattle.cx_meaning.specs.Active.{nothing, source_order, same_port, drivers}
use Rattle.cx_meaning.specs.Sights.{GuardNames, AnyNames, AnOutput, ItsDone, part_port}
use Rattle.cx_meaning.proofs.ActiveLemmas.{acting_has}
use Rattle.cx_meaning.proofs.DesignsLemmas.{group_there}
use Rattle.cx_meaning.proofs.PortsLemmas.{same_self}
use Rattle.cx_rules.specs.Circles.{AreAcyclic, AcyclicBelow}
use Rattle.cx_rules.specs.Footprints.{AssignNames, Mentions, Rests, literal_rests, input_rests, registered_rests, output_rests, done_rests, combinational_rests}
use Rattle.cx_laws.proofs.TreeLemmas.{output_there}
use Rattle.cx_rewrites.specs.Moving.{moved_acting}
use Rattle.cx_rewrites.proofs.ClosedLemmas.{mention_of}
use Rattle.cx_rewrites.proofs.ReflectLemmas.{mentions_back}
use Rattle.cx_flattening.specs.Whole.{is_static}
use Rattle.cx_flattening.specs.Flattened.{Kids, kid_at, kept_at, start_of, wire_at, port_if, own_port, child_port, flat_part, flat_kids}
use Rattle.cx_flattening.specs.Targets.{OwnTarget, BlockTarget}
use Rattle.cx_flattening.specs.Embedded.{wire_row, IsFlattened}
use Rattle.cx_flattening.specs.Levels.{IsStill, own_of}
use Rattle.cx_flattening.specs.Fair.{IsNamed, IsAtRest, AllFair, AllFairBelow}
use Rattle.cx_flattening.proofs.CellLayout.{kept_inside}
use Rattle.cx_flattening.proofs.FlatDeeper.{fair_child}
use Rattle.cx_flattening.proofs.FlatDrivers.{own_drivers, idle_drivers}
use Rattle.cx_flattening.proofs.FlatKinds.{in_groups}
use Rattle.cx_flattening.proofs.FlatOutputs.{drivers_like}
use Rattle.cx_flattening.proofs.LevelSights.{kid-row, kid-static, kid-dynamic, output_number, flat-inputs, flat-outputs}
use Rattle.cx_flattening.proofs.MovedTwice.{moved_twice, moved_still}
use Rattle.cx_flattening.proofs.PortLemmas.{own-kept}
use Rattle.cx_flattening.proofs.RestingPorts.{OfOne, owner_of, group_number}
use Rattle.cx_flattening.proofs.Ruled.{in_order}
use Rattle.cx_flattening.proofs.SafeOutputs.{IsSeat, OutputsSafe, seat_row, seat_twin, seat_wire, child_seat, kids_safe}
use Rattle.cx_flattening.proofs.Standing.{in_flat_cells, within_child, within_row}
use Rattle.cx_flattening.proofs.StillPorts.{own_still, block_still}

-- NOT NOT SO: of all of finitely many it is not not so, where it is not not so of each
abbrev pub Surely : Type 0 → Type 0
Surely A = (A → ⊥) → ⊥

pub surely : {A : Type 0} → A → Surely A
surely a against = against a

pub each_surely : {A : Type 0} (P : A → Type 0) (xs : List A) → ((x : A) → In xs x → Surely (P x)) → Surely ((x : A) → In xs x → P x)
each_surely P [] h against = against (λ x i. absurd i)
each_surely P (x ∷ xs) h against = h x (inl refl) (λ p. each_surely P xs (λ y i. h y (inr i)) (λ rest. against (λ y i. ⊎_elim (λ e. subst P e p) (λ j. rest y j) i)))

module _ (P : PortRef → Type 0) where
  mutual
    guard_surely : (g : PlainGuard) → ((q : PortRef) → GuardNames g q → Surely (P q)) → Surely ((q : PortRef) → GuardNames g q → P q)
    guard_surely Always h against = against (λ q n. absurd n)
    guard_surely (Atom p) h against = h p.port refl (λ r. against (λ q e. subst P e r))
    guard_surely (Negation g) h against = guard_surely g h against
    guard_surely (All gs) h against = guards_surely gs h against
    guard_surely (Any gs) h against = guards_surely gs h against
    guard_surely (Compared c a b) h against = h a.port (inl refl) (λ r. h b.port (inr refl) (λ s. against (λ q n. ⊎_elim (λ e. subst P e r) (λ e. subst P e s) n)))
    guard_surely (Within from to) h against = against (λ q n. absurd n)

    guards_surely : (gs : PlainGuards) → ((q : PortRef) → AnyNames gs q → Surely (P q)) → Surely ((q : PortRef) → AnyNames gs q → P q)
    guards_surely no_guards h against = against (λ q n. absurd n)
    guards_surely (a_guard g gs) h against =
        guard_surely g (λ q n. h q (inl n)) (λ one. guards_surely gs (λ q n. h q (inr n)) (λ rest. against (λ q n. ⊎_elim (λ m. one q m) (λ m. rest q m) n)))

  assign_surely : (a : PlainAssign) → ((q : PortRef) → AssignNames a q → Surely (P q)) → Surely ((q : PortRef) → AssignNames a q → P q)
  assign_surely a h against =
      guard_surely a.guard (λ q n. h q (inl n)) (λ guard. h a.source.port (inr refl) (λ r. against (λ q n. ⊎_elim (λ m. guard q m) (λ e. subst P e r) n)))

-- an output over what rests
module _ (i : Instance) (c p : ℕ) (row : Row) (at : cell_at (cells_of i) c ≡ OfRow row) (side : side_of row p ≡ sides.Output)
    (groups : (m g : ℕ) (a : PlainAssign) → row.reads p m ≡ true → In (group_at (part_of i) g).assigns a → a.target ≡ ports.Cell c m → ⊥)
    (always : (m : ℕ) (a : PlainAssign) (q : PortRef) → row.reads p m ≡ true → In (part_of i).always a → a.target ≡ ports.Cell c m → AssignNames a q → Surely (Rests i q)) where
  abbrev Fine : PlainAssign → PortRef → Type 0
  Fine a q = (m : ℕ) → row.reads p m ≡ true → a.target ≡ ports.Cell c m → Rests i q

  abbrev Good : PlainAssign → Type 0
  Good a = (q : PortRef) → AssignNames a q → Fine a q

  each : (a : PlainAssign) → In (part_of i).always a → Surely (Good a)
  each a j = assign_surely (Fine a) a (λ q names never. never (λ m reads e. absurd (always m a q reads j e names (λ r. never (λ n read f. r)))))

  comb_surely : Surely (Rests i (ports.Cell c p))
  comb_surely against = each_surely Good (part_of i).always each (λ all. against (combinational_rests row at side groups (λ m a q reads j e names. all a j q names m reads e)))

-- IT STANDS IN A HOST; and where no group of the flat component drives a port, none of the host does
pub record IsRestSeat (host : Instance) (i : Instance) (first : ℕ) (f : PortRef → PortRef) : Type 0 where
  pub seat : IsSeat host nothing i first f
  pub still : (q : PortRef) → BlockTarget (flat_part i) q → IsStill (flat_part i) q → IsStill (part_of host) (f q)

-- a continuous assignment mentions what it names
pub mentioned : (part : PlainComponent) (p q : PortRef) (a : PlainAssign) → In part.always a → a.target ≡ p → AssignNames a q → Mentions (drivers part nothing p) q
mentioned part p q a j e names =
    (record { offset = 0; assign = a }, acting_has nothing p (source_order part) (record { owner = None; assign = a }) 0 (in_order part None a j) (ap (λ x. same_port x p) e ∙ same_self p) refl, names)

-- and what is mentioned of a port that no group drives is named by one
record Named (part : PlainComponent) (p q : PortRef) : Type 0 where
  assign : PlainAssign
  among : In part.always assign
  target : assign.target ≡ p
  names : AssignNames assign q

named_of : (part : PlainComponent) (p q : PortRef) → IsStill part p → Mentions (drivers part nothing p) q → Named part p q
named_of part p q none m =
    let w = mention_of nothing (source_order part) p q m in
    ⊎_elim
    (λ h. record { assign = w.owned.assign; among = h.1; target = w.target; names = w.names })
    (λ (h : OfOne part w.owned). absurd (none (group_at part h.number) w.owned.assign h.is_there h.stands w.target))
    (owner_of part w.owned w.stands)

-- no group of a flat component drives its outputs
output_still : (i : Instance) → AllFair i → (n : ℕ) → IsStill (flat_part i) (ports.Output n)
output_still (Node part cells) fair n =
    own_still (flat_kids cells) part fair.0.targets (flat_part (Node part cells)) refl (ports.Output n) tt (λ x a j k e. fair.0.outputs_outside x a n j k e)

module _ (part : PlainComponent) (cells : Cells) (fair : AllFair (Node part cells)) (safe_below : (c : ℕ) (child : Instance) → cell_at cells c ≡ OfInstance child → OutputsSafe child)
    (host : Instance) (first : ℕ) (f : PortRef → PortRef) (base : IsRestSeat host (Node part cells) first f) where
  abbrev kids : Kids
  kids = flat_kids cells

  abbrev flat : PlainComponent
  flat = flat_part (Node part cells)

  abbrev back : PortRef → PortRef
  back q = f (own_port kids part q)

  kept-is : (c p : ℕ) → kid_at kids c ≡ None → back (ports.Cell c p) ≡ ports.Cell (first + kept_at kids c) p
  kept-is c p e = ap f (own-kept kids part c p e) ∙ base.seat.cells (kept_at kids c) p

  row-is : (c : ℕ) (row : Row) → cell_at cells c ≡ OfRow row → cell_at (cells_of host) (first + kept_at kids c) ≡ OfRow row
  row-is c row at = seat_row part cells fair.0 safe_below host nothing first f base.seat c row at

  -- A PORT that no group drives: none does there, and what is named there is named of it
  module _ (p : PortRef) (own : OwnTarget kids part p) (there : BlockTarget flat (own_port kids part p)) (none : IsStill part p) where
    still_there : IsStill (part_of host) (back p)
    still_there = base.still (own_port kids part p) there (own_still kids part fair.0.targets flat refl p own none)

    named_back : (q : PortRef) → Mentions (drivers (part_of host) nothing (back p)) q → (r : PortRef) × (back r ≡ q) × Named part p r
    named_back q m =
        let drives =
        base.seat.drives (own_port kids part p) there (own_still kids part fair.0.targets flat refl p own none)
        ∙ ap (map (moved_acting f)) (own_drivers kids part fair.0.targets nothing flat refl refl nothing p own (λ g less. refl)) in
        let r = mentions_back f (map (moved_acting (own_port kids part)) (drivers part nothing p)) q (subst (λ acts. Mentions acts q) drives m) in
        let t = mentions_back (own_port kids part) (drivers part nothing p) r.0 r.2 in
        (t.0, ap f t.1 ∙ r.1, named_of part p t.0 none t.2)

  -- an output of a row that is kept
  module _ (c p : ℕ) (row : Row) (at : cell_at cells c ≡ OfRow row) (side : side_of row p ≡ sides.Output)
      (groups : (m g : ℕ) (a : PlainAssign) → row.reads p m ≡ true → In (group_at part g).assigns a → a.target ≡ ports.Cell c m → ⊥)
      (next : (m : ℕ) (b : PlainAssign) (r : PortRef) → row.reads p m ≡ true → In part.always b → b.target ≡ ports.Cell c m → AssignNames b r → Surely (Rests host (back r))) where
    own_cell : (m : ℕ) → OwnTarget kids part (ports.Cell c m)
    own_cell m = (within_row (Node part cells) fair.0 c row at, kid-row cells c row at)

    flat_cell : (m : ℕ) → BlockTarget flat (own_port kids part (ports.Cell c m))
    flat_cell m =
        subst (BlockTarget flat) (sym (own-kept kids part c m (kid-row cells c row at))) (kept_inside kids part.cells c (within_row (Node part cells) fair.0 c row at) (kid-row cells c row at))

    still_cell : (m : ℕ) → row.reads p m ≡ true → IsStill part (ports.Cell c m)
    still_cell m reads x a j k e = let r = group_number part.groups x j in groups m r.0 a reads (subst (λ (z : PlainGroup). In z.assigns a) (sym r.1) k) e

    comb_there : Surely (Rests host (ports.Cell (first + kept_at kids c) p))
    comb_there =
        comb_surely host (first + kept_at kids c) p row (row-is c row at) side
        (λ m g a reads j e.
        still_there (ports.Cell c m) (own_cell m) (flat_cell m) (still_cell m reads) (group_at (part_of host) g) a
        (in_groups (part_of host).groups g (group_there (part_of host) g a j)) j (e ∙ sym (kept-is c m (kid-row cells c row at))))
        (λ m a q reads j e names.
        let r = named_back (ports.Cell c m) (own_cell m) (flat_cell m) (still_cell m reads) q
        (mentioned (part_of host) (back (ports.Cell c m)) q a j (e ∙ sym (kept-is c m (kid-row cells c row at))) names) in
        subst (λ x. Surely (Rests host x)) r.1 (next m r.2.assign r.0 reads r.2.among r.2.target r.2.names))

  -- an output of a static child is that of its wire
  wire-is : (c p n : ℕ) (child : Instance) → cell_at cells c ≡ OfInstance child → is_static child ≡ true → part_port (part_of child) p ≡ AnOutput n
      → back (ports.Cell c p) ≡ ports.Cell (first + wire_at kids part (flat_part child) c n) 1
  wire-is c p n child at static port =
      ap (λ k. f (port_if kids part k c p)) (kid-static cells c child at static)
      ∙ base.seat.cells (wire_at kids part (flat_part child) c (p - 1 - length (flat_part child).inputs)) 1
      ∙ ap (λ k. ports.Cell (first + wire_at kids part (flat_part child) c k) 1) (ap (λ l. p - 1 - length l) (flat-inputs child) ∙ output_number (part_of child) p n port)

  module _ (wanted : ℕ → Type 0) (always_wants : (a : PlainAssign) (n : ℕ) → In part.always a → AssignNames a (ports.Input n) → wanted n)
      (inputs : (n : ℕ) → wanted n → Surely (Rests host (f (ports.Input n))))
      (wires : (c n : ℕ) (child : Instance) → cell_at cells c ≡ OfInstance child → is_static child ≡ true → n < length (part_of child).outputs
      → Surely (Rests host (ports.Cell (first + wire_at kids part (flat_part child) c n) 1))) where
    output_there_too : (c p n : ℕ) (child : Instance) → cell_at cells c ≡ OfInstance child → part_port (part_of child) p ≡ AnOutput n → (b : Bool) → is_static child ≡ b → Surely (Rests host (back (ports.Cell c p)))
    output_there_too c p n child at port true static =
        subst (λ x. Surely (Rests host x)) (sym (wire-is c p n child at static port)) (wires c n child at static (output_there (part_of child) p n port))
    output_there_too c p n child at port false dynamic =
        let t = seat_twin part cells fair.0 safe_below host nothing first f base.seat c child at dynamic in
        surely (subst (Rests host) (sym (kept-is c p (kid-dynamic cells c child at dynamic))) (output_rests n t.0 t.1 (sym (t.2 p) ∙ port)))

    done_there : (c p : ℕ) (child : Instance) → cell_at cells c ≡ OfInstance child → part_port (part_of child) p ≡ ItsDone → IsNamed (Node part cells) (ports.Cell c p)
        → (b : Bool) → is_static child ≡ b → Surely (Rests host (back (ports.Cell c p)))
    done_there c p child at port named true static = absurd (let r = named.1 child at static in let clash : ItsDone ≡ AnOutput r.0 = sym port ∙ r.1 in cc)
    done_there c p child at port named false dynamic =
        let t = seat_twin part cells fair.0 safe_below host nothing first f base.seat c child at dynamic in
        surely (subst (Rests host) (sym (kept-is c p (kid-dynamic cells c child at dynamic))) (done_rests t.0 t.1 (sym (t.2 p) ∙ port)))

    -- WHAT RESTS in the instance rests there
    rests_there : (q : PortRef) → Rests (Node part cells) q → IsNamed (Node part cells) q → ((n : ℕ) → q ≡ ports.Input n → wanted n) → Surely (Rests host (back q))
    rests_there _ (literal_rests {w = w} {v = v}) named want = surely (subst (Rests host) (sym (base.seat.literals w v)) literal_rests)
    rests_there _ (input_rests {n = n}) named want = inputs n (want n refl)
    rests_there _ (registered_rests {c = c} {p = p} row at side) named want = surely (subst (Rests host) (sym (kept-is c p (kid-row cells c row at))) (registered_rests row (row-is c row at) side))
    rests_there _ (output_rests {c = c} {p = p} n child at port) named want = output_there_too c p n child at port (is_static child) refl
    rests_there _ (done_rests {c = c} {p = p} child at port) named want = done_there c p child at port named (is_static child) refl
    rests_there _ (combinational_rests {c = c} {p = p} row at side groups always) named want =
        subst (λ x. Surely (Rests host x)) (sym (kept-is c p (kid-row cells c row at)))
        (comb_there c p row at side groups
        (λ m b r reads j e names. rests_there r (always m b r reads j e names) (fair.0.names b r (inl j) names) (λ n same. always_wants b n j (subst (AssignNames b) same names))))

    pub at_rest_there : (q : PortRef) → IsAtRest (Node part cells) q → IsNamed (Node part cells) q → ((n : ℕ) → q ≡ ports.Input n → wanted n) → Surely (Rests host (back q))
    at_rest_there q rests named want against = rests (λ r. rests_there q r named want against)

  -- A STATIC CHILD stands there too, by a map of its ports that is one of its block
  module _ (c : ℕ) (child : Instance) (at : cell_at cells c ≡ OfInstance child) (static : is_static child ≡ true) (sources : ℕ → PortRef) where
    abbrev kid : PlainComponent
    kid = flat_part child

    abbrev move : PortRef → PortRef
    move = child_port kids part kid c sources

    at_kid : kid_at kids c ≡ Some kid
    at_kid = kid-static cells c child at static

    there : c < length part.cells
    there = within_child (Node part cells) fair.0 c child at

    inside_it : (q : PortRef) → BlockTarget kid q → BlockTarget flat (move q)
    inside_it (ports.Cell e p) less = in_flat_cells kids part c e kid there at_kid (omega (arith, less))
    inside_it (ports.Input n) less = absurd less
    inside_it (ports.Output n) less =
        let all = in_flat_cells kids part c (length kid.cells + n) kid there at_kid (omega (arith, less)) in
        omega (arith, all)
    inside_it (ports.Done g) less = absurd less
    inside_it (ports.Literal w v) less = absurd less

    pub child_rest_seat : IsRestSeat host child (first + start_of kids part c) (λ q. f (move q))
    child_rest_seat = record {
      seat = record {
        cells = (child_seat part cells fair.0 safe_below host nothing first f base.seat c child at static).cells;
        literals = base.seat.literals;
        drives = λ q target still.
            base.seat.drives (move q) (inside_it q target) (block_still kids part fair.0.targets flat refl c kid at_kid sources q target still)
            ∙ ap (map (moved_acting f)) (idle_drivers kids part fair.0.targets nothing flat refl refl c kid at_kid [] nothing
            (record { unfed = refl; none_below = refl; still = λ g. refl; copies = λ j g is u. refl }) sources q target)
            ∙ moved_twice f move (drivers kid nothing q);
        embedded = (child_seat part cells fair.0 safe_below host nothing first f base.seat c child at static).embedded;
      };
      still = λ q target still. base.still (move q) (inside_it q target) (block_still kids part fair.0.targets flat refl c kid at_kid sources q target still);
    }

-- THE OUTPUTS of a static component: what drives them in a host rests there
abbrev pub OutputsRest : Instance → Type 0
OutputsRest i = (host : Instance) (first : ℕ) (f : PortRef → PortRef) → IsRestSeat host i first f
    → (n : ℕ) (q : PortRef) → n < length (part_of i).outputs → Mentions (drivers (part_of host) nothing (f (ports.Output n))) q → Surely (Rests host q)

module _ (part : PlainComponent) (cells : Cells) (fair : AllFair (Node part cells)) (safe_below : (c : ℕ) (child : Instance) → cell_at cells c ≡ OfInstance child → OutputsSafe child)
    (below : (c : ℕ) (child : Instance) → cell_at cells c ≡ OfInstance child → is_static child ≡ true → OutputsRest child)
    (host : Instance) (first : ℕ) (f : PortRef → PortRef) (base : IsRestSeat host (Node part cells) first f) where
  abbrev its_kids : Kids
  its_kids = flat_kids cells

  -- WIRES rest
  module _ (c n : ℕ) (child : Instance) (at : cell_at cells c ≡ OfInstance child) (static : is_static child ≡ true) (less : n < length (part_of child).outputs) where
    abbrev wire_number : ℕ
    wire_number = first + wire_at its_kids part (flat_part child) c n

    abbrev its_map : PortRef → PortRef
    its_map q = f (child_port its_kids part (flat_part child) c (λ k. ports.Input k) q)

    wire : (width : ℕ) × (cell_at (cells_of host) wire_number ≡ OfRow (wire_row width))
    wire = seat_wire part cells fair.0 safe_below host nothing first f base.seat c child at static n less

    its_seat : IsRestSeat host child (first + start_of its_kids part c) its_map
    its_seat = child_rest_seat part cells fair safe_below host first f base c child at static (λ k. ports.Input k)

    first_port : (m : ℕ) → m < 1 → m ≡ 0
    first_port zero l = refl
    first_port (suc m) l = absurd (omega (arith, l))

    to_wire : (a : PlainAssign) (m width : ℕ) → (wire_row width).reads 1 m ≡ true → a.target ≡ ports.Cell wire_number m → a.target ≡ its_map (ports.Output n)
    to_wire a m width reads e = e ∙ ap (ports.Cell wire_number) (first_port m (ltb-true m 1 reads)) ∙ sym (base.seat.cells (wire_at its_kids part (flat_part child) c n) 0)

    pub wire_rests : Surely (Rests host (ports.Cell wire_number 1))
    wire_rests =
        comb_surely host wire_number 1 (wire_row wire.0) wire.1 refl
        (λ m g a reads j e.
        its_seat.still (ports.Output n) (subst (λ l. n < length l) (sym (flat-outputs child)) less) (output_still child (fair_child cells c child fair.1 at) n) (group_at (part_of host) g) a
        (in_groups (part_of host).groups g (group_there (part_of host) g a j)) j (to_wire a m wire.0 reads e))
        (λ m a q reads j e names.
        below c child at static host (first + start_of its_kids part c) its_map its_seat n q less (mentioned (part_of host) (its_map (ports.Output n)) q a j (to_wire a m wire.0 reads e) names))

  outputs_rest_there : is_static (Node part cells) ≡ true → (n : ℕ) (q : PortRef) → n < length part.outputs → Mentions (drivers (part_of host) nothing (f (ports.Output n))) q → Surely (Rests host q)
  outputs_rest_there static n q less m =
      let r = named_back part cells fair safe_below host first f base (ports.Output n) tt less (λ x a j k e. fair.0.outputs_outside x a n j k e) q m in
      subst (λ x. Surely (Rests host x)) r.1
      (at_rest_there part cells fair safe_below host first f base (λ k. ⊥) (λ a k j names. fair.0.kept static a k j names) (λ k none. absurd none) wire_rests r.0
      (fair.0.outputs_rest n r.2.assign r.0 r.2.among r.2.target r.2.names) (fair.0.names r.2.assign r.0 (inl r.2.among) r.2.names)
      (λ k same. fair.0.kept static r.2.assign k r.2.among (subst (AssignNames r.2.assign) same r.2.names)))

mutual
  pub outputs_rest : (i : Instance) → AllFair i → AreAcyclic i → is_static i ≡ true → OutputsRest i
  outputs_rest (Node part cells) fair calm static host first f base n q less m =
      outputs_rest_there part cells fair (kids_safe cells fair.1 calm.1) (λ c child at is. kids_rest cells fair.1 calm.1 c child at is) host first f base static n q less m

  pub kids_rest : (cells : Cells) → AllFairBelow cells → AcyclicBelow cells → (c : ℕ) (child : Instance) → cell_at cells c ≡ OfInstance child → is_static child ≡ true → OutputsRest child
  kids_rest no_cells fair calm c child e static = absurd (cc)
  kids_rest (a_primitive row rest) fair calm zero child e static = absurd (cc)
  kids_rest (a_primitive row rest) fair calm (suc c) child e static = kids_rest rest fair calm c child e static
  kids_rest (an_instance other rest) fair calm zero child e static = let same : other ≡ child = cc in subst OutputsRest same (outputs_rest other fair.0 calm.0 (ap is_static same ∙ static))
  kids_rest (an_instance other rest) fair calm (suc c) child e static = kids_rest rest fair.1 calm.1 c child e static

-- THE FLAT INSTANCE is a seat
pub top_rest_seat : (i flat : Instance) → IsFlattened i flat → IsRestSeat flat i 0 (λ q. q)
top_rest_seat i flat flattened = record {
  seat = record {
    cells = λ e p. ap (λ k. ports.Cell k p) (zero_plus e);
    literals = λ w v. refl;
    drives = λ q target still. drivers_like (part_of flat) (flat_part i) flattened.0 nothing q ∙ sym (moved_still (drivers (flat_part i) nothing q));
    embedded = flattened.1;
  };
  still = λ q there none x a j k e. none x a (subst (λ l. In l x) flattened.0.groups j) k e;
}
  where
    zero_plus : (a : ℕ) → a ≡ 0 + a
    zero_plus a = omega arith

-- WHAT IS AT REST in the tree is at rest in the flat instance
pub flat_at_rest : (i flat : Instance) → IsFlattened i flat → AllFair i → AreAcyclic i → (q : PortRef) → IsAtRest i q → IsNamed i q → IsAtRest flat (own_of i q)
flat_at_rest (Node part cells) flat flattened fair calm q rests named =
    let seat = top_rest_seat (Node part cells) flat flattened in
    at_rest_there part cells fair (kids_safe cells fair.1 calm.1) flat 0 (λ x. x) seat (λ n. Unit {0}) (λ a n j names. tt) (λ n h. surely input_rests)
    (wire_rests part cells fair (kids_safe cells fair.1 calm.1) (λ c child at is. kids_rest cells fair.1 calm.1 c child at is) flat 0 (λ x. x) seat) q rests named (λ n same. tt)
