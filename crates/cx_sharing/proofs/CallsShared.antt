-- THE RULE ON CALLS: an assignment that breaks it in an instance of the shared design breaks it in the instance of the design. The cells that it
-- speaks of, components, registers and what has an enabling port, share their numbers with no other.
use Rattle.std.proofs.Common.{◌≡◌, ℕ, zero, suc, ◌+◌, ◌<◌, inl, inr, ⊎_elim, Bool, true, false, ◌&&◌, List, [], ◌∷◌, length, map, Some, None, slice_get, refl, sym, ap, ap₂, ◌∙◌, subst, arith}
use Rattle.std.specs.Prelude.{nat_eq, if◌then◌else◌}
use Rattle.std.proofs.lemmas.Bool.{eq-eqb, both_ways}
use Rattle.cx_text.proofs.MemberLaws.{image_in}
use Rattle.cx_text.specs.Members.{In}
use Rattle.cx_text.specs.declared.places.Place.{Place}
use Rattle.cx_prim.specs.declared.names.PrimitiveName.{PrimitiveName}
use Rattle.cx_prim.specs.declared.names.PrimitiveName.TheVariants as primitives
use Rattle.cx_prim.specs.declared.ports.Side.{Side}
use Rattle.cx_prim.specs.declared.ports.Side.TheVariants as sides
use Rattle.cx_prim.specs.Rows.{is_enable_side}
use Rattle.cx_prim.specs.Table.{row_of}
use Rattle.cx_meaning.specs.Rows.{side_of}
use Rattle.cx_meaning.specs.declared.ports.PortRef.{PortRef}
use Rattle.cx_meaning.specs.declared.ports.PortRef.TheVariants as ports
use Rattle.cx_meaning.specs.Designs.{PlainAssign, PlainGroup, PlainKind, OfPrimitive, PlainCell, PlainComponent}
use Rattle.cx_meaning.specs.Instances.{Instance, At, OfInstance, part_of, cells_of, cell_at}
use Rattle.cx_meaning.specs.Active.{Owned, group, same_port}
use Rattle.cx_meaning.specs.Sights.{part_port}
use Rattle.cx_rules.specs.Ports.{is_primitive_enable, is_part_port}
use Rattle.cx_meaning.specs.Calls.{enables_at}
use Rattle.cx_rules.specs.Items.{is_plain}
use Rattle.cx_rules.specs.Footprints.{Depends}
use Rattle.cx_rules.specs.ShapeRules.{is_hole_of, some_target}
use Rattle.cx_rules.specs.CallShape.{is_port_of, Calls, go_port, done_port, write_en_of, register_done, is_reg_name, is_reg_kind, is_register_cell, is_register, one, with_target, is_right_go, is_right_enable, is_register_enable, added, captured_from, captured, wanted_dones, is_right_done, assigns_of, IsOutputOrDone, IsFedBack, CallBreak, another_cell, wrong_go, input_by_output, wrong_enable, wrong_done, IsOutside, IsMisshapen, BreaksCallShape, GroupBreaksCallShape}
use Rattle.cx_rules.proofs.ShapeRulesLemmas.{some_in, a_target, port_of_is}
use Rattle.cx_numbering.specs.Names.{go_name}
use Rattle.cx_rewrites.specs.Moving.{moved_assign, moved_owned}
use Rattle.cx_rewrites.specs.Renaming.{renamed}
use Rattle.cx_sharing.specs.Uses.{is_combinational, kind_in, is_candidate}
use Rattle.cx_sharing.specs.Giving.{keeper, stays, staying, new_cell}
use Rattle.cx_sharing.specs.SharedDesign.{remaining, shared_part}
use Rattle.cx_sharing.proofs.KeptLemmas.{new_apart}
use Rattle.cx_sharing.proofs.KeeperLemmas.{other_kept}
use Rattle.cx_sharing.proofs.RowLemmas.{stateless_row}
use Rattle.cx_sharing.proofs.TwinLemmas.{part_other, candidate_holds_nothing, stays_is}
use Rattle.cx_sharing.proofs.CandidateLemmas.{candidate_is}
use Rattle.cx_sharing.proofs.ReadLemmas.{started_none}
use Rattle.cx_rewrites.proofs.MovedLists.{some_target-moved}
use Rattle.cx_rewrites.proofs.MovedCalls.{Anywhere, IsApart, apart_right, apart_alone, all_anywhere, with_target-moved, is_right_go-moved, is_right_enable-moved, is_right_done-moved}
use Rattle.cx_rewrites.proofs.PlaceRules.{ByAssign, ByGroup}
use Rattle.cx_sharing.proofs.SharedParts.{shared_kind, AtShared, no_cell, a_row, a_part, Shares, is_primitive_enable-shared, is_part_port-shared, group_at-shared, own_assigns}
use Rattle.cx_sharing.proofs.RulesShared.{hole_of_kept}
use Rattle.cx_sharing.proofs.RestsShared.{stands_for}
use Rattle.cx_sharing.proofs.CirclesShared.{group_depends_back}

-- A PORT THAT IS APART: no other port becomes the renamed one
module _ (cell : ℕ → ℕ) where
  pub cell_apart : (c p : ℕ) → ((d : ℕ) → cell d ≡ cell c → d ≡ c) → IsApart (renamed cell) (ports.Cell c p)
  cell_apart c p sole (ports.Cell d m) e =
      let cells : cell d ≡ cell c = cc in
      let same : m ≡ p = cc in
      ap₂ ports.Cell (sole d cells) same
  cell_apart c p sole (ports.Input n) e = absurd (cc)
  cell_apart c p sole (ports.Output n) e = absurd (cc)
  cell_apart c p sole (ports.Done g) e = absurd (cc)
  cell_apart c p sole (ports.Literal w v) e = absurd (cc)

  done_apart : (h : ℕ) → IsApart (renamed cell) (ports.Done h)
  done_apart h (ports.Cell d m) e = absurd (cc)
  done_apart h (ports.Input n) e = absurd (cc)
  done_apart h (ports.Output n) e = absurd (cc)
  done_apart h (ports.Done g) e = e
  done_apart h (ports.Literal w v) e = absurd (cc)

  one_kept : (t : PortRef) → same_port (renamed cell t) one ≡ same_port t one
  one_kept (ports.Cell d m) = refl
  one_kept (ports.Input n) = refl
  one_kept (ports.Output n) = refl
  one_kept (ports.Done g) = refl
  one_kept (ports.Literal w v) = refl

-- REGISTERS are no candidates
reg_go : (name : PrimitiveName) → is_reg_name name ≡ true → (go : List ℕ) × (go_name name ≡ Some go)
reg_go primitives.Reg e = (_, refl)
reg_go _ e = absurd (cc)

pub register_other : (part : PlainComponent) (c : ℕ) → is_reg_kind (kind_in part.cells c) ≡ true → is_candidate part c ≡ false
register_other part c e = by (is_candidate part c) refl
  where
    by : (b : Bool) → is_candidate part c ≡ b → b ≡ false
    by false is = refl
    by true is =
        let k = candidate_is part c is in
        let go = reg_go k.primitive.name (ap is_reg_kind (sym k.kind) ∙ e) in
        absurd (both_ways (is_combinational (OfPrimitive k.primitive)) (started_none k.primitive.name k.primitive.numbers go.0 go.1) k.combines)

register_kind : (cells : List PlainCell) (r : ℕ) → is_register_cell (slice_get cells r) ≡ is_reg_kind (kind_in cells r)
register_kind [] r = refl
register_kind (cell ∷ cells) zero = refl
register_kind (cell ∷ cells) (suc r) = register_kind cells r

pub register_is_other : (part : PlainComponent) (r : ℕ) → is_register part r ≡ true → is_candidate part r ≡ false
register_is_other part r is = register_other part r (sym (register_kind part.cells r) ∙ is)

module _ (part : PlainComponent) where
  abbrev number : ℕ → ℕ
  number = new_cell part

  -- a cell that is no candidate has its number alone
  pub sole : (c : ℕ) → is_candidate part c ≡ false → (d : ℕ) → number d ≡ number c → d ≡ c
  sole c none d e = ⊎_elim (λ same. same) (λ h. absurd (both_ways (is_candidate part c) none h.1)) (new_apart part d c e)

  module _ (assigns : List PlainAssign) where
    abbrev moved_list : List PlainAssign
    moved_list = map (moved_assign (renamed number)) assigns

    writes : (r : ℕ) (kind : PlainKind) → kind_in part.cells r ≡ kind
        → (is_reg_kind kind && some_target (same_port (write_en_of (number r))) moved_list) ≡ (is_reg_kind kind && some_target (same_port (write_en_of r)) assigns)
    writes r kind is = by (is_reg_kind kind) refl
      where
        by : (b : Bool) → is_reg_kind kind ≡ b → (b && some_target (same_port (write_en_of (number r))) moved_list) ≡ (b && some_target (same_port (write_en_of r)) assigns)
        by false e = refl
        by true e =
            some_target-moved (renamed number) (same_port (write_en_of r)) (same_port (write_en_of (number r)))
            (apart_right (renamed number) (ports.Cell r 1) (cell_apart number r 1 (sole r (register_other part r (ap is_reg_kind is ∙ e))))) assigns

    added_number : (r : ℕ) (b : Bool) (list : List ℕ) → added (number r) b (map number list) ≡ map number (added r b list)
    added_number r true list = refl
    added_number r false list = refl

    -- what is given is no register
    given_none : (r : ℕ) (kind : PlainKind) → kind_in part.cells r ≡ kind → stays part r ≡ false → is_reg_kind kind ≡ false
    given_none r kind is gone = by (is_reg_kind kind) refl
      where
        by : (b : Bool) → is_reg_kind kind ≡ b → b ≡ false
        by false e = refl
        by true e = absurd (both_ways (stays part r) gone (eq-eqb (keeper part r) r (other_kept part r (register_other part r (ap is_reg_kind is ∙ e)))))

    captured-moved : (k : ℕ) (cells : List PlainCell) → ((c : ℕ) → c < length cells → kind_in part.cells (k + c) ≡ kind_in cells c)
        → captured_from moved_list (staying (stays part) k) (remaining (stays part) k cells) ≡ map number (captured_from assigns k cells)
    captured-moved k [] same = refl
    captured-moved k (cell ∷ cells) same = by (stays part k) refl (captured-moved (suc k) cells rest)
      where
        first : 0 < suc (length cells)
        first = omega arith

        here : kind_in part.cells k ≡ cell.kind
        here = let none : k ≡ k + 0 = omega arith in ap (kind_in part.cells) none ∙ same 0 first

        rest : (c : ℕ) → c < length cells → kind_in part.cells (suc k + c) ≡ kind_in cells c
        rest c lt = let next : suc k + c ≡ k + suc c = omega arith in ap (kind_in part.cells) next ∙ same (suc c) (omega (arith, lt))

        by : (b : Bool) → stays part k ≡ b
            → captured_from moved_list (if b then suc (staying (stays part) k) else staying (stays part) k) (remaining (stays part) (suc k) cells) ≡ map number (captured_from assigns (suc k) cells)
            → captured_from moved_list (staying (stays part) k) (if b then cell ∷ remaining (stays part) (suc k) cells else remaining (stays part) (suc k) cells) ≡ map number (captured_from assigns k (cell ∷ cells))
        by true on h =
            ap (λ n. added n (is_reg_kind cell.kind && some_target (same_port (write_en_of n)) moved_list) (captured_from moved_list (suc (staying (stays part) k)) (remaining (stays part) (suc k) cells))) (sym (stays_is part k on))
            ∙ ap₂ (added (number k)) (writes k cell.kind here) h
            ∙ added_number k (is_reg_kind cell.kind && some_target (same_port (write_en_of k)) assigns) (captured_from assigns (suc k) cells)
        by false off h =
            h ∙ ap (λ b. map number (added k (b && some_target (same_port (write_en_of k)) assigns) (captured_from assigns (suc k) cells))) (sym (given_none k cell.kind here off))

    pub captured-shared : captured (shared_part part) moved_list ≡ map number (captured part assigns)
    captured-shared = captured-moved 0 part.cells (λ c lt. let none : 0 + c ≡ c = omega arith in ap (kind_in part.cells) none)

    -- each captured cell is a register
    captured_registers : (k : ℕ) (cells : List PlainCell) → ((c : ℕ) → c < length cells → kind_in part.cells (k + c) ≡ kind_in cells c) → (r : ℕ) → In (captured_from assigns k cells) r → is_candidate part r ≡ false
    captured_registers k [] same r i = absurd i
    captured_registers k (cell ∷ cells) same r i = by (is_reg_kind cell.kind) (some_target (same_port (write_en_of k)) assigns) refl i (captured_registers (suc k) cells rest r)
      where
        first : 0 < suc (length cells)
        first = omega arith

        here : kind_in part.cells k ≡ cell.kind
        here = let none : k ≡ k + 0 = omega arith in ap (kind_in part.cells) none ∙ same 0 first

        rest : (c : ℕ) → c < length cells → kind_in part.cells (suc k + c) ≡ kind_in cells c
        rest c lt = let next : suc k + c ≡ k + suc c = omega arith in ap (kind_in part.cells) next ∙ same (suc c) (omega (arith, lt))

        by : (a b : Bool) → is_reg_kind cell.kind ≡ a → In (added k (a && b) (captured_from assigns (suc k) cells)) r → (In (captured_from assigns (suc k) cells) r → is_candidate part r ≡ false) → is_candidate part r ≡ false
        by true true e (inl same_r) h = ap (is_candidate part) (sym same_r) ∙ register_other part k (ap is_reg_kind here ∙ e)
        by true true e (inr j) h = h j
        by true false e j h = h j
        by false b e j h = h j

    pub captured_other : (r : ℕ) → In (captured part assigns) r → is_candidate part r ≡ false
    captured_other r i = captured_registers 0 part.cells (λ c lt. let none : 0 + c ≡ c = omega arith in ap (kind_in part.cells) none) r i

-- what has an enabling port is no candidate
enable_other : (part : PlainComponent) (c p : ℕ) {at to : At} → AtShared part c at to → enables_at at p ≡ true → is_candidate part c ≡ false
enable_other part c p no_cell e = absurd (cc)
enable_other part c p (a_row q kind) e = by (is_candidate part c) refl
  where
    side : (s : Side) → is_enable_side s ≡ true → s ≡ sides.Enable
    side sides.Enable e = refl
    side _ e = absurd (cc)

    by : (b : Bool) → is_candidate part c ≡ b → b ≡ false
    by false is = refl
    by true is = absurd ((stateless_row q (candidate_holds_nothing part c q kind is)).quiet p (side (side_of (row_of q) p) e))
enable_other part c p (a_part k child twin kind same) e = absurd (cc)

-- a cell of a component, by what stands at its new number
pub record PartAt (i j : Instance) (c : ℕ) (twin : Instance) : Type 0 where
  pub child : Instance
  pub there : cell_at (cells_of i) c ≡ OfInstance child
  pub part : part_of twin ≡ shared_part (part_of child)
  pub other : is_candidate (part_of i) c ≡ false

module _ (i j : Instance) (shares : Shares i j) where
  abbrev new : ℕ → ℕ
  new = new_cell (part_of i)

  abbrev move : PortRef → PortRef
  move = renamed new

  pub part_at : (c : ℕ) (twin : Instance) → cell_at (cells_of j) (new c) ≡ OfInstance twin → PartAt i j c twin
  part_at c twin e = by (cell_at (cells_of i) c) refl (cell_at (cells_of j) (new c)) e (shares.cells c)
    where
      by : (at : At) → cell_at (cells_of i) c ≡ at → (to : At) → to ≡ OfInstance twin → AtShared (part_of i) c at to → PartAt i j c twin
      by at is to e2 no_cell = absurd (cc)
      by at is to e2 (a_row q kind) = absurd (cc)
      by at is to e2 (a_part k child own kind same) =
          let twins : own ≡ twin = cc in
          record { child = child; there = is; part = ap part_of (sym twins) ∙ same; other = part_other (part_of i) c k kind }

  -- a call in the shared design is one of the design
  pub record CallBack (g e : ℕ) (twin : Instance) : Type 0 where
    pub cell : ℕ
    pub number : new cell ≡ e
    pub at : PartAt i j cell twin
    pub dynamic : (part_of twin).latency ≡ None
    pub driven : some_target (is_port_of cell) (assigns_of i g) ≡ true

  abbrev old_calls : (g e : ℕ) (twin : Instance) (b : CallBack g e twin) → Calls i (assigns_of i g) b.cell
  old_calls g e twin b = record { child = b.at.child; is_component = b.at.there; dynamic = sym (ap (λ (part : PlainComponent). part.latency) b.at.part) ∙ b.dynamic; driven = b.driven }

  pub call_back : (g e : ℕ) (calls : Calls j (assigns_of j g) e) → CallBack g e calls.child
  call_back g e calls =
      let a = a_target (is_port_of e) (assigns_of j g) calls.driven in
      let n = port_of_is e a.0.target a.2 in
      let x = image_in (moved_assign move) (assigns_of i g) a.0 (subst (λ list. In list a.0) (own_assigns shares g) a.1) in
      let t = stands_for new x.0.target e n.0 (ap (λ (z : PlainAssign). z.target) x.2 ∙ n.1) in
      let at = part_at t.own calls.child (ap (cell_at (cells_of j)) t.number ∙ calls.is_component) in
      record {
        cell = t.own;
        number = t.number;
        at = at;
        dynamic = calls.dynamic;
        driven = some_in (is_port_of t.own) (assigns_of i g) x.0 x.1 (ap (is_port_of t.own) t.is ∙ eq-eqb t.own t.own refl);
      }

  -- a register keeps its kind
  register_kept : (r : ℕ) → is_candidate (part_of i) r ≡ false → is_register (part_of j) (new r) ≡ is_register (part_of i) r
  register_kept r other =
      ap (λ (x : PlainComponent). is_register x (new r)) shares.part
      ∙ register_kind (remaining (stays (part_of i)) 0 (part_of i).cells) (new r)
      ∙ ap is_reg_kind (shared_kind (part_of i) r)
      ∙ sym (register_kind (part_of i).cells r)

  -- THE CONDITIONS on one call
  module _ (g e : ℕ) (twin : Instance) (back : CallBack g e twin) where
    abbrev c : ℕ
    c = back.cell

    abbrev child : Instance
    child = back.at.child

    apart_at : (p : ℕ) → IsApart move (ports.Cell c p)
    apart_at p = cell_apart new c p (sole (part_of i) c back.at.other)

    go_is : go_port e ≡ move (go_port c)
    go_is = ap (λ x. ports.Cell x 0) (sym back.number)

    done_is : done_port e twin ≡ move (done_port c child)
    done_is = ap₂ (λ x (y : PlainComponent). ports.Cell x (suc (length y.inputs + length y.outputs))) (sym back.number) back.at.part

    ports_is : (p : ℕ) → part_port (part_of twin) p ≡ part_port (part_of child) p
    ports_is p = ap (λ x. part_port x p) back.at.part

    of_target : (q : PortRef) → IsApart move q → with_target (move q) (assigns_of j g) ≡ map (moved_assign move) (with_target q (assigns_of i g))
    of_target q apart = ap (with_target (move q)) (own_assigns shares g) ∙ with_target-moved move (one_kept new) Anywhere q (apart_alone move q apart) (assigns_of i g) (all_anywhere (assigns_of i g))

    go_kept : is_right_go (done_port e twin) (with_target (go_port e) (assigns_of j g)) ≡ is_right_go (done_port c child) (with_target (go_port c) (assigns_of i g))
    go_kept =
        ap₂ (λ d p. is_right_go d (with_target p (assigns_of j g))) done_is go_is
        ∙ ap (is_right_go (move (done_port c child))) (of_target (go_port c) (apart_at 0))
        ∙ is_right_go-moved move (one_kept new) Anywhere (done_port c child) (apart_alone move (done_port c child) (apart_at _)) (with_target (go_port c) (assigns_of i g)) (all_anywhere (with_target (go_port c) (assigns_of i g)))

    enable_kept : (q : PortRef) → is_primitive_enable i q ≡ true
        → (is_register_enable (part_of j) (move q) && is_right_enable (done_port e twin) (with_target (move q) (assigns_of j g)))
        ≡ (is_register_enable (part_of i) q && is_right_enable (done_port c child) (with_target q (assigns_of i g)))
    enable_kept (ports.Cell r p) h =
        let other = enable_other (part_of i) r p (shares.cells r) h in
        ap₂ ◌&&◌ (ap (λ b. b && nat_eq p 1) (register_kept r other))
        (ap (λ d. is_right_enable d (with_target (move (ports.Cell r p)) (assigns_of j g))) done_is
        ∙ ap (is_right_enable (move (done_port c child))) (of_target (ports.Cell r p) (cell_apart new r p (sole (part_of i) r other)))
        ∙ is_right_enable-moved move (one_kept new) Anywhere (done_port c child) (apart_alone move (done_port c child) (apart_at _)) (with_target (ports.Cell r p) (assigns_of i g)) (all_anywhere (with_target (ports.Cell r p) (assigns_of i g))))
    enable_kept (ports.Input n) h = absurd (cc)
    enable_kept (ports.Output n) h = absurd (cc)
    enable_kept (ports.Done h2) h = absurd (cc)
    enable_kept (ports.Literal w v) h = absurd (cc)

    wanted_kept : (rs : List ℕ) → wanted_dones (move (done_port c child)) (map new rs) ≡ map move (wanted_dones (done_port c child) rs)
    wanted_kept [] = refl
    wanted_kept (r ∷ rs) = ap (λ list. register_done (new r) ∷ list) (each rs)
      where
        each : (list : List ℕ) → map register_done (map new list) ≡ map move (map register_done list)
        each [] = refl
        each (x ∷ xs) = ap (λ z. register_done (new x) ∷ z) (each xs)

    wanted_apart : (rs : List ℕ) → ((r : ℕ) → In rs r → is_candidate (part_of i) r ≡ false) → (w : PortRef) → In (wanted_dones (done_port c child) rs) w → IsApart move w
    wanted_apart [] other w (inl same) = subst (IsApart move) same (apart_at _)
    wanted_apart [] other w (inr k) = absurd k
    wanted_apart (r ∷ rs) other w (inl same) = subst (IsApart move) same (cell_apart new r 3 (sole (part_of i) r (other r (inl refl))))
    wanted_apart (r ∷ rs) other w (inr k) =
        let x = image_in register_done rs w k in
        subst (IsApart move) x.2 (cell_apart new x.0 3 (sole (part_of i) x.0 (other x.0 (inr x.1))))

    captured_kept : captured (part_of j) (assigns_of j g) ≡ map new (captured (part_of i) (assigns_of i g))
    captured_kept = ap₂ captured shares.part (own_assigns shares g) ∙ captured-shared (part_of i) (assigns_of i g)

    done_kept : is_right_done (wanted_dones (done_port e twin) (captured (part_of j) (assigns_of j g))) (with_target (ports.Done g) (assigns_of j g))
        ≡ is_right_done (wanted_dones (done_port c child) (captured (part_of i) (assigns_of i g))) (with_target (ports.Done g) (assigns_of i g))
    done_kept =
        ap₂ (λ d rs. is_right_done (wanted_dones d rs) (with_target (ports.Done g) (assigns_of j g))) done_is captured_kept
        ∙ ap₂ is_right_done (wanted_kept (captured (part_of i) (assigns_of i g))) (of_target (ports.Done g) (done_apart new g))
        ∙ is_right_done-moved move (one_kept new) Anywhere (wanted_dones (done_port c child) (captured (part_of i) (assigns_of i g)))
        (λ w k. apart_alone move w (wanted_apart (captured (part_of i) (assigns_of i g)) (captured_other (part_of i) (assigns_of i g)) w k))
        (with_target (ports.Done g) (assigns_of i g)) (all_anywhere (with_target (ports.Done g) (assigns_of i g)))

    -- what an input of the cell depends on
    fed_back : (p : ℕ) → IsFedBack j g e twin p → IsFedBack i g c child p
    fed_back p ((n, input), (q, output, depends)) =
        let d : Depends j (group g) (move (ports.Cell c p)) (ports.Cell e q) = subst (λ x. Depends j (group g) (ports.Cell x p) (ports.Cell e q)) (sym back.number) depends in
        let r = group_depends_back i j shares g (ports.Cell c p) (ports.Cell e q) (inl back.at.other) d in
        let t = stands_for new r.0 e q r.1 in
        let same : t.own ≡ c = sole (part_of i) c back.at.other t.own (t.number ∙ sym back.number) in
        ((n, sym (ports_is p) ∙ input), (q, out output, subst (Depends i (group g) (ports.Cell c p)) (t.is ∙ ap (λ x. ports.Cell x q) same) r.2))
      where
        out : IsOutputOrDone twin q → IsOutputOrDone child q
        out (inl (m, is)) = inl (m, sym (ports_is q) ∙ is)
        out (inr is) = inr (sym (ports_is q) ∙ is)

    -- the port of the cell that a renamed port is of
    cell_of : (p : ℕ) (t : PortRef) → move t ≡ ports.Cell e p → t ≡ ports.Cell c p
    cell_of p t is =
        let s = stands_for new t e p is in
        s.is ∙ ap (λ x. ports.Cell x p) (sole (part_of i) c back.at.other s.own (s.number ∙ sym back.number))

    break_back : (t target : PortRef) → move t ≡ target → CallBreak j g e twin target → CallBreak i g c child t
    break_back t target is (another_cell ((f, calls, differs), part)) =
        let b = call_back g f calls in
        another_cell ((b.cell, old_calls g f calls.child b, (λ same. differs (sym b.number ∙ ap new same ∙ back.number))), sym (is_part_port-shared shares t) ∙ ap (is_part_port j) is ∙ part)
    break_back t target is (wrong_go wrong) = subst (CallBreak i g c child) (sym (cell_of 0 t is)) (wrong_go (sym go_kept ∙ wrong))
    break_back t target is (input_by_output p back_fed) = subst (CallBreak i g c child) (sym (cell_of p t is)) (input_by_output p (fed_back p back_fed))
    break_back t target is (wrong_enable enable wrong) =
        let on : is_primitive_enable i t ≡ true = sym (is_primitive_enable-shared shares t) ∙ ap (is_primitive_enable j) is ∙ enable in
        wrong_enable on (sym (enable_kept t on) ∙ ap (λ p. is_register_enable (part_of j) p && is_right_enable (done_port e twin) (with_target p (assigns_of j g))) is ∙ wrong)
    break_back t target is (wrong_done wrong) = subst (CallBreak i g c child) (sym (done_apart new g t is)) (wrong_done (sym done_kept ∙ wrong))

  -- THE RULE
  module _ (o : Owned) where
    outside_back : IsOutside j (moved_owned move o) → IsOutside i o
    outside_back (is, inl none) = (sym (is_part_port-shared shares o.assign.target) ∙ is, inl none)
    outside_back (is, inr (g, owner, other)) = (sym (is_part_port-shared shares o.assign.target) ∙ is, inr (g, owner, ap (λ (x : PlainGroup). is_plain x.kind) (sym (group_at-shared shares g)) ∙ other))

    misshapen_back : IsMisshapen j (moved_owned move o) → IsMisshapen i o
    misshapen_back m =
        let b = call_back m.group m.cell m.calls in
        record {
          group = m.group;
          owner = m.owner;
          plain = ap (λ (x : PlainGroup). is_plain x.kind) (sym (group_at-shared shares m.group)) ∙ m.plain;
          cell = b.cell;
          calls = old_calls m.group m.cell m.calls.child b;
          breaks = break_back m.group m.cell m.calls.child b o.assign.target (move o.assign.target) refl m.breaks;
        }

    pub call_shape_back : (place : Place) (name : List ℕ) → BreaksCallShape j (moved_owned move o) place name → ByAssign BreaksCallShape i o
    call_shape_back place name (inl outside, told) = (_, _, (inl (outside_back outside), (refl, refl)))
    call_shape_back place name (inr misshapen, told) = (_, _, (inr (misshapen_back misshapen), (refl, refl)))

  pub group_call_back : (g : ℕ) (place : Place) (name : List ℕ) → GroupBreaksCallShape j g place name → ByGroup GroupBreaksCallShape i g
  group_call_back g place name (plain, (e, calls, bad), told) =
      let b = call_back g e calls in
      let go : some_target (same_port (go_port e)) (assigns_of j g) ≡ some_target (same_port (go_port b.cell)) (assigns_of i g) =
      ap₂ (λ x list. some_target (same_port (go_port x)) list) (sym b.number) (own_assigns shares g)
      ∙ some_target-moved move (same_port (go_port b.cell)) (same_port (go_port (new b.cell)))
      (apart_right move (go_port b.cell) (cell_apart new b.cell 0 (sole (part_of i) b.cell b.at.other))) (assigns_of i g) in
      let done : some_target (is_hole_of g) (assigns_of j g) ≡ some_target (is_hole_of g) (assigns_of i g) =
      ap (some_target (is_hole_of g)) (own_assigns shares g) ∙ some_target-moved move (is_hole_of g) (is_hole_of g) (hole_of_kept new g) (assigns_of i g) in
      (_, _, (ap (λ (x : PlainGroup). is_plain x.kind) (sym (group_at-shared shares g)) ∙ plain, (b.cell, old_calls g e calls.child b, sym (ap₂ ◌&&◌ go done) ∙ bad), (refl, refl)))
