-- In an accepted design each value that is seen has the width of its port.
use Rattle.std.proofs.Common.{◌≡◌, ℕ, zero, suc, ◌+◌, ◌<◌, inr, Bool, true, false, Some, None, List, [], ◌∷◌, length, if◌then◌else◌, refl, sym, ap, ◌∙◌, subst, arith}
use Rattle.std.specs.Prelude.{slice_get, option_map}
use Rattle.std.proofs.lemmas.Option.{slice_get_within}
use Rattle.cx_bits.specs.BitVector.{BitVector}
use Rattle.cx_prim.specs.declared.ports.PortRow.{PortRow}
use Rattle.cx_prim.specs.declared.ports.Side.{Side}
use Rattle.cx_prim.specs.declared.ports.Side.TheVariants as sides
use Rattle.cx_prim.specs.CellStates.{IsState}
use Rattle.cx_prim.specs.Rows.{Inputs, input, Row, is_output_side}
use Rattle.cx_meaning.specs.declared.ports.PortRef.{PortRef}
use Rattle.cx_meaning.specs.declared.ports.PortRef.TheVariants as ports
use Rattle.cx_meaning.specs.declared.sights.Seen.{Seen}
use Rattle.cx_meaning.specs.declared.sights.Seen.TheVariants.{Value, Undefined}
use Rattle.cx_meaning.specs.Rows.{side_from, side_of}
use Rattle.cx_meaning.specs.Designs.{PlainComponent, PlainDesign}
use Rattle.cx_meaning.specs.Instances.{Instance, At, OfRow, OfInstance, cell_at, cells_of, part_of, tree_of, Path, State, instance_at, under}
use Rattle.cx_meaning.specs.Active.{Active, source_order, drivers}
use Rattle.cx_meaning.specs.Sights.{Look, Below, Held, bit_of, target_seen, Given, gather, PartPort, Go, AnInput, AnOutput, ItsDone, part_port, side_step, part_step, cell_step, step, is_done_cell, TargetNeeds, SideNeeds, PartNeeds, CellNeeds, Needs, Sees, by_step, seen}
use Rattle.cx_rules.specs.Accepted.{IsAccepted}
use Rattle.cx_rules.specs.Circles.{IsAcyclic}
use Rattle.cx_rules.specs.Ports.{keeps_literal, declared_width, part_width, cell_width, width_of}
use Rattle.cx_rules.specs.WidthRules.{IsBadLiteral}
use Rattle.cx_rules.specs.Wellformed.{IsDesign, IsThere, port_count}
use Rattle.cx_rules.proofs.FoundLemmas.{acting_in, seen_found}
use Rattle.cx_rules.proofs.CircleLemmas.{instance_acyclic}
use Rattle.cx_laws.specs.Widths.{HoldsStates, HoldsWidths}
use Rattle.cx_laws.proofs.RowWidths.{HasWidths, enable_width}
use Rattle.cx_laws.proofs.SightWidths.{Comes, not_driven, of_source, target_comes, output_comes, given_found}
use Rattle.cx_laws.proofs.TreeLemmas.{output_there, StandsBeside, no_cell, of_row, of_part, InTree, IsBeside, into_child, is_beside, path_in_tree}
use Rattle.cx_text.proofs.OptionLaws.{some_is}
use Rattle.cx_rules.proofs.CirclesLemmas.{cells_below}
use Rattle.cx_rules.proofs.WidthRulesLemmas.{not_bad}
use Rattle.cx_meaning.proofs.SightsLaws.{option_is}
use Rattle.cx_meaning.proofs.InstancesLemmas.{here}

bit_width : (t : Bool) (b : BitVector) → bit_of t ≡ Value b → 1 ≡ b.width
bit_width true b e = let f : record { width = 1; value = 1 } ≡ b = cc in ap (λ (x : BitVector). x.width) f
bit_width false b e = let f : record { width = 1; value = 0 } ≡ b = cc in ap (λ (x : BitVector). x.width) f

literal_width : (w v : ℕ) (b : BitVector) → Value (record { width = w; value = v }) ≡ Value b → w ≡ b.width
literal_width w v b e = let f : record { width = w; value = v } ≡ b = cc in ap (λ (x : BitVector). x.width) f

pub side_there : (list : List PortRow) (p : ℕ) → p < length list → (port : PortRow) × (slice_get list p ≡ Some port) × (side_from list p ≡ port.side)
side_there [] p h = absurd (omega arith)
side_there (port ∷ list) zero h = (port, refl, refl)
side_there (port ∷ list) (suc p) h = side_there list p (let k : suc p < suc (length list) = h in omega arith)

no_literal_output : (n : ℕ) → IsBadLiteral (ports.Output n) → ⊥
no_literal_output n (w, v, e, f) = cc

-- ONE STEP, where what it needs and the outputs below have their widths
module _ (d : PlainDesign) (i whole : Instance) (beside : IsBeside d i whole) (act : Active) (s : State) (look : Look) (below : Below) where
  -- the values of the ports that are needed have their widths in the component
  abbrev AreWideAt : (PortRef → Type 0) → Type 0
  AreWideAt needs = (q : PortRef) → needs q → IsThere whole q → (IsBadLiteral q → ⊥) → (b : BitVector) → look q ≡ Value b → width_of whole q ≡ Some b.width

  target_wide : (undriven : Seen) (p : PortRef) → ((b : BitVector) → undriven ≡ Value b → width_of whole p ≡ Some b.width)
      → AreWideAt (TargetNeeds look (drivers (part_of i) act p)) → (b : BitVector) → target_seen undriven look (drivers (part_of i) act p) ≡ Value b → width_of whole p ≡ Some b.width
  target_wide undriven p alone needed b e = by (target_comes undriven look (drivers (part_of i) act p) b e)
    where
      by : Comes undriven look (drivers (part_of i) act p) b → width_of whole p ≡ Some b.width
      by (not_driven f) = alone b f
      by (of_source a stands taken f) =
          let r = acting_in act p (source_order (part_of i)) a stands in
          let keeps = beside.assigns r.0 r.1 in
          let source : r.0.assign.source.port ≡ a.assign.source.port = ap (λ x. x.source.port) (sym r.2) in
          let w = needed a.assign.source.port (inr taken) (subst (IsThere whole) source keeps.there) (subst (λ q. IsBadLiteral q → ⊥) source keeps.literal) b f in
          subst (λ q. width_of whole q ≡ Some b.width) r.3 (keeps.equal b.width (ap (width_of whole) source ∙ w))

  -- a port of a primitive cell
  side_wide : (row : Row) (c p : ℕ) → cell_at (cells_of whole) c ≡ OfRow row → HasWidths row → IsState row.shape (s (c ∷ [])) → c < length (part_of whole).cells → p < length row.ports
      → (side : Side) → side_of row p ≡ side → AreWideAt (SideNeeds (part_of i) act look row c p side)
      → (b : BitVector) → side_step (part_of i) act s look below row c p side ≡ Value b → width_of whole (ports.Cell c p) ≡ Some b.width
  side_wide row c p at_cell has of_state in_cells there sides.Enable f needed b e =
      let port = side_there row.ports p there in
      let one = ap (λ at. cell_width at p) at_cell ∙ ap (option_map (λ (q : PortRow). q.width)) port.1 ∙ ap Some (enable_width row has p port.0 port.1 (sym port.2 ∙ f)) in
      target_wide (bit_of false) (ports.Cell c p) (λ v g. one ∙ ap Some (bit_width false v g)) needed b e
  side_wide row c p at_cell has of_state in_cells there sides.Plain f needed b e = target_wide Undefined (ports.Cell c p) (λ v g. absurd (cc)) needed b e
  side_wide row c p at_cell has of_state in_cells there sides.Output f needed b e =
      let port = side_there row.ports p there in
      let r = output_comes (λ inputs. row.output (s (c ∷ [])) inputs p) (λ q. look (ports.Cell c q)) (row.reads p) 0 row.ports b e in
      let same = has.outputs (s (c ∷ [])) r.0 p port.0 b of_state (record { each = each r.0 r.1 }) port.1 (ap is_output_side (sym port.2 ∙ f)) r.2 in
      ap (λ at. cell_width at p) at_cell ∙ ap (option_map (λ (q : PortRow). q.width)) port.1 ∙ ap Some (sym same)
    where
      each : (inputs : Inputs) → gather (λ q. look (ports.Cell c q)) (row.reads p) 0 row.ports ≡ Given inputs → (n : ℕ) (port : PortRow) (v : BitVector) → slice_get row.ports n ≡ Some port → input inputs n ≡ Some v → v.width ≡ port.width
      each inputs gathered n port v at is =
          let found = given_found (λ q. look (ports.Cell c q)) (row.reads p) 0 row.ports inputs gathered n v is in
          let z : n ≡ 0 + n = omega arith in
          let value = ap (λ q. look (ports.Cell c q)) z ∙ found.value in
          let wanted = ap (row.reads p) z ∙ found.wanted_there in
          let w = needed (ports.Cell c n) (n, wanted, refl) (in_cells, subst (λ x. n < port_count x) (sym at_cell) (slice_get_within row.ports n port at)) (not_bad c n) v value in
          sym (some_is port.width v.width (sym (ap (λ x. cell_width x n) at_cell ∙ ap (option_map (λ (q : PortRow). q.width)) at) ∙ w))
  side_wide row c p at_cell has of_state in_cells there sides.Registered f needed b e =
      let port = side_there row.ports p there in
      let gives = option_is (row.output (s (c ∷ [])) [] p) b e in
      let same = has.outputs (s (c ∷ [])) [] p port.0 b of_state (record { each = λ n q v at is. absurd (let none : None ≡ Some v = is in cc) }) port.1 (ap is_output_side (sym port.2 ∙ f)) gives in
      ap (λ at. cell_width at p) at_cell ∙ ap (option_map (λ (q : PortRow). q.width)) port.1 ∙ ap Some (sym same)

  -- a port of a component cell
  part_wide : (c p : ℕ) (child other deep : Instance) → cell_at (cells_of whole) c ≡ OfInstance other → part_of child ≡ part_of other → part_of child ≡ part_of deep
      → (kind : PartPort) → part_port (part_of child) p ≡ kind → AreWideAt (PartNeeds (part_of i) act look c p kind)
      → ((n : ℕ) → IsThere deep (ports.Output n) → (b : BitVector) → below c n ≡ Value b → width_of deep (ports.Output n) ≡ Some b.width)
      → (b : BitVector) → part_step (part_of i) act s look below c p kind ≡ Value b → width_of whole (ports.Cell c p) ≡ Some b.width
  part_wide c p child other deep at_cell same alike kind f needed outputs b e = by kind (to_part ∙ ap (part_width (part_of child)) f) f needed e
    where
      to_part : width_of whole (ports.Cell c p) ≡ part_width (part_of child) (part_port (part_of child) p)
      to_part = ap (λ at. cell_width at p) at_cell ∙ ap (λ (x : PlainComponent). part_width x (part_port x p)) (sym same)

      by : (kind : PartPort) → width_of whole (ports.Cell c p) ≡ part_width (part_of child) kind → part_port (part_of child) p ≡ kind → AreWideAt (PartNeeds (part_of i) act look c p kind)
          → part_step (part_of i) act s look below c p kind ≡ Value b → width_of whole (ports.Cell c p) ≡ Some b.width
      by Go is f needed e = target_wide (bit_of false) (ports.Cell c p) (λ v g. is ∙ ap Some (bit_width false v g)) needed b e
      by (AnInput n) is f needed e = target_wide Undefined (ports.Cell c p) (λ v g. absurd (cc)) needed b e
      by (AnOutput n) is f needed e =
          is ∙ ap (λ (x : PlainComponent). declared_width x.outputs n) alike
          ∙ outputs n (subst (λ (x : PlainComponent). n < length x.outputs) alike (output_there (part_of child) p n f)) b e
      by ItsDone is f needed e = is ∙ ap Some (bit_width (is_done_cell act.done_cell c) b e)

  abbrev OutputsAreWide : PortRef → Type 0
  OutputsAreWide p =
      (c port n : ℕ) (child deep : Instance) → p ≡ ports.Cell c port → cell_at (cells_of i) c ≡ OfInstance child → InTree d child deep → IsThere deep (ports.Output n)
      → (b : BitVector) → below c n ≡ Value b → width_of deep (ports.Output n) ≡ Some b.width

  cell_wide : (c p : ℕ) {at other : At} → cell_at (cells_of i) c ≡ at → cell_at (cells_of whole) c ≡ other → c < length (part_of whole).cells → p < port_count other → HoldsStates i s
      → AreWideAt (CellNeeds (part_of i) act look c p at) → OutputsAreWide (ports.Cell c p)
      → (b : BitVector) → cell_step (part_of i) act s look below c p at ≡ Value b → StandsBeside (InTree d) at other → width_of whole (ports.Cell c p) ≡ Some b.width
  cell_wide c p e f in_cells there states needed outputs b is (no_cell other) = absurd (cc)
  cell_wide c p e f in_cells there states needed outputs b is (of_row row has) =
      side_wide row c p f has (states [] c row (ap (λ x. cell_at (cells_of x) c) (here i) ∙ e)) in_cells there (side_of row p) refl needed b is
  cell_wide c p e f in_cells there states needed outputs b is (of_part child other deep t same alike) =
      part_wide c p child other deep f same alike (part_port (part_of child) p) refl needed (λ n h v g. outputs c p n child deep refl e t h v g) b is

  step_wide : (held : Held) → HoldsWidths (part_of i) held → HoldsStates i s → (p : PortRef) → IsThere whole p → (IsBadLiteral p → ⊥) → AreWideAt (Needs i act look p) → OutputsAreWide p
      → (b : BitVector) → step i held act s look below p ≡ Value b → width_of whole p ≡ Some b.width
  step_wide held widths states (ports.Cell c p) there literal needed outputs b e = cell_wide c p refl refl there.0 there.1 states needed outputs b e (beside.cells c)
  step_wide held widths states (ports.Input n) there literal needed outputs b e = ap (λ (x : PlainComponent). declared_width x.inputs n) (sym beside.same) ∙ widths n b e
  step_wide held widths states (ports.Output n) there literal needed outputs b e = target_wide Undefined (ports.Output n) (λ v g. absurd (cc)) needed b e
  step_wide held widths states (ports.Done g) there literal needed outputs b e = target_wide (bit_of false) (ports.Done g) (λ v h. ap Some (bit_width false v h)) needed b e
  step_wide held widths states (ports.Literal w v) there literal needed outputs b e = by (keeps_literal w v) refl
    where
      by : (t : Bool) → keeps_literal w v ≡ t → width_of whole (ports.Literal w v) ≡ Some b.width
      by true f = ap (λ (t : Bool). if t then Some w else None) f ∙ ap Some (literal_width w v b e)
      by false f = absurd (literal (w, v, refl, f))

child_states : (i : Instance) (c : ℕ) (child : Instance) (s : State) → cell_at (cells_of i) c ≡ OfInstance child → HoldsStates i s → HoldsStates child (under c s)
child_states i c child s at states path e row f = states (c ∷ path) e row (ap (λ x. cell_at (cells_of x) e) (into_child i c child path at) ∙ f)

module _ (d : PlainDesign) (design : IsDesign d) (accepted : IsAccepted d) where
  -- by induction on how it is seen
  sees_wide : {i : Instance} {held : Held} {act : Active} {s : State} {p : PortRef} {x : Seen} (whole : Instance) → InTree d i whole → HoldsWidths (part_of i) held → HoldsStates i s
      → IsThere whole p → (IsBadLiteral p → ⊥) → (b : BitVector) → x ≡ Value b → Sees i held act s p x → width_of whole p ≡ Some b.width
  sees_wide {i} {held} {act} {s} {p} whole t widths states there literal b is (by_step look below needs children e) =
      step_wide d i whole (is_beside d design accepted t) act s look below held widths states p there literal
      (λ q n h l v f. sees_wide whole t widths states h l v f (needs q n))
      (λ c port n child deep named at below_it h v f.
      sees_wide deep below_it (λ m u g. absurd (let none : Undefined ≡ Value u = g in cc)) (child_states i c child s at states) h (no_literal_output n) v f (children c port n child named at))
      b (e ∙ is)

  -- the widths of an instance are those of its component
  cell_alike : {at other : At} (p : ℕ) → p < port_count at → StandsBeside (InTree d) at other → (p < port_count other) × (cell_width at p ≡ cell_width other p)
  cell_alike p h (no_cell other) = absurd (omega arith)
  cell_alike p h (of_row row has) = (h, refl)
  cell_alike p h (of_part child other deep t same alike) =
      (subst (λ (x : PlainComponent). p < 2 + length x.inputs + length x.outputs) same h, ap (λ (x : PlainComponent). part_width x (part_port x p)) same)

  port_alike : (i whole : Instance) → IsBeside d i whole → (p : PortRef) → IsThere i p → IsThere whole p × (width_of i p ≡ width_of whole p)
  port_alike i whole beside (ports.Cell c p) h =
      let r = cell_alike p h.1 (beside.cells c) in
      ((subst (λ (x : PlainComponent). c < length x.cells) beside.same h.0, r.0), r.1)
  port_alike i whole beside (ports.Input n) h = (subst (λ (x : PlainComponent). n < length x.inputs) beside.same h, ap (λ (x : PlainComponent). declared_width x.inputs n) beside.same)
  port_alike i whole beside (ports.Output n) h = (subst (λ (x : PlainComponent). n < length x.outputs) beside.same h, ap (λ (x : PlainComponent). declared_width x.outputs n) beside.same)
  port_alike i whole beside (ports.Done g) h = (subst (λ (x : PlainComponent). g < length x.groups) beside.same h, refl)
  port_alike i whole beside (ports.Literal w v) h = (tt, refl)

  module _ (path : Path) (held : Held) (act : Active) (s : State) (p : PortRef) (b : BitVector)
      (widths : HoldsWidths (part_of (instance_at (tree_of d) path)) held) (states : HoldsStates (instance_at (tree_of d) path) s)
      (there : IsThere (instance_at (tree_of d) path) p) (literal : IsBadLiteral p → ⊥) where
    pub sees_width : Sees (instance_at (tree_of d) path) held act s p (Value b) → width_of (instance_at (tree_of d) path) p ≡ Some b.width
    sees_width sees =
        let t = path_in_tree d design accepted path in
        let r = port_alike (instance_at (tree_of d) path) t.0 (is_beside d design accepted t.1) p there in
        r.1 ∙ sees_wide t.0 t.1 widths states r.0 literal b refl sees

    pub found_width : IsAcyclic (instance_at (tree_of d) path) act → seen (instance_at (tree_of d) path) held act s p ≡ Value b → width_of (instance_at (tree_of d) path) p ≡ Some b.width
    found_width acyclic e =
        let i = instance_at (tree_of d) path in
        sees_width (subst (λ x. Sees i held act s p x) e (seen_found i held act s acyclic (cells_below i (instance_acyclic d accepted path)) p))
