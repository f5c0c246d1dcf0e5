-- WHAT LEADS BACK TO NO INPUT of the signature in the tree leads back to none in the flat instance: no continuous assignment of a static
-- component names an input, so nothing leads out of its block.
use Rattle.std.proofs.Common.{◌≡◌, ℕ, ◌+◌, ◌-◌, ◌<◌, ◌≤◌, inl, inr, ⊎_elim, Bool, true, false, length, map, Option, Some, None, refl, sym, ap, ◌∙◌, subst, arith}
use Rattle.cx_text.proofs.MemberLaws.{image_in, in_either}
use Rattle.cx_text.specs.Members.{In}
use Rattle.cx_prim.specs.declared.ports.Side.{Side}
use Rattle.cx_prim.specs.declared.ports.Side.TheVariants as sides
use Rattle.cx_prim.specs.Rows.{Row, is_output_side}
use Rattle.cx_meaning.specs.declared.ports.PortRef.{PortRef}
use Rattle.cx_meaning.specs.declared.ports.PortRef.TheVariants as ports
use Rattle.cx_meaning.specs.Rows.{side_of}
use Rattle.cx_meaning.specs.Designs.{PlainAssign, PlainComponent}
use Rattle.cx_meaning.specs.Instances.{Instance, Node, Cells, At, Nothing, OfRow, OfInstance, part_of, cells_of, cell_at}
use Rattle.cx_meaning.specs.Active.{nothing, Owned, source_order, offset_of, same_port, drivers}
use Rattle.cx_meaning.specs.Sights.{PartPort, Go, AnInput, AnOutput, ItsDone, part_port}
use Rattle.cx_meaning.proofs.InstancesLemmas.{row_is, row_instance}
use Rattle.cx_meaning.proofs.PortsLemmas.{same_self}
use Rattle.cx_rules.specs.Footprints.{AssignNames, Mentions, SideLeads, PartLeads, CellLeads, Leads, Depends, at_once, by_way_of}
use Rattle.cx_rules.specs.Ports.{is_source_only, is_cell_output, is_part_output}
use Rattle.cx_rules.specs.ShapeRules.{LeadsToInput}
use Rattle.cx_rules.proofs.FoundLemmas.{same_is}
use Rattle.cx_rewrites.specs.Moving.{moved_assign}
use Rattle.cx_rewrites.proofs.ClosedLemmas.{is_closed}
use Rattle.cx_rewrites.proofs.ReflectLemmas.{names_back}
use Rattle.cx_flattening.specs.Whole.{is_static}
use Rattle.cx_flattening.specs.Flattened.{Kids, kid_at, kept, kept_at, start_of, wire_at, port_if, own_port, child_port, always_from, flat_part, flat_kids}
use Rattle.cx_flattening.specs.Targets.{OwnTarget}
use Rattle.cx_flattening.specs.Embedded.{IsFlattened}
use Rattle.cx_flattening.specs.Levels.{IsKnown}
use Rattle.cx_flattening.specs.Fair.{IsNamed, IsFair}
use Rattle.cx_flattening.proofs.FlatBlocks.{kid_always}
use Rattle.cx_flattening.proofs.LevelSights.{kid-static}
use Rattle.cx_flattening.proofs.Placing.{kept_less}
use Rattle.cx_flattening.proofs.PortLemmas.{own-kept, own_same}
use Rattle.cx_flattening.proofs.RestingPorts.{OfOne, owner_of}
use Rattle.cx_flattening.proofs.RestingSeats.{mentioned}
use Rattle.cx_flattening.proofs.Ruled.{IsRuled}
use Rattle.cx_flattening.proofs.Standing.{embedded_row, embedded_dynamic}

module _ (part : PlainComponent) (cells : Cells) (fair : IsFair (Node part cells)) (ruled : IsRuled part (Node part cells)) where
  abbrev i : Instance
  i = Node part cells

  abbrev kids : Kids
  kids = flat_kids cells

  -- what a continuous assignment drives leads to what it names
  side_leads : (row : Row) (c p : ℕ) (q : PortRef) (side : Side) → is_output_side side ≡ false → Mentions (drivers part nothing (ports.Cell c p)) q → SideLeads part nothing row c p side q
  side_leads row c p q sides.Enable e m = m
  side_leads row c p q sides.Plain e m = m
  side_leads row c p q sides.Output e m = absurd (let clash : true ≡ false = e in cc)
  side_leads row c p q sides.Registered e m = absurd (let clash : true ≡ false = e in cc)

  part_leads : (c p : ℕ) (q : PortRef) (port : PartPort) → is_part_output port ≡ false → Mentions (drivers part nothing (ports.Cell c p)) q → PartLeads part nothing c p port q
  part_leads c p q Go e m = m
  part_leads c p q (AnInput n) e m = m
  part_leads c p q (AnOutput n) e m = absurd (let clash : true ≡ false = e in cc)
  part_leads c p q ItsDone e m = absurd (let clash : true ≡ false = e in cc)

  cell_leads : (c p : ℕ) (q : PortRef) (x : At) → (x ≡ Nothing → ⊥) → is_cell_output x p ≡ false → Mentions (drivers part nothing (ports.Cell c p)) q → CellLeads part nothing c p x q
  cell_leads c p q Nothing some e m = absurd (some refl)
  cell_leads c p q (OfRow row) some e m = side_leads row c p q (side_of row p) e m
  cell_leads c p q (OfInstance child) some e m = part_leads c p q (part_port (part_of child) p) e m

  target_leads : (t q : PortRef) → OwnTarget kids part t → is_source_only i t ≡ false → Mentions (drivers part nothing t) q → Leads i nothing t q
  target_leads (ports.Cell c p) q own e m = cell_leads c p q (cell_at cells c) (fair.counts c own.0) e m
  target_leads (ports.Input n) q own e m = absurd own
  target_leads (ports.Output n) q own e m = m
  target_leads (ports.Done g) q own e m = m
  target_leads (ports.Literal w v) q own e m = absurd own

  -- no further, either
  abbrev NoInput : PortRef → Type 0
  NoInput q = LeadsToInput i q → ⊥

  leads_on : (p q : PortRef) → Leads i nothing p q → NoInput p → NoInput q
  leads_on p q lead none to = none (to.0, ⊎_elim (λ e. inr (at_once (subst (Leads i nothing p) e lead))) (λ d. inr (by_way_of q lead d)) to.1)

  -- the caller's own ports stand before all blocks, and are kept apart
  own_low : (t : PortRef) → OwnTarget kids part t → (e p : ℕ) → own_port kids part t ≡ ports.Cell e p → e < length (kept kids part.cells)
  own_low (ports.Cell c r) own e p same =
      let number : kept_at kids c ≡ e = (let f : ports.Cell (kept_at kids c) r ≡ ports.Cell e p = sym (own-kept kids part c r own.1) ∙ same in cc) in
      subst (λ k. k < length (kept kids part.cells)) number (kept_less kids part.cells c own.0 own.1)
  own_low (ports.Input n) own e p same = absurd own
  own_low (ports.Output n) own e p same = absurd (cc)
  own_low (ports.Done g) own e p same = absurd (cc)
  own_low (ports.Literal w v) own e p same = absurd own

  same_target : (t q : PortRef) → OwnTarget kids part t → OwnTarget kids part q → own_port kids part t ≡ own_port kids part q → t ≡ q
  same_target t q own its e = same_is t q (sym (own_same kids part t q own its) ∙ ap (λ x. same_port x (own_port kids part q)) e ∙ same_self (own_port kids part q))

  own_is : (t q : PortRef) → OwnTarget kids part t → IsKnown i q → NoInput q → own_port kids part t ≡ own_port kids part q → t ≡ q
  own_is t (ports.Cell d r) own known none e = by (kid_at kids d) refl
    where
      by : (k : Option PlainComponent) → kid_at kids d ≡ k → t ≡ ports.Cell d r
      by None its = same_target t (ports.Cell d r) own (known.0, its) e
      by (Some kid) its =
          absurd (let less = own_low t own (wire_at kids part kid d (r - 1 - length kid.inputs)) 1 (e ∙ ap (λ k. port_if kids part k d r) its) in omega (arith, less))
  own_is t (ports.Input n) own known none e = absurd (none (n, inl refl))
  own_is t (ports.Output n) own known none e = same_target t (ports.Output n) own tt e
  own_is t (ports.Done g) own known none e = same_target t (ports.Done g) own tt e
  own_is (ports.Cell c p) (ports.Literal w v) own known none e = absurd (let clash : ports.Cell (kept_at kids c) p ≡ ports.Literal w v = sym (own-kept kids part c p own.1) ∙ e in cc)
  own_is (ports.Input n) (ports.Literal w v) own known none e = absurd own
  own_is (ports.Output n) (ports.Literal w v) own known none e = absurd (cc)
  own_is (ports.Done g) (ports.Literal w v) own known none e = absurd (cc)
  own_is (ports.Literal x y) (ports.Literal w v) own known none e = absurd own

  known_of : (q : PortRef) → IsNamed i q → IsKnown i q
  known_of (ports.Cell c p) h = h
  known_of (ports.Input n) h = tt
  known_of (ports.Output n) h = tt
  known_of (ports.Done g) h = tt
  known_of (ports.Literal w v) h = tt

  -- DRY PORTS of the flat instance: those of ports that lead to no input, those of blocks, literals and holes
  data Dry (x : PortRef) : Type 0 where
    of_own : (q : PortRef) → IsKnown i q → NoInput q → x ≡ own_port kids part q → Dry x
    of_block : (e p : ℕ) → length (kept kids part.cells) ≤ e → x ≡ ports.Cell e p → Dry x
    of_literal : (w v : ℕ) → x ≡ ports.Literal w v → Dry x
    of_hole : (g : ℕ) → x ≡ ports.Done g → Dry x

  no_hole : (b : PlainAssign) → In part.always b → (g : ℕ) → own_port kids part b.target ≡ ports.Done g → ⊥
  no_hole b j g e = none (same_target b.target (ports.Done g) (fair.targets.always b j) tt e)
    where
      none : b.target ≡ ports.Done g → ⊥
      none f = let clash : ◌≡◌ {A = Option ℕ} None (Some g) = (ruled.assigns None b j).own_hole g f in cc

  own_dry : (b : PlainAssign) (q : PortRef) → In part.always b → AssignNames b q → Dry (own_port kids part b.target) → Dry (own_port kids part q)
  own_dry b q j names (of_own r known none e) =
      let own = fair.targets.always b j in
      let same = own_is b.target r own known none e in
      of_own q (known_of q (fair.names b q (inl j) names))
      (leads_on b.target q (target_leads b.target q own (fair.not_source b (inl j)) (mentioned part b.target q b j refl names)) (subst NoInput (sym same) none)) refl
  own_dry b q j names (of_block e p past same) = absurd (let less = own_low b.target (fair.targets.always b j) e p same in omega (arith, less, past))
  own_dry b q j names (of_literal w v e) = absurd (literal b.target (fair.targets.always b j) e)
    where
      literal : (t : PortRef) → OwnTarget kids part t → own_port kids part t ≡ ports.Literal w v → ⊥
      literal (ports.Cell c p) own f = let clash : ports.Cell (kept_at kids c) p ≡ ports.Literal w v = sym (own-kept kids part c p own.1) ∙ f in cc
      literal (ports.Input n) own f = own
      literal (ports.Output n) own f = cc
      literal (ports.Done g) own f = cc
      literal (ports.Literal x y) own f = own
  own_dry b q j names (of_hole g e) = absurd (no_hole b j g e)

  block_dry : (child : PlainComponent) (c : ℕ) (q : PortRef) → ((n : ℕ) → q ≡ ports.Input n → ⊥) → Dry (child_port kids part child c (λ n. ports.Input n) q)
  block_dry child c (ports.Cell e p) none = of_block (start_of kids part c + e) p (omega arith) refl
  block_dry child c (ports.Input n) none = absurd (none n refl)
  block_dry child c (ports.Output n) none = of_block (wire_at kids part child c n) 0 (omega arith) refl
  block_dry child c (ports.Done g) none = of_hole g refl
  block_dry child c (ports.Literal w v) none = of_literal w v refl

  -- what a continuous assignment of the flat component names, where its target is dry
  always_dry : (a : PlainAssign) (q : PortRef) → In (flat_part i).always a → Dry a.target → AssignNames a q → Dry q
  always_dry a q j dry names =
      ⊎_elim
      (λ k.
      let r = image_in (moved_assign (own_port kids part)) part.always a k in
      let n = names_back (own_port kids part) r.0 q (subst (λ x. AssignNames x q) (sym r.2) names) in
      subst Dry n.1 (own_dry r.0 n.0 r.1 n.2 (subst (λ (x : PlainAssign). Dry x.target) (sym r.2) dry)))
      (λ k.
      let h = kid_always kids part 0 kids a k in
      let n = names_back (child_port kids part h.child (0 + h.cell) (λ m. ports.Input m)) h.assign q (subst (λ x. AssignNames x q) (sym h.is) names) in
      subst Dry n.1 (block_dry h.child (0 + h.cell) n.0 (λ m e. (fair.targets.blocks h.cell h.child h.its).no_input h.assign m h.among (subst (AssignNames h.assign) e n.2))))
      (in_either (map (moved_assign (own_port kids part)) part.always) (always_from kids part 0 kids) a j)

  no_input : (n : ℕ) → Dry (ports.Input n) → ⊥
  no_input n (of_own (ports.Cell c p) known none e) = by (kid_at kids c) e
    where
      by : (k : Option PlainComponent) → ports.Input n ≡ port_if kids part k c p → ⊥
      by None f = cc
      by (Some kid) f = cc
  no_input n (of_own (ports.Input m) known none e) = none (m, inl refl)
  no_input n (of_own (ports.Output m) known none e) = cc
  no_input n (of_own (ports.Done g) known none e) = cc
  no_input n (of_own (ports.Literal w v) known none e) = cc
  no_input n (of_block c p past e) = cc
  no_input n (of_literal w v e) = cc
  no_input n (of_hole g e) = cc

  module _ (flat : Instance) (flattened : IsFlattened (Node part cells) flat) where
    zero_plus : (a : ℕ) → 0 + a ≡ a
    zero_plus a = omega arith

    there : (x : At) (d : ℕ) → cell_at (cells_of flat) (0 + kept_at kids (0 + d)) ≡ x → cell_at (cells_of flat) (kept_at kids d) ≡ x
    there x d e = ap (cell_at (cells_of flat)) (sym (zero_plus (kept_at kids d))) ∙ ap (λ k. cell_at (cells_of flat) (0 + kept_at kids k)) (sym (zero_plus d)) ∙ e

    -- an output of a row that is kept reads as in the tree
    module _ (c p m d : ℕ) (row : Row) (at : cell_at (cells_of flat) c ≡ OfRow row) (side : side_of row p ≡ sides.Output) (reads : row.reads p m ≡ true)
        (less : d < length part.cells) (none : NoInput (ports.Cell d p)) (its : kid_at kids d ≡ None) (number : c ≡ kept_at kids d) where
      same_at : cell_at (cells_of flat) (kept_at kids d) ≡ OfRow row
      same_at = ap (cell_at (cells_of flat)) (sym number) ∙ at

      of_row : (other : Row) → cell_at cells d ≡ OfRow other → Dry (ports.Cell c m)
      of_row other f =
          let same : other ≡ row = row_is other row (sym (there (OfRow other) d (embedded_row kids part 0 (cells_of flat) cells 0 d other flattened.1 f)) ∙ same_at) in
          let is : cell_at cells d ≡ OfRow row = f ∙ ap OfRow same in
          let lead : Leads i nothing (ports.Cell d p) (ports.Cell d m) =
          subst (λ x. CellLeads part nothing d p x (ports.Cell d m)) (sym is) (subst (λ x. SideLeads part nothing row d p x (ports.Cell d m)) (sym side) (m, reads, refl)) in
          of_own (ports.Cell d m) (less, λ child e static. absurd (row_instance row child (sym is ∙ e))) (leads_on (ports.Cell d p) (ports.Cell d m) lead none)
          (ap (λ k. ports.Cell k m) number ∙ sym (own-kept kids part d m its))

      of_child : (child : Instance) → cell_at cells d ≡ OfInstance child → (b : Bool) → is_static child ≡ b → Dry (ports.Cell c m)
      of_child child f true static = absurd (let clash : ◌≡◌ {A = Option PlainComponent} None (Some (flat_part child)) = sym its ∙ kid-static cells d child f static in cc)
      of_child child f false dynamic =
          let t = embedded_dynamic kids part 0 (cells_of flat) cells 0 d child flattened.1 f dynamic in
          absurd (row_instance row t.0 (sym same_at ∙ there (OfInstance t.0) d t.1))

      of_cell : (x : At) → cell_at cells d ≡ x → Dry (ports.Cell c m)
      of_cell Nothing f = absurd (fair.counts d less f)
      of_cell (OfRow other) f = of_row other f
      of_cell (OfInstance child) f = of_child child f (is_static child) refl

    read_dry : (c p m : ℕ) (row : Row) → cell_at (cells_of flat) c ≡ OfRow row → side_of row p ≡ sides.Output → row.reads p m ≡ true → Dry (ports.Cell c p) → Dry (ports.Cell c m)
    read_dry c p m row at side reads (of_own (ports.Cell d r) known none e) = by (kid_at kids d) refl e
      where
        by : (k : Option PlainComponent) → kid_at kids d ≡ k → ports.Cell c p ≡ port_if kids part k d r → Dry (ports.Cell c m)
        by None its f =
            let number : c ≡ kept_at kids d = cc in
            let port : r ≡ p = cc in
            of_cell c p m d row at side reads known.0 (subst (λ x. NoInput (ports.Cell d x)) port none) its number (cell_at cells d) refl
        by (Some kid) its f = let number : c ≡ wire_at kids part kid d (r - 1 - length kid.inputs) = cc in of_block c m (omega (arith, number)) refl
    read_dry c p m row at side reads (of_own (ports.Input n) known none e) = absurd (cc)
    read_dry c p m row at side reads (of_own (ports.Output n) known none e) = absurd (cc)
    read_dry c p m row at side reads (of_own (ports.Done g) known none e) = absurd (cc)
    read_dry c p m row at side reads (of_own (ports.Literal w v) known none e) = absurd (cc)
    read_dry c p m row at side reads (of_block d r past e) = let number : c ≡ d = cc in of_block c m (omega (arith, number, past)) refl
    read_dry c p m row at side reads (of_literal w v e) = absurd (cc)
    read_dry c p m row at side reads (of_hole g e) = absurd (cc)

    named_dry : (o : Owned) (k : ℕ) (q : PortRef) → In (source_order (part_of flat)) o → offset_of nothing o.owner ≡ Some k → Dry o.assign.target → AssignNames o.assign q → Dry q
    named_dry o k q j active dry names =
        ⊎_elim
        (λ h. always_dry o.assign q (subst (λ l. In l o.assign) flattened.0.always h.1) dry names)
        (λ (h : OfOne (part_of flat) o). absurd (let clash : ◌≡◌ {A = Option ℕ} None (Some k) = sym (ap (offset_of nothing) h.owner) ∙ active in cc))
        (owner_of (part_of flat) o j)

    dry_on : (p q : PortRef) → Dry p → Depends flat nothing p q → Dry q
    dry_on p q dry (at_once lead) = is_closed flat nothing Dry named_dry read_dry p q dry lead
    dry_on p q dry (by_way_of r lead more) = dry_on r q (is_closed flat nothing Dry named_dry read_dry p r dry lead) more

    -- IT LEADS TO NO INPUT
    pub leads_to_none : (q : PortRef) → IsNamed (Node part cells) q → (LeadsToInput (Node part cells) q → ⊥) → LeadsToInput flat (own_port (flat_kids cells) part q) → ⊥
    leads_to_none q its none (n, inl e) = no_input n (of_own q (known_of q its) none (sym e))
    leads_to_none q its none (n, inr d) = no_input n (dry_on (own_port kids part q) (ports.Input n) (of_own q (known_of q its) none refl) d)
