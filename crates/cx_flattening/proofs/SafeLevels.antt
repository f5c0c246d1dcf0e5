-- Where a port of an instance is safe, so is the port of a host that stands for it.
use Rattle.std.proofs.Common.{◌≡◌, ℕ, ◌+◌, ◌-◌, ◌<◌, Bool, true, false, length, map, None, refl, sym, ap, ◌∙◌, subst}
use Rattle.cx_prim.specs.declared.ports.Side.{Side}
use Rattle.cx_prim.specs.declared.ports.Side.TheVariants as sides
use Rattle.cx_prim.specs.Rows.{Row}
use Rattle.cx_meaning.specs.declared.ports.PortRef.{PortRef}
use Rattle.cx_meaning.specs.declared.ports.PortRef.TheVariants as ports
use Rattle.cx_meaning.specs.Rows.{side_of}
use Rattle.cx_meaning.specs.Instances.{Instance, At, Nothing, OfRow, OfInstance, part_of, cells_of, cell_at}
use Rattle.cx_meaning.specs.Active.{Active, drivers}
use Rattle.cx_meaning.specs.Sights.{PartPort, Go, AnInput, AnOutput, ItsDone, part_port}
use Rattle.cx_rules.specs.Footprints.{Mentions, SideLeads, PartLeads, CellLeads, Leads}
use Rattle.cx_laws.proofs.TreeLemmas.{output_there}
use Rattle.cx_rewrites.specs.Moving.{moved_acting}
use Rattle.cx_rewrites.proofs.ReflectLemmas.{mentions_back}
use Rattle.cx_flattening.specs.Whole.{is_static}
use Rattle.cx_flattening.specs.Flattened.{kid_at, flat_part, flat_kids, kept_at, wire_at, port_if}
use Rattle.cx_flattening.specs.Targets.{OwnTarget}
use Rattle.cx_flattening.specs.Levels.{IsKnown, own_of}
use Rattle.cx_flattening.proofs.LevelSights.{kid-row, kid-static, kid-dynamic, output_number, flat-inputs}
use Rattle.cx_flattening.proofs.Safe.{Safe, safe}

-- the flat component's cells stand in the host from cell `first` on, and f gives the host's ports of its ports
pub record IsSafeLevel (host : Instance) (more : Active) (i : Instance) (first : ℕ) (f : PortRef → PortRef) (act : Active) (asked : PortRef → Type 0) : Type 0 where
  pub counts : (c : ℕ) → c < length (part_of i).cells → cell_at (cells_of i) c ≡ Nothing → ⊥
  pub known : (p : PortRef) → asked p → IsKnown i p
  pub closed : (p q : PortRef) → asked p → Leads i act p q → asked q
  pub cells : (e p : ℕ) → f (ports.Cell e p) ≡ ports.Cell (first + e) p
  pub literals : (w v : ℕ) → f (ports.Literal w v) ≡ ports.Literal w v
  pub drives : (p : PortRef) → asked p → OwnTarget (flat_kids (cells_of i)) (part_of i) p
      → drivers (part_of host) more (f (own_of i p)) ≡ map (moved_acting f) (map (moved_acting (own_of i)) (drivers (part_of i) act p))
  pub inputs : (n : ℕ) → asked (ports.Input n) → Safe host more (f (ports.Input n))
  pub outputs : (n : ℕ) (q : PortRef) → asked (ports.Output n) → Leads host more (f (ports.Output n)) q → Mentions (drivers (part_of host) more (f (ports.Output n))) q
  pub holes : (g : ℕ) (q : PortRef) → asked (ports.Done g) → Leads host more (f (ports.Done g)) q → Mentions (drivers (part_of host) more (f (ports.Done g))) q
  pub rows : (c : ℕ) (row : Row) → cell_at (cells_of i) c ≡ OfRow row → cell_at (cells_of host) (first + kept_at (flat_kids (cells_of i)) c) ≡ OfRow row
  pub children : (c : ℕ) (child : Instance) → cell_at (cells_of i) c ≡ OfInstance child → is_static child ≡ false
      → (twin : Instance) × (cell_at (cells_of host) (first + kept_at (flat_kids (cells_of i)) c) ≡ OfInstance twin) × ((p : ℕ) → part_port (part_of child) p ≡ part_port (part_of twin) p)
  pub wires : (c n : ℕ) (child : Instance) → cell_at (cells_of i) c ≡ OfInstance child → is_static child ≡ true → n < length (part_of child).outputs
      → Safe host more (ports.Cell (first + wire_at (flat_kids (cells_of i)) (part_of i) (flat_part child) c n) 1)

module _ (host : Instance) (more : Active) (i : Instance) (first : ℕ) (f : PortRef → PortRef) (act : Active) (asked : PortRef → Type 0) (level : IsSafeLevel host more i first f act asked) where
  abbrev back : PortRef → PortRef
  back p = f (own_of i p)

  kept-is : (c p : ℕ) → kid_at (flat_kids (cells_of i)) c ≡ None → back (ports.Cell c p) ≡ ports.Cell (first + kept_at (flat_kids (cells_of i)) c) p
  kept-is c p e = ap (λ k. f (port_if (flat_kids (cells_of i)) (part_of i) k c p)) e ∙ level.cells (kept_at (flat_kids (cells_of i)) c) p

  safe_drivers : (p : PortRef) → asked p → OwnTarget (flat_kids (cells_of i)) (part_of i) p → ((q : PortRef) → Mentions (drivers (part_of i) act p) q → Safe host more (back q))
      → (q : PortRef) → Mentions (drivers (part_of host) more (back p)) q → Safe host more q
  safe_drivers p here own next q m =
      let r = mentions_back f (map (moved_acting (own_of i)) (drivers (part_of i) act p)) q (subst (λ acts. Mentions acts q) (level.drives p here own) m) in
      let t = mentions_back (own_of i) (drivers (part_of i) act p) r.0 r.2 in
      subst (Safe host more) (ap f t.1 ∙ r.1) (next t.0 t.2)

  side_safe : (c p : ℕ) (row : Row) → asked (ports.Cell c p) → cell_at (cells_of i) c ≡ OfRow row → ((q : PortRef) → SideLeads (part_of i) act row c p (side_of row p) q → Safe host more (back q))
      → (side : Side) → side_of row p ≡ side → (q : PortRef) → SideLeads (part_of host) more row (first + kept_at (flat_kids (cells_of i)) c) p side q → Safe host more q
  side_safe c p row here at next sides.Enable is q lead =
      safe_drivers (ports.Cell c p) here ((level.known (ports.Cell c p) here).0, kid-row (cells_of i) c row at) (λ r m. next r (subst (λ x. SideLeads (part_of i) act row c p x r) (sym is) m)) q
      (subst (λ x. Mentions (drivers (part_of host) more x) q) (sym (kept-is c p (kid-row (cells_of i) c row at))) lead)
  side_safe c p row here at next sides.Plain is q lead =
      safe_drivers (ports.Cell c p) here ((level.known (ports.Cell c p) here).0, kid-row (cells_of i) c row at) (λ r m. next r (subst (λ x. SideLeads (part_of i) act row c p x r) (sym is) m)) q
      (subst (λ x. Mentions (drivers (part_of host) more x) q) (sym (kept-is c p (kid-row (cells_of i) c row at))) lead)
  side_safe c p row here at next sides.Output is q (m, reads, e) =
      subst (Safe host more) (kept-is c m (kid-row (cells_of i) c row at) ∙ e) (next (ports.Cell c m) (subst (λ x. SideLeads (part_of i) act row c p x (ports.Cell c m)) (sym is) (m, reads, refl)))
  side_safe c p row here at next sides.Registered is q lead = absurd lead

  part_safe : (c p : ℕ) (child : Instance) → asked (ports.Cell c p) → kid_at (flat_kids (cells_of i)) c ≡ None → ((q : PortRef) → PartLeads (part_of i) act c p (part_port (part_of child) p) q → Safe host more (back q))
      → (port : PartPort) → part_port (part_of child) p ≡ port → (q : PortRef) → PartLeads (part_of host) more (first + kept_at (flat_kids (cells_of i)) c) p port q → Safe host more q
  part_safe c p child here none next Go is q lead =
      safe_drivers (ports.Cell c p) here ((level.known (ports.Cell c p) here).0, none) (λ r m. next r (subst (λ x. PartLeads (part_of i) act c p x r) (sym is) m)) q
      (subst (λ x. Mentions (drivers (part_of host) more x) q) (sym (kept-is c p none)) lead)
  part_safe c p child here none next (AnInput n) is q lead =
      safe_drivers (ports.Cell c p) here ((level.known (ports.Cell c p) here).0, none) (λ r m. next r (subst (λ x. PartLeads (part_of i) act c p x r) (sym is) m)) q
      (subst (λ x. Mentions (drivers (part_of host) more x) q) (sym (kept-is c p none)) lead)
  part_safe c p child here none next (AnOutput n) is q lead = absurd lead
  part_safe c p child here none next ItsDone is q lead = absurd lead

  child_safe : (c p : ℕ) (child : Instance) → asked (ports.Cell c p) → cell_at (cells_of i) c ≡ OfInstance child → ((q : PortRef) → PartLeads (part_of i) act c p (part_port (part_of child) p) q → Safe host more (back q))
      → (static : Bool) → is_static child ≡ static → Safe host more (back (ports.Cell c p))
  child_safe c p child here at next false e =
      let r = level.children c child at e in
      subst (Safe host more) (sym (kept-is c p (kid-dynamic (cells_of i) c child at e)))
      (safe (λ q lead. part_safe c p child here (kid-dynamic (cells_of i) c child at e) next (part_port (part_of child) p) refl q
      (subst (λ x. PartLeads (part_of host) more (first + kept_at (flat_kids (cells_of i)) c) p x q) (sym (r.2 p))
      (subst (λ x. CellLeads (part_of host) more (first + kept_at (flat_kids (cells_of i)) c) p x q) r.1 lead))))
  child_safe c p child here at next true e =
      let r = (level.known (ports.Cell c p) here).1 child at e in
      subst (Safe host more)
      (sym (ap (λ k. f (port_if (flat_kids (cells_of i)) (part_of i) k c p)) (kid-static (cells_of i) c child at e)
      ∙ level.cells (wire_at (flat_kids (cells_of i)) (part_of i) (flat_part child) c (p - 1 - length (flat_part child).inputs)) 1
      ∙ ap (λ n. ports.Cell (first + wire_at (flat_kids (cells_of i)) (part_of i) (flat_part child) c n) 1) (ap (λ k. p - 1 - length k) (flat-inputs child) ∙ output_number (part_of child) p r.0 r.1)))
      (level.wires c r.0 child at e (output_there (part_of child) p r.0 r.1))

  cell_safe : (c p : ℕ) → asked (ports.Cell c p) → (x : At) → cell_at (cells_of i) c ≡ x → ((q : PortRef) → CellLeads (part_of i) act c p x q → Safe host more (back q)) → Safe host more (back (ports.Cell c p))
  cell_safe c p here Nothing at next = absurd (level.counts c (level.known (ports.Cell c p) here).0 at)
  cell_safe c p here (OfRow row) at next =
      subst (Safe host more) (sym (kept-is c p (kid-row (cells_of i) c row at)))
      (safe (λ q lead. side_safe c p row here at next (side_of row p) refl q (subst (λ x. CellLeads (part_of host) more (first + kept_at (flat_kids (cells_of i)) c) p x q) (level.rows c row at) lead)))
  cell_safe c p here (OfInstance child) at next = child_safe c p child here at next (is_static child) refl

  none_leads : (w v : ℕ) (q : PortRef) → Leads host more (ports.Literal w v) q → Safe host more q
  none_leads w v q lead = absurd lead

  one_safe : (p : PortRef) → asked p → ((q : PortRef) → Leads i act p q → Safe host more (back q)) → Safe host more (back p)
  one_safe (ports.Cell c p) here next = cell_safe c p here (cell_at (cells_of i) c) refl next
  one_safe (ports.Input n) here next = level.inputs n here
  one_safe (ports.Output n) here next = safe (λ q lead. safe_drivers (ports.Output n) here tt next q (level.outputs n q here lead))
  one_safe (ports.Done g) here next = safe (λ q lead. safe_drivers (ports.Done g) here tt next q (level.holes g q here lead))
  one_safe (ports.Literal w v) here next = subst (Safe host more) (sym (level.literals w v)) (safe (λ q lead. none_leads w v q lead))

  -- THE PORT OF THE HOST IS SAFE
  pub level_safe : (p : PortRef) → asked p → Safe i act p → Safe host more (back p)
  level_safe p here (safe h) = one_safe p here (λ q lead. level_safe q (level.closed p q here lead) (h q lead))
