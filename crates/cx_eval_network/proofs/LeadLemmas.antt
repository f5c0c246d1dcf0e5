-- The list of what a port depends on has that and nothing else.
use Rattle.std.proofs.Common.{◌≡◌, ℕ, zero, suc, ◌<◌, ◌⊎◌, inl, inr, ⊎_elim, ◌↔◌, List, [], ◌∷◌, ◌++◌, length, map, refl, sym, ap, ◌∙◌, subst, arith}
use Rattle.std.proofs.lemmas.Bool.{cases_lt}
use Rattle.cx_text.proofs.MemberLaws.{in_either, in_left, in_right}
use Rattle.cx_text.specs.Members.{In}
use Rattle.cx_prim.specs.declared.ports.Side.{Side}
use Rattle.cx_prim.specs.declared.ports.Side.TheVariants as sides
use Rattle.cx_prim.specs.Rows.{Row}
use Rattle.cx_meaning.specs.declared.ports.PortRef.{PortRef}
use Rattle.cx_meaning.specs.declared.ports.PortRef.TheVariants as ports
use Rattle.cx_meaning.specs.declared.ports.PlacedPort.{PlacedPort}
use Rattle.cx_meaning.specs.Rows.{side_of}
use Rattle.cx_meaning.specs.Designs.{PlainComponent, PlainAssign, PlainDesign, PlainGuard, Always, Atom, Negation, All, Any, Compared, Within, PlainGuards, no_guards, a_guard}
use Rattle.cx_meaning.specs.Instances.{Instance, At, Nothing, OfRow, OfInstance, cell_at, cells_of, part_of}
use Rattle.cx_meaning.specs.Active.{Active, Acting, drivers}
use Rattle.cx_meaning.specs.Sights.{GuardNames, AnyNames, PartPort, Go, AnInput, AnOutput, ItsDone, numbered, part_port}
use Rattle.cx_rules.specs.Items.{sources_of, operands_of, operands_in}
use Rattle.cx_rules.specs.Footprints.{AssignNames, Mentions, SideLeads, PartLeads, CellLeads, Leads}
use Rattle.cx_rules.specs.Ports.{component_of}
use Rattle.cx_design_parts.specs.Outputs.{ReadsFirst, read_count}
use Rattle.cx_design_parts.proofs.ReadLemmas.{AllRead, all_read}
use Rattle.cx_eval_network.specs.LeadPorts.{named_by, side_leads, part_leads, cell_leads, lead_ports}
use Rattle.cx_text.proofs.NumberLaws.{lt_true, true_lt}

mapped_append : (xs ys : List PlacedPort) (q : PortRef) → In (map (λ p. p.port) xs) q ⊎ In (map (λ p. p.port) ys) q → In (map (λ p. p.port) (xs ++ ys)) q
mapped_append [] ys q (inl i) = absurd i
mapped_append [] ys q (inr i) = i
mapped_append (x ∷ xs) ys q (inl (inl e)) = inl e
mapped_append (x ∷ xs) ys q (inl (inr i)) = inr (mapped_append xs ys q (inl i))
mapped_append (x ∷ xs) ys q (inr i) = inr (mapped_append xs ys q (inr i))

-- GUARDS
mutual
  guard_named : (g : PlainGuard) (q : PortRef) → GuardNames g q → In (map (λ p. p.port) (operands_of g)) q
  guard_named Always q n = n
  guard_named (Atom p) q n = inl n
  guard_named (Negation g) q n = guard_named g q n
  guard_named (All gs) q n = guards_named gs q n
  guard_named (Any gs) q n = guards_named gs q n
  guard_named (Compared c a b) q (inl e) = inl e
  guard_named (Compared c a b) q (inr e) = inr (inl e)
  guard_named (Within from to) q n = n

  guards_named : (gs : PlainGuards) (q : PortRef) → AnyNames gs q → In (map (λ p. p.port) (operands_in gs)) q
  guards_named no_guards q n = n
  guards_named (a_guard g gs) q (inl n) = mapped_append (operands_of g) (operands_in gs) q (inl (guard_named g q n))
  guards_named (a_guard g gs) q (inr n) = mapped_append (operands_of g) (operands_in gs) q (inr (guards_named gs q n))

mapped_either : (xs ys : List PlacedPort) (q : PortRef) → In (map (λ p. p.port) (xs ++ ys)) q → In (map (λ p. p.port) xs) q ⊎ In (map (λ p. p.port) ys) q
mapped_either [] ys q i = inr i
mapped_either (x ∷ xs) ys q (inl e) = inl (inl e)
mapped_either (x ∷ xs) ys q (inr i) = ⊎_elim (λ j. inl (inr j)) (λ j. inr j) (mapped_either xs ys q i)

mutual
  named_guard : (g : PlainGuard) (q : PortRef) → In (map (λ p. p.port) (operands_of g)) q → GuardNames g q
  named_guard Always q i = i
  named_guard (Atom p) q (inl e) = e
  named_guard (Atom p) q (inr i) = absurd i
  named_guard (Negation g) q i = named_guard g q i
  named_guard (All gs) q i = named_guards gs q i
  named_guard (Any gs) q i = named_guards gs q i
  named_guard (Compared c a b) q (inl e) = inl e
  named_guard (Compared c a b) q (inr (inl e)) = inr e
  named_guard (Compared c a b) q (inr (inr i)) = absurd i
  named_guard (Within from to) q i = i

  named_guards : (gs : PlainGuards) (q : PortRef) → In (map (λ p. p.port) (operands_in gs)) q → AnyNames gs q
  named_guards no_guards q i = i
  named_guards (a_guard g gs) q i = ⊎_elim (λ j. inl (named_guard g q j)) (λ j. inr (named_guards gs q j)) (mapped_either (operands_of g) (operands_in gs) q i)

-- ASSIGNMENTS
pub assign_named : (a : PlainAssign) (q : PortRef) → AssignNames a q → In (map (λ p. p.port) (sources_of a)) q
assign_named a q (inl n) = inr (guard_named a.guard q n)
assign_named a q (inr e) = inl e

named_assign : (a : PlainAssign) (q : PortRef) → In (map (λ p. p.port) (sources_of a)) q → AssignNames a q
named_assign a q (inl e) = inr e
named_assign a q (inr i) = inl (named_guard a.guard q i)

mentioned_in : (acts : List Acting) (a : Acting) (q : PortRef) → In acts a → AssignNames a.assign q → In (named_by acts) q
mentioned_in [] a q i n = absurd i
mentioned_in (b ∷ acts) a q (inl e) n = in_left (map (λ p. p.port) (sources_of b.assign)) (named_by acts) q (assign_named b.assign q (subst (λ x. AssignNames x.assign q) (sym e) n))
mentioned_in (b ∷ acts) a q (inr i) n = in_right (map (λ p. p.port) (sources_of b.assign)) (named_by acts) q (mentioned_in acts a q i n)

mentioned : (acts : List Acting) (q : PortRef) → Mentions acts q → In (named_by acts) q
mentioned acts q m = mentioned_in acts m.0 q m.1 m.2

mentions : (acts : List Acting) (q : PortRef) → In (named_by acts) q → Mentions acts q
mentions [] q i = absurd i
mentions (a ∷ acts) q i =
    ⊎_elim
    (λ j. (a, inl refl, named_assign a.assign q j))
    (λ j. let m = mentions acts q j in (m.0, inr m.1, m.2))
    (in_either (map (λ p. p.port) (sources_of a.assign)) (named_by acts) q i)

-- THE FIRST PORTS of a cell
numbered_in : (c count m : ℕ) (q : PortRef) → m < count → ports.Cell c m ≡ q → In (numbered c count) q
numbered_in c zero m q h e = absurd (omega (arith, h))
numbered_in c (suc n) m q h e = ⊎_elim (λ l. inr (numbered_in c n m q l e)) (λ l. let same : n ≡ m = omega (arith, h, l) in inl (ap (ports.Cell c) same ∙ e)) (cases_lt m n)

record IsFirst (c count : ℕ) (q : PortRef) : Type 0 where
  number : ℕ
  within : number < count
  is : ports.Cell c number ≡ q

in_numbered : (c count : ℕ) (q : PortRef) → In (numbered c count) q → IsFirst c count q
in_numbered c zero q i = absurd i
in_numbered c (suc n) q (inl e) = record { number = n; within = omega arith; is = e }
in_numbered c (suc n) q (inr i) = let r = in_numbered c n q i in record { number = r.number; within = let lt = r.within in omega (arith, lt); is = r.is }

module _ (part : PlainComponent) (act : Active) (c p : ℕ) (q : PortRef) where
  side_from : (row : Row) (side : Side) → ReadsFirst row → side_of row p ≡ side → SideLeads part act row c p side q → In (side_leads part act row c p side) q
  side_from row sides.Enable first e l = mentioned (drivers part act (ports.Cell c p)) q l
  side_from row sides.Plain first e l = mentioned (drivers part act (ports.Cell c p)) q l
  side_from row sides.Output first e l = numbered_in c (read_count row.ports) l.0 q (true_lt l.0 (read_count row.ports) (sym (first.first p l.0 e) ∙ l.1)) l.2
  side_from row sides.Registered first e l = l

  side_to : (row : Row) (side : Side) → ReadsFirst row → side_of row p ≡ side → In (side_leads part act row c p side) q → SideLeads part act row c p side q
  side_to row sides.Enable first e i = mentions (drivers part act (ports.Cell c p)) q i
  side_to row sides.Plain first e i = mentions (drivers part act (ports.Cell c p)) q i
  side_to row sides.Output first e i = let r = in_numbered c (read_count row.ports) q i in (r.number, first.first p r.number e ∙ lt_true r.number (read_count row.ports) r.within, r.is)
  side_to row sides.Registered first e i = i

  part_from : (x : PartPort) → PartLeads part act c p x q → In (part_leads part act c p x) q
  part_from Go l = mentioned (drivers part act (ports.Cell c p)) q l
  part_from (AnInput n) l = mentioned (drivers part act (ports.Cell c p)) q l
  part_from (AnOutput n) l = l
  part_from ItsDone l = l

  part_to : (x : PartPort) → In (part_leads part act c p x) q → PartLeads part act c p x q
  part_to Go i = mentions (drivers part act (ports.Cell c p)) q i
  part_to (AnInput n) i = mentions (drivers part act (ports.Cell c p)) q i
  part_to (AnOutput n) i = i
  part_to ItsDone i = i

  cell_from : (at : At) → ((row : Row) → at ≡ OfRow row → ReadsFirst row) → CellLeads part act c p at q → In (cell_leads part act c p at) q
  cell_from Nothing first l = l
  cell_from (OfRow row) first l = side_from row (side_of row p) (first row refl) refl l
  cell_from (OfInstance child) first l = part_from (part_port (part_of child) p) l

  cell_to : (at : At) → ((row : Row) → at ≡ OfRow row → ReadsFirst row) → In (cell_leads part act c p at) q → CellLeads part act c p at q
  cell_to Nothing first i = i
  cell_to (OfRow row) first i = side_to row (side_of row p) (first row refl) refl i
  cell_to (OfInstance child) first i = part_to (part_port (part_of child) p) i

pub from_leads : (i : Instance) (act : Active) (p q : PortRef) → AllRead (cells_of i) → Leads i act p q → In (lead_ports i act p) q
from_leads i act (ports.Cell c p) q first l = cell_from (part_of i) act c p q (cell_at (cells_of i) c) (first c) l
from_leads i act (ports.Input n) q first l = l
from_leads i act (ports.Output n) q first l = mentioned (drivers (part_of i) act (ports.Output n)) q l
from_leads i act (ports.Done g) q first l = mentioned (drivers (part_of i) act (ports.Done g)) q l
from_leads i act (ports.Literal w v) q first l = l

pub to_leads : (i : Instance) (act : Active) (p q : PortRef) → AllRead (cells_of i) → In (lead_ports i act p) q → Leads i act p q
to_leads i act (ports.Cell c p) q first l = cell_to (part_of i) act c p q (cell_at (cells_of i) c) (first c) l
to_leads i act (ports.Input n) q first l = l
to_leads i act (ports.Output n) q first l = mentions (drivers (part_of i) act (ports.Output n)) q l
to_leads i act (ports.Done g) q first l = mentions (drivers (part_of i) act (ports.Done g)) q l
to_leads i act (ports.Literal w v) q first l = l

pub lead_ports_are : (d : PlainDesign) (k : ℕ) (act : Active) (p q : PortRef) → In (lead_ports (component_of d k) act p) q ↔ Leads (component_of d k) act p q
lead_ports_are d k act p q = (to_leads (component_of d k) act p q (all_read d (length d.components) k), from_leads (component_of d k) act p q (all_read d (length d.components) k))
