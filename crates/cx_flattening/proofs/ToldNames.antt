-- A FAULT IS TOLD BY ONE NAME: that of its port in the tree is that of the port that stands for it in the flat instance.
use Rattle.std.proofs.Common.{◌≡◌, ℕ, zero, suc, ◌+◌, ◌-◌, ◌<◌, inl, inr, Bool, true, false, List, [], ◌∷◌, ◌++◌, length, map, get_or, Some, None, if◌then◌else◌, refl, sym, ap, ◌∙◌, subst, arith}
use Rattle.std.specs.Prelude.{codes, flat_map}
use Rattle.std.proofs.lemmas.List.{append_assoc, get_or_append_left, get_or-map, length-map}
use Rattle.cx_text.specs.Members.{In}
use Rattle.cx_meaning.specs.declared.ports.PortRef.{PortRef}
use Rattle.cx_meaning.specs.declared.ports.PortRef.TheVariants as ports
use Rattle.cx_meaning.specs.Designs.{PlainGroup, PlainCell, PlainComponent, group_at, no_group}
use Rattle.cx_meaning.specs.Instances.{Instance, Node, Cells, At, Nothing, OfRow, OfInstance, part_of, cells_of, cell_at, Path, instance_at}
use Rattle.cx_meaning.specs.Sights.{PartPort, Go, AnInput, AnOutput, ItsDone, part_port}
use Rattle.cx_meaning.proofs.InstancesLemmas.{here}
use Rattle.cx_rules.specs.Ports.{declared_name, part_port_name, cell_port_name, cell_name, path_of}
use Rattle.cx_rules.specs.Flat.{IsPlainName, HasPlainNames}
use Rattle.cx_laws.proofs.TreeLemmas.{into_child, output_there}
use Rattle.cx_rewrites.specs.Moving.{moved_group}
use Rattle.cx_flattening.specs.Events.{Spot}
use Rattle.cx_flattening.specs.Whole.{is_static}
use Rattle.cx_flattening.specs.Flattened.{point, Kids, kid_at, kept_at, start_of, wire_at, port_if, own_port, copies, flat_kids, flat_part}
use Rattle.cx_flattening.specs.Embedded.{IsLike, IsEmbedded, HasWires}
use Rattle.cx_flattening.specs.Sampling.{placed}
use Rattle.cx_flattening.specs.FlatFaults.{flat_spot}
use Rattle.cx_rules.specs.FullPaths.{but_last, cell_path, own_path, names_along, full_path}
use Rattle.cx_flattening.specs.Fair.{AllFair}
use Rattle.cx_flattening.specs.Faulty.{IsFaulty, FaultAt}
use Rattle.cx_flattening.proofs.CellLayout.{kept_inside}
use Rattle.cx_flattening.proofs.Standing.{TwinAt, embedded_row, embedded_static, embedded_dynamic, in_flat_cells, within_child}
use Rattle.cx_flattening.proofs.PortLemmas.{own-kept}
use Rattle.cx_flattening.proofs.LevelSights.{kid-row, kid-static, kid-dynamic, output_number, flat-inputs, flat-outputs}
use Rattle.cx_flattening.proofs.FlatOutputs.{ports_like}
use Rattle.cx_flattening.proofs.FlatCycles.{spot-in}
use Rattle.cx_flattening.proofs.FlatCalls.{spot-below}
use Rattle.cx_flattening.proofs.FlatDeeper.{fair_child}
use Rattle.cx_flattening.proofs.FlatNames.{plain_end, point_end, point_off, kept_name, inner_name, wire_name}

-- names of all instances of a tree
abbrev pub ArePlain : Instance → Type 0
ArePlain i = (path : Path) → HasPlainNames (part_of (instance_at i path))

plain_child : (i : Instance) (c : ℕ) (child : Instance) → cell_at (cells_of i) c ≡ OfInstance child → ArePlain i → ArePlain child
plain_child i c child at plain path = subst (λ x. HasPlainNames (part_of x)) (into_child i c child path at) (plain (c ∷ path))

plain_cell : (cs : List PlainCell) (c : ℕ) → c < length cs → ((cell : PlainCell) → In cs cell → IsPlainName cell.name) → IsPlainName (cell_name cs c)
plain_cell [] c less plain = absurd (omega (arith, less))
plain_cell (x ∷ xs) zero less plain = plain x (inl refl)
plain_cell (x ∷ xs) (suc c) less plain = plain_cell xs c (omega (arith, less)) (λ cell k. plain cell (inr k))

own_plain : (i : Instance) (c : ℕ) → c < length (part_of i).cells → ArePlain i → IsPlainName (cell_name (part_of i).cells c)
own_plain i c less plain = plain_cell (part_of i).cells c less (subst (λ x. HasPlainNames (part_of x)) (here i) (plain [])).cells

-- a cell that is no wire, and a wire
cell_told : (prefix name port : List ℕ) → IsPlainName name → cell_path (prefix ++ name) port ≡ prefix ++ (name ++ codes "." ++ port)
cell_told prefix name port plain =
    ap (λ b. if b then but_last (prefix ++ name) else prefix ++ name ++ codes "." ++ port) (plain_end prefix name plain)
    ∙ ap (λ l. l ++ port) (append_assoc prefix name (codes ".")) ∙ append_assoc prefix (name ++ codes ".") port

own_told : (name port : List ℕ) → IsPlainName name → cell_path name port ≡ name ++ codes "." ++ port
own_told name port plain = ap (λ b. if b then but_last name else name ++ codes "." ++ port) (plain_end [] name plain)

wire_told : (prefix name output port : List ℕ) → cell_path (prefix ++ (name ++ point ++ output ++ point)) port ≡ prefix ++ (name ++ codes "." ++ output)
wire_told prefix name output port =
    ap (λ l. cell_path l port) (sym (append_assoc prefix (name ++ point ++ output) point))
    ∙ ap (λ b. if b then but_last (prefix ++ (name ++ point ++ output) ++ point) else prefix ++ (name ++ point ++ output) ++ point ++ codes "." ++ port) (point_end (prefix ++ (name ++ point ++ output)))
    ∙ point_off (prefix ++ (name ++ point ++ output))

-- a port's name
port_name_like : (a b : PlainComponent) → a.inputs ≡ b.inputs → a.outputs ≡ b.outputs → (q : ℕ) → part_port_name a (part_port a q) ≡ part_port_name b (part_port b q)
port_name_like a b inputs outputs q = ap (part_port_name a) (ports_like a b inputs outputs q) ∙ by (part_port b q)
  where
    by : (x : PartPort) → part_port_name a x ≡ part_port_name b x
    by Go = refl
    by (AnInput n) = ap (λ l. declared_name l n) inputs
    by (AnOutput n) = ap (λ l. declared_name l n) outputs
    by ItsDone = refl

-- how the names of the host's cells begin
abbrev NamesIn : Instance → ℕ → Instance → List ℕ → Type 0
NamesIn i first host prefix = (e : ℕ) → e < length (flat_part i).cells → cell_name (part_of host).cells (first + e) ≡ prefix ++ cell_name (flat_part i).cells e

abbrev IsWhole : Bool → Instance → ℕ → Instance → List ℕ → Type 0
IsWhole static i first host prefix = static ≡ false → (first ≡ 0) × (prefix ≡ []) × IsLike (part_of host) (flat_part i)

module _ (part : PlainComponent) (cells : Cells) (fair : AllFair (Node part cells)) (plain : ArePlain (Node part cells)) (first : ℕ) (host : Instance) (prefix : List ℕ) (embedded : IsEmbedded (Node part cells) first (cells_of host))
    (names : NamesIn (Node part cells) first host prefix) where
  abbrev i : Instance
  i = Node part cells

  abbrev kids : Kids
  kids = flat_kids cells

  zero_plus : (a : ℕ) → 0 + a ≡ a
  zero_plus a = omega arith

  -- a cell that is kept
  kept_told : (c q : ℕ) → c < length part.cells → kid_at kids c ≡ None → cell_port_name (cell_at (cells_of host) (first + kept_at kids c)) q ≡ cell_port_name (cell_at cells c) q
      → own_path host (placed first (own_port kids part (ports.Cell c q))) ≡ prefix ++ own_path i (ports.Cell c q)
  kept_told c q less none port =
      ap (λ x. own_path host (placed first x)) (own-kept kids part c q none)
      ∙ ap (λ l. cell_path l (cell_port_name (cell_at (cells_of host) (first + kept_at kids c)) q)) (names (kept_at kids c) (kept_inside kids part.cells c less none) ∙ ap (λ l. prefix ++ l) (kept_name kids part.cells c less none))
      ∙ ap (cell_path (prefix ++ cell_name part.cells c)) port
      ∙ cell_told prefix (cell_name part.cells c) (cell_port_name (cell_at cells c) q) (own_plain i c less plain)
      ∙ ap (λ l. prefix ++ l) (sym (own_told (cell_name part.cells c) (cell_port_name (cell_at cells c) q) (own_plain i c less plain)))

  -- an output of a static child, by its wire
  output_told : (c q n : ℕ) (child : Instance) → c < length part.cells → cell_at cells c ≡ OfInstance child → is_static child ≡ true → part_port (part_of child) q ≡ AnOutput n
      → own_path host (placed first (own_port kids part (ports.Cell c q))) ≡ prefix ++ own_path i (ports.Cell c q)
  output_told c q n child less at static port =
      ap (λ k. own_path host (placed first (port_if kids part k c q))) its
      ∙ ap (λ m. cell_path (cell_name (part_of host).cells (first + wire_at kids part kid c m)) (cell_port_name (cell_at (cells_of host) (first + wire_at kids part kid c m)) 1)) number
      ∙ ap (λ l. cell_path l (cell_port_name (cell_at (cells_of host) (first + wire_at kids part kid c n)) 1)) (names (wire_at kids part kid c n) inside ∙ ap (λ l. prefix ++ l) (wire_name kids part c kid less its n there))
      ∙ wire_told prefix (cell_name part.cells c) (declared_name kid.outputs n) (cell_port_name (cell_at (cells_of host) (first + wire_at kids part kid c n)) 1)
      ∙ ap (λ l. prefix ++ (cell_name part.cells c ++ codes "." ++ declared_name l n)) (flat-outputs child)
      ∙ ap (λ x. prefix ++ (cell_name part.cells c ++ codes "." ++ part_port_name (part_of child) x)) (sym port)
      ∙ ap (λ x. prefix ++ (cell_name part.cells c ++ codes "." ++ cell_port_name x q)) (sym at)
      ∙ ap (λ l. prefix ++ l) (sym (own_told (cell_name part.cells c) (cell_port_name (cell_at cells c) q) (own_plain i c less plain)))
    where
      kid : PlainComponent
      kid = flat_part child

      its : kid_at kids c ≡ Some kid
      its = kid-static cells c child at static

      number : q - 1 - length kid.inputs ≡ n
      number = ap (λ l. q - 1 - length l) (flat-inputs child) ∙ output_number (part_of child) q n port

      there : n < length kid.outputs
      there = subst (λ l. n < length l) (sym (flat-outputs child)) (output_there (part_of child) q n port)

      inside : wire_at kids part kid c n < length (flat_part i).cells
      inside = let all = in_flat_cells kids part c (length kid.cells + n) kid less its (let t = there in omega (arith, t)) in omega (arith, all)

  own_cell : (c q : ℕ) → IsFaulty false i (ports.Cell c q) → own_path host (placed first (own_port kids part (ports.Cell c q))) ≡ prefix ++ own_path i (ports.Cell c q)
  own_cell c q known = by (cell_at cells c) refl
    where
      of_child : (child : Instance) → cell_at cells c ≡ OfInstance child → (b : Bool) → is_static child ≡ b → own_path host (placed first (own_port kids part (ports.Cell c q))) ≡ prefix ++ own_path i (ports.Cell c q)
      of_child child at true static = let o = known.1 child at static in output_told c q o.0 child known.0 at static o.1
      of_child child at false dynamic =
          let r = subst (TwinAt kids part first (cells_of host) child) (zero_plus c) (embedded_dynamic kids part first (cells_of host) cells 0 c child embedded at dynamic) in
          kept_told c q known.0 (kid-dynamic cells c child at dynamic)
          (ap (λ x. cell_port_name x q) r.1 ∙ port_name_like (part_of r.0) (part_of child) (r.2.inputs ∙ flat-inputs child) (r.2.outputs ∙ flat-outputs child) q ∙ ap (λ x. cell_port_name x q) (sym at))

      by : (x : At) → cell_at cells c ≡ x → own_path host (placed first (own_port kids part (ports.Cell c q))) ≡ prefix ++ own_path i (ports.Cell c q)
      by Nothing at = absurd (fair.0.counts c known.0 at)
      by (OfRow row) at =
          kept_told c q known.0 (kid-row cells c row at)
          (ap (λ k. cell_port_name (cell_at (cells_of host) (first + kept_at kids k)) q) (sym (zero_plus c)) ∙ ap (λ x. cell_port_name x q) (embedded_row kids part first (cells_of host) cells 0 c row embedded at)
          ∙ ap (λ x. cell_port_name x q) (sym at))
      by (OfInstance child) at = of_child child at (is_static child) refl

  group_name : IsLike (part_of host) (flat_part i) → (g : ℕ) → g < length part.groups → (group_at (part_of host) g).name ≡ (group_at part g).name
  group_name like g less =
      ap (λ (gs : List PlainGroup). (get_or gs g no_group).name) like.groups
      ∙ ap (λ (x : PlainGroup). x.name)
      (get_or_append_left (map (moved_group (own_port kids part)) part.groups) (flat_map (copies kids part) part.invokes) no_group g (let same = length-map part.groups (moved_group (own_port kids part)) in omega (arith, less, same))
      ∙ get_or-map (moved_group (own_port kids part)) part.groups g no_group no_group less)

  -- A PORT OF THE INSTANCE ITSELF
  port_told : (static : Bool) → IsWhole static i first host prefix → (p : PortRef) → IsFaulty static i p → own_path host (placed first (own_port kids part p)) ≡ prefix ++ own_path i p
  port_told static whole (ports.Cell c q) known = own_cell c q known
  port_told static whole (ports.Input n) dynamic =
      let w = whole dynamic in ap (λ l. declared_name l n) w.2.inputs ∙ ap (λ l. l ++ declared_name part.inputs n) (sym w.1)
  port_told static whole (ports.Output n) known = absurd known
  port_told static whole (ports.Done g) known =
      let w = whole known.0 in ap (λ name. name ++ codes "[done]") (group_name w.2 g known.1) ∙ ap (λ l. l ++ path_of i (ports.Done g)) (sym w.1)
  port_told static whole (ports.Literal w v) dynamic = let h = whole dynamic in ap (λ l. l ++ path_of i (ports.Literal w v)) (sym h.1)

-- the name of a spot of a host
abbrev told_at : Instance → Spot → List ℕ
told_at host x = full_path host x.at x.port

step_along : (i : Instance) (c : ℕ) (child : Instance) (path : Path) (p : PortRef) → cell_at (cells_of i) c ≡ OfInstance child → full_path i (c ∷ path) p ≡ cell_name (part_of i).cells c ++ codes "." ++ full_path child path p
step_along i c child path p at =
    ap (λ x. cell_name (part_of i).cells c ++ codes "." ++ names_along x path ++ own_path (instance_at i (c ∷ path)) p) (into_child i c child [] at ∙ here child)
    ∙ ap (λ x. cell_name (part_of i).cells c ++ codes "." ++ names_along child path ++ own_path x p) (into_child i c child path at)
    ∙ append_assoc (cell_name (part_of i).cells c ++ codes ".") (names_along child path) (own_path (instance_at child path) p)

-- EVERY FAULT IS TOLD BY ONE NAME
pub fault_told : (static : Bool) (i : Instance) → AllFair i → ArePlain i → (first : ℕ) (host : Instance) (prefix : List ℕ) → IsEmbedded i first (cells_of host) → NamesIn i first host prefix → IsWhole static i first host prefix
    → (path : Path) (p : PortRef) → FaultAt static i path p → told_at host (flat_spot i first path p) ≡ prefix ++ full_path i path p
fault_told static (Node part cells) fair plain first host prefix embedded names whole [] p known =
    ap (λ x. own_path x (placed first (own_port (flat_kids cells) part p))) (here host) ∙ port_told part cells fair plain first host prefix embedded names static whole p known
fault_told static (Node part cells) fair plain first host prefix embedded names whole (c ∷ path) p (child, at, known) =
    by (is_static child) refl
    (λ is. fault_told (is_static child) child (fair_child cells c child fair.1 at) (plain_child (Node part cells) c child at plain) (first + start_of (flat_kids cells) part c) host (prefix ++ (cell_name part.cells c ++ point))
    (stood is) (inner is) (λ dynamic. absurd (let clash : true ≡ false = sym is ∙ dynamic in cc)) path p known)
    (λ dynamic. let r = twin dynamic in
    fault_told (is_static child) child (fair_child cells c child fair.1 at) (plain_child (Node part cells) c child at plain) 0 r.0 [] r.3 (λ e less. ap (cell_name (part_of r.0).cells) (zero_plus e) ∙ r.2.names e)
    (λ d. (refl, refl, r.2)) path p known)
  where
    zero_plus : (a : ℕ) → 0 + a ≡ a
    zero_plus a = omega arith

    there : c < length part.cells
    there = within_child (Node part cells) fair.0 c child at

    stood : is_static child ≡ true → IsEmbedded child (first + start_of (flat_kids cells) part c) (cells_of host)
    stood is =
        (subst (λ k. IsEmbedded child (first + start_of (flat_kids cells) part k) (cells_of host) × HasWires (part_of child).outputs (first + wire_at (flat_kids cells) part (flat_part child) k 0) (cells_of host)) (zero_plus c)
        (embedded_static (flat_kids cells) part first (cells_of host) cells 0 c child embedded at is)).0

    inner : is_static child ≡ true → NamesIn child (first + start_of (flat_kids cells) part c) host (prefix ++ (cell_name part.cells c ++ point))
    inner is e less =
        ap (cell_name (part_of host).cells) (let z : first + start_of (flat_kids cells) part c + e ≡ first + (start_of (flat_kids cells) part c + e) = omega arith in z)
        ∙ names (start_of (flat_kids cells) part c + e) (in_flat_cells (flat_kids cells) part c e (flat_part child) there (kid-static cells c child at is) (omega (arith, less)))
        ∙ ap (λ l. prefix ++ l) (inner_name (flat_kids cells) part c (flat_part child) there (kid-static cells c child at is) e less)
        ∙ sym (append_assoc prefix (cell_name part.cells c ++ point) (cell_name (flat_part child).cells e))

    twin : is_static child ≡ false → TwinAt (flat_kids cells) part first (cells_of host) child c
    twin dynamic = subst (TwinAt (flat_kids cells) part first (cells_of host) child) (zero_plus c) (embedded_dynamic (flat_kids cells) part first (cells_of host) cells 0 c child embedded at dynamic)

    right : prefix ++ (cell_name part.cells c ++ codes "." ++ full_path child path p) ≡ prefix ++ full_path (Node part cells) (c ∷ path) p
    right = ap (λ l. prefix ++ l) (sym (step_along (Node part cells) c child path p at))

    by : (b : Bool) → is_static child ≡ b
        → (is_static child ≡ true → told_at host (flat_spot child (first + start_of (flat_kids cells) part c) path p) ≡ prefix ++ (cell_name part.cells c ++ point) ++ full_path child path p)
        → ((dynamic : is_static child ≡ false) → told_at (twin dynamic).0 (flat_spot child 0 path p) ≡ [] ++ full_path child path p)
        → told_at host (flat_spot (Node part cells) first (c ∷ path) p) ≡ prefix ++ full_path (Node part cells) (c ∷ path) p
    by true is as_static as_dynamic =
        ap (told_at host) (spot-in cells c child (first + start_of (flat_kids cells) part c) (first + kept_at (flat_kids cells) c) path p at is)
        ∙ as_static is ∙ append_assoc prefix (cell_name part.cells c ++ point) (full_path child path p) ∙ right
    by false dynamic as_static as_dynamic =
        let r = twin dynamic in
        let x = flat_spot child 0 path p in
        ap (told_at host) (spot-below cells c child (first + start_of (flat_kids cells) part c) (first + kept_at (flat_kids cells) c) path p at dynamic)
        ∙ step_along host (first + kept_at (flat_kids cells) c) r.0 x.at x.port r.1
        ∙ ap (λ l. cell_name (part_of host).cells (first + kept_at (flat_kids cells) c) ++ codes "." ++ l) (as_dynamic dynamic)
        ∙ ap (λ l. l ++ codes "." ++ full_path child path p)
        (names (kept_at (flat_kids cells) c) (kept_inside (flat_kids cells) part.cells c there (kid-dynamic cells c child at dynamic)) ∙ ap (λ l. prefix ++ l) (kept_name (flat_kids cells) part.cells c there (kid-dynamic cells c child at dynamic)))
        ∙ ap (λ l. l ++ full_path child path p) (append_assoc prefix (cell_name part.cells c) (codes "."))
        ∙ append_assoc prefix (cell_name part.cells c ++ codes ".") (full_path child path p) ∙ right
