-- The connections of a cell's instance keep the rules, and drive the wires at its outputs.
use Rattle.std.proofs.Common.{◌≡◌, ℕ, zero, suc, ◌+◌, ◌==◌, ◌&&◌, ◌||◌, not, Bool, true, false, List, [], ◌∷◌, ◌++◌, map, Some, slice_get, refl, ap, sym, ◌∙◌, subst, if◌then◌else◌, arith, eq-eqb}
use Rattle.std.specs.Prelude.{codes}
use Rattle.std.specs.Option.{option_map_or}
use Rattle.std.proofs.lemmas.Bool.{or_from, or_parts, both_ways, false_from_ne_true}
use Rattle.cx_text.specs.Members.{Each}
use Rattle.cx_vtree.specs.declared.meanings.Meaning.TheVariants as meant
use Rattle.cx_vtree.specs.Plain.{PlainPort, PlainConn, PlainModule}
use Rattle.cx_vtree.specs.InstanceTree.{same_name}
use Rattle.cx_vtree.specs.Sound.{Scope, is_source, is_wire, width_of, has_name, has_output, module_named, driven_by, ports_of, driven_by_all, miswired, misconnects, misfits}
use Rattle.cx_vlaws.proofs.Fresh.{Fresh, fresh_head, has_neither}
use Rattle.cx_vlaws.proofs.Scopes.{port_at_has, other_than, output-past}
use Rattle.cx_emit.specs.Names.{cell_port_name}
use Rattle.cx_emit.specs.Numbered.{numbered_from, with_numbers}
use Rattle.cx_emit.specs.Signatures.{PlainCellPorts, one_bit}
use Rattle.cx_emit.specs.Sources.{conn, port_conn, cell_instance}
use Rattle.cx_emit.proofs.PickedNames.{picked, all_picked}
use Rattle.cx_vtree.proofs.InstanceTreeLemmas.{same_is, is_same, same_self}

-- a port is an output where its name is one
output_by_name : (earlier : List (List ℕ)) (ps : List PlainPort) (j : ℕ) (p : PlainPort) → Fresh earlier (map (λ q. q.name) ps) → slice_get ps j ≡ Some p → has_output ps p.name ≡ p.output
output_by_name earlier [] j p f e = absurd (cc)
output_by_name earlier (x ∷ ps) zero p f e =
    let same : x ≡ p = cc in
    subst (λ (y : PlainPort). has_output (x ∷ ps) y.name ≡ y.output) same
    (ap (λ b. (x.output && b) || has_output ps x.name) (same_self x.name) ∙ ap (λ b. (x.output && true) || b) (output-past ps x.name (fresh_head earlier (map (λ q. q.name) ps) x.name f.1)) ∙ alone x.output)
  where
    alone : (b : Bool) → ((b && true) || false) ≡ b
    alone true = refl
    alone false = refl
output_by_name earlier (x ∷ ps) (suc j) p f e =
    ap (λ b. (x.output && b) || has_output ps p.name) (other_than earlier (map (λ q. q.name) ps) x.name p.name f.1 (port_at_has ps j p e)) ∙ past x.output (has_output ps p.name) ∙ output_by_name (earlier ++ x.name ∷ []) ps j p f.1 e
  where
    past : (b c : Bool) → ((b && false) || c) ≡ c
    past true c = refl
    past false c = refl

-- a later name is none of those before
fresh_at : (earlier : List (List ℕ)) (ps : List PlainPort) (j : ℕ) (p : PlainPort) → Fresh earlier (map (λ q. q.name) ps) → slice_get ps j ≡ Some p → has_name earlier p.name ≡ false
fresh_at earlier [] j p f e = absurd (cc)
fresh_at earlier (x ∷ ps) zero p f e = let same : x ≡ p = cc in subst (λ (y : PlainPort). has_name earlier y.name ≡ false) same f.0
fresh_at earlier (x ∷ ps) (suc j) p f e = (has_neither earlier (x.name ∷ []) p.name (fresh_at (earlier ++ x.name ∷ []) ps j p f.1 e)).0

turned : (a b : List ℕ) → same_name a b ≡ false → same_name b a ≡ false
turned a b e = false_from_ne_true (same_name b a) (λ h. both_ways (same_name a b) e (is_same a b (sym (same_is b a h))))

module _ (scope : Scope) (c : ℕ) where
  -- each port is connected to the wire at it
  connects : (b : ℕ) (ps : List PlainPort) → ((j : ℕ) (p : PlainPort) → slice_get ps j ≡ Some p → scope (cell_port_name c (b + j)) ≡ meant.Wire p.width)
      → ((j : ℕ) (p : PlainPort) → slice_get ps j ≡ Some p → (same_name p.name (codes "clk") ≡ false) × (same_name p.name (codes "reset") ≡ false)) → misconnects scope ps (numbered_from (port_conn c) b ps) ≡ false
  connects b [] wires others = refl
  connects b (p ∷ ps) wires others =
      let place : b + 0 ≡ b = omega arith in
      let wire : scope (cell_port_name c b) ≡ meant.Wire p.width = sym (ap (λ n. scope (cell_port_name c n)) place) ∙ wires zero p refl in
      let none = others zero p refl in
      or_from (miswired scope p (port_conn c b p)) (misconnects scope ps (numbered_from (port_conn c) (suc b) ps))
      (or_from (not (same_name p.name p.name) || (if p.output then not (is_wire (scope (cell_port_name c b))) else not (is_source (scope (cell_port_name c b)))))
      ((same_name p.name (codes "clk") || same_name p.name (codes "reset")) && not (same_name p.name (cell_port_name c b)))
      (or_from (not (same_name p.name p.name)) (if p.output then not (is_wire (scope (cell_port_name c b))) else not (is_source (scope (cell_port_name c b)))) (ap not (same_self p.name))
      (ap (λ m. if p.output then not (is_wire m) else not (is_source m)) wire ∙ either p.output))
      (ap (λ t. t && not (same_name p.name (cell_port_name c b))) (or_from (same_name p.name (codes "clk")) (same_name p.name (codes "reset")) none.0 none.1)))
      (connects (suc b) ps (λ j q e. let next : suc b + j ≡ b + suc j = omega arith in ap (λ n. scope (cell_port_name c n)) next ∙ wires (suc j) q e) (λ j q e. others (suc j) q e))
    where
      either : (t : Bool) → (if t then false else false) ≡ false
      either true = refl
      either false = refl

  fits : (b : ℕ) (ps : List PlainPort) → ((j : ℕ) (p : PlainPort) → slice_get ps j ≡ Some p → scope (cell_port_name c (b + j)) ≡ meant.Wire p.width) → misfits scope ps (numbered_from (port_conn c) b ps) ≡ false
  fits b [] wires = refl
  fits b (p ∷ ps) wires =
      let place : b + 0 ≡ b = omega arith in
      let wire : scope (cell_port_name c b) ≡ meant.Wire p.width = sym (ap (λ n. scope (cell_port_name c n)) place) ∙ wires zero p refl in
      or_from (not (p.width == width_of (scope (cell_port_name c b)))) (misfits scope ps (numbered_from (port_conn c) (suc b) ps))
      (ap (λ m. not (p.width == width_of m)) wire ∙ ap not (eq-eqb p.width p.width refl))
      (fits (suc b) ps (λ j q e. let next : suc b + j ≡ b + suc j = omega arith in ap (λ n. scope (cell_port_name c n)) next ∙ wires (suc j) q e))

  -- the module of a cell's instance is known, with these ports behind the clock and the reset
  module _ (ps : List PlainPort) (apart : Fresh [] (map (λ p. p.name) (one_bit (codes "clk") ∷ one_bit (codes "reset") ∷ ps)))
      (wires : (j : ℕ) (p : PlainPort) → slice_get ps j ≡ Some p → scope (cell_port_name c j) ≡ meant.Wire p.width)
      (clocked : scope (codes "clk") ≡ meant.Input 1) (is_reset : scope (codes "reset") ≡ meant.Input 1) where
    abbrev all_ports : List PlainPort
    all_ports = one_bit (codes "clk") ∷ one_bit (codes "reset") ∷ ps

    abbrev all_conns : List PlainConn
    all_conns = conn (codes "clk") (codes "clk") ∷ conn (codes "reset") (codes "reset") ∷ with_numbers (port_conn c) ps

    wires_from : (j : ℕ) (p : PlainPort) → slice_get ps j ≡ Some p → scope (cell_port_name c (0 + j)) ≡ meant.Wire p.width
    wires_from j p e = let place : 0 + j ≡ j = omega arith in ap (λ n. scope (cell_port_name c n)) place ∙ wires j p e

    others : (j : ℕ) (p : PlainPort) → slice_get ps j ≡ Some p → (same_name p.name (codes "clk") ≡ false) × (same_name p.name (codes "reset") ≡ false)
    others j p e =
        let lacks = or_parts (same_name (codes "clk") p.name) (same_name (codes "reset") p.name || false) (fresh_at (codes "clk" ∷ codes "reset" ∷ []) ps j p apart.1.1 e) in
        (turned (codes "clk") p.name lacks.0, turned (codes "reset") p.name (or_parts (same_name (codes "reset") p.name) false lacks.1).0)

    pub instance_connects : misconnects scope all_ports all_conns ≡ false
    instance_connects =
        or_from (miswired scope (one_bit (codes "clk")) (conn (codes "clk") (codes "clk"))) (misconnects scope (one_bit (codes "reset") ∷ ps) (conn (codes "reset") (codes "reset") ∷ with_numbers (port_conn c) ps))
        (ap (λ m. not true || not (is_source m) || false) clocked)
        (or_from (miswired scope (one_bit (codes "reset")) (conn (codes "reset") (codes "reset"))) (misconnects scope ps (with_numbers (port_conn c) ps))
        (ap (λ m. not true || not (is_source m) || false) is_reset)
        (connects 0 ps wires_from others))

    pub instance_fits : misfits scope all_ports all_conns ≡ false
    instance_fits =
        or_from (not (1 == width_of (scope (codes "clk")))) (misfits scope (one_bit (codes "reset") ∷ ps) (conn (codes "reset") (codes "reset") ∷ with_numbers (port_conn c) ps))
        (ap (λ m. not (1 == width_of m)) clocked)
        (or_from (not (1 == width_of (scope (codes "reset")))) (misfits scope ps (with_numbers (port_conn c) ps)) (ap (λ m. not (1 == width_of m)) is_reset) (fits 0 ps wires_from))

-- an instance drives the wires at the outputs of its cell
module _ (c : ℕ) (ps : List PlainPort) (apart : Fresh [] (map (λ p. p.name) (one_bit (codes "clk") ∷ one_bit (codes "reset") ∷ ps))) where
  abbrev its_ports : List PlainPort
  its_ports = one_bit (codes "clk") ∷ one_bit (codes "reset") ∷ ps

  driven_from : (b : ℕ) (qs : List PlainPort) → ((j : ℕ) (p : PlainPort) → slice_get qs j ≡ Some p → has_output its_ports p.name ≡ p.output) → driven_by its_ports (numbered_from (port_conn c) b qs) ≡ picked (λ p. p.output) c b qs
  driven_from b [] tells = refl
  driven_from b (p ∷ qs) tells =
      let rest = driven_from (suc b) qs (λ j q e. tells (suc j) q e) in
      ap (λ t. if t then cell_port_name c b ∷ driven_by its_ports (numbered_from (port_conn c) (suc b) qs) else driven_by its_ports (numbered_from (port_conn c) (suc b) qs)) (tells zero p refl)
      ∙ ap (λ ns. if p.output then cell_port_name c b ∷ ns else ns) rest

  pub instance_drives : driven_by its_ports (conn (codes "clk") (codes "clk") ∷ conn (codes "reset") (codes "reset") ∷ with_numbers (port_conn c) ps) ≡ picked (λ p. p.output) c 0 ps
  instance_drives =
      let rest : List (List ℕ) = driven_by its_ports (with_numbers (port_conn c) ps) in
      ap (λ t. if t then codes "clk" ∷ driven_by its_ports (conn (codes "reset") (codes "reset") ∷ with_numbers (port_conn c) ps) else driven_by its_ports (conn (codes "reset") (codes "reset") ∷ with_numbers (port_conn c) ps))
      (output_by_name [] its_ports 0 (one_bit (codes "clk")) apart refl)
      ∙ ap (λ t. if t then codes "reset" ∷ rest else rest) (output_by_name [] its_ports 1 (one_bit (codes "reset")) apart refl)
      ∙ driven_from 0 ps (λ j p e. output_by_name [] its_ports (suc (suc j)) p apart e)

-- the module of a cell is among those before, with its ports behind the clock and the reset
pub record IsKnown (before : List PlainModule) (cell : PlainCellPorts) : Type 0 where
  pub part : PlainModule
  pub found : module_named before cell.kind ≡ Some part
  pub ported : part.ports ≡ one_bit (codes "clk") ∷ one_bit (codes "reset") ∷ cell.ports
  pub apart : Fresh [] (map (λ p. p.name) (one_bit (codes "clk") ∷ one_bit (codes "reset") ∷ cell.ports))

pub known_ports : (before : List PlainModule) (cell : PlainCellPorts) → IsKnown before cell → ports_of before cell.kind ≡ one_bit (codes "clk") ∷ one_bit (codes "reset") ∷ cell.ports
known_ports before cell known = ap (λ o. option_map_or (λ (m : PlainModule). m.ports) o []) known.found ∙ known.ported

-- the instances of all cells drive the wires at their outputs
pub instances_drive : (before : List PlainModule) (b : ℕ) (cells : List PlainCellPorts) → Each (IsKnown before) cells → driven_by_all before (numbered_from cell_instance b cells) ≡ all_picked (λ p. p.output) b cells
instances_drive before b [] known = refl
instances_drive before b (cell ∷ cells) known =
    ap (λ ps. driven_by ps (cell_instance b cell).conns ++ driven_by_all before (numbered_from cell_instance (suc b) cells)) (known_ports before cell known.0)
    ∙ ap (λ ns. ns ++ driven_by_all before (numbered_from cell_instance (suc b) cells)) (instance_drives b cell.ports known.0.apart)
    ∙ ap (λ ns. picked (λ p. p.output) b 0 cell.ports ++ ns) (instances_drive before (suc b) cells known.1)
