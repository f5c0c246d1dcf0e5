-- PORTS OF THE NEW DESIGN have the widths and the sides of those of the old one.
use Rattle.std.proofs.Common.{◌≡◌, ℕ, zero, suc, not, length, List, refl, sym, ap, ◌∙◌, subst}
use Rattle.std.specs.Prelude.{is_some}
use Rattle.cx_meaning.specs.declared.kinds.PortDecl.{PortDecl}
use Rattle.cx_meaning.specs.declared.ports.PortRef.{PortRef}
use Rattle.cx_meaning.specs.declared.ports.PortRef.TheVariants as ports
use Rattle.cx_meaning.specs.Instances.{Instance, At, OfInstance, part_of, cells_of, cell_at}
use Rattle.cx_meaning.specs.Sights.{PartPort, Go, AnInput, AnOutput, ItsDone, later_port, part_port}
use Rattle.cx_rules.specs.Ports.{declared_width, part_width, cell_width, width_of, written_width, is_part_output, is_cell_output, is_source_only, is_target_only, is_primitive_enable, is_instance, is_part_port}
use Rattle.cx_meaning.specs.Calls.{enables_at}
use Rattle.cx_rules.specs.InvokeShape.{latency_at, is_static_port}
use Rattle.cx_promotion.proofs.SeenAlike.{SameCell}
use Rattle.cx_promotion.proofs.Twins.{Twins, beside_each, twin_cells, TwinAt, none_there, a_row_there, a_child_there, twins_at}

-- two instances of components with one signature, both static in the same number of cycles or neither
pub record SameSignature (i j : Instance) : Type 0 where
  pub latency : (part_of i).latency ≡ (part_of j).latency
  pub inputs : (part_of i).inputs ≡ (part_of j).inputs
  pub outputs : (part_of i).outputs ≡ (part_of j).outputs

pub port_same : (i j : Instance) → SameSignature i j → (p : ℕ) → part_port (part_of i) p ≡ part_port (part_of j) p
port_same i j same zero = refl
port_same i j same (suc n) =
    ap (λ (list : List PortDecl). later_port (length list) (length (part_of i).outputs) n) same.inputs ∙ ap (λ (list : List PortDecl). later_port (length (part_of j).inputs) (length list) n) same.outputs

part_width_same : (i j : Instance) → SameSignature i j → (port : PartPort) → part_width (part_of j) port ≡ part_width (part_of i) port
part_width_same i j same Go = refl
part_width_same i j same (AnInput n) = ap (λ list. declared_width list n) (sym same.inputs)
part_width_same i j same (AnOutput n) = ap (λ list. declared_width list n) (sym same.outputs)
part_width_same i j same ItsDone = refl

abbrev pub Kind : At → At → Type 0
Kind at twin = TwinAt SameSignature at twin

signature : (child twin : Instance) → Twins SameSignature child twin → SameSignature child twin
signature child twin t = beside_each SameSignature child twin t

cell_width_same : (at twin : At) (p : ℕ) → Kind at twin → cell_width twin p ≡ cell_width at p
cell_width_same at twin p none_there = refl
cell_width_same at twin p a_row_there = refl
cell_width_same at twin p (a_child_there {child = child} {twin = other} t) =
    ap (part_width (part_of other)) (sym (port_same child other (signature child other t) p)) ∙ part_width_same child other (signature child other t) (part_port (part_of child) p)

cell_output_same : (at twin : At) (p : ℕ) → Kind at twin → is_cell_output twin p ≡ is_cell_output at p
cell_output_same at twin p none_there = refl
cell_output_same at twin p a_row_there = refl
cell_output_same at twin p (a_child_there {child = child} {twin = other} t) = ap is_part_output (sym (port_same child other (signature child other t) p))

enables_cell_same : (at twin : At) (p : ℕ) → Kind at twin → enables_at twin p ≡ enables_at at p
enables_cell_same at twin p none_there = refl
enables_cell_same at twin p a_row_there = refl
enables_cell_same at twin p (a_child_there t) = refl

instance_same : (at twin : At) → Kind at twin → is_instance twin ≡ is_instance at
instance_same at twin none_there = refl
instance_same at twin a_row_there = refl
instance_same at twin (a_child_there t) = refl

latency_same : (at twin : At) → Kind at twin → latency_at twin ≡ latency_at at
latency_same at twin none_there = refl
latency_same at twin a_row_there = refl
latency_same at twin (a_child_there {child = child} {twin = other} t) = sym (signature child other t).latency

same_kind : (at twin : At) → Kind at twin → SameCell at twin
same_kind at twin none_there = tt
same_kind at twin a_row_there = refl
same_kind at twin (a_child_there {child = child} {twin = other} t) = port_same child other (signature child other t)

-- a component cell is one in both
pub record OldChild (i : Instance) (c : ℕ) (kid : Instance) : Type 0 where
  pub child : Instance
  pub at : cell_at (cells_of i) c ≡ OfInstance child
  pub same : SameSignature child kid

child_back : (at twin : At) (kid : Instance) → Kind at twin → twin ≡ OfInstance kid → (child : Instance) × (at ≡ OfInstance child) × SameSignature child kid
child_back at twin kid none_there e = absurd (cc)
child_back at twin kid a_row_there e = absurd (cc)
child_back at twin kid (a_child_there {child = child} {twin = own} below) e =
    let same : own ≡ kid = cc in (child, refl, subst (SameSignature child) same (signature child own below))

module _ (i j : Instance) (t : Twins SameSignature i j) where
  pub kind_is : (c : ℕ) → Kind (cell_at (cells_of i) c) (cell_at (cells_of j) c)
  kind_is c = twins_at SameSignature (cells_of i) (cells_of j) (twin_cells SameSignature i j t) c

  pub old_child : (c : ℕ) (kid : Instance) → cell_at (cells_of j) c ≡ OfInstance kid → OldChild i c kid
  old_child c kid e = let r = child_back (cell_at (cells_of i) c) (cell_at (cells_of j) c) kid (kind_is c) e in record { child = r.0; at = r.1; same = r.2 }

  pub cells_alike : (c : ℕ) → SameCell (cell_at (cells_of i) c) (cell_at (cells_of j) c)
  cells_alike c = same_kind (cell_at (cells_of i) c) (cell_at (cells_of j) c) (kind_is c)

  pub width_same : (p : PortRef) → width_of j p ≡ width_of i p
  width_same (ports.Cell c p) = cell_width_same (cell_at (cells_of i) c) (cell_at (cells_of j) c) p (kind_is c)
  width_same (ports.Input n) = ap (λ list. declared_width list n) (sym (signature i j t).inputs)
  width_same (ports.Output n) = ap (λ list. declared_width list n) (sym (signature i j t).outputs)
  width_same (ports.Done g) = refl
  width_same (ports.Literal w v) = refl

  pub written_same : (p : PortRef) → written_width j p ≡ written_width i p
  written_same (ports.Cell c p) = width_same (ports.Cell c p)
  written_same (ports.Input n) = width_same (ports.Input n)
  written_same (ports.Output n) = width_same (ports.Output n)
  written_same (ports.Done g) = refl
  written_same (ports.Literal w v) = refl

  pub source_only_same : (p : PortRef) → is_source_only j p ≡ is_source_only i p
  source_only_same (ports.Cell c p) = cell_output_same (cell_at (cells_of i) c) (cell_at (cells_of j) c) p (kind_is c)
  source_only_same (ports.Input n) = refl
  source_only_same (ports.Output n) = refl
  source_only_same (ports.Done g) = refl
  source_only_same (ports.Literal w v) = refl

  pub target_only_same : (p : PortRef) → is_target_only j p ≡ is_target_only i p
  target_only_same (ports.Cell c p) = ap not (cell_output_same (cell_at (cells_of i) c) (cell_at (cells_of j) c) p (kind_is c))
  target_only_same (ports.Input n) = refl
  target_only_same (ports.Output n) = refl
  target_only_same (ports.Done g) = refl
  target_only_same (ports.Literal w v) = refl

  pub enable_same : (p : PortRef) → is_primitive_enable j p ≡ is_primitive_enable i p
  enable_same (ports.Cell c p) = enables_cell_same (cell_at (cells_of i) c) (cell_at (cells_of j) c) p (kind_is c)
  enable_same (ports.Input n) = refl
  enable_same (ports.Output n) = refl
  enable_same (ports.Done g) = refl
  enable_same (ports.Literal w v) = refl

  pub part_port_same : (p : PortRef) → is_part_port j p ≡ is_part_port i p
  part_port_same (ports.Cell c p) = instance_same (cell_at (cells_of i) c) (cell_at (cells_of j) c) (kind_is c)
  part_port_same (ports.Input n) = refl
  part_port_same (ports.Output n) = refl
  part_port_same (ports.Done g) = refl
  part_port_same (ports.Literal w v) = refl

  pub static_port_same : (p : PortRef) → is_static_port j p ≡ is_static_port i p
  static_port_same (ports.Cell c p) = ap is_some (latency_same (cell_at (cells_of i) c) (cell_at (cells_of j) c) (kind_is c))
  static_port_same (ports.Input n) = refl
  static_port_same (ports.Output n) = refl
  static_port_same (ports.Done g) = refl
  static_port_same (ports.Literal w v) = refl
