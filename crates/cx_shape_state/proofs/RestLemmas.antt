-- What the graph of a component finds is what rests on state.
use Rattle.std.proofs.Common.{◌≡◌, ◌<◌, ℕ, nat_lt, Bool, true, false, Some, length, ◌⊎◌, inl, inr, refl, sym, ap, ◌∙◌, subst, true≢false}
use Rattle.cx_text.specs.Members.{In}
use Rattle.cx_prim.specs.declared.ports.Side.{Side}
use Rattle.cx_prim.specs.declared.ports.Side.TheVariants as sides
use Rattle.cx_prim.specs.Rows.{Row}
use Rattle.cx_meaning.specs.declared.ports.PortRef.{PortRef}
use Rattle.cx_meaning.specs.declared.ports.PortRef.TheVariants as ports
use Rattle.cx_meaning.specs.Rows.{side_of}
use Rattle.cx_meaning.specs.Designs.{PlainAssign, group_at}
use Rattle.cx_meaning.specs.Instances.{Instance, At, Nothing, OfRow, OfInstance, part_of, cells_of, cell_at, cell_count}
use Rattle.cx_meaning.proofs.CycleLemmas.{row_within}
use Rattle.cx_meaning.specs.Sights.{PartPort, Go, AnInput, AnOutput, ItsDone, part_port}
use Rattle.cx_rules.specs.Items.{sources_of}
use Rattle.cx_rules.specs.Footprints.{AssignNames, Rests, literal_rests, input_rests, registered_rests, output_rests, done_rests, combinational_rests}
use Rattle.cx_graphs.specs.Graphs as graphs
use Rattle.cx_graphs.specs.Graphs.{targets_of}
use Rattle.cx_graphs.specs.Grounds.{IsGrounded, grounded}
use Rattle.cx_graphs.proofs.Ends.{ends_are_grounded, grounded_end}
use Rattle.cx_design_parts.specs.Outputs.{read_count}
use Rattle.cx_shape_state.specs.declared.basis.Basis.{Basis}
use Rattle.cx_shape_state.specs.declared.basis.Basis.TheVariants as basis
use Rattle.cx_shape_state.specs.Waits.{side_basis, part_basis, cell_basis, input_basis, basis_of, reader_of, waits_on, waits_of, waits}
use Rattle.cx_shape_state.specs.Resting.{rests_by, rests_at}
use Rattle.cx_shape_state.proofs.Cells.{reader, reader_is}
use Rattle.cx_design_parts.proofs.ReadLemmas.{AllRead, row_or}
use Rattle.cx_shape_state.proofs.Graph.{graph_length, targets_are, target_within, AlwaysWaits, GroupWaits, waits_either, always_in, driven_waits}
use Rattle.cx_shape_state.proofs.Names.{group_number}
use Rattle.cx_rules.proofs.FoundLemmas.{source_in, source_named}

-- the least relation that the rules give, where signature inputs rest on state or never rest
pub data RestsBy (i : Instance) (inputs : Bool) : PortRef → Type 0 where
  by_literal : {w v : ℕ} → RestsBy i inputs (ports.Literal w v)
  by_input : {n : ℕ} → inputs ≡ true → RestsBy i inputs (ports.Input n)
  by_registered : {c p : ℕ} (row : Row) → cell_at (cells_of i) c ≡ OfRow row → side_of row p ≡ sides.Registered → RestsBy i inputs (ports.Cell c p)
  by_output : {c p : ℕ} (n : ℕ) (child : Instance) → cell_at (cells_of i) c ≡ OfInstance child → part_port (part_of child) p ≡ AnOutput n → RestsBy i inputs (ports.Cell c p)
  by_done : {c p : ℕ} (child : Instance) → cell_at (cells_of i) c ≡ OfInstance child → part_port (part_of child) p ≡ ItsDone → RestsBy i inputs (ports.Cell c p)
  by_combinational : {c p : ℕ} (row : Row) → cell_at (cells_of i) c ≡ OfRow row → side_of row p ≡ sides.Output
      → ((m g : ℕ) (a : PlainAssign) → row.reads p m ≡ true → In (group_at (part_of i) g).assigns a → a.target ≡ ports.Cell c m → ⊥)
      → ((m : ℕ) (a : PlainAssign) (q : PortRef) → row.reads p m ≡ true → In (part_of i).always a → a.target ≡ ports.Cell c m → AssignNames a q → RestsBy i inputs q)
      → RestsBy i inputs (ports.Cell c p)

pub to_rests : {i : Instance} {inputs : Bool} {q : PortRef} → RestsBy i inputs q → Rests i q
to_rests by_literal = literal_rests
to_rests (by_input e) = input_rests
to_rests (by_registered row at side) = registered_rests row at side
to_rests (by_output n child at port) = output_rests n child at port
to_rests (by_done child at port) = done_rests child at port
to_rests (by_combinational row at side none named) = combinational_rests row at side none (λ m a q r j t n. to_rests (named m a q r j t n))

pub from_rests : {i : Instance} {q : PortRef} → Rests i q → RestsBy i true q
from_rests literal_rests = by_literal
from_rests input_rests = by_input refl
from_rests (registered_rests row at side) = by_registered row at side
from_rests (output_rests n child at port) = by_output n child at port
from_rests (done_rests child at port) = by_done child at port
from_rests (combinational_rests row at side none named) = by_combinational row at side none (λ m a q r j t n. from_rests (named m a q r j t n))

abbrev number_or : ℕ → Basis → ℕ
number_or other basis.State = other
number_or other basis.Nothing = other
number_or other (basis.Cell c) = c

module _ (i : Instance) (inputs : Bool) where
  -- a port that rests on state at once
  side_state : (c p : ℕ) (row : Row) → cell_at (cells_of i) c ≡ OfRow row → (side : Side) → side_of row p ≡ side → side_basis c side ≡ basis.State → RestsBy i inputs (ports.Cell c p)
  side_state c p row at sides.Enable f e = absurd (cc)
  side_state c p row at sides.Plain f e = absurd (cc)
  side_state c p row at sides.Output f e = absurd (cc)
  side_state c p row at sides.Registered f e = by_registered row at f

  part_state : (c p : ℕ) (child : Instance) → cell_at (cells_of i) c ≡ OfInstance child → (port : PartPort) → part_port (part_of child) p ≡ port → part_basis port ≡ basis.State → RestsBy i inputs (ports.Cell c p)
  part_state c p child at Go f e = absurd (cc)
  part_state c p child at (AnInput n) f e = absurd (cc)
  part_state c p child at (AnOutput n) f e = by_output n child at f
  part_state c p child at ItsDone f e = by_done child at f

  at_state : (c p : ℕ) (at : At) → cell_at (cells_of i) c ≡ at → cell_basis c p at ≡ basis.State → RestsBy i inputs (ports.Cell c p)
  at_state c p Nothing f e = absurd (cc)
  at_state c p (OfRow row) f e = side_state c p row f (side_of row p) refl e
  at_state c p (OfInstance child) f e = part_state c p child f (part_port (part_of child) p) refl e

  input_state : (b : Bool) → input_basis b ≡ basis.State → b ≡ true
  input_state true e = refl
  input_state false e = absurd (cc)

  state_rests : (q : PortRef) → basis_of i inputs q ≡ basis.State → RestsBy i inputs q
  state_rests (ports.Cell c p) e = at_state c p (cell_at (cells_of i) c) refl e
  state_rests (ports.Input n) e = by_input (input_state inputs e)
  state_rests (ports.Output n) e = absurd (cc)
  state_rests (ports.Done g) e = absurd (cc)
  state_rests (ports.Literal w v) e = by_literal

  -- a combinational output
  record OnCell (q : PortRef) (d : ℕ) : Type 0 where
    number : ℕ
    port_is : q ≡ ports.Cell d number
    row : Row
    row_is : cell_at (cells_of i) d ≡ OfRow row
    output : side_of row number ≡ sides.Output

  side_cell : (c p d : ℕ) (row : Row) → cell_at (cells_of i) c ≡ OfRow row → (side : Side) → side_of row p ≡ side → side_basis c side ≡ basis.Cell d → OnCell (ports.Cell c p) d
  side_cell c p d row at sides.Enable f e = absurd (cc)
  side_cell c p d row at sides.Plain f e = absurd (cc)
  side_cell c p d row at sides.Output f e = subst (λ x. OnCell (ports.Cell c p) x) (ap (number_or c) e) (record { number = p; port_is = refl; row = row; row_is = at; output = f })
  side_cell c p d row at sides.Registered f e = absurd (cc)

  part_cell : (d : ℕ) (port : PartPort) → part_basis port ≡ basis.Cell d → ⊥
  part_cell d Go e = cc
  part_cell d (AnInput n) e = cc
  part_cell d (AnOutput n) e = cc
  part_cell d ItsDone e = cc

  at_cell : (c p d : ℕ) (at : At) → cell_at (cells_of i) c ≡ at → cell_basis c p at ≡ basis.Cell d → OnCell (ports.Cell c p) d
  at_cell c p d Nothing f e = absurd (cc)
  at_cell c p d (OfRow row) f e = side_cell c p d row f (side_of row p) refl e
  at_cell c p d (OfInstance child) f e = absurd (part_cell d (part_port (part_of child) p) e)

  input_cell : (d : ℕ) (b : Bool) → input_basis b ≡ basis.Cell d → ⊥
  input_cell d true e = cc
  input_cell d false e = cc

  on_cell : (q : PortRef) (d : ℕ) → basis_of i inputs q ≡ basis.Cell d → OnCell q d
  on_cell (ports.Cell c p) d e = at_cell c p d (cell_at (cells_of i) c) refl e
  on_cell (ports.Input n) d e = absurd (input_cell d inputs e)
  on_cell (ports.Output n) d e = absurd (cc)
  on_cell (ports.Done g) d e = absurd (cc)
  on_cell (ports.Literal w v) d e = absurd (cc)

  abbrev Found : Basis → Type 0
  Found basis.State = Unit {0}
  Found basis.Nothing = ⊥
  Found (basis.Cell c) = IsGrounded (waits i inputs) c

  to_target : (c m : ℕ) → c < cell_count (cells_of i) → In (waits_of i inputs c) m → In (targets_of (waits i inputs) c) m
  to_target c m within j = subst (λ l. In l m) (sym (targets_are i inputs c within)) j

  from_target : (c m : ℕ) → In (targets_of (waits i inputs) c) m → In (waits_of i inputs c) m
  from_target c m j = subst (λ l. In l m) (targets_are i inputs c (target_within i inputs c m j)) j

  no_circle : (n : ℕ) → IsGrounded (waits i inputs) n → In (targets_of (waits i inputs) n) n → ⊥
  no_circle n (grounded within targets) j = no_circle n (targets n j) j

  -- the combinational outputs of a cell
  abbrev Sound : ℕ → Type 0
  Sound c = (p : ℕ) (row : Row) → cell_at (cells_of i) c ≡ OfRow row → side_of row p ≡ sides.Output → RestsBy i inputs (ports.Cell c p)

  named_rests : (c : ℕ) (a : PlainAssign) → c < cell_count (cells_of i) → IsGrounded (waits i inputs) c → ((x : ℕ) → In (targets_of (waits i inputs) c) x → Sound x)
      → In (part_of i).always a → reader_of i a.target ≡ Some c → (q : PortRef) → AssignNames a q → RestsBy i inputs q
  named_rests c a within ground below stands reads q names = subst (RestsBy i inputs) source.2 (by_basis (basis_of i inputs source.0.port) refl)
    where
      source : (p : _) × In (sources_of a) p × (p.port ≡ q)
      source = source_in a q names

      it_waits : (m : ℕ) (b : Basis) → basis_of i inputs source.0.port ≡ b → In (waits_on c b) m → In (targets_of (waits i inputs) c) m
      it_waits m b e j =
          to_target c m within
          (always_in i inputs c m (record { assign = a; stands = stands; reader = reads; port = source.0; named = source.1; waits = subst (λ x. In (waits_on c x) m) (sym e) j }))

      by_basis : (b : Basis) → basis_of i inputs source.0.port ≡ b → RestsBy i inputs source.0.port
      by_basis basis.State e = state_rests source.0.port e
      by_basis basis.Nothing e = absurd (no_circle c ground (it_waits c basis.Nothing e (inl refl)))
      by_basis (basis.Cell d) e =
          let on = on_cell source.0.port d e in
          subst (RestsBy i inputs) (sym on.port_is) (below d (it_waits d (basis.Cell d) e (inl refl)) on.number on.row on.row_is on.output)

  module _ (reads : AllRead (cells_of i)) where
    reads_is : (c p m : ℕ) (row : Row) → cell_at (cells_of i) c ≡ OfRow row → side_of row p ≡ sides.Output → row.reads p m ≡ nat_lt m (read_count row.ports)
    reads_is c p m row at side = (reads c row at).first p m side

    reader_from : (c p m : ℕ) (row : Row) (a : PlainAssign) → cell_at (cells_of i) c ≡ OfRow row → side_of row p ≡ sides.Output → row.reads p m ≡ true → a.target ≡ ports.Cell c m → reader_of i a.target ≡ Some c
    reader_from c p m row a at side r t = ap (reader_of i) t ∙ reader_is i c m row at (sym (reads_is c p m row at side) ∙ r)

    grounded_step : (c : ℕ) → c < cell_count (cells_of i) → IsGrounded (waits i inputs) c → ((x : ℕ) → In (targets_of (waits i inputs) c) x → Sound x) → Sound c
    grounded_step c within ground below p row at side =
        by_combinational row at side
        (λ m g a r j t. no_circle c ground (to_target c c within (driven_waits i inputs g c a j (reader_from c p m row a at side r t))))
        (λ m a q r j t n. named_rests c a within ground below j (reader_from c p m row a at side r t) q n)

    grounded_rests : (c : ℕ) → IsGrounded (waits i inputs) c → Sound c
    grounded_rests c (grounded within targets) p row at side =
        grounded_step c (row_within (cells_of i) c row at) (grounded within targets) (λ x j. grounded_rests x (targets x j)) p row at side

    found_rests : (q : PortRef) (b : Basis) → basis_of i inputs q ≡ b → Found b → RestsBy i inputs q
    found_rests q basis.State e f = state_rests q e
    found_rests q basis.Nothing e f = absurd f
    found_rests q (basis.Cell d) e f = let on = on_cell q d e in subst (RestsBy i inputs) (sym on.port_is) (grounded_rests d f on.number on.row on.row_is on.output)

    on_found : (c m : ℕ) (b : Basis) → Found b → In (waits_on c b) m → IsGrounded (waits i inputs) m
    on_found c m basis.State f j = absurd j
    on_found c m basis.Nothing f j = absurd f
    on_found c m (basis.Cell d) f (inl e) = subst (IsGrounded (waits i inputs)) e f
    on_found c m (basis.Cell d) f (inr j) = absurd j

    combinational_found : (c p : ℕ) (row : Row) → cell_at (cells_of i) c ≡ OfRow row → side_of row p ≡ sides.Output
        → ((m g : ℕ) (a : PlainAssign) → row.reads p m ≡ true → In (group_at (part_of i) g).assigns a → a.target ≡ ports.Cell c m → ⊥)
        → ((m : ℕ) (a : PlainAssign) (q : PortRef) → row.reads p m ≡ true → In (part_of i).always a → a.target ≡ ports.Cell c m → AssignNames a q → Found (basis_of i inputs q))
        → IsGrounded (waits i inputs) c
    combinational_found c p row at side none named =
        grounded (subst (λ k. c < k) (sym (graph_length i inputs)) (row_within (cells_of i) c row at)) (λ m j. either m (waits_either i inputs c m (from_target c m j)))
      where
        read : (a : PlainAssign) → reader_of i a.target ≡ Some c → (m : ℕ) × (a.target ≡ ports.Cell c m) × (row.reads p m ≡ true)
        read a e =
            let r = reader i a.target c e in
            let same : r.row ≡ row = ap (row_or row) (sym r.row_is ∙ at) in
            (r.number, r.port_is, reads_is c p r.number row at side ∙ ap (λ x. nat_lt r.number (read_count x.ports)) (sym same) ∙ r.reads)

        by_always : (m : ℕ) → AlwaysWaits i inputs c m → IsGrounded (waits i inputs) m
        by_always m w =
            let r = read w.assign w.reader in
            on_found c m (basis_of i inputs w.port.port) (named r.0 w.assign w.port.port r.2 w.stands r.1 (source_named w.assign w.port w.named)) w.waits

        by_group : (m : ℕ) → GroupWaits i inputs c m → IsGrounded (waits i inputs) m
        by_group m w =
            let r = read w.assign w.reader in
            let g = group_number (part_of i).groups w.group w.there in
            absurd (none r.0 g.0 w.assign r.2 (subst (λ x. In x.assigns w.assign) (sym g.1) w.stands) r.1)

        either : (m : ℕ) → AlwaysWaits i inputs c m ⊎ GroupWaits i inputs c m → IsGrounded (waits i inputs) m
        either m (inl w) = by_always m w
        either m (inr w) = by_group m w

    rests_found : {q : PortRef} → RestsBy i inputs q → Found (basis_of i inputs q)
    rests_found by_literal = tt
    rests_found (by_input e) = subst (λ b. Found (input_basis b)) (sym e) tt
    rests_found (by_registered {c = c} {p = p} row at side) = subst (λ x. Found (cell_basis c p x)) (sym at) (subst (λ s. Found (side_basis c s)) (sym side) tt)
    rests_found (by_output {c = c} {p = p} n child at port) = subst (λ x. Found (cell_basis c p x)) (sym at) (subst (λ s. Found (part_basis s)) (sym port) tt)
    rests_found (by_done {c = c} {p = p} child at port) = subst (λ x. Found (cell_basis c p x)) (sym at) (subst (λ s. Found (part_basis s)) (sym port) tt)
    rests_found (by_combinational {c = c} {p = p} row at side none named) =
        subst (λ x. Found (cell_basis c p x)) (sym at)
        (subst (λ s. Found (side_basis c s)) (sym side)
        (combinational_found c p row at side none (λ m a q r j t n. rests_found (named m a q r j t n))))

    by_truth : (b : Basis) → rests_by (waits i inputs) b ≡ true → Found b
    by_truth basis.State e = tt
    by_truth basis.Nothing e = absurd (true≢false (sym e))
    by_truth (basis.Cell c) e = ends_are_grounded (waits i inputs) (length (waits i inputs)) c e

    to_truth : (b : Basis) → Found b → rests_by (waits i inputs) b ≡ true
    to_truth basis.State f = refl
    to_truth basis.Nothing f = absurd f
    to_truth (basis.Cell c) f = grounded_end (waits i inputs) c f

    pub true_rests : (q : PortRef) → rests_at i inputs q ≡ true → RestsBy i inputs q
    unfolding rests_at
    true_rests q e = found_rests q (basis_of i inputs q) refl (by_truth (basis_of i inputs q) e)

    pub rests_true : (q : PortRef) → RestsBy i inputs q → rests_at i inputs q ≡ true
    unfolding rests_at
    rests_true q r = to_truth (basis_of i inputs q) (rests_found r)
