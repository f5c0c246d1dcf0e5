-- What an assignment has cells wait for.
use Rattle.std.proofs.Common.{◌≡◌, ◌+◌, ℕ, Bool, List, [], ◌∷◌, ◌++◌, Some, None, flat_map, sym, ap, ◌∙◌, arith}
use Rattle.cx_meaning.specs.declared.ports.PlacedPort.{PlacedPort}
use Rattle.cx_meaning.specs.Designs.{PlainAssign, PlainComponent}
use Rattle.cx_meaning.specs.Instances.{Instance, part_of, cell_count, cells_of}
use Rattle.cx_rules.specs.Items.{sources_of, operands_of}
use Rattle.cx_graphs.specs.Graphs.{Edges}
use Rattle.cx_graphs.specs.Edges.{with_edge, no_edges}
use Rattle.cx_shape_state.specs.declared.basis.Basis.{Basis}
use Rattle.cx_shape_state.specs.Waits.{basis_of, reader_of, waits_on, if_reader, always_waits, group_waits, tabled, waits}
use Rattle.cx_shape_state.specs.Joining.{with_edges, joined}
use Rattle.cx_shape_state.proofs.Joins.{with_edge-edges, with_edges-more, joined-none, joined-same, joined-more, joined-one, joined_no_edges}

-- one edge for a port that rests on something
pub waits_for : (g new : Edges) (c d : ℕ) (b : Basis) → waits_on c b ≡ d ∷ [] → new ≡ with_edge g c d → new ≡ with_edges g c (waits_on c b)
waits_for g new c d b e step = step ∙ with_edge-edges g c d ∙ ap (with_edges g c) (sym e)

module _ (i : Instance) (inputs : Bool) (a : PlainAssign) where
  abbrev named_waits : ℕ → List PlacedPort → List ℕ
  named_waits c ports = flat_map (λ p. waits_on c (basis_of i inputs p.port)) ports

  pub no_reader : (g : Edges) → reader_of i a.target ≡ None → g ≡ joined g 0 (λ c. always_waits i inputs c a)
  no_reader g e =
      sym (joined-none g 0)
      ∙ joined-same g 0 (λ c. []) (λ c. always_waits i inputs c a) (λ c. sym (ap (λ r. if_reader r c (named_waits c (sources_of a))) e))

  pub one_reader : (g mid new : Edges) (cell : ℕ) → reader_of i a.target ≡ Some cell → mid ≡ with_edges g cell (waits_on cell (basis_of i inputs a.source.port))
      → new ≡ with_edges mid cell (named_waits cell (operands_of a.guard)) → new ≡ joined g 0 (λ c. always_waits i inputs c a)
  one_reader g mid new cell e first rest =
      let more = named_waits cell (operands_of a.guard) in
      let at : cell ≡ 0 + cell = omega arith in
      rest
      ∙ ap (λ h. with_edges h cell more) first
      ∙ with_edges-more g cell (waits_on cell (basis_of i inputs a.source.port)) more
      ∙ joined-one g 0 cell cell (λ c. named_waits c (sources_of a)) at
      ∙ joined-same g 0 (λ c. if_reader (Some cell) c (named_waits c (sources_of a))) (λ c. always_waits i inputs c a) (λ c. ap (λ r. if_reader r c (named_waits c (sources_of a))) (sym e))

module _ (i : Instance) (a : PlainAssign) where
  pub no_driven : (g : Edges) → reader_of i a.target ≡ None → g ≡ joined g 0 (λ c. group_waits i c a)
  no_driven g e =
      sym (joined-none g 0) ∙ joined-same g 0 (λ c. []) (λ c. group_waits i c a) (λ c. sym (ap (λ r. if_reader r c (c ∷ [])) e))

  pub one_driven : (g new : Edges) (cell : ℕ) → reader_of i a.target ≡ Some cell → new ≡ with_edge g cell cell → new ≡ joined g 0 (λ c. group_waits i c a)
  one_driven g new cell e step =
      let at : cell ≡ 0 + cell = omega arith in
      step
      ∙ with_edge-edges g cell cell
      ∙ joined-one g 0 cell cell (λ c. c ∷ []) at
      ∙ joined-same g 0 (λ c. if_reader (Some cell) c (c ∷ [])) (λ c. group_waits i c a) (λ c. ap (λ r. if_reader r c (c ∷ [])) (sym e))

-- the graph of a component
pub graph_is : (i : Instance) (inputs : Bool) (part : PlainComponent) (empty mid new : Edges) → part_of i ≡ part → empty ≡ no_edges (cell_count (cells_of i))
    → mid ≡ joined empty 0 (λ c. flat_map (always_waits i inputs c) part.always)
    → new ≡ joined mid 0 (λ c. flat_map (λ g. flat_map (group_waits i c) g.assigns) part.groups) → new ≡ waits i inputs
graph_is i inputs part empty mid new same none first rest =
    let f : PlainComponent → ℕ → List ℕ = λ x c. flat_map (always_waits i inputs c) x.always in
    let h : PlainComponent → ℕ → List ℕ = λ x c. flat_map (λ g. flat_map (group_waits i c) g.assigns) x.groups in
    rest
    ∙ ap (λ m. joined m 0 (h part)) first
    ∙ joined-more empty 0 (f part) (h part)
    ∙ ap (λ m. joined m 0 (λ c. f part c ++ h part c)) none
    ∙ joined_no_edges (λ c. f part c ++ h part c) 0 (cell_count (cells_of i))
    ∙ ap (λ x. tabled (λ c. f x c ++ h x c) 0 (cell_count (cells_of i))) (sym same)
