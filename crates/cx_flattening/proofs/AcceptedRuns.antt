-- THE RUN OF AN ACCEPTED DESIGN is that of its flat design.
use Rattle.std.proofs.Common.{ℕ, zero, suc, List, [], ◌∷◌}
use Rattle.cx_prim.specs.Rows.{IsLawful}
use Rattle.cx_prim.proofs.TableLaws.{row_of_lawful}
use Rattle.cx_meaning.specs.Laws.{AllRows, AllRowsBelow}
use Rattle.cx_meaning.specs.Designs.{PlainKind, OfPrimitive, OfComponent, PlainCell, PlainDesign, component_at}
use Rattle.cx_meaning.specs.Instances.{Instance, Cells, add_cell, cells_for, tree_within, tree_of, start}
use Rattle.cx_meaning.specs.Sights.{unheld}
use Rattle.cx_meaning.specs.Running.{run_main}
use Rattle.cx_meaning.proofs.IdleLemmas.{kept_within}
use Rattle.cx_rules.specs.Accepted.{IsAccepted}
use Rattle.cx_rules.specs.Wellformed.{IsDesign}
use Rattle.cx_laws.proofs.StartLemmas.{design_starts_settled}
use Rattle.std.specs.Prelude.{length}
use Rattle.cx_flattening.specs.Whole.{whole_main}
use Rattle.cx_flattening.specs.FlatDesign.{flat_design}
use Rattle.cx_flattening.specs.Runs.{AnswerAs}
use Rattle.cx_flattening.specs.Asking.{TreeAsks}
use Rattle.cx_flattening.specs.Ends.{NoneNamesDone}
use Rattle.cx_flattening.proofs.FlatTrees.{flat_tree}
use Rattle.cx_flattening.proofs.FlatStarts.{flat_start}
use Rattle.cx_flattening.proofs.FlatRuns.{control_as}
use Rattle.cx_flattening.proofs.AcceptedTrees.{good}
use Rattle.cx_flattening.proofs.AcceptedAsks.{tree_asks}

-- every row of a tree keeps the laws
lawful_cell : (child : ℕ → Instance) → ((k : ℕ) → AllRows IsLawful (child k)) → (kind : PlainKind) (rest : Cells) → AllRowsBelow IsLawful rest → AllRowsBelow IsLawful (add_cell child kind rest)
lawful_cell child each (OfPrimitive p) rest h = (row_of_lawful p, h)
lawful_cell child each (OfComponent k) rest h = (each k, h)

lawful_below : (child : ℕ → Instance) → ((k : ℕ) → AllRows IsLawful (child k)) → (cells : List PlainCell) → AllRowsBelow IsLawful (cells_for child cells)
lawful_below child each [] = tt
lawful_below child each (cell ∷ cells) = lawful_cell child each cell.kind (cells_for child cells) (lawful_below child each cells)

lawful_within : (d : PlainDesign) (n k : ℕ) → AllRows IsLawful (tree_within d n k)
lawful_within d zero k = tt
lawful_within d (suc n) k = lawful_below (tree_within d n) (lawful_within d n) (component_at d k).cells

module _ (d : PlainDesign) (design : IsDesign d) (accepted : IsAccepted d) (undone : NoneNamesDone d) where
  -- ALL THAT IS ASKED of the tree and of the flat one
  pub accepted_asks : TreeAsks (tree_of d) (tree_of (flat_design d))
  accepted_asks =
      let g = good d design accepted undone in
      tree_asks (tree_of d) (tree_of (flat_design d)) (flat_tree d design) g.fair g.controlled g.rules g.has g.calm
      (kept_within (flat_design d) (length (flat_design d).components) (flat_design d).main) (lawful_within (flat_design d) (length (flat_design d).components) (flat_design d).main)

  pub accepted_runs : (words : List (List ℕ)) (n : ℕ) → AnswerAs (tree_of d) (whole_main d words n) (run_main (flat_design d) words n)
  accepted_runs words n =
      control_as (tree_of d) (tree_of (flat_design d)) accepted_asks unheld (start (tree_of d) words) (start (tree_of (flat_design d)) words) n (flat_start d design words) (design_starts_settled (flat_design d) words)
