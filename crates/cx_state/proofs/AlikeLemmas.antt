-- States that agree on all primitive cells of a tree.
use Rattle.std.proofs.Common.{◌≡◌, ℕ, zero, suc, [], ◌∷◌, refl, ap, ◌∙◌}
use Rattle.cx_prim.specs.CellStates.{CellState}
use Rattle.cx_prim.specs.Rows.{Row}
use Rattle.cx_prim.specs.declared.ports.Side.{Side}
use Rattle.cx_prim.specs.declared.ports.Side.TheVariants.{Enable, Plain, Output, Registered}
use Rattle.cx_meaning.specs.declared.ports.PortRef.{PortRef}
use Rattle.cx_meaning.specs.declared.ports.PortRef.TheVariants as ports
use Rattle.cx_meaning.specs.Rows.{side_of}
use Rattle.cx_meaning.specs.Designs.{PlainComponent}
use Rattle.cx_meaning.specs.Instances.{Instance, Node, Cells, no_cells, a_primitive, an_instance, At, Nothing, OfRow, OfInstance, cell_at, cells_of, part_of, Path, State, under, instance_at, child_at}
use Rattle.cx_meaning.specs.Active.{Active, nothing}
use Rattle.cx_meaning.specs.Sights.{Look, Below, Held, unheld, output_seen, gather, of_option, PartPort, Go, AnInput, AnOutput, ItsDone, part_port, side_step, part_step, cell_step, step, approach, steps_enough, seen, outputs_below}
use Rattle.cx_state.specs.States.{under_path}

abbrev mutual
  pub Alike : Instance → State → State → Type 0
  Alike (Node part cells) s t = AlikeBelow cells (λ c. under c s) (λ c. under c t)

  pub AlikeBelow : Cells → (ℕ → State) → (ℕ → State) → Type 0
  AlikeBelow no_cells s t = Unit {0}
  AlikeBelow (a_primitive row rest) s t = (s 0 [] ≡ t 0 []) × AlikeBelow rest (λ k. s (suc k)) (λ k. t (suc k))
  AlikeBelow (an_instance child rest) s t = Alike child (s 0) (t 0) × AlikeBelow rest (λ k. s (suc k)) (λ k. t (suc k))

-- ONE STEP looks at the instance's own cells alone
module _ (part : PlainComponent) (act : Active) (s t : State) (look : Look) (below : Below) where
  side_alike : (row : Row) (c p : ℕ) (side : Side) → s (c ∷ []) ≡ t (c ∷ []) → side_step part act s look below row c p side ≡ side_step part act t look below row c p side
  side_alike row c p Enable e = refl
  side_alike row c p Plain e = refl
  side_alike row c p Output e = ap (λ (d : CellState). output_seen (λ inputs. row.output d inputs p) (gather (λ q. look (ports.Cell c q)) (row.reads p) 0 row.ports)) e
  side_alike row c p Registered e = ap (λ (d : CellState). of_option (row.output d [] p)) e

  part_alike : (c p : ℕ) (port : PartPort) → part_step part act s look below c p port ≡ part_step part act t look below c p port
  part_alike c p Go = refl
  part_alike c p (AnInput n) = refl
  part_alike c p (AnOutput n) = refl
  part_alike c p ItsDone = refl

  cell_alike : (c p : ℕ) (at : At) → ((row : Row) → at ≡ OfRow row → s (c ∷ []) ≡ t (c ∷ [])) → cell_step part act s look below c p at ≡ cell_step part act t look below c p at
  cell_alike c p Nothing h = refl
  cell_alike c p (OfRow row) h = side_alike row c p (side_of row p) (h row refl)
  cell_alike c p (OfInstance child) h = part_alike c p (part_port (part_of child) p)

step_alike : (i : Instance) (held : Held) (act : Active) (s t : State) (look : Look) (below : Below) → ((c : ℕ) (row : Row) → cell_at (cells_of i) c ≡ OfRow row → s (c ∷ []) ≡ t (c ∷ []))
    → (p : PortRef) → step i held act s look below p ≡ step i held act t look below p
step_alike i held act s t look below h (ports.Cell c p) = cell_alike (part_of i) act s t look below c p (cell_at (cells_of i) c) (λ row e. h c row e)
step_alike i held act s t look below h (ports.Input n) = refl
step_alike i held act s t look below h (ports.Output n) = refl
step_alike i held act s t look below h (ports.Done g) = refl
step_alike i held act s t look below h (ports.Literal w v) = refl

approach_alike : (i : Instance) (held : Held) (act : Active) (s t : State) (b d : Below) → ((c : ℕ) (row : Row) → cell_at (cells_of i) c ≡ OfRow row → s (c ∷ []) ≡ t (c ∷ [])) → ((c n : ℕ) → b c n ≡ d c n)
    → (n : ℕ) (p : PortRef) → approach i held act s b n p ≡ approach i held act t d n p
approach_alike i held act s t b d h k zero p = refl
approach_alike i held act s t b d h k (suc n) p =
    let looks : approach i held act s b n ≡ approach i held act t d n = λ j q. approach_alike i held act s t b d h k n q j in
    let belows : b ≡ d = λ j c m. k c m j in
    ap (λ (look : Look). step i held act s look b p) looks
    ∙ ap (λ (below : Below). step i held act s (approach i held act t d n) below p) belows
    ∙ step_alike i held act s t (approach i held act t d n) d h p

at_alike : (cells : Cells) (s t : ℕ → State) → AlikeBelow cells s t → (c : ℕ) (row : Row) → cell_at cells c ≡ OfRow row → s c [] ≡ t c []
at_alike no_cells s t a c row e = cc
at_alike (a_primitive one rest) s t a zero row e = a.0
at_alike (a_primitive one rest) s t a (suc c) row e = at_alike rest (λ k. s (suc k)) (λ k. t (suc k)) a.1 c row e
at_alike (an_instance child rest) s t a zero row e = cc
at_alike (an_instance child rest) s t a (suc c) row e = at_alike rest (λ k. s (suc k)) (λ k. t (suc k)) a.1 c row e

mutual
  pub seen_alike : (i : Instance) (held : Held) (act : Active) (s t : State) → Alike i s t → (p : PortRef) → seen i held act s p ≡ seen i held act t p
  seen_alike (Node part cells) held act s t a p =
      approach_alike (Node part cells) held act s t (outputs_below cells (λ c. under c s)) (outputs_below cells (λ c. under c t)) (λ c row e. at_alike cells (λ k. under k s) (λ k. under k t) a c row e)
      (λ c n. below_alike cells (λ k. under k s) (λ k. under k t) a c n) (steps_enough (Node part cells)) p

  below_alike : (cells : Cells) (s t : ℕ → State) → AlikeBelow cells s t → (c n : ℕ) → outputs_below cells s c n ≡ outputs_below cells t c n
  below_alike no_cells s t a c n = refl
  below_alike (a_primitive row rest) s t a zero n = refl
  below_alike (a_primitive row rest) s t a (suc c) n = below_alike rest (λ k. s (suc k)) (λ k. t (suc k)) a.1 c n
  below_alike (an_instance child rest) s t a zero n = seen_alike child unheld nothing (s 0) (t 0) a.0 (ports.Output n)
  below_alike (an_instance child rest) s t a (suc c) n = below_alike rest (λ k. s (suc k)) (λ k. t (suc k)) a.1 c n

-- so do the states of an instance in the tree
mutual
  pub alike_at : (i : Instance) (path : Path) (s t : State) → Alike i s t → Alike (instance_at i path) (under_path path s) (under_path path t)
  alike_at (Node part cells) [] s t a = a
  alike_at (Node part cells) (c ∷ path) s t a = alike_child cells c path (λ k. under k s) (λ k. under k t) a

  alike_child : (cells : Cells) (c : ℕ) (path : Path) (s t : ℕ → State) → AlikeBelow cells s t → Alike (child_at cells c path) (under_path path (s c)) (under_path path (t c))
  alike_child no_cells c path s t a = tt
  alike_child (a_primitive row rest) zero path s t a = tt
  alike_child (a_primitive row rest) (suc c) path s t a = alike_child rest c path (λ k. s (suc k)) (λ k. t (suc k)) a.1
  alike_child (an_instance child rest) zero path s t a = alike_at child path (s 0) (t 0) a.0
  alike_child (an_instance child rest) (suc c) path s t a = alike_child rest c path (λ k. s (suc k)) (λ k. t (suc k)) a.1
