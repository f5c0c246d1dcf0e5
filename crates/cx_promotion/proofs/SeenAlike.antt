-- WHAT IS SEEN INSIDE a closed set of ports: where two instances have the same rows, active assignments in one order and states that look alike.
use Rattle.std.specs.Prelude.{◌≡◌, ℕ, true, false, [], ◌∷◌, refl}
use Rattle.std.proofs.Common.{sym, ap, ◌∙◌}
use Rattle.std.proofs.Math.Path.{fun_ext}
use Rattle.cx_prim.specs.declared.ports.Side.{Side}
use Rattle.cx_prim.specs.declared.ports.Side.TheVariants as sides
use Rattle.cx_prim.specs.Rows.{Inputs, Row, is_output_side}
use Rattle.cx_meaning.specs.declared.ports.PortRef.{PortRef}
use Rattle.cx_meaning.specs.declared.ports.PortRef.TheVariants as ports
use Rattle.cx_meaning.specs.declared.sights.Seen.{Seen}
use Rattle.cx_meaning.specs.declared.sights.Seen.TheVariants.{Undefined}
use Rattle.cx_meaning.specs.Rows.{side_of}
use Rattle.cx_meaning.specs.Instances.{Instance, At, Nothing, OfRow, OfInstance, cell_at, cells_of, part_of, State, under}
use Rattle.cx_meaning.specs.Active.{Active, nothing, drivers}
use Rattle.cx_meaning.specs.Sights.{Look, Below, Held, unheld, Sees, PartPort, Go, AnInput, AnOutput, ItsDone, part_port, bit_of, is_done_cell, step, side_step, part_step, cell_step, target_seen, output_seen, of_option, gather, seen, outputs_below}
use Rattle.cx_meaning.proofs.SightsLemmas.{step_alike}
use Rattle.cx_rules.specs.Circles.{IsAcyclic, AcyclicBelow}
use Rattle.cx_rules.specs.Footprints.{Leads}
use Rattle.cx_rules.proofs.FoundLemmas.{seen_solves}
use Rattle.cx_rewrites.specs.Solving.{Solves}
use Rattle.cx_rewrites.proofs.SolvedLemmas.{solved_is_found}

-- two cells with one row, or two children whose ports are numbered alike
abbrev pub SameCell : At → At → Type 0
SameCell Nothing Nothing = Unit {0}
SameCell (OfRow row) (OfRow twin) = row ≡ twin
SameCell (OfInstance child) (OfInstance twin) = (p : ℕ) → part_port (part_of child) p ≡ part_port (part_of twin) p
SameCell _ _ = ⊥

module _ (i j : Instance) (held : Held) (act other : Active) (s u : State) (look : Look) (below : Below) where
  -- a port inside: its assignments give one value, and as an output it gives one value over the same inputs
  pub record IsAlike (p : PortRef) : Type 0 where
    pub target : (undriven : Seen) → target_seen undriven look (drivers (part_of i) act p) ≡ target_seen undriven look (drivers (part_of j) other p)
    pub cells : (c n : ℕ) → p ≡ ports.Cell c n → SameCell (cell_at (cells_of i) c) (cell_at (cells_of j) c)
    pub output : (c n : ℕ) (row : Row) (inputs : Inputs) → p ≡ ports.Cell c n → cell_at (cells_of i) c ≡ OfRow row → is_output_side (side_of row n) ≡ true → row.output (s (c ∷ [])) inputs n ≡ row.output (u (c ∷ [])) inputs n
    pub dones : (c n : ℕ) → p ≡ ports.Cell c n → is_done_cell act.done_cell c ≡ is_done_cell other.done_cell c

  side_alike : (c n : ℕ) (row : Row) → IsAlike (ports.Cell c n) → cell_at (cells_of i) c ≡ OfRow row → (side : Side) → side_of row n ≡ side → side_step (part_of i) act s look below row c n side ≡ side_step (part_of j) other u look below row c n side
  side_alike c n row alike is sides.Enable side = alike.target (bit_of false)
  side_alike c n row alike is sides.Plain side = alike.target Undefined
  side_alike c n row alike is sides.Output side =
      ap (λ f. output_seen f (gather (λ q. look (ports.Cell c q)) (row.reads n) 0 row.ports)) (fun_ext (λ inputs. alike.output c n row inputs refl is (ap is_output_side side)))
  side_alike c n row alike is sides.Registered side = ap of_option (alike.output c n row [] refl is (ap is_output_side side))

  part_alike : (c n : ℕ) → IsAlike (ports.Cell c n) → (port : PartPort) → part_step (part_of i) act s look below c n port ≡ part_step (part_of j) other u look below c n port
  part_alike c n alike Go = alike.target (bit_of false)
  part_alike c n alike (AnInput k) = alike.target Undefined
  part_alike c n alike (AnOutput k) = refl
  part_alike c n alike ItsDone = ap bit_of (alike.dones c n refl)

  cell_alike : (c n : ℕ) → IsAlike (ports.Cell c n) → (at twin : At) → SameCell at twin → cell_at (cells_of i) c ≡ at
      → cell_step (part_of i) act s look below c n at ≡ cell_step (part_of j) other u look below c n twin
  cell_alike c n alike Nothing Nothing same is = refl
  cell_alike c n alike (OfRow row) (OfRow twin) same is =
      side_alike c n row alike is (side_of row n) refl ∙ ap (λ (r : Row). side_step (part_of j) other u look below r c n (side_of r n)) same
  cell_alike c n alike (OfInstance child) (OfInstance twin) same is =
      part_alike c n alike (part_port (part_of child) n) ∙ ap (λ port. part_step (part_of j) other u look below c n port) (same n)
  cell_alike c n alike _ _ same is = absurd same

  -- ONE STEP over one look gives the same
  step_same : (p : PortRef) → IsAlike p → step i held act s look below p ≡ step j held other u look below p
  step_same (ports.Cell c n) alike = cell_alike c n alike (cell_at (cells_of i) c) (cell_at (cells_of j) c) (alike.cells c n refl) refl
  step_same (ports.Input n) alike = refl
  step_same (ports.Output n) alike = alike.target Undefined
  step_same (ports.Done g) alike = alike.target (bit_of false)
  step_same (ports.Literal w v) alike = refl

module _ (i j : Instance) (held : Held) (act other : Active) (s u : State) (inside : PortRef → Type 0)
    (closed : (p q : PortRef) → inside p → Leads i act p q → inside q)
    (alike : (p : PortRef) → inside p → IsAlike i j held act other s u (seen j held other u) (outputs_below (cells_of j) (λ c. under c u)) p)
    (children : (c n : ℕ) (child : Instance) (x : Seen) → cell_at (cells_of i) c ≡ OfInstance child → Sees child unheld nothing (under c s) (ports.Output n) x
    → outputs_below (cells_of j) (λ c. under c u) c n ≡ x) where
  abbrev look : Look
  look = seen j held other u

  abbrev beneath : Below
  beneath = outputs_below (cells_of j) (λ c. under c u)

  solves : IsAcyclic j other → AcyclicBelow (cells_of j) → Solves i held act s inside look
  solves acyclic deeper = record {
    closed = closed;
    steps = λ p below here at.
        seen_solves j held other u acyclic deeper p
        ∙ sym (step_same i j held act other s u look beneath p (alike p here))
        ∙ step_alike look look i held act s beneath below p
        (λ c port n child is stands. children c n child (below c n) stands (at c port n child is stands))
        (λ q n m. refl);
  }

  -- EVERY PORT INSIDE is seen in the new instance as in the old one
  pub seen_inside : IsAcyclic i act → AcyclicBelow (cells_of i) → IsAcyclic j other → AcyclicBelow (cells_of j) → (p : PortRef) → inside p → seen j held other u p ≡ seen i held act s p
  seen_inside acyclic deeper new_acyclic new_deeper p here = solved_is_found i held act s inside look acyclic deeper (solves new_acyclic new_deeper) p here
