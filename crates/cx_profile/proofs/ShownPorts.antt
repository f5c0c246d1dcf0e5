-- The ports that show the counts of an instance, by its component alone.
use Rattle.std.proofs.Common.{◌≡◌, ℕ, zero, suc, ◌+◌, ◌*◌, Bool, true, false, inl, inr, List, [], ◌∷◌, ◌++◌, length, map, refl, sym, ap, ◌∙◌, arith}
use Rattle.std.specs.Prelude.{if◌then◌else◌}
use Rattle.std.specs.List.{range_with_len}
use Rattle.std.proofs.lemmas.List.{map-append}
use Rattle.cx_meaning.specs.declared.ports.PortRef.{PortRef}
use Rattle.cx_meaning.specs.declared.ports.PortRef.TheVariants as ports
use Rattle.cx_meaning.specs.Designs.{PlainGroup, PlainKind, OfPrimitive, OfComponent, PlainCell, PlainComponent, PlainDesign, component_at}
use Rattle.cx_meaning.specs.Instances.{Node, Cells, add_cell, cells_for, tree_within, part_of}
use Rattle.cx_text.specs.Members.{In}
use Rattle.cx_rules.specs.Ports.{component_of}
use Rattle.cx_profiling.specs.Counters.{is_counted, counters_from, Shown, shown_here, shown_at_cell, shown_in, shown_below, first_gained}
use Rattle.cx_profiling.specs.Instrumented.{gained}
use Rattle.cx_profile.specs.Growing.{register_ports, ports_from, kind_ports, cell_ports, shown_ports}

abbrev pub port_shown : Shown → PortRef
port_shown x = x.port

-- REGISTERS are every second cell
registers : (cells : Cells) (c a b g : ℕ) (gs : List PlainGroup) → b ≡ c + 2 * a
    → map port_shown (map shown_here (counters_from cells b g gs)) ≡ map (λ i. ports.Cell (c + 2 * i) 2) (range_with_len a (length (counters_from cells b g gs)))
registers cells c a b g [] e = refl
registers cells c a b g (x ∷ gs) e = by (is_counted cells x) (registers cells c (a + 1) (suc (suc b)) (suc g) gs (omega arith)) (registers cells c a b (suc g) gs e)
  where
    by : (t : Bool)
        → map port_shown (map shown_here (counters_from cells (suc (suc b)) (suc g) gs)) ≡ map (λ i. ports.Cell (c + 2 * i) 2) (range_with_len (a + 1) (length (counters_from cells (suc (suc b)) (suc g) gs)))
        → map port_shown (map shown_here (counters_from cells b (suc g) gs)) ≡ map (λ i. ports.Cell (c + 2 * i) 2) (range_with_len a (length (counters_from cells b (suc g) gs)))
        → map port_shown (map shown_here (if t then record { group = g; register = b } ∷ counters_from cells (suc (suc b)) (suc g) gs else counters_from cells b (suc g) gs))
        ≡ map (λ i. ports.Cell (c + 2 * i) 2) (range_with_len a (length (if t then record { group = g; register = b } ∷ counters_from cells (suc (suc b)) (suc g) gs else counters_from cells b (suc g) gs)))
    by true counted plain = ap (λ p. p ∷ map port_shown (map shown_here (counters_from cells (suc (suc b)) (suc g) gs))) (ap (λ n. ports.Cell n 2) e) ∙ ap (λ ps. ports.Cell (c + 2 * a) 2 ∷ ps) counted
    by false counted plain = plain

pub registers-shown : (cells : Cells) (c g : ℕ) (gs : List PlainGroup) → map port_shown (map shown_here (counters_from cells c g gs)) ≡ register_ports c (length (counters_from cells c g gs))
registers-shown cells c g gs = registers cells c 0 c g gs (omega arith)

-- THE OUTPUTS THAT A CELL GAINS
outputs : (c p a q : ℕ) (xs : List Shown) → q ≡ p + a → map port_shown (shown_at_cell c q xs) ≡ map (λ i. ports.Cell c (p + i)) (range_with_len a (length xs))
outputs c p a q [] e = refl
outputs c p a q (x ∷ xs) e = ap (λ n. ports.Cell c n ∷ map port_shown (shown_at_cell c (suc q) xs)) e ∙ ap (λ ps. ports.Cell c (p + a) ∷ ps) (outputs c p (a + 1) (suc q) xs (omega arith))

module _ (d : PlainDesign) where
  part_is : (j : ℕ) → part_of (component_of d j) ≡ component_at d j
  part_is j = levels (length d.components)
    where
      levels : (n : ℕ) → part_of (tree_within d n j) ≡ component_at d j
      levels zero = refl
      levels (suc n) = refl

  -- the component of a cell gains an output for each of its counts
  abbrev pub ShowAll : List PlainCell → Type 0
  ShowAll cells = (cell : PlainCell) (j : ℕ) → In cells cell → cell.kind ≡ OfComponent j → gained d j ≡ length (shown_in (component_of d j))

  cells-shown : (cells : List PlainCell) (c e : ℕ) → c ≡ e → ShowAll cells → map port_shown (shown_below (cells_for (component_of d) cells) c) ≡ cell_ports d e cells
  cells-shown [] c e same all = refl
  cells-shown (cell ∷ cells) c e same all = by cell.kind (λ j k. all cell j (inl refl) k) (cells-shown cells (suc c) (e + 1) (omega arith) (λ x j i. all x j (inr i)))
    where
      by : (kind : PlainKind) → ((j : ℕ) → kind ≡ OfComponent j → gained d j ≡ length (shown_in (component_of d j))) → map port_shown (shown_below (cells_for (component_of d) cells) (suc c)) ≡ cell_ports d (e + 1) cells
          → map port_shown (shown_below (add_cell (component_of d) kind (cells_for (component_of d) cells)) c) ≡ kind_ports d e kind ++ cell_ports d (e + 1) cells
      by (OfPrimitive primitive) own rest = rest
      by (OfComponent j) own rest =
          map-append port_shown (shown_at_cell c (first_gained (part_of (component_of d j))) (shown_in (component_of d j))) (shown_below (cells_for (component_of d) cells) (suc c))
          ∙ ap (λ ps. ps ++ map port_shown (shown_below (cells_for (component_of d) cells) (suc c)))
          (ap (λ i. map port_shown (shown_at_cell c (first_gained i) (shown_in (component_of d j)))) (part_is j)
          ∙ outputs c (first_gained (component_at d j)) 0 (first_gained (component_at d j)) (shown_in (component_of d j)) (omega arith)
          ∙ ap (λ n. ports_from c (first_gained (component_at d j)) n) (sym (own j refl))
          ∙ ap (λ n. ports_from n (first_gained (component_at d j)) (gained d j)) same)
          ∙ ap (λ ps. kind_ports d e (OfComponent j) ++ ps) rest

  -- THE PORTS THAT SHOW THE COUNTS of a component and all below it
  pub shown-ports : (k : ℕ) → component_of d k ≡ Node (component_at d k) (cells_for (component_of d) (component_at d k).cells) → ShowAll (component_at d k).cells
      → (own : ℕ) → own ≡ length (counters_from (cells_for (component_of d) (component_at d k).cells) (length (component_at d k).cells) 0 (component_at d k).groups)
      → map port_shown (shown_in (component_of d k)) ≡ shown_ports d (component_at d k) own
  shown-ports k tree all own count =
      ap (λ i. map port_shown (shown_in i)) tree
      ∙ map-append port_shown (map shown_here (counters_from (cells_for (component_of d) part.cells) (length part.cells) 0 part.groups)) (shown_below (cells_for (component_of d) part.cells) 0)
      ∙ ap (λ ps. ps ++ map port_shown (shown_below (cells_for (component_of d) part.cells) 0))
      (registers-shown (cells_for (component_of d) part.cells) (length part.cells) 0 part.groups ∙ ap (register_ports (length part.cells)) (sym count))
      ∙ ap (λ ps. register_ports (length part.cells) own ++ ps) (cells-shown part.cells 0 0 refl all)
    where
      part : PlainComponent
      part = component_at d k
