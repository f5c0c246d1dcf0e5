-- What drives each target of a component, one driver after the other from the last on.
use Rattle.std.proofs.Common.{◌≡◌, ℕ, zero, suc, ◌+◌, ◌<◌, ◌≤◌, ◌==◌, Bool, true, false, List, [], ◌∷◌, ◌++◌, Option, Some, None, option_map, length, map, set, get_or, drop, drop-cons, add-one, append_assoc, if◌then◌else◌, refl, ap, sym, ◌∙◌, arith, eq-eqb}
use Rattle.std.specs.Prelude.{codes}
use Rattle.std.specs.List.{flat_map}
use Rattle.std.proofs.lemmas.Bool.{ne_eqb}
use Rattle.std.proofs.lemmas.List.{length-map}
use Rattle.cx_meaning.specs.declared.ports.PortRef.TheVariants as ports
use Rattle.cx_vtree.specs.Plain.{PlainExpr, Named, PlainPort, PlainAssign, SetTo, PlainModule}
use Rattle.cx_net.specs.Nets.{PlainNetTarget, ToPort, ToRegister, ToWire, ToHole, ToDone, PlainNetDriver, PlainNetComponent}
use Rattle.cx_net.specs.PlainNets.{plain_net_component, plain_net_driver}
use Rattle.cx_net.specs.declared.components.NetComponent.{NetComponent}
use Rattle.cx_net.specs.declared.drivers.NetDriver.{NetDriver}
use Rattle.cx_net.specs.NetMeaning.{same_target, drivers_to}
use Rattle.cx_emit.specs.Numbered.{numbered_from, with_numbers, lists_from}
use Rattle.cx_emit.specs.Names.{cell_port_name, output_name, register_name, wire_name}
use Rattle.cx_emit.specs.Exprs.{literal}
use Rattle.cx_emit.specs.Chains.{before, chain_of, chain_to}
use Rattle.cx_emit.specs.Signatures.{PlainCellPorts, module_ports}
use Rattle.cx_emit.specs.Sources.{assign, port_assigns, cell_assigns, register_assign, register_reset, register_step, wire_assign, output_assign, done_assign, cell_instance, decls_with, module_with}
use Rattle.cx_emit.specs.Driven.{PlainDriven, port_driven, cell_driven, driven_by, changed_from, changed_at, driver_before, target_before, present, edge_with}
use Rattle.cx_text.proofs.BoolLaws.{if_same}

-- a function of a choice chooses between what it gives of the two
ap_if : {A B : Type 0} (f : A → B) (b : Bool) (x y : A) → f (if b then x else y) ≡ (if b then f x else f y)
ap_if f true x y = refl
ap_if f false x y = refl

-- a list changed at a number before its first
changed_from-passed : {A : Type 0} (k n : ℕ) (f : A → A) (xs : List A) → n < k → changed_from k n f xs ≡ xs
changed_from-passed k n f [] passed = refl
changed_from-passed k n f (x ∷ xs) passed =
    ap (λ b. (if b then f x else x) ∷ changed_from (suc k) n f xs) (ne_eqb n k (λ e. omega (arith, e, passed)))
    ∙ ap (λ ys. x ∷ ys) (changed_from-passed (suc k) n f xs (omega (arith, passed)))

-- a list changed at a number behind its last
changed_from-over : {A : Type 0} (k n : ℕ) (f : A → A) (xs : List A) → k + length xs ≤ n → changed_from k n f xs ≡ xs
changed_from-over k n f [] over = refl
changed_from-over k n f (x ∷ xs) over =
    ap (λ b. (if b then f x else x) ∷ changed_from (suc k) n f xs) (ne_eqb n k (λ e. omega (arith, e, over)))
    ∙ ap (λ ys. x ∷ ys) (changed_from-over (suc k) n f xs (omega (arith, over)))

-- a list changed at one of its numbers, by writing there
changed_from-set : {A B : Type 0} (g : A → B) (f : B → B) (xs : List A) (k i n : ℕ) (x y : A) → n ≡ k + i → i < length xs → x ≡ get_or xs i x → g y ≡ f (g x)
    → map g (set xs i y) ≡ changed_from k n f (map g xs)
changed_from-set g f [] k i n x y there within was is = absurd (omega (arith, within))
changed_from-set g f (z ∷ zs) k zero n x y there within was is =
    ap (λ u. u ∷ map g zs) (is ∙ ap (λ u. f (g u)) was)
    ∙ ap (λ ys. f (g z) ∷ ys) (sym (changed_from-passed (suc k) n f (map g zs) (omega (arith, there))))
    ∙ ap (λ b. (if b then f (g z) else g z) ∷ changed_from (suc k) n f (map g zs)) (sym (eq-eqb n k (omega (arith, there))))
changed_from-set g f (z ∷ zs) k (suc i) n x y there within was is =
    ap (λ ys. g z ∷ ys) (changed_from-set g f zs (suc k) i n x y (omega (arith, there)) (omega (arith, within)) was is)
    ∙ ap (λ b. (if b then f (g z) else g z) ∷ changed_from (suc k) n f (map g zs)) (sym (ne_eqb n k (λ e. omega (arith, e, there))))

-- the element of a number is changed by writing there
pub changed_at-set : {A B : Type 0} (g : A → B) (f : B → B) (xs : List A) (n : ℕ) (x y : A) → n < length xs → x ≡ get_or xs n x → g y ≡ f (g x)
    → map g (set xs n y) ≡ changed_at n f (map g xs)
changed_at-set g f xs n x y within was is = changed_from-set g f xs 0 n n x y (omega arith) within was is

-- there is none to change
pub changed_at-over : {A B : Type 0} (g : A → B) (f : B → B) (xs : List A) (n : ℕ) → length xs ≤ n → map g xs ≡ changed_at n f (map g xs)
changed_at-over g f xs n over = sym (changed_from-over 0 n f (map g xs) (let same = length-map xs g in omega (arith, over, same)))

-- two lists with numbers, of which one differs at those that pass a test
module _ {A B : Type 0} (f g : ℕ → A → B) (h : B → B) (test : ℕ → Bool) (law : (j : ℕ) (x : A) → g j x ≡ (if test j then h (f j x) else f j x)) where
  numbered_off : (k : ℕ) (xs : List A) → ((j : ℕ) → test j ≡ false) → numbered_from g k xs ≡ numbered_from f k xs
  numbered_off k [] off = refl
  numbered_off k (x ∷ xs) off =
      ap (λ y. y ∷ numbered_from g (suc k) xs) (law k x ∙ ap (λ b. if b then h (f k x) else f k x) (off k))
      ∙ ap (λ ys. f k x ∷ ys) (numbered_off (suc k) xs off)

  numbered_at : (n k : ℕ) (xs : List A) → ((j : ℕ) → test j ≡ (n == j)) → numbered_from g k xs ≡ changed_from k n h (numbered_from f k xs)
  numbered_at n k [] at = refl
  numbered_at n k (x ∷ xs) at =
      ap (λ y. y ∷ numbered_from g (suc k) xs) (law k x ∙ ap (λ b. if b then h (f k x) else f k x) (at k))
      ∙ ap (λ ys. (if n == k then h (f k x) else f k x) ∷ ys) (numbered_at n (suc k) xs at)

driven_eq : (a b : PlainDriven) → a.cells ≡ b.cells → a.outputs ≡ b.outputs → a.wires ≡ b.wires → a.registers ≡ b.registers → a.done ≡ b.done → a ≡ b
driven_eq a b cells outputs wires registers done =
    ap (λ x. record a { cells = x }) cells
    ∙ ap (λ x. record a { cells = b.cells; outputs = x }) outputs
    ∙ ap (λ x. record a { cells = b.cells; outputs = b.outputs; wires = x }) wires
    ∙ ap (λ x. record a { cells = b.cells; outputs = b.outputs; wires = b.wires; registers = x }) registers
    ∙ ap (λ x. record b { done = x }) done

module _ (d : PlainNetDriver) (ds : List PlainNetDriver) where
  -- a driver stands first of those of its target, and changes nothing of another
  pub chain_to-first : (t : PlainNetTarget) (last : PlainExpr) → chain_to t last (d ∷ ds) ≡ (if same_target d.target t then before d (chain_to t last ds) else chain_to t last ds)
  chain_to-first t last = ap_if (chain_of last) (same_target d.target t) (d ∷ drivers_to t ds) (drivers_to t ds)

  assign-first : (name : List ℕ) (t : PlainNetTarget) (last : PlainExpr)
      → assign name (chain_to t last (d ∷ ds)) ≡ (if same_target d.target t then driver_before d (assign name (chain_to t last ds)) else assign name (chain_to t last ds))
  assign-first name t last = ap (assign name) (chain_to-first t last) ∙ ap_if (assign name) (same_target d.target t) (before d (chain_to t last ds)) (chain_to t last ds)

  port_driven-first : (c p : ℕ) (port : PlainPort)
      → port_driven (d ∷ ds) c p port ≡ (if same_target d.target (ToPort (ports.Cell c p)) then option_map (driver_before d) (port_driven ds c p port) else port_driven ds c p port)
  port_driven-first c p port =
      let t : PlainNetTarget = ToPort (ports.Cell c p) in
      let name : List ℕ = cell_port_name c p in
      let last : PlainExpr = literal port.width 0 in
      let given : Option PlainAssign = Some (assign name (chain_to t last ds)) in
      let now : Option PlainAssign = Some (assign name (chain_to t last (d ∷ ds))) in
      elim port.output as (λ o. (if o then None else now) ≡ (if same_target d.target t then option_map (driver_before d) (if o then None else given) else (if o then None else given))) [
        | true ↦ sym (if_same (same_target d.target t) None)
        | false ↦ ap Some (assign-first name t last) ∙ ap_if Some (same_target d.target t) (driver_before d (assign name (chain_to t last ds))) (assign name (chain_to t last ds))
      ]

  cells_off : (cells : List PlainCellPorts) → ((c p : ℕ) → same_target d.target (ToPort (ports.Cell c p)) ≡ false) → with_numbers (cell_driven (d ∷ ds)) cells ≡ with_numbers (cell_driven ds) cells
  cells_off cells off =
      numbered_off (cell_driven ds) (cell_driven (d ∷ ds)) (λ own. own) (λ j. false)
      (λ c cell. numbered_off (port_driven ds c) (port_driven (d ∷ ds) c) (option_map (driver_before d)) (λ p. same_target d.target (ToPort (ports.Cell c p))) (port_driven-first c) 0 cell.ports (off c))
      0 cells (λ j. refl)

  one_cell : (m n c : ℕ) (cell : PlainCellPorts) (b : Bool) → (m == c) ≡ b → ((p : ℕ) → same_target d.target (ToPort (ports.Cell c p)) ≡ (if m == c then n == p else false))
      → cell_driven (d ∷ ds) c cell ≡ (if b then changed_at n (option_map (driver_before d)) (cell_driven ds c cell) else cell_driven ds c cell)
  one_cell m n c cell true is at =
      numbered_at (port_driven ds c) (port_driven (d ∷ ds) c) (option_map (driver_before d)) (λ p. same_target d.target (ToPort (ports.Cell c p))) (port_driven-first c) n 0 cell.ports
      (λ p. at p ∙ ap (λ b. if b then n == p else false) is)
  one_cell m n c cell false is at =
      numbered_off (port_driven ds c) (port_driven (d ∷ ds) c) (option_map (driver_before d)) (λ p. same_target d.target (ToPort (ports.Cell c p))) (port_driven-first c) 0 cell.ports
      (λ p. at p ∙ ap (λ b. if b then n == p else false) is)

  cells_at : (m n : ℕ) (cells : List PlainCellPorts) → ((c p : ℕ) → same_target d.target (ToPort (ports.Cell c p)) ≡ (if m == c then n == p else false))
      → with_numbers (cell_driven (d ∷ ds)) cells ≡ changed_at m (changed_at n (option_map (driver_before d))) (with_numbers (cell_driven ds) cells)
  cells_at m n cells at =
      numbered_at (cell_driven ds) (cell_driven (d ∷ ds)) (changed_at n (option_map (driver_before d))) (λ c. m == c)
      (λ c cell. one_cell m n c cell (m == c) refl (at c)) m 0 cells (λ c. refl)

  module _ (part : PlainNetComponent) where
    outputs_off : ((n : ℕ) → same_target d.target (ToPort (ports.Output n)) ≡ false) → with_numbers (output_assign (d ∷ ds)) part.outputs ≡ with_numbers (output_assign ds) part.outputs
    outputs_off off =
        numbered_off (output_assign ds) (output_assign (d ∷ ds)) (driver_before d) (λ n. same_target d.target (ToPort (ports.Output n)))
        (λ n o. assign-first (output_name n) (ToPort (ports.Output n)) (literal o.width 0)) 0 part.outputs off

    outputs_at : (m : ℕ) → ((n : ℕ) → same_target d.target (ToPort (ports.Output n)) ≡ (m == n))
        → with_numbers (output_assign (d ∷ ds)) part.outputs ≡ changed_at m (driver_before d) (with_numbers (output_assign ds) part.outputs)
    outputs_at m at =
        numbered_at (output_assign ds) (output_assign (d ∷ ds)) (driver_before d) (λ n. same_target d.target (ToPort (ports.Output n)))
        (λ n o. assign-first (output_name n) (ToPort (ports.Output n)) (literal o.width 0)) m 0 part.outputs at

    wires_off : ((n : ℕ) → same_target d.target (ToWire n) ≡ false) → with_numbers (wire_assign (d ∷ ds)) part.wires ≡ with_numbers (wire_assign ds) part.wires
    wires_off off =
        numbered_off (wire_assign ds) (wire_assign (d ∷ ds)) (driver_before d) (λ n. same_target d.target (ToWire n))
        (λ n w. assign-first (wire_name n) (ToWire n) (literal w 0)) 0 part.wires off

    wires_at : (m : ℕ) → ((n : ℕ) → same_target d.target (ToWire n) ≡ (m == n))
        → with_numbers (wire_assign (d ∷ ds)) part.wires ≡ changed_at m (driver_before d) (with_numbers (wire_assign ds) part.wires)
    wires_at m at =
        numbered_at (wire_assign ds) (wire_assign (d ∷ ds)) (driver_before d) (λ n. same_target d.target (ToWire n))
        (λ n w. assign-first (wire_name n) (ToWire n) (literal w 0)) m 0 part.wires at

    registers_off : ((n : ℕ) → same_target d.target (ToRegister n) ≡ false) → with_numbers (register_assign (d ∷ ds)) part.registers ≡ with_numbers (register_assign ds) part.registers
    registers_off off =
        numbered_off (register_assign ds) (register_assign (d ∷ ds)) (driver_before d) (λ n. same_target d.target (ToRegister n))
        (λ n w. assign-first (register_name n) (ToRegister n) (Named (register_name n))) 0 part.registers off

    registers_at : (m : ℕ) → ((n : ℕ) → same_target d.target (ToRegister n) ≡ (m == n))
        → with_numbers (register_assign (d ∷ ds)) part.registers ≡ changed_at m (driver_before d) (with_numbers (register_assign ds) part.registers)
    registers_at m at =
        numbered_at (register_assign ds) (register_assign (d ∷ ds)) (driver_before d) (λ n. same_target d.target (ToRegister n))
        (λ n w. assign-first (register_name n) (ToRegister n) (Named (register_name n))) m 0 part.registers at

    done_by : (b : Bool) → same_target d.target ToDone ≡ b → done_assign (d ∷ ds) ≡ (if b then driver_before d (done_assign ds) else done_assign ds)
    done_by b is = assign-first (codes "done") ToDone (literal 1 0) ∙ ap (λ b. if b then driver_before d (done_assign ds) else done_assign ds) is

    -- one driver more, before the others
    pub driven_by-first : (cells : List PlainCellPorts) (t : PlainNetTarget) → d.target ≡ t → driven_by part cells (d ∷ ds) ≡ target_before t d (driven_by part cells ds)
    driven_by-first cells (ToPort (ports.Cell m n)) is = driven_eq _ _ (cells_at m n cells (λ c p. ap (λ u. same_target u (ToPort (ports.Cell c p))) is)) (outputs_off (λ n. ap (λ u. same_target u (ToPort (ports.Output n))) is)) (wires_off (λ n. ap (λ u. same_target u (ToWire n)) is)) (registers_off (λ n. ap (λ u. same_target u (ToRegister n)) is)) (done_by false (ap (λ u. same_target u ToDone) is))
    driven_by-first cells (ToPort (ports.Output m)) is = driven_eq _ _ (cells_off cells (λ c p. ap (λ u. same_target u (ToPort (ports.Cell c p))) is)) (outputs_at m (λ n. ap (λ u. same_target u (ToPort (ports.Output n))) is)) (wires_off (λ n. ap (λ u. same_target u (ToWire n)) is)) (registers_off (λ n. ap (λ u. same_target u (ToRegister n)) is)) (done_by false (ap (λ u. same_target u ToDone) is))
    driven_by-first cells (ToPort (ports.Input m)) is = driven_eq _ _ (cells_off cells (λ c p. ap (λ u. same_target u (ToPort (ports.Cell c p))) is)) (outputs_off (λ n. ap (λ u. same_target u (ToPort (ports.Output n))) is)) (wires_off (λ n. ap (λ u. same_target u (ToWire n)) is)) (registers_off (λ n. ap (λ u. same_target u (ToRegister n)) is)) (done_by false (ap (λ u. same_target u ToDone) is))
    driven_by-first cells (ToPort (ports.Done m)) is = driven_eq _ _ (cells_off cells (λ c p. ap (λ u. same_target u (ToPort (ports.Cell c p))) is)) (outputs_off (λ n. ap (λ u. same_target u (ToPort (ports.Output n))) is)) (wires_off (λ n. ap (λ u. same_target u (ToWire n)) is)) (registers_off (λ n. ap (λ u. same_target u (ToRegister n)) is)) (done_by false (ap (λ u. same_target u ToDone) is))
    driven_by-first cells (ToPort (ports.Literal w v)) is = driven_eq _ _ (cells_off cells (λ c p. ap (λ u. same_target u (ToPort (ports.Cell c p))) is)) (outputs_off (λ n. ap (λ u. same_target u (ToPort (ports.Output n))) is)) (wires_off (λ n. ap (λ u. same_target u (ToWire n)) is)) (registers_off (λ n. ap (λ u. same_target u (ToRegister n)) is)) (done_by false (ap (λ u. same_target u ToDone) is))
    driven_by-first cells (ToRegister m) is = driven_eq _ _ (cells_off cells (λ c p. ap (λ u. same_target u (ToPort (ports.Cell c p))) is)) (outputs_off (λ n. ap (λ u. same_target u (ToPort (ports.Output n))) is)) (wires_off (λ n. ap (λ u. same_target u (ToWire n)) is)) (registers_at m (λ n. ap (λ u. same_target u (ToRegister n)) is)) (done_by false (ap (λ u. same_target u ToDone) is))
    driven_by-first cells (ToWire m) is = driven_eq _ _ (cells_off cells (λ c p. ap (λ u. same_target u (ToPort (ports.Cell c p))) is)) (outputs_off (λ n. ap (λ u. same_target u (ToPort (ports.Output n))) is)) (wires_at m (λ n. ap (λ u. same_target u (ToWire n)) is)) (registers_off (λ n. ap (λ u. same_target u (ToRegister n)) is)) (done_by false (ap (λ u. same_target u ToDone) is))
    driven_by-first cells (ToHole m) is = driven_eq _ _ (cells_off cells (λ c p. ap (λ u. same_target u (ToPort (ports.Cell c p))) is)) (outputs_off (λ n. ap (λ u. same_target u (ToPort (ports.Output n))) is)) (wires_off (λ n. ap (λ u. same_target u (ToWire n)) is)) (registers_off (λ n. ap (λ u. same_target u (ToRegister n)) is)) (done_by false (ap (λ u. same_target u ToDone) is))
    driven_by-first cells ToDone is = driven_eq _ _ (cells_off cells (λ c p. ap (λ u. same_target u (ToPort (ports.Cell c p))) is)) (outputs_off (λ n. ap (λ u. same_target u (ToPort (ports.Output n))) is)) (wires_off (λ n. ap (λ u. same_target u (ToWire n)) is)) (registers_off (λ n. ap (λ u. same_target u (ToRegister n)) is)) (done_by true (ap (λ u. same_target u ToDone) is))

-- the drivers from one on, where those behind it are put already
pub one_driver_more : (part : NetComponent) (cells : List PlainCellPorts) (n m : ℕ) (driver : NetDriver) (old new : PlainDriven) → m ≡ n + 1 → n < length part.drivers.items
    → driver ≡ get_or part.drivers.items n driver → new ≡ target_before (plain_net_driver driver).target (plain_net_driver driver) old
    → old ≡ driven_by (plain_net_component part) cells (map plain_net_driver (drop m part.drivers.items))
    → new ≡ driven_by (plain_net_component part) cells (map plain_net_driver (drop n part.drivers.items))
one_driver_more part cells n m driver old new next within there is h =
    let all : List NetDriver = part.drivers.items in
    let d : PlainNetDriver = plain_net_driver driver in
    let later : suc n ≡ m = omega (arith, next) in
    let from : drop n all ≡ driver ∷ drop m all = drop-cons all n driver within ∙ ap (λ x. x ∷ drop (suc n) all) (sym there) ∙ ap (λ k. driver ∷ drop k all) later in
    is ∙ ap (target_before d.target d) h
    ∙ sym (driven_by-first d (map plain_net_driver (drop m all)) (plain_net_component part) cells d.target refl)
    ∙ ap (λ ds. driven_by (plain_net_component part) cells (map plain_net_driver ds)) (sym from)

-- one register more, that nothing drives
pub one_register_more : (widths : List ℕ) (n : ℕ) (done : List PlainAssign) (made : PlainAssign) (whole : List PlainAssign) → n < length widths
    → made ≡ assign (register_name n) (Named (register_name n)) → done ++ numbered_from (register_assign []) n (drop n widths) ≡ whole
    → (done ++ made ∷ []) ++ numbered_from (register_assign []) (n + 1) (drop (n + 1) widths) ≡ whole
one_register_more widths n done made whole within is h =
    append_assoc done (made ∷ []) (numbered_from (register_assign []) (n + 1) (drop (n + 1) widths))
    ∙ ap (λ a. done ++ (a ∷ numbered_from (register_assign []) (n + 1) (drop (n + 1) widths))) is
    ∙ ap (λ k. done ++ (assign (register_name n) (Named (register_name n)) ∷ numbered_from (register_assign []) k (drop k widths))) (add-one n)
    ∙ ap (λ ws. done ++ numbered_from (register_assign []) n ws) (sym (drop-cons widths n 0 within))
    ∙ h

present-ports : (ds : List PlainNetDriver) (c n : ℕ) (those : List PlainPort) → present (numbered_from (port_driven ds c) n those) ≡ lists_from (port_assigns ds c) n those
present-ports ds c n [] = refl
present-ports ds c n (port ∷ those) =
    let a : PlainAssign = assign (cell_port_name c n) (chain_to (ToPort (ports.Cell c n)) (literal port.width 0) ds) in
    elim port.output as (λ o. present ((if o then None else Some a) ∷ numbered_from (port_driven ds c) (suc n) those) ≡ (if o then [] else a ∷ []) ++ lists_from (port_assigns ds c) (suc n) those) [
      | true ↦ present-ports ds c (suc n) those
      | false ↦ ap (λ rest. a ∷ rest) (present-ports ds c (suc n) those)
    ]

-- what drives the ports of cells, cell after cell
present-cells : (ds : List PlainNetDriver) (n : ℕ) (cells : List PlainCellPorts) → flat_map present (numbered_from (cell_driven ds) n cells) ≡ lists_from (cell_assigns ds) n cells
present-cells ds n [] = refl
present-cells ds n (cell ∷ cells) =
    ap (λ own. own ++ flat_map present (numbered_from (cell_driven ds) (suc n) cells)) (present-ports ds n 0 cell.ports)
    ∙ ap (λ rest. cell_assigns ds n cell ++ rest) (present-cells ds (suc n) cells)

set-registers : (ds : List PlainNetDriver) (n : ℕ) (widths : List ℕ) → map SetTo (numbered_from (register_assign ds) n widths) ≡ numbered_from (register_step ds) n widths
set-registers ds n [] = refl
set-registers ds n (w ∷ widths) = ap (λ rest. register_step ds n w ∷ rest) (set-registers ds (suc n) widths)

-- the assigns of a module, of what drives it
abbrev pub assigns_of : PlainDriven → List PlainAssign
assigns_of s = flat_map present s.cells ++ s.wires ++ s.outputs ++ s.done ∷ []

-- the module of a component, from its parts
pub module_from : (name : List ℕ) (part : PlainNetComponent) (cells : List PlainCellPorts) (s : PlainDriven) (m : PlainModule) → s ≡ driven_by part cells part.drivers
    → m.name ≡ name → m.ports ≡ module_ports part → m.decls ≡ decls_with part cells → m.assigns ≡ assigns_of s → m.instances ≡ with_numbers cell_instance cells
    → m.edge ≡ edge_with part.registers s.registers → m ≡ module_with name part cells
module_from name part cells s m by named at declared assigned placed kept =
    let ds : List PlainNetDriver = part.drivers in
    ap (λ x. record m { name = x }) named
    ∙ ap (λ x. record m { name = name; ports = x }) at
    ∙ ap (λ x. record m { name = name; ports = module_ports part; decls = x }) declared
    ∙ ap (λ x. record m { name = name; ports = module_ports part; decls = decls_with part cells; assigns = x })
    (assigned ∙ ap assigns_of by ∙ ap (λ own. own ++ with_numbers (wire_assign ds) part.wires ++ with_numbers (output_assign ds) part.outputs ++ done_assign ds ∷ []) (present-cells ds 0 cells))
    ∙ ap (λ x. record (module_with name part cells) { instances = x; edge = m.edge }) placed
    ∙ ap (λ x. record (module_with name part cells) { edge = x })
    (kept ∙ ap (λ d. edge_with part.registers d.registers) by
    ∙ ap (λ items. if length part.registers == 0 then None else Some (record { reset = with_numbers register_reset part.registers; step = items })) (set-registers ds 0 part.registers))
