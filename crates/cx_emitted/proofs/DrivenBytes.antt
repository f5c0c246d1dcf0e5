-- What drives the targets of a component: all assigns together have no more bytes than their ends and the drivers, each of which stands
-- in one of them at most.
use Rattle.std.proofs.Common.{◌≡◌, ℕ, suc, ◌+◌, ◌<◌, ◌≤◌, ◌==◌, Bool, true, false, List, [], ◌∷◌, Option, Some, None, option_map, refl, ap, arith, if◌then◌else◌}
use Rattle.std.proofs.lemmas.Bool.{eqb-true}
use Rattle.cx_meaning.specs.declared.ports.PortRef.TheVariants as ports
use Rattle.cx_vtree.specs.Plain.{PlainExpr, PlainAssign}
use Rattle.cx_net.specs.Nets.{PlainNetTarget, ToPort, ToRegister, ToWire, ToHole, ToDone, PlainNetDriver, PlainNetComponent}
use Rattle.cx_emit.specs.Chains.{is_one, before}
use Rattle.cx_emit.specs.Driven.{PlainDriven, driven_by, changed_from, changed_at, driver_before, target_before}
use Rattle.cx_emit.specs.Exprs.{expr_of}
use Rattle.cx_emit.specs.Signatures.{PlainCellPorts}
use Rattle.cx_emit.proofs.DrivenLemmas.{driven_by-first}
use Rattle.cx_vtree.specs.Plain.{Chosen}
use Rattle.cx_emitted.proofs.TextBytes.{expr_bytes, sum_over}

-- ONE ELEMENT CHANGED
module _ {A : Type 0} (f : A → ℕ) (g : A → A) (more : ℕ) (each : (x : A) → f (g x) ≤ f x + more) where
  changed_past : (k n : ℕ) (xs : List A) → n < k → sum_over f (changed_from k n g xs) ≤ sum_over f xs
  changed_past k n [] past = omega arith
  changed_past k n (x ∷ xs) past = by (n == k) refl (changed_past (suc k) n xs (omega (arith, past)))
    where
      by : (b : Bool) → (n == k) ≡ b → sum_over f (changed_from (suc k) n g xs) ≤ sum_over f xs → f (if b then g x else x) + sum_over f (changed_from (suc k) n g xs) ≤ f x + sum_over f xs
      by true e h = absurd (let same : n ≡ k = eqb-true n k e in omega (arith, same, past))
      by false e h = omega arith

  changed_once : (k n : ℕ) (xs : List A) → sum_over f (changed_from k n g xs) ≤ sum_over f xs + more
  changed_once k n [] = omega arith
  changed_once k n (x ∷ xs) = by (n == k) refl (changed_once (suc k) n xs)
    where
      by : (b : Bool) → (n == k) ≡ b → sum_over f (changed_from (suc k) n g xs) ≤ sum_over f xs + more → f (if b then g x else x) + sum_over f (changed_from (suc k) n g xs) ≤ f x + sum_over f xs + more
      by true e h =
          let same : n ≡ k = eqb-true n k e in
          let own : f (g x) ≤ f x + more = each x in
          let past : n < suc k = omega (arith, same) in
          let rest : sum_over f (changed_from (suc k) n g xs) ≤ sum_over f xs = changed_past (suc k) n xs past in
          omega arith
      by false e h = omega arith

-- the bytes of what is assigned
abbrev pub value_bytes : PlainAssign → ℕ
value_bytes a = expr_bytes a.value

abbrev pub option_bytes : Option PlainAssign → ℕ
option_bytes None = 0
option_bytes (Some a) = value_bytes a

abbrev pub cell_bytes : List (Option PlainAssign) → ℕ
cell_bytes own = sum_over option_bytes own

abbrev pub driven_bytes : PlainDriven → ℕ
driven_bytes s = sum_over cell_bytes s.cells + (sum_over value_bytes s.outputs + (sum_over value_bytes s.wires + (sum_over value_bytes s.registers + value_bytes s.done)))

-- a driver before others
abbrev pub before_bytes : PlainNetDriver → ℕ
before_bytes d = expr_bytes (expr_of d.guard) + (expr_bytes (expr_of d.source) + 8)

before_few : (d : PlainNetDriver) (rest : PlainExpr) → expr_bytes (before d rest) ≤ expr_bytes rest + before_bytes d
before_few d rest = by (is_one d.guard)
  where
    by : (b : Bool) → expr_bytes (if b then expr_of d.source else Chosen (expr_of d.guard) (expr_of d.source) rest) ≤ expr_bytes rest + before_bytes d
    by true = omega arith
    by false = omega arith

module _ (d : PlainNetDriver) where
  assign_few : (a : PlainAssign) → value_bytes (driver_before d a) ≤ value_bytes a + before_bytes d
  assign_few a = before_few d a.value

  option_few : (o : Option PlainAssign) → option_bytes (option_map (driver_before d) o) ≤ option_bytes o + before_bytes d
  option_few None = omega arith
  option_few (Some a) = assign_few a

  cell_few : (n : ℕ) (own : List (Option PlainAssign)) → cell_bytes (changed_at n (option_map (driver_before d)) own) ≤ cell_bytes own + before_bytes d
  cell_few n own = changed_once option_bytes (option_map (driver_before d)) (before_bytes d) option_few 0 n own

  assigns_few : (n : ℕ) (list : List PlainAssign) → sum_over value_bytes (changed_at n (driver_before d) list) ≤ sum_over value_bytes list + before_bytes d
  assigns_few n list = changed_once value_bytes (driver_before d) (before_bytes d) assign_few 0 n list

  target_few : (t : PlainNetTarget) (s : PlainDriven) → driven_bytes (target_before t d s) ≤ driven_bytes s + before_bytes d
  target_few (ToPort (ports.Cell c p)) s =
      let h : sum_over cell_bytes (changed_at c (changed_at p (option_map (driver_before d))) s.cells) ≤ sum_over cell_bytes s.cells + before_bytes d =
      changed_once cell_bytes (changed_at p (option_map (driver_before d))) (before_bytes d) (cell_few p) 0 c s.cells in
      omega arith
  target_few (ToPort (ports.Output n)) s = let h : sum_over value_bytes (changed_at n (driver_before d) s.outputs) ≤ sum_over value_bytes s.outputs + before_bytes d = assigns_few n s.outputs in omega arith
  target_few (ToPort (ports.Input n)) s = omega arith
  target_few (ToPort (ports.Done g)) s = omega arith
  target_few (ToPort (ports.Literal w v)) s = omega arith
  target_few (ToRegister n) s = let h : sum_over value_bytes (changed_at n (driver_before d) s.registers) ≤ sum_over value_bytes s.registers + before_bytes d = assigns_few n s.registers in omega arith
  target_few (ToWire n) s = let h : sum_over value_bytes (changed_at n (driver_before d) s.wires) ≤ sum_over value_bytes s.wires + before_bytes d = assigns_few n s.wires in omega arith
  target_few (ToHole n) s = omega arith
  target_few ToDone s = let h : value_bytes (driver_before d s.done) ≤ value_bytes s.done + before_bytes d = assign_few s.done in omega arith

-- WHAT DRIVES A COMPONENT
pub driven_few : (part : PlainNetComponent) (cells : List PlainCellPorts) (ds : List PlainNetDriver) → driven_bytes (driven_by part cells ds) ≤ driven_bytes (driven_by part cells []) + sum_over before_bytes ds
driven_few part cells [] = omega arith
driven_few part cells (d ∷ ds) =
    let first : driven_bytes (driven_by part cells (d ∷ ds)) ≡ driven_bytes (target_before d.target d (driven_by part cells ds)) = ap driven_bytes (driven_by-first d ds part cells d.target refl) in
    let own : driven_bytes (target_before d.target d (driven_by part cells ds)) ≤ driven_bytes (driven_by part cells ds) + before_bytes d = target_few d d.target (driven_by part cells ds) in
    let rest : driven_bytes (driven_by part cells ds) ≤ driven_bytes (driven_by part cells []) + sum_over before_bytes ds = driven_few part cells ds in
    omega arith
