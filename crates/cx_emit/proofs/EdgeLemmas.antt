-- What an edge sets in a component's module.
use Rattle.std.proofs.Common.{◌≡◌, ℕ, suc, ◌==◌, List, [], ◌∷◌, true, length, map, Option, Some, None, slice_get, option_map, option_and_then, refl, ap, sym, ◌∙◌, arith}
use Rattle.std.proofs.lemmas.Bool.{ne_eqb, both_ways, cond-false}
use Rattle.std.proofs.lemmas.Option.{slice_get-map, slice_get_within}
use Rattle.cx_prim.specs.CellStates.{CellState, Stateless, Register, Memory, SequentialMemory, Multiplier, Divider, Timer, StateShape, NoState, RegisterOf, MemoryOf, SequentialMemoryOf, MultiplierOf, DividerOf, TimerOf, IsState, words_of, with_words}
use Rattle.cx_vtree.specs.Plain.{PlainExpr, Named, PlainAssign, PlainEdge, PlainModule}
use Rattle.cx_vtree.specs.InstanceTree.{Placed, assigned}
use Rattle.cx_vtree.specs.Edges.{sets_in, edge_at, acting_sets}
use Rattle.cx_vtree.specs.Sound.{has_name, is_sound}
use Rattle.cx_vlaws.specs.Names.{AreApart}
use Rattle.cx_vlaws.proofs.Fresh.{has_each}
use Rattle.cx_vlaws.proofs.OriginLemmas.{assigned_found, assigned_none}
use Rattle.cx_vlaws.proofs.EdgeLemmas.{edge_at_keeps}
use Rattle.cx_net.specs.Nets.{PlainNetDriver, PlainNetComponent, PlainNet, ToRegister}
use Rattle.cx_emit.specs.Fits.{IsFlat}
use Rattle.cx_emit.specs.Names.{register_name}
use Rattle.cx_emit.specs.Numbered.{numbered_from, with_numbers}
use Rattle.cx_emit.specs.Exprs.{literal}
use Rattle.cx_emit.specs.Chains.{chain_to}
use Rattle.cx_emit.specs.Sources.{assign, register_reset, register_step, source_of}
use Rattle.cx_emit.proofs.NumberedLemmas.{in_numbered}
use Rattle.cx_emit.proofs.Standing.{tree, comp, IsPlaced}
use Rattle.cx_prim.proofs.CellStatesLemmas.{words_fit, sequential_words_fit}

-- a set of names that are apart is found
assigned_apart : (xs : List PlainAssign) → AreApart (map (λ a. a.name) xs) → (k : ℕ) (a : PlainAssign) → slice_get xs k ≡ Some a → assigned xs a.name ≡ Some a.value
assigned_apart xs apart k a e = go (assigned xs a.name) refl where
  named : (j : ℕ) (b : PlainAssign) → slice_get xs j ≡ Some b → slice_get (map (λ (x : PlainAssign). x.name) xs) j ≡ Some b.name
  named j b at = slice_get-map (λ (x : PlainAssign). x.name) xs j ∙ ap (option_map (λ (x : PlainAssign). x.name)) at

  go : (o : Option PlainExpr) → assigned xs a.name ≡ o → assigned xs a.name ≡ Some a.value
  go None is = absurd (both_ways (has_name (map (λ (x : PlainAssign). x.name) xs) a.name) (assigned_none xs a.name is) (has_each (λ (x : PlainAssign). x.name) xs k a e))
  go (Some v) is =
      let (j, b, at, same, value) = assigned_found xs a.name v is in
      let place : j ≡ k = apart j k a.name (named j b at ∙ ap Some same) (named k a e) in
      let one : Some b ≡ Some a = sym at ∙ ap (slice_get xs) place ∙ e in
      let equal : b ≡ a = cc in
      is ∙ ap Some (sym value) ∙ ap (λ (x : PlainAssign). Some x.value) equal

-- what a register is set to without reset
register_set : List PlainNetDriver → ℕ → ℕ → PlainAssign
register_set ds n width = assign (register_name n) (chain_to (ToRegister n) (Named (register_name n)) ds)

sets-steps : (ds : List PlainNetDriver) (b : ℕ) (ws : List ℕ) → sets_in (numbered_from (register_step ds) b ws) ≡ numbered_from (λ n w. assign (register_name n) (chain_to (ToRegister n) (Named (register_name n)) ds)) b ws
sets-steps ds b [] = refl
sets-steps ds b (w ∷ ws) = ap (λ l. assign (register_name b) (chain_to (ToRegister b) (Named (register_name b)) ds) ∷ l) (sets-steps ds (suc b) ws)

module _ (net : PlainNet) (sound : is_sound (source_of net) ≡ true) (fit : IsFlat net) (k i : ℕ) (here : IsPlaced net sound fit k i) (n w : ℕ) (there : slice_get (comp net sound fit k).registers n ≡ Some w) where
  abbrev part : PlainNetComponent
  part = comp net sound fit k

  abbrev the_tree : List Placed
  the_tree = tree net sound fit

  abbrev branches : PlainEdge
  branches = record { reset = with_numbers register_reset part.registers; step = with_numbers (register_step part.drivers) part.registers }

  edge_here : edge_at the_tree i ≡ Some branches
  edge_here =
      let some = slice_get_within part.registers n w there in
      ap (option_and_then (λ (p : Placed). p.part.edge)) here.at ∙ ap (λ (m : PlainModule). m.edge) here.is
      ∙ cond-false (length part.registers == 0) None (Some branches) (ne_eqb (length part.registers) 0 (λ none. omega arith))

  set_to : (reset : ℕ) (a : PlainAssign) → slice_get (acting_sets reset (Some branches)) n ≡ Some a → assigned (acting_sets reset (edge_at the_tree i)) a.name ≡ Some a.value
  set_to reset a at =
      let keeps = edge_at_keeps (source_of net) sound i reset in
      assigned_apart (acting_sets reset (edge_at the_tree i)) keeps.sets_once n a (ap (λ e. slice_get (acting_sets reset e) n) edge_here ∙ at)

  -- with reset it is set to 0, and without to what its chain gives
  pub set_with_reset : assigned (acting_sets 1 (edge_at the_tree i)) (register_name n) ≡ Some (literal w 0)
  set_with_reset = set_to 1 (register_reset n w) (in_numbered register_reset part.registers n w there)

  pub set_without : assigned (acting_sets 0 (edge_at the_tree i)) (register_name n) ≡ Some (chain_to (ToRegister n) (Named (register_name n)) part.drivers)
  set_without =
      set_to 0 (assign (register_name n) (chain_to (ToRegister n) (Named (register_name n)) part.drivers))
      (ap (λ l. slice_get l n) (sets-steps part.drivers 0 part.registers)
      ∙ in_numbered (λ n w. assign (register_name n) (chain_to (ToRegister n) (Named (register_name n)) part.drivers)) part.registers n w there)

pub reset_state : (shape : StateShape) (d start : CellState) → IsState shape d → IsState shape start → IsState shape (with_words (words_of d) start)
reset_state NoState d Stateless h k = k
reset_state (RegisterOf w) d (Register v b) h k = k
reset_state (MemoryOf w c) d (Memory old b) h k = words_fit w c d h
reset_state (SequentialMemoryOf w c) d (SequentialMemory old r b) h k = (sequential_words_fit w c d h, k.1)
reset_state (MultiplierOf w l) d (Multiplier run p) h k = k
reset_state (DividerOf w l) d (Divider run q r) h k = k
reset_state (TimerOf l) d (Timer c b) h k = k
reset_state shape d start h k = absurd k
