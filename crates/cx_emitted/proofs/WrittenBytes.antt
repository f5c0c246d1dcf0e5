-- THE TEXT OF A DESIGN has at most 4,096 bytes for each unit of its size and 256 for each unit of its weight.
use Rattle.std.proofs.Common.{◌≡◌, inl, inr, ⊎_elim, ℕ, suc, ◌+◌, ◌*◌, ◌^◌, ◌<◌, ◌≤◌, Bool, true, false, List, [], ◌∷◌, ◌++◌, length, map, Option, subst, sym, ap, arith, if◌then◌else◌, zero-mul}
use Rattle.cx_text.specs.declared.limits.TheConstants.{COMPILE_SIZE, VERILOG_BYTES}
use Rattle.cx_meaning.specs.Designs.{PlainCell, PlainDesign, component_at}
use Rattle.cx_text.specs.Members.{Each, In}
use Rattle.cx_rules.specs.Flat.{IsFlat}
use Rattle.cx_rules.specs.Accepted.{IsAccepted}
use Rattle.cx_rules.specs.Sizes.{size_of, design_size, weight_of}
use Rattle.cx_rules.specs.Wellformed.{IsDesign}
use Rattle.cx_rules.specs.StaticControl.{one_if}
use Rattle.cx_vtree.specs.Plain.{PlainExternal}
use Rattle.cx_vtree.specs.Spelling.{text_of}
use Rattle.cx_vtree.specs.Sound.{is_sound}
use Rattle.cx_net.specs.Nets.{PlainNetComponent}
use Rattle.cx_holes.specs.Inlining.{inlined}
use Rattle.cx_static.specs.Lowering.{unlowered, lowered_component, lowered_of}
use Rattle.cx_wiring.specs.Reached.{has_number, order}
use Rattle.cx_wiring.specs.Wiring.{net_of, cell_in}
use Rattle.cx_wiring.proofs.ComponentCounts.{PartsHold}
use Rattle.cx_wiring.proofs.LoweringCounts.{cells_cost, all_timers, statement_adds}
use Rattle.cx_wiring.proofs.MainLaws.{order_main}
use Rattle.cx_wiring.proofs.NumberLemmas.{number_in}
use Rattle.cx_wiring.proofs.WayLemmas.{count_is}
use Rattle.cx_emit.specs.Numbered.{lists_from}
use Rattle.cx_emit.specs.Names.{instance_name}
use Rattle.cx_emit.specs.Sources.{external_of, cell_externals, externals_at, source_of}
use Rattle.cx_emitted.specs.ByteLaws.{HasGuards, HasFewBytes}
use Rattle.cx_emitted.specs.Shallow.{IsShallow, Shallow}
use Rattle.cx_emitted.proofs.TextBytes.{sum_over}
use Rattle.cx_emitted.proofs.ModuleBytes.{external_bytes}
use Rattle.cx_emitted.proofs.ComponentBytes.{instance_short}
use Rattle.cx_emitted.proofs.WeightBytes.{cells_weight, cells_weigh_little}
use Rattle.cx_emitted.proofs.JoinBytes.{outside_cost, outside_sum}
use Rattle.cx_emitted.proofs.SignedBytes.{net, stands}
use Rattle.cx_emitted.proofs.LoweredCells.{lowered_cells, cells_few}
use Rattle.cx_emitted.proofs.ExternalNarrow.{IsBrief, sound_brief, brief_narrow}
use Rattle.cx_emitted.proofs.FinalBytes.{text_few}

sum_has : (f : ℕ → ℕ) (xs : List ℕ) (x : ℕ) → In xs x → f x ≤ sum_over f xs
sum_has f [] x i = absurd i
sum_has f (y ∷ xs) x (inl e) = let same : f y ≡ f x = ap f e in omega (arith, same)
sum_has f (y ∷ xs) x (inr i) = let h : f x ≤ sum_over f xs = sum_has f xs x i in omega (arith, h)

abbrev outsiders : List PlainCell → ℕ
outsiders = cells_cost (λ cell. one_if cell.external)

outsiders_few : (cells : List PlainCell) → outsiders cells ≤ length cells
outsiders_few [] = omega arith
outsiders_few (c ∷ cells) = let own : one_if c.external ≤ 1 = by c.external in let h : outsiders cells ≤ length cells = outsiders_few cells in omega (arith, own, h)
  where
    by : (b : Bool) → one_if b ≤ 1
    by true = omega arith
    by false = omega arith

module _ (d : PlainDesign) (rules : IsDesign d) (small : design_size d ≤ 16384) where
  abbrev places : List ℕ
  places = order (lowered_of d)

  -- AN EXTERNAL LINE has 368 bytes: 112 of its cell and 256 more
  one_line : (n : ℕ) (cell : PlainCell) (b : Bool) (rest : List PlainExternal) (outs count : ℕ) → n < 10 ^ 5 → Each IsBrief ((if b then external_of n cell ∷ [] else []) ++ rest) → (Each IsBrief rest → sum_over external_bytes rest ≤ outs + 256 * count)
      → sum_over external_bytes ((if b then external_of n cell ∷ [] else []) ++ rest) ≤ outside_cost b + outs + 256 * (one_if b + count)
  one_line n cell true rest outs count less each later =
      let own = each.0.few in
      let name : length (instance_name n) ≤ 9 = instance_short n less in
      let more = later each.1 in
      omega (arith, own, name, more)
  one_line n cell false rest outs count less each later = let more = later each in omega (arith, more)

  lines_few : (n : ℕ) (cells : List PlainCell) → n + length cells ≤ 10 ^ 5 → Each IsBrief (lists_from cell_externals n (map (cell_in places) cells))
      → sum_over external_bytes (lists_from cell_externals n (map (cell_in places) cells)) ≤ outside_sum d rules (net d rules small) places cells + 256 * outsiders cells
  lines_few n [] few each = omega arith
  lines_few n (c ∷ cells) few each =
      let less : n < 10 ^ 5 = omega (arith, few) in
      let more : suc n + length cells ≤ 10 ^ 5 = omega (arith, few) in
      one_line n (cell_in places c) c.external (lists_from cell_externals (suc n) (map (cell_in places) cells)) (outside_sum d rules (net d rules small) places cells) (outsiders cells) less each (λ rest. lines_few (suc n) cells more rest)

  main_here : has_number d.main places ≡ true
  main_here = order_main (lowered_of d) (subst (λ n. d.main < n) (sym (count_is d rules)) rules.main_there)

  main_outsiders : outsiders (lowered_cells d rules d.main) ≤ size_of (component_at d d.main)
  main_outsiders =
      let adds = statement_adds (component_at d d.main) (λ cell. one_if cell.external) 0 (λ place n. (omega arith)) (component_at d d.main).control (unlowered (component_at d d.main)) in
      let grown : outsiders (lowered_cells d rules d.main) + 0 * 0 ≤ outsiders (component_at d d.main).cells + 0 * all_timers (lowered_component (component_at d d.main)).islands = adds.cells in
      let none : 0 * all_timers (lowered_component (component_at d d.main)).islands ≡ 0 = zero-mul (all_timers (lowered_component (component_at d d.main)).islands) in
      let few : outsiders (component_at d d.main).cells ≤ length (component_at d d.main).cells = outsiders_few (component_at d d.main).cells in
      omega (arith, grown, none, few)

  externals_few : PartsHold (component_at d d.main) → Each IsBrief (source_of (inlined (net_of (lowered_of d)))).externals
      → sum_over external_bytes (source_of (inlined (net_of (lowered_of d)))).externals ≤ outside_sum d rules (net d rules small) places (lowered_cells d rules d.main) + 256 * size_of (component_at d d.main)
  externals_few part =
      ⊎_elim
      (λ e. subst (λ (o : Option PlainNetComponent). Each IsBrief (externals_at o) → sum_over external_bytes (externals_at o) ≤ outside_sum d rules (net d rules small) places (lowered_cells d rules d.main) + 256 * size_of (component_at d d.main)) (sym e) (λ each. (omega arith)))
      (λ e. subst (λ (o : Option PlainNetComponent). Each IsBrief (externals_at o) → sum_over external_bytes (externals_at o) ≤ outside_sum d rules (net d rules small) places (lowered_cells d rules d.main) + 256 * size_of (component_at d d.main)) (sym e)
      (λ each. let cells : length (lowered_cells d rules d.main) ≤ 10 ^ 5 = cells_few d rules small d.main rules.main_there part in
      let from : 0 + length (lowered_cells d rules d.main) ≤ 10 ^ 5 = omega (arith, cells) in
      let lines = lines_few 0 (lowered_cells d rules d.main) from each in
      let few = main_outsiders in
      omega (arith, lines, few)))
      (stands d rules small d.main main_here).none_or

module _ (d : PlainDesign) (rules : IsDesign d) (flat : IsFlat d) (accepted : IsAccepted d) (small : design_size d ≤ 16384) (parts : (k : ℕ) → k < length d.components → PartsHold (component_at d k))
    (shallow : (k : ℕ) → k < length d.components → Shallow 64 (component_at d k).control) (sound : is_sound (source_of (inlined (net_of (lowered_of d)))) ≡ true) where
  pub written_bytes : length (text_of (source_of (inlined (net_of (lowered_of d))))) ≤ 4096 * design_size d + 256 * weight_of d
  written_bytes =
      let brief = sound_brief (source_of (inlined (net_of (lowered_of d)))) sound in
      let text = text_few d rules flat accepted small parts shallow sound (brief_narrow (source_of (inlined (net_of (lowered_of d)))).externals brief) in
      let lines = externals_few d rules small (parts d.main rules.main_there) brief in
      let among : outside_sum d rules (net d rules small) (order (lowered_of d)) (lowered_cells d rules d.main)
      ≤ sum_over (λ k. outside_sum d rules (net d rules small) (order (lowered_of d)) (lowered_cells d rules k)) (order (lowered_of d)) =
      sum_has (λ k. outside_sum d rules (net d rules small) (order (lowered_of d)) (lowered_cells d rules k)) (order (lowered_of d)) d.main (number_in d.main (order (lowered_of d)) (main_here d rules small)) in
      let weight : size_of (component_at d d.main) + 1 + sum_over (cells_weight d rules) (order (lowered_of d)) ≤ weight_of d = cells_weigh_little d rules in
      omega (arith, text, lines, among, weight)

  -- so a text of the Verilog that is read has room for it, where the design is within its limits
  pub written_within : weight_of d ≤ 65536 → length (text_of (source_of (inlined (net_of (lowered_of d))))) ≤ VERILOG_BYTES
  written_within light = let few = written_bytes in omega (arith, few, small, light)

-- as a law of designs
pub texts_small : (d : PlainDesign) → IsDesign d → IsFlat d → IsAccepted d → design_size d ≤ COMPILE_SIZE → HasGuards d → IsShallow d
    → is_sound (source_of (inlined (net_of (lowered_of d)))) ≡ true → HasFewBytes d (source_of (inlined (net_of (lowered_of d))))
texts_small d rules flat accepted within guards shallow sound =
    let small : design_size d ≤ 16384 = within in
    written_bytes d rules flat accepted small guards shallow sound
