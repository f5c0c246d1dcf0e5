-- THE TEXT OF A DESIGN has at most 4,096 bytes for each unit of its size and 256 for each unit of its weight, where its modules are narrow.
use Rattle.std.proofs.Common.{◌≡◌, ℕ, ◌+◌, ◌*◌, ◌^◌, ◌<◌, ◌≤◌, true, List, [], ◌∷◌, length, map, refl, arith}
use Rattle.cx_text.specs.Members.{Each}
use Rattle.cx_meaning.specs.Designs.{PlainComponent, PlainDesign, component_at}
use Rattle.cx_rules.specs.Flat.{IsFlat}
use Rattle.cx_rules.specs.Accepted.{IsAccepted}
use Rattle.cx_rules.specs.Sizes.{size_of, sizes_of, design_size, weight_of}
use Rattle.cx_rules.specs.Wellformed.{IsDesign}
use Rattle.cx_vtree.specs.Spelling.{text_of}
use Rattle.cx_vtree.specs.Sound.{is_sound}
use Rattle.cx_holes.specs.Inlining.{inlined}
use Rattle.cx_static.specs.Lowering.{lowered_of}
use Rattle.cx_wiring.specs.Reached.{order, numbers_from}
use Rattle.cx_wiring.specs.Wiring.{net_of}
use Rattle.cx_wiring.proofs.ComponentCounts.{PartsHold}
use Rattle.cx_wiring.proofs.MainOrder.{distinct_order}
use Rattle.cx_wiring.proofs.MainLaws.{number_from}
use Rattle.cx_wiring.proofs.NumberLemmas.{few_apart, length-numbers_from}
use Rattle.cx_wiring.proofs.WayLemmas.{there}
use Rattle.cx_net.specs.Nets.{PlainNetComponent}
use Rattle.cx_vtree.specs.Plain.{PlainModule}
use Rattle.cx_emit.specs.Numbered.{with_numbers}
use Rattle.cx_emit.specs.Signatures.{primitive_module}
use Rattle.cx_emit.specs.Sources.{component_module, primitives_among, primitive_modules, source_of}
use Rattle.cx_emitted.specs.Shallow.{Shallow}
use Rattle.cx_emitted.proofs.TextBytes.{sum_over}
use Rattle.cx_emitted.proofs.ModuleBytes.{sum_over-append, module_bytes, external_bytes, ExternalNarrow, text_fits}
use Rattle.cx_emitted.proofs.WeightBytes.{cells_weight, cells_weigh_little, sizes_few, sizes_sum}
use Rattle.cx_emitted.proofs.JoinBytes.{outside_sum}
use Rattle.cx_emitted.proofs.SignedBytes.{net}
use Rattle.cx_emitted.proofs.LoweredCells.{lowered_cells}
use Rattle.cx_emitted.proofs.SoundNarrow.{sound_narrow}
use Rattle.cx_emitted.proofs.WholeBytes.{share, all_written, firsts_less}
use Rattle.cx_rules.proofs.SizesLemmas.{sizes_many}

-- a sum of two sums
share_sum : (f g : ℕ → ℕ) (ks : List ℕ) → sum_over (λ k. 4096 * f k + 134 * g k) ks ≡ 4096 * sum_over f ks + 134 * sum_over g ks
share_sum f g [] = refl
share_sum f g (k ∷ ks) = let h : sum_over (λ j. 4096 * f j + 134 * g j) ks ≡ 4096 * sum_over f ks + 134 * sum_over g ks = share_sum f g ks in omega (arith, h)

module _ (d : PlainDesign) (rules : IsDesign d) (flat : IsFlat d) (accepted : IsAccepted d) (small : design_size d ≤ 16384) (parts : (k : ℕ) → k < length d.components → PartsHold (component_at d k))
    (shallow : (k : ℕ) → k < length d.components → Shallow 64 (component_at d k).control) where
  pub order_few : length (order (lowered_of d)) < 10 ^ 5
  order_few =
      let among : length (order (lowered_of d)) ≤ length (numbers_from 0 (length d.components)) =
      few_apart (order (lowered_of d)) (numbers_from 0 (length d.components)) (distinct_order (lowered_of d)) (λ j h. let less = there d rules j h in number_from j 0 (length d.components) (omega arith) (omega (arith, less))) in
      let count : length (numbers_from 0 (length d.components)) ≡ length d.components = length-numbers_from 0 (length d.components) in
      let many : length d.components ≤ design_size d = sizes_many d.components in
      omega (arith, among, count, many, small)

  -- THE MODULES, with 112 for each external cell
  pub modules_written : sum_over module_bytes (source_of (inlined (net_of (lowered_of d)))).modules + sum_over (λ k. outside_sum d rules (net d rules small) (order (lowered_of d)) (lowered_cells d rules k)) (order (lowered_of d))
      ≤ 4096 * design_size d + 134 * sum_over (cells_weight d rules) (order (lowered_of d))
  modules_written =
      let many = order_few in
      let few : 0 + length (order (lowered_of d)) ≤ 10 ^ 5 = omega (arith, many) in
      let cs : List PlainNetComponent = (inlined (net_of (lowered_of d))).components in
      let components : List PlainModule = with_numbers (component_module (net d rules small)) cs in
      let both : sum_over module_bytes (source_of (inlined (net_of (lowered_of d)))).modules ≡ sum_over module_bytes (primitive_modules (net d rules small)) + sum_over module_bytes components =
      sum_over-append module_bytes (primitive_modules (net d rules small)) components in
      let once : sum_over module_bytes (primitive_modules (net d rules small)) ≤ sum_over module_bytes (map primitive_module (primitives_among cs)) = firsts_less module_bytes [] (primitives_among cs) in
      let all : sum_over module_bytes (map primitive_module (primitives_among cs)) + sum_over module_bytes components + sum_over (λ k. outside_sum d rules (net d rules small) (order (lowered_of d)) (lowered_cells d rules k)) (order (lowered_of d))
      ≤ sum_over (share d rules flat accepted small parts shallow many) (order (lowered_of d)) =
      all_written d rules flat accepted small parts shallow many 0 (order (lowered_of d)) (λ k h. h) few in
      let split : sum_over (share d rules flat accepted small parts shallow many) (order (lowered_of d)) ≡ 4096 * sum_over (λ k. size_of (component_at d k) + 1) (order (lowered_of d)) + 134 * sum_over (cells_weight d rules) (order (lowered_of d)) =
      share_sum (λ k. size_of (component_at d k) + 1) (cells_weight d rules) (order (lowered_of d)) in
      let sizes : sum_over (λ k. size_of (component_at d k) + 1) (order (lowered_of d)) ≤ sum_over (λ (x : PlainComponent). size_of x + 1) d.components = sizes_few d rules (λ (x : PlainComponent). size_of x + 1) in
      let whole : sum_over (λ (x : PlainComponent). size_of x + 1) d.components ≡ sizes_of d.components = sizes_sum d.components in
      omega (arith, both, once, all, split, sizes, whole)

  -- THE TEXT, beside the lines of its external memories
  pub text_few : is_sound (source_of (inlined (net_of (lowered_of d)))) ≡ true → Each ExternalNarrow (source_of (inlined (net_of (lowered_of d)))).externals
      → length (text_of (source_of (inlined (net_of (lowered_of d))))) + sum_over (λ k. outside_sum d rules (net d rules small) (order (lowered_of d)) (lowered_cells d rules k)) (order (lowered_of d)) + 134 * (size_of (component_at d d.main) + 1)
      ≤ 4096 * design_size d + 134 * weight_of d + sum_over external_bytes (source_of (inlined (net_of (lowered_of d)))).externals
  text_few sound externals =
      let text : length (text_of (source_of (inlined (net_of (lowered_of d))))) ≤ sum_over external_bytes (source_of (inlined (net_of (lowered_of d)))).externals + sum_over module_bytes (source_of (inlined (net_of (lowered_of d)))).modules =
      text_fits (source_of (inlined (net_of (lowered_of d)))) externals (sound_narrow (source_of (inlined (net_of (lowered_of d)))) sound) in
      let modules = modules_written in
      let weight : size_of (component_at d d.main) + 1 + sum_over (cells_weight d rules) (order (lowered_of d)) ≤ weight_of d = cells_weigh_little d rules in
      omega (arith, text, modules, weight)
