-- What is run of an accepted text keeps what every design keeps, has no static component, breaks no rule, and has what its Verilog text asks for.
use Rattle.std.proofs.Common.{◌≡◌, ℕ, ◌+◌, ◌*◌, ◌^◌, ◌<◌, ◌≤◌, true, List, length, sym, subst, arith}
use Rattle.cx_text.specs.declared.limits.TheConstants.{COMPILE_SIZE, VERILOG_BYTES}
use Rattle.cx_meaning.specs.Designs.{PlainDesign}
use Rattle.cx_rules.specs.Accepted.{IsAccepted}
use Rattle.cx_rules.specs.Counts.{counted_design_size}
use Rattle.cx_rules.specs.Flat.{IsFlat}
use Rattle.cx_rules.specs.Sizes.{design_size, weight_of}
use Rattle.cx_rules.specs.Wellformed.{IsDesign}
use Rattle.cx_compiler.specs.Runnable.{runnable, CanBeFlattened}
use Rattle.cx_compiler.proofs.RunnableLemmas.{by_static, without_static}
use Rattle.cx_vtree.specs.Sound.{is_sound}
use Rattle.cx_vtree.specs.Spelling.{text_of}
use Rattle.cx_vwrite.specs.Refused.{IsTooLong}
use Rattle.cx_vwrite.specs.declared.refusals.WriteRefusal.TheVariants.{TooLong}
use Rattle.cx_emit.specs.Emitted.{CanBeEmitted}
use Rattle.cx_emit.specs.Shapes.{HasFewNets}
use Rattle.cx_emit.proofs.Soundness.{emitted_sound}
use Rattle.cx_emitted.specs.ByteLaws.{HasGuards}
use Rattle.cx_emitted.specs.Shallow.{IsShallow}
use Rattle.cx_emitted.proofs.WrittenBytes.{written_bytes}
use Rattle.cx_compiler.specs.Compiled.{KeepsRules, RunEmitsWithin, written_net, written_source}
use Rattle.cx_compiler.specs.Laws.{AreShallow, NeverTooLong}
use Rattle.cx_compiler.specs.Simulated.{IsVerilogOf}
use Rattle.cx_compiler.specs.Texts.{IsDesignOf}
use Rattle.cx_compiler.proofs.FlatGuards.{flat_has_guards}
use Rattle.cx_compiler.proofs.FlatWords.{flat_has_words}
use Rattle.cx_compiler.proofs.TextDepth.{text_shallow}
use Rattle.cx_compiler.proofs.TextLayers.{text_flattens}
use Rattle.cx_compiler.specs.Words.{HasWords}
use Rattle.cx_compiler.proofs.WrittenNets.{design_parts, design_words, net_emitted, nets_weigh}
use Rattle.cx_compiler.proofs.WrittenLength.{short}

-- THE LAWS on what is run of a design that can be flattened
pub record RunLaws : Type 0 where
  pub flat : (d : PlainDesign) → IsFlat (runnable d)
  pub design : (d : PlainDesign) → CanBeFlattened d → IsDesign (runnable d)
  pub accepted : (d : PlainDesign) → CanBeFlattened d → IsAccepted (runnable d)
  pub size : (d : PlainDesign) → CanBeFlattened d → design_size (runnable d) ≤ counted_design_size d

pub run_keeps_rules : RunLaws → (d : PlainDesign) → CanBeFlattened d → KeepsRules (runnable d)
run_keeps_rules laws d can = (laws.design d can, laws.flat d, laws.accepted d can)

-- WHAT CAN BE COMPILED
pub record CanBeCompiled (e : PlainDesign) : Type 0 where
  pub design : IsDesign e
  pub flat : IsFlat e
  pub accepted : IsAccepted e
  pub guards : HasGuards e
  pub words : HasWords e
  pub within : design_size e ≤ COMPILE_SIZE

module _ (laws : RunLaws) (text : List ℕ) (d : PlainDesign) (h : IsDesignOf text d) (few : design_size d < 2 ^ 32) (within : counted_design_size d ≤ COMPILE_SIZE) where
  own : CanBeFlattened d
  own = text_flattens text d h few

  guards : HasGuards d
  guards = design_parts h.0 d h.3

  words : HasWords d
  words cell i external = design_words text d h d.main own.design.main_there cell i

  run_within : design_size (runnable d) ≤ COMPILE_SIZE
  run_within = let small = laws.size d own in omega (arith, small, within)

  pub text_can : CanBeCompiled (runnable d)
  text_can = record {
    design = laws.design d own;
    flat = laws.flat d;
    accepted = laws.accepted d own;
    guards = by_static d HasGuards (flat_has_guards d guards) (λ flat. guards);
    words = by_static d HasWords (flat_has_words d own.design words) (λ flat. words);
    within = run_within;
  }

-- ITS NET can be emitted, so its source is sound, has few nets, and few bytes where few static ifs stand around a statement
module _ (e : PlainDesign) (can : CanBeCompiled e) where
  small : design_size e ≤ 16384
  small = can.within

  pub can_emitted : CanBeEmitted (written_net e)
  can_emitted = net_emitted e can.design can.flat can.accepted (record { small = small; parts = can.guards; words = can.words })

  pub can_sound : is_sound (written_source e) ≡ true
  can_sound = emitted_sound (written_net e) can_emitted

  pub can_nets : HasFewNets e (written_source e)
  can_nets = nets_weigh e can.design can.flat can.accepted (record { small = small; parts = can.guards; words = can.words })

  pub can_bytes : (answer : List ℕ) → IsVerilogOf answer (written_source e) → IsShallow e → length answer ≤ 4096 * design_size e + 256 * weight_of e
  can_bytes answer is shallow =
      subst (λ bytes. length bytes ≤ 4096 * design_size e + 256 * weight_of e) (sym is.spelled)
      (written_bytes e can.design can.flat can.accepted small can.guards shallow can_sound)

  pub can_short : IsShallow e → length (text_of (written_source e)) ≤ VERILOG_BYTES
  can_short shallow = short e can.design can.flat can.accepted can.within can.guards shallow can_sound

-- OF A TEXT
pub text_emits : RunLaws → (text : List ℕ) (d : PlainDesign) → IsDesignOf text d → design_size d < 2 ^ 32 → RunEmitsWithin d
text_emits laws text d h few within = can_emitted (runnable d) (text_can laws text d h few within)

pub are_shallow : AreShallow
are_shallow text d h flat = subst IsShallow (sym (without_static d flat)) (text_shallow text d h)

pub never_too_long : RunLaws → NeverTooLong
never_too_long laws text d h few within shallow n long =
    let bytes : length (text_of (written_source (runnable d))) ≤ VERILOG_BYTES = can_short (runnable d) (text_can laws text d h few within) shallow in
    let own = long.0 in
    let over = long.1 in
    omega (arith, bytes, own, over)
