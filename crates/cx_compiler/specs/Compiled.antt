-- What `compile` writes of a text, and what a text is refused for.
use Rattle.std.specs.Prelude.{◌≡◌, ◌⊎◌, ◌+◌, ◌*◌, ◌^◌, ◌<◌, ◌≤◌, ℕ, List, Result, Ok, Err, decimal, length}
use Rattle.cx_text.specs.declared.diagnostics.Diagnostic.{Diagnostic}
use Rattle.cx_text.specs.declared.rules.Rule.TheVariants.{TooLarge}
use Rattle.cx_text.specs.declared.limits.TheConstants.{COMPILE_SIZE, VERILOG_BYTES}
use Rattle.cx_text.specs.Loading.{PlainRow}
use Rattle.cx_meaning.specs.Designs.{PlainDesign, no_place}
use Rattle.cx_rules.specs.Flat.{IsFlat}
use Rattle.cx_rules.specs.Accepted.{IsAccepted}
use Rattle.cx_rules.specs.Counts.{counted_design_size}
use Rattle.cx_rules.specs.Externals.{rows_of, external_rows}
use Rattle.cx_rules.specs.Sizes.{design_size, weight_of}
use Rattle.cx_rules.specs.Wellformed.{IsDesign}
use Rattle.cx_net.specs.NetFits.{IsFit, HasNoHoles}
use Rattle.cx_net.specs.Nets.{PlainNet}
use Rattle.cx_net.specs.NetTree.{net_component_at, net_tree}
use Rattle.cx_net.specs.Realises.{Realises}
use Rattle.cx_vtree.specs.Plain.{PlainSource}
use Rattle.cx_vtree.specs.Spelling.{text_of}
use Rattle.cx_emitted.specs.Resets.{IsReset}
use Rattle.cx_emitted.specs.Always.{RealisesAlways}
use Rattle.cx_static.specs.Lowering.{lowered_of}
use Rattle.cx_wiring.specs.InNet.{RealisesInNet}
use Rattle.cx_wiring.specs.Wiring.{net_of}
use Rattle.cx_holes.specs.Inlining.{inlined}
use Rattle.cx_emit.specs.Emitted.{CanBeEmitted}
use Rattle.cx_emit.specs.Shapes.{IsShaped, HasOwnNames, HasFewNets}
use Rattle.cx_emit.specs.Sources.{source_of}
use Rattle.cx_emitted.specs.Shallow.{IsShallow}
use Rattle.cx_compiler.specs.Runnable.{runnable, RunsAsMeant}
use Rattle.cx_commands.specs.Stopping.{TellsBreak}
use Rattle.cx_commands.specs.declared.stops.Stop.{Stop}
use Rattle.cx_commands.specs.declared.stops.Stop.TheVariants as stops
use Rattle.cx_compiler.specs.Cells.{HasCells, EachStands}
use Rattle.cx_compiler.specs.Texts.{IsDesignOf, TextBreak}
use Rattle.cx_compiler.specs.Simulated.{IsVerilogOf}

-- THE TEXT OF A DESIGN: it spells a sound source, which realises the design, from any power-up state and behind any
-- script of waiting and running too, whose reset sets every register to 0, in which nothing of the design's control
-- hides, each cell has its instance and each module stands somewhere, whose names are no words of Verilog, and which
-- has few nets; and where few static ifs stand around a statement it has few bytes: 4,096 for each unit of the
-- design's size, and 256 for each unit of its weight
pub record IsTextOf (d : PlainDesign) (answer : List ℕ) : Type 0 where
  pub source : PlainSource
  pub spelled : IsVerilogOf answer source
  pub realises : Realises d source
  pub always : RealisesAlways d source
  pub reset : IsReset source
  pub shape : IsShaped d source
  pub cells : HasCells d source
  pub used : EachStands source
  pub names : HasOwnNames source
  pub nets : HasFewNets d source
  pub small : IsShallow d → length answer ≤ 4096 * design_size d + 256 * weight_of d

-- the net that the passes make of a design, and the source
abbrev pub written_net : PlainDesign → PlainNet
written_net d = inlined (net_of (lowered_of d))

abbrev pub written_source : PlainDesign → PlainSource
written_source d = source_of (written_net d)

-- WHAT compile WRITES of a text: it is accepted, 32 bits count the parts of its design, this is within the size that
-- compile takes, the design that is run tells of each run what it means, and this is the text of the design that is
-- run, to the byte
pub record IsCompiled (text answer : List ℕ) : Type 0 where
  pub design : PlainDesign
  pub stands : IsDesignOf text design
  pub few : design_size design < 2 ^ 32
  pub within : counted_design_size design ≤ COMPILE_SIZE
  pub runs : RunsAsMeant design
  pub written : IsTextOf (runnable design) answer
  pub exact : answer ≡ text_of (written_source (runnable design))

-- the external memories of a net
abbrev pub net_rows : PlainNet → List PlainRow
net_rows net = rows_of (net_component_at net net.main).cells

-- A NET OF A DESIGN, without holes: it does what the design means, it fits, and it has the design's external memories, in their order
pub record IsHolelessNetFor (d : PlainDesign) (net : PlainNet) : Type 0 where
  pub realises : RealisesInNet d (net_tree net)
  pub fits : IsFit net
  pub no_holes : HasNoHoles net
  pub rows : net_rows net ≡ external_rows d

-- of a design that breaks no rule
abbrev pub HasItsNet : PlainDesign → PlainNet → Type 0
HasItsNet d net = IsDesign d → IsFlat d → IsAccepted d → IsHolelessNetFor d net

-- the source that is written of a design that breaks no rule realises it
abbrev pub IsRealised : PlainDesign → Type 0
IsRealised d = IsDesign d → IsFlat d → IsAccepted d → Realises d (written_source d)

-- of a design: it is within the size, with static components counted where they are invoked, and this is the net of
-- the design that is run: the one that is written, and where that breaks no rule it does what it means
abbrev pub IsSizedNet : PlainDesign → PlainNet → Type 0
IsSizedNet d net =
    (counted_design_size d ≤ COMPILE_SIZE) × (net ≡ written_net (runnable d)) × HasItsNet (runnable d) net

-- THE NET OF A TEXT: the text is accepted, 32 bits count the parts of its design, this is within the size that
-- compile takes, and this is a net of the design that is run, of which a text can be written
pub record IsNetOfText (text : List ℕ) (net : PlainNet) : Type 0 where
  pub design : PlainDesign
  pub stands : IsDesignOf text design
  pub few : design_size design < 2 ^ 32
  pub within : counted_design_size design ≤ COMPILE_SIZE
  pub is : IsHolelessNetFor (runnable design) net
  pub emitted : CanBeEmitted net

-- the text is accepted, and its design is within the size, with static components counted where they are invoked
abbrev pub IsCompilable : List ℕ → Type 0
IsCompilable text = (d : PlainDesign) × IsDesignOf text d × (counted_design_size d ≤ COMPILE_SIZE)

-- the rule on sizes: the size is the name, and the place is the beginning of the text
abbrev pub size_break : ℕ → Diagnostic
size_break size = record { rule = TooLarge; place = no_place; name = decimal size }

abbrev pub too_large : PlainDesign → Diagnostic
too_large d = size_break (design_size d)

-- the same with static components counted where they are invoked
abbrev pub counted_too_large : PlainDesign → Diagnostic
counted_too_large d = size_break (counted_design_size d)

-- the text is accepted, and its design is over the size
abbrev pub IsTooLarge : List ℕ → Diagnostic → Type 0
IsTooLarge text told =
    (d : PlainDesign) × IsDesignOf text d × (COMPILE_SIZE < counted_design_size d)
    × (told ≡ counted_too_large d)

-- REFUSED by compile: the text breaks a rule, or else that on sizes
abbrev pub CompileBreak : List ℕ → Diagnostic → Type 0
CompileBreak text told = TextBreak text told ⊎ IsTooLarge text told

-- WHAT compile DOES WITH A TEXT: it writes this; or the text is refused, and that is told
abbrev pub Compiles : List ℕ → Result (List ℕ) Stop → Type 0
Compiles text (Ok answer) = IsCompiled text answer
Compiles text (Err stop) = (told : Diagnostic) × CompileBreak text told × (stop ≡ stops.Rule told)

-- what is told of a text that is refused, unless memory is wanting
abbrev pub IsCompileStop : List ℕ → Stop → Type 0
IsCompileStop text stop = TellsBreak (CompileBreak text) stop

-- the same of a design that is run
abbrev pub IsDesignWritten : PlainDesign → List ℕ → Type 0
IsDesignWritten d answer = (design_size d ≤ COMPILE_SIZE) × IsVerilogOf answer (written_source d)

abbrev pub IsDesignTooLarge : PlainDesign → Stop → Type 0
IsDesignTooLarge d stop = (stop ≡ stops.Memory) ⊎ ((COMPILE_SIZE < design_size d) × (stop ≡ stops.Rule (too_large d)))

-- and of a design that can be flattened: of what is run of it
abbrev pub IsRunWritten : PlainDesign → List ℕ → Type 0
IsRunWritten d answer = (counted_design_size d ≤ COMPILE_SIZE) × IsVerilogOf answer (written_source (runnable d))

abbrev pub IsRunTooLarge : PlainDesign → Stop → Type 0
IsRunTooLarge d stop =
    (stop ≡ stops.Memory)
    ⊎ ((COMPILE_SIZE < counted_design_size d) × (stop ≡ stops.Rule (counted_too_large d)))

-- a design keeps what every design keeps, has no static component, and breaks no rule
abbrev pub KeepsRules : PlainDesign → Type 0
KeepsRules d = IsDesign d × IsFlat d × IsAccepted d

-- where it is within the size
abbrev pub KeepsRulesWithin : PlainDesign → Type 0
KeepsRulesWithin d = design_size d ≤ COMPILE_SIZE → KeepsRules d

-- and its net can be emitted
abbrev pub EmitsWithin : PlainDesign → Type 0
EmitsWithin d = design_size d ≤ COMPILE_SIZE → CanBeEmitted (written_net d)

-- and the text of its source is not too long
abbrev pub IsShortWithin : PlainDesign → Type 0
IsShortWithin d = design_size d ≤ COMPILE_SIZE → length (text_of (written_source d)) ≤ VERILOG_BYTES

-- the net of what is run of a design can be emitted
abbrev pub RunEmitsWithin : PlainDesign → Type 0
RunEmitsWithin d = counted_design_size d ≤ COMPILE_SIZE → CanBeEmitted (written_net (runnable d))
