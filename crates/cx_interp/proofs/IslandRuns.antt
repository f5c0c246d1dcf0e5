-- An island of dynamic control runs as one, and its samples are those of a run.
use Rattle.std.proofs.Common.{◌≡◌, ℕ, zero, suc, true, length, Option, Some, refl, sym, ap, ◌∙◌, subst}
use Rattle.std.specs.Prelude.{is_some}
use Rattle.cx_meaning.specs.declared.kinds.GroupKind.{GroupKind}
use Rattle.cx_meaning.specs.declared.kinds.GroupKind.TheVariants as kinds
use Rattle.cx_meaning.specs.Designs.{PlainDesign, PlainComponent, PlainForm, Empty, Enable, Seq, Par, If, While, Repeat, StaticSeq, StaticPar, StaticIf, StaticRepeat, Timed, group_at}
use Rattle.cx_meaning.specs.Instances.{Instance, State, part_of, cells_of, instance_at, tree_of}
use Rattle.cx_meaning.specs.Sights.{Held, Look}
use Rattle.cx_meaning.specs.Islands.{kind_length, form_length, island}
use Rattle.cx_meaning.specs.Calls.{enable_kind}
use Rattle.cx_meaning.specs.Control.{run_form}
use Rattle.cx_meaning.specs.Running.{control_below}
use Rattle.cx_rules.specs.StaticControl.{is_island_form}
use Rattle.cx_laws.specs.Samples.{Samples, says, samples_after}
use Rattle.cx_laws.specs.SampledIslands.{sampled_island}
use Rattle.cx_interp_islands.specs.Sampled.{AreSampled}
use Rattle.cx_turns.specs.Groups.{HasLength}
use Rattle.cx_turns.specs.Islands.{IsIsland, SampledBefore}
use Rattle.cx_interp.specs.Doings.{leaves_in, form_does}
use Rattle.cx_interp.specs.IslandCycles.{sampled_does}
use Rattle.cx_text.proofs.NumberLaws.{never}

-- the enable of a static group is an island
pub enable_is_island : (d : PlainDesign) (n g k : ℕ) (form : PlainForm) → form ≡ Enable g → HasLength d n g (Some k) → IsIsland d n form
enable_is_island d n g k form e length path number =
    subst (λ f. is_island_form (part_of (instance_at (tree_of d) path)) f ≡ true) (sym e) (ap (λ (o : Option ℕ). is_some o) (sym (length path number)))

kind_runs : (i : Instance) (held : Held) (g : ℕ) (s : State) (n : ℕ) (kind : GroupKind) → is_some (kind_length kind) ≡ true → island i held (Enable g) s n ≡ enable_kind i (control_below (cells_of i)) held g kind s n
kind_runs i held g s n kinds.Plain e = never e
kind_runs i held g s n kinds.Comb e = never e
kind_runs i held g s n (kinds.Timed m) e = refl

-- an island of dynamic control runs as one
pub island_runs : (i : Instance) (held : Held) (form : PlainForm) (s : State) (n : ℕ) → is_island_form (part_of i) form ≡ true → island i held form s n ≡ run_form (leaves_in i held) form s n
island_runs i held Empty s n e = never e
island_runs i held (Enable g) s n e = kind_runs i held g s n (group_at (part_of i) g).kind e
island_runs i held (Seq parts) s n e = never e
island_runs i held (Par arms) s n e = never e
island_runs i held (If test comb a b) s n e = never e
island_runs i held (While test comb a) s n e = never e
island_runs i held (Repeat count a) s n e = never e
island_runs i held (StaticSeq length parts) s n e = refl
island_runs i held (StaticPar length arms) s n e = refl
island_runs i held (StaticIf length test a b) s n e = refl
island_runs i held (StaticRepeat length count a) s n e = refl
island_runs i held (Timed k) s n e = never e

-- so do its cycles, and the idle turn behind them
pub samples_run : (i : Instance) (held : Held) (form : PlainForm) (count : ℕ) (first : Samples) (s : State) (n : ℕ) → form_length (part_of i) form ≡ count → is_island_form (part_of i) form ≡ true
    → sampled_island i held form first s n ≡ island i held form s n → sampled_does form count first i held s n ≡ form_does form i held s n
samples_run i held form count first s n e is law = ap (λ c. sampled_does form c first i held s n) (sym e) ∙ law ∙ island_runs i held form s n is

-- the samples of a cycle, once those that begin are taken
pub sampled_now : (part : PlainComponent) (form : PlainForm) (look : Look) (kept next : Samples)
    → ((p : PlainComponent) (f : PlainForm) (l : Look) (k : Samples) → AreSampled p 0 f (samples_after p (says l) 0 f k))
    → ((p : PlainComponent) (f : PlainForm) (t : ℕ) (l : Look) (k : Samples) → AreSampled p t f k → AreSampled p (suc t) f (samples_after p (says l) (suc t) f k))
    → (t : ℕ) → SampledBefore part t form kept → next ≡ samples_after part (says look) t form kept → AreSampled part t form next
sampled_now part form look kept next first later zero before e = subst (λ (k : Samples). AreSampled part 0 form k) (sym e) (first part form look kept)
sampled_now part form look kept next first later (suc t) before e = subst (λ (k : Samples). AreSampled part (suc t) form k) (sym e) (later part form t look kept before)
