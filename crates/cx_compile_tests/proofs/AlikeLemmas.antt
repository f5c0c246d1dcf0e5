-- What main comes to, the machine of its design and its net come to.
use Rattle.std.proofs.Common.{◌≡◌, inl, inr, ℕ, List, Result, Ok, Err, IfOk, IfErr, refl, sym, ap, ◌∙◌, subst}
use Rattle.cx_text.specs.Loading.{PlainMemory, words_loaded, with_words}
use Rattle.cx_data.specs.Dump.{dump_text}
use Rattle.cx_data.specs.Load.{load_of}
use Rattle.cx_data.specs.declared.faults.DataFault.{DataFault}
use Rattle.cx_meaning.specs.Answers as answers
use Rattle.cx_meaning.specs.Answers.{Answer}
use Rattle.cx_meaning.specs.Cycles.{Fault}
use Rattle.cx_meaning.specs.Designs.{PlainDesign}
use Rattle.cx_meaning.specs.Instances.{State, tree_of, words_of}
use Rattle.cx_meaning.specs.Running.{run_main}
use Rattle.cx_rules.specs.Accepted.{IsAccepted}
use Rattle.cx_rules.specs.Externals.{external_rows}
use Rattle.cx_rules.specs.Flat.{IsFlat}
use Rattle.cx_rules.specs.Wellformed.{IsDesign}
use Rattle.cx_control.specs.DesignRuns.{MachineRuns}
use Rattle.cx_wiring.specs.InNet.{RealisesInNet}
use Rattle.cx_commands.specs.declared.stops.Stop.{Stop}
use Rattle.cx_commands.specs.declared.stops.Stop.TheVariants as stops
use Rattle.cx_compiler.specs.Texts.{IsRunOf}
use Rattle.cx_compiler.specs.Interpreted.{told_of, loaded_result, IsInterpAnswer, IsInterpStop}
use Rattle.cx_compiler.specs.Compiled.{IsCompileStop, KeepsRules}
use Rattle.cx_compiler.proofs.BelowLemmas.{loaded_fits}
use Rattle.cx_compiler.proofs.PromiseLemmas.{of_run}
use Rattle.cx_compiler.proofs.RunLayers.{RunLaws, run_keeps_rules}
use Rattle.cx_compiler.proofs.TextLayers.{text_flattens}
use Rattle.cx_compile_tests.specs.Alike.{net_for, Loads, EndsAlike, WaitsAlike}

-- THE DESIGN that is run of the text
module _ (text json : List ℕ) (budget : ℕ) (d : PlainDesign) (stands : IsRunOf text d) (machine : MachineRuns d) (net : RealisesInNet d (net_for d)) where
  abbrev loads : (ms : List PlainMemory) → load_of json (external_rows d) ≡ Ok ms → Loads text json
  loads ms ok = record { design = d; stands = stands; memories = ms; loaded = ok }

  ends_of : (dump : List ℕ) (ms : List PlainMemory) → load_of json (external_rows d) ≡ Ok ms → (a : Answer State Fault) → run_main d (words_loaded ms) budget ≡ a
      → Ok dump ≡ told_of d ms budget a → EndsAlike text json budget dump
  ends_of dump ms ok (answers.End after t) e told =
      let same : dump ≡ dump_text t (with_words ms (words_of (tree_of d) after)) = cc in
      record {
        given = loads ms ok;
        turns = t;
        after = after;
        main = e;
        told = same;
        machine = machine.ends (words_loaded ms) budget t after e;
        net = net.runs.ends ms budget t after (loaded_fits json (external_rows d) ms ok) e;
      }
  ends_of dump ms ok (answers.Fault fault t) e told = absurd (cc)
  ends_of dump ms ok answers.More e told = absurd (cc)

  waits_of : (ms : List PlainMemory) → load_of json (external_rows d) ≡ Ok ms → (a : Answer State Fault) → run_main d (words_loaded ms) budget ≡ a
      → Err (stops.More budget) ≡ told_of d ms budget a → WaitsAlike text json budget
  waits_of ms ok (answers.End after t) e told = absurd (cc)
  waits_of ms ok (answers.Fault fault t) e told = absurd (cc)
  waits_of ms ok answers.More e told =
      let fits = loaded_fits json (external_rows d) ms ok in
      record {
        given = loads ms ok;
        main = e;
        machine = machine.goes_on (words_loaded ms) budget e;
        net = net.runs.never_stuck ms budget fits;
        not_before = λ cycle left run. net.runs.ends_only ms budget cycle left fits run;
      }

  -- by what the data file loads
  ends_by : (dump : List ℕ) (r : Result (List PlainMemory) DataFault) → load_of json (external_rows d) ≡ r → Ok dump ≡ loaded_result d budget r → EndsAlike text json budget dump
  ends_by dump (Ok ms) ok told = ends_of dump ms ok (run_main d (words_loaded ms) budget) refl told
  ends_by dump (Err fault) ok told = absurd (cc)

  waits_by : (r : Result (List PlainMemory) DataFault) → load_of json (external_rows d) ≡ r → Err (stops.More budget) ≡ loaded_result d budget r → WaitsAlike text json budget
  waits_by (Ok ms) ok told = waits_of ms ok (run_main d (words_loaded ms) budget) refl told
  waits_by (Err fault) ok told = absurd (cc)

-- A TEXT that has a net
module _ (laws : RunLaws) (text json : List ℕ) (budget : ℕ) (d : PlainDesign) (stands : IsRunOf text d)
    (machines : (e : PlainDesign) → IsDesign e → IsFlat e → IsAccepted e → MachineRuns e) (nets : (e : PlainDesign) → IsDesign e → IsFlat e → IsAccepted e → RealisesInNet e (net_for e)) where
  rules : KeepsRules d
  rules = subst KeepsRules (sym stands.is) (run_keeps_rules laws stands.design (text_flattens text stands.design stands.stands stands.few))

  ended : (dump : List ℕ) → IsInterpAnswer text json budget dump → EndsAlike text json budget dump
  ended dump i =
      ends_by text json budget d stands (machines d rules.0 rules.1 rules.2) (nets d rules.0 rules.1 rules.2) dump (load_of json (external_rows d)) refl (of_run text d stands json budget (Ok dump) i)

  waited : (stop : Stop) → IsInterpStop text json budget stop → stop ≡ stops.More budget → WaitsAlike text json budget
  waited stop (inl memory) more = absurd (cc)
  waited stop (inr i) more =
      waits_by text json budget d stands (machines d rules.0 rules.1 rules.2) (nets d rules.0 rules.1 rules.2) (load_of json (external_rows d)) refl
      (ap (λ s. Err s) (sym more) ∙ of_run text d stands json budget (Err stop) i)

  pub ends_alike : {X : Type 0} (bytes : X → List ℕ) (r : Result X Stop) → IfOk r (λ x. IsInterpAnswer text json budget (bytes x)) → IfOk r (λ x. EndsAlike text json budget (bytes x))
  ends_alike bytes (Ok x) h = ended (bytes x) h
  ends_alike bytes (Err stop) h = tt

  pub waits_alike : {X : Type 0} (r : Result X Stop) → IfErr r (IsInterpStop text json budget) → IfErr r (λ stop. stop ≡ stops.More budget → WaitsAlike text json budget)
  waits_alike (Ok x) h = tt
  waits_alike (Err stop) h = λ more. waited stop h more

-- a text that is refused is not said to need more turns
pub refused_alike : (text json : List ℕ) (budget : ℕ) (stop : Stop) → IsCompileStop text stop → stop ≡ stops.More budget → WaitsAlike text json budget
refused_alike text json budget stop (inl memory) more = absurd (cc)
refused_alike text json budget stop (inr h) more = let rule : stop ≡ stops.Rule h.0 = h.2 in absurd (cc)
