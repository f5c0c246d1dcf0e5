-- What a text does on a data file by choices is one thing, and it is made of what its parts do.
use Rattle.std.proofs.Common.{◌≡◌, ◌⊎◌, inl, inr, ℕ, ◌<◌, ◌==◌, List, length, Result, Ok, Err, IfOk, IfErr, sym, ap, ◌∙◌, subst, arith}
use Rattle.std.specs.Str.Parse.{digits_value}
use Rattle.std.proofs.lemmas.List.{length-map}
use Rattle.std.proofs.lemmas.List.Splits.{length-slice_split}
use Rattle.cx_text.specs.Loading.{PlainRow, PlainMemory, with_words}
use Rattle.cx_data.specs.Load.{load_of}
use Rattle.cx_meaning.specs.Cycles as cycles
use Rattle.cx_meaning.specs.Designs.{PlainDesign}
use Rattle.cx_meaning.specs.Instances.{State, tree_of, words_of}
use Rattle.cx_rules.specs.Externals.{external_rows}
use Rattle.cx_design.specs.declared.actives.PortFault.{PortFault}
use Rattle.cx_design.specs.PlainActives.{TellsFault}
use Rattle.cx_weave.specs.declared.weaving.Wove.{Wove}
use Rattle.cx_weave.specs.declared.weaving.Wove.TheVariants.{End, Fault, More}
use Rattle.cx_weave.specs.Results.{LeavesWords, TellsWoven}
use Rattle.cx_orders.specs.Woven as woven
use Rattle.cx_orders.specs.Woven.{Woven}
use Rattle.cx_commands.specs.Lists.{numbers_in, parts_of}
use Rattle.cx_commands.specs.declared.stops.Stop.{Stop}
use Rattle.cx_commands.specs.declared.stops.Stop.TheVariants as stops
use Rattle.cx_compiler.specs.Interpreted.{fault_stop}
use Rattle.cx_compiler.specs.Texts.{IsRunOf, IsTextRefusal}
use Rattle.cx_compiler.proofs.TextLemmas.{one_design, text_of_design, accepted_once, break_once}
use Rattle.cx_compiler.specs.Runnable.{runnable}
use Rattle.cx_driver.specs.Loads.{IsUnloaded}
use Rattle.cx_driver.specs.Weaving.{woven_text, told_woven, loaded_woven, design_woven, Weaves, IsWovenAnswer, IsWeaveStop, IsDesignWoven, StopsDesignWoven, IsRunWoven, StopsRunWoven}

-- a list has a number
pub some_number : (word : List ℕ) → 0 < length (numbers_in word)
some_number word = omega (arith, length-slice_split (λ (b : ℕ). b == 44) word, length-map (parts_of word) (digits_value 10))

module _ (text json : List ℕ) (steps : ℕ) (list : List ℕ) where
  -- WHAT A TEXT DOES is one thing
  pub one_woven : (a b : Result (List ℕ) Stop) → Weaves text json steps list a → Weaves text json steps list b → a ≡ b
  one_woven a b (inl h) (inl k) = h.2 ∙ ap (λ d. design_woven (runnable d) list json steps) (one_design text h.0 k.0 h.1 k.1) ∙ sym k.2
  one_woven a b (inl h) (inr k) = absurd (accepted_once text k.0 (text_of_design text h.0 h.1) k.1)
  one_woven a b (inr h) (inl k) = absurd (accepted_once text h.0 (text_of_design text k.0 k.1) h.1)
  one_woven a b (inr h) (inr k) = h.2 ∙ ap (λ d. Err (stops.Rule d)) (break_once text h.0 k.0 h.1 k.1) ∙ sym k.2

  -- from what is run of a text to the text
  run_so : (run : PlainDesign) (is : IsRunOf text run) → design_woven (runnable is.design) list json steps ≡ design_woven run list json steps
  run_so run is = ap (λ (e : PlainDesign). design_woven e list json steps) (sym is.is)

  pub text_woven : {X : Type 0} (bytes : X → List ℕ) (d : PlainDesign) (r : Result X Stop) → IsRunOf text d → IfOk r (λ x. IsDesignWoven d list json steps (bytes x)) → IfOk r (λ x. IsWovenAnswer text json steps list (bytes x))
  text_woven bytes d (Ok x) is h = inl (is.design, is.stands, sym (run_so d is ∙ h))
  text_woven bytes d (Err stop) is h = tt

  pub text_stops : {X : Type 0} (d : PlainDesign) (r : Result X Stop) → IsRunOf text d → IfErr r (StopsDesignWoven d list json steps) → IfErr r (IsWeaveStop text json steps list)
  text_stops d (Ok x) is h = tt
  text_stops d (Err stop) is (inl memory) = inl memory
  text_stops d (Err stop) is (inr h) = inr (inl (is.design, is.stands, sym (run_so d is ∙ h)))

  -- from a text that is refused
  pub refused_stops : (stop : Stop) → IsTextRefusal text stop → IsWeaveStop text json steps list stop
  refused_stops stop (inl memory) = inl memory
  refused_stops stop (inr h) = inr (inr (h.0, h.1, ap (λ s. Err s) h.2))

module _ (d : PlainDesign) (list json : List ℕ) (steps : ℕ) where
  -- from a run to its design
  loads_as : (ms : List PlainMemory) → load_of json (external_rows d) ≡ Ok ms → design_woven d list json steps ≡ loaded_woven d list steps (Ok ms)
  loads_as ms loads = ap (λ r. loaded_woven d list steps r) loads

  pub design_weaves : {X : Type 0} (bytes : X → List ℕ) (ms : List PlainMemory) (r : Result X Stop) → load_of json (external_rows d) ≡ Ok ms → IfOk r (λ x. IsRunWoven d list ms steps (bytes x)) → IfOk r (λ x. IsDesignWoven d list json steps (bytes x))
  design_weaves bytes ms (Ok x) loads h = loads_as ms loads ∙ h
  design_weaves bytes ms (Err stop) loads h = tt

  pub design_stops : {X : Type 0} (ms : List PlainMemory) (r : Result X Stop) → load_of json (external_rows d) ≡ Ok ms → IfErr r (StopsRunWoven d list ms steps) → IfErr r (StopsDesignWoven d list json steps)
  design_stops ms (Ok x) loads h = tt
  design_stops ms (Err stop) loads (inl memory) = inl memory
  design_stops ms (Err stop) loads (inr h) = inr (loads_as ms loads ∙ h)

  -- from a data file that is not loaded to its design
  pub unloaded_stops : (rows : List PlainRow) (stop : Stop) → rows ≡ external_rows d → IsUnloaded rows json stop → StopsDesignWoven d list json steps stop
  unloaded_stops rows stop e (inl memory) = inl memory
  unloaded_stops rows stop e (inr h) = inr (ap (λ r. loaded_woven d list steps r) (ap (λ x. load_of json x) (sym e) ∙ h.1) ∙ ap (λ s. Err s) (sym h.2))

-- WHAT A WOVEN RUN COMES TO, as it is told
module _ (d : PlainDesign) (x : Woven) where
  pub wove_ends : (wove : Wove) (made sum : ℕ) → TellsWoven d wove x → wove ≡ End made sum → (after : State) × (x ≡ woven.Ends after made sum)
  wove_ends wove made sum h e = subst (λ w. TellsWoven d w x) e h

  pub wove_faults : (wove : Wove) (told : PortFault) (made : ℕ) → TellsWoven d wove x → wove ≡ Fault told made → (fault : cycles.Fault) × TellsFault (tree_of d) fault told × (x ≡ woven.Faults fault made)
  wove_faults wove told made h e = subst (λ w. TellsWoven d w x) e h

  pub wove_more : (wove : Wove) → TellsWoven d wove x → wove ≡ More → x ≡ woven.More
  wove_more wove h e = subst (λ w. TellsWoven d w x) e h

  module _ (ms : List PlainMemory) (steps : ℕ) where
    pub ends_told : (new : List PlainMemory) (after : State) (made sum : ℕ) (text : List ℕ) → x ≡ woven.Ends after made sum → LeavesWords d ms new x → text ≡ woven_text made sum new → told_woven d ms steps x ≡ Ok text
    ends_told new after made sum text is leaves e =
        let words : new ≡ with_words ms (words_of (tree_of d) after) = subst (LeavesWords d ms new) is leaves in
        ap (told_woven d ms steps) is ∙ ap (λ m. Ok (woven_text made sum m)) (sym words) ∙ ap (λ t. Ok t) (sym e)

    pub fault_told : (fault : cycles.Fault) (made : ℕ) (stop : Stop) → x ≡ woven.Faults fault made → (stop ≡ stops.Memory) ⊎ (stop ≡ fault_stop d fault made) → (stop ≡ stops.Memory) ⊎ (told_woven d ms steps x ≡ Err stop)
    fault_told fault made stop is (inl memory) = inl memory
    fault_told fault made stop is (inr told) = inr (ap (told_woven d ms steps) is ∙ ap (λ s. Err s) (sym told))

    pub more_told : x ≡ woven.More → (stops.More steps ≡ stops.Memory) ⊎ (told_woven d ms steps x ≡ Err (stops.More steps))
    more_told is = inr (ap (told_woven d ms steps) is)
