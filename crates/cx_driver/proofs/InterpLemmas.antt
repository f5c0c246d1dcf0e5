-- What a text does on a data file is one thing, and it is made of what its parts do.
use Rattle.std.proofs.Common.{◌≡◌, inl, inr, ℕ, List, Result, Ok, Err, IfOk, IfErr, sym, ap, ◌∙◌}
use Rattle.cx_text.specs.Loading.{PlainRow, PlainMemory}
use Rattle.cx_data.specs.Dump.{dump_text}
use Rattle.cx_data.specs.Load.{load_of}
use Rattle.cx_meaning.specs.Designs.{PlainDesign}
use Rattle.cx_rules.specs.Externals.{external_rows}
use Rattle.cx_commands.specs.declared.stops.Stop.{Stop}
use Rattle.cx_commands.specs.declared.stops.Stop.TheVariants as stops
use Rattle.cx_compiler.specs.Texts.{IsRunOf, IsTextRefusal}
use Rattle.cx_compiler.specs.Interpreted.{PlainLeft, dumped, loaded_left, design_left, meant_result, Interprets, IsInterpAnswer, IsInterpStop, IsDesignAnswer, IsDesignStop, IsDesignLeft, StopsDesign, IsRunLeft, StopsRun}
use Rattle.cx_compiler.proofs.TextLemmas.{one_design, text_of_design, accepted_once, break_once}
use Rattle.cx_compiler.proofs.MeantLemmas.{run_meant}
use Rattle.cx_driver.specs.Loads.{IsUnloaded}

-- WHAT A TEXT DOES is one thing
pub one_result : (text json : List ℕ) (budget : ℕ) (a b : Result (List ℕ) Stop) → Interprets text json budget a → Interprets text json budget b → a ≡ b
one_result text json budget a b (inl h) (inl k) = h.2 ∙ ap (λ d. meant_result d json budget) (one_design text h.0 k.0 h.1 k.1) ∙ sym k.2
one_result text json budget a b (inl h) (inr k) = absurd (accepted_once text k.0 (text_of_design text h.0 h.1) k.1)
one_result text json budget a b (inr h) (inl k) = absurd (accepted_once text h.0 (text_of_design text k.0 k.1) h.1)
one_result text json budget a b (inr h) (inr k) = h.2 ∙ ap (λ d. Err (stops.Rule d)) (break_once text h.0 k.0 h.1 k.1) ∙ sym k.2

-- from what is run of a text to the text
pub text_answers : {X : Type 0} (bytes : X → List ℕ) (text json : List ℕ) (d : PlainDesign) (budget : ℕ) (r : Result X Stop) → IsRunOf text d
    → IfOk r (λ x. IsDesignAnswer d json budget (bytes x)) → IfOk r (λ x. IsInterpAnswer text json budget (bytes x))
text_answers bytes text json d budget (Ok x) is h = inl (is.design, is.stands, sym (run_meant text d is json budget ∙ h))
text_answers bytes text json d budget (Err stop) is h = tt

pub text_stops : {X : Type 0} (text json : List ℕ) (d : PlainDesign) (budget : ℕ) (r : Result X Stop) → IsRunOf text d
    → IfErr r (IsDesignStop d json budget) → IfErr r (IsInterpStop text json budget)
text_stops text json d budget (Ok x) is h = tt
text_stops text json d budget (Err stop) is (inl memory) = inl memory
text_stops text json d budget (Err stop) is (inr h) = inr (inl (is.design, is.stands, sym (run_meant text d is json budget ∙ h)))

-- from a text that is refused
pub refused_stops : (text json : List ℕ) (budget : ℕ) (stop : Stop) → IsTextRefusal text stop → IsInterpStop text json budget stop
refused_stops text json budget stop (inl memory) = inl memory
refused_stops text json budget stop (inr h) = inr (inr (h.0, h.1, ap (λ s. Err s) h.2))

-- from what a design leaves to its dump
pub left_dumped : (d : PlainDesign) (json : List ℕ) (budget : ℕ) (left : PlainLeft) (dump : List ℕ) → IsDesignLeft d json budget left → dump ≡ dump_text left.turns left.memories → IsDesignAnswer d json budget dump
left_dumped d json budget left dump h e = ap (λ r. dumped r) h ∙ ap (λ b. Ok b) (sym e)

pub left_stopped : (d : PlainDesign) (json : List ℕ) (budget : ℕ) (stop : Stop) → StopsDesign d json budget stop → IsDesignStop d json budget stop
left_stopped d json budget stop (inl memory) = inl memory
left_stopped d json budget stop (inr h) = inr (ap (λ r. dumped r) h)

-- from a run to its design
loads_as : (d : PlainDesign) (json : List ℕ) (budget : ℕ) (ms : List PlainMemory) → load_of json (external_rows d) ≡ Ok ms → design_left d json budget ≡ loaded_left d budget (Ok ms)
loads_as d json budget ms loads = ap (λ r. loaded_left d budget r) loads

pub design_leaves : {X : Type 0} (left : X → PlainLeft) (d : PlainDesign) (json : List ℕ) (ms : List PlainMemory) (budget : ℕ) (r : Result X Stop) → load_of json (external_rows d) ≡ Ok ms
    → IfOk r (λ x. IsRunLeft d ms budget (left x)) → IfOk r (λ x. IsDesignLeft d json budget (left x))
design_leaves left d json ms budget (Ok x) loads h = loads_as d json budget ms loads ∙ h
design_leaves left d json ms budget (Err stop) loads h = tt

pub design_stops : {X : Type 0} (d : PlainDesign) (json : List ℕ) (ms : List PlainMemory) (budget : ℕ) (r : Result X Stop) → load_of json (external_rows d) ≡ Ok ms
    → IfErr r (StopsRun d ms budget) → IfErr r (StopsDesign d json budget)
design_stops d json ms budget (Ok x) loads h = tt
design_stops d json ms budget (Err stop) loads (inl memory) = inl memory
design_stops d json ms budget (Err stop) loads (inr h) = inr (loads_as d json budget ms loads ∙ h)

-- from a data file that is not loaded to its design
pub unloaded_stops : (d : PlainDesign) (rows : List PlainRow) (json : List ℕ) (budget : ℕ) (stop : Stop) → rows ≡ external_rows d → IsUnloaded rows json stop → StopsDesign d json budget stop
unloaded_stops d rows json budget stop e (inl memory) = inl memory
unloaded_stops d rows json budget stop e (inr h) = inr (ap (λ r. loaded_left d budget r) (ap (λ x. load_of json x) (sym e) ∙ h.1) ∙ ap (λ s. Err s) (sym h.2))
