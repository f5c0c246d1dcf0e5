-- What is answered of a text's net.
use Rattle.std.proofs.Common.{◌≡◌, ◌⊎◌, ◌<◌, ◌^◌, List, ℕ, [], Result, Ok, Err, IfOk, IfErr, MatchResult, refl, sym, ◌∙◌, subst}
use Rattle.cx_text.specs.declared.diagnostics.Diagnostic.{Diagnostic}
use Rattle.cx_text.specs.Loading.{PlainRow}
use Rattle.cx_meaning.specs.Designs.{PlainDesign}
use Rattle.cx_rules.specs.Externals.{external_rows}
use Rattle.cx_rules.specs.Sizes.{design_size}
use Rattle.cx_compiler.specs.Runnable.{runnable}
use Rattle.cx_net.specs.Nets.{PlainNet}
use Rattle.cx_emit.specs.Emitted.{CanBeEmitted}
use Rattle.cx_commands.specs.declared.stops.Stop.{Stop}
use Rattle.cx_commands.specs.declared.stops.Stop.TheVariants as stops
use Rattle.cx_compiler.specs.Texts.{IsDesignOf}
use Rattle.cx_compiler.specs.Compiled.{CompileBreak, IsCompileStop, IsNetOfText, IsSizedNet, net_rows}
use Rattle.cx_compiler.proofs.CompileLemmas.{all_refused, compilable_once}
use Rattle.cx_compiler.proofs.RunLayers.{RunLaws, can_emitted, text_can}

module _ {X : Type 0} (net : X → PlainNet) (rows : X → List PlainRow) (text : List ℕ) where
  module _ (laws : RunLaws) (d : PlainDesign) (stands : IsDesignOf text d) (few : design_size d < 2 ^ 32) where
    pub net_of_text : (r : Result X Stop) → IfOk r (λ x. IsSizedNet d (net x)) → IfOk r (λ x. IsNetOfText text (net x))
    net_of_text (Ok x) sized =
        let can = text_can laws text d stands few sized.0 in
        record {
          design = d;
          stands = stands;
          few = few;
          within = sized.0;
          is = sized.2 can.design can.flat can.accepted;
          emitted = subst CanBeEmitted (sym sized.1) (can_emitted (runnable d) can);
        }
    net_of_text (Err stop) sized = tt

    -- its rows are those of the design that is run
    pub rows_of_text : (r : Result X Stop) → IfOk r (λ x. IsSizedNet d (net x)) → IfOk r (λ x. rows x ≡ external_rows (runnable d)) → IfOk r (λ x. rows x ≡ net_rows (net x))
    rows_of_text (Ok x) sized same =
        let can = text_can laws text d stands few sized.0 in
        let own = sized.2 can.design can.flat can.accepted in
        same ∙ sym own.rows
    rows_of_text (Err stop) sized same = tt

  -- a text that is refused has none
  pub net_refused : (r : Result X Stop) → IfOk r (λ x. IsNetOfText text (net x)) → IfErr r (IsCompileStop text) → (told : Diagnostic) → CompileBreak text told
      → MatchResult r (λ _. ⊥) (λ stop. (stop ≡ stops.Memory) ⊎ (stop ≡ stops.Rule told))
  net_refused (Ok x) h k told b = compilable_once text (stops.Rule told) (h.design, h.stands, h.within) (told, b, refl)
  net_refused (Err stop) h k told b = all_refused {X = Unit {0}} (λ _. []) text (Err stop) tt k told b
