-- What static ifs see is what ports are seen as in every state that the rows stand for.
use Rattle.std.proofs.Common.{◌≡◌, ℕ, ◌<◌, List, [], length, Some, sym, ap, ◌∙◌}
use Rattle.std.proofs.Math.Path.{fun_ext}
use Rattle.cx_meaning.specs.declared.ports.PortRef.{PortRef}
use Rattle.cx_meaning.specs.Designs.{PlainDesign}
use Rattle.cx_meaning.specs.Instances.{Path, State, instance_at, paths_of, tree_of}
use Rattle.cx_meaning.specs.Active as acting
use Rattle.cx_meaning.specs.Active.{nothing}
use Rattle.cx_meaning.specs.Sights.{Held, seen}
use Rattle.cx_state.specs.Tables.{IsNumber}
use Rattle.cx_state.specs.States.{PlainInstance, inputs_held, IsStateOf, StandsFor, under_path}
use Rattle.cx_state.specs.ReadStates.{state_in}
use Rattle.cx_turns.specs.Sights.{look_in}
use Rattle.cx_eval_network.specs.Networks.{path_at}
use Rattle.std.proofs.lemmas.Option.{slice_get-get_or}

-- the path of an instance is the one with its number
path_is : (d : PlainDesign) (n : ℕ) (path : Path) → n < length (paths_of (tree_of d)) → IsNumber d n path → path_at d n ≡ path
path_is d n path lt number = let e : Some (path_at d n) ≡ Some path = sym (slice_get-get_or (paths_of (tree_of d)) n [] lt) ∙ number in cc

-- the look of the state that is read off the rows is that of each state that they stand for
pub look_seen : (d : PlainDesign) (rows : List PlainInstance) (n : ℕ) → n < length (paths_of (tree_of d)) → IsStateOf d rows → StandsFor (tree_of d) rows (state_in (tree_of d) rows)
    → ((s t : State) (path : Path) (held : Held) (act : acting.Active) (p : PortRef) → StandsFor (tree_of d) rows s → StandsFor (tree_of d) rows t → IsNumber d n path
    → seen (instance_at (tree_of d) path) held act (under_path path s) p ≡ seen (instance_at (tree_of d) path) held act (under_path path t) p)
    → (path : Path) (s : State) → IsNumber d n path → StandsFor (tree_of d) rows s → look_in d rows n ≡ seen (instance_at (tree_of d) path) (inputs_held rows n) nothing (under_path path s)
look_seen d rows n lt fits read alike path s number stands =
    ap (λ (q : Path). seen (instance_at (tree_of d) q) (inputs_held rows n) nothing (under_path q (state_in (tree_of d) rows))) (path_is d n path lt number)
    ∙ fun_ext (λ p. alike (state_in (tree_of d) rows) s path (inputs_held rows n) nothing p read stands number)
