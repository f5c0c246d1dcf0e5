-- What a port of the asked instance is seen as, in every state that the rows stand for.
use Rattle.std.proofs.Common.{◌≡◌, ℕ, List, [], sym, ap, ◌∙◌}
use Rattle.std.specs.Prelude.{if◌then◌else◌}
use Rattle.cx_meaning.specs.declared.ports.PortRef.{PortRef}
use Rattle.cx_meaning.specs.declared.sights.Seen.{Seen}
use Rattle.cx_meaning.specs.Active.{nothing}
use Rattle.cx_meaning.specs.Designs.{PlainDesign}
use Rattle.cx_meaning.specs.Instances.{Path, State, instance_at, paths_of, tree_of}
use Rattle.cx_meaning.specs.Sights.{seen, unheld}
use Rattle.cx_design.specs.declared.actives.Active.{Active}
use Rattle.cx_design.specs.PlainActives.{plain_active}
use Rattle.cx_state.specs.declared.tables.InstanceRow.{InstanceRow}
use Rattle.cx_state.specs.Tables.{IsNumber, IsTable}
use Rattle.cx_state.specs.States.{IsStateOf, PlainInstance, StandsFor, inputs_held, under_path}
use Rattle.cx_state.specs.ReadStates.{state_in}
use Rattle.cx_state.proofs.AlikeLemmas.{alike_at, seen_alike}
use Rattle.cx_state.proofs.ReadLemmas.{rows_read}
use Rattle.cx_state.proofs.StandLemmas.{stand_alike}
use Rattle.cx_eval_network.specs.Networks.{Asked, path_at, seen_at}
use Rattle.cx_eval_network.specs.Asked.{asked}
use Rattle.cx_eval.specs.Evaluated.{IsSeen}
use Rattle.cx_text.proofs.NumberLaws.{equal}
use Rattle.std.proofs.lemmas.Option.{get_or_from_slice_get}

module _ (d : PlainDesign) (rows : List InstanceRow) (children : List ℕ) (state : List PlainInstance) (n : ℕ) (active : Active) where
  abbrev a : Asked
  a = asked d rows children state n active

  abbrev read : State
  read = state_in (tree_of d) state

  -- by the path of the instance
  own_seen : (path : Path) (p : PortRef) → IsNumber d n path
      → seen_at a n p ≡ seen (instance_at (tree_of d) path) (inputs_held state n) (plain_active (instance_at (tree_of d) path) active) (under_path path read) p
  own_seen path p number =
      ap (λ b. seen (instance_at (tree_of d) (path_at d n)) (if b then inputs_held state n else unheld) (if b then a.active else nothing) (under_path (path_at d n) read) p) (equal n)
      ∙ ap (λ q. seen (instance_at (tree_of d) q) (inputs_held state n) (plain_active (instance_at (tree_of d) q) active) (under_path q read) p) (get_or_from_slice_get (paths_of (tree_of d)) n path [] number)

  pub look_is : IsTable d rows children → IsStateOf d state → (path : Path) (s : State) → IsNumber d n path → StandsFor (tree_of d) state s → (p : PortRef)
      → seen (instance_at (tree_of d) path) (inputs_held state n) (plain_active (instance_at (tree_of d) path) active) (under_path path s) p ≡ seen_at a n p
  look_is table fits path s number stands p =
      seen_alike (instance_at (tree_of d) path) (inputs_held state n) (plain_active (instance_at (tree_of d) path) active) (under_path path s) (under_path path read)
      (alike_at (tree_of d) path s read (stand_alike d state s read fits stands (rows_read d rows children state table fits))) p
      ∙ sym (own_seen path p number)

  pub is_seen : IsTable d rows children → IsStateOf d state → (p : PortRef) (x : Seen) → x ≡ seen_at a n p → IsSeen d state n active p x
  is_seen table fits p x e path s number stands = e ∙ sym (look_is table fits path s number stands p)
