-- Facts of what `States` defines, that several crates above take.
use Rattle.std.proofs.Common.{◌≡◌, [], ◌∷◌, refl, suc, List, Option, length, ap, ℕ, ◌<◌, get_or, map, sym, ◌∙◌, subst}
use Rattle.cx_meaning.specs.Instances.{Path, State}
use Rattle.cx_state.specs.States.{put_path, HoldCells, instance_state, no_instance, plain_instance}
use Rattle.cx_prim.specs.CellStates.{CellState}
use Rattle.cx_meaning.specs.Designs.{PlainCell}
use Rattle.std.proofs.lemmas.List.{get_or-map, length-map}
use Rattle.cx_state.specs.declared.states.InstanceState.{InstanceState}

pub put_empty : (path : Path) (own s : State) → (path ≡ [] → own [] ≡ s []) → put_path path own s [] ≡ s []
put_empty [] own s h = h refl
put_empty (x ∷ path) own s h = refl

pub held_long : (cells : List PlainCell) (xs : List (Option CellState)) → HoldCells cells xs → length xs ≡ length cells
held_long [] [] h = refl
held_long [] (x ∷ xs) h = absurd h
held_long (cell ∷ cells) [] h = absurd h
held_long (cell ∷ cells) (x ∷ xs) h = ap suc (held_long cells xs h.1)

pub row_is : (items : List InstanceState) (n : ℕ) (r : InstanceState) → n < length (map plain_instance items) → r ≡ get_or items n r → instance_state (map plain_instance items) n ≡ plain_instance r
row_is items n r lt e =
    let inside : n < length items = subst (λ k. n < k) (length-map items plain_instance) lt in
    get_or-map plain_instance items n r no_instance inside ∙ ap plain_instance (sym e)
