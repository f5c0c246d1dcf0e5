-- External memories, and the arrays that they are.
use Rattle.std.specs.Prelude.{◌≡◌, ℕ, ◌≤◌, List, [], ◌∷◌, Some, slice_get}
use Rattle.cx_text.specs.Loading.{word_count}
use Rattle.cx_vtree.specs.Plain.{PlainExternal}
use Rattle.cx_vtree.specs.InstanceTree.{Placed, decls_at, arrays_at}
use Rattle.cx_vtree.specs.Edges.{array_size}
use Rattle.cx_vtree.specs.SimRun.{instance_named, first_array}
use Rattle.cx_vtree.specs.Sound.{arrays_in}
use Rattle.cx_vlaws.specs.Origins.{width_at}

-- an external memory is the only array of an instance of `main`, with as many words as its sizes say
pub record IsMemory (tree : List Placed) (e : PlainExternal) : Type 0 where
  pub number : ℕ
  pub found : instance_named tree 0 e.instance ≡ Some number
  pub place : Placed
  pub at : slice_get tree number ≡ Some place
  pub name : place.name ≡ e.instance
  pub holder : place.holder ≡ 0
  pub array : arrays_in (decls_at tree number) ≡ (e.width, word_count e.sizes) ∷ []
  pub width : e.width ≤ 64
  -- the same by the array's name
  pub only : arrays_at tree number ≡ first_array (decls_at tree number) ∷ []
  pub size : array_size (decls_at tree number) (first_array (decls_at tree number)) ≡ word_count e.sizes
  pub wide : width_at tree number (first_array (decls_at tree number)) ≡ e.width
