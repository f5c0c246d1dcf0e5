-- The cells that the comb group of a test drives.
use Rattle.std.proofs.Common.{◌≡◌, ℕ, Bool, true, false, ◌||◌, List, [], ◌∷◌, Some, None, refl, sym, ◌∙◌, subst}
use Rattle.std.proofs.Math.Path.{fun_ext}
use Rattle.cx_meaning.specs.Designs.{PlainDesign}
use Rattle.cx_meaning.specs.Instances.{Instance, Path, State, part_of, instance_at, tree_of}
use Rattle.cx_meaning.specs.Control.{group_drives}
use Rattle.cx_state.specs.States.{PlainInstance, StandsFor, under_path, put_path}
use Rattle.cx_turns.specs.Groups.{ListDriven, ListGroup}
use Rattle.cx_turns.proofs.PathLemmas.{put_same}
use Rattle.cx_orders.specs.Leaves.{rested, test_drives}
use Rattle.cx_weave.specs.Strides.{HasRested}

or_none : (b : Bool) → b ≡ (b || false)
or_none true = refl
or_none false = refl

pub lists_comb : (d : PlainDesign) (n g : ℕ) (cells : List ℕ) → ListGroup d n g cells → ListDriven d n cells (λ part. test_drives part (Some g))
lists_comb d n g cells lists path c number = lists path c number ∙ or_none (group_drives (part_of (instance_at (tree_of d) path)) g c)

none_driven : (i : Instance) (s : State) → rested i (test_drives (part_of i) None) s ≡ s
none_driven i s = fun_ext at
  where
    at : (path : Path) → rested i (test_drives (part_of i) None) s path ≡ s path
    at [] = refl
    at (c ∷ below) = refl

pub none_rested : (d : PlainDesign) (rows : List PlainInstance) (n : ℕ) → HasRested d rows rows n (λ part. test_drives part None)
none_rested d rows n = record {
  rests = λ path s number stands.
      let i = instance_at (tree_of d) path in
      subst (λ (x : State). StandsFor (tree_of d) rows (put_path path x s)) (sym (none_driven i (under_path path s))) (subst (λ (x : State). StandsFor (tree_of d) rows x) (sym (put_same path s)) stands);
  held = λ m input. refl;
}
