-- An arm of a par runs from the state that earlier arms left as from the first one: it reads no cell that they drive.
use Rattle.std.proofs.Common.{◌≡◌, ℕ, Bool, true, false, List, ◌∷◌, ◌++◌, refl, sym, ap, ◌∙◌}
use Rattle.cx_text.specs.Members.{In}
use Rattle.cx_meaning.specs.Designs.{PlainDesign, Par, PlainStatement, Placed, PlainStatements, list_of}
use Rattle.cx_meaning.specs.Instances.{part_of, tree_of, State, Path, instance_at}
use Rattle.cx_meaning.specs.Sights.{Held}
use Rattle.cx_meaning.specs.Running.{run_statement}
use Rattle.cx_rules.specs.Footprints.{Reads}
use Rattle.cx_rules.specs.Items.{Visited, statements_in}
use Rattle.cx_rules.specs.RaceRule.{arms_of}
use Rattle.cx_rules.specs.Accepted.{IsAccepted}
use Rattle.cx_frames.specs.Agreeing.{Agree, Alike}
use Rattle.cx_frames.specs.Arms.{all_drive}
use Rattle.cx_frames.proofs.ArmLemmas.{arm_stands}
use Rattle.cx_frames.proofs.ShareLemmas.{apart_from}

module _ (d : PlainDesign) (path : Path) (held : Held) (accepted : IsAccepted d)
    (agree : (w : Visited) (a b : State) (m : ℕ) → In (statements_in (part_of (instance_at (tree_of d) path))) w → Agree (Reads (part_of (instance_at (tree_of d) path)) (Placed w.form w.place)) a b
    → Alike (Reads (part_of (instance_at (tree_of d) path)) (Placed w.form w.place)) (run_statement (instance_at (tree_of d) path) held (Placed w.form w.place) a m) (run_statement (instance_at (tree_of d) path) held (Placed w.form w.place) b m))
    (v : Visited) (stands : In (statements_in (part_of (instance_at (tree_of d) path))) v) where
  pub apart_alike : (arms : PlainStatements) (done later : List PlainStatement) (arm : PlainStatement) (s cur : State) (n : ℕ) → v.form ≡ Par arms → list_of arms ≡ done ++ (arm ∷ later)
      → ((c : ℕ) (below : Path) → all_drive (part_of (instance_at (tree_of d) path)) done c ≡ false → cur (c ∷ below) ≡ s (c ∷ below))
      → Alike (Reads (part_of (instance_at (tree_of d) path)) arm) (run_statement (instance_at (tree_of d) path) held arm s n) (run_statement (instance_at (tree_of d) path) held arm cur n)
  apart_alike arms done later (Placed own place) s cur n form split same =
      agree _ s cur n (arm_stands (part_of (instance_at (tree_of d) path)) v arms done later own place stands form split) agrees
    where
      agrees : Agree (Reads (part_of (instance_at (tree_of d) path)) (Placed own place)) s cur
      agrees c below reads = one (all_drive (part_of (instance_at (tree_of d) path)) done c) refl
        where
          one : (b : Bool) → all_drive (part_of (instance_at (tree_of d) path)) done c ≡ b → s (c ∷ below) ≡ cur (c ∷ below)
          one true e = absurd (apart_from d accepted path v done later (Placed own place) stands (ap arms_of form ∙ split) c reads e)
          one false e = sym (same c below e)
