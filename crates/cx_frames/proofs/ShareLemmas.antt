-- In an accepted design no arm reads a cell that another arm of its par drives.
use Rattle.std.proofs.Common.{◌≡◌, ℕ, zero, suc, ◌<◌, inl, inr, ⊎_elim, Bool, true, false, ◌||◌, Some, List, [], ◌∷◌, ◌++◌, length, refl, sym, subst, arith}
use Rattle.std.specs.Prelude.{slice_get}
use Rattle.std.proofs.lemmas.Bool.{cases_lt}
use Rattle.std.proofs.lemmas.List.{get_or_past}
use Rattle.cx_meaning.specs.Designs.{PlainComponent, PlainDesign, component_at, no_component, PlainStatement}
use Rattle.cx_meaning.specs.Instances.{Instance, part_of, tree_of, Path, instance_at}
use Rattle.cx_text.specs.Members.{In}
use Rattle.cx_meaning.specs.Control.{drives}
use Rattle.cx_rules.specs.Items.{Visited, statements_in}
use Rattle.cx_rules.specs.Footprints.{Reads}
use Rattle.cx_rules.specs.RaceRule.{Arms, arms_of, IsShared}
use Rattle.cx_rules.specs.Accepted.{IsAccepted}
use Rattle.cx_laws.proofs.RaceLemmas.{unshared}
use Rattle.cx_rules.proofs.CircleLemmas.{Reached, a_tree, no_tree, reached}
use Rattle.cx_rules.proofs.InvokesLemmas.{drives_more, reads_more}
use Rattle.cx_frames.specs.Arms.{all_drive}
use Rattle.cx_meaning.proofs.DesignsLemmas.{same_part}

-- a component that is not there has no arms
bare_unshared : (v : Visited) (c : ℕ) → In (statements_in no_component) v → IsShared no_component (arms_of v.form) c → ⊥
bare_unshared v c (inl e) shared = no_arms (subst (λ x. IsShared no_component (arms_of x.form) c) (sym e) shared).0
  where
    no_arms : Arms [] → ⊥
    no_arms two = none (two.first_stands)
      where
        none : slice_get {X = PlainStatement} [] two.one ≡ Some two.first → ⊥
        none e = cc
bare_unshared v c (inr i) shared = absurd i

module _ (d : PlainDesign) (accepted : IsAccepted d) where
  at_component : (k : ℕ) (v : Visited) → In (statements_in (component_at d k)) v → (c : ℕ) → IsShared (component_at d k) (arms_of v.form) c → ⊥
  at_component k v i c shared =
      ⊎_elim
      (λ l. unshared d accepted k l v i c shared)
      (λ l. let none : component_at d k ≡ no_component = get_or_past d.components k no_component l in
      bare_unshared v c (subst (λ x. In (statements_in x) v) none i) (subst (λ x. IsShared x (arms_of v.form) c) none shared))
      (cases_lt k (length d.components))

  at_reached : {i : Instance} → Reached d i → (v : Visited) → In (statements_in (part_of i)) v → (c : ℕ) → IsShared (part_of i) (arms_of v.form) c → ⊥
  at_reached (a_tree m k) v i c shared =
      at_component k v (subst (λ x. In (statements_in x) v) (same_part d m k) i) c (subst (λ x. IsShared x (arms_of v.form) c) (same_part d m k) shared)
  at_reached no_tree v i c shared = bare_unshared v c i shared

  pub none_shared : (path : Path) (v : Visited) → In (statements_in (part_of (instance_at (tree_of d) path))) v → (c : ℕ) → IsShared (part_of (instance_at (tree_of d) path)) (arms_of v.form) c → ⊥
  none_shared path v i c shared = at_reached (reached d path (length d.components) d.main) v i c shared

-- an arm among those that are done, by its number
record Driving (part : PlainComponent) (done : List PlainStatement) (c : ℕ) : Type 0 where
  number : ℕ
  below : number < length done
  arm : PlainStatement
  stands : slice_get done number ≡ Some arm
  drives : drives part arm c ≡ true

driving : (part : PlainComponent) (done : List PlainStatement) (c : ℕ) → all_drive part done c ≡ true → Driving part done c
driving part [] c e = absurd (cc)
driving part (s ∷ ss) c e = go (drives part s c) refl e (driving part ss c)
  where
    go : (b : Bool) → drives part s c ≡ b → (b || all_drive part ss c) ≡ true → (all_drive part ss c ≡ true → Driving part ss c) → Driving part (s ∷ ss) c
    go true here e rest = record { number = 0; below = omega arith; arm = s; stands = refl; drives = here }
    go false here e rest = let r = rest e in let l : r.number < length ss = r.below in record { number = suc r.number; below = omega arith; arm = r.arm; stands = r.stands; drives = r.drives }

in_front : (done rest : List PlainStatement) (n : ℕ) (s : PlainStatement) → slice_get done n ≡ Some s → slice_get (done ++ rest) n ≡ Some s
in_front [] rest n s e = absurd (none e)
  where
    none : slice_get {X = PlainStatement} [] n ≡ Some s → ⊥
    none e = cc
in_front (x ∷ done) rest zero s e = e
in_front (x ∷ done) rest (suc n) s e = in_front done rest n s e

right_behind : (done rest : List PlainStatement) (s : PlainStatement) → slice_get (done ++ (s ∷ rest)) (length done) ≡ Some s
right_behind [] rest s = refl
right_behind (x ∷ done) rest s = right_behind done rest s

less_differs : (m n : ℕ) → m < n → m ≡ n → ⊥
less_differs m n l e = omega arith

-- so an arm reads nothing that those before it drive
pub apart_from : (d : PlainDesign) → IsAccepted d → (path : Path) (v : Visited) (done later : List PlainStatement) (arm : PlainStatement)
    → In (statements_in (part_of (instance_at (tree_of d) path))) v → arms_of v.form ≡ done ++ (arm ∷ later)
    → (c : ℕ) → Reads (part_of (instance_at (tree_of d) path)) arm c → all_drive (part_of (instance_at (tree_of d) path)) done c ≡ true → ⊥
apart_from d accepted path v done later arm stands arms c reads drives =
    let r = driving (part_of (instance_at (tree_of d) path)) done c drives in
    let two : Arms (done ++ (arm ∷ later)) = record {
      one = r.number;
      other = length done;
      differ = less_differs r.number (length done) r.below;
      first = r.arm;
      second = arm;
      first_stands = in_front done (arm ∷ later) r.number r.arm r.stands;
      second_stands = right_behind done later arm;
    } in
    let part = part_of (instance_at (tree_of d) path) in
    none_shared d accepted path v stands c (subst (λ x. IsShared part x c) (sym arms) (two, drives_more part r.arm c r.drives, reads_more part arm c reads))
