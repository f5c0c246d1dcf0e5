-- The goes of an island are those of its groups: what is active in one of its cycles.
use Rattle.std.proofs.Common.{◌≡◌, ◌⊎◌, inl, inr, ℕ, suc, ◌+◌, ◌-◌, ◌%◌, nat_eq, nat_lt, Bool, true, false, if◌then◌else◌, List, [], ◌∷◌, ◌++◌, Some, is_some, refl, sym, ap, subst}
use Rattle.cx_text.proofs.MemberLaws.{in_either, in_left, in_right}
use Rattle.cx_meaning.specs.declared.kinds.GroupKind.{GroupKind}
use Rattle.cx_meaning.specs.declared.kinds.GroupKind.TheVariants as kinds
use Rattle.cx_meaning.specs.Designs.{PlainComponent, PlainForm, Empty, Enable, Seq, Par, If, While, Repeat, StaticSeq, StaticPar, StaticIf, StaticRepeat, Timed, PlainStatement, Placed, PlainStatements, no_statements, a_statement, group_at}
use Rattle.cx_meaning.specs.Instances as instances
use Rattle.cx_meaning.specs.Instances.{Cells}
use Rattle.cx_meaning.specs.Islands.{length_of}
use Rattle.cx_meaning.specs.Active.{Entry, offset_in}
use Rattle.cx_meaning.specs.Control.{groups_in, groups_of, groups_in_all}
use Rattle.cx_text.specs.Members.{In}
use Rattle.cx_laws.specs.Positions.{entry_at, no_entry}
use Rattle.cx_laws.specs.Samples.{Samples, ifs_of, form_by, statement_by, while_by, parts_by, arms_by, active_by}
use Rattle.cx_lockstep.specs.Worlds.{Machine}
use Rattle.cx_lockstep.specs.Statements.{LeafMachines}
use Rattle.cx_control.specs.Spots.{Kept}
use Rattle.cx_control.specs.Leaves.{InIsland, Cycle, LastTurn, sampled_now, kind_machine, leaf_machines}
use Rattle.cx_control.specs.Controls.{coded_below}
use Rattle.cx_net.specs.NetMeaning.{truth_bit}
use Rattle.cx_wiring_cycles.specs.Shown.{Going, told}
use Rattle.cx_wiring_cycles.proofs.BegunSamples.{in_then}

-- the groups of entries go
abbrev pub goings : List Entry → List Going
goings [] = []
goings (e ∷ rest) = record { group = e.group; goes = true } ∷ goings rest

-- WHICH GO, by what is active
pub goes_told : (os : List Entry) (g : ℕ) → told g (Some (truth_bit false)) (goings os) ≡ Some (truth_bit (is_some (offset_in os g)))
goes_told [] g = refl
goes_told (e ∷ os) g = by (nat_eq e.group g) (goes_told os g)
  where
    by : (b : Bool) → told g (Some (truth_bit false)) (goings os) ≡ Some (truth_bit (is_some (offset_in os g)))
        → (if b then Some (truth_bit true) else told g (Some (truth_bit false)) (goings os)) ≡ Some (truth_bit (is_some (if b then Some e.offset else offset_in os g)))
    by true later = refl
    by false later = later

chosen : {A : Type 0} (b : Bool) (xs ys : List A) (x : A) → In (if b then xs else ys) x → In xs x ⊎ In ys x
chosen true xs ys x i = inl i
chosen false xs ys x i = inr i

-- WHAT IS ACTIVE are groups of the form
module _ (part : PlainComponent) (kept : Samples) where
  branch_owns : (a b : PlainStatement) (x : Entry) → ((In (groups_of a) x.group) ⊎ (In (groups_of b) x.group)) → In (groups_of a ++ groups_of b) x.group
  branch_owns a b x (inl i) = in_left (groups_of a) (groups_of b) x.group i
  branch_owns a b x (inr i) = in_right (groups_of a) (groups_of b) x.group i

  mutual
    form_owns : (form : PlainForm) (n j : ℕ) (x : Entry) → In (form_by part kept entry_at no_entry form n j) x → In (groups_in form) x.group
    form_owns Empty n j x i = absurd i
    form_owns (Enable g) n j x (inl e) = inl (ap (λ (y : Entry). y.group) e)
    form_owns (Enable g) n j x (inr i) = absurd i
    form_owns (Seq parts) n j x i = absurd i
    form_owns (Par arms) n j x i = absurd i
    form_owns (If test comb a b) n j x i = absurd i
    form_owns (While test comb a) n j x i = absurd i
    form_owns (Repeat count a) n j x i = absurd i
    form_owns (StaticSeq written parts) n j x i = parts_own parts n j x i
    form_owns (StaticPar written arms) n j x i = arms_own arms n j x i
    form_owns (StaticIf written test a b) n j x i =
        branch_owns a b x (of_branch (chosen (kept n) (while_by part kept entry_at no_entry a (suc n) j) (while_by part kept entry_at no_entry b (suc n + ifs_of a) j) x i) (while_owns a (suc n) j x) (while_owns b (suc n + ifs_of a) j x))
      where
        of_branch : In (while_by part kept entry_at no_entry a (suc n) j) x ⊎ In (while_by part kept entry_at no_entry b (suc n + ifs_of a) j) x
            → (In (while_by part kept entry_at no_entry a (suc n) j) x → In (groups_of a) x.group) → (In (while_by part kept entry_at no_entry b (suc n + ifs_of a) j) x → In (groups_of b) x.group)
            → (In (groups_of a) x.group) ⊎ (In (groups_of b) x.group)
        of_branch (inl k) f h = inl (f k)
        of_branch (inr k) f h = inr (h k)
    form_owns (StaticRepeat written count a) n j x i = statement_owns a n (j % length_of part a) x i
    form_owns (Timed k) n j x i = absurd i

    statement_owns : (s : PlainStatement) (n j : ℕ) (x : Entry) → In (statement_by part kept entry_at no_entry s n j) x → In (groups_of s) x.group
    statement_owns (Placed form place) n j x i = form_owns form n j x i

    while_owns : (s : PlainStatement) (n j : ℕ) (x : Entry) → In (while_by part kept entry_at no_entry s n j) x → In (groups_of s) x.group
    while_owns (Placed form place) n j x i = form_owns form n j x (in_then (nat_lt j (length_of part (Placed form place))) (form_by part kept entry_at no_entry form n j) x i)

    parts_own : (ss : PlainStatements) (n j : ℕ) (x : Entry) → In (parts_by part kept entry_at no_entry ss n j) x → In (groups_in_all ss) x.group
    parts_own no_statements n j x i = absurd i
    parts_own (a_statement s ss) n j x i =
        by (chosen (nat_lt j (length_of part s)) (statement_by part kept entry_at no_entry s n j) (parts_by part kept entry_at no_entry ss (n + ifs_of s) (j - length_of part s)) x i)
        (statement_owns s n j x) (parts_own ss (n + ifs_of s) (j - length_of part s) x)
      where
        by : In (statement_by part kept entry_at no_entry s n j) x ⊎ In (parts_by part kept entry_at no_entry ss (n + ifs_of s) (j - length_of part s)) x
            → (In (statement_by part kept entry_at no_entry s n j) x → In (groups_of s) x.group) → (In (parts_by part kept entry_at no_entry ss (n + ifs_of s) (j - length_of part s)) x → In (groups_in_all ss) x.group)
            → In (groups_of s ++ groups_in_all ss) x.group
        by (inl k) f h = in_left (groups_of s) (groups_in_all ss) x.group (f k)
        by (inr k) f h = in_right (groups_of s) (groups_in_all ss) x.group (h k)

    arms_own : (ss : PlainStatements) (n j : ℕ) (x : Entry) → In (arms_by part kept entry_at no_entry ss n j) x → In (groups_in_all ss) x.group
    arms_own no_statements n j x i = absurd i
    arms_own (a_statement s ss) n j x i =
        by (in_either (while_by part kept entry_at no_entry s n j) (arms_by part kept entry_at no_entry ss (n + ifs_of s) j) x i) (while_owns s n j x) (arms_own ss (n + ifs_of s) j x)
      where
        by : In (while_by part kept entry_at no_entry s n j) x ⊎ In (arms_by part kept entry_at no_entry ss (n + ifs_of s) j) x
            → (In (while_by part kept entry_at no_entry s n j) x → In (groups_of s) x.group) → (In (arms_by part kept entry_at no_entry ss (n + ifs_of s) j) x → In (groups_in_all ss) x.group)
            → In (groups_of s ++ groups_in_all ss) x.group
        by (inl k) f h = in_left (groups_of s) (groups_in_all ss) x.group (f k)
        by (inr k) f h = in_right (groups_of s) (groups_in_all ss) x.group (h k)

  pub active_owns : (t : ℕ) (form : PlainForm) (x : Entry) → In (active_by part kept t form) x → In (groups_in form) x.group
  active_owns t form x i = form_owns form 0 t x i

goings_own : (gs : List ℕ) (os : List Entry) → ((x : Entry) → In os x → In gs x.group) → (x : Going) → In (goings os) x → In gs x.group
goings_own gs [] each x i = absurd i
goings_own gs (e ∷ os) each x (inl same) = subst (In gs) (ap (λ (y : Going). y.group) same) (each e (inl refl))
goings_own gs (e ∷ os) each x (inr i) = goings_own gs os (λ y j. each y (inr j)) x i

-- OF A NODE: what goes of an island at a place
module _ (part : PlainComponent) (cells : Cells) (s : Kept) where
  abbrev pub goes_at : PlainForm → InIsland → List Going
  goes_at form (Cycle t kept) = goings (active_by part (sampled_now (instances.Node part cells) form t kept s) t form)
  goes_at form LastTurn = []

  abbrev pub goes_of_kind : (g : ℕ) (kind : GroupKind) → Machine.Place (kind_machine (instances.Node part cells) (coded_below cells) g kind) → List Going
  goes_of_kind g kinds.Plain stand = []
  goes_of_kind g kinds.Comb stand = []
  goes_of_kind g (kinds.Timed n) stand = goes_at (Enable g) stand

  pub static_own : (form : PlainForm) (stand : InIsland) (x : Going) → In (goes_at form stand) x → In (groups_in form) x.group
  static_own form (Cycle t kept) x i = goings_own (groups_in form) (active_by part (sampled_now (instances.Node part cells) form t kept s) t form) (active_owns part (sampled_now (instances.Node part cells) form t kept s) t form) x i
  static_own form LastTurn x i = absurd i

  kind_own : (g : ℕ) (kind : GroupKind) (stand : Machine.Place (kind_machine (instances.Node part cells) (coded_below cells) g kind)) (x : Going) → In (goes_of_kind g kind stand) x → x.group ≡ g
  kind_own g kinds.Plain stand x i = absurd i
  kind_own g kinds.Comb stand x i = absurd i
  kind_own g (kinds.Timed n) stand x i = by (static_own (Enable g) stand x i)
    where
      by : In (g ∷ []) x.group → x.group ≡ g
      by (inl e) = sym e
      by (inr j) = absurd j

  -- of an enable
  abbrev pub goes_of_enable : (g : ℕ) → Machine.Place (LeafMachines.enable (leaf_machines (instances.Node part cells) (coded_below cells)) g) → List Going
  goes_of_enable g stand = goes_of_kind g (group_at part g).kind stand

  pub timed_own : (g : ℕ) (stand : Machine.Place (LeafMachines.enable (leaf_machines (instances.Node part cells) (coded_below cells)) g)) (x : Going) → In (goes_of_enable g stand) x → x.group ≡ g
  timed_own g stand x i = kind_own g (group_at part g).kind stand x i
