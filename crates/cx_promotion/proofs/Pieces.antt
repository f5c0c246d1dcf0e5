-- A PIECE: enables of groups that are in step, one after the other from a settled state, and the static seq of them.
use Rattle.std.specs.Prelude.{◌≡◌, ℕ, ◌+◌, List, [], ◌∷◌, ◌++◌, Option, Some, None, refl}
use Rattle.std.proofs.Common.{ap, ◌∙◌}
use Rattle.cx_text.specs.declared.places.Place.{Place}
use Rattle.cx_meaning.specs.Designs.{PlainComponent, PlainStatements, no_statements, a_statement, Placed, Enable, StaticSeq}
use Rattle.cx_meaning.specs.Instances.{Instance, State, idle, part_of}
use Rattle.cx_meaning.specs.Sights.{Held}
use Rattle.cx_meaning.specs.Islands.{Occurrence, Runs, occurrence, or_zero, group_length, seq_flat, sum_length, island, island_from, no_history}
use Rattle.cx_promotion.proofs.Chains.{total, chain}
use Rattle.cx_promotion.proofs.Runs.{runs_of, one_cycle, island_is_chain, runs_are}

module _ (part : PlainComponent) (len : ℕ → ℕ) where
  -- enables of these groups, which are static and take so many cycles
  pub data RunOf : List ℕ → PlainStatements → Type 0 where
    no_more : RunOf [] no_statements
    one_more : {g : ℕ} {gs : List ℕ} {ss : PlainStatements} (p : Place) → group_length part g ≡ Some (len g) → RunOf gs ss → RunOf (g ∷ gs) (a_statement (Placed (Enable g) p) ss)

  pub flat_is : {gs : List ℕ} {ss : PlainStatements} → RunOf gs ss → (x : ℕ) → seq_flat part ss x [] ≡ runs_of len gs x
  flat_is no_more x = refl
  flat_is (one_more {g = g} {gs = gs} {ss = ss} p e run) x =
      ap (λ (o : Option ℕ). occurrence g x [] o ++ seq_flat part ss (x + or_zero o) []) e
      ∙ ap (λ (rest : List Occurrence). Runs g x (x + len g) [] ∷ rest) (flat_is run (x + len g))

  pub length_is : {gs : List ℕ} {ss : PlainStatements} → RunOf gs ss → sum_length part ss ≡ total len gs
  length_is no_more = refl
  length_is (one_more {g = g} {gs = gs} {ss = ss} p e run) = ap (λ (o : Option ℕ). or_zero o + sum_length part ss) e ∙ ap (λ n. len g + n) (length_is run)

module _ (i : Instance) (held : Held) (len : ℕ → ℕ) where
  -- THE ISLAND of such enables is the chain of their cycles
  pub static_seq_is : {gs : List ℕ} {ss : PlainStatements} → RunOf (part_of i) len gs ss → (s : State) (n : ℕ)
      → island i held (StaticSeq None ss) s n ≡ chain (idle i) (one_cycle len i held) len gs s n
  static_seq_is {gs = gs} {ss = ss} run s n =
      ap (λ (list : List Occurrence). island_from i held list (sum_length (part_of i) ss) 0 no_history s n) (flat_is (part_of i) len run 0)
      ∙ ap (λ k. island_from i held (runs_of len gs 0) k 0 no_history s n) (length_is (part_of i) len run)
      ∙ island_is_chain len i held (runs_of len gs 0) 0 gs (runs_are len i held gs 0) no_history s n
