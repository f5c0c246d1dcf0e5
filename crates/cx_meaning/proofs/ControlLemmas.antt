-- What runs over any leaves keep, where the leaves keep it.
use Rattle.std.proofs.Common.{refl, ℕ, zero, suc, List, Some, [], ap, sym, ◌∙◌, ◌∷◌, ◌≡◌}
use Rattle.cx_meaning.specs.Designs.{PlainForm, Empty, Enable, Seq, Par, If, While, Repeat, StaticSeq, StaticPar, StaticIf, StaticRepeat, Timed, PlainStatement, Placed, PlainStatements, no_statements, a_statement, PlainAssign}
use Rattle.cx_meaning.specs.Answers.{rounds}
use Rattle.cx_meaning.specs.Control as control
use Rattle.cx_meaning.specs.Control.{run_form, run, run_parts, run_arms}
use Rattle.cx_meaning.specs.Budgets.{IsSteady, TakesTurns, Leaves}
use Rattle.cx_meaning.proofs.AnswersLemmas.{steady_then, steady_stay, steady_idle, steady_test, steady_loop, steady_rounds, grows_both, takes_both, takes_then, takes_idle, takes_test, takes_loop, leaves_then, leaves_idle, leaves_test, leaves_loop, leaves_rounds, leaves_both}
use Rattle.cx_meaning.specs.Instances.{At, Cells, Instance, Nothing, OfInstance, OfRow, cell_at}
use Rattle.cx_meaning.specs.Calls.{called_in, called_by, if_instance}
use Rattle.cx_meaning.specs.declared.ports.PortRef.{PortRef}
use Rattle.cx_meaning.specs.declared.ports.PortRef.TheVariants as ports
use Rattle.cx_text.proofs.OptionLaws.{none_some, some_is}

module _ {S F : Type 0} (L : control.Leaves S F) where
  -- the leaves are steady
  pub record LeavesAreSteady : Type 0 where
    pub enable : (g : ℕ) → IsSteady (L.enable g)
    pub island : (form : PlainForm) → IsSteady (L.island form)
    pub timed : (k : ℕ) → IsSteady (L.timed k)

  module _ (leaves : LeavesAreSteady) where
    mutual
      steady_form : (form : PlainForm) → IsSteady (run_form L form)
      steady_form Empty s n m le = steady_idle S F L.rest s n m le
      steady_form (Enable g) s n m le = leaves.enable g s n m le
      steady_form (Seq no_statements) s n m le = steady_idle S F L.rest s n m le
      steady_form (Seq (a_statement first later)) s n m le = steady_then (run L first) (run_parts L later) (steady_run first) (steady_parts later) s n m le
      steady_form (Par no_statements) s n m le = steady_idle S F L.rest s n m le
      steady_form (Par (a_statement first later)) s n m le = grows_both (L.merged (L.driven first)) n _ _ _ _ (steady_run first s n m le) (steady_arms later s n m le)
      steady_form (If test comb a b) s n m le = steady_test L.rest (L.test test.port comb) (run L a) (run L b) (steady_run a) (steady_run b) s n m le
      steady_form (While test comb a) s n m le = steady_loop L.rest (L.test test.port comb) (run L a) (steady_run a) s n m le
      steady_form (Repeat zero a) s n m le = steady_idle S F L.rest s n m le
      steady_form (Repeat (suc k) a) s n m le = steady_rounds (suc k) (run L a) (steady_run a) s n m le
      steady_form (StaticSeq length parts) s n m le = leaves.island (StaticSeq length parts) s n m le
      steady_form (StaticPar length arms) s n m le = leaves.island (StaticPar length arms) s n m le
      steady_form (StaticIf length test a b) s n m le = leaves.island (StaticIf length test a b) s n m le
      steady_form (StaticRepeat length count a) s n m le = leaves.island (StaticRepeat length count a) s n m le
      steady_form (Timed k) s n m le = leaves.timed k s n m le

      pub steady_run : (statement : PlainStatement) → IsSteady (run L statement)
      steady_run (Placed form place) s n m le = steady_form form s n m le

      steady_parts : (parts : PlainStatements) → IsSteady (run_parts L parts)
      steady_parts no_statements s n m le = steady_stay s n m le
      steady_parts (a_statement first later) s n m le = steady_then (run L first) (run_parts L later) (steady_run first) (steady_parts later) s n m le

      steady_arms : (arms : PlainStatements) → IsSteady (run_arms L arms)
      steady_arms no_statements s n m le = steady_stay s n m le
      steady_arms (a_statement first later) s n m le = grows_both (L.merged (L.driven first)) n _ _ _ _ (steady_run first s n m le) (steady_arms later s n m le)

  -- the leaves take at least one turn
  pub record LeavesTakeTurns : Type 0 where
    pub enable : (g : ℕ) (s : S) (n : ℕ) → TakesTurns (L.enable g s n)
    pub island : (form : PlainForm) (s : S) (n : ℕ) → TakesTurns (L.island form s n)
    pub timed : (k : ℕ) (s : S) (n : ℕ) → TakesTurns (L.timed k s n)

  module _ (leaves : LeavesTakeTurns) where
    mutual
      takes_form : (form : PlainForm) (s : S) (n : ℕ) → TakesTurns (run_form L form s n)
      takes_form Empty s n = takes_idle S F L.rest s n
      takes_form (Enable g) s n = leaves.enable g s n
      takes_form (Seq no_statements) s n = takes_idle S F L.rest s n
      takes_form (Seq (a_statement first later)) s n = takes_then (run L first s n) n (run_parts L later) (takes_run first s n)
      takes_form (Par no_statements) s n = takes_idle S F L.rest s n
      takes_form (Par (a_statement first later)) s n = takes_both (L.merged (L.driven first)) (run L first s n) (run_arms L later s n) (takes_run first s n)
      takes_form (If test comb a b) s n = takes_test L.rest (L.test test.port comb) (run L a) (run L b) s n
      takes_form (While test comb a) s n = takes_loop L.rest (L.test test.port comb) (run L a) (suc n) s n
      takes_form (Repeat zero a) s n = takes_idle S F L.rest s n
      takes_form (Repeat (suc k) a) s n = takes_then (run L a s n) n (rounds k (run L a)) (takes_run a s n)
      takes_form (StaticSeq length parts) s n = leaves.island (StaticSeq length parts) s n
      takes_form (StaticPar length arms) s n = leaves.island (StaticPar length arms) s n
      takes_form (StaticIf length test a b) s n = leaves.island (StaticIf length test a b) s n
      takes_form (StaticRepeat length count a) s n = leaves.island (StaticRepeat length count a) s n
      takes_form (Timed k) s n = leaves.timed k s n

      pub takes_run : (statement : PlainStatement) (s : S) (n : ℕ) → TakesTurns (run L statement s n)
      takes_run (Placed form place) s n = takes_form form s n

  -- the leaves keep a fact of states, which an idle turn makes and which a merged state has
  pub record LeavesKeep (P : S → Type 0) : Type 0 where
    pub rests : (s : S) → P (L.rest s)
    pub merges : (statement : PlainStatement) (a b : S) → P a → P b → P (L.merged (L.driven statement) a b)
    pub enable : (g : ℕ) (s : S) (n : ℕ) → P s → Leaves P (L.enable g s n)
    pub island : (form : PlainForm) (s : S) (n : ℕ) → P s → Leaves P (L.island form s n)
    pub timed : (k : ℕ) (s : S) (n : ℕ) → P s → Leaves P (L.timed k s n)

  module _ (P : S → Type 0) (keep : LeavesKeep P) where
    mutual
      leaves_form : (form : PlainForm) (s : S) (n : ℕ) → P s → Leaves P (run_form L form s n)
      leaves_form Empty s n p = leaves_idle S F P L.rest keep.rests s n
      leaves_form (Enable g) s n p = keep.enable g s n p
      leaves_form (Seq no_statements) s n p = leaves_idle S F P L.rest keep.rests s n
      leaves_form (Seq (a_statement first later)) s n p = leaves_then P (run L first s n) n (run_parts L later) (leaves_run first s n p) (λ s1 k q. leaves_parts later s1 k q)
      leaves_form (Par no_statements) s n p = leaves_idle S F P L.rest keep.rests s n
      leaves_form (Par (a_statement first later)) s n p = leaves_both P (L.merged (L.driven first)) (keep.merges first) (run L first s n) (run_arms L later s n) (leaves_run first s n p) (leaves_arms later s n p)
      leaves_form (If test comb a b) s n p = leaves_test P L.rest keep.rests (L.test test.port comb) (run L a) (run L b) s n (λ s1 k q. leaves_run a s1 k q) (λ s1 k q. leaves_run b s1 k q)
      leaves_form (While test comb a) s n p = leaves_loop P L.rest keep.rests (L.test test.port comb) (run L a) (suc n) s n (λ s1 k q. leaves_run a s1 k q)
      leaves_form (Repeat zero a) s n p = leaves_idle S F P L.rest keep.rests s n
      leaves_form (Repeat (suc k) a) s n p = leaves_rounds P (run L a) (suc k) s n p (λ s1 j q. leaves_run a s1 j q)
      leaves_form (StaticSeq length parts) s n p = keep.island (StaticSeq length parts) s n p
      leaves_form (StaticPar length arms) s n p = keep.island (StaticPar length arms) s n p
      leaves_form (StaticIf length test a b) s n p = keep.island (StaticIf length test a b) s n p
      leaves_form (StaticRepeat length count a) s n p = keep.island (StaticRepeat length count a) s n p
      leaves_form (Timed k) s n p = keep.timed k s n p

      pub leaves_run : (statement : PlainStatement) (s : S) (n : ℕ) → P s → Leaves P (run L statement s n)
      leaves_run (Placed form place) s n p = leaves_form form s n p

      leaves_parts : (parts : PlainStatements) (s : S) (n : ℕ) → P s → Leaves P (run_parts L parts s n)
      leaves_parts no_statements s n p = p
      leaves_parts (a_statement first later) s n p = leaves_then P (run L first s n) n (run_parts L later) (leaves_run first s n p) (λ s1 k q. leaves_parts later s1 k q)

      leaves_arms : (arms : PlainStatements) (s : S) (n : ℕ) → P s → Leaves P (run_arms L arms s n)
      leaves_arms no_statements s n p = p
      leaves_arms (a_statement first later) s n p = leaves_both P (L.merged (L.driven first)) (keep.merges first) (run L first s n) (run_arms L later s n) (leaves_run first s n p) (leaves_arms later s n p)

-- a cell that is called is a component's
pub called_child : (cells : Cells) (list : List PlainAssign) (c : ℕ) → called_in cells list ≡ Some c → (child : Instance) × (cell_at cells c ≡ OfInstance child)
called_child cells [] c e = absurd (none_some c e)
called_child cells (a ∷ rest) c e = of_target a.target e (called_child cells rest c)
  where
    of_at : (at : At) (d : ℕ) → cell_at cells d ≡ at → if_instance at d (called_in cells rest) ≡ Some c → (called_in cells rest ≡ Some c → (child : Instance) × (cell_at cells c ≡ OfInstance child)) → (child : Instance) × (cell_at cells c ≡ OfInstance child)
    of_at Nothing d is e later = later e
    of_at (OfRow row) d is e later = later e
    of_at (OfInstance child) d is e later = (child, ap (cell_at cells) (sym (some_is d c e)) ∙ is)

    of_target : (p : PortRef) → called_by cells p (called_in cells rest) ≡ Some c → (called_in cells rest ≡ Some c → (child : Instance) × (cell_at cells c ≡ OfInstance child)) → (child : Instance) × (cell_at cells c ≡ OfInstance child)
    of_target (ports.Cell d n) e later = of_at (cell_at cells d) d refl e later
    of_target (ports.Input n) e later = later e
    of_target (ports.Output n) e later = later e
    of_target (ports.Done g) e later = later e
    of_target (ports.Literal w v) e later = later e
