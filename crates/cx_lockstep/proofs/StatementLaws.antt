-- THE LAW OF CONTROL: the machine of a statement does what the statement means, where the machines of its leaves do.
use Rattle.std.proofs.Common.{◌≡◌, zero, suc, ◌⊎◌, inl, inr, Bool, true, false, List, [], ◌∷◌, refl}
use Rattle.cx_meaning.specs.Designs.{Empty, Enable, Seq, Par, If, While, Repeat, StaticSeq, StaticPar, StaticIf, StaticRepeat, Timed, PlainStatement, Placed, PlainStatements, no_statements, a_statement, list_of}
use Rattle.cx_text.specs.Members.{In}
use Rattle.cx_meaning.specs.Control.{Leaves, run, run_parts, run_arms}
use Rattle.cx_lockstep.specs.Worlds.{World}
use Rattle.cx_lockstep.specs.Doing.{Does}
use Rattle.cx_lockstep.specs.Statements.{LeafMachines, machine_of, parts_machine, arms_machine}
use Rattle.cx_lockstep.specs.Lawful.{IsPart, of_seq, of_par, then_branch, else_branch, of_while, of_repeat, enable, static_seq, static_par, static_if, static_repeat, any_drives, AnyReads, Apart, AreApart, AreLawful}
use Rattle.cx_lockstep.proofs.PartLaws.{does_within, idle_does, done_does, seq_does, repeat_does, if_does, while_does}
use Rattle.cx_lockstep.proofs.ArmLaws.{par_does}
use Rattle.cx_text.proofs.BoolLaws.{or_either}

module _ {X : Type 0} {V : X → Type 0} {E S F : Type 0} (W : World X V E S) (Rests : (x : X) → V x → Type 0) (L : E → Leaves S F) (P : LeafMachines X V F)
    (drives : PlainStatement → X → Bool) (reads : PlainStatement → X → Type 0) (Stands : PlainStatement → Type 0) (law : AreLawful W Rests L P drives reads Stands) where
  -- a part, with all that the whole drives and reads
  as_part : (s whole : PlainStatement) → Stands whole → IsPart s whole → Does W Rests (machine_of P s) (drives s) (reads s) (λ e. run (L e) s)
      → Does W Rests (machine_of P s) (drives whole) (reads whole) (λ e. run (L e) s)
  as_part s whole stands part does =
      does_within W Rests (machine_of P s) (drives s) (drives whole) (reads s) (reads whole) (λ e. run (L e) s) (law.part_drives s whole part) (law.part_reads s whole part) (law.sees whole stands) does

  -- what an arm drives no later arm reads, and the other way
  apart_first : (s : PlainStatement) (ss : List PlainStatement) → ((t : PlainStatement) → In ss t → Apart drives reads s t) → (x : X) → drives s x ≡ true → AnyReads drives reads ss x → ⊥
  apart_first s [] apart x d r = r
  apart_first s (t ∷ ss) apart x d (inl r) = (apart t (inl refl)).first x d r
  apart_first s (t ∷ ss) apart x d (inr r) = apart_first s ss (λ u i. apart u (inr i)) x d r

  apart_second : (s : PlainStatement) (ss : List PlainStatement) → ((t : PlainStatement) → In ss t → Apart drives reads s t) → (x : X) → any_drives drives reads ss x ≡ true → reads s x → ⊥
  apart_second s [] apart x d r = absurd (false_true d)
    where
      false_true : false ≡ true → ⊥
      false_true e = cc
  apart_second s (t ∷ ss) apart x d r = either (or_either (drives t x) (any_drives drives reads ss x) d) (λ e. (apart t (inl refl)).second x e r) (λ e. apart_second s ss (λ u i. apart u (inr i)) x e r)
    where
      either : (drives t x ≡ true) ⊎ (any_drives drives reads ss x ≡ true) → (drives t x ≡ true → ⊥) → (any_drives drives reads ss x ≡ true → ⊥) → ⊥
      either (inl e) f g = f e
      either (inr e) f g = g e

  any_within_drives : (ss : List PlainStatement) (D : X → Bool) → ((t : PlainStatement) → In ss t → (x : X) → drives t x ≡ true → D x ≡ true) → (x : X) → any_drives drives reads ss x ≡ true → D x ≡ true
  any_within_drives [] D within x d = absurd (false_true d)
    where
      false_true : false ≡ true → ⊥
      false_true e = cc
  any_within_drives (t ∷ ss) D within x d = either (or_either (drives t x) (any_drives drives reads ss x) d) (within t (inl refl) x) (any_within_drives ss D (λ u i. within u (inr i)) x)
    where
      either : (drives t x ≡ true) ⊎ (any_drives drives reads ss x ≡ true) → (drives t x ≡ true → D x ≡ true) → (any_drives drives reads ss x ≡ true → D x ≡ true) → D x ≡ true
      either (inl e) f g = f e
      either (inr e) f g = g e

  any_within_reads : (ss : List PlainStatement) (R : X → Type 0) → ((t : PlainStatement) → In ss t → (x : X) → reads t x → R x) → (x : X) → AnyReads drives reads ss x → R x
  any_within_reads [] R within x r = absurd r
  any_within_reads (t ∷ ss) R within x (inl r) = within t (inl refl) x r
  any_within_reads (t ∷ ss) R within x (inr r) = any_within_reads ss R (λ u i. within u (inr i)) x r

  mutual
    -- THE LAW, for every form
    pub statement_does : (s : PlainStatement) → Stands s → Does W Rests (machine_of P s) (drives s) (reads s) (λ e. run (L e) s)
    statement_does (Placed Empty place) stands = idle_does W Rests F (drives (Placed Empty place)) (reads (Placed Empty place)) (λ e. Leaves.rest (L e)) law.keeps_rest (law.sees (Placed Empty place) stands)
    statement_does (Placed (Enable g) place) stands = law.leaf_does (Enable g) place (enable g) stands
    statement_does (Placed (Seq no_statements) place) stands =
        idle_does W Rests F (drives (Placed (Seq no_statements) place)) (reads (Placed (Seq no_statements) place)) (λ e. Leaves.rest (L e)) law.keeps_rest (law.sees (Placed (Seq no_statements) place) stands)
    statement_does (Placed (Seq (a_statement first later)) place) stands =
        seq_does W Rests (drives (Placed (Seq (a_statement first later)) place)) (reads (Placed (Seq (a_statement first later)) place)) (machine_of P first) (parts_machine P later) (λ e. run (L e) first) (λ e. run_parts (L e) later)
        (as_part first (Placed (Seq (a_statement first later)) place) stands (of_seq (inl refl)) (statement_does first (law.parts_stand first (Placed (Seq (a_statement first later)) place) (of_seq (inl refl)) stands)))
        (parts_do later (Placed (Seq (a_statement first later)) place) stands (λ t i. of_seq (inr i)))
    statement_does (Placed (Par no_statements) place) stands =
        idle_does W Rests F (drives (Placed (Par no_statements) place)) (reads (Placed (Par no_statements) place)) (λ e. Leaves.rest (L e)) law.keeps_rest (law.sees (Placed (Par no_statements) place) stands)
    statement_does (Placed (Par (a_statement first later)) place) stands =
        does_within W Rests (machine_of P (Placed (Par (a_statement first later)) place))
        (any_drives drives reads (first ∷ list_of later)) (drives (Placed (Par (a_statement first later)) place)) (AnyReads drives reads (first ∷ list_of later)) (reads (Placed (Par (a_statement first later)) place))
        (λ e. run (L e) (Placed (Par (a_statement first later)) place))
        (any_within_drives (first ∷ list_of later) (drives (Placed (Par (a_statement first later)) place)) (λ t i. law.part_drives t (Placed (Par (a_statement first later)) place) (of_par i)))
        (any_within_reads (first ∷ list_of later) (reads (Placed (Par (a_statement first later)) place)) (λ t i. law.part_reads t (Placed (Par (a_statement first later)) place) (of_par i)))
        (law.sees (Placed (Par (a_statement first later)) place) stands)
        (arms_do (a_statement first later) (Placed (Par (a_statement first later)) place) stands (λ t i. of_par i) (law.arms_apart (a_statement first later) place stands))
    statement_does (Placed (If test comb a b) place) stands =
        if_does W Rests (drives (Placed (If test comb a b) place)) (reads (Placed (If test comb a b) place)) (λ e. Leaves.rest (L e)) law.keeps_rest
        (P.test test.port comb) (λ e. Leaves.test (L e) test.port comb) (law.if_tests test comb a b place stands) (machine_of P a) (machine_of P b) (λ e. run (L e) a) (λ e. run (L e) b)
        (as_part a (Placed (If test comb a b) place) stands then_branch (statement_does a (law.parts_stand a (Placed (If test comb a b) place) then_branch stands)))
        (as_part b (Placed (If test comb a b) place) stands else_branch (statement_does b (law.parts_stand b (Placed (If test comb a b) place) else_branch stands)))
    statement_does (Placed (While test comb a) place) stands =
        while_does W Rests (drives (Placed (While test comb a) place)) (reads (Placed (While test comb a) place)) (λ e. Leaves.rest (L e)) law.keeps_rest
        (P.test test.port comb) (λ e. Leaves.test (L e) test.port comb) (law.while_tests test comb a place stands) (machine_of P a) (λ e. run (L e) a)
        (as_part a (Placed (While test comb a) place) stands of_while (statement_does a (law.parts_stand a (Placed (While test comb a) place) of_while stands)))
    statement_does (Placed (Repeat zero a) place) stands =
        idle_does W Rests F (drives (Placed (Repeat zero a) place)) (reads (Placed (Repeat zero a) place)) (λ e. Leaves.rest (L e)) law.keeps_rest (law.sees (Placed (Repeat zero a) place) stands)
    statement_does (Placed (Repeat (suc k) a) place) stands =
        repeat_does W Rests (drives (Placed (Repeat (suc k) a) place)) (reads (Placed (Repeat (suc k) a) place)) (machine_of P a) (λ e. run (L e) a)
        (as_part a (Placed (Repeat (suc k) a) place) stands of_repeat (statement_does a (law.parts_stand a (Placed (Repeat (suc k) a) place) of_repeat stands))) (suc k)
    statement_does (Placed (StaticSeq length parts) place) stands = law.leaf_does (StaticSeq length parts) place (static_seq length parts) stands
    statement_does (Placed (StaticPar length arms) place) stands = law.leaf_does (StaticPar length arms) place (static_par length arms) stands
    statement_does (Placed (StaticIf length test a b) place) stands = law.leaf_does (StaticIf length test a b) place (static_if length test a b) stands
    statement_does (Placed (StaticRepeat length count a) place) stands = law.leaf_does (StaticRepeat length count a) place (static_repeat length count a) stands
    statement_does (Placed (Timed k) place) stands = absurd (law.is_untimed k place stands)

    -- the parts of a seq that are left
    parts_do : (ss : PlainStatements) (whole : PlainStatement) → Stands whole → ((t : PlainStatement) → In (list_of ss) t → IsPart t whole)
        → Does W Rests (parts_machine P ss) (drives whole) (reads whole) (λ e. run_parts (L e) ss)
    parts_do no_statements whole stands part = done_does W Rests (drives whole) (reads whole) (law.sees whole stands)
    parts_do (a_statement first later) whole stands part =
        seq_does W Rests (drives whole) (reads whole) (machine_of P first) (parts_machine P later) (λ e. run (L e) first) (λ e. run_parts (L e) later)
        (as_part first whole stands (part first (inl refl)) (statement_does first (law.parts_stand first whole (part first (inl refl)) stands)))
        (parts_do later whole stands (λ t i. part t (inr i)))

    -- the arms of a par that are left
    arms_do : (ss : PlainStatements) (whole : PlainStatement) → Stands whole → ((t : PlainStatement) → In (list_of ss) t → IsPart t whole) → AreApart drives reads (list_of ss)
        → Does W Rests (arms_machine P ss) (any_drives drives reads (list_of ss)) (AnyReads drives reads (list_of ss)) (λ e. run_arms (L e) ss)
    arms_do no_statements whole stands part apart = done_does W Rests (λ x. false) (λ x. ⊥) (λ x e. false_true e)
      where
        false_true : false ≡ true → ⊥
        false_true e = cc
    arms_do (a_statement first later) whole stands part apart =
        par_does W Rests (λ x v rests. law.keeps_rest.quiet x v rests) (machine_of P first) (arms_machine P later) (drives first) (any_drives drives reads (list_of later)) (reads first) (AnyReads drives reads (list_of later))
        (λ e. run (L e) first) (λ e. run_arms (L e) later) (statement_does first (law.parts_stand first whole (part first (inl refl)) stands)) (arms_do later whole stands (λ t i. part t (inr i)) apart.1)
        (apart_first first (list_of later) apart.0) (apart_second first (list_of later) apart.0) (λ e. Leaves.merged (L e) (Leaves.driven (L e) first)) (λ e s t x. law.merges e first s t x)
