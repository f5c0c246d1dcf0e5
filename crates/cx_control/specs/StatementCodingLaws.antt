-- The places of a statement are numbers, and fine places are given back, where the places of its leaves are.
use Rattle.std.proofs.Common.{◌≡◌, ℕ, zero, suc, inl, inr, true, refl}
use Rattle.cx_text.specs.declared.places.Place.{Place}
use Rattle.cx_meaning.specs.Designs.{PlainForm, Empty, Enable, Seq, Par, If, While, Repeat, StaticSeq, StaticPar, StaticIf, StaticRepeat, Timed, PlainStatement, Placed, PlainStatements, no_statements, a_statement, list_of}
use Rattle.cx_text.specs.Members.{In}
use Rattle.cx_rules.specs.StaticControl.{is_static}
use Rattle.cx_lockstep.specs.Worlds.{Machine}
use Rattle.cx_lockstep.specs.Statements.{LeafMachines, machine_of, parts_machine, arms_machine}
use Rattle.cx_lockstep.specs.Lawful.{IsPart, of_seq, of_par, then_branch, else_branch, of_while, of_repeat}
use Rattle.cx_control.specs.Codings.{Coding, region_bank}
use Rattle.cx_control.specs.StatementCodings.{LeafCodings, statement_coding, parts_coding, arms_bank}
use Rattle.cx_control.specs.CodingLaws.{IsCoding, HasFront, IsBank, unit_is, none_is, seq_is, seq_front, if_is, if_front, while_is, while_front, repeat_is, repeat_front, region_bank_is, done_bank_is, par_bank_is, par_front, bank_coding_is}

module _ {X : Type 0} {V : X → Type 0} where
  -- a coding of what takes a turn at least
  pub record IsRegion (M : Machine X V) (coding : Coding M.Place) : Type 0 where
    pub coded : IsCoding M coding
    pub front : HasFront M

  -- Stands: the statements of which this is said, with each its parts
  pub record AreCoded {F : Type 0} (leaves : LeafMachines X V F) (codings : LeafCodings leaves)
      (Stands : PlainStatement → Type 0) : Type 0 where
    pub parts_stand : (s whole : PlainStatement) → IsPart s whole → Stands whole → Stands s
    pub is_untimed : (k : ℕ) (place : Place) → Stands (Placed (Timed k) place) → ⊥
    pub enable : (g : ℕ) (place : Place) → Stands (Placed (Enable g) place)
        → IsRegion (leaves.enable g) (codings.enable g)
    pub island : (form : PlainForm) (place : Place) → is_static form ≡ true → Stands (Placed form place)
        → IsRegion (leaves.island form) (codings.island form)

  module _ {F : Type 0} (leaves : LeafMachines X V F) (codings : LeafCodings leaves)
      (Stands : PlainStatement → Type 0) (law : AreCoded leaves codings Stands) where
    mutual
      -- THE LAW, for every form
      pub statement_coded : (s : PlainStatement) → Stands s
          → IsRegion (machine_of leaves s) (statement_coding leaves codings s)
      statement_coded (Placed Empty place) stands =
          record { coded = unit_is _ _ _ _; front = record { first = tt; starts = refl } }
      statement_coded (Placed (Enable g) place) stands = law.enable g place stands
      statement_coded (Placed (Seq no_statements) place) stands =
          record { coded = unit_is _ _ _ _; front = record { first = tt; starts = refl } }
      statement_coded (Placed (Seq (a_statement first later)) place) stands =
          let one = statement_coded first (law.parts_stand first
          (Placed (Seq (a_statement first later)) place) (of_seq (inl refl)) stands) in
          let rest = parts_coded later (Placed (Seq (a_statement first later)) place) stands (λ t i. of_seq (inr i)) in
          record {
            coded =
                seq_is (machine_of leaves first) (parts_machine leaves later)
                (statement_coding leaves codings first)
                (parts_coding leaves codings later) one.coded rest one.front;
            front =
                seq_front (machine_of leaves first) (parts_machine leaves later)
                (statement_coding leaves codings first)
                (parts_coding leaves codings later) one.coded rest one.front;
          }
      statement_coded (Placed (Par no_statements) place) stands =
          record { coded = unit_is _ _ _ _; front = record { first = tt; starts = refl } }
      statement_coded (Placed (Par (a_statement first later)) place) stands =
          let one = statement_coded first (law.parts_stand first
          (Placed (Par (a_statement first later)) place) (of_par (inl refl)) stands) in
          let bank = region_bank_is (machine_of leaves first)
          (statement_coding leaves codings first) one.coded one.front in
          let rest = arms_coded later (Placed (Par (a_statement first later)) place) stands (λ t i. of_par (inr i)) in
          record {
            coded =
                bank_coding_is (arms_machine leaves (a_statement first later))
                (arms_bank leaves codings (a_statement first later))
                (par_bank_is (machine_of leaves first) (arms_machine leaves later)
                (region_bank (statement_coding leaves codings first))
                (arms_bank leaves codings later) bank rest);
            front =
                par_front (machine_of leaves first) (arms_machine leaves later)
                (region_bank (statement_coding leaves codings first))
                (arms_bank leaves codings later) bank rest one.front;
          }
      statement_coded (Placed (If test comb a b) place) stands =
          let one = statement_coded a (law.parts_stand a (Placed (If test comb a b) place) then_branch stands) in
          let other = statement_coded b (law.parts_stand b (Placed (If test comb a b) place) else_branch stands) in
          record {
            coded =
                if_is (machine_of leaves a) (machine_of leaves b) (statement_coding leaves codings a)
                (statement_coding leaves codings b) one.coded other.coded (leaves.test test.port comb);
            front =
                if_front (machine_of leaves a) (machine_of leaves b) (statement_coding leaves codings a)
                (statement_coding leaves codings b) one.coded other.coded (leaves.test test.port comb);
          }
      statement_coded (Placed (While test comb a) place) stands =
          let one = statement_coded a (law.parts_stand a (Placed (While test comb a) place) of_while stands) in
          record {
            coded =
                while_is (machine_of leaves a) (statement_coding leaves codings a) one.coded
                (leaves.test test.port comb);
            front =
                while_front (machine_of leaves a) (statement_coding leaves codings a) one.coded
                (leaves.test test.port comb);
          }
      statement_coded (Placed (Repeat zero a) place) stands =
          record { coded = unit_is _ _ _ _; front = record { first = tt; starts = refl } }
      statement_coded (Placed (Repeat (suc k) a) place) stands =
          let one = statement_coded a (law.parts_stand a (Placed (Repeat (suc k) a) place) of_repeat stands) in
          record {
            coded = repeat_is (machine_of leaves a) (statement_coding leaves codings a) one.coded one.front k;
            front = repeat_front (machine_of leaves a) (statement_coding leaves codings a) one.coded one.front k;
          }
      statement_coded (Placed (StaticSeq length parts) place) stands =
          law.island (StaticSeq length parts) place refl stands
      statement_coded (Placed (StaticPar length arms) place) stands =
          law.island (StaticPar length arms) place refl stands
      statement_coded (Placed (StaticIf length test a b) place) stands =
          law.island (StaticIf length test a b) place refl stands
      statement_coded (Placed (StaticRepeat length count a) place) stands =
          law.island (StaticRepeat length count a) place refl stands
      statement_coded (Placed (Timed k) place) stands = absurd (law.is_untimed k place stands)

      pub parts_coded : (ss : PlainStatements) (whole : PlainStatement) → Stands whole
          → ((t : PlainStatement) → In (list_of ss) t → IsPart t whole)
          → IsCoding (parts_machine leaves ss) (parts_coding leaves codings ss)
      parts_coded no_statements whole stands part = none_is
      parts_coded (a_statement first later) whole stands part =
          let one = statement_coded first (law.parts_stand first whole (part first (inl refl)) stands) in
          seq_is (machine_of leaves first) (parts_machine leaves later)
          (statement_coding leaves codings first) (parts_coding leaves codings later) one.coded
          (parts_coded later whole stands (λ t i. part t (inr i))) one.front

      pub arms_coded : (ss : PlainStatements) (whole : PlainStatement) → Stands whole
          → ((t : PlainStatement) → In (list_of ss) t → IsPart t whole)
          → IsBank (arms_machine leaves ss) (arms_bank leaves codings ss)
      arms_coded no_statements whole stands part = done_bank_is
      arms_coded (a_statement first later) whole stands part =
          let one = statement_coded first (law.parts_stand first whole (part first (inl refl)) stands) in
          par_bank_is (machine_of leaves first) (arms_machine leaves later)
          (region_bank (statement_coding leaves codings first)) (arms_bank leaves codings later)
          (region_bank_is (machine_of leaves first) (statement_coding leaves codings first) one.coded one.front)
          (arms_coded later whole stands (λ t i. part t (inr i)))
