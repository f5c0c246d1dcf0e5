-- The samples of an island, one bit for each of its static ifs, by the static if's number in source order. They are all that
-- has to be kept of earlier cycles.
use Rattle.std.specs.Prelude.{◌≡◌, ℕ, zero, suc, ◌+◌, ◌-◌, ◌%◌, ◌<◌, ◌≤◌, nat_lt, nat_eq, Bool, true, false, List, [], ◌++◌, if◌then◌else◌}
use Rattle.cx_meaning.specs.declared.ports.PortRef.{PortRef}
use Rattle.cx_meaning.specs.Designs.{PlainComponent, PlainForm, Empty, Enable, Seq, Par, If, While, Repeat, StaticSeq, StaticPar, StaticIf, StaticRepeat, Timed, PlainStatement, Placed, PlainStatements, no_statements, a_statement}
use Rattle.cx_meaning.specs.Truths.{truth_of}
use Rattle.cx_meaning.specs.Active.{Entry}
use Rattle.cx_meaning.specs.Sights.{Look}
use Rattle.cx_meaning.specs.Islands.{History, length_of, is_one}
use Rattle.cx_laws.specs.Positions.{entry_at, no_entry, no_port, port_at}

abbrev pub Samples : Type 0
Samples = ℕ → Bool

-- the static ifs of a static statement
abbrev mutual
  pub form_ifs : PlainForm → ℕ
  form_ifs Empty = 0
  form_ifs (Enable g) = 0
  form_ifs (Seq parts) = 0
  form_ifs (Par arms) = 0
  form_ifs (If test comb a b) = 0
  form_ifs (While test comb a) = 0
  form_ifs (Repeat count a) = 0
  form_ifs (StaticSeq length parts) = ifs_in parts
  form_ifs (StaticPar length arms) = ifs_in arms
  form_ifs (StaticIf length test a b) = 1 + (ifs_of a + ifs_of b)
  form_ifs (StaticRepeat length count a) = ifs_of a
  form_ifs (Timed k) = 0

  pub ifs_of : PlainStatement → ℕ
  ifs_of (Placed form place) = form_ifs form

  pub ifs_in : PlainStatements → ℕ
  ifs_in no_statements = 0
  ifs_in (a_statement s ss) = ifs_of s + ifs_in ss

-- what a port says as a sample
abbrev pub says : Look → PortRef → Bool
says look port = is_one (truth_of (look port))

abbrev pub with_sample : ℕ → Bool → Samples → Samples
with_sample n v kept m = if nat_eq m n then v else kept m

-- a static if that begins takes its port
abbrev pub begin : ℕ → ℕ → Bool → Samples → Samples
begin n zero v kept = with_sample n v kept
begin n (suc j) v kept = kept

-- THE SAMPLES AFTER the static ifs that begin have taken their ports; the first static if has number n, and j is the offset
module _ (part : PlainComponent) (now : PortRef → Bool) where
  abbrev mutual
    pub form_after : PlainForm → ℕ → ℕ → Samples → Samples
    form_after Empty n j kept = kept
    form_after (Enable g) n j kept = kept
    form_after (Seq parts) n j kept = kept
    form_after (Par arms) n j kept = kept
    form_after (If test comb a b) n j kept = kept
    form_after (While test comb a) n j kept = kept
    form_after (Repeat count a) n j kept = kept
    form_after (StaticSeq length parts) n j kept = parts_after parts n j kept
    form_after (StaticPar length arms) n j kept = arms_after arms n j kept
    form_after (StaticIf length test a b) n j kept =
        if begin n j (now test.port) kept n
        then while_after a (suc n) j (begin n j (now test.port) kept)
        else while_after b (suc n + ifs_of a) j (begin n j (now test.port) kept)
    form_after (StaticRepeat length count a) n j kept = statement_after a n (j % length_of part a) kept
    form_after (Timed k) n j kept = kept

    pub statement_after : PlainStatement → ℕ → ℕ → Samples → Samples
    statement_after (Placed form place) n j kept = form_after form n j kept

    pub while_after : PlainStatement → ℕ → ℕ → Samples → Samples
    while_after (Placed form place) n j kept =
        if nat_lt j (length_of part (Placed form place)) then form_after form n j kept else kept

    pub parts_after : PlainStatements → ℕ → ℕ → Samples → Samples
    parts_after no_statements n j kept = kept
    parts_after (a_statement s ss) n j kept =
        if nat_lt j (length_of part s) then statement_after s n j kept
        else parts_after ss (n + ifs_of s) (j - length_of part s) kept

    pub arms_after : PlainStatements → ℕ → ℕ → Samples → Samples
    arms_after no_statements n j kept = kept
    arms_after (a_statement s ss) n j kept = arms_after ss (n + ifs_of s) j (while_after s n j kept)

-- what the running parts give, where static ifs go by their samples
module _ {A : Type 0} (part : PlainComponent) (kept : Samples) (of_group : ℕ → ℕ → List A)
    (of_port : PortRef → ℕ → List A) where
  abbrev mutual
    pub form_by : PlainForm → ℕ → ℕ → List A
    form_by Empty n j = []
    form_by (Enable g) n j = of_group g j
    form_by (Seq parts) n j = []
    form_by (Par arms) n j = []
    form_by (If test comb a b) n j = []
    form_by (While test comb a) n j = []
    form_by (Repeat count a) n j = []
    form_by (StaticSeq length parts) n j = parts_by parts n j
    form_by (StaticPar length arms) n j = arms_by arms n j
    form_by (StaticIf length test a b) n j =
        of_port test.port j ++ (if kept n then while_by a (suc n) j else while_by b (suc n + ifs_of a) j)
    form_by (StaticRepeat length count a) n j = statement_by a n (j % length_of part a)
    form_by (Timed k) n j = []

    pub statement_by : PlainStatement → ℕ → ℕ → List A
    statement_by (Placed form place) n j = form_by form n j

    pub while_by : PlainStatement → ℕ → ℕ → List A
    while_by (Placed form place) n j = if nat_lt j (length_of part (Placed form place)) then form_by form n j else []

    pub parts_by : PlainStatements → ℕ → ℕ → List A
    parts_by no_statements n j = []
    parts_by (a_statement s ss) n j =
        if nat_lt j (length_of part s) then statement_by s n j
        else parts_by ss (n + ifs_of s) (j - length_of part s)

    pub arms_by : PlainStatements → ℕ → ℕ → List A
    arms_by no_statements n j = []
    arms_by (a_statement s ss) n j = while_by s n j ++ arms_by ss (n + ifs_of s) j

-- ACTIVE in cycle t of an island, and the ports that begin, by the samples
abbrev pub active_by : PlainComponent → Samples → ℕ → PlainForm → List Entry
active_by part kept t form = form_by part kept entry_at no_entry form 0 t

abbrev pub begun_by : PlainComponent → Samples → ℕ → PlainForm → List PortRef
begun_by part kept t form = form_by part kept no_port port_at form 0 t

-- the samples in cycle t of an island, from those of the cycle before
abbrev pub samples_after : PlainComponent → (PortRef → Bool) → ℕ → PlainForm → Samples → Samples
samples_after part now t form kept = form_after part now form 0 t kept

-- KEPT: each static if that runs in cycle t, at an offset of which P holds, has for its sample what its port was in the cycle
-- in which it began
module _ (P : ℕ → Type 0) (part : PlainComponent) (h : History) (t : ℕ) (kept : Samples) where
  abbrev mutual
    pub FormKept : PlainForm → ℕ → ℕ → Type 0
    FormKept Empty n j = Unit {0}
    FormKept (Enable g) n j = Unit {0}
    FormKept (Seq parts) n j = Unit {0}
    FormKept (Par arms) n j = Unit {0}
    FormKept (If test comb a b) n j = Unit {0}
    FormKept (While test comb a) n j = Unit {0}
    FormKept (Repeat count a) n j = Unit {0}
    FormKept (StaticSeq length parts) n j = PartsKept parts n j
    FormKept (StaticPar length arms) n j = ArmsKept arms n j
    FormKept (StaticIf length test a b) n j =
        (P j → kept n ≡ h test.port (t - j))
        × (h test.port (t - j) ≡ true → j < length_of part a → StatementKept a (suc n) j)
        × (h test.port (t - j) ≡ false → j < length_of part b → StatementKept b (suc n + ifs_of a) j)
    FormKept (StaticRepeat length count a) n j = StatementKept a n (j % length_of part a)
    FormKept (Timed k) n j = Unit {0}

    pub StatementKept : PlainStatement → ℕ → ℕ → Type 0
    StatementKept (Placed form place) n j = FormKept form n j

    pub PartsKept : PlainStatements → ℕ → ℕ → Type 0
    PartsKept no_statements n j = Unit {0}
    PartsKept (a_statement s ss) n j =
        (j < length_of part s → StatementKept s n j)
        × (length_of part s ≤ j → PartsKept ss (n + ifs_of s) (j - length_of part s))

    pub ArmsKept : PlainStatements → ℕ → ℕ → Type 0
    ArmsKept no_statements n j = Unit {0}
    ArmsKept (a_statement s ss) n j = (j < length_of part s → StatementKept s n j) × ArmsKept ss (n + ifs_of s) j

abbrev pub Every : ℕ → Type 0
Every j = Unit {0}

-- in cycle t of an island every static if that runs has its sample
abbrev pub AreKept : PlainComponent → History → ℕ → PlainForm → Samples → Type 0
AreKept part h t form kept = FormKept Every part h t kept form 0 t
