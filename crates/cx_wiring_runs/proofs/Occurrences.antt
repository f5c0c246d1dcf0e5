-- The groups that are active in a cycle of an island have an occurrence in it, so their assignments stand in the net.
use Rattle.std.proofs.Common.{◌≡◌, ◌⊎◌, inl, inr, ℕ, suc, ◌+◌, ◌-◌, ◌*◌, ◌%◌, Bool, true, false, ◌||◌, if◌then◌else◌, List, [], ◌∷◌, ◌++◌, length, Option, Some, None, refl, sym, ap, ◌∙◌, subst}
use Rattle.std.specs.Prelude.{is_some, nat_eq, nat_lt}
use Rattle.std.proofs.lemmas.Bool.{eq-eqb}
use Rattle.cx_text.proofs.MemberLaws.{in_either}
use Rattle.cx_meaning.specs.Designs.{PlainCell, PlainComponent, PlainForm, Empty, Enable, Seq, Par, If, While, Repeat, StaticSeq, StaticPar, StaticIf, StaticRepeat, Timed, PlainStatement, Placed, PlainStatements, no_statements, a_statement}
use Rattle.cx_meaning.specs.Active.{Entry, offset_in}
use Rattle.cx_text.specs.Members.{In}
use Rattle.cx_meaning.specs.Islands.{group_length, length_of, form_length}
use Rattle.cx_laws.specs.Positions.{entry_at, no_entry}
use Rattle.cx_laws.specs.Samples.{Samples, ifs_of, form_by, statement_by, while_by, parts_by, arms_by, active_by}
use Rattle.cx_static.specs.Islands.{PlainOccurrence, PlainIsland}
use Rattle.cx_static.specs.Lowering.{Begin, Gathered, later, begin_at, if_sampled, with_occurrence, with_point, with_timer, form_gathered, gathered, parts_gathered, arms_gathered, island_gathered}
use Rattle.cx_wiring.specs.Assignments.{occurs_among, occurs_in}
use Rattle.cx_meaning.proofs.ActiveLemmas.{entry_of}

occurs_first : (g : ℕ) (xs ys : List PlainOccurrence) → occurs_among g xs ≡ true → occurs_among g (xs ++ ys) ≡ true
occurs_first g [] ys e = absurd cc
occurs_first g (x ∷ xs) ys e = by (nat_eq x.group g) e (occurs_first g xs ys)
  where
    by : (b : Bool) → (b || occurs_among g xs) ≡ true → (occurs_among g xs ≡ true → occurs_among g (xs ++ ys) ≡ true) → (b || occurs_among g (xs ++ ys)) ≡ true
    by true f k = refl
    by false f k = k f

occurs_last : (xs : List PlainOccurrence) (o : PlainOccurrence) → occurs_among o.group (xs ++ o ∷ []) ≡ true
occurs_last [] o = ap (λ b. b || false) (eq-eqb o.group o.group refl)
occurs_last (x ∷ xs) o = by (nat_eq x.group o.group) (occurs_last xs o)
  where
    by : (b : Bool) → occurs_among o.group (xs ++ o ∷ []) ≡ true → (b || occurs_among o.group (xs ++ o ∷ [])) ≡ true
    by true f = refl
    by false f = f

in_one : (b : Bool) (xs ys : List Entry) (e : Entry) → In (if b then xs else ys) e → In xs e ⊎ In ys e
in_one true xs ys e i = inl i
in_one false xs ys e i = inr i

in_some : (b : Bool) (xs : List Entry) (e : Entry) → In (if b then xs else []) e → In xs e
in_some true xs e i = i
in_some false xs e i = absurd i

module _ (part : PlainComponent) (g : ℕ) where
  abbrev Has : Gathered → Type 0
  Has G = occurs_among g G.occurrences ≡ true

  -- WHAT IS GATHERED stays
  enable_keeps : (h : ℕ) (x : Begin) (o : Option ℕ) (G : Gathered) → Has G → Has (with_occurrence h x o G)
  enable_keeps h x None G e = e
  enable_keeps h x (Some n) G e = occurs_first g G.occurrences (record { group = h; timer = x.timer; from = x.at; to = x.at + n; samples = x.samples } ∷ []) e

  mutual
    form_keeps : (form : PlainForm) (x : Begin) (G : Gathered) → Has G → Has (form_gathered part form x G)
    form_keeps Empty x G e = e
    form_keeps (Enable h) x G e = enable_keeps h x (group_length part h) G e
    form_keeps (Seq parts) x G e = e
    form_keeps (Par arms) x G e = e
    form_keeps (If test comb a b) x G e = e
    form_keeps (While test comb a) x G e = e
    form_keeps (Repeat count a) x G e = e
    form_keeps (StaticSeq written parts) x G e = parts_keep parts x G e
    form_keeps (StaticPar written arms) x G e = arms_keep arms x G e
    form_keeps (StaticIf written test a b) x G e =
        statement_keeps b (if_sampled (length G.points) false x) (gathered part a (if_sampled (length G.points) true x) (with_point test.port x G))
        (statement_keeps a (if_sampled (length G.points) true x) (with_point test.port x G) e)
    form_keeps (StaticRepeat written count a) x G e =
        statement_keeps a (begin_at (length G.timers) 0 x.samples) (with_timer part.place (length_of part a) (Some x.timer) x.at (x.at + count * length_of part a) G) e
    form_keeps (Timed k) x G e = e

    statement_keeps : (s : PlainStatement) (x : Begin) (G : Gathered) → Has G → Has (gathered part s x G)
    statement_keeps (Placed form place) x G e = form_keeps form x G e

    parts_keep : (ss : PlainStatements) (x : Begin) (G : Gathered) → Has G → Has (parts_gathered part ss x G)
    parts_keep no_statements x G e = e
    parts_keep (a_statement s ss) x G e = parts_keep ss (later (length_of part s) x) (gathered part s x G) (statement_keeps s x G e)

    arms_keep : (ss : PlainStatements) (x : Begin) (G : Gathered) → Has G → Has (arms_gathered part ss x G)
    arms_keep no_statements x G e = e
    arms_keep (a_statement s ss) x G e = arms_keep ss x (gathered part s x G) (statement_keeps s x G e)

  -- WHAT IS ACTIVE is gathered
  module _ (kept : Samples) (static : is_some (group_length part g) ≡ true) where
    enable_has : (x : Begin) (o : Option ℕ) (G : Gathered) → is_some o ≡ true → Has (with_occurrence g x o G)
    enable_has x None G e = absurd cc
    enable_has x (Some n) G e = occurs_last G.occurrences (record { group = g; timer = x.timer; from = x.at; to = x.at + n; samples = x.samples })

    entry_has : (h : ℕ) (x : Begin) (G : Gathered) (j : ℕ) (e : Entry) → In (entry_at h j) e → e.group ≡ g → Has (with_occurrence h x (group_length part h) G)
    entry_has h x G j e (inl same) is = subst (λ k. Has (with_occurrence k x (group_length part k) G)) (sym (ap (λ (y : Entry). y.group) same ∙ is)) (enable_has x (group_length part g) G static)
    entry_has h x G j e (inr none) is = absurd none

    -- of the first or the others
    either_part : (s : PlainStatement) (ss : PlainStatements) (x y : Begin) (G : Gathered) (keep : Begin → Gathered → Gathered) → ((H : Gathered) → Has H → Has (keep y H)) → (xs ys : List Entry) (e : Entry) → (In xs e → Has (gathered part s x G))
        → (In ys e → Has (keep y (gathered part s x G))) → In xs e ⊎ In ys e → Has (keep y (gathered part s x G))
    either_part s ss x y G keep keeps xs ys e first others (inl i) = keeps (gathered part s x G) (first i)
    either_part s ss x y G keep keeps xs ys e first others (inr i) = others i

    mutual
      form_has : (form : PlainForm) (n j : ℕ) (x : Begin) (G : Gathered) (e : Entry) → In (form_by part kept entry_at no_entry form n j) e → e.group ≡ g → Has (form_gathered part form x G)
      form_has Empty n j x G e i is = absurd i
      form_has (Enable h) n j x G e i is = entry_has h x G j e i is
      form_has (Seq parts) n j x G e i is = absurd i
      form_has (Par arms) n j x G e i is = absurd i
      form_has (If test comb a b) n j x G e i is = absurd i
      form_has (While test comb a) n j x G e i is = absurd i
      form_has (Repeat count a) n j x G e i is = absurd i
      form_has (StaticSeq written parts) n j x G e i is = parts_has parts n j x G e i is
      form_has (StaticPar written arms) n j x G e i is = arms_has arms n j x G e i is
      form_has (StaticIf written test a b) n j x G e i is =
          either_part a no_statements (if_sampled (length G.points) true x) (if_sampled (length G.points) false x) (with_point test.port x G) (λ y H. gathered part b y H) (λ H. statement_keeps b (if_sampled (length G.points) false x) H)
          (while_by part kept entry_at no_entry a (suc n) j) (while_by part kept entry_at no_entry b (suc n + ifs_of a) j) e
          (λ k. while_has a (suc n) j (if_sampled (length G.points) true x) (with_point test.port x G) e k is)
          (λ k. while_has b (suc n + ifs_of a) j (if_sampled (length G.points) false x) (gathered part a (if_sampled (length G.points) true x) (with_point test.port x G)) e k is)
          (in_one (kept n) (while_by part kept entry_at no_entry a (suc n) j) (while_by part kept entry_at no_entry b (suc n + ifs_of a) j) e i)
      form_has (StaticRepeat written count a) n j x G e i is =
          statement_has a n (j % length_of part a) (begin_at (length G.timers) 0 x.samples) (with_timer part.place (length_of part a) (Some x.timer) x.at (x.at + count * length_of part a) G) e i is
      form_has (Timed k) n j x G e i is = absurd i

      statement_has : (s : PlainStatement) (n j : ℕ) (x : Begin) (G : Gathered) (e : Entry) → In (statement_by part kept entry_at no_entry s n j) e → e.group ≡ g → Has (gathered part s x G)
      statement_has (Placed form place) n j x G e i is = form_has form n j x G e i is

      while_has : (s : PlainStatement) (n j : ℕ) (x : Begin) (G : Gathered) (e : Entry) → In (while_by part kept entry_at no_entry s n j) e → e.group ≡ g → Has (gathered part s x G)
      while_has (Placed form place) n j x G e i is = form_has form n j x G e (in_some (nat_lt j (length_of part (Placed form place))) (form_by part kept entry_at no_entry form n j) e i) is

      parts_has : (ss : PlainStatements) (n j : ℕ) (x : Begin) (G : Gathered) (e : Entry) → In (parts_by part kept entry_at no_entry ss n j) e → e.group ≡ g → Has (parts_gathered part ss x G)
      parts_has no_statements n j x G e i is = absurd i
      parts_has (a_statement s ss) n j x G e i is =
          either_part s ss x (later (length_of part s) x) G (λ y H. parts_gathered part ss y H) (λ H. parts_keep ss (later (length_of part s) x) H) (statement_by part kept entry_at no_entry s n j)
          (parts_by part kept entry_at no_entry ss (n + ifs_of s) (j - length_of part s)) e (λ k. statement_has s n j x G e k is)
          (λ k. parts_has ss (n + ifs_of s) (j - length_of part s) (later (length_of part s) x) (gathered part s x G) e k is)
          (in_one (nat_lt j (length_of part s)) (statement_by part kept entry_at no_entry s n j) (parts_by part kept entry_at no_entry ss (n + ifs_of s) (j - length_of part s)) e i)

      arms_has : (ss : PlainStatements) (n j : ℕ) (x : Begin) (G : Gathered) (e : Entry) → In (arms_by part kept entry_at no_entry ss n j) e → e.group ≡ g → Has (arms_gathered part ss x G)
      arms_has no_statements n j x G e i is = absurd i
      arms_has (a_statement s ss) n j x G e i is =
          either_part s ss x x G (λ y H. arms_gathered part ss y H) (λ H. arms_keep ss x H) (while_by part kept entry_at no_entry s n j) (arms_by part kept entry_at no_entry ss (n + ifs_of s) j) e
          (λ k. while_has s n j x G e k is) (λ k. arms_has ss (n + ifs_of s) j x (gathered part s x G) e k is)
          (in_either (while_by part kept entry_at no_entry s n j) (arms_by part kept entry_at no_entry ss (n + ifs_of s) j) e i)

    -- IN ITS ISLAND
    pub active_occurs : (form : PlainForm) (t o : ℕ) (front : List PlainCell) → offset_in (active_by part kept t form) g ≡ Some o → occurs_among g (island_gathered part form front).occurrences ≡ true
    active_occurs form t o front f =
        let k = entry_of (active_by part kept t form) g o f in
        form_has form 0 t (begin_at 0 0 []) (with_timer part.place (form_length part form) None 0 (form_length part form) (record { cells = front; timers = []; points = []; occurrences = [] })) k.0 k.1 k.2

-- OF ALL ISLANDS
pub island_last : (g : ℕ) (islands : List PlainIsland) (island : PlainIsland) → occurs_among g island.occurrences ≡ true → occurs_in g (islands ++ island ∷ []) ≡ true
island_last g [] island e = ap (λ b. b || false) e
island_last g (x ∷ xs) island e = by (occurs_among g x.occurrences) (island_last g xs island e)
  where
    by : (b : Bool) → occurs_in g (xs ++ island ∷ []) ≡ true → (b || occurs_in g (xs ++ island ∷ [])) ≡ true
    by true f = refl
    by false f = f

pub island_first : (g : ℕ) (islands more : List PlainIsland) → occurs_in g islands ≡ true → occurs_in g (islands ++ more) ≡ true
island_first g [] more e = absurd cc
island_first g (x ∷ xs) more e = by (occurs_among g x.occurrences) e (island_first g xs more)
  where
    by : (b : Bool) → (b || occurs_in g xs) ≡ true → (occurs_in g xs ≡ true → occurs_in g (xs ++ more) ≡ true) → (b || occurs_in g (xs ++ more)) ≡ true
    by true f k = refl
    by false f k = k f
