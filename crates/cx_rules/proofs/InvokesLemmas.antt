-- What `Invokes` adds to what is driven and read, and that it adds nothing where a component has no static invoke.
use Rattle.std.proofs.Common.{◌≡◌, ℕ, ◌+◌, ◌*◌, max, Bool, true, false, ◌||◌, List, [], ◌∷◌, ◌++◌, Option, Some, None, refl, sym, ap, ap₂, ◌∙◌, subst}
use Rattle.std.specs.Prelude.{slice_get}
use Rattle.cx_meaning.specs.Designs.{PlainAssign, PlainInvoke, PlainComponent, PlainForm, Empty, Enable, Seq, Par, If, While, Repeat, StaticSeq, StaticPar, StaticIf, StaticRepeat, Timed, PlainStatement, Placed, PlainStatements, no_statements, a_statement}
use Rattle.cx_text.specs.Members.{In}
use Rattle.cx_meaning.specs.Islands.{form_length, length_of, sum_length, max_length}
use Rattle.cx_meaning.specs.Control.{groups_drive, drives}
use Rattle.cx_rules.specs.Items.{Context}
use Rattle.cx_rules.specs.Footprints.{AssignNames, Reads}
use Rattle.cx_rules.specs.Footprints as plain
use Rattle.cx_rules.specs.StaticControl.{is_written, is_timed, may_stand, form_has_length}
use Rattle.cx_rules.specs.Invokes.{invoke_at, invoke_length, form_lasts, lasts, sum_lasts, max_lasts, invokes_of, capture_of, captures_of, is_cell_of, invokes_cell, drives_all, IsFed, ReadsAll, driven, named, captured, fed, tested, through}

-- what is driven without static invokes is driven, and what is read is read
pub drives_more : (part : PlainComponent) (s : PlainStatement) (c : ℕ) → drives part s c ≡ true → drives_all part s c ≡ true
drives_more part s c e = ap (λ b. b || (invokes_cell part (invokes_of s) c || groups_drive part (captures_of part (invokes_of s)) c)) e

pub reads_more : (part : PlainComponent) (s : PlainStatement) (c : ℕ) → Reads part s c → ReadsAll part s c
reads_more part s c (plain.driven e) = driven (drives_more part s c e)
reads_more part s c (plain.named p g a i j names) = named p g a i j names
reads_more part s c (plain.tested p test i e) = tested p test i e
reads_more part s c (plain.through e p q a r i t names) = through e p q a (reads_more part s e r) i t names

-- WITHOUT STATIC INVOKES
module _ (part : PlainComponent) (none : part.invokes ≡ []) where
  pub no_invoke_at : (k : ℕ) → invoke_at part k ≡ None
  no_invoke_at k = ap (λ list. slice_get list k) none

  mutual
    pub form_lasts-flat : (form : PlainForm) → form_lasts part form ≡ form_length part form
    form_lasts-flat Empty = refl
    form_lasts-flat (Enable g) = refl
    form_lasts-flat (Seq parts) = refl
    form_lasts-flat (Par arms) = refl
    form_lasts-flat (If test comb a b) = refl
    form_lasts-flat (While test comb a) = refl
    form_lasts-flat (Repeat count a) = refl
    form_lasts-flat (StaticSeq length parts) = sum_lasts-flat parts
    form_lasts-flat (StaticPar length arms) = max_lasts-flat arms
    form_lasts-flat (StaticIf length test a b) = ap₂ max (lasts-flat a) (lasts-flat b)
    form_lasts-flat (StaticRepeat length count a) = ap (λ n. count * n) (lasts-flat a)
    form_lasts-flat (Timed k) = ap invoke_length (no_invoke_at k)

    pub lasts-flat : (s : PlainStatement) → lasts part s ≡ length_of part s
    lasts-flat (Placed form place) = form_lasts-flat form

    pub sum_lasts-flat : (ss : PlainStatements) → sum_lasts part ss ≡ sum_length part ss
    sum_lasts-flat no_statements = refl
    sum_lasts-flat (a_statement s ss) = ap₂ (λ m n. m + n) (lasts-flat s) (sum_lasts-flat ss)

    pub max_lasts-flat : (ss : PlainStatements) → max_lasts part ss ≡ max_length part ss
    max_lasts-flat no_statements = refl
    max_lasts-flat (a_statement s ss) = ap₂ max (lasts-flat s) (max_lasts-flat ss)

  pub no_captures : (ks : List ℕ) → captures_of part ks ≡ []
  no_captures [] = refl
  no_captures (k ∷ ks) = ap (λ v. captures_after v) (no_invoke_at k) ∙ no_captures ks
    where
      captures_after : Option PlainInvoke → List ℕ
      captures_after v = capture_of v ++ captures_of part ks

  pub no_cell : (ks : List ℕ) (c : ℕ) → invokes_cell part ks c ≡ false
  no_cell [] c = refl
  no_cell (k ∷ ks) c = ap (λ v. is_cell_of v c || invokes_cell part ks c) (no_invoke_at k) ∙ no_cell ks c

  pub drives_all-flat : (s : PlainStatement) (c : ℕ) → drives_all part s c ≡ drives part s c
  drives_all-flat s c =
      ap₂ (λ x (gs : List ℕ). drives part s c || (x || groups_drive part gs c)) (no_cell (invokes_of s) c) (no_captures (invokes_of s)) ∙ or_false (drives part s c)
    where
      or_false : (b : Bool) → (b || false) ≡ b
      or_false true = refl
      or_false false = refl

  none_fed : (s : PlainStatement) (a : PlainAssign) → IsFed part s a → ⊥
  none_fed s a f = absurd (let e : None ≡ Some f.invoke = sym (no_invoke_at f.number) ∙ f.is in cc)

  none_captured : (ks : List ℕ) (g : ℕ) → In (captures_of part ks) g → ⊥
  none_captured ks g i = absurd (subst (λ gs. In gs g) (no_captures ks) i)

  pub reads_all-flat : (s : PlainStatement) (c : ℕ) → ReadsAll part s c → Reads part s c
  reads_all-flat s c (driven e) = plain.driven (sym (drives_all-flat s c) ∙ e)
  reads_all-flat s c (named p g a i j names) = plain.named p g a i j names
  reads_all-flat s c (captured p g a i j names) = absurd (none_captured (invokes_of s) g i)
  reads_all-flat s c (fed p a f names) = absurd (none_fed s a f)
  reads_all-flat s c (tested p test i e) = plain.tested p test i e
  reads_all-flat s c (through e p q a r i t names) = plain.through e p q a (reads_all-flat s e r) i t names

  -- a statement that takes its cycles by a number may not stand in static control, and has no length there
  pub timed_may_not : (context : Context) (k : ℕ) → may_stand part context (Timed k) ≡ false
  timed_may_not context k = ap is_written (no_invoke_at k)

  pub timed_has_none : (context : Context) (k : ℕ) → form_has_length part context (Timed k) ≡ false
  timed_has_none context k = ap is_timed (no_invoke_at k)
