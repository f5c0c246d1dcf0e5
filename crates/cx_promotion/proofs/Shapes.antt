-- THE SHAPE OF A PROMOTABLE GROUP, as its conditions give it.
use Rattle.std.specs.Prelude.{◌≡◌, ◌⊎◌, ℕ, Bool, true, false, ◌&&◌, ◌||◌, not, List, [], ◌∷◌, Option, Some, None, filter, length, if◌then◌else◌, refl}
use Rattle.std.specs.List.{list_all, list_any}
use Rattle.std.proofs.Common.{sym, ap, ◌∙◌, subst, inl, inr}
use Rattle.std.proofs.lemmas.Bool.{eqb-true}
use Rattle.cx_prim.specs.declared.ports.PortName.TheVariants as names
use Rattle.cx_prim.specs.Rows.{Row}
use Rattle.cx_meaning.specs.declared.ports.PortRef.{PortRef}
use Rattle.cx_meaning.specs.declared.ports.PortRef.TheVariants as ports
use Rattle.cx_meaning.specs.declared.ports.PlacedPort.{PlacedPort}
use Rattle.cx_meaning.specs.Designs.{PlainGuard, Always, Atom, Negation, All, Any, Compared, Within, PlainAssign, PlainGroup}
use Rattle.cx_meaning.specs.Instances.{Instance, At, Nothing, OfRow, OfInstance, cell_at, cells_of, part_of}
use Rattle.cx_meaning.specs.Active.{same_port}
use Rattle.cx_text.specs.Members.{In}
use Rattle.cx_rules.specs.Items.{is_plain}
use Rattle.cx_rules.specs.Ports.{is_primitive_enable, is_part_port}
use Rattle.cx_rules.specs.ShapeRules.{is_hole, some_target}
use Rattle.cx_rules.specs.CallShape.{one, is_always, is_negated, is_atom, is_port_of}
use Rattle.cx_rules.proofs.FoundLemmas.{same_is}
use Rattle.cx_promotion.specs.Promotable.{is_named, starting_port, cycles_of, looks_at_done, is_right_enable, is_right, starts, keeps_all, length_if, of_cell, of_source, of_dones, promotable}
use Rattle.cx_text.proofs.BoolLaws.{and_both, from_not}
use Rattle.cx_promotion.proofs.Impossible.{no_true, no_some}
use Rattle.cx_rules.proofs.ShapeRulesLemmas.{a_target, always_is}

-- lists
pub all_pass : {A : Type 0} (test : A → Bool) (list : List A) (x : A) → list_all test list ≡ true → In list x → test x ≡ true
all_pass test [] x e j = absurd j
all_pass test (y ∷ list) x e (inl same) = subst (λ z. test z ≡ true) same (and_both (test y) (list_all test list) e).0
all_pass test (y ∷ list) x e (inr j) = all_pass test list x (and_both (test y) (list_all test list) e).1 j

pub or_none : (a b : Bool) → (a || b) ≡ false → (a ≡ false) × (b ≡ false)
or_none true b e = absurd (cc)
or_none false b e = (refl, e)

pub none_pass : {A : Type 0} (test : A → Bool) (list : List A) (x : A) → list_any test list ≡ false → In list x → test x ≡ false
none_pass test [] x e j = absurd j
none_pass test (y ∷ list) x e (inl same) = subst (λ z. test z ≡ false) same (or_none (test y) (list_any test list) e).0
none_pass test (y ∷ list) x e (inr j) = none_pass test list x (or_none (test y) (list_any test list) e).1 j

pub no_target : (test : PortRef → Bool) (list : List PlainAssign) (a : PlainAssign) → some_target test list ≡ false → In list a → test a.target ≡ false
no_target test [] a e j = absurd j
no_target test (y ∷ list) a e (inl same) = subst (λ (z : PlainAssign). test z.target ≡ false) same (or_none (test y.target) (some_target test list) e).0
no_target test (y ∷ list) a e (inr j) = no_target test list a (or_none (test y.target) (some_target test list) e).1 j

-- what a filter keeps
pub in_filter : {A : Type 0} (test : A → Bool) (list : List A) (x : A) → In list x → test x ≡ true → In (filter test list) x
in_filter test [] x j e = absurd j
in_filter test (y ∷ list) x (inl same) e = by (test y) (ap test same ∙ e)
  where
    by : (b : Bool) → b ≡ true → In (if b then y ∷ filter test list else filter test list) x
    by true h = inl same
    by false h = no_true h
in_filter test (y ∷ list) x (inr j) e = by (test y) (in_filter test list x j e)
  where
    by : (b : Bool) → In (filter test list) x → In (if b then y ∷ filter test list else filter test list) x
    by true k = inr k
    by false k = k

pub of_filter : {A : Type 0} (test : A → Bool) (list : List A) (x : A) → In (filter test list) x → In list x × (test x ≡ true)
of_filter test [] x j = absurd j
of_filter test (y ∷ list) x j = by (test y) refl j (of_filter test list x)
  where
    by : (b : Bool) → test y ≡ b → In (if b then y ∷ filter test list else filter test list) x → (In (filter test list) x → In list x × (test x ≡ true)) → In (y ∷ list) x × (test x ≡ true)
    by true is (inl same) later = (inl same, subst (λ z. test z ≡ true) same is)
    by true is (inr k) later = let r = later k in (inr r.0, r.1)
    by false is k later = let r = later k in (inr r.0, r.1)

-- no guard, or that a port is not 1
abbrev pub IsOpen : PortRef → PlainGuard → Type 0
IsOpen port g = (g ≡ Always) ⊎ ((q : PlacedPort) × (g ≡ Negation (Atom q)) × (q.port ≡ port))

atom_is : (port : PortRef) (g : PlainGuard) → is_atom port g ≡ true → (q : PlacedPort) × (g ≡ Atom q) × (q.port ≡ port)
atom_is port Always e = no_true e
atom_is port (Atom p) e = (p, refl, same_is p.port port e)
atom_is port (Negation g) e = no_true e
atom_is port (All gs) e = no_true e
atom_is port (Any gs) e = no_true e
atom_is port (Compared c a b) e = no_true e
atom_is port (Within from to) e = no_true e

negated_is : (port : PortRef) (g : PlainGuard) → is_negated port g ≡ true → IsOpen port g
negated_is port Always e = no_true e
negated_is port (Atom p) e = no_true e
negated_is port (Negation g) e = let r = atom_is port g e in inr (r.0, ap Negation r.1, r.2)
negated_is port (All gs) e = no_true e
negated_is port (Any gs) e = no_true e
negated_is port (Compared c a b) e = no_true e
negated_is port (Within from to) e = no_true e

open_is : (port : PortRef) (g : PlainGuard) (pipe : Bool) → (is_always g || (pipe && is_negated port g)) ≡ true → IsOpen port g
open_is port g pipe e = by (is_always g) refl e
  where
    by : (b : Bool) → is_always g ≡ b → (b || (pipe && is_negated port g)) ≡ true → IsOpen port g
    by true is h = inl (always_is g is)
    by false is h = negated_is port g (and_both pipe (is_negated port g) h).1

port_of_is : (c : ℕ) (port : PortRef) → is_port_of c port ≡ true → (p : ℕ) × (port ≡ ports.Cell c p)
port_of_is c (ports.Cell d p) e = (p, ap (λ k. ports.Cell k p) (eqb-true d c e))
port_of_is c (ports.Input n) e = no_true e
port_of_is c (ports.Output n) e = no_true e
port_of_is c (ports.Done g) e = no_true e
port_of_is c (ports.Literal w v) e = no_true e

-- AN ASSIGNMENT of the group: of its done, of an enabling port of its cell, or of another port, and then it looks at no done
pub data RightAssign (i : Instance) (cell port : ℕ) (a : PlainAssign) : Type 0 where
  of_done : is_hole a.target ≡ true → RightAssign i cell port a
  of_enable : (p : ℕ) → is_primitive_enable i a.target ≡ true → a.target ≡ ports.Cell cell p → a.source.port ≡ one → IsOpen (ports.Cell cell port) a.guard → RightAssign i cell port a
  of_other : is_hole a.target ≡ false → is_primitive_enable i a.target ≡ false → looks_at_done i a ≡ false → RightAssign i cell port a

pub record Shape (i : Instance) (x : PlainGroup) (n : ℕ) : Type 0 where
  pub plain : is_plain x.kind ≡ true
  pub no_part : some_target (is_part_port i) x.assigns ≡ false
  pub done : PlainAssign
  pub done_stands : In x.assigns done
  pub done_hole : is_hole done.target ≡ true
  pub only_done : (a : PlainAssign) → In x.assigns a → is_hole a.target ≡ true → a ≡ done
  pub done_bare : done.guard ≡ Always
  pub cell : ℕ
  pub port : ℕ
  pub done_source : done.source.port ≡ ports.Cell cell port
  pub row : Row
  pub at : cell_at (cells_of i) cell ≡ OfRow row
  pub named : is_named names.Done row.ports port ≡ true
  pub length : cycles_of row.shape ≡ Some n
  pub start : ℕ
  pub starting : starting_port row ≡ Some start
  pub starts : (a : PlainAssign) × In x.assigns a × (a.target ≡ ports.Cell cell start)
  pub right : (a : PlainAssign) → In x.assigns a → RightAssign i cell port a
  pub quiet : (a : PlainAssign) → In (part_of i).always a → looks_at_done i a ≡ false

module _ (i : Instance) (x : PlainGroup) (c p : ℕ) (row : Row) where
  right_is : (a : PlainAssign) → is_right i x c p row a ≡ true → RightAssign i c p a
  right_is a e = by_hole (is_hole a.target) refl e
    where
      by_enable : is_hole a.target ≡ false → (b : Bool) → is_primitive_enable i a.target ≡ b → (if b then is_right_enable i x c p row a else not (looks_at_done i a)) ≡ true → RightAssign i c p a
      by_enable no_hole true is h =
          let outer = and_both (is_port_of c a.target && (same_port a.source.port one && (is_always a.guard || _ && is_negated (ports.Cell c p) a.guard))) _ h in
          let inner = and_both (is_port_of c a.target) _ outer.0 in
          let last = and_both (same_port a.source.port one) _ inner.1 in
          let at = port_of_is c a.target inner.0 in
          of_enable at.0 is at.1 (same_is a.source.port one last.0) (open_is (ports.Cell c p) a.guard _ last.1)
      by_enable no_hole false is h = of_other no_hole is (from_not (looks_at_done i a) h)

      by_hole : (b : Bool) → is_hole a.target ≡ b → (if b then true else if is_primitive_enable i a.target then is_right_enable i x c p row a else not (looks_at_done i a)) ≡ true → RightAssign i c p a
      by_hole true is h = of_done is
      by_hole false is h = by_enable is (is_primitive_enable i a.target) refl h

  start_is : (o : Option ℕ) → starts i x c p row o ≡ true → (e : ℕ) × (o ≡ Some e) × ((a : PlainAssign) × In x.assigns a × (a.target ≡ ports.Cell c e))
  start_is None e = no_true e
  start_is (Some k) e =
      let r = a_target (same_port (ports.Cell c k)) x.assigns e in
      (k, refl, (r.0, r.1, sym (same_is (ports.Cell c k) r.0.target r.2)))

alone_is : {A : Type 0} (x y : A) → In (x ∷ []) y → y ≡ x
alone_is x y (inl e) = sym e
alone_is x y (inr j) = absurd j

module _ (i : Instance) (x : PlainGroup) (n : ℕ) (plain : is_plain x.kind ≡ true) (no_part : some_target (is_part_port i) x.assigns ≡ false)
    (done : PlainAssign) (only : filter (λ a. is_hole a.target) x.assigns ≡ done ∷ []) (bare : is_always done.guard ≡ true) where
  of_kept : (c p : ℕ) → done.source.port ≡ ports.Cell c p → (row : Row) → cell_at (cells_of i) c ≡ OfRow row → keeps_all i x c p row ≡ true → cycles_of row.shape ≡ Some n → Shape i x n
  of_kept c p source row at keeps length =
      let outer = and_both _ (not (list_any (looks_at_done i) (part_of i).always)) keeps in
      let middle = and_both (is_named names.Done row.ports p && starts i x c p row (starting_port row)) _ outer.0 in
      let inner = and_both (is_named names.Done row.ports p) _ middle.0 in
      let begun = start_is i x c p row (starting_port row) inner.1 in
      let hole : PlainAssign → Bool = λ a. is_hole a.target in
      let first : In (filter hole x.assigns) done = subst (λ list. In list done) (sym only) (inl refl) in
      let stands = of_filter hole x.assigns done first in
      record {
        plain = plain;
        no_part = no_part;
        done = done;
        done_stands = stands.0;
        done_hole = stands.1;
        only_done = λ a j e. alone_is done a (subst (λ list. In list a) only (in_filter hole x.assigns a j e));
        done_bare = always_is done.guard bare;
        cell = c;
        port = p;
        done_source = source;
        row = row;
        at = at;
        named = inner.0;
        length = length;
        start = begun.0;
        starting = begun.1;
        starts = begun.2;
        right = λ a j. right_is i x c p row a (all_pass (is_right i x c p row) x.assigns a middle.1 j);
        quiet = λ a j. none_pass (looks_at_done i) (part_of i).always a (from_not (list_any (looks_at_done i) (part_of i).always) outer.1) j;
      }

  of_length : (c p : ℕ) → done.source.port ≡ ports.Cell c p → (row : Row) → cell_at (cells_of i) c ≡ OfRow row → (b : Bool) → keeps_all i x c p row ≡ b → length_if i x c p row b ≡ Some n → Shape i x n
  of_length c p source row at true keeps e = of_kept c p source row at keeps e
  of_length c p source row at false keeps e = no_some n e

  of_at : (c p : ℕ) → done.source.port ≡ ports.Cell c p → (at : At) → cell_at (cells_of i) c ≡ at → of_cell i x c p at ≡ Some n → Shape i x n
  of_at c p source Nothing at e = no_some n e
  of_at c p source (OfRow row) at e = of_length c p source row at (keeps_all i x c p row) refl e
  of_at c p source (OfInstance child) at e = no_some n e

  of_port : (port : PortRef) → done.source.port ≡ port → of_source i x port ≡ Some n → Shape i x n
  of_port (ports.Cell c p) source e = of_at c p source (cell_at (cells_of i) c) refl e
  of_port (ports.Input k) source e = no_some n e
  of_port (ports.Output k) source e = no_some n e
  of_port (ports.Done g) source e = no_some n e
  of_port (ports.Literal w v) source e = no_some n e

-- WHAT PROMOTABLE TELLS
pub shape_of : (i : Instance) (x : PlainGroup) (n : ℕ) → promotable i x ≡ Some n → Shape i x n
shape_of i x n e = by_test (is_plain x.kind && not (some_target (is_part_port i) x.assigns)) refl e
  where
    by_always : is_plain x.kind ≡ true → some_target (is_part_port i) x.assigns ≡ false → (done : PlainAssign) → filter (λ a. is_hole a.target) x.assigns ≡ done ∷ []
        → (b : Bool) → is_always done.guard ≡ b → (if b then of_source i x done.source.port else None) ≡ Some n → Shape i x n
    by_always plain no_part done only true bare h = of_port i x n plain no_part done only bare done.source.port refl h
    by_always plain no_part done only false bare h = no_some n h

    by_dones : is_plain x.kind ≡ true → some_target (is_part_port i) x.assigns ≡ false → (list : List PlainAssign) → filter (λ a. is_hole a.target) x.assigns ≡ list → of_dones i x list ≡ Some n → Shape i x n
    by_dones plain no_part [] is h = no_some n h
    by_dones plain no_part (done ∷ []) is h = by_always plain no_part done is (is_always done.guard) refl h
    by_dones plain no_part (a ∷ b ∷ rest) is h = no_some n h

    by_test : (b : Bool) → (is_plain x.kind && not (some_target (is_part_port i) x.assigns)) ≡ b → (if b then of_dones i x (filter (λ a. is_hole a.target) x.assigns) else None) ≡ Some n → Shape i x n
    by_test true is h =
        let both = and_both (is_plain x.kind) (not (some_target (is_part_port i) x.assigns)) is in
        by_dones both.0 (from_not (some_target (is_part_port i) x.assigns) both.1) (filter (λ a. is_hole a.target) x.assigns) refl h
    by_test false is h = no_some n h
