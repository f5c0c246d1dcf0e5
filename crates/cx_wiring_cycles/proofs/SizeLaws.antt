-- A statement has as many positions in its net as places in its coding.
use Rattle.std.proofs.Common.{◌≡◌, ℕ, suc, ◌+◌, zero, Option, Some, None, refl, ap, ap₂, ◌∙◌}
use Rattle.cx_text.specs.declared.places.Place.{Place}
use Rattle.cx_meaning.specs.declared.kinds.GroupKind.{GroupKind}
use Rattle.cx_meaning.specs.declared.kinds.GroupKind.TheVariants as kinds
use Rattle.cx_meaning.specs.Designs.{PlainComponent, PlainForm, Empty, Enable, Seq, Par, If, While, Repeat, StaticSeq, StaticPar, StaticIf, StaticRepeat, Timed, PlainStatement, Placed, PlainStatements, no_statements, a_statement, group_at}
use Rattle.cx_meaning.specs.Islands.{group_length}
use Rattle.cx_meaning.specs.Instances.{Instance, part_of}
use Rattle.cx_meaning.specs.Calls.{called}
use Rattle.cx_lockstep.specs.Statements.{LeafMachines}
use Rattle.cx_control.specs.Codings.{Coding}
use Rattle.cx_control.specs.StatementCodings.{LeafCodings, form_coding, statement_coding, parts_coding}
use Rattle.cx_control.specs.Leaves.{Coded}
use Rattle.cx_control.specs.Controls.{called_coding, kind_coding, leaf_codings}
use Rattle.cx_static.specs.Lowering.{Lowering, after, lowered, lowered_parts, lowered_enable}
use Rattle.cx_wiring.specs.Counts.{positions_of, positions_in}

module _ {X : Type 0} {V : X → Type 0} {F : Type 0} (leaves : LeafMachines X V F) (codings : LeafCodings leaves) (part : PlainComponent)
    (enable_one : (g : ℕ) → Coding.size (LeafCodings.enable codings g) ≡ 1) (island_one : (form : PlainForm) → Coding.size (LeafCodings.island codings form) ≡ 1) where
  mutual
    form_size : (form : PlainForm) (place : Place) (l : Lowering) → Coding.size (form_coding leaves codings form) ≡ positions_of (lowered part (Placed form place) l)
    form_size Empty place l = refl
    form_size (Enable g) place l = enable_one g ∙ kind (group_length part g)
      where
        kind : (o : Option ℕ) → 1 ≡ positions_of (Placed (lowered_enable part g o l) place)
        kind None = refl
        kind (Some cycles) = refl
    form_size (Seq no_statements) place l = refl
    form_size (Seq (a_statement s ss)) place l = ap₂ (λ a b. a + b) (size_is s l) (parts_size ss (after part s l))
    form_size (Par no_statements) place l = refl
    form_size (Par (a_statement s ss)) place l = refl
    form_size (If test comb a b) place l = ap₂ (λ m n. suc (m + n)) (size_is a l) (size_is b (after part a l))
    form_size (While test comb a) place l = ap suc (size_is a l)
    form_size (Repeat zero a) place l = refl
    form_size (Repeat (suc k) a) place l = size_is a l
    form_size (StaticSeq written parts) place l = island_one (StaticSeq written parts)
    form_size (StaticPar written arms) place l = island_one (StaticPar written arms)
    form_size (StaticIf written test a b) place l = island_one (StaticIf written test a b)
    form_size (StaticRepeat written count a) place l = island_one (StaticRepeat written count a)
    form_size (Timed k) place l = refl

    pub size_is : (s : PlainStatement) (l : Lowering) → Coding.size (statement_coding leaves codings s) ≡ positions_of (lowered part s l)
    size_is (Placed form place) l = form_size form place l

    pub parts_size : (ss : PlainStatements) (l : Lowering) → Coding.size (parts_coding leaves codings ss) ≡ positions_in (lowered_parts part ss l)
    parts_size no_statements l = refl
    parts_size (a_statement s ss) l = ap₂ (λ a b. a + b) (size_is s l) (parts_size ss (after part s l))

-- the leaves of an instance are one place each
module _ (i : Instance) (children : ℕ → Coded) where
  called_one : (g : ℕ) (o : Option ℕ) → Coding.size (called_coding i children g o) ≡ 1
  called_one g None = refl
  called_one g (Some c) = refl

  kind_one : (g : ℕ) (kind : GroupKind) → Coding.size (kind_coding i children g kind) ≡ 1
  kind_one g kinds.Plain = called_one g (called i g)
  kind_one g kinds.Comb = called_one g (called i g)
  kind_one g (kinds.Timed n) = refl

  pub enable_one : (g : ℕ) → Coding.size (LeafCodings.enable (leaf_codings i children) g) ≡ 1
  enable_one g = kind_one g (group_at (part_of i) g).kind

  pub island_one : (form : PlainForm) → Coding.size (LeafCodings.island (leaf_codings i children) form) ≡ 1
  island_one form = refl
