-- The nodes of the first ports of cells, as they are listed before any run and as they are asked for.
use Rattle.std.proofs.Common.{◌≡◌, ℕ, ◌+◌, ⊎_elim, List, [], ◌∷◌, ◌++◌, length, Option, Some, None, refl, sym, ap, ◌∙◌, subst}
use Rattle.std.specs.Prelude.{slice_get}
use Rattle.std.specs.declared.vec.Vec.{Vec}
use Rattle.std.proofs.lemmas.List.{length-append}
use Rattle.cx_prim.specs.Table.{PrimitiveRow, row_of}
use Rattle.cx_meaning.specs.declared.ports.PortRef.TheVariants.{Cell}
use Rattle.cx_meaning.specs.Designs.{OfPrimitive, PlainDesign, component_at}
use Rattle.cx_state.specs.declared.tables.InstanceRow.{InstanceRow}
use Rattle.cx_state.specs.Tables.{row_at}
use Rattle.cx_eval_drives.specs.Gathers.{AreWide, ports_seen}
use Rattle.cx_eval_network.specs.declared.asking.Asking.{Asking}
use Rattle.cx_eval_network.specs.Askings.{IsAsking, asked_of}
use Rattle.cx_eval_network.specs.Nodes.{node_at}
use Rattle.cx_eval_cycle.specs.Passes.{kind_at}
use Rattle.cx_eval.specs.Firsts.{AreFirsts, HaveFirsts, or_zero}
use Rattle.cx_eval.specs.Looked.{StandFirst, StandFrom, own_cells, seen_look}
use Rattle.cx_eval.proofs.NodePlaces.{none_stand, stand_from_first}
use Rattle.cx_text.proofs.ListLaws.{either_at}

-- AS THEY ARE LISTED: one cell more, and one instance more
pub record HaveFirstsOf {A : Type 0} (d : PlainDesign) (rows : List InstanceRow) (count : ℕ) (firsts : List (Vec ℕ A)) : Type 0 where
  pub sized : length firsts ≡ count
  pub each : (n : ℕ) (own : Vec ℕ A) → slice_get firsts n ≡ Some own → AreFirsts d rows n (length (component_at d (row_at rows n).component).cells) own.items

none_there : (k first : ℕ) → slice_get [] k ≡ Some first → ⊥
none_there k first e = absurd (let f : None ≡ Some first = e in cc)

module _ (d : PlainDesign) (rows : List InstanceRow) where
  pub no_firsts : (n : ℕ) → AreFirsts d rows n 0 []
  no_firsts n = record { sized = refl; each = λ k first e. absurd (none_there k first e) }

  pub firsts_more : (n c : ℕ) (old new : List ℕ) (x : ℕ) → AreFirsts d rows n c old → new ≡ old ++ x ∷ [] → x ≡ or_zero (node_at d rows n (Cell c 0)) → AreFirsts d rows n (c + 1) new
  firsts_more n c old new x are is at = record {
    sized = ap length is ∙ length-append old (x ∷ []) ∙ ap (λ k. k + 1) are.sized;
    each =
        λ k first e.
        ⊎_elim (λ f. are.each k first f)
        (λ f. sym f.1 ∙ at ∙ ap (λ m. or_zero (node_at d rows n (Cell m 0))) (sym (f.0 ∙ are.sized)))
        (either_at old x first k (ap (λ xs. slice_get xs k) (sym is) ∙ e));
  }

  module _ {A : Type 0} where
    abbrev Own : ℕ → Vec ℕ A → Type 0
    Own n own = AreFirsts d rows n (length (component_at d (row_at rows n).component).cells) own.items

    pub rows_more : (n : ℕ) (old new : List (Vec ℕ A)) (x : Vec ℕ A) → HaveFirstsOf d rows n old → new ≡ old ++ x ∷ [] → Own n x → HaveFirstsOf d rows (n + 1) new
    rows_more n old new x have is own = record {
      sized = ap length is ∙ length-append old (x ∷ []) ∙ ap (λ k. k + 1) have.sized;
      each =
          λ k other e.
          ⊎_elim (λ f. have.each k other f)
          (λ f. subst (Own k) f.1 (subst (λ m. Own m x) (sym (f.0 ∙ have.sized)) own))
          (either_at old x other k (ap (λ xs. slice_get xs k) (sym is) ∙ e));
    }

    pub all_rows : (n : ℕ) (firsts : List (Vec ℕ A)) → HaveFirstsOf d rows n firsts → n ≡ length rows → HaveFirsts d rows firsts
    all_rows n firsts have all = record { count = have.sized ∙ all; each = have.each }

-- AS THEY ARE ASKED FOR: the ports of each primitive of the asked instance stand from its first node on
module _ (asking : Asking) (can : IsAsking asking) where
  abbrev IsFirstAt : ℕ → ℕ → Type 0
  IsFirstAt c first = first ≡ or_zero (node_at (asked_of asking).design (asked_of asking).rows asking.instance (Cell c 0))

  stand_at : (c first : ℕ) (p : PrimitiveRow) → AreWide (ports_seen (seen_look asking) c) (row_of p).ports → kind_at (own_cells asking) c ≡ Some (OfPrimitive p) → IsFirstAt c first → StandFrom asking c (row_of p).ports first
  stand_at c first p wide kind is = by (node_at (asked_of asking).design (asked_of asking).rows asking.instance (Cell c 0)) refl is
    where
      by : (o : Option ℕ) → node_at (asked_of asking).design (asked_of asking).rows asking.instance (Cell c 0) ≡ o → first ≡ or_zero o → StandFrom asking c (row_of p).ports first
      by (Some node) at e = stand_from_first asking can c p kind wide first (at ∙ ap Some (sym e))
      by None at e = subst (StandFrom asking c (row_of p).ports) (sym e) (none_stand asking can c p kind wide at)

  pub stand_first : ((c : ℕ) (p : PrimitiveRow) → kind_at (own_cells asking) c ≡ Some (OfPrimitive p) → AreWide (ports_seen (seen_look asking) c) (row_of p).ports) → (firsts : List ℕ)
      → AreFirsts (asked_of asking).design (asked_of asking).rows asking.instance (length (own_cells asking)) firsts → StandFirst asking firsts
  stand_first wide firsts are = record {
    count = are.sized;
    each = λ c first p at kind. stand_at c first p (wide c p kind) kind (are.each c first at);
  }
