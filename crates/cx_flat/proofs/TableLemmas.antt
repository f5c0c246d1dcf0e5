-- A table of flat components, made component by component of an order.
use Rattle.std.proofs.Common.{◌≡◌, ℕ, zero, suc, ◌+◌, ◌<◌, ◌≤◌, ◌⊎◌, inl, inr, List, [], ◌∷◌, Option, Some, None, get_or, length, take, set, refl, sym, ap, ◌∙◌, subst, arith}
use Rattle.std.specs.Prelude.{is_some, option_map}
use Rattle.std.specs.List.{slice_get}
use Rattle.std.proofs.lemmas.List.{length-set, get_or-set_same, get_or-set_other}
use Rattle.std.proofs.lemmas.Bool.{cases_eq}
use Rattle.cx_meaning.specs.Designs.{PlainComponent, PlainDesign, component_at}
use Rattle.cx_text.specs.Members.{In}
use Rattle.cx_rules.specs.Ports.{component_of}
use Rattle.cx_design.specs.declared.components.Component.{Component}
use Rattle.cx_design.specs.PlainForms.{plain_component}
use Rattle.cx_design_sizes.specs.Orders.{IsChildrenFirst}
use Rattle.cx_flattening.specs.Whole.{is_static}
use Rattle.cx_flattening.specs.Flattened.{kid_at, kid_if, flat_component}
use Rattle.cx_flattening.specs.FlatDesign.{flat_of}
use Rattle.cx_flat.specs.Tables.{plain_table, kids_of}
use Rattle.cx_flat.specs.Flats.{kid_of, AreKidsTo}
use Rattle.cx_flat.specs.Lasts.{AreLasts}
use Rattle.cx_flat.proofs.OrderLemmas.{in_taken, next_kid}
use Rattle.cx_design_copies.proofs.EdgeLemmas.{HasCell}
use Rattle.cx_text.proofs.ListLaws.{there_below}
use Rattle.cx_text.proofs.MemberLaws.{in_at}

kid_read : (table : List (Option Component)) (k : ℕ) → kid_at (plain_table table) k ≡ option_map plain_component (get_or table k None)
kid_read [] k = refl
kid_read (x ∷ xs) zero = refl
kid_read (x ∷ xs) (suc k) = kid_read xs k

pub kids_begin : (d : PlainDesign) (order lasts : List ℕ) (table : List (Option Component)) → length table ≡ length d.components → AreKidsTo d order lasts 0 table
kids_begin d order lasts table sized = record { sized = sized; known = λ j i needed. absurd i }

module _ (d : PlainDesign) (order lasts : List ℕ) (first : IsChildrenFirst d order) (last : AreLasts d order (length order) lasts) where
  -- what the next of the order has cells of is made, and still there
  pub kids_there : (i k : ℕ) (table : List (Option Component)) → AreKidsTo d order lasts i table → slice_get order i ≡ Some k → (j : ℕ) → HasCell (component_at d k).cells j → kid_of d j (plain_table table)
  kids_there i k table so_far at j has = so_far.known j (first.behind i k j has.0 at has.1 has.2) (last.last i k j has.0 (there_below order i k at) at has.1 has.2)

  -- ONE MORE is made, and what none behind it needs is let go
  pub kids_turn : (i k : ℕ) (table now : List (Option Component)) (part : PlainComponent) (kid : Option Component) → AreKidsTo d order lasts i table → slice_get order i ≡ Some k → part ≡ component_at d k
      → option_map plain_component kid ≡ kid_if (is_some part.latency) (flat_component (kids_of (plain_table table) part.cells) part) → length now ≡ length (set table k kid)
      → ((j : ℕ) → i < get_or lasts j 0 → get_or now j None ≡ get_or (set table k kid) j None) → AreKidsTo d order lasts (i + 1) now
  kids_turn i k table now part kid so_far at own is size left = record {
    sized = size ∙ length-set table k kid ∙ so_far.sized;
    known = λ j here needed.
        let further : i < get_or lasts j 0 = omega (arith, needed) in
        kid_read now j ∙ ap (option_map plain_component) (left j further) ∙ sym (kid_read (set table k kid) j)
        ∙ one j (cases_eq k j) further (in_taken order i k j at (subst (λ n. In (take n order) j) (let e : i + 1 ≡ suc i = omega arith in e) here));
  }
    where
      within : k < length table
      within = subst (λ n. k < n) (sym so_far.sized) (first.there k (in_at order i k at))

      right : option_map plain_component kid ≡ kid_if (is_static (component_of d k)) (flat_of d k)
      right = is ∙ next_kid d order first (plain_table table) i k part at own (kids_there i k table so_far at)

      one : (j : ℕ) → (k ≡ j) ⊎ (k ≡ j → ⊥) → i < get_or lasts j 0 → (k ≡ j) ⊎ In (take i order) j → kid_of d j (plain_table (set table k kid))
      one j (inl same) further here =
          subst (λ x. kid_of d x (plain_table (set table k kid))) same (kid_read (set table k kid) k ∙ ap (option_map plain_component) (get_or-set_same table k kid None within) ∙ right)
      one j (inr other) further (inl same) = absurd (other same)
      one j (inr other) further (inr before) =
          kid_read (set table k kid) j ∙ ap (option_map plain_component) (get_or-set_other table k j kid None (λ e. other (sym e))) ∙ sym (kid_read table j)
          ∙ so_far.known j before (let e : i ≤ get_or lasts j 0 = omega (arith, further) in e)

-- behind the last component
pub kids_end : (d : PlainDesign) (order lasts : List ℕ) (i : ℕ) (table : List (Option Component)) → length order ≤ i → i ≤ length order → AreKidsTo d order lasts i table → AreKidsTo d order lasts (length order) table
kids_end d order lasts i table past within so_far = subst (λ n. AreKidsTo d order lasts n table) (let e : i ≡ length order = omega (arith, past, within) in e) so_far
