-- Which components are kept, and the flat components of those that are, for a design that keeps what every design keeps.
use Rattle.std.proofs.Common.{◌≡◌, ℕ, ◌+◌, ◌<◌, Bool, true, false, List, [], ◌∷◌, Option, Some, None, get_or, length, map, take, refl, sym, ap, ◌∙◌, subst, arith}
use Rattle.std.specs.Prelude.{◌&&◌, is_none, is_some}
use Rattle.std.specs.List.{range_with_len, slice_get}
use Rattle.std.proofs.Math.Logic.{∥∥₁_elim}
use denote.Struct.Props.{props}
use Rattle.std.proofs.lemmas.Option.{slice_get-get_or}
use Rattle.std.proofs.lemmas.List.FromFn.{get_or-map-range_with_len, length-map-range_with_len}
use Rattle.cx_meaning.specs.Designs.{PlainComponent, PlainDesign, component_at}
use Rattle.cx_rules.specs.Wellformed.{IsDesign}
use Rattle.cx_flattening.specs.Flattened.{Kids, flat_component}
use Rattle.cx_flattening.specs.FlatDesign.{flat_of, is_reached, renumbered_part}
use Rattle.cx_design_sizes.specs.Orders.{IsChildrenFirst}
use Rattle.cx_flat.specs.Tables.{kids_of, plain_table}
use Rattle.cx_design_copies.specs.Reaching.{AreMadeOf}
use Rattle.cx_flat.specs.Flats.{AreKids, AreKidsTo, kept_for, part_if, numbers_of, renumbered_by}
use Rattle.cx_flat.specs.Lasts.{AreLasts}
use Rattle.cx_text.specs.Members.{In}
use Rattle.cx_flat.proofs.FlatLemmas.{below}
use Rattle.cx_flat.proofs.ReachLemmas.{reached_is, is_reached_so}
use Rattle.cx_flat.proofs.OrderLemmas.{static_is, is_there, there_is, in_take, made_in, kids_made}
use Rattle.cx_text.proofs.ListLaws.{take_all, there_below}
use Rattle.cx_text.proofs.MemberLaws.{number_in}
use Rattle.cx_design.specs.declared.components.Component.{Component}
use Rattle.cx_flat.proofs.NumberLemmas.{number_is, part_renumbered}

module _ (d : PlainDesign) (keeps : ∥ IsDesign d ∥₁) where
  -- a component is kept where main is made of it and it is not static
  pub kept_is : (marks : List Bool) (k : ℕ) → AreMadeOf d marks → k < length d.components → get_or marks k false && is_none ((component_at d k).latency) ≡ is_reached d k
  kept_is marks k made less = ∥∥₁_elim keeps (hlevel props) (λ rules. by rules (get_or marks k false) refl ((component_at d k).latency) refl (is_reached d k) refl)
    where
      at : slice_get marks k ≡ Some (get_or marks k false)
      at = slice_get-get_or marks k false (let size = made.sized in omega (arith, size, less))

      by : IsDesign d → (m : Bool) → get_or marks k false ≡ m → (l : Option ℕ) → (component_at d k).latency ≡ l → (r : Bool) → is_reached d k ≡ r → m && is_none l ≡ r
      by rules true e None f true g = refl
      by rules true e None f false g = sym (is_reached_so d rules k (made.sound k (at ∙ ap (λ x. Some x) e)) (static_is d k ∙ ap is_some f)) ∙ g
      by rules true e (Some n) f true g = absurd (let no : true ≡ false = sym (static_is d k ∙ ap is_some f) ∙ (reached_is d rules k g).1 in cc)
      by rules true e (Some n) f false g = refl
      by rules false e l f true g = absurd (let no : Some false ≡ Some true = sym (at ∙ ap (λ x. Some x) e) ∙ made.all k (reached_is d rules k g).0 in cc)
      by rules false e l f false g = refl

  -- what is reached is in an order in which children come first
  reached_in : (order : List ℕ) (k : ℕ) → IsChildrenFirst d order → is_reached d k ≡ true → In order k
  reached_in order k first reached = there_is order k (∥∥₁_elim keeps (hlevel props) (λ rules. is_there order k (made_in d order first k (reached_is d rules k reached).0)))

  -- what is reached is not static
  reached_moves : (k : ℕ) → is_reached d k ≡ true → is_some ((component_at d k).latency) ≡ false
  reached_moves k reached = ∥∥₁_elim keeps (hlevel props) (λ rules. sym (static_is d k) ∙ (reached_is d rules k reached).1)

  -- the table behind all of the order
  pub kids_are : (order lasts : List ℕ) (table : List (Option Component)) → IsChildrenFirst d order → AreLasts d order (length order) lasts → AreKidsTo d order lasts (length order) table → AreKids d (plain_table table)
  kids_are order lasts table first last made k reached =
      let r = number_in order k (reached_in order k first reached) in
      kids_made d order first (plain_table table) r.0 k r.1
      (λ j has. made.known j (in_taken_all order j (in_take r.0 order j (first.behind r.0 k j has.0 r.1 has.1 has.2)))
      (last.end r.0 k j has.0 (there_below order r.0 k r.1) r.1 has.1 has.2 (reached_moves k reached)))
    where
      in_taken_all : (xs : List ℕ) (j : ℕ) → In xs j → In (take (length xs) xs) j
      in_taken_all xs j here = subst (λ ys. In ys j) (sym (take_all xs (length xs) (omega arith))) here

  -- the component that is made for one that is reached
  pub part_made : (table : Kids) (marks : List Bool) (k : ℕ) (part flat : PlainComponent) → AreKids d table → marks ≡ map (is_reached d) (range_with_len 0 (length d.components)) → k < length d.components
      → is_reached d k ≡ true → part ≡ component_at d k → flat ≡ flat_component (kids_of table part.cells) part → renumbered_by (numbers_of 0 marks) flat ≡ renumbered_part d (flat_of d k)
  part_made table marks k part flat kids are less reached is made =
      ap (renumbered_by (numbers_of 0 marks)) (made ∙ ap (λ (p : PlainComponent). flat_component (kids_of table p.cells) p) is ∙ kids k reached)
      ∙ part_renumbered d (numbers_of 0 marks) (flat_of d k)
      (λ j has. ∥∥₁_elim keeps (hlevel props) (λ rules. number_is d marks (length d.components) j are ((below d rules k j less has).there)))

-- what is marked is reached
pub mark_is : (d : PlainDesign) (marks : List Bool) (k : ℕ) → marks ≡ map (is_reached d) (range_with_len 0 (length d.components)) → k < length d.components → get_or marks k false ≡ is_reached d k
mark_is d marks k are less = ap (λ ms. get_or ms k false) are ∙ get_or-map-range_with_len (is_reached d) 0 (length d.components) k k false less (let e : 0 + k ≡ k = omega arith in e)

-- what is made for a number
pub kept_one : (d : PlainDesign) (k : ℕ) (part : PlainComponent) → is_reached d k ≡ true → part ≡ renumbered_part d (flat_of d k) → part ∷ [] ≡ kept_for d k
kept_one d k part reached is = ap (λ p. p ∷ []) is ∙ ap (λ b. part_if b (renumbered_part d (flat_of d k))) (sym reached)

pub kept_none : (d : PlainDesign) (k : ℕ) → is_reached d k ≡ false → [] ≡ kept_for d k
kept_none d k reached = ap (λ b. part_if b (renumbered_part d (flat_of d k))) (sym reached)

pub marks_length : (d : PlainDesign) (marks : List Bool) → marks ≡ map (is_reached d) (range_with_len 0 (length d.components)) → length marks ≡ length d.components
marks_length d marks are = ap length are ∙ length-map-range_with_len (is_reached d) 0 (length d.components)
