-- THE COMPONENTS THAT THE FLAT MAIN REACHES are those that main is made of and that are not static.
use Rattle.std.proofs.Common.{◌≡◌, ℕ, zero, suc, ◌+◌, ◌-◌, ◌<◌, ◌≤◌, Bool, true, false, nat_eq, List, [], ◌∷◌, ◌⊎◌, inl, inr, ⊎_elim, length, refl, sym, ap, ◌∙◌, subst, arith}
use Rattle.std.proofs.lemmas.Bool.{eqb-true}
use Rattle.cx_meaning.specs.Designs.{PlainKind, OfPrimitive, OfComponent, PlainCell, PlainDesign, component_at}
use Rattle.cx_text.specs.Members.{In}
use Rattle.cx_meaning.proofs.DesignsLemmas.{same_part}
use Rattle.cx_rules.specs.Ports.{component_of}
use Rattle.cx_rules.specs.Wellformed.{LeadsTo, by_cell, by_way_of, IsDesign}
use Rattle.cx_rules.proofs.Finite.{Distinct}
use Rattle.std.specs.Prelude.{is_some}
use Rattle.cx_flattening.specs.Whole.{is_static}
use Rattle.cx_flattening.specs.FlatDesign.{kind_of, any_of, flat_of, leads_within, is_reached}
use Rattle.cx_flattening.proofs.Reached.{itself, leads_far, leads_further}
use Rattle.cx_flattening.proofs.TreeLevels.{few_below, child_there}
use Rattle.cx_design_copies.specs.Reaching.{IsMadeOf}
use Rattle.cx_flat.proofs.FlatLemmas.{stands_in, below, own_has, child_has}
use Rattle.cx_design_copies.proofs.EdgeLemmas.{HasCell}
use Rattle.cx_text.proofs.BoolLaws.{or_either}

-- one of the cells is of a component with the property
any_is : (property : ℕ → Bool) (cs : List PlainCell) → any_of property cs ≡ true → (j : ℕ) × HasCell cs j × (property j ≡ true)
any_is property [] e = absurd (cc)
any_is property (c ∷ cs) e = ⊎_elim (λ h. here c.kind refl h) (λ h. let r = any_is property cs h in (r.0, (r.1.0, inr r.1.1, r.1.2), r.2)) (or_either (kind_of property c.kind) (any_of property cs) e)
  where
    here : (kind : PlainKind) → c.kind ≡ kind → kind_of property kind ≡ true → (j : ℕ) × HasCell (c ∷ cs) j × (property j ≡ true)
    here (OfPrimitive primitive) is h = absurd (cc)
    here (OfComponent j) is h = (j, (c, inl refl, is), h)

module _ (d : PlainDesign) (rules : IsDesign d) where
  main_dynamic : is_static (component_of d d.main) ≡ false
  main_dynamic = ap (λ p. is_some p.latency) (same_part d (length d.components) d.main) ∙ ap is_some rules.main_dynamic

  -- what is reached is below
  abbrev IsUnder : ℕ → ℕ → Type 0
  IsUnder j k = ((j ≡ k) ⊎ LeadsTo d j k) × (is_static (component_of d k) ≡ false)

  leads_under : (n k j : ℕ) → j < length d.components → is_static (component_of d j) ≡ false → leads_within d n k j ≡ true → IsUnder j k
  leads_under zero k j there dynamic e = let same : j ≡ k = eqb-true j k e in (inl same, subst (λ x. is_static (component_of d x) ≡ false) same dynamic)
  leads_under (suc n) k j there dynamic e =
      ⊎_elim
      (λ h. let same : j ≡ k = eqb-true j k h in (inl same, subst (λ x. is_static (component_of d x) ≡ false) same dynamic))
      (λ h. next (λ i there dynamic more. leads_under n k i there dynamic more) (any_is (leads_within d n k) (flat_of d j).cells h))
      (or_either (nat_eq j k) (any_of (leads_within d n k) (flat_of d j).cells) e)
    where
      join : (i : ℕ) → LeadsTo d j i → IsUnder i k → IsUnder j k
      join i leads (inl same, dyn) = (inr (subst (LeadsTo d j) same leads), dyn)
      join i leads (inr more, dyn) = (inr (by_way_of i leads more), dyn)

      next : ((i : ℕ) → i < length d.components → is_static (component_of d i) ≡ false → leads_within d n k i ≡ true → IsUnder i k) → (i : ℕ) × HasCell (flat_of d j).cells i × (leads_within d n k i ≡ true) → IsUnder j k
      next deeper (i, has, more) = let b = below d rules j i there has in join i b.leads (deeper i b.there b.dynamic more)

  pub reached_is : (k : ℕ) → is_reached d k ≡ true → IsMadeOf d k × (is_static (component_of d k) ≡ false)
  reached_is k e = leads_under (length d.components) k d.main rules.main_there main_dynamic e

  -- a component that stands for itself, over those above it, none twice
  record IsTop (ups : List ℕ) (t : ℕ) : Type 0 where
    apart : Distinct (t ∷ ups)
    there : (u : ℕ) → In (t ∷ ups) u → u < length d.components
    leads : (u : ℕ) → In ups u → LeadsTo d u t
    steps : leads_within d (length ups) t d.main ≡ true

  -- a component is such a one, or stands in its flat form
  record StandsIn (k : ℕ) : Type 0 where
    ups : List ℕ
    top : ℕ
    is_top : IsTop ups top
    above : (top ≡ k) ⊎ LeadsTo d top k
    as_own : is_static (component_of d k) ≡ false → top ≡ k
    there : k < length d.components
    holds : (j : ℕ) → HasCell (flat_of d k).cells j → HasCell (flat_of d top).cells j

  main_stands : StandsIn d.main
  main_stands = record {
    ups = [];
    top = d.main;
    is_top = record {
      apart = (λ i. absurd i, tt);
      there = λ u i. ⊎_elim (λ (e : d.main ≡ u). subst (λ x. x < length d.components) e rules.main_there) (λ i. absurd i) i;
      leads = λ u i. absurd i;
      steps = itself d 0 d.main;
    };
    above = inl refl;
    as_own = λ dynamic. refl;
    there = rules.main_there;
    holds = λ j h. h;
  }

  further_above : (t m k : ℕ) → (t ≡ m) ⊎ LeadsTo d t m → LeadsTo d m k → LeadsTo d t k
  further_above t m k (inl e) l = subst (λ x. LeadsTo d x k) (sym e) l
  further_above t m k (inr a) l = by_way_of m a l

  module _ (m k : ℕ) (cell : PlainCell) (s : StandsIn m) (here : In (component_at d m).cells cell) (kind : cell.kind ≡ OfComponent k) where
    has : HasCell (component_at d m).cells k
    has = (cell, here, kind)

    there : k < length d.components
    there = child_there d rules m k cell s.there here kind

    above : LeadsTo d s.top k
    above = further_above s.top m k s.above (by_cell k cell here kind)

    in_static : is_static (component_of d k) ≡ true → StandsIn k
    in_static static = record {
      ups = s.ups;
      top = s.top;
      is_top = s.is_top;
      above = inr above;
      as_own = λ dynamic. absurd (let no : true ≡ false = sym static ∙ dynamic in cc);
      there = there;
      holds = λ j h. s.holds j (child_has d rules m k j s.there has static h);
    }

    new_top : is_static (component_of d k) ≡ false → IsTop (s.top ∷ s.ups) k
    new_top dynamic = record {
      apart = (fresh, s.is_top.apart);
      there = at;
      leads = down;
      steps = (let r = stands_in (flat_of d s.top).cells k (s.holds k (own_has d rules m k s.there has dynamic)) in leads_further d (length s.ups) d.main s.top k r.0 s.is_top.steps r.1);
    }
      where
        down : (u : ℕ) → In (s.top ∷ s.ups) u → LeadsTo d u k
        down u (inl e) = subst (λ x. LeadsTo d x k) e above
        down u (inr i) = by_way_of s.top (s.is_top.leads u i) above

        fresh : In (s.top ∷ s.ups) k → ⊥
        fresh i = rules.not_recursive k (down k i)

        at : (u : ℕ) → In (k ∷ s.top ∷ s.ups) u → u < length d.components
        at u (inl e) = subst (λ x. x < length d.components) e there
        at u (inr i) = s.is_top.there u i

    as_itself : is_static (component_of d k) ≡ false → StandsIn k
    as_itself dynamic = record {
      ups = s.top ∷ s.ups;
      top = k;
      is_top = new_top dynamic;
      above = inl refl;
      as_own = λ _. refl;
      there = there;
      holds = λ j h. h;
    }

    step : StandsIn k
    step = by (is_static (component_of d k)) refl
      where
        by : (b : Bool) → is_static (component_of d k) ≡ b → StandsIn k
        by true e = in_static e
        by false e = as_itself e

  leads_stand : (m k : ℕ) → LeadsTo d m k → StandsIn m → StandsIn k
  leads_stand m k (by_cell j cell i e) s = step m k cell s i e
  leads_stand m k (by_way_of j a b) s = leads_stand j k b (leads_stand m j a s)

  made_stands : (k : ℕ) → IsMadeOf d k → StandsIn k
  made_stands k (inl e) = subst StandsIn e main_stands
  made_stands k (inr l) = leads_stand d.main k l main_stands

  pub is_reached_so : (k : ℕ) → IsMadeOf d k → is_static (component_of d k) ≡ false → is_reached d k ≡ true
  is_reached_so k made dynamic =
      let s = made_stands k made in
      let few : suc (length s.ups) ≤ length d.components = few_below (s.top ∷ s.ups) (length d.components) s.is_top.apart s.is_top.there in
      subst (λ n. leads_within d n k d.main ≡ true) (let e : (length d.components - length s.ups) + length s.ups ≡ length d.components = omega (arith, few) in e)
      (leads_far d (length d.components - length s.ups) (length s.ups) k d.main (subst (λ t. leads_within d (length s.ups) t d.main ≡ true) (s.as_own dynamic) s.is_top.steps))
