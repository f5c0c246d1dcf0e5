-- In an accepted design no arm drives what another reads, and no group is enabled in two arms.
use Rattle.std.proofs.Common.{ℕ, zero, suc, ◌<◌, inl, inr, length, refl, sym, subst, arith}
use Rattle.cx_text.proofs.MemberLaws.{number_in}
use Rattle.cx_text.specs.declared.rules.Rule.TheVariants.{Race}
use Rattle.cx_meaning.specs.Designs.{PlainDesign, component_at}
use Rattle.cx_meaning.specs.Instances.{part_of}
use Rattle.cx_text.specs.Members.{In}
use Rattle.cx_rules.specs.Ports.{component_of}
use Rattle.cx_rules.specs.Items.{Visited, statements_in}
use Rattle.cx_rules.specs.Spots.{AStatement}
use Rattle.cx_rules.specs.RaceRule.{arms_of, IsShared, IsEnabledTwice}
use Rattle.cx_rules.specs.Accepted.{IsAccepted}
use Rattle.cx_meaning.proofs.DesignsLemmas.{same_part}

module _ (d : PlainDesign) (accepted : IsAccepted d) (k : ℕ) (within : k < length d.components) where
  -- no cell that one arm drives and another reads
  shared_least : (v : Visited) → In (statements_in (component_at d k)) v → (c : ℕ) → ((e : ℕ) → e < c → IsShared (part_of (component_of d k)) (arms_of v.form) e → ⊥) → IsShared (part_of (component_of d k)) (arms_of v.form) c → ⊥
  shared_least v i c least shared =
      let n = number_in (statements_in (component_at d k)) v i in
      accepted.no_races Race (record { component = k; part = AStatement n.0 }) v.place _ refl
      (record { within = within; number = n.0; is = refl; statement = v; stands = n.1; breaks = inl (c, shared, least, (refl, refl)) })

  shared_below : (v : Visited) → In (statements_in (component_at d k)) v → (n e : ℕ) → e < n → IsShared (part_of (component_of d k)) (arms_of v.form) e → ⊥
  shared_below v i zero e l shared = absurd (omega arith)
  shared_below v i (suc n) e l shared = shared_least v i e (λ f m s. shared_below v i n f (omega arith) s) shared

  pub unshared : (v : Visited) → In (statements_in (component_at d k)) v → (c : ℕ) → IsShared (component_at d k) (arms_of v.form) c → ⊥
  unshared v i c shared = shared_below v i (suc c) c (omega arith) (subst (λ x. IsShared x (arms_of v.form) c) (sym (same_part d (length d.components) k)) shared)

  -- no group that two arms enable
  twice_least : (v : Visited) → In (statements_in (component_at d k)) v → (g : ℕ) → ((f : ℕ) → f < g → IsEnabledTwice (arms_of v.form) f → ⊥) → IsEnabledTwice (arms_of v.form) g → ⊥
  twice_least v i g least twice =
      let n = number_in (statements_in (component_at d k)) v i in
      accepted.no_races Race (record { component = k; part = AStatement n.0 }) v.place _ refl
      (record {
        within = within;
        number = n.0;
        is = refl;
        statement = v;
        stands = n.1;
        breaks = inr ((λ c shared. shared_below v i (suc c) c (omega arith) shared), (g, twice, least, (refl, refl)));
      })

  twice_below : (v : Visited) → In (statements_in (component_at d k)) v → (n f : ℕ) → f < n → IsEnabledTwice (arms_of v.form) f → ⊥
  twice_below v i zero f l twice = absurd (omega arith)
  twice_below v i (suc n) f l twice = twice_least v i f (λ e m s. twice_below v i n e (omega arith) s) twice

  pub not_twice : (v : Visited) → In (statements_in (component_at d k)) v → (g : ℕ) → IsEnabledTwice (arms_of v.form) g → ⊥
  not_twice v i g twice = twice_below v i (suc g) g (omega arith) twice
