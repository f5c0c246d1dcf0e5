-- THE LIST OF AN ISLAND of the flat component, beside that of the tree.
use Rattle.std.proofs.Common.{◌≡◌, ℕ, ◌+◌, List, [], ◌∷◌, length, map, Option, Some, None, refl, sym, ap, ◌∙◌, subst, arith}
use Rattle.cx_meaning.specs.declared.ports.PortRef.{PortRef}
use Rattle.cx_meaning.specs.declared.ports.PortRef.TheVariants as ports
use Rattle.cx_meaning.specs.Designs.{PlainForm, Empty, Enable, Seq, Par, If, While, Repeat, StaticSeq, StaticPar, StaticIf, StaticRepeat, Timed, PlainStatement, Placed, PlainStatements, no_statements, a_statement}
use Rattle.cx_meaning.specs.Instances.{Instance, Node, part_of, cells_of}
use Rattle.cx_meaning.specs.Active.{Entry, entries}
use Rattle.cx_meaning.specs.Control.{groups_in}
use Rattle.cx_meaning.specs.Islands.{form_flat, form_length, active_in, looked_at, group_length}
use Rattle.cx_meaning.specs.Islands as islands
use Rattle.cx_rules.specs.Invokes.{form_lasts}
use Rattle.cx_flattening.specs.Events.{Spot, spot}
use Rattle.cx_flattening.specs.Deeds.{History, Deed, Acts, Fed, own_entries, deeds_in, looked_in}
use Rattle.cx_flattening.specs.Copies.{copied_comb, copied_form, copied_statement, copied_statements}
use Rattle.cx_flattening.specs.Flattened.{flat_kids, flat_part, flat_form}
use Rattle.cx_flattening.specs.Acting.{ActsAs}
use Rattle.cx_flattening.specs.Fair.{AllFair}
use Rattle.cx_flattening.specs.Controlled.{AllControlled}
use Rattle.cx_flattening.specs.FedOnce.{FedOnce}
use Rattle.cx_flattening.specs.Sampling.{AllSpots, SampledAlike, AgreesAt}
use Rattle.cx_flattening.specs.Lists.{IsStaticOf, island_events}
use Rattle.cx_flattening.proofs.FlatLengths.{kids_last, form_lasting}
use Rattle.cx_flattening.proofs.FlatDeeds.{lower, entry_by, Found, kids_found, form_found}
use Rattle.cx_flattening.proofs.Windows.{kids_within}
use Rattle.cx_flattening.proofs.FlatActs.{acts_of}
use Rattle.cx_flattening.proofs.FlatLooks.{AllRelated, form_looks, kids_look}

-- a copy in which nothing becomes another is what it copies
comb_still : (comb : Option ℕ) → copied_comb (λ g. g) comb ≡ comb
comb_still None = refl
comb_still (Some g) = refl

mutual
  pub form_still : (form : PlainForm) → copied_form (λ q. q) (λ g. g) form ≡ form
  form_still Empty = refl
  form_still (Enable g) = refl
  form_still (Seq parts) = ap Seq (statements_still parts)
  form_still (Par arms) = ap Par (statements_still arms)
  form_still (If test comb a b) =
      ap (λ c. If test c (copied_statement (λ q. q) (λ g. g) a) (copied_statement (λ q. q) (λ g. g) b)) (comb_still comb)
      ∙ ap (λ x. If test comb x (copied_statement (λ q. q) (λ g. g) b)) (statement_still a) ∙ ap (If test comb a) (statement_still b)
  form_still (While test comb a) = ap (λ c. While test c (copied_statement (λ q. q) (λ g. g) a)) (comb_still comb) ∙ ap (While test comb) (statement_still a)
  form_still (Repeat count a) = ap (Repeat count) (statement_still a)
  form_still (StaticSeq length parts) = ap (StaticSeq length) (statements_still parts)
  form_still (StaticPar length arms) = ap (StaticPar length) (statements_still arms)
  form_still (StaticIf length test a b) = ap (λ x. StaticIf length test x (copied_statement (λ q. q) (λ g. g) b)) (statement_still a) ∙ ap (StaticIf length test a) (statement_still b)
  form_still (StaticRepeat length count a) = ap (StaticRepeat length count) (statement_still a)
  form_still (Timed k) = refl

  pub statement_still : (s : PlainStatement) → copied_statement (λ q. q) (λ g. g) s ≡ s
  statement_still (Placed form place) = ap (λ x. Placed x place) (form_still form)

  statements_still : (ss : PlainStatements) → copied_statements (λ q. q) (λ g. g) ss ≡ ss
  statements_still no_statements = refl
  statements_still (a_statement s ss) = ap (λ x. a_statement x (copied_statements (λ q. q) (λ g. g) ss)) (statement_still s) ∙ ap (a_statement s) (statements_still ss)

lower_still : (list : List Deed) → map (lower []) list ≡ list
lower_still [] = refl
lower_still (Acts at e ∷ rest) = ap (λ l. Acts at e ∷ l) (lower_still rest)
lower_still (Fed at c inputs ∷ rest) = ap (λ l. Fed at c inputs ∷ l) (lower_still rest)

entries_still : (list : List Entry) → map (entry_by (λ g. g)) list ≡ list
entries_still [] = refl
entries_still (e ∷ rest) = ap (λ l. e ∷ l) (entries_still rest)

-- THE LENGTH of an island
pub island_length : (i : Instance) (form : PlainForm) → AllFair i → AllControlled i → IsStaticOf i form → form_length (flat_part i) (flat_form (flat_kids (cells_of i)) (part_of i) form) ≡ form_lasts (part_of i) form
island_length (Node part cells) form fair controlled static =
    ap (form_length (flat_part (Node part cells))) (sym (form_still (flat_form (flat_kids cells) part form)))
    ∙ form_lasting part cells fair.0 controlled.0 (kids_last cells fair.1 controlled.1) (flat_part (Node part cells)) (λ q. q) (λ g. g) form static.enables static.timed (λ g i. refl)

-- WHAT ITS LIST DOES in a cycle
pub island_acts : (i : Instance) (form : PlainForm) (h : History) (k : islands.History) (t : ℕ) → AllFair i → AllControlled i → IsStaticOf i form → AgreesAt h k i 0 []
    → ((n u : ℕ) → k (ports.Input n) u ≡ h (spot [] (ports.Input n)) u) → FedOnce i (deeds_in h t (island_events i form))
    → ActsAs i (entries (own_entries (deeds_in h t (island_events i form)))) (deeds_in h t (island_events i form)) (entries (active_in k t (form_flat (flat_part i) (flat_form (flat_kids (cells_of i)) (part_of i) form) 0 [])))
island_acts (Node part cells) form h k t fair controlled static agree inputs once = whole found
  where
    zero_plus : (a : ℕ) → a ≡ 0 + a
    zero_plus a = omega arith

    found : Found (Node part cells) [] (λ g. g) (groups_in (flat_form (flat_kids cells) part form)) (deeds_in h t (island_events (Node part cells) form))
        (active_in k t (form_flat (flat_part (Node part cells)) (copied_form (λ q. q) (λ g. g) (flat_form (flat_kids cells) part form)) 0 []))
    found =
        form_found h k t part cells fair.0 controlled.0 (kids_last cells fair.1 controlled.1) (kids_within h t cells controlled.1) (kids_found h k t cells fair.1 controlled.1) (flat_part (Node part cells)) (λ q. q) (λ g. g) 0 [] (spot [])
        (record { cells = λ e p. ap (λ n. ports.Cell n p) (zero_plus e); literals = λ w v. refl; inputs = λ n less u. inputs n u; own_cells = λ c p. refl; own_literals = λ w v. refl }) agree form
        static.enables static.timed static.tests (λ g i. refl) 0 [] [] refl

    whole : Found (Node part cells) [] (λ g. g) (groups_in (flat_form (flat_kids cells) part form)) (deeds_in h t (island_events (Node part cells) form))
        (active_in k t (form_flat (flat_part (Node part cells)) (copied_form (λ q. q) (λ g. g) (flat_form (flat_kids cells) part form)) 0 []))
        → ActsAs (Node part cells) (entries (own_entries (deeds_in h t (island_events (Node part cells) form)))) (deeds_in h t (island_events (Node part cells) form)) (entries (active_in k t (form_flat (flat_part (Node part cells)) (flat_form (flat_kids cells) part form) 0 [])))
    whole r =
        let done : deeds_in h t (island_events (Node part cells) form) ≡ r.deeds = r.are_deeds ∙ lower_still r.deeds in
        let acting : active_in k t (form_flat (flat_part (Node part cells)) (flat_form (flat_kids cells) part form) 0 []) ≡ r.entries =
        ap (λ x. active_in k t (form_flat (flat_part (Node part cells)) x 0 [])) (sym (form_still (flat_form (flat_kids cells) part form))) ∙ r.are_entries ∙ entries_still r.entries in
        subst (λ es. ActsAs (Node part cells) (entries (own_entries (deeds_in h t (island_events (Node part cells) form)))) (deeds_in h t (island_events (Node part cells) form)) (entries es)) (sym acting)
        (subst (λ ds. ActsAs (Node part cells) (entries (own_entries ds)) ds (entries r.entries)) (sym done) (acts_of (Node part cells) fair r.deeds r.entries r.pairs (subst (FedOnce (Node part cells)) done once)))

-- THE PORTS AT WHICH IT LOOKS in a cycle
pub island_looks : (S : Spot → PortRef → Type 0) (i : Instance) (form : PlainForm) (h : History) (k : islands.History) (t : ℕ) → ((x : Spot) (q : PortRef) → S x q → SampledAlike h k x q) → AllFair i → AllControlled i → IsStaticOf i form → AllSpots S i 0 []
    → ((n : ℕ) → S (spot [] (ports.Input n)) (ports.Input n)) → AllRelated S (looked_in h t (island_events i form)) (looked_at k t (form_flat (flat_part i) (flat_form (flat_kids (cells_of i)) (part_of i) form) 0 []))
island_looks S (Node part cells) form h k t alike fair controlled static agree inputs =
    subst (λ x. AllRelated S (looked_in h t (island_events (Node part cells) form)) (looked_at k t (form_flat (flat_part (Node part cells)) x 0 []))) (form_still (flat_form (flat_kids cells) part form))
    (form_looks S h k t alike part cells fair.0 controlled.0 (kids_last cells fair.1 controlled.1) (kids_look S h k t alike cells fair.1 controlled.1) (flat_part (Node part cells)) (λ q. q) (λ g. g) 0 [] (spot [])
    (record { cells = λ e p. ap (λ n. ports.Cell n p) (zero_plus e); literals = λ w v. refl; inputs = λ n less. inputs n; own_cells = λ c p. refl; own_literals = λ w v. refl }) agree form
    static.enables static.timed static.tests (λ g i. refl) 0 [] [] refl)
  where
    zero_plus : (a : ℕ) → a ≡ 0 + a
    zero_plus a = omega arith
