-- One arm more takes its samples.
use Rattle.std.proofs.Common.{◌≡◌, inr, ℕ, ◌+◌, ◌<◌, ◌≤◌, List, ◌∷◌, ◌++◌, Option, length, drop, get_or, sym, ap, ◌∙◌, subst, arith}
use Rattle.std.proofs.lemmas.List.{drop_more}
use denote.Param.Weighed.{most, at_most}
use Rattle.cx_text.proofs.MemberLaws.{in_left, in_right}
use Rattle.cx_text.specs.Members.{In}
use Rattle.cx_meaning.specs.Designs.{PlainComponent, PlainForm, StaticIf}
use Rattle.cx_meaning.specs.declared.ports.PortRef.{PortRef}
use Rattle.cx_meaning.specs.declared.ports.PlacedPort.{PlacedPort}
use Rattle.cx_meaning.specs.Sights.{Look}
use Rattle.cx_meaning.specs.Cycles.{Fault}
use Rattle.cx_meaning.specs.Islands.{first_unclear}
use Rattle.cx_design.specs.declared.statements.Statement.{Statement}
use Rattle.cx_design.proofs.statements.Statement.TheLaws.{the_size}
use Rattle.cx_design.specs.PlainForms.{plain_statement, plain_statements}
use Rattle.cx_laws.specs.Samples.{Samples, says, form_ifs, ifs_of, ifs_in, while_after, arms_after}
use Rattle.cx_interp_islands.specs.Asked.{earlier_fault, while_asked, arms_asked, form_tests, tests_of, tests_in}
use Rattle.cx_interp_islands.proofs.FaultLemmas.{told_after}

module _ (part : PlainComponent) (look now : Look) (arms : List Statement) (i n m j : ℕ) (s : Statement) (kept next : Samples)
    (there : i < length arms) (is : s ≡ get_or arms i s) (same : now ≡ look) (count : m ≡ ifs_of (plain_statement s))
    (taken : next ≡ while_after part (says now) (plain_statement s) n j kept) where
  abbrev rest : List Statement
  rest = drop (i + 1) arms

  at_rest : {Y : Type 0} (F : List Statement → Y) → F (s ∷ rest) ≡ F (drop i arms)
  at_rest F = ap (λ x. F (x ∷ rest)) is ∙ ap F (sym (drop_more arms i s there))

  taken_now : next ≡ while_after part (says look) (plain_statement s) n j kept
  taken_now = taken ∙ ap (λ k. while_after part (says k) (plain_statement s) n j kept) same

  pub arms_after_step : arms_after part (says look) (plain_statements rest) (n + m) j next ≡ arms_after part (says look) (plain_statements (drop i arms)) n j kept
  arms_after_step =
      ap (arms_after part (says look) (plain_statements rest) (n + m) j) taken_now
      ∙ ap (λ k. arms_after part (says look) (plain_statements rest) (n + k) j (while_after part (says look) (plain_statement s) n j kept)) count
      ∙ at_rest (λ xs. arms_after part (says look) (plain_statements xs) n j kept)

  pub arms_asked_step : (fault told : Option Fault) → told ≡ earlier_fault fault (first_unclear now (while_asked part (says now) (plain_statement s) n j kept))
      → earlier_fault told (first_unclear look (arms_asked part (says look) (plain_statements rest) (n + m) j next))
      ≡ earlier_fault fault (first_unclear look (arms_asked part (says look) (plain_statements (drop i arms)) n j kept))
  arms_asked_step fault told e =
      ap (λ x. earlier_fault x (first_unclear look (arms_asked part (says look) (plain_statements rest) (n + m) j next))) (e ∙ ap (λ k. earlier_fault fault (first_unclear k (while_asked part (says k) (plain_statement s) n j kept))) same)
      ∙ told_after look fault (while_asked part (says look) (plain_statement s) n j kept) (arms_asked part (says look) (plain_statements rest) (n + m) j next)
      ∙ ap (λ x. earlier_fault fault (first_unclear look (while_asked part (says look) (plain_statement s) n j kept ++ arms_asked part (says look) (plain_statements rest) (n + m) j x))) taken_now
      ∙ ap (λ k. earlier_fault fault (first_unclear look (while_asked part (says look) (plain_statement s) n j kept ++ arms_asked part (says look) (plain_statements rest) (n + k) j (while_after part (says look) (plain_statement s) n j kept)))) count
      ∙ at_rest (λ xs. earlier_fault fault (first_unclear look (arms_asked part (says look) (plain_statements xs) n j kept)))

  pub arms_count_step : (room : ℕ) → n + ifs_in (plain_statements (drop i arms)) ≤ room → n + m + ifs_in (plain_statements rest) ≤ room
  arms_count_step room fits =
      let e : ifs_of (plain_statement s) + ifs_in (plain_statements rest) ≡ ifs_in (plain_statements (drop i arms)) = at_rest (λ xs. ifs_in (plain_statements xs)) in
      omega arith

-- the ports of a statement, and those of the ones after it, are among those that are left; so are its static ifs, and it is no
-- deeper than the deepest
module _ (parts : List Statement) (i : ℕ) (s : Statement) (there : i < length parts) (is : s ≡ get_or parts i s) where
  left : s ∷ drop (i + 1) parts ≡ drop i parts
  left = ap (λ x. x ∷ drop (i + 1) parts) is ∙ sym (drop_more parts i s there)

  pub first_tests : (p : PortRef) → In (tests_of (plain_statement s)) p → In (tests_in (plain_statements (drop i parts))) p
  first_tests p k = subst (λ xs. In (tests_in (plain_statements xs)) p) left (in_left (tests_of (plain_statement s)) (tests_in (plain_statements (drop (i + 1) parts))) p k)

  pub later_tests : (p : PortRef) → In (tests_in (plain_statements (drop (i + 1) parts))) p → In (tests_in (plain_statements (drop i parts))) p
  later_tests p k = subst (λ xs. In (tests_in (plain_statements xs)) p) left (in_right (tests_of (plain_statement s)) (tests_in (plain_statements (drop (i + 1) parts))) p k)

  pub first_count : (n room : ℕ) → n + ifs_in (plain_statements (drop i parts)) ≤ room → n + ifs_of (plain_statement s) ≤ room
  first_count n room fits =
      let e : ifs_of (plain_statement s) + ifs_in (plain_statements (drop (i + 1) parts)) ≡ ifs_in (plain_statements (drop i parts)) = ap (λ xs. ifs_in (plain_statements xs)) left in
      omega arith

  pub item_size : the_size s ≤ most (λ x. the_size x) parts
  item_size = subst (λ x. the_size x ≤ most (λ y. the_size y) parts) (sym is) (at_most (λ y. the_size y) parts i s there)

-- the ports of a branch are among those of its static if, and so are its static ifs
module _ (form : PlainForm) (length : Option ℕ) (test : PlacedPort) (yes no : Statement) (is : form ≡ StaticIf length test (plain_statement yes) (plain_statement no)) (s : Statement) where
  pub yes_tests : s ≡ yes → (p : PortRef) → In (tests_of (plain_statement s)) p → In (form_tests form) p
  yes_tests e p i =
      subst (λ f. In (form_tests f) p) (sym is)
      (inr (in_left (tests_of (plain_statement yes)) (tests_of (plain_statement no)) p (subst (λ x. In (tests_of (plain_statement x)) p) e i)))

  pub no_tests : s ≡ no → (p : PortRef) → In (tests_of (plain_statement s)) p → In (form_tests form) p
  no_tests e p i =
      subst (λ f. In (form_tests f) p) (sym is)
      (inr (in_right (tests_of (plain_statement yes)) (tests_of (plain_statement no)) p (subst (λ x. In (tests_of (plain_statement x)) p) e i)))

  pub yes_count : s ≡ yes → (n room : ℕ) → n + form_ifs form ≤ room → n + 1 + ifs_of (plain_statement s) ≤ room
  yes_count e n room fits =
      let a : form_ifs form ≡ ifs_of (plain_statement yes) + ifs_of (plain_statement no) + 1 = ap form_ifs is ∙ omega arith in
      let b : ifs_of (plain_statement s) ≡ ifs_of (plain_statement yes) = ap (λ x. ifs_of (plain_statement x)) e in
      omega arith

  pub no_count : s ≡ no → (first : Statement) → first ≡ yes → (m n room : ℕ) → m ≡ ifs_of (plain_statement first) → n + form_ifs form ≤ room → n + 1 + m + ifs_of (plain_statement s) ≤ room
  no_count e first f m n room count fits =
      let a : form_ifs form ≡ ifs_of (plain_statement yes) + ifs_of (plain_statement no) + 1 = ap form_ifs is ∙ omega arith in
      let b : ifs_of (plain_statement s) ≡ ifs_of (plain_statement no) = ap (λ x. ifs_of (plain_statement x)) e in
      let d : ifs_of (plain_statement first) ≡ ifs_of (plain_statement yes) = ap (λ x. ifs_of (plain_statement x)) f in
      omega arith
