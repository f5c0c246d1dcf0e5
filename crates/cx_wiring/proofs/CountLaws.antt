-- How many positions, wires and registers a statement has: each statement in it has one position, two wires and two registers at
-- most, and of an island those of its samples.
use Rattle.std.proofs.Common.{◌≡◌, ℕ, zero, suc, ◌+◌, ◌<◌, ◌≤◌, List, [], ◌∷◌, ◌++◌, length, slice_get, arith, length-append}
use Rattle.cx_meaning.specs.Designs.{PlainForm, Empty, Enable, Seq, Par, If, While, Repeat, StaticSeq, StaticPar, StaticIf, StaticRepeat, Timed, PlainStatement, Placed, PlainStatements, no_statements, a_statement}
use Rattle.cx_rules.specs.Items.{Dynamic, Visited, visit, visit_parts, visit_all}
use Rattle.cx_static.specs.Islands.{PlainIsland}
use Rattle.cx_wiring.specs.Counts.{form_positions, positions_of, positions_in, form_wires, wires_of, wires_in, sample_registers, form_registers, registers_of, registers_in, arms_registers}

-- every statement has a position
mutual
  pub form_positions_some : (form : PlainForm) → 0 < form_positions form
  form_positions_some Empty = omega arith
  form_positions_some (Enable g) = omega arith
  form_positions_some (Seq no_statements) = omega arith
  form_positions_some (Seq (a_statement s ss)) = let h : 0 < positions_of s = positions_of_some s in omega arith
  form_positions_some (Par arms) = omega arith
  form_positions_some (If test comb a b) = omega arith
  form_positions_some (While test comb a) = omega arith
  form_positions_some (Repeat zero a) = omega arith
  form_positions_some (Repeat (suc n) a) = positions_of_some a
  form_positions_some (StaticSeq written parts) = omega arith
  form_positions_some (StaticPar written arms) = omega arith
  form_positions_some (StaticIf written test a b) = omega arith
  form_positions_some (StaticRepeat written count a) = omega arith
  form_positions_some (Timed k) = omega arith

  pub positions_of_some : (s : PlainStatement) → 0 < positions_of s
  positions_of_some (Placed form place) = form_positions_some form

-- and no more than there are statements in it
mutual
  pub form_positions_few : (form : PlainForm) → form_positions form ≤ suc (length (visit_parts Dynamic form))
  form_positions_few Empty = omega arith
  form_positions_few (Enable g) = omega arith
  form_positions_few (Seq no_statements) = omega arith
  form_positions_few (Seq (a_statement s ss)) =
      let h : positions_of s ≤ length (visit Dynamic s) = positions_of_few s in
      let k : positions_in ss ≤ length (visit_all Dynamic ss) = positions_in_few ss in
      omega (arith, length-append (visit Dynamic s) (visit_all Dynamic ss))
  form_positions_few (Par arms) = omega arith
  form_positions_few (If test comb a b) =
      let h : positions_of a ≤ length (visit Dynamic a) = positions_of_few a in
      let k : positions_of b ≤ length (visit Dynamic b) = positions_of_few b in
      omega (arith, length-append (visit Dynamic a) (visit Dynamic b))
  form_positions_few (While test comb a) = let h : positions_of a ≤ length (visit Dynamic a) = positions_of_few a in omega arith
  form_positions_few (Repeat zero a) = omega arith
  form_positions_few (Repeat (suc n) a) = let h : positions_of a ≤ length (visit Dynamic a) = positions_of_few a in omega arith
  form_positions_few (StaticSeq written parts) = omega arith
  form_positions_few (StaticPar written arms) = omega arith
  form_positions_few (StaticIf written test a b) = omega arith
  form_positions_few (StaticRepeat written count a) = omega arith
  form_positions_few (Timed k) = omega arith

  pub positions_of_few : (s : PlainStatement) → positions_of s ≤ length (visit Dynamic s)
  positions_of_few (Placed form place) = form_positions_few form

  positions_in_few : (ss : PlainStatements) → positions_in ss ≤ length (visit_all Dynamic ss)
  positions_in_few no_statements = omega arith
  positions_in_few (a_statement s ss) =
      let h : positions_of s ≤ length (visit Dynamic s) = positions_of_few s in
      let k : positions_in ss ≤ length (visit_all Dynamic ss) = positions_in_few ss in
      omega (arith, length-append (visit Dynamic s) (visit_all Dynamic ss))

-- two wires for each
mutual
  pub form_wires_few : (form : PlainForm) → form_wires form ≤ length (visit_parts Dynamic form) + length (visit_parts Dynamic form)
  form_wires_few Empty = omega arith
  form_wires_few (Enable g) = omega arith
  form_wires_few (Seq parts) = wires_in_few parts
  form_wires_few (Par arms) = wires_in_few arms
  form_wires_few (If test comb a b) =
      let h : wires_of a ≤ length (visit Dynamic a) + length (visit Dynamic a) = wires_of_few a in
      let k : wires_of b ≤ length (visit Dynamic b) + length (visit Dynamic b) = wires_of_few b in
      omega (arith, length-append (visit Dynamic a) (visit Dynamic b))
  form_wires_few (While test comb a) = wires_of_few a
  form_wires_few (Repeat zero a) = omega arith
  form_wires_few (Repeat (suc n) a) = wires_of_few a
  form_wires_few (StaticSeq written parts) = omega arith
  form_wires_few (StaticPar written arms) = omega arith
  form_wires_few (StaticIf written test a b) = omega arith
  form_wires_few (StaticRepeat written count a) = omega arith
  form_wires_few (Timed k) = omega arith

  pub wires_of_few : (s : PlainStatement) → wires_of s ≤ length (visit Dynamic s) + length (visit Dynamic s)
  wires_of_few (Placed form place) =
      let h : form_wires form ≤ length (visit_parts Dynamic form) + length (visit_parts Dynamic form) = form_wires_few form in
      omega arith

  wires_in_few : (ss : PlainStatements) → wires_in ss ≤ length (visit_all Dynamic ss) + length (visit_all Dynamic ss)
  wires_in_few no_statements = omega arith
  wires_in_few (a_statement s ss) =
      let h : wires_of s ≤ length (visit Dynamic s) + length (visit Dynamic s) = wires_of_few s in
      let k : wires_in ss ≤ length (visit_all Dynamic ss) + length (visit_all Dynamic ss) = wires_in_few ss in
      omega (arith, length-append (visit Dynamic s) (visit_all Dynamic ss))

module _ (islands : List PlainIsland) where
  abbrev pub samples_at : PlainForm → ℕ
  samples_at (Timed k) = length (sample_registers (slice_get islands k))
  samples_at other = 0

  -- the samples of the islands in a statement
  abbrev pub samples_in : List Visited → ℕ
  samples_in [] = 0
  samples_in (v ∷ vs) = samples_at v.form + samples_in vs

  samples_in-append : (vs ws : List Visited) → samples_in (vs ++ ws) ≡ samples_in vs + samples_in ws
  samples_in-append [] ws = omega arith
  samples_in-append (v ∷ vs) ws = let h : samples_in (vs ++ ws) ≡ samples_in vs + samples_in ws = samples_in-append vs ws in omega arith

  -- two registers for each, of which a statement that is no arm leaves one
  mutual
    pub form_registers_few : (form : PlainForm)
        → length (form_registers islands form) ≤ suc (length (visit_parts Dynamic form) + length (visit_parts Dynamic form)) + (samples_at form + samples_in (visit_parts Dynamic form))
    form_registers_few Empty = omega arith
    form_registers_few (Enable g) = omega arith
    form_registers_few (Seq parts) =
        let h : length (registers_in islands parts) ≤ length (visit_all Dynamic parts) + length (visit_all Dynamic parts) + samples_in (visit_all Dynamic parts) = registers_in_few parts in
        omega arith
    form_registers_few (Par arms) =
        let h : length (arms_registers islands arms) ≤ length (visit_all Dynamic arms) + length (visit_all Dynamic arms) + samples_in (visit_all Dynamic arms) = arms_registers_few arms in
        omega arith
    form_registers_few (If test comb a b) =
        let h : suc (length (registers_of islands a)) ≤ length (visit Dynamic a) + length (visit Dynamic a) + samples_in (visit Dynamic a) = registers_of_few a in
        let k : suc (length (registers_of islands b)) ≤ length (visit Dynamic b) + length (visit Dynamic b) + samples_in (visit Dynamic b) = registers_of_few b in
        omega (arith, length-append (registers_of islands a) (registers_of islands b), length-append (visit Dynamic a) (visit Dynamic b), samples_in-append (visit Dynamic a) (visit Dynamic b))
    form_registers_few (While test comb a) =
        let h : suc (length (registers_of islands a)) ≤ length (visit Dynamic a) + length (visit Dynamic a) + samples_in (visit Dynamic a) = registers_of_few a in
        omega arith
    form_registers_few (Repeat zero a) = omega arith
    form_registers_few (Repeat (suc n) a) =
        let h : suc (length (registers_of islands a)) ≤ length (visit Dynamic a) + length (visit Dynamic a) + samples_in (visit Dynamic a) = registers_of_few a in
        omega arith
    form_registers_few (StaticSeq written parts) = omega arith
    form_registers_few (StaticPar written arms) = omega arith
    form_registers_few (StaticIf written test a b) = omega arith
    form_registers_few (StaticRepeat written count a) = omega arith
    form_registers_few (Timed k) = omega arith

    pub registers_of_few : (s : PlainStatement) → suc (length (registers_of islands s)) ≤ length (visit Dynamic s) + length (visit Dynamic s) + samples_in (visit Dynamic s)
    registers_of_few (Placed form place) =
        let h : length (form_registers islands form) ≤ suc (length (visit_parts Dynamic form) + length (visit_parts Dynamic form)) + (samples_at form + samples_in (visit_parts Dynamic form)) = form_registers_few form in
        omega arith

    registers_in_few : (ss : PlainStatements) → length (registers_in islands ss) ≤ length (visit_all Dynamic ss) + length (visit_all Dynamic ss) + samples_in (visit_all Dynamic ss)
    registers_in_few no_statements = omega arith
    registers_in_few (a_statement s ss) =
        let h : suc (length (registers_of islands s)) ≤ length (visit Dynamic s) + length (visit Dynamic s) + samples_in (visit Dynamic s) = registers_of_few s in
        let k : length (registers_in islands ss) ≤ length (visit_all Dynamic ss) + length (visit_all Dynamic ss) + samples_in (visit_all Dynamic ss) = registers_in_few ss in
        omega (arith, length-append (registers_of islands s) (registers_in islands ss), length-append (visit Dynamic s) (visit_all Dynamic ss), samples_in-append (visit Dynamic s) (visit_all Dynamic ss))

    arms_registers_few : (ss : PlainStatements) → length (arms_registers islands ss) ≤ length (visit_all Dynamic ss) + length (visit_all Dynamic ss) + samples_in (visit_all Dynamic ss)
    arms_registers_few no_statements = omega arith
    arms_registers_few (a_statement s ss) =
        let h : suc (length (registers_of islands s)) ≤ length (visit Dynamic s) + length (visit Dynamic s) + samples_in (visit Dynamic s) = registers_of_few s in
        let k : length (arms_registers islands ss) ≤ length (visit_all Dynamic ss) + length (visit_all Dynamic ss) + samples_in (visit_all Dynamic ss) = arms_registers_few ss in
        omega (arith, length-append (registers_of islands s) (arms_registers islands ss), length-append (visit Dynamic s) (visit_all Dynamic ss), samples_in-append (visit Dynamic s) (visit_all Dynamic ss))
