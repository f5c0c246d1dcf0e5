-- The places of every instance's control are numbers, and the numbers of a fine place give it back.
use Rattle.std.proofs.Common.{◌≡◌, ℕ, zero, suc, ◌+◌, ◌<◌, ◌≤◌, nat_lt, Bool, true, false, Option, Some, None, if◌then◌else◌, refl, sym, ap, ◌∙◌, subst, arith}
use Rattle.std.specs.Prelude.{◌==◌, ◌%◌, nat_eq, not, option_and_then, option_map}
use Rattle.std.proofs.Math.Path.{fun_ext}
use Rattle.std.proofs.lemmas.Bool.{ltb-true, le-ltb, ltb-false, ne_eqb}
use Rattle.cx_meaning.specs.declared.ports.PortRef.{PortRef}
use Rattle.cx_meaning.specs.declared.kinds.GroupKind.{GroupKind}
use Rattle.cx_meaning.specs.declared.kinds.GroupKind.TheVariants as kinds
use Rattle.cx_meaning.specs.Designs.{PlainComponent, PlainForm, Empty, Enable, Seq, Par, If, While, Repeat, StaticSeq, StaticPar, StaticIf, StaticRepeat, Timed, PlainStatement, Placed, PlainStatements, no_statements, a_statement}
use Rattle.cx_meaning.specs.Instances.{Instance, part_of}
use Rattle.cx_meaning.specs.Islands.{form_length, length_of}
use Rattle.cx_meaning.specs.Calls.{called}
use Rattle.cx_laws.specs.Samples.{Samples, form_ifs, ifs_of, ifs_in}
use Rattle.cx_lockstep.specs.Worlds.{Control, At}
use Rattle.cx_control.specs.Codings.{at_fine}
use Rattle.cx_control.specs.Sampling.{within_length, behind_length, taken, form_now, statement_now, parts_now, arms_now, where_so}
use Rattle.cx_control.specs.Spots.{Kept}
use Rattle.cx_control.specs.Leaves.{Coded, InIsland, Cycle, LastTurn, no_samples, island_start, sampled_now, island_step, island_machine, called_machine, kind_machine}
use Rattle.cx_control.specs.Controls.{bit, island_other, island_place, IsFineCycle, island_fine, island_coding, called_coding, kind_coding}
use Rattle.cx_control.specs.CodingLaws.{SameUpTo, unit_is}
use Rattle.cx_control.specs.StatementCodingLaws.{IsRegion}

-- NO SAMPLE beyond the last static if
module _ (part : PlainComponent) (now : PortRef → Bool) (kept : Samples) where
  choose_later : (a b : Bool) (t : Bool) → t ≡ false → b ≡ false → (if t then a else b) ≡ false
  choose_later a b t over last = ap (λ x. if x then a else b) over ∙ last

  mutual
    form_beyond : (form : PlainForm) (n : ℕ) (live : Option ℕ) (m : ℕ) → n + form_ifs form ≤ m → form_now part now kept form n live m ≡ false
    form_beyond Empty n live m beyond = refl
    form_beyond (Enable g) n live m beyond = refl
    form_beyond (Seq parts) n live m beyond = refl
    form_beyond (Par arms) n live m beyond = refl
    form_beyond (If test comb a b) n live m beyond = refl
    form_beyond (While test comb a) n live m beyond = refl
    form_beyond (Repeat count a) n live m beyond = refl
    form_beyond (StaticSeq length parts) n live m beyond = parts_beyond parts n live m beyond
    form_beyond (StaticPar length arms) n live m beyond = arms_beyond arms n live m beyond
    form_beyond (StaticIf length test a b) n live m beyond =
        choose_later (taken (now test.port) (kept n) live) _ (nat_eq m n) (ne_eqb m n (λ e. absurd (omega arith)))
        (choose_later (statement_now part now kept a (suc n) (where_so (taken (now test.port) (kept n) live) live) m) _ (nat_lt m (suc n + ifs_of a)) (le-ltb m (suc n + ifs_of a) (omega arith))
        (statement_beyond b (suc n + ifs_of a) (where_so (not (taken (now test.port) (kept n) live)) live) m (omega arith)))
    form_beyond (StaticRepeat length count a) n live m beyond = statement_beyond a n (option_map (λ j. j % length_of part a) live) m beyond
    form_beyond (Timed k) n live m beyond = refl

    statement_beyond : (s : PlainStatement) (n : ℕ) (live : Option ℕ) (m : ℕ) → n + ifs_of s ≤ m → statement_now part now kept s n live m ≡ false
    statement_beyond (Placed form place) n live m beyond = form_beyond form n (option_and_then (within_length (length_of part (Placed form place))) live) m beyond

    parts_beyond : (ss : PlainStatements) (n : ℕ) (live : Option ℕ) (m : ℕ) → n + ifs_in ss ≤ m → parts_now part now kept ss n live m ≡ false
    parts_beyond no_statements n live m beyond = refl
    parts_beyond (a_statement s ss) n live m beyond =
        choose_later (statement_now part now kept s n live m) _ (nat_lt m (n + ifs_of s)) (le-ltb m (n + ifs_of s) (omega arith))
        (parts_beyond ss (n + ifs_of s) (option_and_then (behind_length (length_of part s)) live) m (omega arith))

    arms_beyond : (ss : PlainStatements) (n : ℕ) (live : Option ℕ) (m : ℕ) → n + ifs_in ss ≤ m → arms_now part now kept ss n live m ≡ false
    arms_beyond no_statements n live m beyond = refl
    arms_beyond (a_statement s ss) n live m beyond =
        choose_later (statement_now part now kept s n live m) _ (nat_lt m (n + ifs_of s)) (le-ltb m (n + ifs_of s) (omega arith))
        (arms_beyond ss (n + ifs_of s) live m (omega arith))

-- AN ISLAND that takes a cycle at least
bit_back : (b : Bool) → not (bit b == 0) ≡ b
bit_back true = refl
bit_back false = refl

module _ (i : Instance) (form : PlainForm) (lasts : 0 < form_length (part_of i) form) where
  ifs : ℕ
  ifs = form_ifs form

  abbrev sample_of : (ℕ → ℕ) → Samples
  sample_of numbers n = if nat_lt n (form_ifs form) then not (numbers (2 + n) == 0) else false

  sample_alike : (a b : ℕ → ℕ) → SameUpTo (2 + form_ifs form) a b → (n : ℕ) → sample_of a n ≡ sample_of b n
  sample_alike a b same n = either (nat_lt n (form_ifs form)) refl
    where
      either : (t : Bool) → nat_lt n (form_ifs form) ≡ t → (if t then not (a (2 + n) == 0) else false) ≡ (if t then not (b (2 + n) == 0) else false)
      either true e = let less : n < form_ifs form = ltb-true n (form_ifs form) e in ap (λ v. not (v == 0)) (same (2 + n) (omega arith))
      either false e = refl

  place_local : (n : ℕ) (a b : ℕ → ℕ) → SameUpTo (2 + form_ifs form) a b → island_place (form_ifs form) n a ≡ island_place (form_ifs form) n b
  place_local zero a b same =
      ap (λ v. Some (if v == 0 then Cycle (a 0) (sample_of a) else LastTurn)) (same 1 (omega arith))
      ∙ ap (λ v. Some (if b 1 == 0 then Cycle v (sample_of a) else LastTurn)) (same 0 (omega arith))
      ∙ ap (λ v. Some (if b 1 == 0 then Cycle (b 0) v else LastTurn)) (fun_ext (sample_alike a b same))
  place_local (suc n) a b same = refl

  sample_back : (t : ℕ) (kept : Samples) → IsFineCycle (part_of i) form t kept → (n : ℕ) → sample_of (island_other (Cycle t kept)) n ≡ kept n
  sample_back t kept fine n = either (nat_lt n (form_ifs form)) refl
    where
      either : (b : Bool) → nat_lt n (form_ifs form) ≡ b → (if b then not (island_other (Cycle t kept) (2 + n) == 0) else false) ≡ kept n
      either true e =
          let next : 2 + n ≡ suc (suc n) = omega arith in
          ap (λ j. not (island_other (Cycle t kept) j == 0)) next ∙ bit_back (kept n)
      either false e = sym (fine.beyond n (ltb-false n (form_ifs form) e))

  place_found : (p : InIsland) → island_fine (part_of i) form p → island_place (form_ifs form) 0 (island_other p) ≡ Some p
  place_found (Cycle t kept) fine = ap (λ v. Some (Cycle t v)) (fun_ext (sample_back t kept fine))
  place_found LastTurn fine = refl

  start_fine : (length : ℕ) → form_length (part_of i) form ≡ length → at_fine (island_fine (part_of i) form) (island_start length)
  start_fine zero is = tt
  start_fine (suc n) is = record { less = omega arith; beyond = λ m over. refl }

  step_fine : (p : InIsland) (s : Kept) → island_fine (part_of i) form p → at_fine (island_fine (part_of i) form) (island_step i form p s)
  step_fine (Cycle t kept) s fine = either (nat_lt (suc t) (form_length (part_of i) form)) refl
    where
      either : (b : Bool) → nat_lt (suc t) (form_length (part_of i) form) ≡ b → at_fine (island_fine (part_of i) form) (if b then At (Cycle (suc t) (sampled_now i form t kept s)) else At LastTurn)
      either true e = record { less = ltb-true (suc t) (form_length (part_of i) form) e; beyond = λ m over. form_beyond (part_of i) _ kept form 0 (Some t) m (omega arith) }
      either false e = tt
  step_fine LastTurn s fine = tt

  is_first : (length : ℕ) → 0 < length → island_start length ≡ At (Cycle 0 no_samples)
  is_first zero less = absurd (omega arith)
  is_first (suc n) less = refl

  pub island_coded : IsRegion (island_machine i form) (island_coding (part_of i) form)
  island_coded = record {
    coded = record {
      local = place_local;
      found = place_found;
      ended = λ a. refl;
      below = λ p. omega arith;
      starts = start_fine (form_length (part_of i) form) refl;
      zero_at = λ p e. refl;
      zeros_at = λ p e. subst (λ q. (j : ℕ) → island_other q j ≡ 0) (one_place (Cycle 0 no_samples) p _ (is_first (form_length (part_of i) form) lasts) e) all_zero;
      stays = step_fine;
    };
    front = record { first = Cycle 0 no_samples; starts = is_first (form_length (part_of i) form) lasts };
  }
    where
      one_place : (p q : InIsland) (k : Control InIsland) → k ≡ At p → k ≡ At q → p ≡ q
      one_place p q k e f = cc

      all_zero : (j : ℕ) → island_other (Cycle 0 no_samples) j ≡ 0
      all_zero zero = refl
      all_zero (suc zero) = refl
      all_zero (suc (suc j)) = refl

-- A GROUP, whatever it is
module _ (i : Instance) (children : ℕ → Coded) where
  called_coded : (g : ℕ) (o : Option ℕ) → IsRegion (called_machine i children g o) (called_coding i children g o)
  called_coded g None = record { coded = unit_is _ _ _ _; front = record { first = tt; starts = refl } }
  called_coded g (Some c) = record { coded = unit_is _ _ _ _; front = record { first = tt; starts = refl } }

  pub kind_coded : (g : ℕ) (kind : GroupKind) → ((n : ℕ) → kind ≡ kinds.Timed n → 0 < form_length (part_of i) (Enable g)) → IsRegion (kind_machine i children g kind) (kind_coding i children g kind)
  kind_coded g kinds.Plain lasts = called_coded g (called i g)
  kind_coded g kinds.Comb lasts = called_coded g (called i g)
  kind_coded g (kinds.Timed n) lasts = island_coded i (Enable g) (lasts n refl)
