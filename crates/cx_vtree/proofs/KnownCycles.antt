-- Worked values of one cycle and of a run, by hand from the sentences of the definitions.
use Rattle.std.proofs.Common.{◌≡◌, ℕ, zero, suc, Bool, true, false, List, [], ◌∷◌, Some, None, refl, sym, subst, if◌then◌else◌}
use Rattle.std.specs.Prelude.{IsSome, slice_get, codes}
use Rattle.std.specs.Cmp.Lexicographic.{same_text}
use Rattle.cx_bits.specs.BitVector.{BitVector, of_width}
use Rattle.cx_vtree.specs.Plain.{PlainExpr, Named, Number, Chosen, PlainPort, RegisterOf, ArrayOf, PlainModule, SetTo, StoreTo, PlainSource}
use Rattle.cx_vtree.specs.InstanceTree.{Placed, same_name, nets_at, Tied, origin_of, instances_of}
use Rattle.cx_vtree.specs.Meaning.{State, Moment, resetting, running, outside_value, Look, expr_at, HasValue, by_step, IsRight}
use Rattle.cx_vtree.specs.Edges.{state_after}
use Rattle.cx_vtree.specs.SimRun.{DoneAt, IsWhole, words_of, start_state, ends, SimRun, after_reset}
use Rattle.cx_vtree.specs.Sound.{NameAt, WidthAt, break_of, is_sound}
use Rattle.cx_text.proofs.OptionLaws.{by_test}

-- a <= b and b <= a at an edge without reset, and words[1] <= a; at one with reset a <= 7
abbrev swapping : PlainSource
swapping = record {
  externals = [];
  modules = record {
    name = codes "main";
    ports = [];
    decls = RegisterOf (codes "a") 8 ∷ RegisterOf (codes "b") 8 ∷ ArrayOf (codes "words") 8 2 ∷ [];
    assigns = [];
    instances = [];
    edge = Some (record {
      reset = record { name = codes "a"; value = Number (of_width 8 7) } ∷ [];
      step = SetTo (record { name = codes "a"; value = Named (codes "b") }) ∷ SetTo (record { name = codes "b"; value = Named (codes "a") })
          ∷ StoreTo (record { guard = Number (of_width 1 1); array = codes "words"; index = Number (of_width 1 1); value = Named (codes "a") }) ∷ [];
    });
  } ∷ [];
}

abbrev is_a : {A : Type 0} → List ℕ → A → A → A
is_a name one other = if same_name name (codes "a") then one else other

-- a is 3, b is 4, and all words are 9
abbrev before : State
before = record { register = λ i name. is_a name 3 4; word = λ i name index. 9 }

abbrev known : Look
known i name = Some (is_a name (of_width 8 3) (of_width 8 4))

abbrev stepped : State
stepped = state_after (instances_of swapping) (running before) known

abbrev cleared : State
cleared = state_after (instances_of swapping) (resetting before) known

-- each register has the other's value from before the edge
pub known_swap : (stepped.register 0 (codes "a") ≡ 4) × (stepped.register 0 (codes "b") ≡ 3)
known_swap = (refl, refl)

-- the word at the index has what a was before the edge, and another word stays
pub known_store : (stepped.word 0 (codes "words") 1 ≡ 3) × (stepped.word 0 (codes "words") 0 ≡ 9)
known_store = (refl, refl)

-- with reset its branch acts alone
pub known_reset : (cleared.register 0 (codes "a") ≡ 7) × (cleared.register 0 (codes "b") ≡ 4) × (cleared.word 0 (codes "words") 1 ≡ 9)
known_reset = (refl, refl, refl)

-- the test is 0, so the second side is chosen
pub known_choice : expr_at (instances_of swapping) (running before) known 0 (Chosen (Number (of_width 1 0)) (Named (codes "a")) (Named (codes "b"))) ≡ Some (of_width 8 4)
known_choice = refl

-- go is 0 while reset is 1
pub known_inputs : (outside_value (resetting before) (codes "go") ≡ of_width 1 0) × (outside_value (running before) (codes "go") ≡ of_width 1 1)
known_inputs = (refl, refl)

-- main holds an outer instance, and that an inner one whose input x is its net y
abbrev bare : List ℕ → PlainModule
bare name = record { name = name; ports = record { output = false; name = codes "x"; width = 1 } ∷ []; decls = []; assigns = []; instances = []; edge = None }

-- a module that holds one instance, with a net at its input x
abbrev holding : List ℕ → List ℕ → List ℕ → PlainModule
holding name kind net =
    record (bare name) { instances = record { kind = kind; name = codes "i"; conns = record { port = codes "x"; net = net } ∷ [] } ∷ [] }

abbrev nested : PlainSource
nested = record {
  externals = [];
  modules = bare (codes "inner") ∷ holding (codes "outer") (codes "inner") (codes "y") ∷ holding (codes "main") (codes "outer") (codes "z") ∷ [];
}

-- the input of the inner instance has the value of the net y of the outer one, which is number 1
pub known_input : origin_of (instances_of nested) 2 (codes "x") ≡ Some (Tied 1 (codes "y"))
known_input = refl

-- done = r, and the branch with reset sets r to 1
abbrev raising : PlainSource
raising = record {
  externals = [];
  modules = record {
    name = codes "main";
    ports = record { output = true; name = codes "done"; width = 1 } ∷ [];
    decls = RegisterOf (codes "r") 1 ∷ [];
    assigns = record { name = codes "done"; value = Named (codes "r") } ∷ [];
    instances = [];
    edge = Some (record { reset = record { name = codes "r"; value = Number (of_width 1 1) } ∷ []; step = [] });
  } ∷ [];
}

abbrev raised : List Placed
raised = instances_of raising

abbrev held : Moment → BitVector
held m = of_width 1 (m.state.register 0 (codes "r"))

-- what is known of r alone, and of both nets
abbrev known_r : Moment → Look
known_r m zero name = if same_name name (codes "r") then Some (held m) else None
known_r m (suc i) name = None

abbrev known_both : Moment → Look
known_both m zero name = if same_name name (codes "done") then Some (held m) else known_r m zero name
known_both m (suc i) name = None

module _ (m : Moment) where
  at_name : (name net : List ℕ) (w : BitVector) → HasValue raised m 0 name (held m) → same_name net name ≡ true → Some (held m) ≡ Some w → HasValue raised m 0 net w
  at_name name net w value is same =
      let one : held m ≡ w = cc in
      subst (λ n. HasValue raised m 0 n w) (sym (same_text net name (sym is))) (subst (HasValue raised m 0 name) one value)

  r_value : HasValue raised m 0 (codes "r") (held m)
  r_value = by_step (λ i name. None) (λ j net w e. absurd (cc)) refl

  r_right : IsRight raised m (known_r m)
  r_right zero net w e = by_test _ (same_name net (codes "r")) (Some (held m)) None w e (at_name (codes "r") net w r_value) (λ f. absurd (cc))
  r_right (suc j) net w e = absurd (cc)

  done_value : HasValue raised m 0 (codes "done") (held m)
  done_value = by_step (known_r m) r_right refl

  both_right : IsRight raised m (known_both m)
  both_right zero net w e = by_test _ (same_name net (codes "done")) (Some (held m)) (known_r m zero net) w e (at_name (codes "done") net w done_value) (r_right zero net w)
  both_right (suc j) net w e = absurd (cc)

  both_there : (i k : ℕ) (n : List ℕ) → slice_get (nets_at raised i) k ≡ Some n → IsSome (known_both m i n)
  both_there zero zero n e = let name : codes "done" ≡ n = cc in subst (λ x. IsSome (known_both m 0 x)) name refl
  both_there zero (suc zero) n e = let name : codes "r" ≡ n = cc in subst (λ x. IsSome (known_both m 0 x)) name refl
  both_there zero (suc (suc k)) n e = absurd (cc)
  both_there (suc i) k n e = absurd (cc)

  both_whole : IsWhole raised m (known_both m)
  both_whole = record { right = both_right; whole = both_there }

abbrev in_reset : Moment
in_reset = resetting (start_state raising [])

abbrev after : Moment
after = running (state_after raised in_reset (known_both in_reset))

-- r is 0 in the cycle of the edge with reset, and 1 in the first cycle behind it, which is cycle 0
pub known_run : SimRun raising [] 0 (DoneAt 0 [])
known_run = after_reset (known_both in_reset) (both_whole in_reset) (ends (known_both after) (both_whole after) refl)

-- the array of the instance m of main is an external memory of two words
abbrev storing : PlainSource
storing = record {
  externals = record { name = codes "mem"; instance = codes "m"; width = 8; sizes = 2 ∷ [] } ∷ [];
  modules = record (bare (codes "two_words")) { decls = ArrayOf (codes "words") 8 2 ∷ [] }
      ∷ record (bare (codes "main")) { instances = record { kind = codes "two_words"; name = codes "m"; conns = [] } ∷ [] } ∷ [];
}

-- a run starts with the words that are loaded
pub known_loaded : words_of storing (start_state storing ((5 ∷ 6 ∷ []) ∷ [])) ≡ (5 ∷ 6 ∷ []) ∷ []
known_loaded = refl

-- main with the ports that it has to have, and one assign to done. Its lines are that of the module, four of ports, the end of these,
-- and the assign, which is the seventh
abbrev port : Bool → List ℕ → PlainPort
port output name = record { output = output; name = name; width = 1 }

abbrev assigning : PlainExpr → PlainSource
assigning value = record {
  externals = [];
  modules = record {
    name = codes "main";
    ports = port false (codes "clk") ∷ port false (codes "reset") ∷ port false (codes "go") ∷ port true (codes "done") ∷ [];
    decls = [];
    assigns = record { name = codes "done"; value = value } ∷ [];
    instances = [];
    edge = None;
  } ∷ [];
}

pub known_sound : is_sound (assigning (Named (codes "go"))) ≡ true
known_sound = refl

-- two of_width for one
pub known_width : break_of (assigning (Number (of_width 2 1))) ≡ Some (WidthAt 7)
known_width = refl

-- a name that stands for nothing has no width either: the name is told
pub known_name : break_of (assigning (Named (codes "absent"))) ≡ Some (NameAt 7)
known_name = refl
