-- Where the registers of a statement stay, its numbers move as an idle edge moves them: those of timers go to 0, and others stay.
use Rattle.std.proofs.Common.{◌≡◌, ℕ, zero, suc, ◌+◌, ◌-◌, ◌<◌, ◌≤◌, Bool, true, false, if◌then◌else◌, List, [], ◌∷◌, ◌++◌, length, replicate, Some, slice_get, nat_lt, refl, sym, ap, ap₂, ◌∙◌, arith, length-append}
use Rattle.std.proofs.lemmas.Bool.{ltb-true, ltb-false}
use Rattle.cx_text.specs.declared.places.Place.{Place}
use Rattle.cx_meaning.specs.declared.kinds.GroupKind.{GroupKind}
use Rattle.cx_meaning.specs.declared.kinds.GroupKind.TheVariants as kinds
use Rattle.cx_meaning.specs.Designs.{PlainComponent, PlainForm, Empty, Enable, Seq, Par, If, While, Repeat, StaticSeq, StaticPar, StaticIf, StaticRepeat, Timed, PlainStatement, Placed, PlainStatements, no_statements, a_statement, group_at}
use Rattle.cx_meaning.specs.Islands.{kind_length}
use Rattle.cx_laws.specs.Samples.{form_ifs}
use Rattle.cx_lockstep.specs.Statements.{LeafMachines}
use Rattle.cx_control.specs.Codings.{Coding, Bank, beside}
use Rattle.cx_control.specs.StatementCodings.{LeafCodings, form_coding, statement_coding, parts_coding, arms_bank}
use Rattle.cx_control.specs.Numbers.{Role, PlaceOfArm, RoundsOver, OfSample, role_idle, island_numbers, group_numbers, form_numbers, numbers_of, parts_numbers, arms_numbers}
use Rattle.cx_static.specs.Islands.{PlainIsland}
use Rattle.cx_static.specs.Lowering.{Lowering, after, lowered, lowered_parts, lowered_enable}
use Rattle.cx_wiring.specs.Counts.{sample_registers, form_registers, registers_of, registers_in, arms_registers}
use Rattle.cx_wiring_cycles.specs.Shown.{counted, enable_number, form_number, number_of, parts_number, arms_number}
use Rattle.cx_text.proofs.ListLaws.{behind}

-- numbers after an idle edge, by what each is of
abbrev pub Idled : List Role → (now next : ℕ → ℕ) → Type 0
Idled roles now next = (n : ℕ) → next n ≡ role_idle (slice_get roles n) (now n)

in_front : (xs ys : List Role) (n : ℕ) → n < length xs → slice_get (xs ++ ys) n ≡ slice_get xs n
in_front [] ys n less = absurd (omega arith)
in_front (x ∷ xs) ys zero less = refl
in_front (x ∷ xs) ys (suc n) less = in_front xs ys n (omega arith)

beside_idled : (xs ys : List Role) (c : ℕ) (a b f g : ℕ → ℕ) → length xs ≡ c → Idled xs a f → Idled ys b g → Idled (xs ++ ys) (beside c a b) (beside c f g)
beside_idled xs ys c a b f g count h k n = choice (nat_lt n c) refl
  where
    choice : (t : Bool) → nat_lt n c ≡ t → (if t then f n else g (n - c)) ≡ role_idle (slice_get (xs ++ ys) n) (if t then a n else b (n - c))
    choice true e =
        let less : n < c = ltb-true n c e in
        h n ∙ ap (λ o. role_idle o (a n)) (sym (in_front xs ys n (omega arith)))
    choice false e =
        let more : c ≤ n = ltb-false n c e in
        k (n - c) ∙ ap (λ o. role_idle o (b (n - c))) (sym (behind xs ys n (n - c) (omega arith)))

counted_idled : (r : Role) (xs : List Role) (a b : ℕ) (f g : ℕ → ℕ) → b ≡ role_idle (Some r) a → Idled xs f g → Idled (r ∷ xs) (counted a f) (counted b g)
counted_idled r xs a b f g first later zero = first
counted_idled r xs a b f g first later (suc n) = later n

sample_idle : (k j v : ℕ) → v ≡ role_idle (slice_get (replicate k OfSample) j) v
sample_idle zero j v = refl
sample_idle (suc k) zero v = refl
sample_idle (suc k) (suc j) v = sample_idle k j v

-- what an idle edge makes of the numbers of an island: the count and the done of its timer are 0, and the samples stay
pub record IslandIdled (now next : ℕ → ℕ) : Type 0 where
  pub count : next 0 ≡ 0
  pub done : next 1 ≡ 0
  pub samples : (j : ℕ) → next (suc (suc j)) ≡ now (suc (suc j))

island_idled : (part : PlainComponent) (form : PlainForm) (now next : ℕ → ℕ) → IslandIdled now next → Idled (island_numbers part form) now next
island_idled part form now next h zero = h.count
island_idled part form now next h (suc zero) = h.done
island_idled part form now next h (suc (suc j)) = h.samples j ∙ sample_idle (form_ifs form) j (now (suc (suc j)))

module _ {X : Type 0} {V : X → Type 0} {F : Type 0} (leaves : LeafMachines X V F) (codings : LeafCodings leaves) (part : PlainComponent)
    (enable_count : (g : ℕ) → length (group_numbers part g (group_at part g).kind) ≡ Coding.extra (LeafCodings.enable codings g)) (island_count : (form : PlainForm) → length (island_numbers part form) ≡ Coding.extra (LeafCodings.island codings form)) where
  -- a statement has as many numbers as its coding
  mutual
    form_count : (form : PlainForm) → length (form_numbers part form) ≡ Coding.extra (form_coding leaves codings form)
    form_count Empty = refl
    form_count (Enable g) = enable_count g
    form_count (Seq no_statements) = refl
    form_count (Seq (a_statement s ss)) = length-append (numbers_of part s) (parts_numbers part ss) ∙ ap₂ (λ m n. m + n) (count_is s) (parts_count ss)
    form_count (Par no_statements) = refl
    form_count (Par (a_statement s ss)) = length-append (PlaceOfArm ∷ numbers_of part s) (arms_numbers part ss) ∙ ap₂ (λ m n. suc m + n) (count_is s) (arms_count ss)
    form_count (If test comb a b) = length-append (numbers_of part a) (numbers_of part b) ∙ ap₂ (λ m n. m + n) (count_is a) (count_is b)
    form_count (While test comb a) = count_is a
    form_count (Repeat zero a) = refl
    form_count (Repeat (suc k) a) = ap suc (count_is a)
    form_count (StaticSeq written parts) = island_count (StaticSeq written parts)
    form_count (StaticPar written arms) = island_count (StaticPar written arms)
    form_count (StaticIf written test a b) = island_count (StaticIf written test a b)
    form_count (StaticRepeat written count a) = island_count (StaticRepeat written count a)
    form_count (Timed k) = refl

    pub count_is : (s : PlainStatement) → length (numbers_of part s) ≡ Coding.extra (statement_coding leaves codings s)
    count_is (Placed form place) = form_count form

    parts_count : (ss : PlainStatements) → length (parts_numbers part ss) ≡ Coding.extra (parts_coding leaves codings ss)
    parts_count no_statements = refl
    parts_count (a_statement s ss) = length-append (numbers_of part s) (parts_numbers part ss) ∙ ap₂ (λ m n. m + n) (count_is s) (parts_count ss)

    arms_count : (ss : PlainStatements) → length (arms_numbers part ss) ≡ Bank.count (arms_bank leaves codings ss)
    arms_count no_statements = refl
    arms_count (a_statement s ss) = length-append (PlaceOfArm ∷ numbers_of part s) (arms_numbers part ss) ∙ ap₂ (λ m n. suc m + n) (count_is s) (arms_count ss)

  module _ (islands : List PlainIsland) (kept next : ℕ → ℕ) (now_island next_island : ℕ → ℕ → ℕ → ℕ) where
    -- registers from this one on stay
    abbrev Stay : ℕ → ℕ → Type 0
    Stay first count = (m : ℕ) → first ≤ m → m < first + count → next m ≡ kept m

    module _ (islands_idle : (k first : ℕ) → Stay first (length (sample_registers (slice_get islands k))) → IslandIdled (now_island first k) (next_island first k)) where
      first_stay : (first : ℕ) (rs qs : List ℕ) → Stay first (length (rs ++ qs)) → Stay first (length rs)
      first_stay first rs qs h m low high = h m low (omega (arith, length-append rs qs))

      later_stay : (first : ℕ) (rs qs : List ℕ) → Stay first (length (rs ++ qs)) → Stay (first + length rs) (length qs)
      later_stay first rs qs h m low high = h m (omega arith) (omega (arith, length-append rs qs))

      enable_idled : (g : ℕ) (kind : GroupKind) (l : Lowering) (first : ℕ) → Stay first (length (form_registers islands (lowered_enable part g (kind_length kind) l)))
          → Idled (group_numbers part g kind) (enable_number leaves codings part islands kept now_island (kind_length kind) l first) (enable_number leaves codings part islands next next_island (kind_length kind) l first)
      enable_idled g kinds.Plain l first stay n = refl
      enable_idled g kinds.Comb l first stay n = refl
      enable_idled g (kinds.Timed cycles) l first stay n = island_idled part (Enable g) (now_island first (length l.islands)) (next_island first (length l.islands)) (islands_idle (length l.islands) first stay) n

      mutual
        form_idled : (form : PlainForm) (place : Place) (l : Lowering) (first : ℕ) → Stay first (length (registers_of islands (lowered part (Placed form place) l)))
            → Idled (form_numbers part form) (form_number leaves codings part islands kept now_island form l first) (form_number leaves codings part islands next next_island form l first)
        form_idled Empty place l first stay n = refl
        form_idled (Enable g) place l first stay n = enable_idled g (group_at part g).kind l first stay n
        form_idled (Seq parts) place l first stay n = parts_idled parts l first stay n
        form_idled (Par arms) place l first stay n = arms_idled arms l first stay n
        form_idled (If test comb a b) place l first stay n =
            beside_idled (numbers_of part a) (numbers_of part b) (Coding.extra (statement_coding leaves codings a)) _ _ _ _ (count_is a)
            (idled a l first (first_stay first (registers_of islands (lowered part a l)) (registers_of islands (lowered part b (after part a l))) stay))
            (idled b (after part a l) (first + length (registers_of islands (lowered part a l))) (later_stay first (registers_of islands (lowered part a l)) (registers_of islands (lowered part b (after part a l))) stay)) n
        form_idled (While test comb a) place l first stay n = idled a l first stay n
        form_idled (Repeat zero a) place l first stay n = refl
        form_idled (Repeat (suc k) a) place l first stay n =
            counted_idled RoundsOver (numbers_of part a) _ _ _ _ (stay first (omega arith) (omega arith)) (idled a l (suc first) (λ m low high. stay m (omega arith) (omega arith))) n
        form_idled (StaticSeq written parts) place l first stay n = island_idled part (StaticSeq written parts) _ _ (islands_idle (length l.islands) first stay) n
        form_idled (StaticPar written arms) place l first stay n = island_idled part (StaticPar written arms) _ _ (islands_idle (length l.islands) first stay) n
        form_idled (StaticIf written test a b) place l first stay n = island_idled part (StaticIf written test a b) _ _ (islands_idle (length l.islands) first stay) n
        form_idled (StaticRepeat written count a) place l first stay n = island_idled part (StaticRepeat written count a) _ _ (islands_idle (length l.islands) first stay) n
        form_idled (Timed k) place l first stay n = refl

        -- THE NUMBERS OF A STATEMENT
        pub idled : (s : PlainStatement) (l : Lowering) (first : ℕ) → Stay first (length (registers_of islands (lowered part s l)))
            → Idled (numbers_of part s) (number_of leaves codings part islands kept now_island s l first) (number_of leaves codings part islands next next_island s l first)
        idled (Placed form place) l first stay n = form_idled form place l first stay n

        parts_idled : (ss : PlainStatements) (l : Lowering) (first : ℕ) → Stay first (length (registers_in islands (lowered_parts part ss l)))
            → Idled (parts_numbers part ss) (parts_number leaves codings part islands kept now_island ss l first) (parts_number leaves codings part islands next next_island ss l first)
        parts_idled no_statements l first stay n = refl
        parts_idled (a_statement s ss) l first stay n =
            beside_idled (numbers_of part s) (parts_numbers part ss) (Coding.extra (statement_coding leaves codings s)) _ _ _ _ (count_is s)
            (idled s l first (first_stay first (registers_of islands (lowered part s l)) (registers_in islands (lowered_parts part ss (after part s l))) stay))
            (parts_idled ss (after part s l) (first + length (registers_of islands (lowered part s l))) (later_stay first (registers_of islands (lowered part s l)) (registers_in islands (lowered_parts part ss (after part s l))) stay)) n

        arms_idled : (ss : PlainStatements) (l : Lowering) (first : ℕ) → Stay first (length (arms_registers islands (lowered_parts part ss l)))
            → Idled (arms_numbers part ss) (arms_number leaves codings part islands kept now_island ss l first) (arms_number leaves codings part islands next next_island ss l first)
        arms_idled no_statements l first stay n = refl
        arms_idled (a_statement s ss) l first stay n =
            let rs = registers_of islands (lowered part s l) in
            let qs = arms_registers islands (lowered_parts part ss (after part s l)) in
            let rest : (m : ℕ) → suc first ≤ m → m < suc first + length (rs ++ qs) → next m ≡ kept m = λ m low high. stay m (omega arith) (omega arith) in
            beside_idled (PlaceOfArm ∷ numbers_of part s) (arms_numbers part ss) (suc (Coding.extra (statement_coding leaves codings s))) _ _ _ _ (ap suc (count_is s))
            (counted_idled PlaceOfArm (numbers_of part s) _ _ _ _ (stay first (omega arith) (omega arith)) (idled s l (suc first) (first_stay (suc first) rs qs rest)))
            (arms_idled ss (after part s l) (suc first + length rs) (later_stay (suc first) rs qs rest)) n
