-- WHERE A RUN FAULTS: at a port of an instance of the tree that may be looked at.
use Rattle.std.proofs.Common.{◌≡◌, ℕ, zero, suc, ◌+◌, ◌<◌, inl, inr, ◌⊎◌, Bool, true, false, ◌&&◌, nat_eq, List, [], ◌∷◌, ◌++◌, length, Option, Some, None, refl, sym, ap, ◌∙◌, subst, arith}
use Rattle.std.proofs.lemmas.List.{append_assoc}
use Rattle.cx_text.proofs.MemberLaws.{in_left, in_right}
use Rattle.cx_text.specs.Members.{In}
use Rattle.cx_bits.specs.BitVector.{BitVector}
use Rattle.cx_meaning.specs.declared.ports.PortRef.{PortRef}
use Rattle.cx_meaning.specs.declared.ports.PortRef.TheVariants as ports
use Rattle.cx_meaning.specs.declared.sights.FaultKind.{FaultKind}
use Rattle.cx_meaning.specs.declared.sights.Seen.{Seen}
use Rattle.cx_meaning.specs.declared.sights.Seen.TheVariants as sights
use Rattle.cx_meaning.specs.Designs.{PlainInvoke, PlainComponent, PlainForm, Empty, Enable, Seq, Par, If, While, Repeat, StaticSeq, StaticPar, StaticIf, StaticRepeat, Timed, PlainStatement, Placed, PlainStatements, no_statements, a_statement}
use Rattle.cx_meaning.specs.Instances.{Instance, Node, Cells, no_cells, a_primitive, an_instance, At, Nothing, OfRow, OfInstance, cells_of, cell_at, cell_count, Path, State, under, idle}
use Rattle.cx_meaning.specs.Active.{Active, nothing, entries}
use Rattle.cx_meaning.specs.Sights.{Look, Held, unheld, seen}
use Rattle.cx_meaning.specs.Cycles.{Fault, fault_at, Outcome, Next, Stops, outcome_at, outcome_of, every_cell, first_of, first_fault, state_after, unless_fault, Ended, Goes, Faults, cycle}
use Rattle.cx_meaning.specs.Islands.{group_length, fault_of, turn_of, unless_unclear}
use Rattle.cx_meaning.specs.Calls.{test, fault_below}
use Rattle.cx_meaning.proofs.InstancesLemmas.{row_instance, literal_is}
use Rattle.cx_rules.specs.Invokes.{form_lasts, lasts}
use Rattle.cx_flattening.specs.Events.{the_invoke, Spot, spot, Event, Runs, Feeds, Looks, Beginning, Events, later_by, also_if, group_events, capture_events, rounds_events, source_to, bound_below, invoke_events, form_events, events, seq_events, par_events, control_events, events_below}
use Rattle.cx_flattening.specs.Deeds.{History, no_history, hold, Deed, deeds_in, spot_if, looked_in, own_entries, deeds_below, held_below, and_now, fault_in, or_later, first_unclear}
use Rattle.cx_flattening.specs.Whole.{with_child, is_static, child_if, whole_cycle, cycles_below, look_below, look_at, whole_turn, whole_from, whole_island}
use Rattle.cx_flattening.specs.Levels.{IsKnown}
use Rattle.cx_flattening.specs.Fair.{IsNamed, IsFair, AllFair, AllFairBelow}
use Rattle.cx_flattening.specs.Controlled.{timed_in, timed_of, timed_all, tested_in, tested_of, tested_all, IsInvoked, IsControlled, AllControlled, AllControlledBelow}
use Rattle.cx_flattening.specs.Faulty.{IsFaulty, FaultAt}
use Rattle.cx_flattening.specs.Lists.{IsStaticOf}
use Rattle.cx_flattening.proofs.Standing.{within_row}
use Rattle.cx_flattening.proofs.FlatLengths.{AllThere, there_left, there_right}
use Rattle.cx_flattening.proofs.Windows.{events-child}
use Rattle.cx_flattening.proofs.FaultRuns.{Told, TurnTold, idle_told, turn_told}

-- a fault of an instance
abbrev pub Known : Bool → Instance → Fault → Type 0
Known static i f = FaultAt static i f.path f.port

abbrev pub EndedTold : (Fault → Type 0) → Ended → Type 0
EndedTold P (Goes after) = Unit {0}
EndedTold P (Faults f) = P f

abbrev OptionTold : (Fault → Type 0) → Option Fault → Type 0
OptionTold P None = Unit {0}
OptionTold P (Some f) = P f

pub turn_ended : (P : Fault → Type 0) (x : Ended) → EndedTold P x → TurnTold P (turn_of x)
turn_ended P (Goes after) h = tt
turn_ended P (Faults f) h = h

-- OWN CELLS
first_told : (P : Fault → Type 0) (outcome : ℕ → Outcome) (c n : ℕ) → ((d p : ℕ) (kind : FaultKind) → outcome d ≡ Stops kind p → P (fault_at kind (ports.Cell d p))) → OptionTold P (first_fault outcome c n)
first_told P outcome c zero h = tt
first_told P outcome c (suc n) h = by (outcome c) refl (first_told P outcome (suc c) n h)
  where
    by : (o : Outcome) → outcome c ≡ o → OptionTold P (first_fault outcome (suc c) n) → OptionTold P (first_of c o (first_fault outcome (suc c) n))
    by (Next after) e later = later
    by (Stops kind p) e later = h c p kind e

cycle_told : (static : Bool) (i : Instance) → IsFair i → (held : Held) (act : Active) (s : State) → EndedTold (Known static i) (cycle i held act s)
cycle_told static i fair held act s =
    ended (first_fault (outcome_of every_cell (seen i held act s) (cells_of i) s) 0 (cell_count (cells_of i)))
    (first_told (Known static i) (outcome_of every_cell (seen i held act s) (cells_of i) s) 0 (cell_count (cells_of i)) stops)
  where
    ended : (o : Option Fault) → OptionTold (Known static i) o → EndedTold (Known static i) (unless_fault o (state_after (outcome_of every_cell (seen i held act s) (cells_of i) s) s))
    ended None h = tt
    ended (Some f) h = h

    stops : (d p : ℕ) (kind : FaultKind) → outcome_of every_cell (seen i held act s) (cells_of i) s d ≡ Stops kind p → Known static i (fault_at kind (ports.Cell d p))
    stops d p kind e = by (cell_at (cells_of i) d) refl e
      where
        by : (x : At) → cell_at (cells_of i) d ≡ x → outcome_at (seen i held act s) d x (s (d ∷ [])) ≡ Stops kind p → IsKnown i (ports.Cell d p)
        by Nothing at f = absurd (cc)
        by (OfRow row) at f = (within_row i fair d row at, λ child g is. absurd (row_instance row child (sym at ∙ g)))
        by (OfInstance child) at f = absurd (cc)

with_told : (P Q : Fault → Type 0) (c : ℕ) (before child : Ended) → EndedTold P before → EndedTold Q child → ((f : Fault) → Q f → P (fault_below c f)) → EndedTold P (with_child c before child)
with_told P Q c (Faults f) child h k below = h
with_told P Q c (Goes after) (Faults f) h k below = below f k
with_told P Q c (Goes after) (Goes own) h k below = tt

mutual
  -- A CYCLE OF THE TREE
  pub whole_told : (static : Bool) (i : Instance) → AllFair i → (held : Held) (act : Active) (deeds : List Deed) (s : State) → EndedTold (Known static i) (whole_cycle i held act deeds s)
  whole_told static (Node part cells) fair held act deeds s =
      below_told static cells (Node part cells) 0 (λ n. ap (cell_at cells) (plus n)) fair.1 (seen (Node part cells) held act s) deeds s (cycle (Node part cells) held act s) (cycle_told static (Node part cells) fair.0 held act s)
    where
      plus : (a : ℕ) → a ≡ 0 + a
      plus a = omega arith

  below_told : (static : Bool) (rest : Cells) (i : Instance) (c : ℕ) → ((n : ℕ) → cell_at rest n ≡ cell_at (cells_of i) (c + n)) → AllFairBelow rest → (look : Look) (deeds : List Deed) (s : State) (before : Ended) → EndedTold (Known static i) before
      → EndedTold (Known static i) (cycles_below rest c look deeds s before)
  below_told static no_cells i c tail fair look deeds s before h = h
  below_told static (a_primitive row rest) i c tail fair look deeds s before h = below_told static rest i (suc c) (λ n. tail (suc n) ∙ ap (cell_at (cells_of i)) (plus c n)) fair look deeds s before h
    where
      plus : (a b : ℕ) → a + suc b ≡ suc a + b
      plus a b = omega arith
  below_told static (an_instance child rest) i c tail fair look deeds s before h =
      below_told static rest i (suc c) (λ n. tail (suc n) ∙ ap (cell_at (cells_of i)) (plus c n)) fair.1 look deeds s
      (child_if (is_static child) c before (whole_cycle child (held_below look c deeds) (entries (own_entries (deeds_below c deeds))) (deeds_below c deeds) (under c s)))
      (choice (is_static child) (whole_told (is_static child) child fair.0 (held_below look c deeds) (entries (own_entries (deeds_below c deeds))) (deeds_below c deeds) (under c s)))
    where
      plus : (a b : ℕ) → a + suc b ≡ suc a + b
      plus a b = omega arith

      at : cell_at (cells_of i) c ≡ OfInstance child
      at = ap (cell_at (cells_of i)) (let z : c ≡ c + 0 = omega arith in z) ∙ sym (tail 0)

      inner : Ended
      inner = whole_cycle child (held_below look c deeds) (entries (own_entries (deeds_below c deeds))) (deeds_below c deeds) (under c s)

      choice : (b : Bool) → EndedTold (Known (is_static child) child) inner → EndedTold (Known static i) (child_if b c before inner)
      choice true k = with_told (Known static i) (Known (is_static child) child) c before inner h k (λ f q. (child, at, q))
      choice false k = h

-- an instance at a path
abbrev Reaches : Instance → Path → Type 0
Reaches i [] = Unit {0}
Reaches i (c ∷ path) = (child : Instance) × (cell_at (cells_of i) c ≡ OfInstance child) × Reaches child path

look_child : (cells : Cells) (c : ℕ) (child : Instance) (s : State) (path : Path) (p : PortRef) → cell_at cells c ≡ OfInstance child → look_at cells c s path p ≡ look_below child unheld s path p
look_child no_cells c child s path p e = absurd (cc)
look_child (a_primitive row rest) zero child s path p e = absurd (cc)
look_child (a_primitive row rest) (suc c) child s path p e = look_child rest c child s path p e
look_child (an_instance other rest) zero child s path p e = let same : other ≡ child = cc in ap (λ x. look_below x unheld s path p) same
look_child (an_instance other rest) (suc c) child s path p e = look_child rest c child s path p e

-- a literal is a value wherever it is looked at
literal_seen : (i : Instance) (held : Held) (s : State) (path : Path) (w v : ℕ) → Reaches i path → look_below i held s path (ports.Literal w v) ≡ sights.Value (record { width = w; value = v })
literal_seen (Node part cells) held s [] w v reach = literal_is (Node part cells) held nothing s w v
literal_seen (Node part cells) held s (c ∷ path) w v (child, at, reach) = look_child cells c child (under c s) path (ports.Literal w v) at ∙ literal_seen child unheld (under c s) path w v reach

-- THE PORTS AT WHICH AN ISLAND LOOKS
abbrev AllLooks : (Spot → Type 0) → List Event → Type 0
AllLooks Q [] = Unit {0}
AllLooks Q (Runs at g from to conditions ∷ rest) = AllLooks Q rest
AllLooks Q (Feeds at c inputs from to conditions ∷ rest) = AllLooks Q rest
AllLooks Q (Looks x at conditions ∷ rest) = Q x × AllLooks Q rest

looked_told : (Q : Spot → Type 0) (h : History) (t : ℕ) (list : List Event) → AllLooks Q list → (x : Spot) → In (looked_in h t list) x → Q x
looked_told Q h t [] all x i = absurd i
looked_told Q h t (Runs at g from to conditions ∷ rest) all x i = looked_told Q h t rest all x i
looked_told Q h t (Feeds at c inputs from to conditions ∷ rest) all x i = looked_told Q h t rest all x i
looked_told Q h t (Looks y at conditions ∷ rest) all x i = by (nat_eq t at && hold h conditions) i (looked_told Q h t rest all.1 x)
  where
    by : (b : Bool) → In (spot_if b y (looked_in h t rest)) x → (In (looked_in h t rest) x → Q x) → Q x
    by true (inl e) later = subst Q e all.0
    by true (inr k) later = later k
    by false k later = later k

unclear_told : (P : Fault → Type 0) (look : Path → Look) (list : List Spot) → ((x : Spot) (kind : FaultKind) → In list x → ((b : BitVector) → look x.at x.port ≡ sights.Value b → ⊥) → P (record { kind = kind; path = x.at; port = x.port })) → OptionTold P (first_unclear look list)
unclear_told P look [] h = tt
unclear_told P look (x ∷ rest) h = by (look x.at x.port) refl (unclear_told P look rest (λ y kind i. h y kind (inr i)))
  where
    by : (y : Seen) → look x.at x.port ≡ y → OptionTold P (first_unclear look rest) → OptionTold P (or_later (fault_in x.at (fault_of x.port y None)) (first_unclear look rest))
    by (sights.Value b) e later = later
    by sights.Conflict e later = h x _ (inl refl) (λ b f. let none : sights.Conflict ≡ sights.Value b = sym e ∙ f in cc)
    by sights.Undefined e later = h x _ (inl refl) (λ b f. let none : sights.Undefined ≡ sights.Value b = sym e ∙ f in cc)

module _ (Q : Spot → Type 0) where
  looks_both : (xs ys : List Event) → AllLooks Q xs → AllLooks Q ys → AllLooks Q (xs ++ ys)
  looks_both [] ys one other = other
  looks_both (Runs at g from to conditions ∷ xs) ys one other = looks_both xs ys one other
  looks_both (Feeds at c inputs from to conditions ∷ xs) ys one other = looks_both xs ys one other
  looks_both (Looks x at conditions ∷ xs) ys one other = (one.0, looks_both xs ys one.1 other)

  group_looks : (g : ℕ) (o : Option ℕ) (b : Beginning) → AllLooks Q (group_events g o b)
  group_looks g None b = tt
  group_looks g (Some n) b = tt

  capture_looks : (o : Option ℕ) (b : Beginning) → AllLooks Q (capture_events o b)
  capture_looks None b = tt
  capture_looks (Some g) b = tt

  -- how ports of an instance are seen, and those of all below it
  record Sees (i : Instance) (b : Beginning) : Type 0 where
    bound : (p : PortRef) → IsNamed i p → Q (b.bound p)
    literals : (c : ℕ) (child : Instance) (path : Path) (w v : ℕ) → cell_at (cells_of i) c ≡ OfInstance child → Reaches child path → Q (spot (b.at ++ (c ∷ path)) (ports.Literal w v))
    deeper : (c : ℕ) (child : Instance) (path : Path) (p : PortRef) → cell_at (cells_of i) c ≡ OfInstance child → FaultAt (is_static child) child path p → Q (spot (b.at ++ (c ∷ path)) p)

  -- what is claimed of a tree
  abbrev LooksAt : Instance → Type 0
  LooksAt i = (b : Beginning) → Sees i b → AllLooks Q (control_events i b)

  module _ (part : PlainComponent) (cells : Cells) (fair : IsFair (Node part cells)) (controlled : IsControlled (Node part cells)) (below : (c : ℕ) (child : Instance) → cell_at cells c ≡ OfInstance child → LooksAt child) where
    rounds_look : (body : Events) (n : ℕ) → ((b : Beginning) → Sees (Node part cells) b → AllLooks Q (body b)) → (count : ℕ) (b : Beginning) → Sees (Node part cells) b → AllLooks Q (rounds_events body n count b)
    rounds_look body n one zero b h = tt
    rounds_look body n one (suc count) b h = looks_both (body b) (rounds_events body n count (later_by n b)) (one b h) (rounds_look body n one count (later_by n b) (record { bound = h.bound; literals = h.literals; deeper = h.deeper }))

    invoke_looks : (j : ℕ) → j < length part.invokes → (b : Beginning) → Sees (Node part cells) b → AllLooks Q (invoke_events (events_below cells) (the_invoke part j) b)
    invoke_looks j there b h =
        looks_both (events_below cells v.cell start) (capture_events v.captures (later_by _ b))
        (subst (AllLooks Q) (sym (events-child cells v.cell its.child start its.stands)) (below v.cell its.child its.stands start sees)) (capture_looks v.captures _)
      where
        v : PlainInvoke
        v = the_invoke part j

        its : IsInvoked (Node part cells) v
        its = controlled.invokes j there

        start : Beginning
        start = record { at = b.at ++ (v.cell ∷ []); bound = bound_below b.bound b.at v.cell v.inputs; from = b.from; conditions = b.conditions }

        own : (p : PortRef) → IsNamed its.child p → FaultAt (is_static its.child) its.child [] p → Q (spot (b.at ++ (v.cell ∷ [])) p)
        own p named at = h.deeper v.cell its.child [] p its.stands at

        bound : (p : PortRef) → IsNamed its.child p → Q (bound_below b.bound b.at v.cell v.inputs p)
        bound (ports.Cell c p) named = own (ports.Cell c p) named named
        bound (ports.Input n) named = h.bound (source_to v.cell v.inputs n) (fair.sources j n its.child there its.stands named)
        bound (ports.Output n) named = absurd named
        bound (ports.Done g) named = absurd named
        bound (ports.Literal w x) named = h.literals v.cell its.child [] w x its.stands tt

        sees : Sees its.child start
        sees = record {
          bound = bound;
          literals = λ c child path w x at reach. subst (λ q. Q (spot q (ports.Literal w x))) (sym (append_assoc b.at (v.cell ∷ []) (c ∷ path))) (h.literals v.cell its.child (c ∷ path) w x its.stands (child, at, reach));
          deeper = λ c child path p at told. subst (λ q. Q (spot q p)) (sym (append_assoc b.at (v.cell ∷ []) (c ∷ path))) (h.deeper v.cell its.child (c ∷ path) p its.stands (child, at, told));
        }

    mutual
      form_looks : (form : PlainForm) → AllThere (timed_in form) (length part.invokes) → ((p : PortRef) → In (tested_in form) p → IsNamed (Node part cells) p) → (b : Beginning) → Sees (Node part cells) b
          → AllLooks Q (form_events part (events_below cells) form b)
      form_looks Empty there named b h = tt
      form_looks (Enable g) there named b h = group_looks g (group_length part g) b
      form_looks (Seq ss) there named b h = tt
      form_looks (Par ss) there named b h = tt
      form_looks (If test comb x y) there named b h = tt
      form_looks (While test comb x) there named b h = tt
      form_looks (Repeat count x) there named b h = tt
      form_looks (StaticSeq written ss) there named b h = seq_looks ss there named b h
      form_looks (StaticPar written ss) there named b h = par_looks ss there named b h
      form_looks (StaticIf written test x y) there named b h = (
        h.bound test.port (named test.port (inl refl)),
        looks_both (events part (events_below cells) x (also_if (b.bound test.port) true b)) (events part (events_below cells) y (also_if (b.bound test.port) false b))
            (one_looks x (there_left (timed_of x) (timed_of y) _ there) (λ p i. named p (inr (in_left (tested_of x) (tested_of y) p i))) (also_if (b.bound test.port) true b) (record { bound = h.bound; literals = h.literals; deeper = h.deeper }))
            (one_looks y (there_right (timed_of x) (timed_of y) _ there) (λ p i. named p (inr (in_right (tested_of x) (tested_of y) p i))) (also_if (b.bound test.port) false b) (record { bound = h.bound; literals = h.literals; deeper = h.deeper })),
      )
      form_looks (StaticRepeat written count x) there named b h = rounds_look (events part (events_below cells) x) (lasts part x) (λ e k. one_looks x there named e k) count b h
      form_looks (Timed j) there named b h = invoke_looks j (there j (inl refl)) b h

      one_looks : (s : PlainStatement) → AllThere (timed_of s) (length part.invokes) → ((p : PortRef) → In (tested_of s) p → IsNamed (Node part cells) p) → (b : Beginning) → Sees (Node part cells) b
          → AllLooks Q (events part (events_below cells) s b)
      one_looks (Placed form place) there named b h = form_looks form there named b h

      seq_looks : (ss : PlainStatements) → AllThere (timed_all ss) (length part.invokes) → ((p : PortRef) → In (tested_all ss) p → IsNamed (Node part cells) p) → (b : Beginning) → Sees (Node part cells) b
          → AllLooks Q (seq_events part (events_below cells) ss b)
      seq_looks no_statements there named b h = tt
      seq_looks (a_statement s ss) there named b h =
          looks_both (events part (events_below cells) s b) (seq_events part (events_below cells) ss (later_by (lasts part s) b))
          (one_looks s (there_left (timed_of s) (timed_all ss) _ there) (λ p i. named p (in_left (tested_of s) (tested_all ss) p i)) b h)
          (seq_looks ss (there_right (timed_of s) (timed_all ss) _ there) (λ p i. named p (in_right (tested_of s) (tested_all ss) p i)) (later_by (lasts part s) b) (record { bound = h.bound; literals = h.literals; deeper = h.deeper }))

      par_looks : (ss : PlainStatements) → AllThere (timed_all ss) (length part.invokes) → ((p : PortRef) → In (tested_all ss) p → IsNamed (Node part cells) p) → (b : Beginning) → Sees (Node part cells) b
          → AllLooks Q (par_events part (events_below cells) ss b)
      par_looks no_statements there named b h = tt
      par_looks (a_statement s ss) there named b h =
          looks_both (events part (events_below cells) s b) (par_events part (events_below cells) ss b)
          (one_looks s (there_left (timed_of s) (timed_all ss) _ there) (λ p i. named p (in_left (tested_of s) (tested_all ss) p i)) b h)
          (par_looks ss (there_right (timed_of s) (timed_all ss) _ there) (λ p i. named p (in_right (tested_of s) (tested_all ss) p i)) b h)

  mutual
    control_looks : (i : Instance) → AllFair i → AllControlled i → LooksAt i
    control_looks (Node part cells) fair controlled b h = one_looks part cells fair.0 controlled.0 (kids_look cells fair.1 controlled.1) part.control controlled.0.timed controlled.0.tests b h

    kids_look : (cells : Cells) → AllFairBelow cells → AllControlledBelow cells → (c : ℕ) (child : Instance) → cell_at cells c ≡ OfInstance child → LooksAt child
    kids_look no_cells fair controlled c child e = absurd (cc)
    kids_look (a_primitive row rest) fair controlled zero child e = absurd (cc)
    kids_look (a_primitive row rest) fair controlled (suc c) child e = kids_look rest fair controlled c child e
    kids_look (an_instance other rest) fair controlled zero child e = let same : other ≡ child = cc in subst LooksAt same (control_looks other fair.0 controlled.0)
    kids_look (an_instance other rest) fair controlled (suc c) child e = kids_look rest fair.1 controlled.1 c child e

-- AN ISLAND
module _ (part : PlainComponent) (cells : Cells) (fair : AllFair (Node part cells)) (controlled : AllControlled (Node part cells)) where
  abbrev i : Instance
  i = Node part cells

  -- or a literal, which is a value
  abbrev AtTop : Spot → Type 0
  AtTop x = FaultAt false i x.at x.port ⊎ ((w : ℕ) × (v : ℕ) × (x.port ≡ ports.Literal w v) × Reaches i x.at)

  at_top : (x : Spot) (kind : FaultKind) (held : Held) (s : State) → AtTop x → ((b : BitVector) → look_below i held s x.at x.port ≡ sights.Value b → ⊥) → Known false i (record { kind = kind; path = x.at; port = x.port })
  at_top x kind held s (inl h) unclear = h
  at_top x kind held s (inr (w, v, e, reach)) unclear = absurd (unclear (record { width = w; value = v }) (ap (look_below i held s x.at) e ∙ literal_seen i held s x.at w v reach))

  pub top_named : (p : PortRef) → IsNamed i p → IsFaulty false i p
  top_named (ports.Cell c p) h = h
  top_named (ports.Input n) h = refl
  top_named (ports.Output n) h = absurd h
  top_named (ports.Done g) h = absurd h
  top_named (ports.Literal w v) h = refl

  from_told : (list : List Event) → AllLooks AtTop list → (held : Held) (left t : ℕ) (before : History) (s : State) (n : ℕ) → Told (Known false i) (whole_from i held list left t before s n)
  from_told list all held zero t before s n = idle_told (Known false i) (idle i) s n
  from_told list all held (suc left) t before s zero = tt
  from_told list all held (suc left) t before s (suc n) =
      turn_told (Known false i) (idle i) s (whole_turn i held list t now s) (λ after. whole_from i held list left (suc t) now after n)
      (unclear (first_unclear (look_below i held s) (looked_in now t list))
      (unclear_told (Known false i) (look_below i held s) (looked_in now t list) (λ x kind k unclear_there. at_top x kind held s (looked_told AtTop now t list all x k) unclear_there)))
      (λ after. from_told list all held left (suc t) now after n)
    where
      now : History
      now = and_now before t (look_below i held s)

      ended : Ended
      ended = whole_cycle i held (entries (own_entries (deeds_in now t list))) (deeds_in now t list) s

      unclear : (o : Option Fault) → OptionTold (Known false i) o → TurnTold (Known false i) (unless_unclear o ended)
      unclear (Some f) h = h
      unclear None h = turn_ended (Known false i) ended (whole_told false i fair held (entries (own_entries (deeds_in now t list))) (deeds_in now t list) s)

  pub island_told : (form : PlainForm) → IsStaticOf i form → (held : Held) (s : State) (n : ℕ) → Told (Known false i) (whole_island i held form s n)
  island_told form static held s n =
      from_told (form_events part (events_below cells) form begin)
      (form_looks AtTop part cells fair.0 controlled.0 (kids_look AtTop cells fair.1 controlled.1) form static.timed static.tests begin
      (record { bound = λ p named. inl (top_named p named); literals = λ c child path w v at reach. inr (w, v, refl, (child, at, reach)); deeper = λ c child path p at told. inl (child, at, told) }))
      held (form_lasts part form) 0 no_history s n
    where
      begin : Beginning
      begin = record { at = []; bound = spot []; from = 0; conditions = [] }
