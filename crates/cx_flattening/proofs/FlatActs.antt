-- WHAT ACTS of the flat component, where what is done in the tree stands beside it and no static child is fed twice.
use Rattle.std.proofs.Common.{◌≡◌, ◌≢◌, ℕ, zero, suc, ◌+◌, ◌-◌, ◌<◌, ◌≤◌, inl, inr, ⊎_elim, Bool, true, false, List, [], ◌∷◌, ◌++◌, length, map, get_or, Option, Some, None, nat_eq, refl, sym, ap, ◌∙◌, subst, arith}
use Rattle.std.proofs.lemmas.List.{append-nil, length-append, length-map}
use Rattle.std.specs.Prelude.{◌⊎◌, flat_map, take, if◌then◌else◌}
use Rattle.std.proofs.lemmas.Bool.{cases_eq, cases_lt, ne_eqb, eq-eqb}
use Rattle.cx_meaning.specs.Designs.{PlainAssign, PlainInvoke, PlainComponent}
use Rattle.cx_meaning.specs.Instances.{Instance, Node, Cells, no_cells, a_primitive, an_instance, OfInstance, cell_at}
use Rattle.cx_meaning.specs.Active.{nothing, Entry, offset_in, entries}
use Rattle.cx_meaning.specs.Control.{groups_of}
use Rattle.cx_text.specs.Members.{In}
use Rattle.cx_flattening.specs.Events.{no_invoke, the_invoke}
use Rattle.cx_flattening.specs.Deeds.{Deed, Acts, Fed, deed_if, own_entries, deeds_below}
use Rattle.cx_flattening.specs.Whole.{is_static}
use Rattle.cx_rules.specs.Counts.{is_one_of}
use Rattle.cx_flattening.specs.Copies.{count_if, enabled_below, enabled_groups}
use Rattle.cx_flattening.specs.Flattened.{Kids, kid_at, flat_kids, flat_part, copies, copy_of}
use Rattle.cx_flattening.specs.Acting.{fed_by, IsUsed, IsOf, ActsAs, AllActAs}
use Rattle.cx_flattening.specs.Fair.{IsFair, AllFair, AllFairBelow}
use Rattle.cx_flattening.specs.FedOnce.{one_more, count_fed, FedOnce, FedOnceBelow}
use Rattle.cx_flattening.proofs.FlatGroups.{enabled_grows, enabled_get, copies_flat}
use Rattle.cx_flattening.proofs.LevelSights.{kid-static}
use Rattle.cx_flattening.proofs.FlatDeeds.{lower, entry_by, Pairs, none_done, own_group, an_invoke}
use Rattle.cx_flattening.proofs.StillActs.{still_acts}
use Rattle.cx_meaning.proofs.ActiveLemmas.{offset-both, or_else}

-- OFFSETS in lists
-- of entries by their copies, where the groups are among these
offset-copied : (copy : ℕ → ℕ) (P : ℕ → Type 0) (g : ℕ) → ((m : ℕ) → P m → nat_eq (copy m) (copy g) ≡ nat_eq m g) → (list : List Entry) → ((e : Entry) → In list e → P e.group) → offset_in (map (entry_by copy) list) (copy g) ≡ offset_in list g
offset-copied copy P g apart [] all = refl
offset-copied copy P g apart (e ∷ rest) all =
    ap (λ b. if b then Some e.offset else offset_in (map (entry_by copy) rest) (copy g)) (apart e.group (all e (inl refl)))
    ∙ ap (λ o. if nat_eq e.group g then Some e.offset else o) (offset-copied copy P g apart rest (λ x i. all x (inr i)))

offset-beside : (copy : ℕ → ℕ) (P : ℕ → Type 0) (n : ℕ) → ((m : ℕ) → P m → nat_eq (copy m) n ≡ false) → (list : List Entry) → ((e : Entry) → In list e → P e.group) → offset_in (map (entry_by copy) list) n ≡ None
offset-beside copy P n apart [] all = refl
offset-beside copy P n apart (e ∷ rest) all =
    ap (λ b. if b then Some e.offset else offset_in (map (entry_by copy) rest) n) (apart e.group (all e (inl refl))) ∙ offset-beside copy P n apart rest (λ x i. all x (inr i))

offset-none : (P : ℕ → Type 0) (g : ℕ) → (P g → ⊥) → (list : List Entry) → ((e : Entry) → In list e → P e.group) → offset_in list g ≡ None
offset-none P g none [] all = refl
offset-none P g none (e ∷ rest) all =
    ap (λ b. if b then Some e.offset else offset_in rest g) (ne_eqb e.group g (λ same. none (subst P same (all e (inl refl))))) ∙ offset-none P g none rest (λ x i. all x (inr i))

-- DEEDS below a cell among others
pub own-below : (c : ℕ) (kds ds : List Deed) → own_entries (map (lower (c ∷ [])) kds ++ ds) ≡ own_entries ds
own-below c [] ds = refl
own-below c (Acts at e ∷ rest) ds = own-below c rest ds
own-below c (Fed at d inputs ∷ rest) ds = own-below c rest ds

fed-below : (c d : ℕ) (kds ds : List Deed) → fed_by d (map (lower (c ∷ [])) kds ++ ds) ≡ fed_by d ds
fed-below c d [] ds = refl
fed-below c d (Acts at e ∷ rest) ds = fed-below c d rest ds
fed-below c d (Fed at f inputs ∷ rest) ds = fed-below c d rest ds

pub count-below : (c d : ℕ) (kds ds : List Deed) → count_fed d (map (lower (c ∷ [])) kds ++ ds) ≡ count_fed d ds
count-below c d [] ds = refl
count-below c d (Acts at e ∷ rest) ds = count-below c d rest ds
count-below c d (Fed at f inputs ∷ rest) ds = count-below c d rest ds

pub below-there : (c : ℕ) (kds ds : List Deed) → deeds_below c (map (lower (c ∷ [])) kds ++ ds) ≡ kds ++ deeds_below c ds
below-there c [] ds = refl
below-there c (Acts at e ∷ rest) ds = ap (λ b. deed_if b (Acts at e) (deeds_below c (map (lower (c ∷ [])) rest ++ ds))) (eq-eqb c c refl) ∙ ap (λ l. Acts at e ∷ l) (below-there c rest ds)
below-there c (Fed at f inputs ∷ rest) ds = ap (λ b. deed_if b (Fed at f inputs) (deeds_below c (map (lower (c ∷ [])) rest ++ ds))) (eq-eqb c c refl) ∙ ap (λ l. Fed at f inputs ∷ l) (below-there c rest ds)

pub below-elsewhere : (c d : ℕ) → (c ≡ d → ⊥) → (kds ds : List Deed) → deeds_below d (map (lower (c ∷ [])) kds ++ ds) ≡ deeds_below d ds
below-elsewhere c d apart [] ds = refl
below-elsewhere c d apart (Acts at e ∷ rest) ds = ap (λ b. deed_if b (Acts at e) (deeds_below d (map (lower (c ∷ [])) rest ++ ds))) (ne_eqb c d apart) ∙ below-elsewhere c d apart rest ds
below-elsewhere c d apart (Fed at f inputs ∷ rest) ds = ap (λ b. deed_if b (Fed at f inputs) (deeds_below d (map (lower (c ∷ [])) rest ++ ds))) (ne_eqb c d apart) ∙ below-elsewhere c d apart rest ds

counted : (d : ℕ) (ds : List Deed) (inputs : List PlainAssign) → fed_by d ds ≡ Some inputs → 1 ≤ count_fed d ds
counted d [] inputs e = absurd (cc)
counted d (Acts at x ∷ rest) inputs e = counted d rest inputs e
counted d (Fed [] c others ∷ rest) inputs e = choice (nat_eq c d) e (counted d rest inputs)
  where
    choice : (b : Bool) → (if b then Some others else fed_by d rest) ≡ Some inputs → (fed_by d rest ≡ Some inputs → 1 ≤ count_fed d rest) → 1 ≤ one_more b (count_fed d rest)
    choice true f later = omega arith
    choice false f later = later f
counted d (Fed (c ∷ at) f others ∷ rest) inputs e = counted d rest inputs e

-- NUMBERS of copies
enabled_apart : (used : List ℕ) (g h : ℕ) → is_one_of g used ≡ true → g < h → enabled_below used g < enabled_below used h
enabled_apart used g h is less = subst (λ k. enabled_below used g < enabled_below used k) (later less).1 (step (later less).0)
  where
    later : g < h → (n : ℕ) × (suc g + n ≡ h)
    later l = (h - suc g, omega (arith, l))

    step : (n : ℕ) → enabled_below used g < enabled_below used (suc g + n)
    step n = let grows = enabled_grows used (suc g) n in let one : enabled_below used (suc g) ≡ suc (enabled_below used g) = ap (λ b. count_if b (enabled_below used g)) is in omega (arith, grows, one)

module _ (kids : Kids) (part : PlainComponent) where
  pub copies_before : (vs : List PlainInvoke) (j m : ℕ) → j < m → j < length vs → length (flat_map (copies kids part) (take j vs)) + length (copies kids part (get_or vs j no_invoke)) ≤ length (flat_map (copies kids part) (take m vs))
  copies_before [] j m less there = absurd (omega (arith, there))
  copies_before (v ∷ vs) zero zero less there = absurd (omega (arith, less))
  copies_before (v ∷ vs) zero (suc m) less there = let all = length-append (copies kids part v) (flat_map (copies kids part) (take m vs)) in omega (arith, all)
  copies_before (v ∷ vs) (suc j) zero less there = absurd (omega (arith, less))
  copies_before (v ∷ vs) (suc j) (suc m) less there =
      let ih = copies_before vs j m (omega (arith, less)) (omega (arith, there)) in
      let one = length-append (copies kids part v) (flat_map (copies kids part) (take j vs)) in
      let two = length-append (copies kids part v) (flat_map (copies kids part) (take m vs)) in
      omega (arith, ih, one, two)

  -- a copy is among those of its invoke
  pub copy_within : (j g : ℕ) (kid : PlainComponent) → kid_at kids (the_invoke part j).cell ≡ Some kid → IsUsed kid g → g < length kid.groups → enabled_below (groups_of kid.control) g < length (copies kids part (the_invoke part j))
  copy_within j g kid its used there =
      let r = enabled_get (groups_of kid.control) 0 kid.groups g (enabled_below (groups_of kid.control) g) (ap (λ k. is_one_of k (groups_of kid.control)) (zero_plus g) ∙ used) there (zero_plus (enabled_below (groups_of kid.control) g) ∙ ap (enabled_below (groups_of kid.control)) (sym (zero_plus g))) in
      let same : length (copies kids part (the_invoke part j)) ≡ length (enabled_groups (groups_of kid.control) 0 kid.groups) = ap length (copies_flat kids part (the_invoke part j) kid its) ∙ length-map (enabled_groups (groups_of kid.control) 0 kid.groups) _ in
      let inside = r.0 in
      omega (arith, same, inside)
    where
      zero_plus : (a : ℕ) → 0 + a ≡ a
      zero_plus a = omega arith

  -- so copies for different invokes are apart
  pub invokes_apart : (j m g n : ℕ) (kid other : PlainComponent) → j < m → j < length part.invokes → kid_at kids (the_invoke part j).cell ≡ Some kid → IsUsed kid g → g < length kid.groups → copy_of kids part kid j g ≢ copy_of kids part other m n
  invokes_apart j m g n kid other less there its used inside same =
      let before = copies_before part.invokes j m less there in
      let within = copy_within j g kid its used inside in
      omega (arith, before, within, same)

  pub copy_apart : (kid : PlainComponent) (j g h : ℕ) → IsUsed kid g → IsUsed kid h → nat_eq (copy_of kids part kid j g) (copy_of kids part kid j h) ≡ nat_eq g h
  copy_apart kid j g h u w = choice (cases_eq g h)
    where
      choice : (g ≡ h) ⊎ (g ≡ h → ⊥) → nat_eq (copy_of kids part kid j g) (copy_of kids part kid j h) ≡ nat_eq g h
      choice (inl e) = eq-eqb _ _ (ap (copy_of kids part kid j) e) ∙ sym (eq-eqb g h e)
      choice (inr ne) = ne_eqb _ _ (λ same. ⊎_elim (λ (l : g < h). below g h u l same) (λ (l : h ≤ g). below h g w (strictly l) (sym same)) (cases_lt g h)) ∙ sym (ne_eqb g h ne)
        where
          strictly : h ≤ g → h < g
          strictly l = ⊎_elim (λ (x : h < g). x) (λ (x : g ≤ h). absurd (ne (omega (arith, l, x)))) (cases_lt h g)

          below : (a b : ℕ) → IsUsed kid a → a < b → copy_of kids part kid j a ≡ copy_of kids part kid j b → ⊥
          below a b is less same = let apart = enabled_apart (groups_of kid.control) a b is less in omega (arith, apart, same)

module _ (part : PlainComponent) (cells : Cells) (fair : IsFair (Node part cells)) where
  abbrev kids : Kids
  kids = flat_kids cells

  abbrev i : Instance
  i = Node part cells

  -- copies stand behind the own groups
  behind_own : (kid : PlainComponent) (j g n : ℕ) → n < length part.groups → nat_eq (copy_of kids part kid j g) n ≡ false
  behind_own kid j g n less = ne_eqb (copy_of kids part kid j g) n (λ same. omega (arith, less, same))

  -- THE OWN GROUPS act as they do
  own_offsets : {ds : List Deed} {es : List Entry} → Pairs i ds es → (g : ℕ) → g < length part.groups → offset_in es g ≡ offset_in (own_entries ds) g
  own_offsets none_done g less = refl
  own_offsets (own_group e there rest) g less = ap (λ o. if nat_eq e.group g then Some e.offset else o) (own_offsets rest g less)
  own_offsets (an_invoke {ds = ds} {kds = kds} {es = es} {kes = kes} j child there at static inner used rest) g less =
      offset-both (map (entry_by (copy_of kids part (flat_part child) j)) kes) es g
      ∙ ap (λ o. or_else o (offset_in es g)) (offset-beside (copy_of kids part (flat_part child) j) (λ m. Unit {0}) g (λ m u. behind_own (flat_part child) j m g less) kes (λ e i. tt))
      ∙ own_offsets rest g less ∙ ap (λ l. offset_in l g) (sym (own-below (the_invoke part j).cell kds ds))

  -- OF ONE STATIC CHILD
  module _ (d : ℕ) (child : Instance) (at : cell_at cells d ≡ OfInstance child) (static : is_static child ≡ true) where
    abbrev kid : PlainComponent
    kid = flat_part child

    its_kid : kid_at kids d ≡ Some kid
    its_kid = kid-static cells d child at static

    used_there : (g : ℕ) → IsUsed kid g → g < length kid.groups
    used_there g u = (fair.targets.blocks d kid its_kid).there g u

    -- it is fed by none, or by one whose copies act
    pub record IsQuiet (ds : List Deed) (es : List Entry) : Type 0 where
      pub unfed : fed_by d ds ≡ None
      pub none_below : deeds_below d ds ≡ []
      pub copies : (j g : ℕ) → IsOf part d j → IsUsed kid g → offset_in es (copy_of kids part kid j g) ≡ None

    pub record IsBusy (ds : List Deed) (es : List Entry) : Type 0 where
      pub invoke : ℕ
      pub its : IsOf part d invoke
      pub fed : fed_by d ds ≡ Some (the_invoke part invoke).inputs
      pub inner_deeds : List Deed
      pub inner_entries : List Entry
      pub below : deeds_below d ds ≡ inner_deeds
      pub pairs : Pairs child inner_deeds inner_entries
      pub all_used : (e : Entry) → In inner_entries e → IsUsed kid e.group
      pub used : (g : ℕ) → IsUsed kid g → offset_in es (copy_of kids part kid invoke g) ≡ offset_in inner_entries g
      pub others : (j g : ℕ) → IsOf part d j → j ≢ invoke → IsUsed kid g → offset_in es (copy_of kids part kid j g) ≡ None

    -- the copies for one invoke beside those for another
    apart_from : (j m g n : ℕ) (other : PlainComponent) → (j ≡ m → ⊥) → IsOf part d j → IsUsed kid g → m < length part.invokes → kid_at kids (the_invoke part m).cell ≡ Some other → IsUsed other n → nat_eq (copy_of kids part other m n) (copy_of kids part kid j g) ≡ false
    apart_from j m g n other ne its used m_there m_kid m_used =
        ne_eqb (copy_of kids part other m n) (copy_of kids part kid j g)
        (λ same. ⊎_elim
        (λ (l : j < m). invokes_apart kids part j m g n kid other l its.there (ap (kid_at kids) its.cell ∙ its_kid) used (used_there g used) (sym same))
        (λ (l : m ≤ j). invokes_apart kids part m j n g other kid (strictly l) m_there m_kid m_used ((fair.targets.blocks (the_invoke part m).cell other m_kid).there n m_used) same)
        (cases_lt j m))
      where
        strictly : m ≤ j → m < j
        strictly l = ⊎_elim (λ (x : m < j). x) (λ (x : j ≤ m). absurd (ne (omega (arith, l, x)))) (cases_lt m j)

    none_of : (m : ℕ) (other : Instance) (kes es : List Entry) → m < length part.invokes → kid_at kids (the_invoke part m).cell ≡ Some (flat_part other) → ((e : Entry) → In kes e → IsUsed (flat_part other) e.group) → (j g : ℕ) → (j ≡ m → ⊥) → IsOf part d j → IsUsed kid g
        → offset_in (map (entry_by (copy_of kids part (flat_part other) m)) kes ++ es) (copy_of kids part kid j g) ≡ offset_in es (copy_of kids part kid j g)
    none_of m other kes es m_there m_kid m_used j g ne its used =
        offset-both (map (entry_by (copy_of kids part (flat_part other) m)) kes) es (copy_of kids part kid j g)
        ∙ ap (λ o. or_else o (offset_in es (copy_of kids part kid j g)))
        (offset-beside (copy_of kids part (flat_part other) m) (IsUsed (flat_part other)) (copy_of kids part kid j g) (λ n n_used. apart_from j m g n (flat_part other) ne its used m_there m_kid n_used) kes m_used)

    feeds_it : (c : ℕ) (inputs : List PlainAssign) (rest : List Deed) → c ≡ d → fed_by d (Fed [] c inputs ∷ rest) ≡ Some inputs
    feeds_it c inputs rest e = ap (λ b. if b then Some inputs else fed_by d rest) (eq-eqb c d e)

    feeds_other : (c : ℕ) (inputs : List PlainAssign) (rest : List Deed) → (c ≡ d → ⊥) → fed_by d (Fed [] c inputs ∷ rest) ≡ fed_by d rest
    feeds_other c inputs rest ne = ap (λ b. if b then Some inputs else fed_by d rest) (ne_eqb c d ne)

    find : {ds : List Deed} {es : List Entry} → Pairs i ds es → count_fed d ds ≤ 1 → IsQuiet ds es ⊎ IsBusy ds es
    find none_done once = inl (record { unfed = refl; none_below = refl; copies = λ j g its u. refl })
    find (own_group {ds = ds} {es = es} e there rest) once =
        ⊎_elim
        (λ (q : IsQuiet ds es). inl (record { unfed = q.unfed; none_below = q.none_below; copies = λ j g its u. passes j g ∙ q.copies j g its u }))
        (λ (b : IsBusy ds es). inr (record {
          invoke = b.invoke;
          its = b.its;
          fed = b.fed;
          inner_deeds = b.inner_deeds;
          inner_entries = b.inner_entries;
          below = b.below;
          pairs = b.pairs;
          all_used = b.all_used;
          used = λ g u. passes b.invoke g ∙ b.used g u;
          others = λ j g its ne u. passes j g ∙ b.others j g its ne u;
        }))
        (find rest once)
      where
        passes : (j g : ℕ) → offset_in (e ∷ es) (copy_of kids part kid j g) ≡ offset_in es (copy_of kids part kid j g)
        passes j g = ap (λ b. if b then Some e.offset else offset_in es (copy_of kids part kid j g)) (ne_eqb e.group (copy_of kids part kid j g) (λ same. omega (arith, there, same)))
    find (an_invoke {ds = ds} {kds = kds} {es = es} {kes = kes} m other m_there m_at m_static inner m_used rest) once =
        ⊎_elim
        (λ (e : (the_invoke part m).cell ≡ d). here e (find rest (less e)))
        (λ (ne : (the_invoke part m).cell ≡ d → ⊥). elsewhere ne (find rest (same ne)))
        (cases_eq (the_invoke part m).cell d)
      where
        m_kid : kid_at kids (the_invoke part m).cell ≡ Some (flat_part other)
        m_kid = kid-static cells (the_invoke part m).cell other m_at m_static

        counts : one_more (nat_eq (the_invoke part m).cell d) (count_fed d ds) ≤ 1
        counts = subst (λ n. one_more (nat_eq (the_invoke part m).cell d) n ≤ 1) (count-below (the_invoke part m).cell d kds ds) once

        same : ((the_invoke part m).cell ≡ d → ⊥) → count_fed d ds ≤ 1
        same ne = subst (λ b. one_more b (count_fed d ds) ≤ 1) (ne_eqb (the_invoke part m).cell d ne) counts

        none_left : (the_invoke part m).cell ≡ d → count_fed d ds ≡ 0
        none_left e = let more : suc (count_fed d ds) ≤ 1 = subst (λ b. one_more b (count_fed d ds) ≤ 1) (eq-eqb (the_invoke part m).cell d e) counts in omega (arith, more)

        less : (the_invoke part m).cell ≡ d → count_fed d ds ≤ 1
        less e = let none = none_left e in omega (arith, none)

        elsewhere : ((the_invoke part m).cell ≡ d → ⊥) → IsQuiet ds es ⊎ IsBusy ds es
            → IsQuiet (Fed [] (the_invoke part m).cell (the_invoke part m).inputs ∷ (map (lower ((the_invoke part m).cell ∷ [])) kds ++ ds)) (map (entry_by (copy_of kids part (flat_part other) m)) kes ++ es)
            ⊎ IsBusy (Fed [] (the_invoke part m).cell (the_invoke part m).inputs ∷ (map (lower ((the_invoke part m).cell ∷ [])) kds ++ ds)) (map (entry_by (copy_of kids part (flat_part other) m)) kes ++ es)
        elsewhere ne (inl q) = inl (record {
          unfed = feeds_other (the_invoke part m).cell (the_invoke part m).inputs (map (lower ((the_invoke part m).cell ∷ [])) kds ++ ds) ne ∙ fed-below (the_invoke part m).cell d kds ds ∙ q.unfed;
          none_below = below-elsewhere (the_invoke part m).cell d ne kds ds ∙ q.none_below;
          copies = λ j g its u. none_of m other kes es m_there m_kid m_used j g (λ e. ne (ap (λ x. (the_invoke part x).cell) (sym e) ∙ its.cell)) its u ∙ q.copies j g its u;
        })
        elsewhere ne (inr b) = inr (record {
          invoke = b.invoke;
          its = b.its;
          fed = feeds_other (the_invoke part m).cell (the_invoke part m).inputs (map (lower ((the_invoke part m).cell ∷ [])) kds ++ ds) ne ∙ fed-below (the_invoke part m).cell d kds ds ∙ b.fed;
          inner_deeds = b.inner_deeds;
          inner_entries = b.inner_entries;
          below = below-elsewhere (the_invoke part m).cell d ne kds ds ∙ b.below;
          pairs = b.pairs;
          all_used = b.all_used;
          used = λ g u. none_of m other kes es m_there m_kid m_used b.invoke g (λ e. ne (ap (λ x. (the_invoke part x).cell) (sym e) ∙ b.its.cell)) b.its u ∙ b.used g u;
          others = λ j g its away u. none_of m other kes es m_there m_kid m_used j g (λ e. ne (ap (λ x. (the_invoke part x).cell) (sym e) ∙ its.cell)) its u ∙ b.others j g its away u;
        })

        here : (the_invoke part m).cell ≡ d → IsQuiet ds es ⊎ IsBusy ds es
            → IsQuiet (Fed [] (the_invoke part m).cell (the_invoke part m).inputs ∷ (map (lower ((the_invoke part m).cell ∷ [])) kds ++ ds)) (map (entry_by (copy_of kids part (flat_part other) m)) kes ++ es)
            ⊎ IsBusy (Fed [] (the_invoke part m).cell (the_invoke part m).inputs ∷ (map (lower ((the_invoke part m).cell ∷ [])) kds ++ ds)) (map (entry_by (copy_of kids part (flat_part other) m)) kes ++ es)
        here e (inr b) = absurd (let some = counted d ds (the_invoke part b.invoke).inputs b.fed in let none = none_left e in omega (arith, some, none))
        here e (inl q) = inr (record {
          invoke = m;
          its = record { there = m_there; cell = e };
          fed = feeds_it (the_invoke part m).cell (the_invoke part m).inputs (map (lower ((the_invoke part m).cell ∷ [])) kds ++ ds) e;
          inner_deeds = kds;
          inner_entries = kes;
          below = subst (λ c. deeds_below d (map (lower (c ∷ [])) kds ++ ds) ≡ kds) (sym e) (below-there d kds ds ∙ ap (λ l. kds ++ l) q.none_below ∙ append-nil kds);
          pairs = subst (λ x. Pairs x kds kes) one inner;
          all_used = used_here;
          used = λ g u.
              ap (λ x. offset_in (map (entry_by (copy_of kids part (flat_part x) m)) kes ++ es) (copy_of kids part kid m g)) one
              ∙ offset-both (map (entry_by (copy_of kids part kid m)) kes) es (copy_of kids part kid m g)
              ∙ ap (or_else (offset_in (map (entry_by (copy_of kids part kid m)) kes) (copy_of kids part kid m g))) (q.copies m g (record { there = m_there; cell = e }) u)
              ∙ or_none (offset_in (map (entry_by (copy_of kids part kid m)) kes) (copy_of kids part kid m g))
              ∙ offset-copied (copy_of kids part kid m) (IsUsed kid) g (λ n n_used. copy_apart kids part kid m n g n_used u) kes used_here;
          others = λ j g its away u. none_of m other kes es m_there m_kid m_used j g away its u ∙ q.copies j g its u;
        })
          where
            or_none : (o : Option ℕ) → or_else o None ≡ o
            or_none None = refl
            or_none (Some n) = refl

            one : other ≡ child
            one = let both : OfInstance other ≡ OfInstance child = sym m_at ∙ ap (cell_at cells) e ∙ at in cc

            used_here : (x : Entry) → In kes x → IsUsed kid x.group
            used_here x y = subst (λ z. IsUsed (flat_part z) x.group) one (m_used x y)

-- WHAT ACTS
mutual
  pub acts_of : (i : Instance) → AllFair i → (ds : List Deed) (es : List Entry) → Pairs i ds es → FedOnce i ds → ActsAs i (entries (own_entries ds)) ds (entries es)
  acts_of (Node part cells) fair ds es pairs once = (own_offsets part cells fair.0 pairs, all_acts cells part cells 0 (λ n. ap (cell_at cells) (plus n)) fair.0 fair.1 ds es pairs once.0 once.1)
    where
      plus : (a : ℕ) → a ≡ 0 + a
      plus a = omega arith

  all_acts : (rest : Cells) (part : PlainComponent) (cells : Cells) (c : ℕ) → ((n : ℕ) → cell_at rest n ≡ cell_at cells (c + n)) → IsFair (Node part cells) → AllFairBelow rest → (ds : List Deed) (es : List Entry) → Pairs (Node part cells) ds es
      → ((d : ℕ) → count_fed d ds ≤ 1) → FedOnceBelow rest c ds → AllActAs (flat_kids cells) part rest c ds (entries es)
  all_acts no_cells part cells c tail fair fair_rest ds es pairs once once_rest = tt
  all_acts (a_primitive row rest) part cells c tail fair fair_rest ds es pairs once once_rest = all_acts rest part cells (suc c) (λ n. tail (suc n) ∙ ap (cell_at cells) (plus c n)) fair fair_rest ds es pairs once once_rest
    where
      plus : (a b : ℕ) → a + suc b ≡ suc a + b
      plus a b = omega arith
  all_acts (an_instance child rest) part cells c tail fair fair_rest ds es pairs once once_rest = (
    λ static.
        ⊎_elim
        (λ (q : IsQuiet part cells fair c child at static ds es). (
          nothing,
          refl,
          subst (λ l. ActsAs child (entries (own_entries l)) l nothing) (sym q.none_below) (still_acts child),
          inl (record { unfed = q.unfed; none_below = q.none_below; still = λ g. refl; copies = q.copies }),
        ))
        (λ (b : IsBusy part cells fair c child at static ds es). (
          entries b.inner_entries,
          refl,
          subst (λ l. ActsAs child (entries (own_entries l)) l (entries b.inner_entries)) (sym b.below) (acts_of child fair_rest.0 b.inner_deeds b.inner_entries b.pairs (subst (FedOnce child) b.below (once_rest.0 static))),
          inr (record {
            invoke = b.invoke;
            its = b.its;
            fed = b.fed;
            used = b.used;
            others = b.others;
            unused = λ g unused. offset-none (IsUsed (flat_part child)) g (λ u. let none : false ≡ true = sym unused ∙ u in cc) b.inner_entries b.all_used;
          }),
        ))
        (find part cells fair c child at static pairs (once c)),
    all_acts rest part cells (suc c) (λ n. tail (suc n) ∙ ap (cell_at cells) (plus c n)) fair fair_rest.1 ds es pairs once once_rest.1,
  )
    where
      plus : (a b : ℕ) → a + suc b ≡ suc a + b
      plus a b = omega arith

      zero_plus : (a : ℕ) → a + 0 ≡ a
      zero_plus a = omega arith

      at : cell_at cells c ≡ OfInstance child
      at = ap (cell_at cells) (sym (zero_plus c)) ∙ sym (tail 0)
