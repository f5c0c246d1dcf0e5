-- Inputs that are gathered from what marks know.
use Rattle.std.proofs.Common.{◌≡◌, ℕ, zero, suc, ◌+◌, ◌-◌, ◌<◌, ◌≤◌, Bool, true, false, nat_lt, Option, Some, None, Ok, Err, List, [], ◌∷◌, ◌++◌, get_or, length, replicate, take, refl, sym, ap, ◌∙◌, arith}
use Rattle.std.specs.Prelude.{Result, slice_get}
use Rattle.std.proofs.lemmas.List.{length-replicate, take-replicate}
use Rattle.cx_bits.specs.BitVector.{BitVector}
use Rattle.cx_prim.specs.declared.ports.PortRow.{PortRow}
use Rattle.cx_meaning.specs.declared.sights.Seen.{Seen}
use Rattle.cx_meaning.specs.declared.sights.Seen.TheVariants.{Value}
use Rattle.cx_meaning.specs.Sights.{Given, gather, gather_port, output_seen, with_entry}
use Rattle.cx_prim.specs.Rows.{FitsPorts}
use Rattle.cx_text.proofs.NumberLaws.{lt_true, true_lt}
use Rattle.cx_eval_drives.specs.Gathers.{entry_of, gather_all}
use Rattle.cx_eval_drives.proofs.GatherLemmas.{IsSoFar, counts, so_far_begin, so_far_lacks, wanted_fits, with_front}
use Rattle.cx_eval_network.specs.declared.marks.NodeMark.{NodeMark}
use Rattle.cx_eval_network.specs.declared.marks.NodeMark.TheVariants.{Unseen, Open, Known}
use Rattle.cx_eval_network.specs.declared.network.Found.{Found}
use Rattle.cx_eval_network.specs.declared.network.Found.TheVariants.{Worth, Waits}
use Rattle.cx_eval_network.specs.Demands.{is_known, known_at}
use Rattle.cx_eval_network.specs.Evaluated.{FillsWith, InputsAgree, InputsFit, IsGathered, IsNoValue, IsOutput, by_mark}
use Rattle.cx_eval_network.specs.Networks.{shown}

-- so many slots where nothing stands
abbrev pub nones : ℕ → List (Option BitVector)
nones zero = []
nones (suc n) = None ∷ nones n

fill_is : (xs : List (Option BitVector)) (p : ℕ) → ((n : ℕ) → p ≤ n → get_or xs n None ≡ None) → take p xs ++ nones (length xs - p) ≡ xs
fill_is [] zero bare = refl
fill_is [] (suc p) bare = let z : 0 - suc p ≡ 0 = omega arith in ap nones z
fill_is (x ∷ xs) zero bare =
    let all : suc (length xs) - 0 ≡ suc (length xs - 0) = omega arith in
    ap nones all ∙ ap (λ y. y ∷ nones (length xs - 0)) (sym (bare 0 (omega arith))) ∙ ap (λ ys. x ∷ ys) (fill_is xs zero (λ n le. bare (suc n) (omega arith)))
fill_is (x ∷ xs) (suc p) bare =
    let s : suc (length xs) - suc p ≡ length xs - p = omega arith in
    ap (λ n. x ∷ (take p xs ++ nones n)) s ∙ ap (λ ys. x ∷ ys) (fill_is xs p (λ n le. bare (suc n) (omega (arith, le))))

rest_is : (look : ℕ → Seen) (wanted : ℕ → Bool) (p m : ℕ) → ((q : ℕ) → p ≤ q → wanted q ≡ false) → gather_all look wanted p m ≡ Given (nones m)
rest_is look wanted p zero past = refl
rest_is look wanted p (suc m) past =
    ap (λ w. gather_port w p (look p) (gather_all look wanted (suc p) m)) (past p (omega arith))
    ∙ ap (with_entry None) (rest_is look wanted (suc p) m (λ q le. past q (omega (arith, le))))

past_false : (q reads : ℕ) → reads ≤ q → nat_lt q reads ≡ false
past_false q reads le = grind arith

pub gathered_end : (look : ℕ → Seen) (reads count p : ℕ) (inputs : List (Option BitVector)) → length inputs ≡ count → reads ≤ p → ((n : ℕ) → p ≤ n → get_or inputs n None ≡ None)
    → IsSoFar look (λ q. nat_lt q reads) count inputs p → Given inputs ≡ gather_all look (λ q. nat_lt q reads) 0 (length inputs)
gathered_end look reads count p inputs sized le bare far =
    ap (λ xs. Given xs) (sym (fill_is inputs p bare))
    ∙ ap (with_front (take p inputs)) (sym (rest_is look (λ q. nat_lt q reads) p (length inputs - p) (λ q past. past_false q reads (omega (arith, le, past)))))
    ∙ ap (λ n. with_front (take p inputs) (gather_all look (λ q. nat_lt q reads) p (n - p))) sized
    ∙ far ∙ ap (gather_all look (λ q. nat_lt q reads) 0) (sym sized)

-- an input that is not given
pub gather_bare : (look : ℕ → Seen) (ports : List PortRow) → gather look (λ q. nat_lt q 0) 0 ports ≡ Given (nones (length ports))
gather_bare look ports = counts look (λ q. nat_lt q 0) 0 ports ∙ rest_is look (λ q. nat_lt q 0) 0 (length ports) (λ q le. past_false q 0 (omega arith))

module _ (own : List NodeMark) (first reads : ℕ) (look : ℕ → Seen) (agree : InputsAgree own first reads look) (port : ℕ) (lt : port < reads) where
  entry_is : (x : Seen) (r : Result (Option BitVector) Seen) → slice_get own (first + port) ≡ Some (Known x) → entry_of true x ≡ r → entry_of (nat_lt port reads) (look port) ≡ r
  entry_is x r is e = ap (λ w. entry_of w (look port)) (lt_true port reads lt) ∙ ap (entry_of true) (sym (agree port x lt is)) ∙ e

  pub filled : (slot : Option BitVector) → FillsWith slot (by_mark (first + port) (slice_get own (first + port))) → entry_of (nat_lt port reads) (look port) ≡ Ok slot
  filled slot h = by (slice_get own (first + port)) refl h
    where
      by : (o : Option NodeMark) → slice_get own (first + port) ≡ o → FillsWith slot (by_mark (first + port) o) → entry_of (nat_lt port reads) (look port) ≡ Ok slot
      by None is h = absurd h
      by (Some Unseen) is h = absurd h
      by (Some Open) is h = absurd h
      by (Some (Known x)) is h = entry_is x (Ok slot) is h

  pub lacked : (count : ℕ) (inputs after : List (Option BitVector)) (other : Found) → port < count → length after ≡ count → IsSoFar look (λ q. nat_lt q reads) count inputs port
      → IsNoValue (by_mark (first + port) (slice_get own (first + port))) other → IsGathered own first reads look after (Some other)
  lacked count inputs after (Worth x) inside sized far h = (port, so_far_lacks look (λ q. nat_lt q reads) count port inputs x inside far (by (slice_get own (first + port)) refl h.0) ∙ ap (gather_all look (λ q. nat_lt q reads) 0) (sym sized))
    where
      same : (y : Seen) → Worth y ≡ Worth x → y ≡ x
      same y e = cc

      by : (o : Option NodeMark) → slice_get own (first + port) ≡ o → by_mark (first + port) o ≡ Worth x → entry_of (nat_lt port reads) (look port) ≡ Err x
      by None is e = absurd (cc)
      by (Some Unseen) is e = absurd (cc)
      by (Some Open) is e = absurd (cc)
      by (Some (Known y)) is e = entry_is y (Err x) is (ap (entry_of true) (same y e) ∙ h.1)
  lacked count inputs after (Waits n) inside sized far h = by (slice_get own (first + port)) refl h
    where
      same : (m : ℕ) → Waits m ≡ Waits n → n ≡ m
      same m e = cc

      by : (o : Option NodeMark) → slice_get own (first + port) ≡ o → by_mark (first + port) o ≡ Waits n → (q : ℕ) × (q < reads) × (n ≡ first + q) × (known_at own n ≡ false)
      by None is e = (port, lt, same (first + port) e, ap (known_at own) (same (first + port) e) ∙ ap is_known is)
      by (Some Unseen) is e = (port, lt, same (first + port) e, ap (known_at own) (same (first + port) e) ∙ ap is_known is)
      by (Some Open) is e = (port, lt, same (first + port) e, ap (known_at own) (same (first + port) e) ∙ ap is_known is)
      by (Some (Known y)) is e = absurd (cc)

-- WHAT IS GATHERED fits the ports
module _ (own : List NodeMark) (first reads : ℕ) where
  abbrev pub shown_look : ℕ → Seen
  shown_look q = shown (slice_get own (first + q))

  pub shown_agrees : InputsAgree own first reads shown_look
  shown_agrees q x lt is = ap shown (sym is)

  shown_value : (q : ℕ) (b : BitVector) → shown_look q ≡ Value b → slice_get own (first + q) ≡ Some (Known (Value b))
  shown_value q b e = by (slice_get own (first + q)) e
    where
      by : (o : Option NodeMark) → shown o ≡ Value b → o ≡ Some (Known (Value b))
      by None e = absurd (cc)
      by (Some Unseen) e = absurd (cc)
      by (Some Open) e = absurd (cc)
      by (Some (Known x)) e = ap (λ y. Some (Known y)) e

  pub gathered_fits : (ports : List PortRow) (inputs : List (Option BitVector)) → length inputs ≡ length ports → InputsFit own first reads ports → IsGathered own first reads shown_look inputs None → FitsPorts ports inputs
  gathered_fits ports inputs sized fit given =
      wanted_fits shown_look (λ q. nat_lt q reads) ports (length inputs) inputs sized (λ n port b at wanted e. fit n port b at (true_lt n reads wanted) (shown_value n b e)) given

-- and comes to what the output is seen as
module _ (own : List NodeMark) (first reads : ℕ) (look : ℕ → Seen) (ports : List PortRow) (f : List (Option BitVector) → Option BitVector) where
  abbrev output : Seen
  output = output_seen f (gather look (λ q. nat_lt q reads) 0 ports)

  whole : (inputs : List (Option BitVector)) → length inputs ≡ length ports → gather_all look (λ q. nat_lt q reads) 0 (length inputs) ≡ gather look (λ q. nat_lt q reads) 0 ports
  whole inputs sized = ap (gather_all look (λ q. nat_lt q reads) 0) sized ∙ sym (counts look (λ q. nat_lt q reads) 0 ports)

  pub output_lacks : (inputs : List (Option BitVector)) (found : Found) → length inputs ≡ length ports → IsGathered own first reads look inputs (Some found) → IsOutput own first reads output found
  output_lacks inputs (Worth x) sized h = ap (output_seen f) (h.1 ∙ whole inputs sized)
  output_lacks inputs (Waits n) sized h = h

  pub output_given : (inputs : List (Option BitVector)) → length inputs ≡ length ports → IsGathered own first reads look inputs None → output_seen f (Given inputs) ≡ output
  output_given inputs sized h = ap (output_seen f) (h ∙ whole inputs sized)

-- AN OUTPUT THAT READS NO INPUT is handed nothing at each
pub front_nothing : (all : List (Option BitVector)) (count : ℕ) (ports : List PortRow) → all ≡ replicate 9 None → count ≡ length ports → length ports ≤ 9 → take count all ≡ replicate (length ports) None
front_nothing all count ports is sized few = ap (take count) is ∙ take-replicate count 9 None (omega (arith, sized, few)) ∙ ap (λ n. replicate n None) sized

module _ (ports : List PortRow) (inputs : List (Option BitVector)) (is : inputs ≡ replicate (length ports) None) where
  bare_copies : (count n : ℕ) → get_or (replicate {A = Option BitVector} count None) n None ≡ None
  bare_copies zero n = refl
  bare_copies (suc count) zero = refl
  bare_copies (suc count) (suc n) = bare_copies count n

  pub nothing_sized : length inputs ≡ length ports
  nothing_sized = ap length is ∙ length-replicate (length ports) None

  given : (look : ℕ → Seen) → Given inputs ≡ gather_all look (λ q. nat_lt q 0) 0 (length inputs)
  given look =
      gathered_end look 0 (length inputs) 0 inputs refl (omega arith) (λ n le. ap (λ xs. get_or xs n None) is ∙ bare_copies (length ports) n)
      (so_far_begin look (λ q. nat_lt q 0) (length inputs) inputs)

  pub nothing_fits : FitsPorts ports inputs
  nothing_fits = gathered_fits [] 0 0 ports inputs nothing_sized (λ q port b at lt. absurd (omega (arith, lt))) (given (shown_look [] 0 0))

  pub nothing_given : (look : ℕ → Seen) (f : List (Option BitVector) → Option BitVector) → output_seen f (Given inputs) ≡ output_seen f (gather look (λ q. nat_lt q 0) 0 ports)
  nothing_given look f = output_given [] 0 0 look ports f inputs nothing_sized (given look)
