-- The bytes from the front of a text on that pass a test, and those behind them, are the text; and where such a front stands before what fails the test, they are told apart again.
use Rattle.std.proofs.Common.{◌≡◌, ℕ, ◌-◌, ◌≤◌, Bool, true, false, List, [], ◌∷◌, ◌++◌, length, take, refl, ◌∙◌, ap, subst, arith, length-append, if◌then◌else◌}
use Rattle.std.proofs.lemmas.Bool.{and_parts}
use Rattle.std.proofs.lemmas.List.{take_at}
use Rattle.std.specs.List.{list_all}
use Rattle.cx_text.specs.Spans.{front, back, Stops}
use Rattle.cx_text.proofs.ListLaws.{kept, spliced}

-- together they are the text
pub front-back : (test : ℕ → Bool) (text : List ℕ) → front test text ++ back test text ≡ text
front-back test [] = refl
front-back test (b ∷ bs) = spliced (test b) b (front test bs) (back test bs) bs (front-back test bs)

pub length-back-le : (test : ℕ → Bool) (text : List ℕ) → length (back test text) ≤ length text
length-back-le test text = let whole = ap length (front-back test text) in let parts = length-append (front test text) (back test text) in omega arith

-- the front is what the rest leaves
pub front_is_take : (test : ℕ → Bool) (text : List ℕ) → take (length text - length (back test text)) text ≡ front test text
front_is_take test text =
    let whole = ap length (front-back test text) in
    let parts = length-append (front test text) (back test text) in
    let long : length (front test text) ≡ length text - length (back test text) = omega arith in
    subst (λ whole_text. take (length text - length (back test text)) whole_text ≡ front test text) (front-back test text) (take_at (front test text) (back test text) _ long)

-- the front passes
pub front_passes : (test : ℕ → Bool) (text : List ℕ) → list_all test (front test text) ≡ true
front_passes test [] = refl
front_passes test (b ∷ bs) = kept (test b) test b (front test bs) refl (front_passes test bs)

stops_there : (t : Bool) (test : ℕ → Bool) (b : ℕ) (xs ys : List ℕ) → test b ≡ t → Stops test ys → Stops test (if t then ys else b ∷ xs)
stops_there true test b xs ys e h = h
stops_there false test b xs ys e h = e

-- what stands behind does not pass
pub back_stops : (test : ℕ → Bool) (text : List ℕ) → Stops test (back test text)
back_stops test [] = tt
back_stops test (b ∷ bs) = stops_there (test b) test b bs (back test bs) refl (back_stops test bs)

-- where such a front stands before what does not pass, these are the two
pub front_again : (test : ℕ → Bool) (bytes rest : List ℕ) → list_all test bytes ≡ true → Stops test rest → front test (bytes ++ rest) ≡ bytes
front_again test [] [] h s = refl
front_again test [] (b ∷ rest) h s = ap (λ t. if t then b ∷ front test rest else []) s
front_again test (b ∷ bytes) rest h s = let parts = and_parts (test b) (list_all test bytes) h in ap (λ t. if t then b ∷ front test (bytes ++ rest) else []) parts.0 ∙ ap (λ bs. b ∷ bs) (front_again test bytes rest parts.1 s)

pub back_again : (test : ℕ → Bool) (bytes rest : List ℕ) → list_all test bytes ≡ true → Stops test rest → back test (bytes ++ rest) ≡ rest
back_again test [] [] h s = refl
back_again test [] (b ∷ rest) h s = ap (λ t. if t then back test rest else b ∷ rest) s
back_again test (b ∷ bytes) rest h s = let parts = and_parts (test b) (list_all test bytes) h in ap (λ t. if t then back test (bytes ++ rest) else b ∷ bytes ++ rest) parts.0 ∙ back_again test bytes rest parts.1 s
