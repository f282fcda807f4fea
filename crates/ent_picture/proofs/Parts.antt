-- The parts of a text.
use Rattle.std.proofs.Common.{◌≡◌, ◌<◌, ◌≤◌, ◌+◌, ℕ, List, [], ◌∷◌, ◌++◌, length, take, drop, Option, None, Some}
use Rattle.std.proofs.Common.{Result, Ok, Err, Bor}
use Rattle.std.proofs.Common.{sym, ap, ◌∙◌, arith, append-nil, append_assoc, length-append}
use Rattle.std.specs.Prelude.{MatchOption, IfOk, IfSome, codes}
use Rattle.std.specs.Fmt.{decimal}
use Rattle.std.specs.List.{flat_map}
use Rattle.std.specs.Str.Pattern.{FindsText}
use Rattle.std.proofs.lemmas.Grind.{flat_map-append}
use Rattle.std.proofs.lemmas.Str.Pattern.{IsSplitOnceResult, split_parts, split_text_parts}
use Rattle.ent_value.specs.Refusal.{Gives}
use Rattle.ent_value.specs.declared.refusal.Refusal.{Refusal}
use Rattle.ent_text.specs.declared.line_fault.LineFault.{LineFault}
use Rattle.ent_text.specs.Pieces.{behind}
use Rattle.ent_picture.specs.declared.exchange.Commit.{Commit}
use Rattle.ent_picture.specs.Trace.{listed, numbered, paired}

pub parted : (c : ℕ) (bs : List ℕ) (r : Option (Bor (List ℕ) × Bor (List ℕ))) → IsSplitOnceResult c bs r → c < 128
    → IfSome r (λ x. bs ≡ x.0.now ++ (c ∷ x.1.now))
parted c bs None h less = tt
parted c bs (Some x) h less = (split_parts c bs (Some x) h less).0

pub parted_by_text : (p bs : List ℕ) (r : Option (Bor (List ℕ) × Bor (List ℕ)))
    → MatchOption r (FindsText p bs None) (λ x. (i : ℕ) × (j : ℕ) × FindsText p bs (Some (i, j)) × (x.0.now ≡ take i bs)
    × (x.1.now ≡ drop j bs) × (i ≤ j) × (length x.0.now ≡ i) × (length x.1.now + j ≡ length bs))
    → IfSome r (λ x. bs ≡ x.0.now ++ (p ++ x.1.now))
parted_by_text p bs None h = tt
parted_by_text p bs (Some x) h = split_text_parts p bs (Some x) h

pub behind_found : (found : (word bytes rest : List ℕ) → behind word bytes ≡ Ok rest → bytes ≡ word ++ rest)
    (word bytes : List ℕ) (r : Result (Bor (List ℕ)) (Refusal LineFault))
    → Gives (λ rest. rest.now) r (behind word bytes)
    → IfOk r (λ rest. bytes ≡ word ++ rest.now)
behind_found found word bytes (Ok rest) h = found word bytes rest.now h
behind_found found word bytes (Err refusal) h = tt

-- ---- lists that grow by an element

more : {A : Type 0} (f : A → List ℕ) (xs : List A) (x : A) → flat_map f (xs ++ x ∷ []) ≡ flat_map f xs ++ f x
more f xs x = flat_map-append f xs (x ∷ []) ∙ ap (λ (l : List ℕ). flat_map f xs ++ l) (append-nil (f x))

pushed : {A : Type 0} (f : A → List ℕ) (xs : List A) (x : A) (start rest after : List ℕ) → start ≡ flat_map f xs ++ rest
    → rest ≡ f x ++ after → start ≡ flat_map f (xs ++ x ∷ []) ++ after
pushed f xs x start rest after so_far step = so_far ∙ (ap (λ (l : List ℕ). flat_map f xs ++ l) step
    ∙ (sym (append_assoc (flat_map f xs) (f x) after) ∙ ap (λ (l : List ℕ). l ++ after) (sym (more f xs x))))

-- ---- numbers, each behind a blank

pub begins : (text rest : List ℕ) (n : ℕ) → text ≡ decimal n ++ rest → codes " " ++ text ≡ listed (n ∷ []) ++ rest
begins text rest n is =
    ap (λ (l : List ℕ). codes " " ++ l) is ∙ ap (λ (l : List ℕ). l ++ rest) (sym (append-nil (numbered n)))

pub goes_on : (text members rest next after : List ℕ) (n : ℕ) → codes " " ++ text ≡ listed members ++ rest
    → rest ≡ codes " " ++ next → next ≡ decimal n ++ after → codes " " ++ text ≡ listed (members ++ n ∷ []) ++ after
goes_on text members rest next after n so_far blank number =
    pushed numbered members n (codes " " ++ text) rest after so_far (blank ∙ ap (λ (l : List ℕ). codes " " ++ l) number)

pub shorter : (rest next after : List ℕ) (n : ℕ) → rest ≡ codes " " ++ next → next ≡ decimal n ++ after
    → length after < length rest
shorter rest next after n blank number =
    omega (arith, ap length blank, ap length number ∙ length-append (decimal n) after)

pub whole : (xs ys rest : List ℕ) → xs ≡ ys ++ rest → length rest ≡ 0 → xs ≡ ys
whole xs ys [] is none = is ∙ append-nil ys
whole xs ys (x ∷ rest) is none = absurd (omega (arith, none))

-- ---- commits

pub commits_go_on : (start rest word others : List ℕ) (commits : List Commit) (commit : Commit)
    → start ≡ flat_map (λ c. paired c.number c.tx) commits ++ (codes " " ++ rest) → rest ≡ word ++ (codes " " ++ others)
    → word ≡ decimal commit.number ++ (codes "." ++ decimal commit.tx)
    → start ≡ flat_map (λ c. paired c.number c.tx) (commits ++ commit ∷ []) ++ (codes " " ++ others)
commits_go_on start rest word others commits commit so_far parts pair =
    pushed (λ (c : Commit). paired c.number c.tx) commits commit start (codes " " ++ rest) (codes " " ++ others) so_far
    (ap (λ (l : List ℕ). codes " " ++ l) (parts ∙ ap (λ (l : List ℕ). l ++ (codes " " ++ others)) pair))

pub commits_end : (start rest : List ℕ) (commits : List Commit) (commit : Commit)
    → start ≡ flat_map (λ c. paired c.number c.tx) commits ++ (codes " " ++ rest)
    → rest ≡ decimal commit.number ++ (codes "." ++ decimal commit.tx)
    → start ≡ flat_map (λ c. paired c.number c.tx) (commits ++ commit ∷ [])
commits_end start rest commits commit so_far pair =
    so_far ∙ (ap (λ (l : List ℕ). flat_map (λ (c : Commit). paired c.number c.tx) commits ++ (codes " " ++ l)) pair
    ∙ sym (more (λ (c : Commit). paired c.number c.tx) commits commit))

pub others_shorter : (rest word others : List ℕ) → rest ≡ word ++ (codes " " ++ others) → length others < length rest
others_shorter rest word others parts =
    omega (arith, ap length parts ∙ length-append word (codes " " ++ others))

-- ---- replies of several parts

pub held_line : (about demand post heads : List ℕ) (asker at : ℕ) (members : List ℕ)
    → about ≡ codes "back" ++ (codes " " ++ demand) → demand ≡ post ++ (codes " " ++ heads)
    → post ≡ decimal asker ++ (codes "." ++ decimal at) → codes " " ++ heads ≡ listed members
    → codes "held" ++ (codes " " ++ about) ≡ codes "held back" ++ (paired asker at ++ listed members)
held_line about demand post heads asker at members back parts pair named =
    ap (λ (l : List ℕ). codes "held " ++ l) (back ∙ ap (λ (l : List ℕ). codes "back " ++ l)
    (parts ∙ (ap (λ (l : List ℕ). l ++ (codes " " ++ heads)) pair
    ∙ ap (λ (l : List ℕ). (decimal asker ++ (codes "." ++ decimal at)) ++ l) named)))

pub broken_line : (about cycle group members taken : List ℕ) → about ≡ cycle ++ (codes " group " ++ group)
    → codes " " ++ cycle ≡ listed members → codes " " ++ group ≡ listed taken
    → codes "broken" ++ (codes " " ++ about) ≡ codes "broken" ++ (listed members ++ (codes " group" ++ listed taken))
broken_line about cycle group members taken parts first second =
    ap (λ (l : List ℕ). codes "broken " ++ l) parts
    ∙ (ap (λ (l : List ℕ). codes "broken" ++ (l ++ (codes " group " ++ group))) first
    ∙ ap (λ (l : List ℕ). codes "broken" ++ (listed members ++ (codes " group" ++ l))) second)
