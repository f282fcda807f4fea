-- The transactions of a history: each has its own number and its own script.
use Rattle.std.proofs.Common.{◌≡◌, ℕ, suc, ◌+◌, ◌≤◌, List, [], ◌∷◌, sym, ap, ◌∙◌, inl, inr, arith, Some}
use Rattle.std.proofs.Common.{slice_get}
use Rattle.ent_tree.specs.declared.script.Script.{Script}
use Rattle.ent_semantics.specs.Serial.{numbered}
use Rattle.ent_history.specs.declared.history.History.{History}
use Rattle.ent_history.specs.declared.history.Told.{Told}
use Rattle.ent_history.specs.Account.{Account, accounts_from, accounts}
use Rattle.ent_lists.specs.Elements.{In, Pairs, to_all, pairs_at, got_in}

abbrev pub Other : Account → Account → Type 0
Other first second = first.tx ≡ second.tx → ⊥

low : (first : ℕ) (scripts : List Script) (told : List Told) (a : Account) → In a (accounts_from first scripts told)
    → first ≤ a.tx
low first [] told a at = absurd at
low first (script ∷ scripts) [] a at = absurd at
low first (script ∷ scripts) (one ∷ told) a (inl same) =
    let e : a.tx ≡ first = ap (λ (x : Account). x.tx) same in
    omega (arith, e)
low first (script ∷ scripts) (one ∷ told) a (inr at) =
    let h = low (suc first) scripts told a at in
    omega (arith, h)

apart_from : (first : ℕ) (scripts : List Script) (told : List Told) → Pairs Other (accounts_from first scripts told)
apart_from first [] told = tt
apart_from first (script ∷ scripts) [] = tt
apart_from first (script ∷ scripts) (one ∷ told) = (
  to_all (λ (a : Account). first ≡ a.tx → ⊥) (accounts_from (suc first) scripts told) (λ a at e.
      let h = low (suc first) scripts told a at in omega (arith, h, e)),
  apart_from (suc first) scripts told,
)

pub accounts_apart : (history : History) → Pairs Other (accounts history)
accounts_apart history = apart_from 1 history.scripts history.transactions

-- of one number there is one
pub one_account : (all : List Account) → Pairs Other all → (a b : Account) → In a all → In b all → a.tx ≡ b.tx → a ≡ b
one_account all apart a b at bt same =
    elim (pairs_at Other (λ x y r e. r (sym e)) all a b apart at bt) [ inl e ↦ e | inr r ↦ absurd (r same) ]

script_from : (first : ℕ) (scripts : List Script) (told : List Told) (a : Account)
    → In a (accounts_from first scripts told) → (k : ℕ) × (a.tx ≡ first + k) × (slice_get scripts k ≡ Some a.script)
script_from first [] told a at = absurd at
script_from first (script ∷ scripts) [] a at = absurd at
script_from first (script ∷ scripts) (one ∷ told) a (inl same) =
    (0, ap (λ (x : Account). x.tx) same ∙ omega arith, ap (λ (x : Account). Some x.script) (sym same))
script_from first (script ∷ scripts) (one ∷ told) a (inr at) =
    let r = script_from (suc first) scripts told a at in
    let is = r.1 in
    (suc r.0, omega (arith, is), r.2)

-- its script stands at its number
pub own_script : (history : History) (a : Account) → In a (accounts history)
    → numbered history.scripts a.tx ≡ Some a.script
own_script history a at =
    let r = script_from 1 history.scripts history.transactions a at in
    let is = r.1 in
    let n : a.tx ≡ suc r.0 = omega (arith, is) in
    ap (numbered history.scripts) n ∙ r.2

pub script_in : (history : History) (a : Account) → In a (accounts history) → In a.script history.scripts
script_in history a at =
    let r = script_from 1 history.scripts history.transactions a at in
    got_in history.scripts r.0 a.script r.2
