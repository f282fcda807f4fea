-- Texts that are kept go on reading as their scripts.
use Rattle.std.proofs.Common.{◌≡◌, ℕ, Bool, true, List, Option, Some, None, Result, Ok, Err, IfSome, OnOk, OnErr}
use Rattle.std.proofs.Common.{sym, subst, ap, inl, inr, vec_items}
use Rattle.std.proofs.lemmas.Slice.Eq.{bytes_eq-Decides}
use Rattle.std.specs.Map.{lookup}
use Rattle.std.specs.Option.{option_copied}
use Rattle.std.specs.Str.{bytes_eq}
use Rattle.std.specs.declared.vec.Vec.{Vec}
use Rattle.lru.specs.LruCache.{LruCache, lru_cache, promoted, put_entries}
use Rattle.lru.proofs.CallerLemmas.{Contains-lookup, Contains-promoted, Contains-put_entries, IsPut}
use Rattle.ent_tree.specs.declared.script.Script.{Script}
use Rattle.ent_prepare.specs.Cached.{AreRead}
use Rattle.ent_input.specs.Reading.{IsScript}
use denote.Ref.{Bor}

-- a key of these bytes
abbrev pub has_bytes : {Z : Type 0} → List ℕ → Vec ℕ Z → Bool
has_bytes bytes text = bytes_eq bytes (vec_items text)

pub same_bytes : {Z : Type 0} (bytes : List ℕ) (text : Vec ℕ Z) → has_bytes bytes text ≡ true → bytes ≡ vec_items text
same_bytes bytes text = (bytes_eq-Decides bytes (vec_items text)).0

module _ {Z : Type 0} where
  pub promoted_are_read : (test : Vec ℕ Z → Bool) (entries : List (Vec ℕ Z × Script)) → AreRead entries
      → AreRead (promoted test entries)
  promoted_are_read test entries read = record {
    each = λ text script held. read.each text script (Contains-promoted test entries (text, script) held);
  }

  pub found_is_read : (bytes : List ℕ) (entries : List (Vec ℕ Z × Script)) (found : Option (Bor Script))
      → option_copied found ≡ lookup (has_bytes bytes) entries → AreRead entries
      → IfSome found (λ (script : Bor Script). IsScript bytes script.now)
  found_is_read bytes entries None is read = tt
  found_is_read bytes entries (Some script) is read =
      let there = Contains-lookup (has_bytes bytes) entries script.now (sym is) in
      subst (λ (these : List ℕ). IsScript these script.now) (sym (same_bytes bytes there.0 there.2))
      (read.each there.0 script.now there.1)

  module _ (eq : Vec ℕ Z → Vec ℕ Z → Bool) (cache : LruCache (Vec ℕ Z) Script) (key : Vec ℕ Z) (script : Script)
      (alike : (other : Vec ℕ Z) → eq key other ≡ true → vec_items key ≡ vec_items other)
      (reads : IsScript (vec_items key) script) where
    key_bytes : (text : Vec ℕ Z) (kept : Script) → IsPut eq cache key script (text, kept)
        → vec_items key ≡ vec_items text
    key_bytes text kept put = elim put.1 [ inl is ↦ ap vec_items (sym is) | inr other ↦ alike text other.2 ]

    put_is_read : (text : Vec ℕ Z) (kept : Script) → IsPut eq cache key script (text, kept)
        → IsScript (vec_items text) kept
    put_is_read text kept put =
        subst (IsScript (vec_items text)) (sym put.0)
        (subst (λ (bytes : List ℕ). IsScript bytes script) (key_bytes text kept put) reads)

    put_are_read : AreRead cache.entries → AreRead (put_entries eq cache key script)
    put_are_read before = record {
      each = λ text kept held. elim (Contains-put_entries eq cache key script (text, kept) held) [
        | inl was ↦ before.each text kept was
        | inr put ↦ put_is_read text kept put
      ];
    }

    pub are_read_after : {X E : Type 0} (new : LruCache (Vec ℕ Z) Script) (outcome : Result X E)
        → OnOk outcome (new ≡ lru_cache (put_entries eq cache key script) cache.cap) → OnErr outcome (new ≡ cache)
        → AreRead cache.entries → AreRead new.entries
    are_read_after new (Ok x) ok err before =
        subst (λ (c : LruCache (Vec ℕ Z) Script). AreRead c.entries) (sym ok) (put_are_read before)
    are_read_after new (Err e) ok err before =
        subst (λ (c : LruCache (Vec ℕ Z) Script). AreRead c.entries) (sym err) before
