-- What the runs of the friends' scripts are, and that wrong books aren't legal.
use Rattle.std.proofs.Common.{◌≡◌, ◌⊎◌, inl, inr, ℕ, Bool, true, false, List, [], ◌∷◌, map, refl}
use Rattle.std.proofs.Common.{sym, ap, subst, ◌∙◌, arith, Some}
use Rattle.std.proofs.lemmas.Option.{same_Some}
use Rattle.std.specs.Prelude.{Contains, slice_index_or}
use Rattle.std.specs.Ordering.{is_eq}
use Rattle.ent_value.specs.Value.{row_cmp}
use Rattle.ent_value.specs.declared.value.Value.{Value}
use Rattle.ent_semantics.specs.declared.answer.Fact.{Fact}
use Rattle.ent_semantics.specs.declared.book.JointAnswer.{JointAnswer}
use Rattle.ent_semantics.specs.declared.book.Member.{Member}
use Rattle.ent_semantics.specs.Book.{IsLegal, RunGivesBook}
use Rattle.ent_semantics.specs.Database.{opening_database, nothing_bound}
use Rattle.ent_semantics.specs.Entangled.{Valuation, is_grounding}
use Rattle.ent_semantics.specs.Joint.{IsGood, IsOffered, member_of, read_view_heads, read_view_posts}
use Rattle.ent_semantics.specs.Serial.{ReadView, Turn, Runs, numbered, scripts_run, scripts_read_views}
use Rattle.ent_examples.specs.Partners.{Mickey, Minnie, flight_122}
use Rattle.ent_examples.specs.Friends.{friends_opening, friends_scripts, friends_book, flies_with, alone}
use Rattle.ent_examples.specs.Friends.{flight_136, takes, together, flies, answered_apart}
use Rattle.ent_examples.specs.Friends.{answered_elsewhere, left_out, answered_twice, widowed}
use Rattle.ent_examples.proofs.PartnersPool.{one_case, two_cases}
use Rattle.ent_examples.proofs.Good.{turn, read_view, one_not_two, grounds}

-- ---- the turns of a book of the friends

tx_at : (k : ℕ) {xs ys : List ℕ} → xs ≡ ys → slice_index_or xs k 0 ≡ slice_index_or ys k 0
tx_at k e = ap (λ xs. slice_index_or xs k 0) e

is_turn : (tx : ℕ) (own partner : Value) (x : Turn) → x.tx ≡ tx
    → numbered friends_scripts tx ≡ Some (alone (flies_with own partner))
    → numbered friends_scripts x.tx ≡ Some x.script → x ≡ turn tx own partner x.oracle
is_turn tx own partner x e is own_script =
    let script : x.script ≡ alone (flies_with own partner) =
    same_Some x.script (alone (flies_with own partner))
    (sym own_script ∙ ap (numbered friends_scripts) e ∙ is) in
    λ i. record { tx = e i; script = script i; oracle = x.oracle }

pub two_turns : (turns : List Turn) → map (λ (t : Turn). t.tx) turns ≡ 1 ∷ 2 ∷ []
    → ((x : Turn) → Contains turns x → numbered friends_scripts x.tx ≡ Some x.script)
    → (first second : List Valuation) × (turns ≡ turn 1 Mickey Minnie first ∷ turn 2 Minnie Mickey second ∷ [])
two_turns [] e own = cc
two_turns (a ∷ []) e own = cc
two_turns (a ∷ b ∷ []) e own =
    let a_is = is_turn 1 Mickey Minnie a (tx_at 0 e) refl (own a (0, omega arith, refl)) in
    let b_is = is_turn 2 Minnie Mickey b (tx_at 1 e) refl (own b (1, omega arith, refl)) in
    (a.oracle, b.oracle, λ i. a_is i ∷ b_is i ∷ [])
two_turns (a ∷ b ∷ c ∷ more) e own = cc

pub one_turn : (turns : List Turn) → map (λ (t : Turn). t.tx) turns ≡ 1 ∷ []
    → ((x : Turn) → Contains turns x → numbered friends_scripts x.tx ≡ Some x.script)
    → (first : List Valuation) × (turns ≡ turn 1 Mickey Minnie first ∷ [])
one_turn [] e own = cc
one_turn (a ∷ []) e own =
    let a_is = is_turn 1 Mickey Minnie a (tx_at 0 e) refl (own a (0, omega arith, refl)) in
    (a.oracle, λ i. a_is i ∷ [])
one_turn (a ∷ b ∷ more) e own = cc

-- ---- one answer of the oracle for each

two_answers : (first second : List Valuation) (runs : Runs)
    → scripts_run friends_opening.tables (turn 1 Mickey Minnie first ∷ turn 2 Minnie Mickey second ∷ [])
    (opening_database friends_opening) ≡ Some runs
    → (v w : Valuation) × (first ≡ v ∷ []) × (second ≡ w ∷ [])
two_answers [] second runs e = cc
two_answers (v ∷ x ∷ more) second runs e = cc
two_answers (v ∷ []) [] runs e = cc
two_answers (v ∷ []) (w ∷ []) runs e = (v, w, refl, refl)
two_answers (v ∷ []) (w ∷ x ∷ more) runs e = cc

one_answer : (first : List Valuation) (runs : Runs)
    → scripts_run friends_opening.tables (turn 1 Mickey Minnie first ∷ []) (opening_database friends_opening)
    ≡ Some runs
    → (v : Valuation) × (first ≡ v ∷ [])
one_answer [] runs e = cc
one_answer (v ∷ x ∷ more) runs e = cc
one_answer (v ∷ []) runs e = (v, refl)

abbrev friends_read_views : List Turn → List ReadView
friends_read_views turns = scripts_read_views friends_opening.tables turns (opening_database friends_opening)

-- what the friends' statements see
pub seen_by_two : (number : Value) (joints : List JointAnswer) (turns : List Turn)
    → RunGivesBook (friends_book number joints) turns
    → (v w : Valuation) × (friends_read_views turns ≡ read_view 1 Mickey Minnie v ∷ read_view 2 Minnie Mickey w ∷ [])
seen_by_two number joints turns h =
    let two = two_turns turns h.in_order h.own_scripts in
    let run = ap (λ (ts : List Turn). scripts_run friends_opening.tables ts (opening_database friends_opening))
    (sym two.2) ∙ h.run in
    let answers = two_answers two.0 two.1 _ run in (
      answers.0,
      answers.1,
      ap friends_read_views two.2
          ∙ λ i. friends_read_views (turn 1 Mickey Minnie (answers.2 i) ∷ turn 2 Minnie Mickey (answers.3 i) ∷ []),
    )

-- ---- the first one's member

same_tx : (member : Member) (s : ReadView) (tx : ℕ) → member ≡ member_of s → s.tx ≡ tx → member.tx ≡ tx
same_tx member s tx e f = ap (λ (m : Member). m.tx) e ∙ f

module _ (v w : Valuation) where
  abbrev two : List ReadView
  two = read_view 1 Mickey Minnie v ∷ read_view 2 Minnie Mickey w ∷ []

  -- the read view of the first one's member is the first
  first_of : (number : Value) (s : ReadView) → Contains two s → takes 1 number ≡ member_of s
      → (s ≡ read_view 1 Mickey Minnie v) × (v ≡ number ∷ [])
  first_of number s there is = of (two_cases (read_view 1 Mickey Minnie v) (read_view 2 Minnie Mickey w) s there)
    where
      of : (s ≡ read_view 1 Mickey Minnie v) ⊎ (s ≡ read_view 2 Minnie Mickey w)
          → (s ≡ read_view 1 Mickey Minnie v) × (v ≡ number ∷ [])
      of (inl e) = (e, sym (ap (λ (x : ReadView). x.valuation) e) ∙ sym (ap (λ (m : Member). m.grounding) is))
      of (inr e) = absurd (one_not_two (same_tx (takes 1 number) s 2 is (ap (λ (x : ReadView). x.tx) e)))

  -- ---- answered elsewhere

  not_to_LA : (v ≡ flight_136 ∷ []) → is_grounding friends_opening.tables (opening_database friends_opening)
      nothing_bound (flies_with Mickey Minnie) v ≡ true → ⊥
  not_to_LA e h = different (sym (grounds nothing_bound Mickey Minnie flight_136)
      ∙ ap (λ x. is_grounding friends_opening.tables (opening_database friends_opening) nothing_bound
      (flies_with Mickey Minnie) x) (sym e) ∙ h)
    where
      different : false ≡ true → ⊥
      different x = cc

  elsewhere_bad : IsGood friends_opening.tables two (together flight_136).members → ⊥
  elsewhere_bad h =
      let found = h.of_run (takes 1 flight_136) (0, omega arith, refl) in
      let is = first_of flight_136 found.0 found.1 found.2 in
      not_to_LA is.1 (subst (λ (s : ReadView). is_grounding friends_opening.tables s.database s.environment s.entangled
      s.valuation ≡ true) is.0 (h.grounded found.0 (found.1, (0, omega arith, found.2))))

  -- ---- answered apart

  -- whether a fact is of the second one's name
  abbrev is_minnies : Fact → Bool
  is_minnies fact = is_eq (row_cmp fact.values (Minnie ∷ flight_122 ∷ []))

  offered_by_none : v ≡ flight_122 ∷ []
      → IsOffered two (takes 1 flight_122 ∷ []) (flies Minnie flight_122) → ⊥
  offered_by_none e k =
      let is = first_of flight_122 k.0 k.1.0 (sym (one_case (takes 1 flight_122) (member_of k.0) k.1.1)) in
      let fact = one_case (flies Mickey flight_122) (flies Minnie flight_122)
      (subst (λ x. Contains (read_view_heads (read_view 1 Mickey Minnie x)) (flies Minnie flight_122)) e
      (subst (λ (s : ReadView). Contains (read_view_heads s) (flies Minnie flight_122)) is.0 k.2)) in
      different (ap is_minnies fact)
    where
      different : true ≡ false → ⊥
      different x = cc

  alone_bad : IsGood friends_opening.tables two (takes 1 flight_122 ∷ []) → ⊥
  alone_bad h =
      let found = h.of_run (takes 1 flight_122) (0, omega arith, refl) in
      let is = first_of flight_122 found.0 found.1 found.2 in
      let post : Contains (read_view_posts found.0) (flies Minnie flight_122) =
      subst (λ (s : ReadView). Contains (read_view_posts s) (flies Minnie flight_122)) (sym is.0)
      (subst (λ x. Contains (read_view_posts (read_view 1 Mickey Minnie x)) (flies Minnie flight_122)) (sym is.1)
      (0, omega arith, refl)) in
      offered_by_none is.1 (h.met found.0 (found.1, (0, omega arith, found.2)) (flies Minnie flight_122) post)

-- ---- the books

pub elsewhere_refused : IsLegal answered_elsewhere → ⊥
elsewhere_refused h =
    let seen = seen_by_two flight_136 (together flight_136 ∷ []) h.turns h.runs in
    elsewhere_bad seen.0 seen.1 (subst (λ run. IsGood friends_opening.tables run (together flight_136).members) seen.2
    (h.good (together flight_136) (0, omega arith, refl)))

pub apart_refused : IsLegal answered_apart → ⊥
apart_refused h =
    let seen = seen_by_two flight_122 answered_apart.joint_answers h.turns h.runs in
    alone_bad seen.0 seen.1 (subst (λ run. IsGood friends_opening.tables run (takes 1 flight_122 ∷ [])) seen.2
    (h.good (record { members = takes 1 flight_122 ∷ [] }) (0, omega arith, refl)))

pub left_out_refused : IsLegal left_out → ⊥
left_out_refused h =
    let seen = seen_by_two flight_122 left_out.joint_answers h.turns h.runs in
    let second : ReadView = read_view 2 Minnie Mickey seen.1 in
    let there : Contains (friends_read_views h.turns) second =
    subst (λ run. Contains run second) (sym seen.2) (1, omega arith, refl) in
    one_not_two (sym (ap (λ (m : Member). m.tx)
    (one_case (takes 1 flight_122) (member_of second) (h.answered second there))))

pub twice_refused : IsLegal answered_twice → ⊥
twice_refused h = h.once 0 2 (takes 1 flight_122) (omega arith) (omega arith) refl refl

pub widow_refused : IsLegal widowed → ⊥
widow_refused h =
    let one = one_turn h.turns h.runs.in_order h.runs.own_scripts in
    let run = ap (λ (ts : List Turn). scripts_run friends_opening.tables ts (opening_database friends_opening))
    (sym one.1) ∙ h.runs.run in
    let answer = one_answer one.0 _ run in
    let seen : friends_read_views h.turns ≡ read_view 1 Mickey Minnie answer.0 ∷ [] =
    ap friends_read_views one.1 ∙ ap (λ oracle. friends_read_views (turn 1 Mickey Minnie oracle ∷ [])) answer.1 in
    let found = h.no_widow (takes 2 flight_122) (1, omega arith, refl) in
    let is = one_case (read_view 1 Mickey Minnie answer.0) found.0 (subst (λ run. Contains run found.0) seen found.1) in
    one_not_two (sym (same_tx (takes 2 flight_122) found.0 1 found.2 (ap (λ (x : ReadView). x.tx) is)))
