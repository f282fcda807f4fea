-- Where nothing is found, the book of a history is legal.
use Rattle.std.proofs.Common.{◌≡◌, ◌≢◌, ℕ, suc, ◌+◌, ◌<◌, Bool, true, false, List, [], ◌∷◌, ◌++◌, map, refl}
use Rattle.std.proofs.Common.{sym, ap, subst, ◌∙◌, inl, inr, arith, Option, Some, None, flat_map, Contains, is_some}
use Rattle.std.proofs.lemmas.Simd.{map-map}
use Rattle.ent_lists.specs.Sets as set
use Rattle.ent_tree.specs.declared.declaration.Create.{Create}
use Rattle.ent_tree.specs.declared.script.Statement.TheVariants as statements
use Rattle.ent_semantics.specs.declared.answer.Fact.{Fact}
use Rattle.ent_semantics.specs.declared.book.Entry.{Entry}
use Rattle.ent_semantics.specs.declared.book.JointAnswer.{JointAnswer}
use Rattle.ent_semantics.specs.declared.book.Member.{Member}
use Rattle.ent_semantics.specs.Book.{IsLegal, RunGivesBook, AreApart, all_members, book_read_views}
use Rattle.ent_semantics.specs.Database.{Name, Database, opening_database}
use Rattle.ent_semantics.specs.Joint.{IsGood, IsGrounded, IsOffered, StandsIn, member_of, read_view_heads}
use Rattle.ent_semantics.specs.Joint.{read_view_posts}
use Rattle.ent_semantics.specs.Serial.{ReadView, Turn, numbered}
use Rattle.ent_semantics.specs.Uses.{changes}
use Rattle.ent_history.specs.declared.history.History.{History}
use Rattle.ent_history.specs.Told.{joint_answer_of, shown_database}
use Rattle.ent_history.specs.Account.{Account, accounts, has_committed, in_commit_order, commit_number}
use Rattle.ent_history.specs.Alike.{same_fact}
use Rattle.ent_history.specs.Findings.{findings}
use Rattle.ent_history.specs.Formed.{IsFormed, is_declared, is_shown}
use Rattle.ent_history.specs.Joint.{members_findings, left_out_findings, stands_among}
use Rattle.ent_history.specs.Journal.{journal_findings, unless}
use Rattle.ent_history.specs.Placed.{Placed, grounding_of, member_at, placed, stands_at}
use Rattle.ent_history.specs.Post.{are_met, is_offered, post_findings, read_views_of}
use Rattle.ent_history.specs.Replay.{replay_findings, told_read_views, told_end}
use Rattle.ent_history.specs.Table.{end_findings, tables_findings}
use Rattle.ent_history.specs.declared.finding.Finding.{Finding}
use Rattle.ent_history.specs.declared.finding.Rule.TheVariants as rule
use Rattle.ent_history.specs.declared.finding.Thing.TheVariants as thing
use Rattle.ent_history.proofs.Accounts.{own_script, script_in}
use Rattle.ent_history.proofs.Alike.{equal_facts}
use Rattle.ent_history.proofs.Bridge.{entry_of}
use Rattle.ent_history.proofs.Commits.{IsNumbered, numbered_if_none, in_order, in_order_committed}
use Rattle.ent_history.proofs.Found.{unless_holds}
use Rattle.ent_history.proofs.Joints.{among, at_place, each_statement, left_none, members_once, one_member}
use Rattle.ent_history.proofs.Joints.{stand_all, stands_so, stands_there}
use Rattle.ent_history.proofs.Journals.{book, journal_if_numbered}
use Rattle.ent_lists.specs.Elements.{In, Pairs, of_all, of_map, of_filter, to_filter, in_flat, to_flat, any_some, clash}
use Rattle.ent_lists.specs.Elements.{not_so, contains_in, in_contains, index_pairs, pairs_index, pairs_by}
use Rattle.ent_history.proofs.RuleLists.{every, none_first, none_second}
use Rattle.ent_history.proofs.Replays.{IsReady, IsReplayed, replayed, account_read_view, read_view_account, turn_told}
use Rattle.ent_history.proofs.Tables.{Keeps, kept_end, not_shown, shown_is, shown_left}

pub in_members : (joints : List JointAnswer) (joint : JointAnswer) (m : Member) → In joint joints
    → In m joint.members → In m (all_members joints)
in_members joints joint m jt mt = to_flat (λ (j : JointAnswer). j.members) joints joint m jt mt

module _ (history : History) (formed : IsFormed history) (keeps : Keeps) (none : findings history ≡ []) where
  abbrev declared : List Create
  declared = history.opening.tables

  abbrev all : List Account
  all = accounts history

  abbrev order : List Account
  order = in_commit_order all

  abbrev joints : List JointAnswer
  joints = map joint_answer_of history.joint_answers

  abbrev members : List Placed
  members = placed joints

  abbrev start : Database
  start = opening_database history.opening

  abbrev seen : List ReadView
  seen = told_read_views declared members order start

  abbrev behind_replay : List Finding
  behind_replay = post_findings seen 1 joints ++ end_findings (told_end declared members order start) history.tables

  abbrev behind_left : List Finding
  behind_left = replay_findings declared members order start ++ behind_replay

  abbrev behind_members : List Finding
  behind_members = left_out_findings (all_members joints) all ++ behind_left

  abbrev behind_journal : List Finding
  behind_journal = members_findings all 1 [] joints ++ behind_members

  none_behind_journal : behind_journal ≡ []
  none_behind_journal = none_second (journal_findings all) behind_journal none

  none_members : members_findings all 1 [] joints ≡ []
  none_members = none_first (members_findings all 1 [] joints) behind_members none_behind_journal

  none_behind_members : behind_members ≡ []
  none_behind_members = none_second (members_findings all 1 [] joints) behind_members none_behind_journal

  none_left : left_out_findings (all_members joints) all ≡ []
  none_left = none_first (left_out_findings (all_members joints) all) behind_left none_behind_members

  none_behind_left : behind_left ≡ []
  none_behind_left = none_second (left_out_findings (all_members joints) all) behind_left none_behind_members

  none_replay : replay_findings declared members order start ≡ []
  none_replay = none_first (replay_findings declared members order start) behind_replay none_behind_left

  none_behind_replay : behind_replay ≡ []
  none_behind_replay = none_second (replay_findings declared members order start) behind_replay none_behind_left

  none_post : post_findings seen 1 joints ≡ []
  none_post =
      none_first (post_findings seen 1 joints) (end_findings (told_end declared members order start) history.tables)
      none_behind_replay

  none_end : end_findings (told_end declared members order start) history.tables ≡ []
  none_end =
      none_second (post_findings seen 1 joints) (end_findings (told_end declared members order start) history.tables)
      none_behind_replay

  is_numbered : IsNumbered all
  is_numbered = numbered_if_none all (none_first (journal_findings all) behind_journal none)

  -- ---- members

  within : (joint : JointAnswer) → In joint joints → Pairs AreApart joint.members
  within joint at =
      pairs_by (λ (first second : Member). first.tx < second.tx) AreApart joint.members
      (λ x y low own here. omega (arith, low, own))
      (index_pairs (λ (first second : Member). first.tx < second.tx) joint.members
      (formed.rising joint (in_contains joints joint at)))

  once : Pairs AreApart (all_members joints)
  once = members_once all 1 [] joints none_members within

  -- ---- the run

  some_number : (a : Account) → has_committed a ≡ true → (n : ℕ) × (commit_number a.fate ≡ Some n)
  some_number a is = by (commit_number a.fate) refl is
    where
      by : (o : Option ℕ) → commit_number a.fate ≡ o → is_some o ≡ true → (n : ℕ) × (commit_number a.fate ≡ Some n)
      by None e is = cc (is)
      by (Some n) e is = (n, e)

  ready : (a : Account) → In a order → IsReady declared members a
  ready a at =
      let own = in_order_committed all a at in
      let n = some_number a own.1 in
      record {
        counts = formed.answers a (in_contains all a own.0) own.1;
        stands = stand_all declared joints a.tx 1 a.script.statements
            (left_none declared joints all none_left a own.0 own.1);
        ends = (is_numbered.fits a own.0 n.0 n.1).2;
      }

  run : IsReplayed declared members order start
  run = replayed declared members order start ready none_replay

  -- the member that a statement is
  answered_in : (s : ReadView) → In s seen → In (member_of s) (all_members joints)
  answered_in s at =
      let r = read_view_account declared members order start s at in
      let t = r.2 in
      let stands = stands_so declared joints r.0.tx 1 r.0.script.statements (ready r.0 r.1).stands t.before
      (statements.Entangled s.entangled) t.there refl in
      let a = at_place joints r.0.tx (1 + t.before) stands.0 stands.1 in
      let found : member_at members s.tx s.place ≡ Some stands.0 =
      (λ i. member_at members (t.own i) (t.here i)) ∙ stands.1 in
      let value : stands.0.member.grounding ≡ s.valuation =
      sym (t.value ∙ ap grounding_of found) in
      let tx : stands.0.member.tx ≡ s.tx = a.1 ∙ sym t.own in
      let place : stands.0.member.place ≡ s.place = a.2 ∙ sym t.here in
      let same : stands.0.member ≡ member_of s =
      λ i. record { tx = tx i; place = place i; grounding = value i } in
      subst (λ (m : Member). In m (all_members joints)) same a.0

  -- the statement that a member is
  read_view_of : (m : Member) → In m (all_members joints) → (s : ReadView) × In s seen × (m ≡ member_of s)
  read_view_of m at =
      let is = each_statement all 1 [] joints none_members m at in
      let s = account_read_view declared members order start run.left run.ends is.account
      (in_order all is_numbered is.account is.at is.committed) is.before is.statement is.there is.entangled in
      let n : 1 + is.before ≡ suc is.before = omega arith in (
        s.0,
        s.1,
        one_member joints once m (member_of s.0) at (answered_in s.0 s.1) (sym (s.2 ∙ is.own))
            (is.here ∙ sym n ∙ sym s.3),
      )

  -- ---- the tables

  undeclared : (name : Name) → is_declared declared name ≡ false → run.left name ≡ set.empty
  undeclared name is =
      kept_end keeps declared name members order start run.left run.ends (λ a at st st_in.
      not_so (changes st name) (λ changed.
      clash (is_declared declared name)
      (formed.within a.script
      (in_contains history.scripts a.script (script_in history a (in_order_committed all a at).0)) st
      (in_contains a.script.statements st st_in) name changed)
      is))
      ∙ formed.opens name is

  none_tables : tables_findings 1 run.left history.tables ≡ []
  none_tables = subst (λ o. end_findings o history.tables ≡ []) run.ends none_end

  left_at : (name : Name) → run.left name ≡ shown_database history.tables name
  left_at name = by (is_shown history.tables name) refl
    where
      by : (b : Bool) → is_shown history.tables name ≡ b → run.left name ≡ shown_database history.tables name
      by true is = shown_is run.left history.tables name (shown_left run.left 1 history.tables none_tables) is
      by false is =
          undeclared name (not_so (is_declared declared name) (λ there.
          clash (is_shown history.tables name) (formed.shown name there) is))
          ∙ sym (not_shown history.tables name is)

  left_is : run.left ≡ shown_database history.tables
  left_is = λ i name. left_at name i

  -- ---- the book

  abbrev turns : List Turn
  turns = map (turn_told declared members) order

  gives : RunGivesBook (book history) turns
  gives =
      record {
        in_order = map-map (λ (t : Turn). t.tx) (turn_told declared members) order
            ∙ sym (map-map (λ (e : Entry). e.tx) entry_of order);
        own_scripts = λ t c.
            let r = of_map (turn_told declared members) order t (contains_in turns t c) in
            subst (λ (u : Turn). numbered history.scripts u.tx ≡ Some u.script) (sym r.2)
            (own_script history r.0 (in_order_committed all r.0 r.1).0);
        run = run.gives
            ∙ (λ i. Some (record {
              database = left_is i;
              answers = sym (map-map (λ (e : Entry). e.answers) entry_of order) i;
            }));
      }

  seen_is : book_read_views (book history) turns ≡ seen
  seen_is = run.same

  to_seen : (s : ReadView) → Contains (book_read_views (book history) turns) s → In s seen
  to_seen s c = subst (In s) seen_is (contains_in (book_read_views (book history) turns) s c)

  from_seen : (s : ReadView) → In s seen → Contains (book_read_views (book history) turns) s
  from_seen s at =
      in_contains (book_read_views (book history) turns) s (subst (In s) (sym seen_is) at)

  of_run : (m : Member) → In m (all_members joints)
      → (s : ReadView) × Contains (book_read_views (book history) turns) s × (m ≡ member_of s)
  of_run m at = let r = read_view_of m at in (r.0, from_seen r.0 r.1, r.2)

  each_met : (number : ℕ) (js : List JointAnswer) → post_findings seen number js ≡ [] → (joint : JointAnswer)
      → In joint js → are_met seen joint.members ≡ true
  each_met number [] none joint at = absurd at
  each_met number (j ∷ js) none joint (inl same) =
      subst (λ (k : JointAnswer). are_met seen k.members ≡ true) (sym same)
      (unless_holds (are_met seen j.members) rule.Post (thing.Joint number)
      (none_first (unless (are_met seen j.members) rule.Post (thing.Joint number)) (post_findings seen (suc number) js)
      none))
  each_met number (j ∷ js) none joint (inr at) =
      each_met (suc number) js
      (none_second (unless (are_met seen j.members) rule.Post (thing.Joint number)) (post_findings seen (suc number) js)
      none) joint at

  met : (joint : JointAnswer) → In joint joints → (s : ReadView)
      → StandsIn (book_read_views (book history) turns) joint.members s → (post : Fact)
      → Contains (read_view_posts s) post
      → IsOffered (book_read_views (book history) turns) joint.members post
  met joint jt s stands post c =
      let own = read_views_of seen joint.members in
      let st = to_seen s stands.0 in
      let mt = contains_in joint.members (member_of s) stands.1 in
      let s_own = to_filter (λ (x : ReadView). stands_among x.tx x.place joint.members) seen s st
      (among s.tx s.place joint.members (member_of s) mt refl refl) in
      let offered = every (is_offered (flat_map read_view_heads own)) (flat_map read_view_posts own)
      (each_met 1 joints none_post joint jt) post
      (to_flat read_view_posts own s post s_own (contains_in (read_view_posts s) post c)) in
      let head = any_some (same_fact post) (flat_map read_view_heads own) offered in
      let p = in_flat read_view_heads own head.0 head.1 in
      let f = of_filter (λ (x : ReadView). stands_among x.tx x.place joint.members) seen p.0 p.1 in
      partner p.0 head.0 f.0 f.1 p.2 (equal_facts post head.0 head.2)
    where
      partner : (p : ReadView) (head : Fact) → In p seen → stands_among p.tx p.place joint.members ≡ true
          → In head (read_view_heads p) → post ≡ head
          → IsOffered (book_read_views (book history) turns) joint.members post
      partner p head pt stands_there_is at same =
          let m = any_some (stands_at p.tx p.place) joint.members stands_there_is in
          let both = stands_there p.tx p.place m.0 m.2 in
          let one = one_member joints once m.0 (member_of p) (in_members joints joint m.0 jt m.1) (answered_in p pt)
          both.0 both.1 in (
            p,
            (
              from_seen p pt,
              in_contains joint.members (member_of p) (subst (λ (x : Member). In x joint.members) one m.1),
            ),
            in_contains (read_view_heads p) post (subst (λ (x : Fact). In x (read_view_heads p)) (sym same) at),
          )

  good : (joint : JointAnswer) → In joint joints
      → IsGood declared (book_read_views (book history) turns) joint.members
  good joint jt =
      record {
        some = formed.some joint (in_contains joints joint jt);
        distinct = pairs_index (λ (first second : Member). first.tx ≢ second.tx) joint.members
            (pairs_by (λ (first second : Member). first.tx < second.tx)
            (λ (first second : Member). first.tx ≢ second.tx)
            joint.members (λ x y low own. omega (arith, low, own))
            (index_pairs (λ (first second : Member). first.tx < second.tx) joint.members
            (formed.rising joint (in_contains joints joint jt))));
        of_run = λ m c. of_run m (in_members joints joint m jt (contains_in joint.members m c));
        grounded = λ s stands. of_all (IsGrounded declared) seen s run.grounded (to_seen s stands.0);
        met = met joint jt;
      }

  pub legal_book : IsLegal (book history)
  legal_book =
      record {
        journal = journal_if_numbered history is_numbered;
        turns = turns;
        runs = gives;
        answered = λ s c. in_contains (all_members joints) (member_of s) (answered_in s (to_seen s c));
        once = pairs_index AreApart (all_members joints) once;
        no_widow = λ m c. of_run m (contains_in (all_members joints) m c);
        good = λ joint c. good joint (contains_in joints joint c);
      }
