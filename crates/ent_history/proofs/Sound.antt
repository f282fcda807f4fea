-- Of a legal book nothing is found.
use Rattle.std.proofs.Common.{◌≡◌, ℕ, suc, ◌+◌, true, List, [], ◌∷◌, ◌++◌, map}
use Rattle.std.proofs.Common.{refl, sym, ap, subst, ◌∙◌, inl, inr, arith, flat_map, Contains}
use Rattle.std.proofs.lemmas.Simd.{map-map}
use Rattle.std.proofs.lemmas.Option.{same_Some}
use Rattle.ent_lists.specs.Sets as set
use Rattle.ent_tree.specs.declared.declaration.Create.{Create}
use Rattle.ent_tree.specs.declared.script.Statement.TheVariants as statements
use Rattle.ent_semantics.specs.declared.answer.Fact.{Fact}
use Rattle.ent_semantics.specs.declared.book.Entry.{Entry}
use Rattle.ent_semantics.specs.declared.book.JointAnswer.{JointAnswer}
use Rattle.ent_semantics.specs.declared.book.Member.{Member}
use Rattle.ent_semantics.specs.Book.{IsLegal, AreApart, all_members, book_read_views}
use Rattle.ent_semantics.specs.Database.{Database, opening_database}
use Rattle.ent_semantics.specs.Joint.{IsGrounded, IsOffered, member_of, read_view_heads, read_view_posts}
use Rattle.ent_semantics.specs.Serial.{Runs, ReadView, numbered}
use Rattle.ent_history.specs.declared.history.History.{History}
use Rattle.ent_history.specs.declared.history.Shown.{Shown}
use Rattle.ent_history.specs.Told.{joint_answer_of, shown_database}
use Rattle.ent_history.specs.Account.{Account, accounts, in_commit_order}
use Rattle.ent_history.specs.Alike.{same_fact}
use Rattle.ent_history.specs.Findings.{findings}
use Rattle.ent_history.specs.Formed.{IsFormed}
use Rattle.ent_history.specs.Joint.{left_out_findings, members_findings, stands_among}
use Rattle.ent_history.specs.Journal.{commits, journal_findings, unless}
use Rattle.ent_history.specs.Placed.{Placed, grounding_of, placed, stands_at}
use Rattle.ent_history.specs.Post.{are_met, is_offered, post_findings, read_views_of}
use Rattle.ent_history.specs.Replay.{replay_findings, told_read_views, told_end}
use Rattle.ent_history.specs.Table.{end_findings}
use Rattle.ent_history.specs.declared.finding.Rule.TheVariants as rule
use Rattle.ent_history.specs.declared.finding.Thing.TheVariants as thing
use Rattle.ent_history.proofs.Accounts.{own_script}
use Rattle.ent_history.proofs.Alike.{fact_itself}
use Rattle.ent_history.proofs.Bridge.{entry_of}
use Rattle.ent_history.proofs.Commits.{IsNumbered, in_order, in_order_committed, none_if_numbered}
use Rattle.ent_history.proofs.Operations.{AreTold}
use Rattle.ent_history.proofs.Found.{holds_unless}
use Rattle.ent_history.proofs.Joints.{IsStatement, all_so, among, at_member, none_left, none_of_right, one_member}
use Rattle.ent_history.proofs.Joints.{stands_there}
use Rattle.ent_history.proofs.Journals.{book, numbered_if_journal}
use Rattle.ent_history.proofs.Legal.{in_members}
use Rattle.ent_lists.specs.Elements.{In, Pairs, of_all, to_all, of_filter, to_filter, in_flat, to_flat, any_some}
use Rattle.ent_lists.specs.Elements.{any_in, contains_in, in_contains, index_pairs}
use Rattle.ent_history.proofs.RuleLists.{of_every, both_none}
use Rattle.ent_history.proofs.Replays.{IsTold, OwnScripts, account_read_view, read_view_account, told}
use Rattle.ent_history.proofs.Tables.{none_shown, shown_own}

module _ (history : History) (formed : IsFormed history) (legal : IsLegal (book history)) where
  abbrev declared : List Create
  declared = history.opening.tables

  abbrev all : List Account
  all = accounts history

  abbrev order : List Account
  order = in_commit_order all

  abbrev joints : List JointAnswer
  joints = map joint_answer_of history.joint_answers

  abbrev members : List Placed
  members = placed joints

  abbrev start : Database
  start = opening_database history.opening

  abbrev seen : List ReadView
  seen = told_read_views declared members order start

  abbrev run_read_views : List ReadView
  run_read_views = book_read_views (book history) legal.turns

  abbrev runs : Runs
  runs =
      record {
        database = shown_database history.tables;
        answers = map (λ (e : Entry). e.answers) (map entry_of order);
      }

  once : Pairs AreApart (all_members joints)
  once = index_pairs AreApart (all_members joints) legal.once

  answered_in : (s : ReadView) → In s run_read_views → In (member_of s) (all_members joints)
  answered_in s at = contains_in (all_members joints) (member_of s) (legal.answered s (in_contains run_read_views s at))

  -- the oracle gives what is told
  are_told : AreTold declared members run_read_views
  are_told s at =
      let r = at_member joints once (member_of s) (answered_in s at) in
      sym (ap grounding_of r.1 ∙ ap (λ (m : Member). m.grounding) r.2)

  own_scripts : OwnScripts declared members legal.turns order
  own_scripts t a tt_in at same =
      same_Some t.script a.script
      (sym (legal.runs.own_scripts t (in_contains legal.turns t tt_in))
      ∙ ap (numbered history.scripts) same
      ∙ own_script history a (in_order_committed all a at).0)

  run : IsTold declared members legal.turns order start runs
  run =
      told declared members legal.turns order start runs
      (legal.runs.in_order ∙ map-map (λ (e : Entry). e.tx) entry_of order)
      own_scripts legal.runs.run are_told

  to_run : (s : ReadView) → In s seen → In s run_read_views
  to_run s at = subst (In s) (sym run.same) at

  from_run : (s : ReadView) → Contains run_read_views s → In s seen
  from_run s c = subst (In s) run.same (contains_in run_read_views s c)

  is_numbered : IsNumbered all
  is_numbered =
      numbered_if_journal history legal.journal (λ a at.
      of_all (λ (x : Account). commits x.script.end ≡ true) order a run.commit at)

  -- ---- members

  is_statement : (m : Member) → In m (all_members joints) → IsStatement all m
  is_statement m at =
      let w = legal.no_widow m (in_contains (all_members joints) m at) in
      let s = w.0 in
      let r = read_view_account declared members order start s (from_run s w.1) in
      let t = r.2 in
      let own = in_order_committed all r.0 r.1 in
      let n : 1 + t.before ≡ suc t.before = omega arith in
      record {
        account = r.0;
        at = own.0;
        own = sym t.own ∙ ap (λ (x : Member). x.tx) (sym w.2);
        committed = own.1;
        before = t.before;
        here = ap (λ (x : Member). x.place) w.2 ∙ t.here ∙ n;
        statement = statements.Entangled s.entangled;
        there = t.there;
        entangled = refl;
      }

  none_members : members_findings all 1 [] joints ≡ []
  none_members = none_of_right all 1 [] joints is_statement once

  none_out : left_out_findings (all_members joints) all ≡ []
  none_out =
      none_left declared joints all (λ a at committed.
      all_so declared joints a.tx 1 a.script.statements (λ k st there is.
      let s = account_read_view declared members order start runs.database run.ends a
      (in_order all is_numbered a at committed) k st there is in
      among a.tx (1 + k) (all_members joints) (member_of s.0) (answered_in s.0 (to_run s.0 s.1)) s.2 s.3))

  -- ---- the run

  joint_of : (m : Member) → In m (all_members joints) → (joint : JointAnswer) × In joint joints × In m joint.members
  joint_of m at = in_flat (λ (j : JointAnswer). j.members) joints m at

  grounded : (s : ReadView) → In s seen → IsGrounded declared s
  grounded s at =
      let j = joint_of (member_of s) (answered_in s (to_run s at)) in
      (legal.good j.0 (in_contains joints j.0 j.1)).grounded s
      (in_contains run_read_views s (to_run s at), in_contains j.0.members (member_of s) j.2)

  none_replay : replay_findings declared members order start ≡ []
  none_replay =
      run.none (map-map (λ (e : Entry). e.answers) entry_of order) (to_all (IsGrounded declared) seen grounded)

  -- ---- postconditions

  met : (joint : JointAnswer) → In joint joints → are_met seen joint.members ≡ true
  met joint jt =
      of_every (is_offered (flat_map read_view_heads (read_views_of seen joint.members)))
      (flat_map read_view_posts (read_views_of seen joint.members)) (λ post at.
      let p = in_flat read_view_posts (read_views_of seen joint.members) post at in
      let f = of_filter (λ (x : ReadView). stands_among x.tx x.place joint.members) seen p.0 p.1 in
      let m = any_some (stands_at p.0.tx p.0.place) joint.members f.1 in
      let both = stands_there p.0.tx p.0.place m.0 m.2 in
      let one = one_member joints once m.0 (member_of p.0) (in_members joints joint m.0 jt m.1)
      (answered_in p.0 (to_run p.0 f.0)) both.0 both.1 in
      offered post ((legal.good joint (in_contains joints joint jt)).met p.0 (
        in_contains run_read_views p.0 (to_run p.0 f.0),
        in_contains joint.members (member_of p.0) (subst (λ (x : Member). In x joint.members) one m.1),
      )
      post (in_contains (read_view_posts p.0) post p.2)))
    where
      offered : (post : Fact) → IsOffered run_read_views joint.members post
          → is_offered (flat_map read_view_heads (read_views_of seen joint.members)) post ≡ true
      offered post o =
          let s = o.0 in
          let st = from_run s o.1.0 in
          let own = to_filter (λ (x : ReadView). stands_among x.tx x.place joint.members) seen s st
          (among s.tx s.place joint.members (member_of s) (contains_in joint.members (member_of s) o.1.1) refl refl) in
          any_in (same_fact post) (flat_map read_view_heads (read_views_of seen joint.members)) post
          (to_flat read_view_heads (read_views_of seen joint.members) s post own
          (contains_in (read_view_heads s) post o.2))
          (fact_itself post)

  none_met : (number : ℕ) (js : List JointAnswer)
      → ((joint : JointAnswer) → In joint js → are_met seen joint.members ≡ true) → post_findings seen number js ≡ []
  none_met number [] each = refl
  none_met number (j ∷ js) each =
      both_none (unless (are_met seen j.members) rule.Post (thing.Joint number)) (post_findings seen (suc number) js)
      (holds_unless (are_met seen j.members) rule.Post (thing.Joint number) (each j (inl refl)))
      (none_met (suc number) js (λ k at. each k (inr at)))

  -- ---- the tables

  none_tables : end_findings (told_end declared members order start) history.tables ≡ []
  none_tables =
      ap (λ o. end_findings o history.tables) run.ends
      ∙ none_shown (shown_database history.tables) 1 history.tables (λ shown at.
      sym (formed.ascending shown (in_contains history.tables shown at))
      ∙ ap set.ascending (sym (shown_own history.tables
      (index_pairs (λ (first second : Shown). first.name ≡ second.name → ⊥) history.tables formed.once) shown at)))

  pub none_found : findings history ≡ []
  none_found =
      both_none (journal_findings all)
      (members_findings all 1 [] joints
      ++ (left_out_findings (all_members joints) all
      ++ (replay_findings declared members order start
      ++ (post_findings seen 1 joints ++ end_findings (told_end declared members order start) history.tables))))
      (none_if_numbered all is_numbered)
      (both_none (members_findings all 1 [] joints)
      (left_out_findings (all_members joints) all
      ++ (replay_findings declared members order start
      ++ (post_findings seen 1 joints ++ end_findings (told_end declared members order start) history.tables)))
      none_members
      (both_none (left_out_findings (all_members joints) all)
      (replay_findings declared members order start
      ++ (post_findings seen 1 joints ++ end_findings (told_end declared members order start) history.tables))
      none_out
      (both_none (replay_findings declared members order start)
      (post_findings seen 1 joints ++ end_findings (told_end declared members order start) history.tables)
      none_replay
      (both_none (post_findings seen 1 joints)
      (end_findings (told_end declared members order start) history.tables) (none_met 1 joints met) none_tables))))
