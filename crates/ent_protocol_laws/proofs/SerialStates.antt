-- The states that are reached are serial states.
use Rattle.std.proofs.Common.{◌≡◌, ◌++◌, map, sym, subst}
use Rattle.ent_semantics.specs.Database.{opening_database}
use Rattle.ent_form.specs.Tables.{database_of}
use Rattle.ent_protocol.specs.Reached.{IsReached}
use Rattle.ent_protocol.specs.Run.{Forms}
use Rattle.ent_protocol.specs.State.{State}
use Rattle.ent_protocol_laws.specs.Faithful.{AreFaithful}
use Rattle.ent_protocol_laws.specs.History.{AreSerial, History}
use Rattle.ent_protocol_laws.specs.SerialState.{IsSerialState}
use Rattle.ent_protocol_laws.proofs.Frame.{Laws}
use Rattle.ent_lists.specs.Elements.{pairs_by}
use Rattle.ent_protocol_laws.proofs.SerialKept.{Kept, member_of}
use Rattle.ent_lists.specs.Elements.{contains_in, in_contains, pairs_index}
use Rattle.ent_protocol_laws.proofs.Reached.{reached_kept}
use Rattle.ent_protocol_laws.proofs.Sound.{Fit}

-- histories of two members
abbrev OtherHistory : History → History → Type 0
OtherHistory one other = one.member.tx ≡ other.member.tx → ⊥

module _ {F : Type 0} (forms : Forms F) (s : State) (kept : Kept forms s) where
  abbrev pub kept_serial : IsSerialState s
  kept_serial =
      record {
        committed = kept.committed;
        prepared = kept.prepared;
        others = kept.others;
        journal = kept.journal;
        of_prepared = kept.of_prepared;
        of_others = λ m. (
          λ c. in_contains s.active m ((kept.same m).0 (contains_in (map member_of kept.others) m c)),
          λ c. in_contains (map member_of kept.others) m ((kept.same m).1 (contains_in s.active m c)),
        );
        distinct = pairs_index OtherHistory (kept.prepared ++ kept.others)
            (pairs_by Fit OtherHistory (kept.prepared ++ kept.others) (λ one other fit. fit.distinct) kept.sound.fit);
        settles = subst (AreSerial s.opening.tables kept.committed (opening_database s.opening)) (sym kept.sound.undo)
            kept.settles;
        stands = subst (λ d. AreSerial s.opening.tables (kept.prepared ++ kept.others) d
            (database_of s.opening.tables s.tables)) (sym kept.sound.undo) kept.sound.serial;
        whole = kept.whole;
        follow = kept.follow;
      }

pub reached_serial : {F : Type 0} (forms : Forms F) (laws : Laws) (s : State) → AreFaithful forms s.opening
    → IsReached forms s → IsSerialState s
reached_serial forms laws s faithful reached = kept_serial forms s (reached_kept forms laws s faithful reached)
