-- Members that leave get a fate, or go to the dormant list.
use Rattle.std.proofs.Common.{suc, ◌≡◌, ℕ, List, [], ◌∷◌, refl, sym, ap, ◌∙◌, inl, inr, Option, Some, None}
use Rattle.std.specs.List.{filter_map, cons_option}
use Rattle.ent_semantics.specs.declared.book.Fate.{Fate}
use Rattle.ent_semantics.specs.declared.book.Fated.{Fated}
use Rattle.ent_protocol.specs.Commit.{commit_fates}
use Rattle.ent_protocol.specs.Rollback.{Cause, fated_as, fated_by, dormant_by, fate_of}
use Rattle.ent_protocol.specs.State.{Submitted, Member, Dormant}
use Rattle.ent_lists.specs.Elements.{In, Pairs, of_all, to_all, pairs_at}
use Rattle.ent_protocol.proofs.Numbers.{waiting_tx}
use Rattle.ent_protocol_laws.proofs.SerialKept.{OtherMember, OtherFated, OtherDormant}

-- ---- members that go to the dormant list

pub of_dormant : (submitted : List Submitted) (cause : Cause) (ms : List Member) (d : Dormant)
    → In d (filter_map (dormant_by submitted cause) ms) → (m : Member) × In m ms × (d.tx ≡ m.tx)
of_dormant submitted cause [] d dt = absurd dt
of_dormant submitted cause (m ∷ ms) d dt =
    by (dormant_by submitted cause m) refl dt
    (λ (h : In d (filter_map (dormant_by submitted cause) ms)). of_dormant submitted cause ms d h)
  where
    by : (o : Option Dormant) → dormant_by submitted cause m ≡ o
        → In d (cons_option o (filter_map (dormant_by submitted cause) ms))
        → (In d (filter_map (dormant_by submitted cause) ms) → (x : Member) × In x ms × (d.tx ≡ x.tx))
        → (x : Member) × In x (m ∷ ms) × (d.tx ≡ x.tx)
    by None e h rest = let r = rest h in (r.0, inr r.1, r.2)
    by (Some other) e (inl same) rest =
        (m, inl refl, ap (λ (x : Dormant). x.tx) same ∙ waiting_tx submitted cause m other e)
    by (Some other) e (inr more) rest = let r = rest more in (r.0, inr r.1, r.2)

pub dormant_pairs : (submitted : List Submitted) (cause : Cause) (ms : List Member)
    → Pairs (λ (a b : Member). a.tx ≡ b.tx → ⊥) ms
    → Pairs OtherDormant (filter_map (dormant_by submitted cause) ms)
dormant_pairs submitted cause [] pairs = tt
dormant_pairs submitted cause (m ∷ ms) pairs =
    by (dormant_by submitted cause m) refl (dormant_pairs submitted cause ms pairs.1)
  where
    by : (o : Option Dormant) → dormant_by submitted cause m ≡ o
        → Pairs OtherDormant (filter_map (dormant_by submitted cause) ms)
        → Pairs OtherDormant (cons_option o (filter_map (dormant_by submitted cause) ms))
    by None e rest = rest
    by (Some d) e rest = (
      to_all (OtherDormant d) (filter_map (dormant_by submitted cause) ms) (λ other ot same.
          let r = of_dormant submitted cause ms other ot in
          of_all (λ (b : Member). m.tx ≡ b.tx → ⊥) ms r.0 pairs.0 r.1
          (sym (waiting_tx submitted cause m d e) ∙ same ∙ r.2)),
      rest,
    )

-- ---- members that get a fate

pub of_commit : (number : ℕ) (ms : List Member) (f : Fated) → In f (commit_fates number ms)
    → (m : Member) × In m ms × (f.tx ≡ m.tx)
of_commit number [] f ft = absurd ft
of_commit number (m ∷ ms) f (inl same) = (m, inl refl, ap (λ (x : Fated). x.tx) same)
of_commit number (m ∷ ms) f (inr more) =
    let r = of_commit (suc number) ms f more in
    (r.0, inr r.1, r.2)

pub to_commit : (number : ℕ) (ms : List Member) (m : Member) → In m ms
    → (f : Fated) × In f (commit_fates number ms) × (f.tx ≡ m.tx)
to_commit number [] m at = absurd at
to_commit number (x ∷ ms) m (inl same) = (_, inl refl, ap (λ (y : Member). y.tx) (sym same))
to_commit number (x ∷ ms) m (inr at) = let r = to_commit (suc number) ms m at in (r.0, inr r.1, r.2)

pub commit_pairs : (number : ℕ) (ms : List Member) → Pairs OtherMember ms → Pairs OtherFated (commit_fates number ms)
commit_pairs number [] pairs = tt
commit_pairs number (m ∷ ms) pairs = (
  to_all (λ (g : Fated). m.tx ≡ g.tx → ⊥) (commit_fates (suc number) ms) (λ g gt e.
      let r = of_commit (suc number) ms g gt in
      of_all (λ (b : Member). m.tx ≡ b.tx → ⊥) ms r.0 pairs.0 r.1 (e ∙ r.2)),
  commit_pairs (suc number) ms pairs.1,
)

-- one that is fated has a fate, and one that is dormant has none
fated_has : (tx : ℕ) (o : Option Fate) (f : Fated) → fated_as tx o ≡ Some f
    → (f.tx ≡ tx) × ((fate : Fate) × (o ≡ Some fate))
fated_has tx None f e = cc (e)
fated_has tx (Some fate) f e =
    let same : record { tx = tx; fate = fate } ≡ f = cc in
    (ap (λ (x : Fated). x.tx) (sym same), (fate, refl))

dormant_none : (submitted : List Submitted) (cause : Cause) (m : Member) (d : Dormant)
    → dormant_by submitted cause m ≡ Some d → fate_of submitted cause m ≡ None
dormant_none submitted cause m d h = by (fate_of submitted cause m) refl
  where
    by : (f : Option Fate) → fate_of submitted cause m ≡ f → fate_of submitted cause m ≡ None
    by None e = e
    by (Some fate) e = let k : None ≡ Some d = rw e at h in cc

pub of_fated : (submitted : List Submitted) (cause : Cause) (ms : List Member) (f : Fated)
    → In f (filter_map (fated_by submitted cause) ms)
    → (m : Member) × In m ms × (f.tx ≡ m.tx) × ((fate : Fate) × (fate_of submitted cause m ≡ Some fate))
of_fated submitted cause [] f ft = absurd ft
of_fated submitted cause (m ∷ ms) f ft =
    by (fated_by submitted cause m) refl ft
    (λ (h : In f (filter_map (fated_by submitted cause) ms)). of_fated submitted cause ms f h)
  where
    by : (o : Option Fated) → fated_by submitted cause m ≡ o
        → In f (cons_option o (filter_map (fated_by submitted cause) ms))
        → (In f (filter_map (fated_by submitted cause) ms) → (x : Member) × In x ms × (f.tx ≡ x.tx)
        × ((fate : Fate) × (fate_of submitted cause x ≡ Some fate)))
        → (x : Member) × In x (m ∷ ms) × (f.tx ≡ x.tx)
        × ((fate : Fate) × (fate_of submitted cause x ≡ Some fate))
    by None e h rest = let r = rest h in (r.0, inr r.1, r.2, r.3)
    by (Some other) e (inl same) rest =
        let r = fated_has m.tx (fate_of submitted cause m) other e in
        (m, inl refl, ap (λ (x : Fated). x.tx) same ∙ r.0, r.1)
    by (Some other) e (inr more) rest = let r = rest more in (r.0, inr r.1, r.2, r.3)

of_sleeping : (submitted : List Submitted) (cause : Cause) (ms : List Member) (d : Dormant)
    → In d (filter_map (dormant_by submitted cause) ms)
    → (m : Member) × In m ms × (d.tx ≡ m.tx) × (fate_of submitted cause m ≡ None)
of_sleeping submitted cause [] d dt = absurd dt
of_sleeping submitted cause (m ∷ ms) d dt =
    by (dormant_by submitted cause m) refl dt
    (λ (h : In d (filter_map (dormant_by submitted cause) ms)). of_sleeping submitted cause ms d h)
  where
    by : (o : Option Dormant) → dormant_by submitted cause m ≡ o
        → In d (cons_option o (filter_map (dormant_by submitted cause) ms))
        → (In d (filter_map (dormant_by submitted cause) ms) → (x : Member) × In x ms × (d.tx ≡ x.tx)
        × (fate_of submitted cause x ≡ None))
        → (x : Member) × In x (m ∷ ms) × (d.tx ≡ x.tx) × (fate_of submitted cause x ≡ None)
    by None e h rest = let r = rest h in (r.0, inr r.1, r.2, r.3)
    by (Some other) e (inl same) rest = (
      m,
      inl refl,
      ap (λ (x : Dormant). x.tx) same ∙ waiting_tx submitted cause m other e,
      dormant_none submitted cause m other e,
    )
    by (Some other) e (inr more) rest = let r = rest more in (r.0, inr r.1, r.2, r.3)

pub fated_pairs : (submitted : List Submitted) (cause : Cause) (ms : List Member) → Pairs OtherMember ms
    → Pairs OtherFated (filter_map (fated_by submitted cause) ms)
fated_pairs submitted cause [] pairs = tt
fated_pairs submitted cause (m ∷ ms) pairs =
    by (fated_by submitted cause m) refl (fated_pairs submitted cause ms pairs.1)
  where
    by : (o : Option Fated) → fated_by submitted cause m ≡ o
        → Pairs OtherFated (filter_map (fated_by submitted cause) ms)
        → Pairs OtherFated (cons_option o (filter_map (fated_by submitted cause) ms))
    by None e rest = rest
    by (Some f) e rest = (
      to_all (OtherFated f) (filter_map (fated_by submitted cause) ms) (λ other ot same.
          let r = of_fated submitted cause ms other ot in
          of_all (λ (b : Member). m.tx ≡ b.tx → ⊥) ms r.0 pairs.0 r.1
          (sym (fated_has m.tx (fate_of submitted cause m) f e).0 ∙ same ∙ r.2)),
      rest,
    )

pub fate_or_dormant : (submitted : List Submitted) (cause : Cause) (ms : List Member) → Pairs OtherMember ms
    → (f : Fated) (d : Dormant) → In f (filter_map (fated_by submitted cause) ms)
    → In d (filter_map (dormant_by submitted cause) ms) → d.tx ≡ f.tx → ⊥
fate_or_dormant submitted cause ms pairs f d ft dt same =
    let a = of_fated submitted cause ms f ft in
    let b = of_sleeping submitted cause ms d dt in
    elim (pairs_at OtherMember (λ x y h e. h (sym e)) ms a.0 b.0 pairs a.1 b.1) [
      | inl e ↦ none_some a.3.0 (sym b.3 ∙ ap (fate_of submitted cause) (sym e) ∙ a.3.1)
      | inr differ_so ↦ differ_so (sym a.2 ∙ sym same ∙ b.2)
    ]
  where
    none_some : (fate : Fate) → None ≡ Some fate → ⊥
    none_some fate e = cc
