-- What is run on leads on, and a core that is run out gives a book of its input.
use Rattle.std.proofs.Common.{◌≡◌, ℕ, ◌+◌, length, map, sym, ap, subst, ◌∙◌}
use Rattle.std.proofs.lemmas.List.{length-map}
use Rattle.ent_tree.specs.declared.script.Input.{Input}
use Rattle.ent_form.specs.declared.fault.FormFault.{FormFault}
use Rattle.ent_semantics.specs.Book.{IsLegal}
use Rattle.ent_semantics.specs.declared.book.Book.{Book}
use Rattle.ent_semantics.specs.Database.{Database}
use Rattle.ent_protocol.specs.Reached.{IsGatheredAt, LeadsTo}
use Rattle.ent_protocol.specs.Run.{Forms}
use Rattle.ent_protocol.specs.State.{State}
use Rattle.ent_protocol.specs.State.{Submitted as OneSubmitted}
use Rattle.ent_protocol_laws.specs.Fates.{HaveFates}
use Rattle.ent_sched.specs.Passed.{resolved_forms}
use Rattle.ent_sched.specs.Onward.{LeadsOn}
use Rattle.ent_sched.specs.RunOut.{IsRunOut}
use Rattle.ent_sched.specs.Play.{AreSubmitted}
use Rattle.ent_sched.specs.Play.{IsBookOf}

-- events behind events
abbrev pub Joined : Type 0
Joined =
    (forms : Forms FormFault) (n m : ℕ) (first middle last : State) → LeadsTo forms n first middle
    → LeadsTo forms m middle last → LeadsTo forms (n + m) first last

pub led_on : Joined → (n m : ℕ) (first middle last : State) → LeadsOn resolved_forms n first middle
    → LeadsOn resolved_forms m middle last → LeadsOn resolved_forms (n + m) first last
led_on joined n m first middle last h k =
    record {
      leads = joined resolved_forms n m first middle last h.leads k.leads;
      opening = k.opening ∙ h.opening;
      submitted = k.submitted ∙ h.submitted;
    }

pub run_out_from : Joined → (n : ℕ) (first middle : State) (book : Book Database)
    → LeadsOn resolved_forms n first middle → IsRunOut resolved_forms middle book → IsRunOut resolved_forms first book
run_out_from joined n first middle book h run =
    record {
      last = run.last;
      count = n + run.count;
      leads_on = led_on joined n run.count first middle run.last h run.leads_on;
      finished = run.finished;
      is = run.is;
    }

pub book_of_input : (input : Input) (core : State) (book : Book Database)
    → AreSubmitted input.opening input.scripts core → IsRunOut resolved_forms core book → HaveFates book
    → IsLegal book → IsBookOf input book
book_of_input input core book h run fates legal =
    record {
      finished =
          record {
            last = run.last;
            finished = run.finished;
            of_opening = run.leads_on.opening ∙ h.of_opening;
            of_scripts = ap (map (λ (own : OneSubmitted). own.script)) run.leads_on.submitted ∙ h.of_scripts;
            is = run.is;
          };
      gathered = subst (λ (k : ℕ). IsGatheredAt resolved_forms k run.last) (sym as_many)
          (core, run.count, h.gathered, run.leads_on.leads);
      fates = fates;
      legal = legal;
    }
  where
    as_many : length run.last.submitted ≡ length input.scripts
    as_many =
        ap length run.leads_on.submitted
        ∙ sym (length-map core.submitted (λ (own : OneSubmitted). own.script)) ∙ ap length h.of_scripts
