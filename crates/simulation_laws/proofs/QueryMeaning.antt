-- What the queries of SIMULATION tell, for every well-formed model: what the list of notices and the terminated processes say.
use Rattle.std.specs.Prelude.{ℕ, ◌-◌, ◌≡◌, not, if◌then◌else◌, Ok}
use Rattle.std.proofs.Common.{◌∙◌, subst}
use Rattle.std.proofs.Math.Path.{ap}
use Rattle.std.proofs.Math.Dec.{eqb}
use Rattle.std.proofs.Math.Seq.{get_or-take}
use Rattle.ring_laws.specs.Lists.{In, test}
use Rattle.ring_laws.specs.Tabulate.{has}
use Rattle.ring_laws.specs.Stores.{sucs, pres}
use Rattle.model.specs.declared.Counts.{Counts}
use Rattle.model.specs.Counts.{is_process, linkage_at}
use Rattle.model.specs.declared.answer.Answer.TheVariants.{Linkage, Number, Truth}
use Rattle.axis_laws.specs.Notices.{whos}
use Rattle.model_laws.specs.Tables.{Tables, Lists, Sized, Spells}
use Rattle.model_laws.specs.Called.{asked}
use Rattle.simset_laws.specs.Calls.{told_if}
use Rattle.simset_laws.proofs.Meaning.{asked_is}
use Rattle.axis_laws.specs.NoticeOps.{has_notice, next_after}
use Rattle.simulation_laws.specs.Procedures.{Sqs, idle_at}
use Rattle.simulation_laws.specs.Calls.{sqs_of, current_told, time_told, idle_told, terminated_told, evtime_told, nextev_told}
use Rattle.axis_laws.specs.Reading.{who_place}
use Rattle.model_laws.specs.NowLaws.{Split, splits}
use Rattle.model_laws.proofs.NowLaws.{current_now, time_now}
use Rattle.model_laws.specs.Now.{time, current, half, next_place}
use Rattle.simulation_laws.specs.Places.{SpellsTime, chain, off_head, is_process_lem, times_at, member}
use Rattle.axis_laws.specs.Notices.{Process}
use Rattle.simulation_laws.specs.Agree.{its_time}
use Rattle.simulation_laws.specs.AgreeEnds.{Party, has_in, idle_has}
use Rattle.simulation_laws.proofs.AgreeTimed.{marks_at}
use Rattle.simulation_laws.specs.QueryMeaning.{evtime_of, nextev_of, next_chain, bit_is, told_by_lem, process_of}
use Rattle.model.specs.Answers.{linkage, number, truth}

module _ (c : Counts) (l : Lists) (t : Tables) (w : Sized c t) (s : Spells c l t) where
  sp : Split l.notices
  sp = splits l.notices s.some

  abbrev a : Sqs
  a = sqs_of t

  spt : SpellsTime c l.notices (sqs_of t)
  spt = its_time c l t s

  pub current_means : asked c (λ k. current_told c (sqs_of k)) t ≡ Ok (Linkage (current l))
  unfolding current_told
  current_means = asked_is c l t w s (λ k. current_told c (sqs_of k)) ∙ ap linkage (current_now c l t s)

  pub time_means : asked c (λ k. time_told c (sqs_of k)) t ≡ Ok (Number (time l))
  unfolding time_told
  time_means = asked_is c l t w s (λ k. time_told c (sqs_of k)) ∙ ap number (time_now c l t s)

  module _ (x : ℕ) where
    idle_is : Process c x → idle_at a (x - c.heads) ≡ not (has_notice x l.notices)
    idle_is p = idle_has c l.notices a spt x (Party.proc p)

    pub idle_means : asked c (λ k. idle_told c x (sqs_of k)) t ≡ told_if (is_process c x) (Ok (Truth (not (has_notice x l.notices))))
    unfolding idle_told
    idle_means =
        asked_is c l t w s (λ k. idle_told c x (sqs_of k)) ∙ told_by_lem (is_process c x) _ _ (λ g. ap truth (idle_is (process_of c x g)))

    pub terminated_means : asked c (λ k. terminated_told c x k.marks) t ≡ told_if (is_process c x) (Ok (Truth (has x l.terminated)))
    unfolding terminated_told
    terminated_means =
        asked_is c l t w s (λ k. terminated_told c x k.marks)
        ∙ told_by_lem (is_process c x) _ _ (λ g.
        ap truth (ap (λ (j : ℕ). eqb j 1) (marks_at c l t s sp.head sp.rest sp.is x (process_of c x g))
        ∙ bit_is (has x l.terminated)))

    -- 6 exactly for an idle process
    pub evtime_means : asked c (λ k. evtime_told c x (sqs_of k)) t ≡ told_if (is_process c x) (evtime_of x l.notices)
    unfolding evtime_told
    evtime_means =
        asked_is c l t w s (λ k. evtime_told c x (sqs_of k))
        ∙ told_by_lem (is_process c x) _ _ (λ g.
        test (has_notice x l.notices)
        (λ h. rw (idle_is (process_of c x g), h) (ap number (times_at c l.notices a spt x (process_of c x g))))
        (λ h. rw (idle_is (process_of c x g), h)))

    pub nextev_means : asked c (λ k. nextev_told c x (sqs_of k)) t ≡ told_if (is_process c x) (nextev_of x l.notices)
    unfolding nextev_told
    nextev_means =
        asked_is c l t w s (λ k. nextev_told c x (sqs_of k))
        ∙ told_by_lem (is_process c x) _ _ (λ g.
        test (has_notice x l.notices)
        (λ h.
        let i : In x (whos l.notices) = has_in x l.notices h in
        let at : sucs (half c) t.axis (x - c.heads) ≡ next_place t.axis (x - c.heads) =
        get_or-take (half c) t.axis (x - c.heads) 0 (member c l.notices a spt (x - c.heads) (who_place c l.notices x i)).within in
        rw (idle_is (process_of c x g), h)
        (subst (λ (v : ℕ). (if eqb v (half c - 1) then linkage 0 else linkage (linkage_at c v)) ≡ linkage (next_after x l.notices)) at
        (next_chain (sucs (half c) t.axis) (pres (half c) t.axis) c (half c - 1) l.notices (half c - 1) x
        (chain c l.notices a spt)
        (off_head c l.notices a spt) (λ y m. (is_process_lem c l.notices a spt y m).over) i)))
        (λ h. rw (idle_is (process_of c x g), h)))
