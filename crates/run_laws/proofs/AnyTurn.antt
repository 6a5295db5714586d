-- A turn whose call may be any: a stretch with room for one line, and where that leaves the call, a turn apart. Turns with room for one
-- line come to what one turn comes to, and tell it.
use Rattle.std.specs.Prelude.{ℕ, suc, ◌+◌, ◌*◌, ◌-◌, ◌/◌, ◌≡◌, List, Ok, Err}
use Rattle.std.proofs.Math.Path.{refl}
use Rattle.std.proofs.Common.{sym, ap, ◌∙◌, arith}
use Rattle.std.proofs.Math.Bool.{true, false}
use Rattle.ring_laws.specs.Lists.{test, clash}
use Rattle.model.specs.declared.Counts.{Counts}
use Rattle.model.specs.declared.Refusal.{Refusal}
use Rattle.machine.specs.declared.End.{End}
use Rattle.machine.specs.declared.End.TheVariants.{Finished, Full, Refused}
use Rattle.machine.specs.Run.{line_size}
use Rattle.run_laws.specs.declared.Pause.{Pause}
use Rattle.run_laws.specs.declared.Pause.TheVariants.{Full as NoRoom, Apart, Refused as Stopped}
use Rattle.run_laws.specs.declared.Stretch.{Stretch}
use Rattle.run_laws.specs.declared.Turn.TheVariants.{Finished as AtEnd, Made}
use Rattle.run_laws.specs.Run.{Taken, RunTables, Turned, On, Off, Stepped, step_on, ends_now, TurnedOn, turn_by, turn_on, RanOn, stopped_on}
use Rattle.run_laws.specs.Run.{turns_on}
use Rattle.run_laws.specs.Paused.{left_by, is_full, is_due, Paused}

module _ (c : Counts) (bytes : List ℕ) (n : ℕ) where
  -- what one turn comes to, as turns with room for one line
  abbrev after : Taken → RunTables → List ℕ → RanOn
  after (Ok AtEnd) u tr = stopped_on n Finished u tr
  after (Ok Made) u tr = turns_on c bytes (suc n) 0 u tr
  after (Err r) u tr = stopped_on n (Refused r) u tr

  abbrev whole : TurnedOn → RanOn
  whole o = after o.turn o.run o.trace

  by_turned : (s : Stepped) (v : Turned)
      → elim v [ On next ↦ turns_on c bytes (suc n) 0 s.run s.trace | Off r ↦ stopped_on n (Refused r) s.run s.trace ]
      ≡ after (turn_by v) s.run s.trace
  by_turned s (On next) = refl
  by_turned s (Off r) = refl

  one_turn : (u : RunTables) (tr : List ℕ) → turns_on c bytes n 1 u tr ≡ whole (turn_on c bytes (line_size * n) u tr)
  unfolding turns_on turn_on
  one_turn u tr =
      test (ends_now c u.model.axis u.positions)
      (λ e. rw e refl)
      (λ e. rw e (by_turned (step_on c bytes (line_size * n) u tr) (step_on c bytes (line_size * n) u tr).turned))

  -- ---- with no room, nothing is done

  none_done : (u : RunTables) (tr : List ℕ)
      → ((turns_on c bytes (suc n) 0 u tr).run ≡ u) × ((turns_on c bytes (suc n) 0 u tr).trace ≡ tr)
      × ((turns_on c bytes (suc n) 0 u tr).result.lines ≡ suc n)
  unfolding turns_on
  none_done u tr = test (ends_now c u.model.axis u.positions) (λ e. rw e (refl, refl, refl)) (λ e. rw e (refl, refl, refl))

  no_refusal : (u : RunTables) (tr : List ℕ) (r : Refusal) → (turns_on c bytes (suc n) 0 u tr).result.end ≡ Refused r → false ≡ true
  unfolding turns_on
  no_refusal u tr r =
      test (ends_now c u.model.axis u.positions) (λ e. rw e (λ q. first q)) (λ e. rw e (λ q. second q))
    where
      first : Finished ≡ Refused r → false ≡ true
      first q = cc

      second : Full ≡ Refused r → false ≡ true
      second q = cc

  -- ---- what it came to tells the turn

  abbrev lines : RanOn → ℕ
  lines a = a.result.lines

  abbrev end : RanOn → End
  end a = a.result.end

  less : {T : Type 0} → n ≡ suc n → T
  less e = absurd (omega (arith, e))

  runs : (t : Taken) (u : RunTables) (tr : List ℕ) → ((after t u tr).run ≡ u) × ((after t u tr).trace ≡ tr)
  runs (Ok AtEnd) u tr = (refl, refl)
  runs (Ok Made) u tr = let d = none_done u tr in (d.0, d.1)
  runs (Err r) u tr = (refl, refl)

  turns_same : (s t : Taken) (u v : RunTables) (tr tv : List ℕ) → after s u tr ≡ after t v tv → s ≡ t
  turns_same (Ok AtEnd) (Ok AtEnd) u v tr tv e = refl
  turns_same (Ok AtEnd) (Ok Made) u v tr tv e = less (ap lines e ∙ (none_done v tv).2)
  turns_same (Ok AtEnd) (Err r) u v tr tv e = let z : Finished ≡ Refused r = ap end e in let y : false ≡ true = cc in clash y
  turns_same (Ok Made) (Ok AtEnd) u v tr tv e = less (sym (ap lines e) ∙ (none_done u tr).2)
  turns_same (Ok Made) (Ok Made) u v tr tv e = refl
  turns_same (Ok Made) (Err r) u v tr tv e = less (sym (ap lines e) ∙ (none_done u tr).2)
  turns_same (Err r) (Ok AtEnd) u v tr tv e = let z : Refused r ≡ Finished = ap end e in let y : false ≡ true = cc in clash y
  turns_same (Err r) (Ok Made) u v tr tv e = less (ap lines e ∙ (none_done v tv).2)
  turns_same (Err r) (Err q) u v tr tv e = let z : Refused r ≡ Refused q = ap end e in let y : r ≡ q = cc in ap Err y

  tells : (o p : TurnedOn) → whole o ≡ whole p → o ≡ p
  tells o p e =
      let t : o.turn ≡ p.turn = turns_same o.turn p.turn o.run p.run o.trace p.trace e in
      let a = runs o.turn o.run o.trace in
      let b = runs p.turn p.run p.trace in
      let r : o.run ≡ p.run = sym a.0 ∙ ap (λ (x : RanOn). x.run) e ∙ b.0 in
      let w : o.trace ≡ p.trace = sym a.1 ∙ ap (λ (x : RanOn). x.trace) e ∙ b.1 in
      λ j. record { run = r j; trace = w j; turn = t j }

  -- ---- after a stretch with room for one line

  module _ (i : ℕ) (place : i ≡ line_size * n) (u : RunTables) (tr : List ℕ) (u' : RunTables) (tr' : List ℕ) (s : Stretch)
      (p : Paused c bytes ((i + line_size) / line_size) n (turns_on c bytes n ((i + line_size) / line_size - n) u tr) tr u' tr' s) where
    abbrev room : ℕ
    room = (i + line_size) / line_size

    one : room ≡ n + 1
    one = omega (arith, place)

    -- lines after the stretch
    abbrev m : ℕ
    m = s.at / line_size

    one_at : (v : RunTables) (tv : List ℕ) → turns_on c bytes n 1 v tv ≡ whole (turn_on c bytes i v tv)
    one_at v tv = one_turn v tv ∙ ap (λ (j : ℕ). whole (turn_on c bytes j v tv)) (sym place)

    to_whole : turns_on c bytes n (room - n) u tr ≡ whole (turn_on c bytes i u tr)
    to_whole = let z : room - n ≡ 1 = omega (arith, one) in ap (λ (k : ℕ). turns_on c bytes n k u tr) z ∙ one_at u tr

    left_is : (k : ℕ) → m + k ≡ room → (q : Pause) → s.pause ≡ q
        → left_by c bytes q m k u' tr' ≡ whole (turn_on c bytes i u tr)
    left_is k e q eq = sym (ap (λ (x : Pause). left_by c bytes x m k u' tr') eq) ∙ p.left k e ∙ to_whole

    pub any_made : s.pause ≡ NoRoom → record { run = u'; trace = tr'; turn = (Ok Made) } ≡ turn_on c bytes i u tr
    any_made e =
        let l : m ≡ suc n = omega (arith, one, p.few, p.full (ap is_full e)) in
        tells _ _ (ap (λ (k : ℕ). turns_on c bytes k 0 u' tr') (sym l) ∙ left_is 0 (omega (arith, one, l)) NoRoom e)

    pub any_refused : (x : Refusal) → s.pause ≡ Stopped x → record { run = u'; trace = tr'; turn = Err x }
        ≡ turn_on c bytes i u tr
    any_refused x e =
        let w : stopped_on m (Refused x) u' tr' ≡ whole (turn_on c bytes i u tr) =
        left_is (room - m) (omega (arith, p.few)) (Stopped x) e in
        tells _ _ (ap (λ (k : ℕ). stopped_on k (Refused x) u' tr') (sym (at_n (turn_on c bytes i u tr) w)) ∙ w)
      where
        at_n : (o : TurnedOn) → stopped_on m (Refused x) u' tr' ≡ whole o → m ≡ n
        at_n o w = go o.turn o.run o.trace w
          where
            go : (t : Taken) (v : RunTables) (tv : List ℕ) → stopped_on m (Refused x) u' tr' ≡ after t v tv → m ≡ n
            go (Ok AtEnd) v tv q = ap lines q
            go (Ok Made) v tv q = clash (no_refusal v tv x (sym (ap end q)))
            go (Err r) v tv q = ap lines q

    pub any_due : s.pause ≡ Apart → (o : TurnedOn) → o ≡ turn_on c bytes i u' tr' → o ≡ turn_on c bytes i u tr
    any_due e o eo =
        let l : m ≡ n = omega (arith, one, p.more, (p.due (ap is_due e)).0) in
        eo
        ∙ tells _ _ (sym (one_at u' tr') ∙ ap (λ (k : ℕ). turns_on c bytes k 1 u' tr') (sym l) ∙ left_is 1 (omega (arith, one, l)) Apart e)
