-- What the calls of a step ask follows from what the step asks.
use Rattle.std.specs.Prelude.{ℕ, ◌*◌, ◌≤◌, ◌<◌, ◌≡◌, ◌≢◌, List, ℤ, length, get_or}
use Rattle.std.proofs.Common.{sym, ap, ◌∙◌, subst, arith}
use Rattle.model.specs.declared.Counts.{Counts}
use Rattle.model.specs.Counts.{limit}
use Rattle.model_laws.specs.Tables.{Tables}
use Rattle.model_laws.specs.Now.{half}
use Rattle.simulation_laws.specs.Promise.{Noticed, Judged, Takeable, ready_judged, ready_takeable}
use Rattle.sheet.specs.declared.records.Record.{Record}
use Rattle.sheet.specs.Sheet.{record_offset, record_from}
use Rattle.sheet.specs.Operations.{last_operation}
use Rattle.run_laws.specs.Run.{record_got}
use Rattle.run_laws.specs.Performed.{Performed, performed}
use Rattle.run_laws.specs.Tried.{tried, room_known}
use Rattle.run_laws.specs.Needs.{Resolvable, Readable, Callable, Performable}
use Rattle.run_laws.specs.Reads.{got_record}

module _ (c : Counts) (bytes : List ℕ) (i f : ℕ) (t : Tables) (p : Callable c bytes i f t) where
  resolvable : Resolvable c t.links f
  resolvable =
      record { allowed = p.ready.allowed; sound = p.ready.links_sound; place_in = omega (arith, p.place_is, p.ready.first_in_lem) }

  pub judged : Judged c t.axis
  judged = ready_judged c t p.ready

  pub takeable : Takeable c t.axis t.times
  takeable = ready_takeable c t p.ready

  pub place_some : 0 < f
  place_some = omega (arith, p.place_is, p.ready.first_some)

  module _ (op : ℕ) (is : op ≡ (record_from bytes i).operation) where
    pub x_readable : op ≢ 13 → Readable c bytes i t.links f (record_from bytes i).x
    x_readable n = record { inside = p.inside; operand = p.ranged.x_operand (λ e. n (is ∙ e)); resolvable = resolvable }

    pub y_readable : op ≢ 12 → Readable c bytes i t.links f (record_from bytes i).y
    y_readable n = record { inside = p.inside; operand = p.ranged.y_operand (λ e. n (is ∙ e)); resolvable = resolvable }

    pub some : 1 ≤ op
    some = omega (arith, p.ranged.operation_some)

    pub most : op ≤ last_operation
    most = omega (arith, p.ranged.operation_in)

module _ (c : Counts) (bytes : List ℕ) (i f time : ℕ) (t : Tables) (words : List ℤ) (p : Performable c bytes i f time t words) where
  time_in : time ≤ limit
  time_in = subst (λ (n : ℕ). n ≤ limit) (sym p.time_is) (p.callable.ready.times_in _)

  pub noticed : Noticed (half c) f time t.axis t.times
  noticed =
      record {
        place = record { is = p.callable.place_is; within = omega (arith, p.callable.place_is, p.callable.ready.first_in_lem) };
        read = record { is = p.time_is ∙ ap (λ (n : ℕ). get_or t.times n 0) (sym p.callable.place_is) };
        within = time_in;
      }

  module _ (op : ℕ) (is : op ≡ (record_from bytes i).operation) (e : op ≡ 13) where
    pub numbered : (1 ≤ (record_from bytes i).x) × (3 * (record_from bytes i).x ≤ length words) × (time ≤ limit)
    numbered = let b = p.callable.ranged.x_accumulator (sym is ∙ e) in (b.0, omega (arith, b.1, p.words_all), time_in)

    pub in_sixty_four : (record_from bytes i).x ≤ 64
    in_sixty_four = (p.callable.ranged.x_accumulator (sym is ∙ e)).1

-- ---- record r begins where it was looked for

module _ (c : Counts) (bytes : List ℕ) (r i : ℕ) (n : r ≢ 0) (e : i ≡ record_offset c.processes r) where
  pub record_is : record_from bytes i ≡ record_got c.processes bytes r
  record_is = ap (record_from bytes) e ∙ got_record c.processes bytes r n

  module _ (f : ℕ) (t : Tables) (w : List ℤ) (o : Performed) where
    pub performed_at : o ≡ performed c (record_from bytes i) f t w → o ≡ performed c (record_got c.processes bytes r) f t w
    performed_at eo = eo ∙ ap (λ (q : Record). performed c q f t w) record_is

    pub tried_at : (bounds : List ℕ) → o ≡ tried c (record_from bytes i) f t w (room_known c (record_from bytes i) bounds)
        → o ≡ tried c (record_got c.processes bytes r) f t w (room_known c (record_got c.processes bytes r) bounds)
    tried_at bounds eo = eo ∙ ap (λ (q : Record). tried c q f t w (room_known c q bounds)) record_is
