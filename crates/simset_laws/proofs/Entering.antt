-- What the code of a call that enters a set promises beside its answer: that the bounds of the sets' sizes hold after it. The other set
-- calls leave them as they are.
use Rattle.std.specs.Prelude.{ℕ, ◌+◌, ◌≤◌, ◌≡◌, refl, Bool, true, false, List, if◌then◌else◌, Ok, Err}
use Rattle.std.proofs.Common.{sym, ap, ◌∙◌, arith, le-leb}
use Rattle.ring_laws.specs.Lists.{test, clash}
use Rattle.ring_laws.specs.Table.{Sound, Made, unlinked}
use Rattle.model.specs.declared.Counts.{Counts}
use Rattle.model.specs.declared.Refusal.TheVariants.{Operand, Full}
use Rattle.model.specs.Answers.{Verdict}
use Rattle.model.specs.Counts.{total, is_head, is_link, is_linkage}
use Rattle.model.specs.declared.answer.Answer.TheVariants.{Done}
use Rattle.simset_laws.specs.Procedures.{cleared}
use Rattle.simset_laws.specs.Full.{set_at, many, full_for, free_to}
use Rattle.simset_laws.specs.Calls.{Linked, linked_if, entered_if, or_none, out_step, clear_step}
use Rattle.simset_laws.specs.Promise.{Moved, entry_not, entry_full, entered, party_fine}
use Rattle.simset_laws.specs.Meaning.{link_of, head_of_lem}
use Rattle.simset_laws.specs.BoundLaws.{Covers, Linking, covers_less, covers_few}
use Rattle.simset_laws.proofs.BoundLaws.{covers_out, covers_clear}
use Rattle.simset_laws.specs.Entering.{Tested, Entered, entry_verdict, is_fine, Beside}

-- ---- a call that enters a set: refused by a kind, by a full set, or done

module _ (c : Counts) (links bounds u : List ℕ) (b f : Bool) (sound : Sound (total c + 1) links) where
  pub entering_not : Covers c 0 links bounds → b ≡ false
      → Entered c links (entered_if b f links u) bounds (record { links = links; answer = Err Operand })
  entering_not v e = record { moved = entry_not (total c + 1) links u b f sound e; covers = λ w. v }

  module _ (k : ℕ) (r : Bool) (t : Tested c k links f bounds r) (fine : b ≡ true) where
    pub entering_full : r ≡ true → Entered c links (entered_if b f links u) bounds (record { links = links; answer = Err Full })
    entering_full e =
        record {
          moved = entry_full (total c + 1) links u b f sound fine (sym t.is ∙ e);
          covers = λ w. covers_less c k links bounds t.covers;
        }

    pub entering : r ≡ false → (v : List ℕ) → Made (total c + 1) u v → (v ≡ u → Linking c links → Covers c 0 v bounds)
        → Entered c links (entered_if b f links u) bounds (record { links = v; answer = Ok Done })
    entering e v made w = record { moved = entered (total c + 1) links u b f v fine (sym t.is ∙ e) made; covers = w made.is }

module _ (c : Counts) (links bounds : List ℕ) (k : ℕ) (b f : Bool) where
  pub beside_not : Covers c 0 links bounds → b ≡ false → Beside c k links b f bounds (Err Operand)
  beside_not v e = record { is = rw e; kept = v; covers = λ q. clash (ap is_fine q) }

  module _ (r : Bool) (t : Tested c k links f bounds r) (fine : b ≡ true) where
    pub beside_full : r ≡ true → Beside c k links b f bounds (Err Full)
    beside_full e =
        record { is = rw (fine, sym t.is ∙ e); kept = covers_less c k links bounds t.covers; covers = λ q. clash (ap is_fine q) }

    pub beside_fine : r ≡ false → Beside c k links b f bounds (Ok tt)
    beside_fine e =
        record { is = rw (fine, sym t.is ∙ e); kept = covers_less c k links bounds t.covers; covers = λ q. t.covers }

  pub beside_may : (v : Verdict) → Beside c k links b f bounds v → v ≡ (Ok tt) → b ≡ true
  beside_may v t e = go b f (sym e ∙ t.is)
    where
      go : (b f : Bool) → (Ok tt) ≡ entry_verdict b f → b ≡ true
      go true f z = refl
      go false f z = sym (ap is_fine z)

-- no set is full beside a free linkage, or none
pub beside_free : (c : Counts) (x y : ℕ) (links bounds : List ℕ) → Covers c 0 links bounds → y ≤ free_to c (total c)
    → Beside c (set_at (total c + 1) c.heads y links) links (or_none (is_linkage c y) y) (full_for c x y links) bounds (Ok tt)
unfolding full_for set_at
beside_free c x y links bounds v l =
    test (many c)
    (λ ma. none (omega (arith, rw ma at l)))
    (λ ma. record {
      is = rw (party_fine (total c) y (rw ma at l), ma);
      kept = v;
      covers = λ q. covers_few c 0 _ links links bounds ma v;
    })
  where
    none : y ≡ 0 → Beside c (set_at (total c + 1) c.heads y links) links (or_none (is_linkage c y) y) (full_for c x y links) bounds (Ok tt)
    none z =
        record {
          is = rw (z, le-leb 0 c.heads (omega arith)) (go (many c));
          kept = v;
          covers = λ q. rw (z, le-leb 0 c.heads (omega arith)) v;
        }
      where
        go : (b : Bool) → (Ok tt) ≡ entry_verdict true (if b then false else false)
        go true = refl
        go false = refl

-- ---- out and clear: no set has more members after them

module _ (c : Counts) (links bounds : List ℕ) (v : Covers c 0 links bounds) (w : Linking c links) where
  -- refused, or done with these links
  by_test : (b : Bool) (u : List ℕ) → (b ≡ true → Covers c 0 u bounds) → Covers c 0 (linked_if b links u).links bounds
  by_test true u f = f refl
  by_test false u f = v

  pub covers_out_step : (x : ℕ) (got : Linked) → Moved (total c + 1) (out_step c x links) got → Covers c 0 got.links bounds
  unfolding out_step
  covers_out_step x got k =
      rw k.is (by_test (is_link c x) (unlinked (total c + 1) x links)
      (λ e. covers_out c w.0 links bounds w.1 x (link_of c x e) v))

  pub covers_clear_step : (x : ℕ) (got : Linked) → Moved (total c + 1) (clear_step c x links) got → Covers c 0 got.links bounds
  unfolding clear_step
  covers_clear_step x got k =
      rw k.is (by_test (is_head c x) (cleared (total c + 1) x links)
      (λ e. covers_clear c w.0 links bounds w.1 x (head_of_lem c x e) v))
