-- What the functions on the table of 4 × m words ask and promise: its two halves are tables of rings.
use Rattle.std.specs.Prelude.{ℕ, ◌+◌, ◌*◌, ◌-◌, ◌<◌, ◌≡◌, refl, ◌≢◌, Bool, List, [], ◌∷◌, ◌++◌, length, get_or, set, take, drop}
use Rattle.std.proofs.Common.{sym, ap, ◌∙◌, subst, arith, length-append, length-drop, length-set, drop_of_length-le, get_or-take, get_or-drop, take_at, drop_at, length-take-le, get_or-append-add, get_or-set_same, get_or-set_other, take_all}
use Rattle.std.proofs.Math.ListN.{get_or-eq_default, get_or-append}
use Rattle.std.proofs.Math.Seq.{set_out}
use borrow.Author.Tests.{eq-eqb, ne_eqb}
use Rattle.ring_laws.specs.Lists.{below, decide}
use Rattle.ring_laws.specs.Table.{Sound, Made, unlinked, self_linked}
use Rattle.axis_laws.specs.Swap.{handed_over}
use Rattle.axis_laws.specs.Timeline.{Timeline, timeline, next_of, lone}
use Rattle.axis_laws.specs.Procedures.{ticks_left, shares}

append_nil : (l : List ℕ) → l ++ [] ≡ l
append_nil [] = refl
append_nil (x ∷ l) = ap (λ (r : List ℕ). x ∷ r) (append_nil l)

-- four parts of m words, and every word names a place
pub record Whole (m : ℕ) (axis : List ℕ) : Type 0 where
  pub four : length axis ≡ 4 * m
  pub inside : (i : ℕ) → get_or axis i 0 < m

-- the tables are as wanted, and safe to go on with
pub record Left (m : ℕ) (want : Timeline) (axis times : List ℕ) : Type 0 where
  pub is : timeline m axis times ≡ want
  pub whole : Whole m axis

module _ (m : ℕ) (axis : List ℕ) (w : Whole m axis) where
  pub whole_ticks : Sound m (take (2 * m) axis)
  whole_ticks =
      record {
        two = length-take-le (2 * m) axis (omega (arith, w.four));
        inside = λ i.
            below i (2 * m)
            (λ l. rw (get_or-take (2 * m) axis i 0 l) (w.inside i))
            (λ l. omega (arith, w.inside 0, get_or-eq_default (take (2 * m) axis) 0 {n = i} (omega (arith, length-take-le (2 * m) axis (omega (arith, w.four))))));
      }

  pub whole_peers : Sound m (drop (2 * m) axis)
  whole_peers =
      record {
        two = omega (arith, length-drop (2 * m) axis, w.four);
        inside = λ i. rw (get_or-drop (2 * m) axis i 0) (w.inside (2 * m + i));
      }

module _ (m : ℕ) (p d : List ℕ) (sp : Sound m p) (sd : Sound m d) where
  pub both_whole : Whole m (p ++ d)
  both_whole =
      record {
        four = omega (arith, length-append p d, sp.two, sd.two);
        inside = λ i.
            below i (length p)
            (λ l. rw (get_or-append p d 0 i l) (sp.inside i))
            (λ l.
            let q : length p + (i - length p) ≡ i = omega arith in
            subst (λ (j : ℕ). get_or (p ++ d) j 0 < m) q (rw (get_or-append-add p d (i - length p) 0) (sd.inside (i - length p))));
      }

  pub both_ticks : take (2 * m) (p ++ d) ≡ p
  both_ticks = take_at p d (2 * m) sp.two

  pub both_peers : drop (2 * m) (p ++ d) ≡ d
  both_peers = drop_at p d (2 * m) sp.two

-- ---- the statements keep a table of rings sound

sound_set : (m : ℕ) (t : List ℕ) (i v : ℕ) → Sound m t → v < m → Sound m (set t i v)
sound_set m t i v s l =
    record {
      two = simp length-set s.two;
      inside = λ j.
          decide j i
          (λ e. below i (length t)
          (λ b. rw (e, get_or-set_same t i v 0 b) l)
          (λ o. rw (set_out t i v o) (s.inside j)))
          (λ n. rw (get_or-set_other t i j v 0 n) (s.inside j));
    }

pub sound_handed : (m x y : ℕ) (t : List ℕ) → Sound m t → y < m → Sound m (handed_over m x y t)
unfolding handed_over
sound_handed m x y t s l =
    let z : 0 < m = omega arith in
    sound_set m _ _ _ (sound_set m _ _ _ (sound_set m _ _ _ (sound_set m _ _ _ (sound_set m _ _ _ (sound_set m _ _ _ s l) l) (s.inside _)) (s.inside _)) z) z

pub sound_self : (m x : ℕ) (t : List ℕ) → Sound m t → x < m → Sound m (self_linked m x t)
unfolding self_linked
sound_self m x t s l = sound_set m _ _ _ (sound_set m _ _ _ s l) l

-- ---- who leaves the ring of times

module _ (m x s : ℕ) (t : List ℕ) where
  pub left_not : Sound m t → get_or t x 0 ≡ 0 → Made m (ticks_left m x s t) t
  unfolding ticks_left
  left_not so e = rw (eq-eqb (get_or t x 0) 0 e) (record { is = refl; sound = so })

  pub left_alone : (t' : List ℕ) (i : ℕ) → i ≡ x → get_or t x 0 ≢ 0 → s ≡ x → Made m (unlinked m i t) t' → Made m (ticks_left m x s t) t'
  unfolding ticks_left
  left_alone t' i q n e d = rw (ne_eqb (get_or t x 0) 0 n, eq-eqb s x e, ← q) d

  pub left_next : (t' : List ℕ) → get_or t x 0 ≢ 0 → s ≢ x → Made m (handed_over m x s t) t' → Made m (ticks_left m x s t) t'
  unfolding ticks_left
  left_next t' n e d = rw (ne_eqb (get_or t x 0) 0 n, ne_eqb s x e) d

-- ---- a change of one half, the other as it was

pub record TicksMade (m : ℕ) (want old new : List ℕ) : Type 0 where
  pub is : take (2 * m) new ≡ want
  pub kept : drop (2 * m) new ≡ drop (2 * m) old
  pub whole : Whole m new

pub record PeersMade (m : ℕ) (want old new : List ℕ) : Type 0 where
  pub is : drop (2 * m) new ≡ want
  pub kept : take (2 * m) new ≡ take (2 * m) old
  pub whole : Whole m new

module _ (m : ℕ) (axis : List ℕ) (w : Whole m axis) where
  pub ticks_length : 2 * m ≡ length (take (2 * m) axis)
  ticks_length = sym (length-take-le (2 * m) axis (omega (arith, w.four)))

  -- the second half, as the rest of the slice
  pub peers_rest : take (length axis - 2 * m) (drop (2 * m) axis) ≡ drop (2 * m) axis
  peers_rest = take_all (length axis - 2 * m) (drop (2 * m) axis) (omega (arith, length-drop (2 * m) axis))

  pub peers_sound : Sound m (take (length axis - 2 * m) (drop (2 * m) axis))
  peers_sound = rw peers_rest (whole_peers m axis w)

  pub ticks_made : (want p : List ℕ) → Made m want p → TicksMade m want axis (p ++ drop (2 * m) axis)
  ticks_made want p d =
      let s = whole_peers m axis w in
      record {
        is = both_ticks m p (drop (2 * m) axis) d.sound s ∙ d.is;
        kept = both_peers m p (drop (2 * m) axis) d.sound s;
        whole = both_whole m p (drop (2 * m) axis) d.sound s;
      }

  -- what stands behind it: nothing
  peers_end : (p : List ℕ) → p ++ drop (length axis - 2 * m) (drop (2 * m) axis) ≡ p
  peers_end p =
      ap (λ (l : List ℕ). p ++ l) (drop_of_length-le (drop (2 * m) axis) {i = length axis - 2 * m} (omega (arith, length-drop (2 * m) axis))) ∙ append_nil p

  pub peers_made : (f : List ℕ → List ℕ) (p : List ℕ) → Made m (f (take (length axis - 2 * m) (drop (2 * m) axis))) p
      → PeersMade m (f (drop (2 * m) axis)) axis (take (2 * m) axis ++ (p ++ drop (length axis - 2 * m) (drop (2 * m) axis)))
  peers_made f p d =
      let s = whole_ticks m axis w in
      rw (peers_end p) (record {
        is = both_peers m (take (2 * m) axis) p s d.sound ∙ d.is ∙ ap f peers_rest;
        kept = both_ticks m (take (2 * m) axis) p s d.sound;
        whole = both_whole m (take (2 * m) axis) p s d.sound;
      })

-- ---- answers of tests

pub record Shares (m q u : ℕ) (times : List ℕ) (r : Bool) : Type 0 where
  pub is : r ≡ shares m q u times

pub record Next (a : Timeline) (x r : ℕ) : Type 0 where
  pub is : r ≡ next_of a x

pub record Lone (m : ℕ) (a : Timeline) (r : Bool) : Type 0 where
  pub is : r ≡ lone m a
