-- What the procedures' code returns, from its calls: r is the table as lent, u as it is once x is out.
use Prim.Native.Nat.{ℕ, suc, ◌+◌, ◌-◌, ◌<◌, ◌≤◌}
use mathlib.Core.Path.{◌≡◌, refl, sym, ap, ap₂, ◌∙◌}
use mathlib.Core.Logic.{◌≢◌}
use mathlib.Core.Bool.{Bool, true, false, ◌&&◌}
use mathlib.Core.List.{List}
use native.Mathlib.Omega.{arith}
use lib.ListN.{get_or}
use Rattle.ring.specs.declared.rings.RingsMut.{RingsMut}
use Rattle.ring.specs.Rings.{Kept, Turned, kept_then}
use Rattle.ring_laws.specs.Table.{unlinked, linked_behind, linked_before}
use Rattle.simset_laws.specs.Procedures.{follow_on, followed, precede_on, preceded, clearing, cleared}
use Rattle.simset_laws.specs.Moves.{follow_none, follow_off, follow_on_lem, precede_none, precede_off, precede_on_lem, followed_is, preceded_is, clearing_none, clearing_done, clearing_on, cleared_is}

-- a test joined by && to another
pub and_true : (p v t : Bool) → p ≡ true → v ≡ t → v ≡ p && t
and_true p v t e f = rw e f

pub and_false : (p v t : Bool) → p ≡ false → v ≡ p → v ≡ p && t
and_false p v t e f = rw e (f ∙ e)

-- one change after another
pub turned_then : (want got : List ℕ) (r u v : RingsMut) → Turned want r u → Turned got u v → (next : List ℕ) → got ≡ next → Turned next r v
turned_then want got r u v k l next e = record { is = l.is ∙ e; kept = kept_then r u v k.kept l.kept }

pub turned_as : (want next : List ℕ) (r u : RingsMut) → Turned want r u → want ≡ next → Turned next r u
turned_as want next r u k e = record { is = k.is ∙ e; kept = k.kept }

module _ (x y : ℕ) (r u : RingsMut) (out : Turned (unlinked r.m x r.words.now) r u) where
  pub follows_none : y ≡ 0 → Turned (followed r.m x y r.words.now) r u
  follows_none e = turned_as _ _ r u out (sym (follow_none r.m x y (unlinked r.m x r.words.now) e) ∙ sym (followed_is r.m x y r.words.now))

  pub precedes_none : y ≡ 0 → Turned (preceded r.m x y r.words.now) r u
  precedes_none e = turned_as _ _ r u out (sym (precede_none r.m x y (unlinked r.m x r.words.now) e) ∙ sym (preceded_is r.m x y r.words.now))

  module _ (n : y ≢ 0) where
    pub follows_off : get_or u.words.now y 0 ≡ 0 → Turned (followed r.m x y r.words.now) r u
    follows_off e =
        turned_as _ _ r u out
        (sym (follow_off r.m x y (unlinked r.m x r.words.now) n (rw out.is at e)) ∙ sym (followed_is r.m x y r.words.now))

    pub precedes_off : get_or u.words.now y 0 ≡ 0 → Turned (preceded r.m x y r.words.now) r u
    precedes_off e =
        turned_as _ _ r u out
        (sym (precede_off r.m x y (unlinked r.m x r.words.now) n (rw out.is at e)) ∙ sym (preceded_is r.m x y r.words.now))

    pub follows_on : (v : RingsMut) → get_or u.words.now y 0 ≢ 0 → Turned (linked_behind u.m x y u.words.now) u v
        → Turned (followed r.m x y r.words.now) r v
    follows_on v o k =
        turned_then _ _ r u v out k _
        (sym (follow_on_lem u.m x y u.words.now n o) ∙ ap₂ (λ (m : ℕ) (l : List ℕ). follow_on m x y l) out.kept.half out.is
        ∙ sym (followed_is r.m x y r.words.now))

    pub precedes_on : (v : RingsMut) → get_or u.words.now y 0 ≢ 0 → Turned (linked_before u.m x y u.words.now) u v
        → Turned (preceded r.m x y r.words.now) r v
    precedes_on v o k =
        turned_then _ _ r u v out k _
        (sym (precede_on_lem u.m x y u.words.now n o) ∙ ap₂ (λ (m : ℕ) (l : List ℕ). precede_on m x y l) out.kept.half out.is
        ∙ sym (preceded_is r.m x y r.words.now))

-- ---- the loop of clear: i turns are done

pub record Clears (h : ℕ) (r u : RingsMut) (i : ℕ) : Type 0 where
  pub kept : Kept r u
  pub rest : (j : ℕ) → i + j ≡ r.m → clearing r.m h j u.words.now ≡ cleared r.m h r.words.now

pub clears_start : (h : ℕ) (r : RingsMut) → Clears h r r 0
clears_start h r =
    record {
      kept = record { half = refl; same = refl };
      rest = λ j e. ap (λ (k : ℕ). clearing r.m h k r.words.now) (zero_more e) ∙ sym (cleared_is r.m h r.words.now);
    }
  where
    zero_more : {j m : ℕ} → 0 + j ≡ m → j ≡ m
    zero_more e = omega arith

module _ (h : ℕ) (r u : RingsMut) (i : ℕ) (c : Clears h r u i) where
  pub clears_done : i < r.m → get_or u.words.now h 0 ≡ h → Turned (cleared r.m h r.words.now) r u
  clears_done l q =
      record {
        is = sym (clearing_done r.m h (r.m - i) u.words.now q) ∙ c.rest (r.m - i) (omega arith);
        kept = c.kept;
      }

  pub clears_turn : (v : RingsMut) → get_or u.words.now h 0 ≢ h → Turned (unlinked u.m (get_or u.words.now h 0) u.words.now) u v
      → Clears h r v (i + 1)
  clears_turn v n o =
      record {
        kept = kept_then r u v c.kept o.kept;
        rest =
            λ j e. ap (clearing r.m h j) (o.is ∙ ap (λ (k : ℕ). unlinked k (get_or u.words.now h 0) u.words.now) c.kept.half)
            ∙ sym (clearing_on r.m h j u.words.now n)
            ∙ c.rest (suc j) (omega (arith, e));
      }

  pub clears_out : i ≤ r.m → r.m ≤ i → Turned (cleared r.m h r.words.now) r u
  clears_out a b =
      record { is = sym (clearing_none r.m h u.words.now) ∙ c.rest 0 (omega arith); kept = c.kept }
