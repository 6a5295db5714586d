-- What a change of a sound table leaves.
use Rattle.std.specs.Prelude.{ℕ, ◌≡◌, List}
use Rattle.std.proofs.Common.{sym, subst, ◌∙◌}
use Rattle.ring_laws.specs.Table.{Sound, Made}
use Rattle.ring.specs.declared.rings.RingsMut.{RingsMut}

-- the half, and the table that is referred to, stay
pub record Kept (old new : RingsMut) : Type 0 where
  pub half : new.m ≡ old.m
  pub same : new.words.ghost_name ≡ old.words.ghost_name

pub kept_then : (a b c : RingsMut) → Kept a b → Kept b c → Kept a c
kept_then a b c k l = record { half = l.half ∙ k.half; same = l.same ∙ k.same }

-- and the words are as wanted; that they are sound is in the type
pub record Turned (want : List ℕ) (old new : RingsMut) : Type 0 where
  pub is : new.words.now ≡ want
  pub kept : Kept old new

pub sound_after : (old new : RingsMut) → Kept old new → Sound old.m new.words.now
sound_after old new k = subst (λ (n : ℕ). Sound n new.words.now) k.half new.sound

pub made : (want : List ℕ) (old new : RingsMut) → Turned want old new → Made old.m want new.words.now
made want old new t = record { is = t.is; sound = sound_after old new t.kept }

-- a table t that is lent as rings: what holds of them afterwards holds of the table, whose words are v then
module _ (m : ℕ) (t v : List ℕ) (old new : RingsMut) (of : (old.words.now ≡ t) × (old.m ≡ m)) (left : v ≡ new.words.now) where
  pub told_by : (P : ℕ → List ℕ → List ℕ → Type 0) → P old.m old.words.now new.words.now → P m t v
  told_by P p =
      subst (λ (n : ℕ). P n t v) of.1
      (subst (λ (l : List ℕ). P old.m l v) of.0 (subst (λ (l : List ℕ). P old.m old.words.now l) (sym left) p))

  -- and where nothing was done, the table is as it was
  pub stays_by : new.words.now ≡ old.words.now → (P : List ℕ → Type 0) → P t → P v
  stays_by e P p = subst P (sym (left ∙ e ∙ of.0)) p

  pub made_by : (f : ℕ → List ℕ → List ℕ) → Turned (f old.m old.words.now) old new → Made m (f m t) v
  made_by f k = told_by (λ (n : ℕ) (l u : List ℕ). Made n (f n l) u) (made _ old new k)
