-- New heads with empty rings in a table of zeros.
use Rattle.std.specs.Prelude.{ℕ, ◌*◌, ◌<◌, ◌≡◌, ◌≢◌, Bool, List, [], length, get_or}
use Rattle.std.proofs.Common.{inr, arith}
use Rattle.std.proofs.Math.ListN.{length-set, get_or-eq_default}
use Rattle.std.proofs.lemmas.List.{length-replicate, get_or-replicate}
use Rattle.ring_laws.specs.Lists.{below, zeros}
use Rattle.ring_laws.specs.Rings.{Head, Link}
use Rattle.ring_laws.specs.Table.{self_linked}
use Rattle.ring_laws.specs.Stores.{sucs, pres, stores}
use Rattle.ring_laws.specs.Spell.{Spells}

-- heads that follow themselves, links with two zeros: every list is empty
pub spells_empty : (m : ℕ) (is_head : ℕ → Bool) (t : List ℕ) → length t ≡ 2 * m
    → ((h : ℕ) → Head m is_head h → (sucs m t h ≡ h) × (pres m t h ≡ h))
    → ((x : ℕ) → Link m is_head x → (sucs m t x ≡ 0) × (pres m t x ≡ 0))
    → sucs m t 0 ≡ 0 → pres m t 0 ≡ 0 → Spells m is_head (λ h. []) t
spells_empty m is_head t two f g zs zp =
    record {
      two = two;
      rings =
          record {
            ring = λ h a. record { next = (f h a).0; prev = (f h a).1 };
            only = λ h x a k. absurd k;
            whole = λ x l. inr (g x l);
            zero_s = zs;
            zero_p = zp;
          };
    }

pub length_zeros : (n : ℕ) → length (zeros n) ≡ n
length_zeros n = length-replicate n 0

pub get_or_zeros : (n i : ℕ) → get_or (zeros n) i 0 ≡ 0
get_or_zeros n i =
    below i n
    (λ l. get_or-replicate n i 0 0 l)
    (λ l. get_or-eq_default (zeros n) 0 {n = i} (omega (arith, length_zeros n)))

module _ (m : ℕ) (t : List ℕ) (h : ℕ) (two : length t ≡ 2 * m) (l : h < m) where
  pub self_length : length (self_linked m h t) ≡ 2 * m
  unfolding self_linked
  self_length = simp length-set two

  pub self_s : sucs m (self_linked m h t) h ≡ h
  unfolding self_linked
  self_s = simp (stores, two)

  pub self_p : pres m (self_linked m h t) h ≡ h
  unfolding self_linked
  self_p = simp (stores, two)

  pub other_s : (u : ℕ) → u ≢ h → sucs m (self_linked m h t) u ≡ sucs m t u
  unfolding self_linked
  other_s u n = simp stores

  pub other_p : (u : ℕ) → u ≢ h → pres m (self_linked m h t) u ≡ pres m t u
  unfolding self_linked
  other_p u n = simp stores
