-- The procedures do to the sets what the list operations say, for every table that spells sets.
use Rattle.std.specs.Prelude.{ℕ, ◌-◌, ◌<◌, ◌≡◌, refl, List, [], get_or}
use Rattle.std.proofs.Common.{sym, ap, ◌∙◌, ⊎_elim}
use Rattle.std.proofs.Math.ListN.{get_or-map}
use Rattle.ring_laws.specs.Lists.{without, decide, without_gone}
use Rattle.ring_laws.specs.Rings.{Link}
use Rattle.ring_laws.specs.Table.{unlinked}
use Rattle.ring_laws.specs.Stores.{sucs, suc_at}
use Rattle.model_laws.specs.Tables.{set_head, members_of, SpellsSets}
use Rattle.simset_laws.specs.Sets.{out_sets, follow_sets, precede_sets}
use Rattle.simset_laws.specs.Procedures.{followed, preceded}
use Rattle.simset_laws.specs.Moves.{follow_none, follow_off, follow_on_lem, precede_none, precede_off, precede_on_lem, followed_is}
use Rattle.simset_laws.specs.Moves.{preceded_is}
use Rattle.simset_laws.specs.Laws.{stands, sets_out, sets_behind, sets_ahead, behind_nowhere, ahead_nowhere}

-- ---- follow and precede

module _ (m H : ℕ) (sets : List (List ℕ)) (t : List ℕ) (s : SpellsSets m H sets t) (b : H < m) (x : ℕ) (lx : Link m (set_head H) x) where
  abbrev u : List ℕ
  u = unlinked m x t

  out_is : SpellsSets m H (out_sets x sets) u
  out_is = sets_out m H sets t s x lx

  -- x is out
  pub is_out : sucs m u x ≡ 0
  is_out =
      ⊎_elim
      (λ w. absurd (without_gone x (members_of sets w.0) x (rw (get_or-map (without x) sets (w.0 - 1) []) at w.2) refl))
      (λ z. z.0)
      (out_is.spelled.rings.whole x lx)

  u_at : (y : ℕ) → y < m → sucs m u y ≡ get_or u y 0
  u_at y l = suc_at m u y l

  pub sets_followed : (y : ℕ) → y < m → SpellsSets m H (follow_sets x y sets) (followed m x y t)
  sets_followed y l =
      rw (followed_is m x y t)
      (decide y 0
      (λ z. rw (
        follow_none m x y u z,
        behind_nowhere m H (out_sets x sets) u out_is x y b
            (ap (sucs m u) z ∙ out_is.spelled.rings.zero_s),
      ) out_is)
      (λ n. decide (get_or u y 0) 0
      (λ z. rw (follow_off m x y u n z, behind_nowhere m H (out_sets x sets) u out_is x y b (u_at y l ∙ z)) out_is)
      (λ o.
      let w = stands m H (out_sets x sets) u out_is y l (λ z. o (sym (u_at y l) ∙ z)) in
      rw (follow_on_lem m x y u n o) (sets_behind m H (out_sets x sets) u out_is x y w.0 lx is_out w.1 w.2))))

  pub sets_preceded : (y : ℕ) → y < m → SpellsSets m H (precede_sets x y sets) (preceded m x y t)
  sets_preceded y l =
      rw (preceded_is m x y t)
      (decide y 0
      (λ z. rw (
        precede_none m x y u z,
        ahead_nowhere m H (out_sets x sets) u out_is x y b
            (ap (sucs m u) z ∙ out_is.spelled.rings.zero_s),
      ) out_is)
      (λ n. decide (get_or u y 0) 0
      (λ z. rw (precede_off m x y u n z, ahead_nowhere m H (out_sets x sets) u out_is x y b (u_at y l ∙ z)) out_is)
      (λ o.
      let w = stands m H (out_sets x sets) u out_is y l (λ z. o (sym (u_at y l) ∙ z)) in
      rw (precede_on_lem m x y u n o) (sets_ahead m H (out_sets x sets) u out_is x y w.0 lx is_out w.1 w.2))))

  -- a link that follows or precedes itself ends outside every set
  pub follows_itself : follow_sets x x sets ≡ out_sets x sets
  follows_itself = behind_nowhere m H (out_sets x sets) u out_is x x b is_out

  pub precedes_itself : precede_sets x x sets ≡ out_sets x sets
  precedes_itself = ahead_nowhere m H (out_sets x sets) u out_is x x b is_out
