-- A refused set call changes no word, whatever the tables.
use Rattle.std.specs.Prelude.{ℕ, ◌+◌, ◌≡◌, ◌&&◌, List, Err}
use Rattle.std.proofs.Common.{ap}
use Rattle.ring_laws.specs.Table.{unlinked}
use Rattle.model.specs.declared.Counts.{Counts}
use Rattle.model.specs.declared.Refusal.{Refusal}
use Rattle.model.specs.Counts.{total, is_head, is_link, is_linkage, both}
use Rattle.model.specs.declared.call.SetCall.{SetCall}
use Rattle.model.specs.declared.call.SetCall.TheVariants.{Out, Follow, Precede, Into, Clear}
use Rattle.model_laws.specs.Called.{called, if_accepted}
use Rattle.model_laws.specs.Result.{KeepsRefused, answering_kept, called_kept}
use Rattle.model_laws.specs.Tables.{model_of}
use Rattle.simset_laws.specs.Procedures.{followed, preceded, cleared}
use Rattle.simset_laws.specs.Calls.{or_none, on_links, of_links, out_step, follow_step, precede_step, into_step}
use Rattle.simset_laws.specs.Calls.{clear_step, cardinal_told}
use Rattle.simset_laws.specs.Full.{full_for}
use Rattle.simset_laws.specs.Plain.{links_after}
use Rattle.simset_laws.specs.Told.{head_told, set_told, set_answered}
use Rattle.simset_laws.specs.Kept.{if_kept, entry_kept, own_if, own_entry, no_linkage, no_number}

links_kept : (c : Counts) (k : SetCall) (t : List ℕ) (r : Refusal) → (links_after c k t).answer ≡ Err r → (links_after c k t).links ≡ t
unfolding out_step follow_step precede_step into_step clear_step
links_kept c (Out x) t r e = if_kept (is_link c x) t (unlinked (total c + 1) x t) r e
links_kept c (Follow x y) t r e =
    entry_kept (is_link c x && or_none (is_linkage c y) y) (full_for c x y t) t (followed (total c + 1) x y t) r e
links_kept c (Precede x y) t r e =
    entry_kept (is_link c x && or_none (is_linkage c y) y) (full_for c x y t) t (preceded (total c + 1) x y t) r e
links_kept c (Into x y) t r e =
    entry_kept (is_link c x && or_none (is_head c y) y) (full_for c x y t) t (preceded (total c + 1) x y t) r e
links_kept c (Clear x) t r e = if_kept (is_head c x) t (cleared (total c + 1) x t) r e

pub set_steps : (c : Counts) (k : SetCall) → KeepsRefused (on_links (links_after c k))
set_steps c k t r e = ap (λ (l : List ℕ). model_of l t.axis t.times t.marks)
    (links_kept c k t.links r e)

own : (c : Counts) (k : SetCall) (t : List ℕ) (r : Refusal) → if_accepted (links_after c k t).answer (set_told c k t) ≡ Err r
    → (links_after c k t).answer ≡ Err r
unfolding out_step follow_step precede_step into_step clear_step head_told cardinal_told
own c (Out x) t r e = own_if (is_link c x) (is_link c x) t _ _ r (λ q. q) (no_linkage _ r) e
own c (Follow x y) t r e =
    own_entry (is_link c x && or_none (is_linkage c y) y) (full_for c x y t) (is_link c x) t _ _ r (λ q. (both _ _ q).0) (no_linkage _ r) e
own c (Precede x y) t r e =
    own_entry (is_link c x && or_none (is_linkage c y) y) (full_for c x y t) (is_link c x) t _ _ r (λ q. (both _ _ q).0) (no_linkage _ r) e
own c (Into x y) t r e =
    own_entry (is_link c x && or_none (is_head c y) y) (full_for c x y t) (is_link c x) t _ _ r (λ q. (both _ _ q).0) (no_linkage _ r) e
own c (Clear x) t r e = own_if (is_head c x) (is_head c x) t _ _ r (λ q. q) (no_number _ r) e

-- the public calls
pub set_kept : (c : Counts) (k : SetCall) → KeepsRefused (called c (set_answered c k))
set_kept c k =
    called_kept c (set_answered c k)
    (answering_kept (of_links (set_told c k)) (on_links (links_after c k)) (λ t r e. own c k t.links r e) (set_steps c k))
