-- What the judge of the axis computes: "Refusal 2 is judged on the new tables." S is the next time, R and Q next and previous of one time.
use Rattle.std.specs.Prelude.{ℕ, zero, suc, ◌+◌, ◌-◌, Bool, true, false, ◌&&◌, List, eqb, leb, ltb, length, get_or, if◌then◌else◌}
use Rattle.ring_laws.specs.Stores.{sucs, pres}
use Rattle.ring_laws.specs.Judge.{idle, busy, walk, rings_fine}
use Rattle.model.specs.Counts.{limit}
use Rattle.axis_laws.specs.Marks.{mark_fine}
use Rattle.axis_laws.specs.Timeline.{Timeline}

-- from the leader a on, with at most n times: each one's ring over the places 1 .. hi - 1 is closed, and k processes stand on them together;
-- h is the axis's head
unfoldable pub rounds : (ℕ → ℕ) → (ℕ → ℕ) → (ℕ → ℕ) → ℕ → ℕ → ℕ → ℕ → ℕ → Bool
rounds S R Q hi h zero a k = false
rounds S R Q hi h (suc n) a k =
    if eqb a h then eqb k 0
    else (if eqb k 0 then false
    else (if eqb (walk R Q 1 hi a (k - 1) a) 0 then false else rounds S R Q hi h n (S a) (walk R Q 1 hi a (k - 1) a - 1)))

-- an idle place has time 0; another has a time within the limit, that of the next of its time, and where it leads, below the next time
unfoldable pub notice_fine : (ℕ → ℕ) → (ℕ → ℕ) → (ℕ → ℕ) → ℕ → List ℕ → ℕ → Bool
notice_fine S R Q h times y =
    if idle R Q y then eqb (get_or times y 0) 0
    else (if ltb limit (get_or times y 0) then false
    else (if eqb (get_or times (R y) 0) (get_or times y 0) then
    (if eqb (S y) 0 then true else (if leb h (S y) then true else ltb (get_or times y 0) (get_or times (S y) 0)))
    else false))

-- that and the marks, at the places 1 .. i
unfoldable pub notices_fine : (ℕ → ℕ) → (ℕ → ℕ) → (ℕ → ℕ) → ℕ → List ℕ → List ℕ → ℕ → Bool
notices_fine S R Q h times marks zero = true
notices_fine S R Q h times marks (suc i) =
    notice_fine S R Q h times (suc i) && (mark_fine R Q marks (suc i) && notices_fine S R Q h times marks i)

-- place 0 and the head are on no ring of processes, and their rings hold all that are on one
unfoldable pub peers_fine : (ℕ → ℕ) → (ℕ → ℕ) → (ℕ → ℕ) → ℕ → Bool
peers_fine S R Q p =
    idle R Q 0 && (idle R Q (p + 1) && rounds S R Q (p + 1) (p + 1) (p + 2) (S (p + 1)) (length (busy R Q 1 (p + 1 - 1))))

unfoldable pub timeline_fine : ℕ → Timeline → List ℕ → Bool
timeline_fine p a marks =
    eqb (get_or a.times 0 0) 0
    && (eqb (get_or marks 0 0) 0
    && (rings_fine (sucs (p + 2) a.ticks) (pres (p + 2) a.ticks) 1 (p + 1) (p + 1) 1 (p + 1)
    && (if eqb (get_or a.ticks (p + 1) 0) (p + 1) then false
    else (peers_fine (sucs (p + 2) a.ticks) (sucs (p + 2) a.peers) (pres (p + 2) a.peers) p
    && notices_fine (sucs (p + 2) a.ticks) (sucs (p + 2) a.peers) (pres (p + 2) a.peers) (p + 1) a.times marks p))))
