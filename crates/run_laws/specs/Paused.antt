-- What a stretch of turns promises.
use Rattle.std.specs.Prelude.{ℕ, ◌+◌, ◌*◌, ◌/◌, ◌≤◌, ◌<◌, ◌≡◌, Bool, true, false, ◌||◌, List, length}
use Rattle.model.specs.declared.Counts.{Counts}
use Rattle.machine.specs.declared.End.TheVariants.{Refused as Ended}
use Rattle.machine.specs.Run.{line_size}
use Rattle.run_laws.specs.declared.Pause.{Pause}
use Rattle.run_laws.specs.declared.Pause.TheVariants.{Full, Apart, Refused as Stopped}
use Rattle.run_laws.specs.declared.Stretch.{Stretch}
use Rattle.run_laws.specs.Run.{RunTables, record_got, record_at_now, RanOn, stopped_on, turns_on}
use Rattle.run_laws.specs.Tried.{apart}
use Rattle.run_laws.specs.Standing.{Standing}

-- what is left after it: the turns from here, or nothing after a refusal
abbrev pub left_by : Counts → List ℕ → Pause → ℕ → ℕ → RunTables → List ℕ → RanOn
left_by c bytes Full n k u tr = turns_on c bytes n k u tr
left_by c bytes Apart n k u tr = turns_on c bytes n k u tr
left_by c bytes (Stopped r) n k u tr = stopped_on n (Ended r) u tr

abbrev pub is_full : Pause → Bool
is_full Full = true
is_full Apart = false
is_full (Stopped r) = false

abbrev pub is_due : Pause → Bool
is_due Full = false
is_due Apart = true
is_due (Stopped r) = false

-- with room for so many lines in all, it comes to what was to be done, and ends only for want of room, at a call that is made apart, or at
-- a refusal; the next line's place is behind whole lines
pub record Paused (c : Counts) (bytes : List ℕ) (room n₀ : ℕ) (whole : RanOn) (tr : List ℕ) (u' : RunTables) (tr' : List ℕ)
    (s : Stretch) : Type 0 where
  pub stands : (is_full s.pause || is_due s.pause) ≡ true → Standing c bytes u'
  pub size : length tr' ≡ length tr
  pub more : n₀ ≤ s.at / line_size
  pub few : s.at / line_size ≤ room
  pub place : s.at ≡ line_size * (s.at / line_size)
  pub left : (k : ℕ) → s.at / line_size + k ≡ room → left_by c bytes s.pause (s.at / line_size) k u' tr' ≡ whole
  pub full : is_full s.pause ≡ true → room ≤ s.at / line_size
  pub due : is_due s.pause ≡ true → (s.at / line_size < room) × (apart (record_got c.processes bytes (record_at_now c u')) ≡ true)
