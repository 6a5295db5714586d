-- One call on tables that spell a machine is the machine's call: for every accepted sheet, every such run and every trace buffer.
use Rattle.std.specs.Prelude.{ℕ, ◌+◌, ◌*◌, ◌≡◌, refl, List, [], ◌∷◌, ◌++◌, length, drop}
use Rattle.std.proofs.Common.{◌∙◌, arith, length-append}
use Rattle.std.proofs.Math.Path.{ap}
use Rattle.sheet.specs.Sheet.{counts_of, records_of}
use Rattle.trace.specs.Lines.{put}
use Rattle.trace.specs.Put.{length_line}
use Rattle.machine.specs.Steps.{Line}
use Rattle.machine.specs.Run.{call, line_size, trace_limit}
use Rattle.machine.specs.Run as machine
use Rattle.run_laws.specs.Run.{RanOn}
use Rattle.run_laws.specs.Standing.{Stands}
use Rattle.run_laws.specs.Refine.{bytes_of}
use Rattle.run_laws.specs.TurnsFollow.{lines_bytes}

-- a call, lent the buffer b, that the plain machine makes as r
pub record Agrees (bytes b : List ℕ) (r : machine.Ran) (o : RanOn) : Type 0 where
  -- "its line count being its accepted steps"
  pub lines : o.result.lines ≡ length r.lines
  pub end : o.result.end ≡ r.end
  -- its lines' bytes; "trace bytes after its lines are as they were lent"
  pub trace : o.trace ≡ lines_bytes r.lines ++ drop (line_size * length r.lines) b
  -- "The tables are the well-formed ones that spell the machine's sets, notices and marks; positions, accumulators .. are the machine's"
  pub tables : Stands (counts_of bytes) (records_of bytes) r.machine o.run

pub lines_length : (ls : List Line) → length (lines_bytes ls) ≡ line_size * length ls
lines_length [] = refl
lines_length (l ∷ ls) = length-append (bytes_of l) (lines_bytes ls)
    ∙ omega (arith, length_line l.time l.process l.rec, lines_length ls)

pub put_first_lem : (b xs : List ℕ) (n : ℕ) → length xs ≡ n → put b 0 xs ≡ xs ++ drop n b
unfolding put
put_first_lem b xs n e = let q : 0 + length xs ≡ n = omega arith in ap (λ (k : ℕ). xs ++ drop k b) q
