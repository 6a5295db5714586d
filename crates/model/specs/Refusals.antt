-- The papers' number of each refusal.
use Rattle.std.specs.Prelude.{ℕ}
use Rattle.model.specs.declared.Refusal.{Refusal}
use Rattle.model.specs.declared.Refusal.TheVariants.{Size, Malformed, Operand, NoNotice, TimeLimit, Idle, Accumulator, Layout, Full}

abbrev pub refusal_number : Refusal → ℕ
refusal_number Size = 1
refusal_number Malformed = 2
refusal_number Operand = 3
refusal_number NoNotice = 4
refusal_number TimeLimit = 5
refusal_number Idle = 6
refusal_number Accumulator = 7
refusal_number Layout = 8
refusal_number Full = 10
