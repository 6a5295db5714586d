-- What the readers answer, from their tests.
use Rattle.std.specs.Prelude.{ℕ, ◌≡◌, ◌≢◌, Bool, true, ◌&&◌, List}
use Rattle.std.proofs.Math.Path.{refl, ap}
use Rattle.std.proofs.Common.{◌∙◌}
use Rattle.std.proofs.Math.Bool.{false}
use borrow.Author.Tests.{eq-eqb, ne_eqb}
use Rattle.sheet.specs.declared.records.Record.{Record}
use Rattle.sheet.specs.Sheet.{record_offset, record_from, record_with}
use Rattle.run_laws.specs.Run.{end_record, record_got}

pub and_false : (a : Bool) → (a && false) ≡ false
and_false true = refl
and_false false = refl

-- ---- the record

module _ (P : ℕ) (bytes : List ℕ) (r : ℕ) where
  pub got_end : r ≡ 0 → end_record ≡ record_got P bytes r
  unfolding record_got
  got_end e = rw (eq-eqb r 0 e)

  pub got_record : r ≢ 0 → record_with P bytes r ≡ record_got P bytes r
  unfolding record_got
  got_record n = rw (ne_eqb r 0 n)

  pub got_next : r ≢ 0 → (i n : ℕ) → i ≡ record_offset P r → n ≡ (record_from bytes i).next → n ≡ (record_got P bytes r).next
  got_next z i n ei en =
      en ∙ ap (λ (j : ℕ). (record_from bytes j).next) ei ∙ ap (λ (q : Record). q.next) (got_record z)
