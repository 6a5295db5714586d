use Rattle.std.proofs.Common.{rules, ◌≡◌, ◌∙◌, ap, ap₂, sym, refl, SFits, w64, ℕ, leb, nat_abs, pos, ◌&&◌, ◌+ℤ◌, ◌*◌}
use Rattle.std.specs.Int.Signed.{le_z}
use Rattle.accum_laws.specs.Signed.{abs_word, kept, ap2, asks2}
use Rattle.accum_update.proofs.May.{and_true, and_false, kept_sign, Tests, may_last_of, next_fits, may_not_of}
use Rattle.accum_update.proofs.update.may_update.Goals as goal
use Rattle.accum_update.proofs.update.may_update.Goals.{then-x-ge0, else-x-ge0, then-unsigned_abs-time, else-unsigned_abs-time, then-unsigned_abs, else-unsigned_abs, then-unsigned_abs-le-RATE_LIMIT, else-unsigned_abs-le-RATE_LIMIT}

tests : (c : goal.Else-unsigned_abs-2) → c.if-unsigned_abs-le-RATE_LIMIT.value ≡ Tests c.args.x c.args.time c.args.d
tests c =
    let a : SFits w64 c.args.x.a = search rules in
    let b : SFits w64 c.args.x.b = search rules in
    let r : SFits w64 c.args.x.c = search rules in
    let since : c.if-x-ge0.value ≡ le_z (pos 0) c.args.x.b && leb (nat_abs c.args.x.b) c.args.time =
    elim c.if-x-ge0.branch [
      | then-x-ge0 w ↦ and_true _ _ _ (kept_sign b w.if-x-ge0.true) (w.value-is ∙ ap (λ (n : ℕ). leb n c.args.time) (abs_word b w.unsigned_abs.ensures.value))
      | else-x-ge0 w ↦ and_false _ _ _ (kept_sign b w.if-x-ge0.false) (w.value-is ∙ ap (le_z (pos 0)) (kept b))
    ]
    in
    let sum : c.if-unsigned_abs-time.value ≡ (le_z (pos 0) c.args.x.b && leb (nat_abs c.args.x.b) c.args.time) && leb (nat_abs c.args.x.a) (1000000 * nat_abs c.args.x.b) =
    elim c.if-unsigned_abs-time.branch [
      | then-unsigned_abs-time w ↦ and_true _ _ _ (sym since ∙ w.if-unsigned_abs-time.true)
          (w.value-is ∙ ap₂ (λ (n k : ℕ). leb n (1000000 * k)) (abs_word a w.unsigned_abs-then-unsigned_abs-time.ensures.value) (abs_word b w.unsigned_abs-then-unsigned_abs-time-2.ensures.value))
      | else-unsigned_abs-time w ↦ and_false _ _ _ (sym since ∙ w.if-unsigned_abs-time.false) (w.value-is ∙ since)
    ]
    in
    let rate : c.if-unsigned_abs.value
    ≡ ((le_z (pos 0) c.args.x.b && leb (nat_abs c.args.x.b) c.args.time) && leb (nat_abs c.args.x.a) (1000000 * nat_abs c.args.x.b)) && leb (nat_abs c.args.x.c) 1000000 =
    elim c.if-unsigned_abs.branch [
      | then-unsigned_abs w ↦ and_true _ _ _ (sym sum ∙ w.if-unsigned_abs.true) (w.value-is ∙ ap (λ (n : ℕ). leb n 1000000) (abs_word r w.unsigned_abs-then-unsigned_abs.ensures.value))
      | else-unsigned_abs w ↦ and_false _ _ _ (sym sum ∙ w.if-unsigned_abs.false) (w.value-is ∙ sum)
    ]
    in
    elim c.if-unsigned_abs-le-RATE_LIMIT.branch [
      | then-unsigned_abs-le-RATE_LIMIT w ↦ and_true _ _ _ (sym rate ∙ w.if-unsigned_abs-le-RATE_LIMIT.true) (w.value-is ∙ ap (λ (n : ℕ). leb n 2000000) (abs_word c.ranges.d w.unsigned_abs-then-unsigned_abs-le-RATE_LIMIT.ensures.value))
      | else-unsigned_abs-le-RATE_LIMIT w ↦ and_false _ _ _ (sym rate ∙ w.if-unsigned_abs-le-RATE_LIMIT.false) (w.value-is ∙ rate)
    ]

told : (c : goal.After-unsigned_abs-then-unsigned_abs-2) → c.if-unsigned_abs-le-RATE_LIMIT.value ≡ Tests c.args.x c.args.time c.args.d
told c =
    let a : SFits w64 c.args.x.a = search rules in
    let b : SFits w64 c.args.x.b = search rules in
    let r : SFits w64 c.args.x.c = search rules in
    let since : c.if-x-ge0.value ≡ le_z (pos 0) c.args.x.b && leb (nat_abs c.args.x.b) c.args.time =
    elim c.if-x-ge0.branch [
      | then-x-ge0 w ↦ and_true _ _ _ (kept_sign b w.if-x-ge0.true) (w.value-is ∙ ap (λ (n : ℕ). leb n c.args.time) (abs_word b w.unsigned_abs.ensures.value))
      | else-x-ge0 w ↦ and_false _ _ _ (kept_sign b w.if-x-ge0.false) (w.value-is ∙ ap (le_z (pos 0)) (kept b))
    ]
    in
    let sum : c.if-unsigned_abs-time.value ≡ (le_z (pos 0) c.args.x.b && leb (nat_abs c.args.x.b) c.args.time) && leb (nat_abs c.args.x.a) (1000000 * nat_abs c.args.x.b) =
    elim c.if-unsigned_abs-time.branch [
      | then-unsigned_abs-time w ↦ and_true _ _ _ (sym since ∙ w.if-unsigned_abs-time.true)
          (w.value-is ∙ ap₂ (λ (n k : ℕ). leb n (1000000 * k)) (abs_word a w.unsigned_abs-then-unsigned_abs-time.ensures.value) (abs_word b w.unsigned_abs-then-unsigned_abs-time-2.ensures.value))
      | else-unsigned_abs-time w ↦ and_false _ _ _ (sym since ∙ w.if-unsigned_abs-time.false) (w.value-is ∙ since)
    ]
    in
    let rate : c.if-unsigned_abs.value
    ≡ ((le_z (pos 0) c.args.x.b && leb (nat_abs c.args.x.b) c.args.time) && leb (nat_abs c.args.x.a) (1000000 * nat_abs c.args.x.b)) && leb (nat_abs c.args.x.c) 1000000 =
    elim c.if-unsigned_abs.branch [
      | then-unsigned_abs w ↦ and_true _ _ _ (sym sum ∙ w.if-unsigned_abs.true) (w.value-is ∙ ap (λ (n : ℕ). leb n 1000000) (abs_word r w.unsigned_abs-then-unsigned_abs.ensures.value))
      | else-unsigned_abs w ↦ and_false _ _ _ (sym sum ∙ w.if-unsigned_abs.false) (w.value-is ∙ sum)
    ]
    in
    elim c.if-unsigned_abs-le-RATE_LIMIT.branch [
      | then-unsigned_abs-le-RATE_LIMIT w ↦ and_true _ _ _ (sym rate ∙ w.if-unsigned_abs-le-RATE_LIMIT.true) (w.value-is ∙ ap (λ (n : ℕ). leb n 2000000) (abs_word c.ranges.d w.unsigned_abs-then-unsigned_abs-le-RATE_LIMIT.ensures.value))
      | else-unsigned_abs-le-RATE_LIMIT w ↦ and_false _ _ _ (sym rate ∙ w.if-unsigned_abs-le-RATE_LIMIT.false) (w.value-is ∙ rate)
    ]

pub returns-then-unsigned_abs-2 : goal.returns-then-unsigned_abs-2
returns-then-unsigned_abs-2 c =
    let r : SFits w64 c.args.x.c = search rules in
    ap (λ (n : ℕ). leb n 1000000)
    (c.unsigned_abs-then-unsigned_abs-2.ensures.value
    ∙ ap nat_abs (kept (asks2 ◌+ℤ◌ r refl c.ranges.d refl (next_fits c.args.x c.args.time c.args.d (sym (told c) ∙ c.if-unsigned_abs-2.true)))
    ∙ ap2 ◌+ℤ◌ (kept r) (kept c.ranges.d)))
    ∙ may_last_of c.args.x c.args.time c.args.d (sym (told c) ∙ c.if-unsigned_abs-2.true)

pub returns-else-unsigned_abs-2 : goal.returns-else-unsigned_abs-2
returns-else-unsigned_abs-2 c = may_not_of c.args.x c.args.time c.args.d (tests c) c.if-unsigned_abs-2.false
