-- What wait's code answers, from its tests and calls: refused by 3, 10 or 4 in this order, or done.
use Rattle.std.specs.Prelude.{ℕ, ◌+◌, ◌≡◌, Bool, true, false, Ok, Err}
use Rattle.std.proofs.Math.Path.{refl, sym, ap}
use Rattle.std.proofs.Common.{ap₂, ◌∙◌, subst, arith, lt-ltb, le-leb}
use mathlib.Core.List.{List}
use Rattle.ring_laws.specs.Lists.{test}
use Rattle.ring_laws.specs.Table.{Sound, Made}
use Rattle.model.specs.declared.Counts.{Counts}
use Rattle.model.specs.declared.Refusal.TheVariants.{Operand, NoNotice, Full}
use Rattle.model.specs.Counts.{total, is_head, is_link, linkage_at}
use Rattle.model.specs.Answers.{Answered}
use Rattle.model.specs.declared.answer.Answer.TheVariants.{Done}
use Rattle.model_laws.specs.Now.{AxisSound, half, first_of}
use Rattle.simset_laws.specs.Calls.{or_none}
use Rattle.simset_laws.specs.Procedures.{preceded}
use Rattle.simset_laws.specs.Full.{full_for, known_room, raised}
use Rattle.simset_laws.specs.KnownRoom.{Roomy}
use Rattle.simset_laws.proofs.KnownRoom.{has_room, room_raised, raised_covers}
use Rattle.simset_laws.specs.Promise.{party_fine}
use Rattle.simset_laws.specs.BoundLaws.{Covers, Linking}
use Rattle.simset_laws.proofs.BoundLaws.{covers_preceded}
use Rattle.simulation_laws.specs.Procedures.{Sqs, made, lone, drop_on}
use Rattle.simulation_laws.specs.Calls.{Waited, wait_step}
use Rattle.simulation_laws.specs.Promise.{sqs, Left, Place, Lone, Judged}
use Rattle.simulation_laws.specs.StepPromise.{WaitMade}

-- a wait as wanted, after which the bounds hold
pub record WaitEntered (c : Counts) (links₀ : List ℕ) (want : Waited) (links axis times bounds : List ℕ) (r : Answered) : Type 0 where
  pub waited : WaitMade c want links axis times r
  pub covers : Linking c links₀ → Covers c 0 links bounds

-- by the number of processes that the code has read
module _ (c : Counts) (axis : List ℕ) (n : ℕ) (e : n ≡ c.processes) where
  pub place_at : (f : ℕ) → Place (n + 2) (first_of (n + 2) axis) f → Place (half c) (first_of (half c) axis) f
  place_at f p = rw e at p

  pub lone_at : (b : Bool) → Lone (n + 2) axis b → Lone (half c) axis b
  lone_at b l = rw e at l

  pub left_at : (f : ℕ) (times a t : List ℕ) → Left (n + 2) (drop_on (n + 2) f (sqs axis times)) a t
      → Left (half c) (drop_on (half c) f (sqs axis times)) a t
  left_at f times a t l = rw e at l

-- current is a link
pub current_link : (c : Counts) (axis : List ℕ) → Judged c axis → (f x : ℕ) → Place (half c) (first_of (half c) axis) f → x ≡ c.heads + f
    → is_link c x ≡ true
current_link c axis j f x p e =
    rw (lt-ltb c.heads x (omega (arith, j.first_some, p.is)))
    (le-leb x (total c) (omega (arith, j.first_in_lem, p.is)))

-- what the tables are then; x is current, and full says whether the set has room for it
module _ (c : Counts) (y : ℕ) (links axis times : List ℕ) (sound : Sound (total c + 1) links) where
  pub made_3 : AxisSound (half c) axis → or_none (is_head c y) y ≡ false
      → WaitMade c (wait_step c y links (sqs axis times)) links axis times (Err Operand)
  unfolding wait_step
  made_3 s e = record { is = rw e; links_sound = sound; sound = s }

  module _ (e : or_none (is_head c y) y ≡ true) (j : Judged c axis) (full : Bool)
      (ef : full_for c (linkage_at c (first_of (half c) axis)) y links ≡ full) where
    pub made_10 : full ≡ true → WaitMade c (wait_step c y links (sqs axis times)) links axis times (Err Full)
    unfolding wait_step
    made_10 q = record { is = rw (e, ef ∙ q); links_sound = sound; sound = j.sound }

    module _ (room : full ≡ false) (b : Bool) (l : Lone (half c) axis b) where
      pub made_4 : b ≡ true → WaitMade c (wait_step c y links (sqs axis times)) links axis times (Err NoNotice)
      unfolding wait_step
      made_4 q = record { is = rw (e, ef ∙ room, sym l.is ∙ q); links_sound = sound; sound = j.sound }

      pub made_0 : (f x : ℕ) (k a t : List ℕ) → b ≡ false → Place (half c) (first_of (half c) axis) f → x ≡ c.heads + f
          → Made (total c + 1) (preceded (total c + 1) x y links) k → Left (half c) (drop_on (half c) f (sqs axis times)) a t
          → WaitMade c (wait_step c y links (sqs axis times)) k a t (Ok Done)
      unfolding wait_step
      made_0 f x k a t q p ex mk lf =
          record {
            is =
                rw (e, ef ∙ room, sym l.is ∙ q, ← p.is)
                (ap₂ (λ (i : List ℕ) (o : Sqs). record { links = i; outcome = made o })
                (mk.is ∙ ap (λ (i : ℕ). preceded (total c + 1) i y links) ex) lf.is);
            links_sound = mk.sound;
            sound = lf.sound;
          }

-- where the set's room is known, refused or done
module _ (c : Counts) (y : ℕ) (links axis times bounds : List ℕ) (v : Covers c 0 links bounds) (known : known_room c y bounds ≡ true)
    (j : Judged c axis) where
  -- z is the operand that stands for y
  pub wait_covers : (now : List ℕ) → now ≡ raised c y bounds → (z : ℕ) → y ≡ z → (k a t : List ℕ) (r : Answered)
      → WaitMade c (wait_step c z links (sqs axis times)) k a t r → Linking c links → Covers c 0 k now
  unfolding wait_step
  wait_covers now is z same k a t r m w =
      rw is
      (subst (λ (l : List ℕ). Covers c 0 l (raised c y bounds))
      (sym (ap (λ (o : Waited). o.links) (m.is ∙ ap (λ (j : ℕ). wait_step c j links (sqs axis times)) (sym same))))
      (rw (party_fine c.heads y room.head, room.room)
      (test (lone (half c) (sqs axis times))
      (λ l. rw l (raised_covers c y links bounds v known))
      (λ l. rw l (covers_preceded c (c.heads + first_of (half c) axis) y links (raised c y bounds) here
      (omega (arith, room.head)) (room_raised c y links bounds v known) _ refl w)))))
    where
      room : Roomy c links (linkage_at c (first_of (half c) axis)) y
      room = has_room c y links bounds v known (linkage_at c (first_of (half c) axis))

      here : is_link c (c.heads + first_of (half c) axis) ≡ true
      here =
          current_link c axis j (first_of (half c) axis) (c.heads + first_of (half c) axis)
          (record { is = refl; within = omega (arith, j.first_in_lem) }) refl

-- of the head that an operand stands for
pub waited_as : (c : Counts) (links : List ℕ) (a : Sqs) (k axis times bounds : List ℕ) (r : Answered) (y y' : ℕ) → y ≡ y'
    → WaitEntered c links (wait_step c y links a) k axis times bounds r → WaitEntered c links (wait_step c y' links a) k axis times bounds r
waited_as c links a k axis times bounds r y y' e w = rw e at w

pub made_as : (c : Counts) (links : List ℕ) (a : Sqs) (k axis times : List ℕ) (r : Answered) (y y' : ℕ) → y ≡ y'
    → WaitMade c (wait_step c y links a) k axis times r → WaitMade c (wait_step c y' links a) k axis times r
made_as c links a k axis times r y y' e w = rw e at w
