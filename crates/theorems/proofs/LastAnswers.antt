-- The last answers as worked out, whether they went out or not: they carry each member's E and A, and where the last answer of an ID was not lost, it is the
-- one that was told.
use Prim.Native.Nat.{ℕ}
use mathlib.Core.Path.{◌≡◌, refl, sym, ◌∙◌}
use mathlib.Core.Bool.{Bool, true, false, true≢false}
use mathlib.Core.List.{List, [], ◌∷◌}
use Rattle.rules.specs.Basics.{same}
use Rattle.rules.specs.Group.{fresh}
use Rattle.rules.specs.Event.{Event, Request, heartbeat, install, sweep, topic}
use Rattle.rules.specs.Ledger.{Observation}
use Rattle.rules.specs.Course.{Call, Course, History, Told, begun, last_after, observe, of_sender, seen_of, stepped}
use Rattle.rules.specs.Readings.{Item, ItemTyped, ItemsTyped, NoneLost, Passage, happens, lost_after, next_passage, observe_told, observe_unsent, passage_after, reads, started}
use Rattle.rules.specs.declared.Assignment.{Assignment}
use Rattle.rules.specs.declared.Answer.{Answer}
use Rattle.rules.specs.declared.Answer.TheVariants.{Assigned, Left, Swept, Done, Refused}
use Rattle.theorems.proofs.Cases.{by_cases}
use Rattle.theorems.proofs.Reaching.{items_keep}
use Rattle.theorems.proofs.Answered.{answered}
use Rattle.theorems.proofs.SingleHolder.{member_id}
use Rattle.theorems.proofs.Members.{base_last}
use Rattle.theorems.proofs.Reachable.{RInv, fresh_rinv, retimed_rinv, turn_rinv}

-- ---- what is known of senders, by ID

-- in every table the entry of this ID is as before, or in every table it is the new one
abbrev Stays : Observation → List ℕ → Type 1
Stays o id = (A : Type 0) (f : List ℕ → A) (x : Request → Assignment → A) → of_sender f o x id ≡ f id

abbrev Renewed : Observation → List ℕ → Request → Assignment → Type 1
Renewed o id b a = (A : Type 0) (f : List ℕ → A) (x : Request → Assignment → A) → of_sender f o x id ≡ x b a

module _ (id list stored : List ℕ) where
  abbrev seen : Event → Answer → Observation
  seen e a = record { event = e; answer = a; list = list; stored = stored }

  by_event : {B : Type 0} (e : Event) (a : Answer) → (Stays (seen e a) id → B) → ((b : Request) (x : Assignment) → Renewed (seen e a) id b x → B) → B
  by_event (heartbeat b) (Assigned x) stays new = by_cases (same b.id id) (λ e. new b x (λ A f n. rw e refl)) (λ e. stays (λ A f n. rw e refl))
  by_event (heartbeat b) Left stays new = stays (λ A f n. refl)
  by_event (heartbeat b) (Swept n) stays new = stays (λ A f n. refl)
  by_event (heartbeat b) Done stays new = stays (λ A f n. refl)
  by_event (heartbeat b) (Refused r) stays new = stays (λ A f n. refl)
  by_event (sweep tick) a stays new = stays (λ A f n. refl)
  by_event (topic t i n) a stays new = stays (λ A f n. refl)
  by_event (install rule e entries) a stays new = stays (λ A f n. refl)

by_sender : {B : Type 0} (o : Observation) (id : List ℕ) → (Stays o id → B) → ((b : Request) (a : Assignment) → Renewed o id b a → B) → B
by_sender o id = by_event id o.list o.stored o.event o.answer

-- ---- answers lost and told

told_last : (told : Bool) (h : History) (last : List ℕ → Told) (lost : List ℕ → Bool) (o : Observation) (id : List ℕ)
    → (lost id ≡ false → h.last id ≡ last id) → lost_after lost o told id ≡ false → (observe_told told h o).last id ≡ last_after last o id
unfolding lost_after last_after observe_told observe observe_unsent
told_last true h last lost o id agree =
    by_sender o id
    (λ stays e. stays Told h.last _ ∙ agree (sym (stays Bool lost _) ∙ e) ∙ sym (stays Told last _))
    (λ b a new e. new Told h.last _ ∙ sym (new Told last _))
told_last false h last lost o id agree =
    by_sender o id
    (λ stays e. agree (sym (stays Bool lost _) ∙ e) ∙ sym (stays Told last _))
    (λ b a new e. absurd (true≢false (sym (new Bool lost _) ∙ e)))

pub record Known (c : Passage) : Type 0 where
  pub last : List ℕ → Told
  pub rinv : RInv last c.course.history c.course.group
  pub told : (id : List ℕ) → c.lost id ≡ false → c.course.history.last id ≡ last id

next_known : (c : Passage) (i : Item) → ItemTyped i → Known c → Known (next_passage c i)
unfolding next_passage
next_known c (happens t told) ok k =
    let h = c.course.history in
    let g = c.course.group in
    let o = seen_of t.event (stepped g t) in
    record {
      last = last_after k.last o;
      rinv = turn_rinv told k.last h g t ok k.rinv;
      told = λ id. told_last told h k.last c.lost o id (k.told id);
    }
next_known c (reads t) ok k = record { last = k.last; rinv = retimed_rinv t k.last c.course.history c.course.group k.rinv; told = k.told }

pub known_after : (tick : ℕ) (is : List Item) → ItemsTyped is → Known (passage_after (started (fresh tick)) is)
unfolding passage_after started begun
known_after tick is ok = items_keep next_passage Known next_known is (started (fresh tick)) ok (record { last = _; rinv = fresh_rinv tick; told = λ id e. refl })

-- what holds where every member was told its last answer
abbrev pub RInvC : Course → Type 0
RInvC c = RInv c.history.last c.history c.group

pub all_told : (c : Passage) → NoneLost c → Known c → RInvC c.course
all_told c none_lost k =
    let v = k.rinv in
    let ms = c.course.group.members in
    record {
      inv = v.inv;
      base = base_last v.base c.course.history.last (λ p m e. k.told m.id (none_lost p m.id (v.inv.names p ∙ member_id ms p m e)));
      in_force = v.in_force;
    }

-- of calls no answer is lost
pub none_lost : (ts : List Call) (c : Passage) → ((id : List ℕ) → c.lost id ≡ false) → (id : List ℕ) → (passage_after c (answered ts)).lost id ≡ false
unfolding passage_after next_passage lost_after
none_lost [] c h = h
none_lost (t ∷ ts) c h =
    none_lost ts (next_passage c (happens t true))
    (λ id. by_sender (seen_of t.event (stepped c.course.group t)) id (λ stays. stays Bool c.lost _ ∙ h id) (λ b a new. new Bool c.lost _))
