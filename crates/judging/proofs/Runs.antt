-- What a function of the coordinator ensures is what running its event is promised to be, kind by kind.
use Rattle.std.specs.Prelude as P
use Rattle.std.proofs.Common.{ℕ, ◌≤◌, ◌<◌, arith, ◌≡◌, refl, sym, ap, ◌∙◌, subst, Bool, true, false, List, [], leb, ℤ, pos, length, eq-eqb, le-leb}
use Rattle.std.proofs.Math.Option.{Option, none, some}
use borrow.Author.Tests.{lt-leb}
use Rattle.rules.specs.Constants.{batch_limit, id_length, last_epoch, max_members, slot_count}
use Rattle.rules.specs.Group as G
use Rattle.rules.specs.Group.{assigned, set_a}
use Rattle.rules.specs.Event.{Event, Request, heartbeat, install, sweep, topic, without_rule}
use Rattle.rules.specs.Refusals.{Kind, invalid, joins, kind_of, leaves, ordinary, sender_of}
use Rattle.rules.specs.Effects.{effect, heartbeat_effect, install_effect, join_at, join_effect, leave_at, leave_effect, ordinary_at, slots_after, sweep_effect, sweep_of, topic_effect}
use Rattle.rules.specs.Step.{step}
use Rattle.rules.specs.Batches.{Witness, is_signed, is_typed, judged, removing, retimed, session_before, silent, tried}
use Rattle.theorems.proofs.Moves.{moves_advanced}
use Rattle.theorems.proofs.Sizes.{indices_size}
use Rattle.recovery.proofs.KeepsTicks.{AtTick, keeps_ticks, removing_keeps}
use Rattle.tables.specs.View.{slots_in}
use Rattle.tables.proofs.Viewing.{view_length}
use Rattle.group.specs.Columns.{view_members}
use Rattle.group.specs.declared.Group.{Group}
use Rattle.group.specs.View.{topics_in, view}
use Rattle.group.proofs.Columns.{members_long}
use Rattle.events.specs.declared.Outcome.{Outcome}
use Rattle.events.specs.declared.Request as Code
use Rattle.events.specs.Outcomes.{Becomes, all_but_target, members_and_tables, request_of, topics_of}
use Rattle.batches.specs.declared.Gathered.{Gathered}
use Rattle.batches.specs.Gathered.{Says}
use Rattle.judging.specs.Asks.{Asks, AsksFor, beat_in}
use Rattle.judging.specs.Choices.{if_asked}
use Rattle.judging.specs.Reads.{Ran, good_as, wrote}
use Rattle.judging.proofs.Candidates.{beat_tick}
use Rattle.judging.proofs.Stepping.{judges, untyped}

-- ---- an event on the group as it is

ran : {Kept : Type 0} (kept : Group → Kept) (t : ℕ) (e : Event) → AtTick t e → is_typed e ≡ true → (g g' : Group) (buf buf' list list' : List ℕ) → length buf ≡ batch_limit
    → length (effect (view g) e).told ≤ length list → (o : Outcome) → Becomes kept o g g' buf' list' (λ h. step h e buf list)
    → retimed t (view g) ≡ view g → Ran (P.Some o) buf' (view g') t (some (tried (view g) e))
unfolding tried wrote
ran kept t e at typed g g' buf buf' list list' size told o b still batch fair =
    judges t (view g) e (keeps_ticks t (view g) still e at) typed buf list batch fair.stored (omega (arith, size, fair.short)) told o (view g') buf' list' b.2

-- another name of the same candidate
pub ran_as : (n : P.Option Outcome) (buf : List ℕ) (h : G.Group) (t : ℕ) (w w' : Option Witness) → w ≡ w' → Ran n buf h t w → Ran n buf h t w'
ran_as n buf h t w w' e run batch fair = run batch fair ∙ ap (judged t batch) e

-- nothing was run, and no batch is of the candidate
none_ran : (buf : List ℕ) (h : G.Group) (t : ℕ) (w : Option Witness) → ((batch : List ℕ) → none ≡ judged t batch w) → Ran P.None buf h t w
unfolding wrote good_as
none_ran buf h t w e batch fair = e batch

-- ---- the slots told: none but to a member

topic_tells : (g : G.Group) (t : ℕ) (id : List ℕ) (n : ℕ) → length (effect g (topic t id n)).told ≤ 0
unfolding effect topic_effect
topic_tells g t id n = omega arith

install_tells : (g : G.Group) (e : ℤ) (entries : List ℕ) → length (effect g (install without_rule e entries)).told ≤ 0
unfolding effect install_effect
install_tells g e entries = omega arith

sweep_tells : (g : G.Group) (t : ℕ) → length (effect g (sweep t)).told ≤ 0
unfolding effect sweep_effect sweep_of
sweep_tells g t = omega arith

told_of : (g : G.Group) (b : Request) (k : Kind) → length (heartbeat_effect g b k).told ≤ length g.slots
unfolding heartbeat_effect join_effect join_at leave_effect leave_at ordinary_at set_a slots_after
told_of g b joins = omega arith
told_of g b leaves = omega arith
told_of g b invalid = omega arith
told_of g b (ordinary e) =
    let p = (sender_of g b).place in
    omega (arith, indices_size (assigned p) 0 (slots_after g (sender_of g b) b), (moves_advanced p g.slots b.owned).long)

heartbeat_tells : (g : Group) (b : Request) → length g.tables.target ≡ slot_count → length g.tables.holder ≡ slot_count → length g.tables.waiting ≡ slot_count
    → length (effect (view g) (heartbeat b)).told ≤ slot_count
unfolding effect view
heartbeat_tells g b x y z =
    let n = view_length g.tables.target g.tables.holder g.tables.waiting (y ∙ sym x) (z ∙ sym x) in
    omega (arith, told_of (view g) b (kind_of b.epoch), n, x)

-- ---- topics and installs

pub topic_ran : (t n : ℕ) (id : List ℕ) (k : ℕ) → length id ≡ id_length → (g g' : Group) (buf buf' : List ℕ) → length buf ≡ batch_limit
    → (o : Outcome) → ((l : List ℕ) → Becomes members_and_tables o g g' buf' l (λ h. step h (topic n id k) buf l))
    → retimed t (view g) ≡ view g → Ran (P.Some o) buf' (view g') t (some (tried (view g) (topic n id k)))
unfolding is_typed
topic_ran t n id k long g g' buf buf' size o b =
    ran members_and_tables t (topic n id k) tt (eq-eqb (length id) id_length long) g g' buf buf' [] [] size (topic_tells (view g) n id k) o (b [])

install_typed : (n : ℕ) (entries : List ℕ) → is_typed (install without_rule (pos n) entries) ≡ leb n last_epoch
unfolding is_typed is_signed
install_typed n entries = refl

pub install_ran : (t n : ℕ) (z : ℤ) (entries : List ℕ) → n ≤ last_epoch → z ≡ pos n → (g g' : Group) (buf buf' : List ℕ)
    → length buf ≡ batch_limit → (o : Outcome) → ((l : List ℕ) → Becomes all_but_target o g g' buf' l (λ h. step h (install without_rule z entries) buf l))
    → retimed t (view g) ≡ view g → Ran (P.Some o) buf' (view g') t (some (tried (view g) (install without_rule (pos n) entries)))
install_ran t n z entries low is g g' buf buf' size o b =
    ran all_but_target t (install without_rule (pos n) entries) tt (install_typed n entries ∙ le-leb n last_epoch low) g g' buf buf' [] [] size
    (install_tells (view g) (pos n) entries) o
    (subst (λ (x : ℤ). Becomes all_but_target o g g' buf' [] (λ h. step h (install without_rule x entries) buf [])) is (b []))

-- an epoch that does not fit was never stored
pub large_install : (buf : List ℕ) (h : G.Group) (t : ℕ) (g : G.Group) (n : ℕ) (entries : List ℕ) → last_epoch < n
    → Ran P.None buf h t (some (tried g (install without_rule (pos n) entries)))
unfolding tried
large_install buf h t g n entries e =
    none_ran buf h t (some (tried g (install without_rule (pos n) entries)))
    (λ batch. untyped t g (install without_rule (pos n) entries) batch (install_typed n entries ∙ lt-leb n last_epoch e))

-- ---- heartbeats

-- one whose numbers do not fit was never accepted
not_asked : (t : ℕ) (g : G.Group) (batch : List ℕ) (o : Option Request) → Asks P.None o → none ≡ judged t batch (if_asked g o)
unfolding if_asked judged tried
not_asked t g batch none is = refl
not_asked t g batch (some b) is = untyped t g (heartbeat b) batch is

-- any other is run
was_asked : (n : P.Option Outcome) (buf : List ℕ) (g h : G.Group) (t : ℕ) (r : Code.Request) (o : Option Request) → Asks (P.Some r) o
    → ((b : Request) → o ≡ some b → b.tick ≡ t)
    → ((b : Request) → request_of r [] ≡ b → is_typed (heartbeat b) ≡ true → b.tick ≡ t → Ran n buf h t (some (tried g (heartbeat b))))
    → Ran n buf h t (if_asked g o)
unfolding if_asked
was_asked n buf g h t r none is at run = absurd is
was_asked n buf g h t r (some b) is at run = run b is.1 is.0 (at b refl)

module _ (said : Gathered) (t : ℕ) (g g' : Group) {bytes : List ℕ} {table : List Bool} {entries entries' : List ℕ} (s : Says bytes said table entries entries') where
  asked : (a : P.Option Code.Request) → AsksFor a g.members.cells said t → Asks a (beat_in t (view g) s.records)
  unfolding view
  asked a asks = asks bytes table entries entries' s (view g) refl

  pub no_heartbeat : (buf : List ℕ) → AsksFor P.None g.members.cells said t → Ran P.None buf (view g') t (if_asked (view g) (beat_in t (view g) s.records))
  no_heartbeat buf asks =
      none_ran buf (view g') t (if_asked (view g) (beat_in t (view g) s.records)) (λ batch. not_asked t (view g) batch (beat_in t (view g) s.records) (asked P.None asks))

  pub heartbeat_ran : (r : Code.Request) → AsksFor (P.Some r) g.members.cells said t → length g.tables.target ≡ slot_count → length g.tables.holder ≡ slot_count
      → length g.tables.waiting ≡ slot_count → (buf buf' list list' : List ℕ) → length buf ≡ batch_limit → length list ≡ slot_count
      → (o : Outcome) → Becomes topics_of o g g' buf' list' (λ h. step h (heartbeat (request_of r [])) buf list)
      → retimed t (view g) ≡ view g → Ran (P.Some o) buf' (view g') t (if_asked (view g) (beat_in t (view g) s.records))
  heartbeat_ran r asks x y z buf buf' list list' size wide o becomes still =
      was_asked (P.Some o) buf' (view g) (view g') t r (beat_in t (view g) s.records) (asked (P.Some r) asks) (beat_tick t (view g) s.records)
      (λ b is typed at. ran topics_of t (heartbeat b) at typed g g' buf buf' list list' size (omega (arith, wide, heartbeat_tells g b x y z)) o
      (subst (λ (q : Request). Becomes topics_of o g g' buf' list' (λ h. step h (heartbeat q) buf list)) is becomes) still)

-- ---- a sweep, after the places that are gone were made silent

made_silent : (t : ℕ) (ps : List ℕ) (g : Group) (ms : List ℕ) → view_members ms ≡ silent (session_before t) ps 0 (view_members g.members.cells)
    → view (record { head = g.head; members = record { cells = ms }; topics = g.topics; tables = g.tables }) ≡ (removing t (view g) ps).group
unfolding view removing
made_silent t ps g ms e = λ i. record {
  epoch = g.head.epoch;
  target_epoch = g.head.target_epoch;
  tick = g.head.tick;
  topics = topics_in g.topics;
  members = e i;
  slots = slots_in g.tables;
}

few : (g : Group) → length (view g).members ≤ max_members
unfolding view
few g = omega (arith, members_long g.members.cells)

as_removing : (t : ℕ) (g : G.Group) (ps batch : List ℕ)
    → judged t batch (some (record { group = (removing t g ps).group; event = sweep t })) ≡ judged t batch (some (removing t g ps))
unfolding removing
as_removing t g ps batch = refl

pub sweep_ran : (t : ℕ) (g g' : Group) (ms buf buf' : List ℕ) → length buf ≡ batch_limit
    → (o : Outcome) → Becomes topics_of o (record { head = g.head; members = record { cells = ms }; topics = g.topics; tables = g.tables }) g' buf' [] (λ h. step h (sweep t) buf [])
    → (ps : List ℕ) → view_members ms ≡ silent (session_before t) ps 0 (view_members g.members.cells)
    → retimed t (view g) ≡ view g → Ran (P.Some o) buf' (view g') t (some (removing t (view g) ps))
unfolding is_typed wrote
sweep_ran t g g' ms buf buf' size o b ps silent still batch fair =
    let h : G.Group = (removing t (view g) ps).group in
    judges t h (sweep t) (λ _. removing_keeps t (view g) still (few g) ps) refl buf [] batch fair.stored (omega (arith, size, fair.short))
    (sweep_tells h t) o (view g') buf' [] (b.2 ∙ ap (λ (x : G.Group). step x (sweep t) buf []) (made_silent t ps g ms silent))
    ∙ as_removing t (view g) ps batch
