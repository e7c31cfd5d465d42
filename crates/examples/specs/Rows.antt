-- What the cases are written with: members, slots, groups and events; and rows, which say of an event all that a step must hand back. The numbers of
-- 01 are written out here and in the cases, so that a wrong number in the rules shows.
use Rattle.std.specs.Prelude.{ℕ, zero, suc, ◌-◌, ◌≡◌, true, false, List, [], ◌∷◌, ◌++◌, map, ℤ, pos, negsuc, drop, length, replicate}
use Rattle.std.proofs.Math.Option.{Option, none, some}
use Rattle.rules.specs.Basics.{default}
use Rattle.rules.specs.Group.{Group, Member, SlotState, Topic}
use Rattle.rules.specs.Event.{Event, heartbeat}
use Rattle.rules.specs.Step.{Stepped}
use Rattle.rules.specs.Course.{Call}
use Rattle.rules.specs.declared.Refusal.{Refusal}
use Rattle.rules.specs.declared.Answer.{Answer}
use Rattle.rules.specs.declared.Answer.TheVariants.{Assigned, Refused}
use Rattle.examples.specs.Running.{run}

-- ---- members

-- an ID of sixteen equal bytes
abbrev pub id : ℕ → List ℕ
id byte = replicate 16 byte

abbrev pub aa : List ℕ
aa = id 0xAA

abbrev pub bb : List ℕ
bb = id 0xBB

abbrev pub cc : List ℕ
cc = id 0xCC

abbrev pub dd : List ℕ
dd = id 0xDD

-- the ID, E, the subscription, the timeout; the tick when it was last heard and the tick when P was last set
abbrev pub member : List ℕ → ℕ → ℕ → ℕ → ℕ → ℕ → Option Member
member id epoch subscription timeout heard set =
    some (record { id = id; epoch = epoch; subscription = subscription; timeout = timeout; heard = heard; revoked_at = set })

-- one that subscribes to topic 0, with a timeout of 300
abbrev pub worker : List ℕ → ℕ → ℕ → ℕ → Option Member
worker id epoch heard set = member id epoch 1 300 heard set

-- n of them, heard at tick 1000, with E = 1; the ID of the first is k, that of the next k + 1
abbrev pub workers : ℕ → ℕ → List (Option Member)
workers k zero = []
workers k (suc n) = worker (id k) 1 1000 1000 ∷ workers (suc k) n

-- ---- slots

-- 'a place or 255 for none'
abbrev pub no_place : ℕ
no_place = 255

-- a slot in A of a place, in P of a place, held by nobody; each with its target
abbrev pub in_a : ℕ → ℕ → SlotState
in_a holder target = record { target = target; holder = holder; waiting = false }

abbrev pub in_p : ℕ → ℕ → SlotState
in_p holder target = record { target = target; holder = holder; waiting = true }

abbrev pub unheld : ℕ → SlotState
unheld target = record { target = target; holder = no_place; waiting = false }

-- ---- groups

abbrev pub topic_of : ℕ → ℕ → Option Topic
topic_of byte count = some (record { id = id byte; count = count })

-- the topics from number 0 on; G, T and the last tick; the members from place 0 on; the slots from 0 on; no other topics, no other members, and
-- every other slot is free
abbrev pub group_with : List (Option Topic) → ℕ → ℕ → ℕ → List (Option Member) → List SlotState → Group
group_with topics epoch target tick members slots = record {
  epoch = epoch;
  target_epoch = target;
  tick = tick;
  topics = topics ++ replicate (16 - length topics) none;
  members = members ++ replicate (32 - length members) none;
  slots = slots ++ replicate (1024 - length slots) (unheld no_place);
}

-- with topic 0 alone, which has three partitions
abbrev pub group : ℕ → ℕ → ℕ → List (Option Member) → List SlotState → Group
group epoch target tick members slots = group_with (topic_of 0x11 3 ∷ []) epoch target tick members slots

-- AA* at place 0 with E = 1, last heard at the group's last tick, that holds slots 0, 1 and 2, its target; T = 1
abbrev pub one_member : ℕ → ℕ → Group
one_member epoch tick = group epoch 1 tick (worker aa 1 tick tick ∷ []) (in_a 0 0 ∷ in_a 0 0 ∷ in_a 0 0 ∷ [])

-- ---- events

-- a heartbeat: ID, epoch, tick, timeout, subscription, list
abbrev pub sent : List ℕ → ℤ → ℕ → ℤ → Option ℕ → Option (List ℕ) → Event
sent id epoch tick timeout subscription owned =
    heartbeat (record { id = id; epoch = epoch; tick = tick; timeout = timeout; subscription = subscription; owned = owned })

abbrev pub joining : List ℕ → ℕ → Event
joining id tick = sent id (pos 0) tick (pos 300) (some 1) (some [])

abbrev pub ordinary : List ℕ → ℕ → ℕ → Option (List ℕ) → Event
ordinary id epoch tick owned = sent id (pos epoch) tick (negsuc 0) none owned

abbrev pub leaving : List ℕ → ℕ → Event
leaving id tick = sent id (negsuc 0) tick (negsuc 0) none none

-- the slots from 0 on to these places, all others to none
abbrev pub entries : List ℕ → List ℕ
entries places = places ++ replicate (1024 - length places) no_place

-- ---- rows

-- an event and the lengths of what is lent to it; the answer, the slots told, the bytes stored and the group after it (`none`: as before)
pub record Row : Type 0 where
  pub event : Event
  pub buffer : ℕ
  pub list : ℕ
  pub answer : Answer
  pub told : List ℕ
  pub bytes : List ℕ
  pub group : Option Group

-- an accepted join or ordinary heartbeat: 'answer 1; 0 1 2'
abbrev pub assigns : Event → ℕ → List ℕ → List ℕ → Group → Row
assigns event epoch slots bytes group = record {
  event = event;
  buffer = 64;
  list = 8;
  answer = Assigned (record { epoch = epoch; interval = 5000; count = length slots });
  told = slots;
  bytes = bytes;
  group = some group;
}

-- another event that is accepted
abbrev pub answers : Event → Answer → List ℕ → Group → Row
answers event answer bytes group = record { event = event; buffer = 64; list = 8; answer = answer; told = []; bytes = bytes; group = some group }

abbrev pub refuses : Event → Refusal → Row
refuses event why = record { event = event; buffer = 64; list = 8; answer = Refused why; told = []; bytes = []; group = none }

-- with so many bytes and entries lent
abbrev pub in_room : ℕ → ℕ → Row → Row
in_room buffer list row =
    record { event = row.event; buffer = buffer; list = list; answer = row.answer; told = row.told; bytes = row.bytes; group = row.group }

-- what is lent: the numbers from n on, so that what is not written shows, and where it stood
abbrev pub numbers_from : ℕ → ℕ → List ℕ
numbers_from n zero = []
numbers_from n (suc k) = n ∷ numbers_from (suc n) k

abbrev pub call : Row → Call
call r = record { event = r.event; buffer = numbers_from 100 r.buffer; list = numbers_from 2000 r.list }

-- what is written, and after it what was lent
abbrev pub over : List ℕ → List ℕ → List ℕ
over written lent = written ++ drop (length written) lent

abbrev pub handed_back : Row → Group → Stepped
handed_back r g = record {
  answer = r.answer;
  group = g;
  written = length r.bytes;
  buffer = over r.bytes (numbers_from 100 r.buffer);
  list = over r.told (numbers_from 2000 r.list);
}

abbrev pub expected : Group → List Row → List Stepped
expected g [] = []
expected g (r ∷ rs) =
    let h = default g r.group in
    handed_back r h ∷ expected h rs

-- the events of these rows, one after the other, from this group on
abbrev pub Runs : Group → List Row → Type 0
Runs start rows = run start (map call rows) ≡ expected start rows
