-- The three rounds: each brings every member one stage further: A within M; then P empty too; then A equal to M and E equal to the install's epoch. A stage
-- reached is kept by the heartbeats of all members and by readings.
use Prim.Native.Nat.{ℕ}
use mathlib.Core.Path.{◌≡◌, refl, sym, ap, ◌∙◌, subst}
use mathlib.Core.Logic.{◌≢◌, inl, inr}
use mathlib.Core.Bool.{true, false, false≢true}
use mathlib.Core.List.{List, [], ◌∷◌, ◌++◌, append-nil, foldl-append, map-append}
use mathlib.Core.Option.{Option, some}
use lib.ListN.{length, get_or}
use lib.Dec.{eqb}
use borrow.Author.Tests.{eq-eqb, ne_eqb}
use Rattle.rules.specs.Basics.{indices}
use Rattle.rules.specs.Constants.{no_place}
use Rattle.rules.specs.Group.{Group, Member, SlotState, assigned, free_slot, fresh, member_at, place_of, revoking, set_a, set_p}
use Rattle.rules.specs.Event.{Request}
use Rattle.rules.specs.Course.{Call, Course, Installed, next, observe}
use Rattle.rules.specs.Rounds.{AllRegular, From, Round, Sends, Settled, ThreeRounds}
use Rattle.rules.specs.Batches.{retimed}
use Rattle.rules.specs.Readings.{AllRegularOver, Item, ItemTyped, ItemsTyped, Passage, RegularItem, RoundOver, SendsOver, ThreeRoundsOver, happens, next_passage, observe_told, passage_after, reads, started}
use Rattle.theorems.proofs.Cases.{eq_cases, none_not}
use Rattle.theorems.proofs.Picks.{indices_ext, indices_none}
use Rattle.theorems.proofs.Retimed.{member_at_retimed}
use Rattle.theorems.proofs.Answered.{answered, course_answered, typed_answered}
use Rattle.theorems.proofs.Slots.{is_assigned, not_assigned, not_revoking}
use Rattle.theorems.proofs.Moves.{holder_in, target_in, waiting_in}
use Rattle.theorems.proofs.SingleHolder.{id_in, ids_retimed, member_placed}
use Rattle.theorems.proofs.Members.{Occupied}
use Rattle.theorems.proofs.InForce.{AsInstalled, InForce, in_force_same}
use Rattle.theorems.proofs.Reachable.{member_known, retimed_rinv, turn_rinv}
use Rattle.theorems.proofs.LastAnswers.{RInvC, all_told, known_after, none_lost}
use Rattle.theorems.proofs.Stages.{Clean, Filled, Within}
use Rattle.theorems.proofs.Beats.{Beat, beat_ids, beat_in_force, beaten, get_clean, get_epoch, get_full, get_within, here, keep_clean, keep_epoch, keep_full, keep_within, on_beat}

-- ---- the sets of a place whose A is its M

done_sets : (q : ℕ) (ss : List SlotState) (ms : List (Option Member)) (entries : List ℕ) → length ss ≡ length entries → q ≢ no_place
    → Occupied ms q → Clean q ss → Filled q ss
    → ((s : ℕ) → AsInstalled ms (target_in ss s) (get_or entries s no_place))
    → (set_a q ss ≡ indices (λ e. eqb e q) 0 entries) × (set_p q ss ≡ [])
unfolding set_a set_p holder_in waiting_in target_in
done_sets q ss ms entries long away o clean full at = (
  indices_ext (assigned q) (λ e. eqb e q) free_slot no_place ss entries 0 long (λ k _. test k (at k)),
  indices_none (revoking q) free_slot ss 0 (λ k _. not_revoking q (get_or ss k free_slot) (λ e. (clean k e).0)),
)
  where
    test : (k : ℕ) → AsInstalled ms (target_in ss k) (get_or entries k no_place) → assigned q (get_or ss k free_slot) ≡ eqb (get_or entries k no_place) q
    test k (inl e) = eq_cases (get_or entries k no_place) q
        (λ f. let x = full k (e ∙ f) in is_assigned q (get_or ss k free_slot) x (clean k x).0 ∙ sym (eq-eqb (get_or entries k no_place) q f))
        (λ f. not_assigned q (get_or ss k free_slot) (λ x. f (sym e ∙ (clean k x).1)) ∙ sym (ne_eqb (get_or entries k no_place) q f))
    test k (inr e) = eq_cases (get_or entries k no_place) q
        (λ f. absurd (none_not (ap (id_in ms) (sym f) ∙ e.1) o.1))
        (λ f. not_assigned q (get_or ss k free_slot) (λ x. away (sym (clean k x).1 ∙ e.0)) ∙ sym (ne_eqb (get_or entries k no_place) q f))

-- ---- along the rounds

-- N names the places, and the target in force is that of the install i
record Underway (N : ℕ → Option (List ℕ)) (i : Installed) (c : Course) : Type 0 where
  rinv : RInvC c
  in_force : InForce c.group.epoch c.group.target_epoch c.group.members c.group.slots i
  names : (q : ℕ) → c.history.ledger.name q ≡ N q

module _ (N : ℕ → Option (List ℕ)) (i : Installed) where
  ids : (c : Course) → Underway N i c → (q : ℕ) → id_in c.group.members q ≡ N q
  ids c t q = sym (t.rinv.inv.names q) ∙ t.names q

  away : (c : Course) → Underway N i c → (q : ℕ) (id : List ℕ) → N q ≡ some id → q ≢ no_place
  away c t q id e = member_placed c.group.members q id t.rinv.inv.sized (ids c t q ∙ e)

  -- what a regular heartbeat's effect has and a reading leaves, the group after a regular item has
  on_item : (c : Passage) (x : Item) → Underway N i c.course → RegularItem c x → (S : Group → Type 0)
      → ((b : Request) → Beat c.course b → S (beaten c.course b)) → ((t : ℕ) → S (retimed t c.course.group)) → S (next_passage c x).course.group
  unfolding next_passage next
  on_item c (happens t told) v r S beat read = on_beat c.course t v.rinv r.1 (λ _. S) beat
  on_item c (reads t) v r S beat read = read t

  item_rinv : (c : Passage) (x : Item) → RInvC c.course → ItemTyped x → RegularItem c x → RInvC (next_passage c x).course
  unfolding next_passage observe_told observe
  item_rinv c (happens t true) v ok r = let k = c.course in turn_rinv true k.history.last k.history k.group t ok v
  item_rinv c (happens t false) v ok r = absurd (false≢true r.0)
  item_rinv c (reads t) v ok r = let k = c.course in retimed_rinv t k.history.last k.history k.group v

  next_round : (c : Passage) (x : Item) → Underway N i c.course → ItemTyped x → RegularItem c x → Underway N i (next_passage c x).course
  unfolding retimed
  next_round c x v ok r =
      let k = c.course in
      let w = item_rinv c x v.rinv ok r in
      record {
        rinv = w;
        in_force = on_item c x v r (λ g. InForce g.epoch g.target_epoch g.members g.slots i) (λ b beat. beat_in_force k b beat i v.in_force)
            (λ t. in_force_same (ids_retimed t k.group.members) (λ s. refl) v.in_force);
        names = λ q.
            w.inv.names q
            ∙ on_item c x v r (λ g. id_in g.members q ≡ id_in k.group.members q) (λ b beat. beat_ids k b beat q) (λ t. ids_retimed t k.group.members q)
            ∙ ids k v q;
      }

  -- underway, and the items to come are typed and regular
  record Ahead (xs : List Item) (c : Passage) : Type 0 where
    underway : Underway N i c.course
    typed : ItemsTyped xs
    regular : AllRegularOver c xs

  ahead_next : (x : Item) (xs : List Item) (c : Passage) → Ahead (x ∷ xs) c → Ahead xs (next_passage c x)
  ahead_next x xs c w = record { underway = next_round c x w.underway w.typed.0 w.regular.0; typed = w.typed.1; regular = w.regular.1 }

  ahead_after : (xs ys : List Item) (c : Passage) → Ahead (xs ++ ys) c → Ahead ys (passage_after c xs)
  unfolding passage_after
  ahead_after [] ys c w = w
  ahead_after (x ∷ xs) ys c w = ahead_after xs ys (next_passage c x) (ahead_next x (xs ++ ys) c w)

  -- a stage Q of an ID is reached where P holds on the way: P and Q are kept, no tick matters to them, and the ID's own heartbeat brings Q
  record Stage (P Q : Group → Type 0) (id : List ℕ) : Type 0 where
    keep_p : (c : Course) (b : Request) → Underway N i c → Beat c b → P c.group → P (beaten c b)
    read_p : (t : ℕ) (g : Group) → P g → P (retimed t g)
    keep_q : (c : Course) (b : Request) → Underway N i c → Beat c b → P c.group → Q c.group → Q (beaten c b)
    read_q : (t : ℕ) (g : Group) → Q g → Q (retimed t g)
    get_q : (c : Course) (b : Request) → Underway N i c → Beat c b → b.id ≡ id → P c.group → Q (beaten c b)

  module _ (P Q : Group → Type 0) (id : List ℕ) (z : Stage P Q id) where
    next_p : (x : Item) (xs : List Item) (c : Passage) → Ahead (x ∷ xs) c → P c.course.group → P (next_passage c x).course.group
    next_p x xs c w p =
        let k = c.course in
        on_item c x w.underway w.regular.0 P (λ b beat. z.keep_p k b w.underway beat p) (λ t. z.read_p t k.group p)

    next_q : (x : Item) (xs : List Item) (c : Passage) → Ahead (x ∷ xs) c → P c.course.group → Q c.course.group → Q (next_passage c x).course.group
    next_q x xs c w p q =
        let k = c.course in
        on_item c x w.underway w.regular.0 Q (λ b beat. z.keep_q k b w.underway beat p q) (λ t. z.read_q t k.group q)

    keep_all : (xs ys : List Item) (c : Passage) → Ahead (xs ++ ys) c → P c.course.group → Q c.course.group → Q (passage_after c xs).course.group
    unfolding passage_after
    keep_all [] ys c w p q = q
    keep_all (x ∷ xs) ys c w p q = keep_all xs ys (next_passage c x) (ahead_next x (xs ++ ys) c w) (next_p x (xs ++ ys) c w p) (next_q x (xs ++ ys) c w p q)

    reach : (xs ys : List Item) (c : Passage) → Ahead (xs ++ ys) c → P c.course.group → SendsOver id xs → Q (passage_after c xs).course.group
    unfolding passage_after next_passage next
    reach [] ys c w p s = absurd s
    reach (happens t told ∷ xs) ys c w p (inl f) =
        let x = happens t told in
        let k = c.course in
        keep_all xs ys (next_passage c x) (ahead_next x (xs ++ ys) c w) (next_p x (xs ++ ys) c w p)
        (on_beat k t w.underway.rinv w.regular.0.1 (λ e g. From id e → Q g) (λ b beat from. z.get_q k b w.underway beat from p) f)
    reach (happens t told ∷ xs) ys c w p (inr s) =
        let x = happens t told in
        reach xs ys (next_passage c x) (ahead_next x (xs ++ ys) c w) (next_p x (xs ++ ys) c w p) s
    reach (reads t ∷ xs) ys c w p s = reach xs ys (next_passage c (reads t)) (ahead_next (reads t) (xs ++ ys) c w) (next_p (reads t) (xs ++ ys) c w p) s

  -- ---- the three stages of the ID at place q

  record Arrived (q : ℕ) (g : Group) : Type 0 where
    clean : Clean q g.slots
    full : Filled q g.slots
    epoch : (member_at g q).epoch ≡ g.target_epoch

  AllClean : Group → Type 0
  AllClean g = (q : ℕ) (id : List ℕ) → N q ≡ some id → Clean q g.slots

  all_clean : (g : Group) → ((k : ℕ) (j : List ℕ) → N k ≡ some j → Clean k g.slots) → AllClean g
  unfolding AllClean
  all_clean g h = h

  module _ (q : ℕ) (id : List ℕ) (named : N q ≡ some id) where
    -- the sender of a heartbeat with this ID stands at q
    at_q : (c : Course) (b : Request) (t : Underway N i c) → Beat c b → b.id ≡ id → place_of c.group b.id ≡ q
    at_q c b t r e = t.rinv.inv.distinct (place_of c.group b.id) q id (here c b r ∙ ap some e) (ids c t q ∙ named)

    first_stage : Stage (λ _. Unit {0}) (λ g. Within q g.slots) id
    unfolding retimed
    first_stage = record {
      keep_p = λ c b t r x. tt;
      read_p = λ t g x. tt;
      read_q = λ t g x. x;
      keep_q = λ c b t r x y. keep_within c b r q (away c t q id named) y;
      get_q = λ c b t r e x. subst (λ (k : ℕ). Within k (beaten c b).slots) (at_q c b t r e) (get_within c b r);
    }

    second_stage : Stage (λ g. Within q g.slots) (λ g. Clean q g.slots) id
    unfolding retimed
    second_stage = record {
      read_p = λ t g x. x;
      read_q = λ t g x. x;
      keep_p = λ c b t r x. keep_within c b r q (away c t q id named) x;
      keep_q = λ c b t r x y. keep_clean c b r q (away c t q id named) y;
      get_q = λ c b t r e x.
          let k = at_q c b t r e in
          subst (λ (k : ℕ). Clean k (beaten c b).slots) k
          (get_clean c b r (subst (λ (k : ℕ). Within k c.group.slots) (sym k) x));
    }

    clean_of : (c : Course) → Underway N i c → AllClean c.group → (k : ℕ) → Occupied c.group.members k → Clean k c.group.slots
    unfolding AllClean
    clean_of c t x k o = x k o.0 (sym (ids c t k) ∙ o.1)

    -- the sender has arrived
    sender_arrives : (c : Course) (b : Request) (t : Underway N i c) → Beat c b → AllClean c.group → Arrived (place_of c.group b.id) (beaten c b)
    sender_arrives c b t r x =
        let g = c.group in
        let all = clean_of c t x in
        let w : Within (place_of g b.id) g.slots = λ s e f. (all (place_of g b.id) (b.id, here c b r) s e).1 in
        record {
          clean = get_clean c b r w;
          full = get_full c b r all;
          epoch = get_epoch c b r w (t.in_force.target ∙ sym t.in_force.epoch);
        }

    third_stage : Stage AllClean (Arrived q) id
    unfolding AllClean retimed
    third_stage = record {
      read_p = λ t g x. x;
      read_q = λ t g y. record { clean = y.clean; full = y.full; epoch = (member_at_retimed t g q).epoch ∙ y.epoch };
      keep_p = λ c b t r x k j e. keep_clean c b r k (away c t k j e) (x k j e);
      keep_q = λ c b t r x y. eq_cases q (place_of c.group b.id)
          (λ e. subst (λ (k : ℕ). Arrived k (beaten c b)) (sym e) (sender_arrives c b t r x))
          (λ e. record {
            clean = keep_clean c b r q (away c t q id named) y.clean;
            full = keep_full c b r (clean_of c t x) q (away c t q id named) y.full;
            epoch = keep_epoch c b r q e y.epoch;
          });
      get_q = λ c b t r e x. subst (λ (k : ℕ). Arrived k (beaten c b)) (at_q c b t r e) (sender_arrives c b t r x);
    }

    -- ---- what a place that has arrived comes to

    settled : (c : Course) → Underway N i c → Arrived q c.group → Settled c i q id
    settled c t d =
        let g = c.group in
        let m = member_known g q id (ids c t q ∙ named) in
        let k = t.rinv.base.ok q (member_at g q) m.0 in
        let e : (member_at g q).epoch ≡ i.epoch = d.epoch ∙ t.in_force.target in
        let a =
        done_sets q g.slots g.members i.entries (t.rinv.base.wide ∙ sym t.in_force.long) (away c t q id named) (id, ids c t q ∙ named)
        d.clean d.full t.in_force.at in
        record {
          member = member_at g q;
          here = m.0;
          named = m.1;
          epoch = e;
          assigned = a.0;
          revoking = a.1;
          answer = ap c.history.last (sym m.1) ∙ k.told ∙ (λ j. record { epoch = e j; slots = a.0 j });
        }

-- ---- the whole

pub typed_split : (a b : List Item) → ItemsTyped (a ++ b) → ItemsTyped a × ItemsTyped b
typed_split [] b h = (tt, h)
typed_split (x ∷ xs) b h = let r = typed_split xs b h.1 in ((h.0, r.0), r.1)

passage_append : (a b : List Item) (c : Passage) → passage_after c (a ++ b) ≡ passage_after (passage_after c a) b
unfolding passage_after
passage_append a b c = foldl-append next_passage c a b

rounds : (c : Passage) (i : Installed) (first second third : List Item) → Ahead c.course.history.ledger.name i (first ++ (second ++ third)) c
    → RoundOver c.course.history first → RoundOver c.course.history second → RoundOver c.course.history third
    → (q : ℕ) (id : List ℕ) → c.course.history.ledger.name q ≡ some id
    → Settled (passage_after c (first ++ (second ++ third))).course i q id
rounds c i first second third w r₁ r₂ r₃ q id named =
    let N = c.course.history.ledger.name in
    let c₁ = passage_after c first in
    let w₁ = ahead_after N i first (second ++ third) c w in
    let c₂ = passage_after c₁ second in
    let w₂ = subst (λ (xs : List Item). Ahead N i xs c₂) (sym (append-nil third)) (ahead_after N i second third c₁ w₁) in
    let w₃ = ahead_after N i third [] c₂ w₂ in
    let within : (k : ℕ) (j : List ℕ) → N k ≡ some j → Within k c₁.course.group.slots =
    λ k j e. reach N i (λ _. Unit {0}) (λ x. Within k x.slots) j (first_stage N i k j e) first (second ++ third) c w tt (r₁ k j e) in
    let clean : (k : ℕ) (j : List ℕ) → N k ≡ some j → Clean k c₂.course.group.slots =
    λ k j e. reach N i (λ x. Within k x.slots) (λ x. Clean k x.slots) j (second_stage N i k j e) second third c₁ w₁ (within k j e) (r₂ k j e) in
    let arrived =
    reach N i (AllClean N i) (Arrived N i q) id (third_stage N i q id named) third [] c₂ w₂ (all_clean N i c₂.course.group clean) (r₃ q id named) in
    rw (passage_append first (second ++ third) c, passage_append second third c₁)
    (settled N i q id named (passage_after c₂ third).course w₃.underway arrived)

pub three_rounds_over : (tick : ℕ) → ThreeRoundsOver (fresh tick)
unfolding ThreeRoundsOver
three_rounds_over tick before ok unlost i current first second third ok' r r₁ r₂ r₃ q id named =
    let c = passage_after (started (fresh tick)) before in
    let v = all_told c unlost (known_after tick before ok) in
    rw (passage_append before (first ++ (second ++ third)) (started (fresh tick)))
    (rounds c i first second third
    (record { underway = record { rinv = v; in_force = v.in_force i current; names = λ q. refl }; typed = ok'; regular = r }) r₁ r₂ r₃ q id named)

-- ---- where the items are calls

regular_answered : (ts : List Call) (c : Passage) → AllRegular c.course ts → AllRegularOver c (answered ts)
unfolding next_passage next observe_told
regular_answered [] c r = tt
regular_answered (t ∷ ts) c r = ((refl, r.0), regular_answered ts (next_passage c (happens t true)) r.1)

sends_answered : (ts : List Call) (id : List ℕ) → Sends id ts → SendsOver id (answered ts)
sends_answered [] id s = s
sends_answered (t ∷ ts) id (inl f) = inl f
sends_answered (t ∷ ts) id (inr s) = inr (sends_answered ts id s)

answered_append : (a b : List Call) → answered (a ++ b) ≡ answered a ++ answered b
answered_append a b = map-append (λ t. happens t true) a b

answered_three : (a b c : List Call) → answered (a ++ (b ++ c)) ≡ answered a ++ (answered b ++ answered c)
answered_three a b c = answered_append a (b ++ c) ∙ ap (λ (xs : List Item). answered a ++ xs) (answered_append b c)

-- what a list of calls before and three rounds of calls are given
record Given (c : Course) (i : Installed) (first second third : List Call) (q : ℕ) (id : List ℕ) : Type 0 where
  current : c.history.in_force ≡ some i
  regular : AllRegular c (first ++ (second ++ third))
  round₁ : Round c.history first
  round₂ : Round c.history second
  round₃ : Round c.history third
  named : c.history.ledger.name q ≡ some id

over_calls : (g : Group) → ThreeRoundsOver g → ThreeRounds g
unfolding ThreeRoundsOver ThreeRounds started
over_calls g over before ok i current first second third ok' r r₁ r₂ r₃ q id named =
    let start = started g in
    let c = passage_after start (answered before) in
    let ts = first ++ (second ++ third) in
    let all = answered_three first second third in
    let k : Given c.course i first second third q id =
    subst (λ (k : Course). Given k i first second third q id) (sym (course_answered before start))
    (record { current = current; regular = r; round₁ = r₁; round₂ = r₂; round₃ = r₃; named = named }) in
    let end =
    over (answered before) (typed_answered before ok) (λ p j _. none_lost before start (λ _. refl) j) i k.current
    (answered first) (answered second) (answered third)
    (subst ItemsTyped all (typed_answered ts ok')) (subst (AllRegularOver c) all (regular_answered ts c k.regular))
    (λ p j e. sends_answered first j (k.round₁ p j e))
    (λ p j e. sends_answered second j (k.round₂ p j e))
    (λ p j e. sends_answered third j (k.round₃ p j e)) q id k.named in
    let whole : answered (before ++ ts) ≡ answered before ++ (answered first ++ (answered second ++ answered third)) =
    answered_append before ts ∙ ap (λ (xs : List Item). answered before ++ xs) all in
    subst (λ (e : Course). Settled e i q id)
    (ap (λ (xs : List Item). (passage_after start xs).course) (sym whole) ∙ course_answered (before ++ ts) start) end

pub three_rounds : (tick : ℕ) → ThreeRounds (fresh tick)
three_rounds tick = over_calls (fresh tick) (three_rounds_over tick)
