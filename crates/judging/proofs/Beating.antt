-- The heartbeat of a seat's member: whether its numbers fit, and what the request is then.
use Rattle.std.specs.Prelude as P
use Rattle.std.specs.Result.{OkIff, result_ok}
use Rattle.std.proofs.Common.{ℕ, ◌≤◌, ◌<◌, ◌≡◌, refl, sym, ap, ◌∙◌, subst, Bool, true, false, not, ◌&&◌, List, [], eqb, leb, ltb, ℤ, pos, negsuc, length, get_or, lt_of_not-le, if◌then◌else◌, ne_eqb, eqb-true, le-leb, le-ltb, lt-ltb, arith, eq-eqb, w32, SFits}
use Rattle.std.proofs.Math.Bool.{and-false}
use Rattle.std.proofs.Math.Option.{Option, none, some}
use borrow.Author.Tests.{lt-leb}
use Rattle.rules.specs.Basics.{default}
use Rattle.rules.specs.Constants.{id_length, last_epoch, subscription_count}
use Rattle.rules.specs.Group as G
use Rattle.rules.specs.Group.{Member, member_at, nobody}
use Rattle.rules.specs.Records.{MemberMetadata}
use Rattle.rules.specs.Event as E
use Rattle.rules.specs.Event.{heartbeat}
use Rattle.rules.specs.Batches.{beating, is_signed, is_typed, joining}
use Rattle.theorems.proofs.Cases.{by_cases}
use Rattle.tables.specs.Advances.{owned_of}
use Rattle.group.specs.declared.Seat.{Seat}
use Rattle.group.specs.Columns.{view_members}
use Rattle.group.specs.View.{seated}
use Rattle.events.specs.declared.Request as Code
use Rattle.events.specs.Outcomes.{given_subscription, request_of}
use Rattle.judging.specs.Asks.{Asks, Gives, beating_as, timeout_given}

-- ---- numbers that fit

-- what is left of a cast is the number, if it fits
module _ {A E : Type 0} where
  pub cast_some : (r : P.Result A E) (Q : Type 0) {v x : A} → OkIff r Q v → P.Some x ≡ result_ok r → Q × (x ≡ v)
  cast_some (P.Ok y) Q h e = (h.0, same e ∙ h.1)
    where
      same : {x y : A} → P.Some x ≡ P.Some y → x ≡ y
      same f = cc
  cast_some (P.Err y) Q h e = absurd cc

  pub cast_none : (r : P.Result A E) (Q : Type 0) (v : A) → OkIff r Q v → P.None ≡ result_ok r → Q → ⊥
  cast_none (P.Ok y) Q v h e q = cc
  cast_none (P.Err y) Q v h e q = h q

pub is_signed_lem : (n : ℕ) → SFits w32 (pos n) → is_signed (pos n) ≡ true
unfolding is_signed
is_signed_lem n f = le-leb n last_epoch (omega (arith, f))

pub is_wide : (n : ℕ) → (n < subscription_count → ⊥) → subscription_count ≤ n
is_wide n f = omega (arith, lt_of_not-le (λ (h : n ≤ 65535). f (omega (arith, h))))

pub is_large : (n : ℕ) → (SFits w32 (pos n) → ⊥) → last_epoch < n
is_large n f = lt_of_not-le (λ h. f (omega (arith, h)))

pub not_signed : (n : ℕ) → (SFits w32 (pos n) → ⊥) → is_signed (pos n) ≡ false
unfolding is_signed
not_signed n f = lt-leb n last_epoch (is_large n f)

-- a subscription that is new, or the member's own
new_subscription_lem : (s had : ℕ) → had < subscription_count → ltb (default 0 (if eqb s had then none else some s)) subscription_count ≡ ltb s subscription_count
new_subscription_lem s had h =
    by_cases (eqb s had)
    (λ e. rw e (sym (lt-ltb s subscription_count (omega (arith, h, eqb-true s had e)))))
    (λ e. rw e refl)

-- a timeout that is new, or the member's own
pub own_timeout : (a had : ℕ) → a ≡ had → negsuc 0 ≡ timeout_given a had
unfolding timeout_given
own_timeout a had e = rw (eq-eqb a had e)

other_timeout_lem : (a had : ℕ) → (a ≡ had → ⊥) → pos a ≡ timeout_given a had
unfolding timeout_given
other_timeout_lem a had n = rw (ne_eqb a had n)

pub gives_own : (a had : ℕ) → a ≡ had → Gives (timeout_given a had) (P.Some (negsuc 0))
unfolding is_signed
gives_own a had e = let own = own_timeout a had e in (ap is_signed (sym own), own)

pub gives_cast : {E : Type 0} (a had : ℕ) → (a ≡ had → ⊥) → (r : P.Result ℤ E) → OkIff r (SFits w32 (pos a)) (pos a) → Gives (timeout_given a had) (result_ok r)
gives_cast a had n (P.Ok x) h = let other = other_timeout_lem a had n in (ap is_signed (sym other) ∙ is_signed_lem a h.0, h.1 ∙ other)
gives_cast a had n (P.Err e) h = ap is_signed (sym (other_timeout_lem a had n)) ∙ not_signed a h

module _ (t : ℕ) (timeout subscription : ℕ) (moves : Bool) where
  abbrev beat : Member → E.Event
  beat m = heartbeat (beating_as t m timeout subscription moves)

  nobody_beats : is_typed (beat nobody) ≡ false
  unfolding is_typed beating_as nobody
  nobody_beats = refl

  module _ (s : Seat) (n : length s.id ≡ id_length) (h : s.subscription < subscription_count) where
    abbrev fit : Bool → Bool → Bool → Bool
    fit subscribed entered timed = subscribed && (entered && timed)

    typed_as : is_typed (beat (seated s)) ≡ fit (ltb subscription subscription_count) (is_signed (pos s.epoch)) (is_signed (timeout_given timeout s.timeout))
    unfolding is_typed beating_as
    typed_as =
        rw (eq-eqb (length s.id) id_length n)
        (λ i. fit (new_subscription_lem subscription s.subscription h i) (is_signed (pos s.epoch)) (is_signed (timeout_given timeout s.timeout)))

    pub no_epoch : is_signed (pos s.epoch) ≡ false → is_typed (beat (seated s)) ≡ false
    no_epoch e = typed_as ∙ (λ i. fit (ltb subscription subscription_count) (e i) (is_signed (timeout_given timeout s.timeout))) ∙ and-false _

    pub no_timeout : is_signed (timeout_given timeout s.timeout) ≡ false → is_typed (beat (seated s)) ≡ false
    no_timeout e =
        typed_as ∙ (λ i. fit (ltb subscription subscription_count) (is_signed (pos s.epoch)) (e i))
        ∙ ap (λ (x : Bool). ltb subscription subscription_count && x) (and-false _)
        ∙ and-false _

    pub no_subscription : subscription_count ≤ subscription → is_typed (beat (seated s)) ≡ false
    no_subscription e = typed_as ∙ (λ i. fit (le-ltb subscription subscription_count e i) (is_signed (pos s.epoch)) (is_signed (timeout_given timeout s.timeout)))

    pub all_fit : subscription < subscription_count → is_signed (pos s.epoch) ≡ true → is_signed (timeout_given timeout s.timeout) ≡ true → is_typed (beat (seated s)) ≡ true
    all_fit a b c = typed_as ∙ (λ i. fit (lt-ltb subscription subscription_count a i) (b i) (c i))

    -- what the request has
    pub beats : (epoch given : ℤ) (own : ℕ) → epoch ≡ pos s.epoch → given ≡ timeout_given timeout s.timeout → own ≡ subscription
        → request_of (record { id = s.id; epoch = epoch; tick = t; timeout = given; has_subscription = not (eqb own s.subscription); subscription = own; has_list = moves }) []
        ≡ beating_as t (seated s) timeout subscription moves
    unfolding request_of beating_as
    beats epoch given own e τ a =
        let sub : given_subscription (not (eqb own s.subscription)) own ≡ (if eqb subscription s.subscription then none else some subscription) =
        (λ i. given_subscription (not (eqb (a i) s.subscription)) (a i)) ∙ turned (eqb subscription s.subscription) in
        λ i. record { id = s.id; epoch = e i; tick = t; timeout = τ i; subscription = sub i; owned = owned_of moves [] }
      where
        turned : (z : Bool) → given_subscription (not z) subscription ≡ (if z then none else some subscription)
        turned true = refl
        turned false = refl

-- ---- the member at a place

beating_is : (t : ℕ) (g : G.Group) (p timeout subscription : ℕ) (moves : Bool)
    → beating_as t (member_at g p) timeout subscription moves ≡ beating t g p timeout subscription moves
unfolding beating beating_as timeout_given
beating_is t g p timeout subscription moves = refl

module _ (a : P.Option Code.Request) (t : ℕ) (g : G.Group) (members : List ℕ) (is : g.members ≡ view_members members) (p : ℕ) where
  module _ (s : Seat) (at : some (seated s) ≡ get_or (view_members members) p none) where
    seat_member : seated s ≡ member_at g p
    unfolding member_at
    seat_member = ap (default nobody) (at ∙ ap (λ (l : List (Option Member)). get_or l p none) (sym is))

    -- the heartbeat of the seat at a place is that of the place
    pub beats_at : (timeout subscription : ℕ) (moves : Bool) → Asks a (some (beating_as t (seated s) timeout subscription moves))
        → Asks a (some (beating t g p timeout subscription moves))
    beats_at timeout subscription moves h =
        subst (λ (b : E.Request). Asks a (some b))
        (ap (λ (m : Member). beating_as t m timeout subscription moves) seat_member ∙ beating_is t g p timeout subscription moves) h

    -- and so if it gives what the member has
    pub moves_at : Asks a (some (beating_as t (seated s) s.timeout s.subscription true))
        → Asks a (some (beating t g p (member_at g p).timeout (member_at g p).subscription true))
    moves_at h = subst (λ (m : Member). Asks a (some (beating t g p m.timeout m.subscription true))) seat_member (beats_at s.timeout s.subscription true h)

  -- where nobody is, no heartbeat fits
  pub nobody_at : none ≡ get_or (view_members members) p none → (timeout subscription : ℕ) (moves : Bool) → is_typed (heartbeat (beating t g p timeout subscription moves)) ≡ false
  unfolding member_at
  nobody_at at timeout subscription moves =
      let e : nobody ≡ member_at g p = ap (default nobody) (at ∙ ap (λ (l : List (Option Member)). get_or l p none) (sym is)) in
      subst (λ (b : E.Request). is_typed (heartbeat b) ≡ false)
      (ap (λ (m : Member). beating_as t m timeout subscription moves) e ∙ beating_is t g p timeout subscription moves) (nobody_beats t timeout subscription moves)

-- ---- a join

joining_typed : (t : ℕ) (m : MemberMetadata) → length m.id ≡ id_length
    → is_typed (heartbeat (joining t m)) ≡ (ltb m.subscription subscription_count && leb m.timeout last_epoch)
unfolding is_typed joining is_signed
joining_typed t m n = rw (eq-eqb (length m.id) id_length n) refl

module _ (t : ℕ) (m : MemberMetadata) (n : length m.id ≡ id_length) where
  pub join_fits : m.timeout ≤ last_epoch → m.subscription < subscription_count → is_typed (heartbeat (joining t m)) ≡ true
  join_fits a b = joining_typed t m n ∙ (λ i. lt-ltb m.subscription subscription_count b i && le-leb m.timeout last_epoch a i)

  pub large_timeout : last_epoch < m.timeout → is_typed (heartbeat (joining t m)) ≡ false
  large_timeout h =
      joining_typed t m n ∙ ap (λ (x : Bool). ltb m.subscription subscription_count && x) (lt-leb m.timeout last_epoch h)
      ∙ and-false (ltb m.subscription subscription_count)

  pub large_subscription : subscription_count ≤ m.subscription → is_typed (heartbeat (joining t m)) ≡ false
  large_subscription h = joining_typed t m n ∙ ap (λ (x : Bool). x && leb m.timeout last_epoch) (le-ltb m.subscription subscription_count h)

pub joins_as : (t : ℕ) (m : MemberMetadata) (epoch timeout : ℤ) (own : ℕ) → epoch ≡ pos 0 → timeout ≡ pos m.timeout → own ≡ m.subscription
    → request_of (record {
      id =
          m.id;
      epoch = epoch;
      tick = t;
      timeout = timeout;
      has_subscription = true;
      subscription = own;
      has_list = true;
    }) [] ≡ joining t m
unfolding request_of joining
joins_as t m epoch timeout own e τ s = λ i. record { id = m.id; epoch = e i; tick = t; timeout = τ i; subscription = some (s i); owned = some [] }
