-- The members that the columns stand for: at a place, with a place changed, and searched by words.
use Rattle.std.specs.Prelude.{None, Some, if◌then◌else◌}
use Rattle.std.proofs.Common.{◌≡◌, ℕ, zero, suc, ◌+◌, ◌%◌, ◌<◌, ◌≤◌, Bool, true, false, not, ◌&&◌, eqb, ltb, List, [], ◌∷◌, length, get_or, set, sym, refl, ap, ◌∙◌, subst, zero-add, arith, get_or-set_other, get_or-set_same, le-ltb, lt-ltb, ne_eqb, eqb-true}
use native.Mathlib.Decide.{dec_lt}
use mathlib.Core.Option.{Option, none, some}
use lib.ListN.{get_or-eq_default}
use lib.Seq.{set_out}
use Rattle.rules.specs.Basics.{any, find, same}
use Rattle.rules.specs.Constants.{max_members, subscription_count}
use Rattle.rules.specs.Group as G
use Rattle.rules.specs.Group.{is_member, vacant}
use Rattle.rules.specs.Refusals.{zero_id}
use Rattle.rules.proofs.Lists.{and_true}
use Rattle.tables.proofs.Lists.{any_off}
use Rattle.search.specs.Places.{matches, First, FirstPlace, id_of, first_word}
use Rattle.search.proofs.Placing.{find_at, same_words}
use Rattle.group.specs.declared.Seat.{Seat}
use Rattle.group.specs.View.{view_seat, seated}
use Rattle.group.specs.Columns.{column_count, cell_count, cell_of, cell, Fits, member_of, view_place, view_members, no_numbers, numbers_at, seat_at, put_all, cells_of, put_at}
use Rattle.group.specs.Members.{heard_at}
use Rattle.group.specs.Searches.{Hit}
use Rattle.group.specs.Words.{all_zero}
use Rattle.group.proofs.Putting.{all_far, all_before, all_same, made_at, made_set, made_long}

-- ---- words of no ID

zeros : zero_id (id_of 0 0 0 0) ≡ true
unfolding zero_id id_of first_word
zeros = refl

not_zero : (a b c d : ℕ) (id : List ℕ) → id_of a b c d ≡ id → zero_id id ≡ false → all_zero a b c d ≡ false
not_zero a b c d id spelt real = go (all_zero a b c d) refl
  where
    go : (z : Bool) → all_zero a b c d ≡ z → z ≡ false
    go false e = refl
    go true e =
        let i = and_true (eqb a 0) _ e in
        let j = and_true (eqb b 0) _ i.1 in
        let k = and_true (eqb c 0) _ j.1 in
        sym zeros ∙ ap zero_id (sym (λ t. id_of (eqb-true a 0 i.0 t) (eqb-true b 0 j.0 t) (eqb-true c 0 k.0 t) (eqb-true d 0 k.1 t)) ∙ spelt) ∙ real

flipped : (a : ℕ) → eqb 0 a ≡ eqb a 0
flipped zero = refl
flipped (suc a) = ne_eqb 0 (suc a) (λ e. omega (arith, e)) ∙ sym (ne_eqb (suc a) 0 (λ e. omega (arith, e)))

turned : (a b c d : ℕ) → (eqb 0 a && (eqb 0 b && (eqb 0 c && eqb 0 d))) ≡ all_zero a b c d
turned a b c d = λ i. flipped a i && (flipped b i && (flipped c i && flipped d i))

-- ---- at a place

pub member_at_lem : (ms : List ℕ) (k : ℕ) → k < max_members → get_or (view_members ms) k none ≡ view_place ms k
unfolding view_members
member_at_lem ms k h = made_at (view_place ms) none 0 max_members k h ∙ ap (view_place ms) (zero-add k)

pub members_long : (ms : List ℕ) → length (view_members ms) ≡ max_members
unfolding view_members
members_long ms = made_long (view_place ms) 0 max_members

-- past the last place there is nobody, and nothing is set there
pub past_members : (ms : List ℕ) (k : ℕ) → max_members ≤ k → get_or (view_members ms) k none ≡ none
past_members ms k h = get_or-eq_default (view_members ms) none {n = k} (subst (λ (n : ℕ). n ≤ k) (sym (members_long ms)) h)

past_set : (ms : List ℕ) (k : ℕ) (x : Option G.Member) → max_members ≤ k → view_members ms ≡ set (view_members ms) k x
past_set ms k x h = sym (set_out (view_members ms) k x (subst (λ (n : ℕ). n ≤ k) (sym (members_long ms)) h))

seat_in : (ms : List ℕ) (k : ℕ) → ltb k max_members ≡ true → view_seat (seat_at ms k) ≡ view_place ms k
unfolding seat_at numbers_at view_place member_of matches
seat_in ms k h = rw h (go (all_zero (cell ms 0 k) (cell ms 1 k) (cell ms 2 k) (cell ms 3 k)) _)
  where
    go : (z : Bool) (s : Seat) → view_seat (if not z then Some s else None) ≡ (if z then none else some (seated s))
    go true s = refl
    go false s = refl

seat_past : (ms : List ℕ) (k : ℕ) → ltb k max_members ≡ false → view_seat (seat_at ms k) ≡ none
unfolding seat_at
seat_past ms k h = rw h

-- the seat that is gathered at a place stands for the member there
pub seat_is : (ms : List ℕ) (k : ℕ) → view_seat (seat_at ms k) ≡ get_or (view_members ms) k none
seat_is ms k = go (dec_lt k max_members)
  where
    go : Dec (k < max_members) → view_seat (seat_at ms k) ≡ get_or (view_members ms) k none
    go (yes h) = seat_in ms k (lt-ltb k max_members h) ∙ sym (member_at_lem ms k h)
    go (no h) = let q : max_members ≤ k = omega arith in seat_past ms k (le-ltb k max_members q) ∙ sym (past_members ms k q)

-- by the case of the answer
module _ (ms : List ℕ) (k : ℕ) where
  pub seat_there : {s : Seat} → seat_at ms k ≡ Some s → get_or (view_members ms) k none ≡ some (seated s)
  seat_there e = sym (seat_is ms k) ∙ ap view_seat e

  -- its numbers are those at the place
  pub seat_numbers : {s : Seat} → seat_at ms k ≡ Some s → s ≡ numbers_at ms k
  unfolding seat_at
  seat_numbers {s} e = go (ltb k max_members && not (matches ms 0 0 0 0 k)) e
    where
      go : (b : Bool) → (if b then Some (numbers_at ms k) else None) ≡ Some s → s ≡ numbers_at ms k
      go true q = cc
      go false q = cc

-- single numbers: of a column at a place, and 0 past the last place
module _ (ms : List ℕ) (k : ℕ) where
  either : (f : Seat → ℕ) (b : Bool) (s t : Seat) → (if b then f s else f t) ≡ f (if b then s else t)
  either f true s t = refl
  either f false s t = refl

  pub heard_number : (if ltb k max_members then cell ms 7 k else 0) ≡ (numbers_at ms k).heard
  unfolding numbers_at
  heard_number = either (λ s. s.heard) (ltb k max_members) _ _

  pub revoked_number : (if ltb k max_members then cell ms 8 k else 0) ≡ (numbers_at ms k).revoked_at
  unfolding numbers_at
  revoked_number = either (λ s. s.revoked_at) (ltb k max_members) _ _

-- ---- a place changed

module _ (ms ns : List ℕ) (p : ℕ) (hp : p < max_members) where
  place_set : (x : Option G.Member) → ((c k : ℕ) → k < max_members → (k ≡ p → ⊥) → cell ns c k ≡ cell ms c k) → view_place ns p ≡ x → view_members ns ≡ set (view_members ms) p x
  unfolding view_members view_place
  place_set x far at =
      made_set (view_place ms) (view_place ns) x 0 max_members p hp
      (λ k h n. let e : (c : ℕ) → cell ns c k ≡ cell ms c k = λ c. far c k (omega (arith, h)) (λ y. n (omega (arith, y))) in λ i. member_of (e 0 i) (e 1 i) (e 2 i) (e 3 i) (e 4 i) (e 5 i) (e 6 i) (e 7 i) (e 8 i))
      (ap (view_place ns) (zero-add p) ∙ at)

-- at any place, also past the last
module _ (ms : List ℕ) (p : ℕ) (vs : List ℕ) (x : Option G.Member) where
  at_place : (p < max_members → view_place (put_all ms p 0 vs) p ≡ x) → view_members (put_at ms p vs) ≡ set (view_members ms) p x
  unfolding put_at
  at_place e = go (dec_lt p max_members)
    where
      go : Dec (p < max_members) → view_members (put_at ms p vs) ≡ set (view_members ms) p x
      go (yes h) = rw (lt-ltb p max_members h) (place_set ms (put_all ms p 0 vs) p h x (all_far p h vs ms 0) (e h))
      go (no h) = let q : max_members ≤ p = omega arith in rw (le-ltb p max_members q) (past_set ms p x q)

module _ (ms : List ℕ) (p : ℕ) (n : length ms ≡ cell_count) where
  -- nine entries
  placed_cells : (a b c d : ℕ) (s : Seat) → p < max_members → view_place (put_all ms p 0 (cells_of a b c d s)) p ≡ member_of a b c d s.epoch s.subscription s.timeout s.heard s.revoked_at
  unfolding view_place
  placed_cells a b c d s h =
      let vs = cells_of a b c d s in
      let z : (i : ℕ) → i < column_count → cell (put_all ms p 0 vs) (0 + i) p ≡ get_or vs i 0 = λ i q. all_same p h vs ms 0 i n q (omega arith) in
      λ i. member_of (z 0 (omega arith) i) (z 1 (omega arith) i) (z 2 (omega arith) i) (z 3 (omega arith) i) (z 4 (omega arith) i) (z 5 (omega arith) i) (z 6 (omega arith) i) (z 7 (omega arith) i) (z 8 (omega arith) i)

  -- nine zeros: nobody
  pub vacated_is : view_members (put_at ms p (cells_of 0 0 0 0 no_numbers)) ≡ set (view_members ms) p none
  unfolding member_of
  vacated_is = at_place ms p (cells_of 0 0 0 0 no_numbers) none (λ h. placed_cells 0 0 0 0 no_numbers h)

  -- the words of an ID that is not zero and the numbers of a seat: the seat's member
  pub put_is : (a b c d : ℕ) (s : Seat) → id_of a b c d ≡ s.id → zero_id s.id ≡ false → s.subscription < subscription_count → view_members (put_at ms p (cells_of a b c d s)) ≡ set (view_members ms) p (some (seated s))
  unfolding member_of
  put_is a b c d s named real fits =
      let m : s.subscription % subscription_count ≡ s.subscription = omega (arith, fits) in
      at_place ms p (cells_of a b c d s) (some (seated s)) (λ h. placed_cells a b c d s h
      ∙ rw (not_zero a b c d s.id named real) (λ i. some (record { id = named i; epoch = s.epoch; subscription = m i; timeout = s.timeout; heard = s.heard; revoked_at = s.revoked_at })))

-- ---- a member heard

heard_of : (a b c d epoch subscription timeout heard revoked tick : ℕ) → member_of a b c d epoch subscription timeout tick revoked ≡ heard_at tick (member_of a b c d epoch subscription timeout heard revoked)
unfolding member_of
heard_of a b c d epoch subscription timeout heard revoked tick = go (all_zero a b c d)
  where
    go : (z : Bool) → (if z then none else some (record { id = id_of a b c d; epoch = epoch; subscription = subscription % subscription_count; timeout = timeout; heard = tick; revoked_at = revoked }))
        ≡ heard_at tick (if z then none else some (record { id = id_of a b c d; epoch = epoch; subscription = subscription % subscription_count; timeout = timeout; heard = heard; revoked_at = revoked }))
    go true = refl
    go false = refl

pub heard_is : (ms : List ℕ) (p tick : ℕ) → p < max_members → length ms ≡ cell_count → view_members (set ms (cell_of 7 p) tick) ≡ set (view_members ms) p (heard_at tick (get_or (view_members ms) p none))
unfolding view_place
heard_is ms p tick h n =
    let ns = set ms (cell_of 7 p) tick in
    let b : (c : ℕ) → c < 7 → cell ns c p ≡ cell ms c p = λ c q. all_before p h (tick ∷ []) ms 7 c q in
    let z : cell ns 7 p ≡ tick = get_or-set_same ms (cell_of 7 p) tick 0 (omega (arith, n, h)) in
    let y : cell ns 8 p ≡ cell ms 8 p = get_or-set_other ms (cell_of 7 p) (cell_of 8 p) tick 0 (λ e. omega (arith, e)) in
    place_set ms ns p h (heard_at tick (get_or (view_members ms) p none)) (all_far p h (tick ∷ []) ms 7)
    ((λ i. member_of (b 0 (omega arith) i) (b 1 (omega arith) i) (b 2 (omega arith) i) (b 3 (omega arith) i) (b 4 (omega arith) i) (b 5 (omega arith) i) (b 6 (omega arith) i) (z i) (y i))
    ∙ heard_of (cell ms 0 p) (cell ms 1 p) (cell ms 2 p) (cell ms 3 p) (cell ms 4 p) (cell ms 5 p) (cell ms 6 p) (cell ms 7 p) (cell ms 8 p) tick
    ∙ ap (heard_at tick) (sym (member_at_lem ms p h)))

pub heard_past : (ms : List ℕ) (p tick : ℕ) → max_members ≤ p → view_members ms ≡ set (view_members ms) p (heard_at tick (get_or (view_members ms) p none))
heard_past ms p tick h = past_set ms p (heard_at tick (get_or (view_members ms) p none)) h

-- ---- searched by words

module _ (ms : List ℕ) (f : Option G.Member → Bool) (t : ℕ → Bool) (is : (k : ℕ) → k < max_members → f (view_place ms k) ≡ t k) where
  before : (r : ℕ) → First t r → (k : ℕ) → k < r → f (get_or (view_members ms) k none) ≡ false
  before r first k q = ap f (member_at_lem ms k (omega (arith, first.most))) ∙ is k (omega (arith, first.most)) ∙ first.before k q

  pub finds : {r : ℕ} → FirstPlace t (Some r) → Hit (any f (view_members ms)) (find f (view_members ms)) r
  finds {r} e =
      let i = find_at f none (view_members ms) r (omega (arith, members_long ms, e.0)) (before r e.1) (ap f (member_at_lem ms r e.0) ∙ is r e.0 ∙ e.1.there e.0) in
      record { found = i.1; first = i.0; below = e.0 }

  pub finds_none : FirstPlace t None → any f (view_members ms) ≡ false
  finds_none e = any_off none f (view_members ms) (λ i q. before max_members e i (omega (arith, members_long ms)))

-- nobody's words are zero
pub vacant_is : (ms : List ℕ) (k : ℕ) → vacant (view_place ms k) ≡ matches ms 0 0 0 0 k
unfolding view_place member_of matches vacant
vacant_is ms k = go (all_zero (cell ms 0 k) (cell ms 1 k) (cell ms 2 k) (cell ms 3 k)) _
  where
    go : (z : Bool) (m : G.Member) → vacant (if z then none else some m) ≡ z
    go true m = refl
    go false m = refl

module _ (ms : List ℕ) (n : length ms ≡ cell_count) (fit : Fits ms)
    (a b c d : ℕ) (fa : a < 4294967296) (fb : b < 4294967296) (fc : c < 4294967296) (fd : d < 4294967296) (id : List ℕ) (spelt : id_of a b c d ≡ id) where
  abbrev none_at : ℕ → Bool
  none_at k = all_zero (cell ms 0 k) (cell ms 1 k) (cell ms 2 k) (cell ms 3 k)

  abbrev member_in_lem : ℕ → Option G.Member
  member_in_lem k = some (record { id = id_of (cell ms 0 k) (cell ms 1 k) (cell ms 2 k) (cell ms 3 k); epoch = cell ms 4 k; subscription = cell ms 5 k % subscription_count; timeout = cell ms 6 k; heard = cell ms 7 k; revoked_at = cell ms 8 k })

  same_here : (k : ℕ) → k < max_members → same (id_of (cell ms 0 k) (cell ms 1 k) (cell ms 2 k) (cell ms 3 k)) id ≡ matches ms a b c d k
  unfolding matches
  same_here k h =
      ap (same (id_of (cell ms 0 k) (cell ms 1 k) (cell ms 2 k) (cell ms 3 k))) (sym spelt)
      ∙ same_words (cell ms 0 k) (cell ms 1 k) (cell ms 2 k) (cell ms 3 k) a b c d
      (fit (cell_of 0 k) (omega (arith, n, h))) (fit (cell_of 1 k) (omega (arith, n, h))) (fit (cell_of 2 k) (omega (arith, n, h))) (fit (cell_of 3 k) (omega (arith, n, h))) fa fb fc fd

  -- an ID that is not zero is where its words are
  pub member_is : all_zero a b c d ≡ false → (k : ℕ) → k < max_members → is_member id (view_place ms k) ≡ matches ms a b c d k
  unfolding view_place member_of matches is_member
  member_is real k h = go (none_at k) refl
    where
      go : (z : Bool) → none_at k ≡ z → is_member id (if z then none else member_in_lem k) ≡ matches ms a b c d k
      go true e =
          let i = and_true (eqb (cell ms 0 k) 0) _ e in
          let j = and_true (eqb (cell ms 1 k) 0) _ i.1 in
          let l = and_true (eqb (cell ms 2 k) 0) _ j.1 in
          sym ((λ t. eqb (eqb-true (cell ms 0 k) 0 i.0 t) a && (eqb (eqb-true (cell ms 1 k) 0 j.0 t) b && (eqb (eqb-true (cell ms 2 k) 0 l.0 t) c && eqb (eqb-true (cell ms 3 k) 0 l.1 t) d)))
          ∙ turned a b c d ∙ real)
      go false e = same_here k h

  -- the zero ID is nobody's
  pub nobody_is : all_zero a b c d ≡ true → any (is_member id) (view_members ms) ≡ false
  unfolding view_place member_of matches is_member
  nobody_is z =
      let i = and_true (eqb a 0) _ z in
      let j = and_true (eqb b 0) _ i.1 in
      let l = and_true (eqb c 0) _ j.1 in
      any_off none (is_member id) (view_members ms) (λ k q. let h : k < max_members = omega (arith, members_long ms, q) in
      ap (is_member id) (member_at_lem ms k h)
      ∙ go k (none_at k) refl
      (same_here k h ∙ (λ t. eqb (cell ms 0 k) (eqb-true a 0 i.0 t) && (eqb (cell ms 1 k) (eqb-true b 0 j.0 t) && (eqb (cell ms 2 k) (eqb-true c 0 l.0 t) && eqb (cell ms 3 k) (eqb-true d 0 l.1 t))))))
    where
      go : (k : ℕ) (z : Bool) → none_at k ≡ z → same (id_of (cell ms 0 k) (cell ms 1 k) (cell ms 2 k) (cell ms 3 k)) id ≡ none_at k → is_member id (if z then none else member_in_lem k) ≡ false
      go k true e q = refl
      go k false e q = q ∙ e
