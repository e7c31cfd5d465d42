-- The entries of an install: the test over two lists of numbers and the wanted topics is the rules' test of the group, and the first that it refuses is the
-- rules' own, as the library's search and a loop tell it. Assumes nothing.
use Rattle.std.specs.Prelude.{None, Some, if◌then◌else◌}
use Rattle.std.specs.Prelude as P
use Rattle.std.specs.List.{list_any, range_with_len, position_from, enumerate_from, fold}
use Rattle.std.proofs.Common.{◌≡◌, ℕ, suc, ◌+◌, ◌/◌, ◌%◌, ◌^◌, ◌<◌, ◌≤◌, Bool, true, false, ◌&&◌, ◌||◌, List, [], ◌∷◌, map, length, get_or, drop, sym, refl, ap, ◌∙◌, ap₂, zero-add, add-one, arith, drop_of_length-le, drop-cons, pow_pos, pow_mono}
use native.Mathlib.Nat.{div-eq_of_lt}
use mathlib.Core.Bool.{or-false, or_assoc}
use mathlib.Core.Option.{Option, none, some}
use lib.ListN.{get_or-map}
use lib.Bits.{bit_or}
use Rattle.rules.specs.Basics.{any, first_with}
use Rattle.rules.specs.Constants.{max_members, max_partitions, topic_count}
use Rattle.rules.specs.Group as G
use Rattle.rules.specs.Group.{includes_topic, subscribes, below_count, exists}
use Rattle.rules.specs.Refusals.{bad_entry, first_bad, left_over, misplaced}
use Rattle.slots.proofs.Bits.{bit_or_lem}
use Rattle.group.specs.declared.Group.{Group}
use Rattle.group.specs.Columns.{view_members}
use Rattle.group.specs.View.{view}
use Rattle.group.specs.Entries.{Wanted, FirstBad, entry_bad, slot_exists, subscription_of}
use Rattle.group.specs.Topics.{id_at}
use Rattle.group.proofs.Columns.{members_long}
use Rattle.group.proofs.Numbering.{topic_at, any_places, below_is}
use Rattle.group.proofs.PlaceTests.{subscriber, subscriber_there}

-- ---- bits of a subscription

-- a number below 2^t has no topic t
pub no_bit : (t w : ℕ) → w < 2 ^ t → includes_topic t w ≡ false
unfolding includes_topic
no_bit t w h = rw (div-eq_of_lt h)

pub none_subscribed : (t : ℕ) → includes_topic t 0 ≡ false
none_subscribed t = no_bit t 0 (pow_pos t)

-- a subscription has a bit for each topic and no more
pub past_topics : (t w : ℕ) → w < 2 ^ topic_count → topic_count ≤ t → includes_topic t w ≡ false
past_topics t w h q = no_bit t w (let m = pow_mono q in omega arith)

pub subscribes_is : (t : ℕ) (m : Option G.Member) → subscribes t m ≡ includes_topic t (subscription_of m)
unfolding subscribes subscription_of
subscribes_is t none = sym (none_subscribed t)
subscribes_is t (some m) = refl

-- ---- the two lists, of a group that has these counts and these members

pub subscriptions_at : (l : List (Option G.Member)) (p : ℕ) → get_or (map subscription_of l) p 0 ≡ subscription_of (get_or l p none)
unfolding subscription_of
subscriptions_at l p = get_or-map subscription_of l p none

any_is : (t : ℕ) (l : List (Option G.Member)) → any (subscribes t) l ≡ any (includes_topic t) (map subscription_of l)
any_is t [] = refl
any_is t (m ∷ l) = ap₂ (λ (x y : Bool). x || y) (subscribes_is t m) (any_is t l)

and_turn : (a b c : Bool) → (b && (a && c)) ≡ (a && (b && c))
and_turn true b c = refl
and_turn false true c = refl
and_turn false false c = refl

module _ (g : Group) (n : length g.topics.counts ≡ topic_count) where
  -- the subscription at each place
  abbrev pub subscribed : List ℕ
  subscribed = map subscription_of (view_members g.members.cells)

  exists_is : (s : ℕ) → exists (view g) s ≡ slot_exists g.topics.counts s
  unfolding exists slot_exists view
  exists_is s =
      ap (below_count (s % max_partitions)) (topic_at g.topics.ids g.topics.counts (s / max_partitions) n)
      ∙ below_is (s % max_partitions) (id_at g.topics.ids (s / max_partitions)) (get_or g.topics.counts (s / max_partitions) 0)

  subscriber_is : (t p : ℕ) → subscribes t (get_or (view g).members p none) ≡ includes_topic t (get_or subscribed p 0)
  unfolding view
  subscriber_is t p =
      subscribes_is t (get_or (view_members g.members.cells) p none)
      ∙ ap (includes_topic t) (sym (subscriptions_at (view_members g.members.cells) p))

  subscribers_are : (t : ℕ) → any (subscribes t) (view g).members ≡ any (includes_topic t) subscribed
  unfolding view
  subscribers_are t = any_is t (view_members g.members.cells)

  module _ (rule : Bool) (w : ℕ) (is : Wanted rule subscribed w) where
    entry_is : (s e : ℕ) → entry_bad g.topics.counts subscribed w s e ≡ bad_entry rule (view g) s e
    unfolding entry_bad bad_entry misplaced left_over
    entry_is s e = rw (exists_is s, subscriber_is (s / max_partitions) e, subscribers_are (s / max_partitions), is (s / max_partitions), and_turn rule _ _)

    first_is : (s : ℕ) (es : List ℕ) → first_with (entry_bad g.topics.counts subscribed w) s es ≡ first_with (bad_entry rule (view g)) s es
    unfolding first_with
    first_is s [] = refl
    first_is s (e ∷ es) = ap₂ (λ (b : Bool) (m : ℕ). if b then s else m) (entry_is s e) (first_is (suc s) es)

    pub first_bad_is : (es : List ℕ) → first_with (entry_bad g.topics.counts subscribed w) 0 es ≡ first_bad rule (view g) es
    unfolding first_bad
    first_bad_is es = first_is 0 es

-- ---- the library's searches and sums, as the rules' own

-- the first entry that a test refuses, of the entries with their slots
FirstFrom : (ℕ → ℕ → Bool) → ℕ → List ℕ → P.Option ℕ → Type 0
FirstFrom bad n es None = first_with bad n es ≡ n + length es
FirstFrom bad n es (Some s) = (s < n + length es) × (first_with bad n es ≡ s)

module _ (bad : ℕ → ℕ → Bool) where
  first_from : (n : ℕ) (es : List ℕ) → FirstFrom bad n es (position_from (λ (e : ℕ × ℕ). bad e.0 e.1) n (enumerate_from n es))
  unfolding FirstFrom first_with
  first_from n [] = omega arith
  first_from n (e ∷ es) = go (bad n e) refl (first_from (n + 1) es)
    where
      later : (r : P.Option ℕ) → bad n e ≡ false → FirstFrom bad (n + 1) es r → FirstFrom bad n (e ∷ es) r
      later None f h = rw f (rw (add-one n) at h ∙ omega arith)
      later (Some s) f h = (omega (arith, h.0), rw f (rw (add-one n) at h.1))

      go : (b : Bool) → bad n e ≡ b → FirstFrom bad (n + 1) es (position_from (λ (e : ℕ × ℕ). bad e.0 e.1) (n + 1) (enumerate_from (n + 1) es))
          → FirstFrom bad n (e ∷ es) (if b then Some n else position_from (λ (e : ℕ × ℕ). bad e.0 e.1) (n + 1) (enumerate_from (n + 1) es))
      go true f h = (omega arith, rw f)
      go false f h = later (position_from (λ (e : ℕ × ℕ). bad e.0 e.1) (n + 1) (enumerate_from (n + 1) es)) f h

  -- by a test that says the same of these entries as row 1006
  pub first_in : (rule : Bool) (g : G.Group) (es : List ℕ) → first_with bad 0 es ≡ first_bad rule g es
      → (r : P.Option ℕ) → r ≡ position_from (λ (e : ℕ × ℕ). bad e.0 e.1) 0 (enumerate_from 0 es) → FirstBad rule g es r
  unfolding FirstFrom
  first_in rule g es same r e = rw e (go (position_from (λ (e : ℕ × ℕ). bad e.0 e.1) 0 (enumerate_from 0 es)) (first_from 0 es))
    where
      go : (r : P.Option ℕ) → FirstFrom bad 0 es r → FirstBad rule g es r
      go None f = sym same ∙ f ∙ omega arith
      go (Some s) f = (omega (arith, f.0), sym same ∙ f.1)

-- whether some member subscribes to a topic, place by place
pub any_subscribed : (t : ℕ) (ms : List ℕ) → list_any (subscriber t ms) (range_with_len 0 max_members) ≡ any (subscribes t) (view_members ms)
any_subscribed t ms =
    any_places (subscribes t) none (subscriber t ms) 0 max_members (view_members ms) (members_long ms)
    (λ k h. ap (subscriber t ms) (zero-add k) ∙ sym (subscriber_there ms k t))

-- a topic is in the union of w and of the subscriptions of a list exactly where it is in one of them
pub in_union : (t w : ℕ) (l : List ℕ) → includes_topic t (fold bit_or w l) ≡ includes_topic t w || any (includes_topic t) l
unfolding includes_topic
in_union t w [] = sym (or-false (includes_topic t w))
in_union t w (s ∷ l) = in_union t (bit_or w s) l ∙ ap (λ (b : Bool). b || any (includes_topic t) l) (bit_or_lem w s t) ∙ or_assoc (includes_topic t w) (includes_topic t s) (any (includes_topic t) l)

-- ---- the first entry that a test refuses, from a slot on: at it, after it, or nowhere

module _ (bad : ℕ → ℕ → Bool) (es : List ℕ) where
  abbrev pub first_at : ℕ → P.Option ℕ
  first_at s = position_from (λ (e : ℕ × ℕ). bad e.0 e.1) s (enumerate_from s (drop s es))

  module _ (s : ℕ) where
    next_entry : s < length es → first_at s ≡ (if bad s (get_or es s 0) then Some s else first_at (s + 1))
    next_entry l =
        ap (λ (r : List ℕ). position_from (λ (e : ℕ × ℕ). bad e.0 e.1) s (enumerate_from s r))
        (drop-cons es s 0 l ∙ ap (λ (k : ℕ). get_or es s 0 ∷ drop k es) (sym (add-one s)))

    pub first_here : s < length es → bad s (get_or es s 0) ≡ true → first_at s ≡ Some s
    first_here l b = next_entry l ∙ rw b

    pub first_later : s < length es → bad s (get_or es s 0) ≡ false → first_at (s + 1) ≡ first_at s
    first_later l b = sym (next_entry l ∙ rw b)

    pub first_nowhere : length es ≤ s → first_at s ≡ None
    first_nowhere l = rw (drop_of_length-le es l)
