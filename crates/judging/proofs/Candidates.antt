-- Which candidate the records of a batch make, by what was gathered of them.
use Rattle.std.specs.Prelude as P
use Rattle.std.proofs.Common.{ℕ, ◌≡◌, refl, sym, ap, ◌∙◌, Bool, true, false, List, [], ◌∷◌, map, eqb, pos, length, arith}
use mathlib.Core.List.{foldl}
use Rattle.std.proofs.Math.Option.{Option, none, some}
use borrow.Author.Tests.{not-true, not-false}
use Rattle.rules.specs.Basics.{case_of, empty, given}
use Rattle.rules.specs.Constants.{slot_count}
use Rattle.rules.specs.Group as G
use Rattle.rules.specs.Group.{member_at}
use Rattle.rules.specs.Records.{CurrentAssignment, MemberMetadata, Record, TopicMetadata}
use Rattle.rules.specs.Event.{Request, heartbeat, install, topic, without_rule}
use Rattle.rules.specs.Ledger.{gone}
use Rattle.rules.specs.Batches.{beating, candidate, current_in, entering, entries_of, epoch_in, installing, is_join, joining, judged, laid_over, making, member_in, moving, removing, retimed, target_epoch_in, targets_in, topic_in, tried}
use Rattle.theorems.proofs.Cases.{by_cases, no_some, some_inj}
use Rattle.recovery.proofs.Ticks.{retimed_twice}
use Rattle.tables.specs.View.{view_lists}
use Rattle.group.specs.declared.Group.{Group}
use Rattle.group.specs.View.{view}
use Rattle.reading.specs.declared.Member.{Member}
use Rattle.reading.specs.declared.Topic.{Topic}
use Rattle.batches.specs.declared.Gathered.{Gathered}
use Rattle.batches.specs.Gathered.{Says, current_as, epoch_as, maybe, standing}
use Rattle.judging.specs.Asks.{beat_in, metadata_as}
use Rattle.judging.specs.Choices.{if_asked}
use Rattle.judging.specs.Reads.{good_as}

-- ---- the order of the rules

module _ (t : ℕ) (g : G.Group) (rs : List Record) where
  pub an_install : (n : ℕ) → target_epoch_in rs ≡ some n → candidate t g rs ≡ some (installing g rs n)
  unfolding candidate
  an_install n e = rw e

  module _ (no_target : target_epoch_in rs ≡ none) where
    pub a_sweep : empty (gone rs) ≡ false → candidate t g rs ≡ some (removing t g (gone rs))
    unfolding candidate
    a_sweep e = rw (no_target, e)

    module _ (noneGone : empty (gone rs) ≡ true) where
      pub a_topic : (k : TopicMetadata) → topic_in rs ≡ some k → candidate t g rs ≡ some (making g k)
      unfolding candidate
      a_topic k e = rw (no_target, noneGone, e)

      module _ (noTopic : topic_in rs ≡ none) where
        pub a_beat : candidate t g rs ≡ if_asked g (beat_in t g rs)
        unfolding candidate if_asked beat_in
        a_beat = rw (no_target, noneGone, noTopic) (pick (member_in rs) (current_in rs))
          where
            pick : (m : Option MemberMetadata) (c : Option CurrentAssignment)
                → case_of m (case_of c none (λ x. some (tried g (heartbeat (moving t g x))))) (λ x. some (tried g (heartbeat (entering t g rs x))))
                ≡ case_of (case_of m (case_of c none (λ x. some (moving t g x))) (λ x. some (entering t g rs x))) none (λ b. some (tried g (heartbeat b)))
            pick none none = refl
            pick none (some c) = refl
            pick (some m) c = refl

  -- a heartbeat of records is at the tick of reading
  entering_tick : (m : MemberMetadata) → (entering t g rs m).tick ≡ t
  unfolding entering joining beating
  entering_tick m = by_cases (is_join (epoch_in rs) (current_in rs)) (λ e. rw e) (λ e. rw e)

  pub beat_tick : (b : Request) → beat_in t g rs ≡ some b → b.tick ≡ t
  unfolding beat_in moving beating
  beat_tick b = pick (member_in rs) (current_in rs)
    where
      pick : (m : Option MemberMetadata) (c : Option CurrentAssignment)
          → case_of m (case_of c none (λ x. some (moving t g x))) (λ x. some (entering t g rs x)) ≡ some b → b.tick ≡ t
      pick none none e = absurd (no_some b e)
      pick none (some c) e = ap (λ (x : Request). x.tick) (sym (some_inj e))
      pick (some m) c e = ap (λ (x : Request). x.tick) (sym (some_inj e)) ∙ entering_tick m

-- ---- what was gathered

pub stands : (c : Option CurrentAssignment) (p e : ℕ) → standing c ≡ some (p, e) → (a : CurrentAssignment) × (c ≡ some a) × (a.place ≡ p) × (a.epoch ≡ e)
unfolding standing
stands none p e q = absurd (no_some (p, e) q)
stands (some a) p e q = (a, refl, ap (λ z. z.0) (some_inj q), ap (λ z. z.1) (some_inj q))

stands_not : (c : Option CurrentAssignment) → standing c ≡ none → c ≡ none
unfolding standing
stands_not none q = refl
stands_not (some a) q = absurd (no_some (a.place, a.epoch) (sym q))

module _ {bytes : List ℕ} {said : Gathered} {table : List Bool} {entries entries' : List ℕ} (s : Says bytes said table entries entries') where
  pub has_target : (n : ℕ) → said.target_epoch ≡ P.Some n → target_epoch_in s.records ≡ some n
  has_target n e = sym s.target_epoch ∙ ap (maybe (λ (k : ℕ). k)) e

  pub no_target_lem : said.target_epoch ≡ P.None → target_epoch_in s.records ≡ none
  no_target_lem e = sym s.target_epoch ∙ ap (maybe (λ (k : ℕ). k)) e

  pub some_gone : said.any_gone ≡ true → empty (gone s.records) ≡ false
  some_gone e = not-true (empty (gone s.records)) (sym s.any_gone ∙ e)

  pub none_gone : said.any_gone ≡ false → empty (gone s.records) ≡ true
  none_gone e = not-false (empty (gone s.records)) (sym s.any_gone ∙ e)

  pub has_topic : (k : Topic) → said.topic ≡ P.Some k → topic_in s.records ≡ some (record { number = k.number; id = k.id; count = k.count })
  has_topic k e = sym s.topic ∙ ap (maybe (λ (x : Topic). record { number = x.number; id = x.id; count = x.count })) e

  pub no_topic : said.topic ≡ P.None → topic_in s.records ≡ none
  no_topic e = sym s.topic ∙ ap (maybe (λ (x : Topic). record { number = x.number; id = x.id; count = x.count })) e

  pub has_member : (m : Member) → said.member ≡ P.Some m → member_in s.records ≡ some (metadata_as m)
  has_member m e = sym s.member ∙ ap (maybe metadata_as) e

  pub no_member : said.member ≡ P.None → member_in s.records ≡ none
  no_member e = sym s.member ∙ ap (maybe metadata_as) e

  pub has_current : (p e : ℕ) → said.current ≡ P.Some (p, e) → (a : CurrentAssignment) × (current_in s.records ≡ some a) × (a.place ≡ p) × (a.epoch ≡ e)
  has_current p e is = stands (current_in s.records) p e (sym s.current ∙ ap (maybe (λ (x : ℕ × ℕ). x)) is)

  pub no_current : said.current ≡ P.None → current_in s.records ≡ none
  no_current e = stands_not (current_in s.records) (sym s.current ∙ ap (maybe (λ (x : ℕ × ℕ). x)) e)

  -- whether there is a record 8
  pub current_given : given (current_in s.records) ≡ P.is_some said.current
  current_given = pick said.current refl
    where
      pick : (o : P.Option (ℕ × ℕ)) → said.current ≡ o → given (current_in s.records) ≡ P.is_some o
      pick (P.Some x) e = ap given (has_current x.0 x.1 e).1
      pick P.None e = ap given (no_current e)

-- ---- the candidate

targets_of : (ts hs : List ℕ) (ws : List Bool) → length hs ≡ length ts → length ws ≡ length ts → map (λ s. s.target) (view_lists ts hs ws) ≡ ts
targets_of [] hs ws a b = refl
targets_of (t ∷ ts) [] ws a b = absurd (omega (arith, a))
targets_of (t ∷ ts) (h ∷ hs) [] a b = absurd (omega (arith, b))
targets_of (t ∷ ts) (h ∷ hs) (w ∷ ws) a b = ap (λ (l : List ℕ). t ∷ l) (targets_of ts hs ws (omega (arith, a)) (omega (arith, b)))

pub its_targets : (g : Group) → length g.tables.target ≡ slot_count → length g.tables.holder ≡ slot_count → length g.tables.waiting ≡ slot_count
    → map (λ s. s.target) (view g).slots ≡ g.tables.target
unfolding view
its_targets g a b c = targets_of g.tables.target g.tables.holder g.tables.waiting (b ∙ sym a) (c ∙ sym a)

module _ {bytes : List ℕ} {said : Gathered} {table : List Bool} {entries entries' : List ℕ} (s : Says bytes said table entries entries') (t : ℕ)
    (g : G.Group) where
  pub installs : (n : ℕ) → said.target_epoch ≡ P.Some n → map (λ x. x.target) g.slots ≡ entries
      → some (tried g (install without_rule (pos n) entries')) ≡ candidate t g s.records
  unfolding installing entries_of
  installs n h e =
      ap (λ (x : List ℕ). some (tried g (install without_rule (pos n) x)))
      (s.targets ∙ ap (λ (x : List ℕ). foldl laid_over x (targets_in s.records)) (sym e))
      ∙ sym (an_install t g s.records n (has_target s n h))

  module _ (a : said.target_epoch ≡ P.None) where
    pub removes : said.any_gone ≡ true → some (removing t g (gone s.records)) ≡ candidate t g s.records
    removes h = sym (a_sweep t g s.records (no_target_lem s a) (some_gone s h))

    module _ (b : said.any_gone ≡ false) where
      pub makes : (k : Topic) → said.topic ≡ P.Some k → some (tried g (topic k.number k.id k.count)) ≡ candidate t g s.records
      unfolding making
      makes k h = sym (a_topic t g s.records (no_target_lem s a) (none_gone s b) _ (has_topic s k h))

      pub beats : said.topic ≡ P.None → if_asked g (beat_in t g s.records) ≡ candidate t g s.records
      beats c = sym (a_beat t g s.records (no_target_lem s a) (none_gone s b) (no_topic s c))

  -- ---- the heartbeat

  joins_in : (b : Bool) → is_join (epoch_as said) (current_in s.records) ≡ b → is_join (epoch_in s.records) (current_in s.records) ≡ b
  joins_in b e = ap (λ (x : Option ℕ). is_join x (current_in s.records)) (sym s.epoch) ∙ e

  module _ (m : Member) (d : said.member ≡ P.Some m) where
    pub beat_joining : is_join (epoch_as said) (current_in s.records) ≡ true → some (joining t (metadata_as m)) ≡ beat_in t g s.records
    unfolding beat_in entering
    beat_joining e = rw (has_member s m d, joins_in true e)

    pub beat_beating : is_join (epoch_as said) (current_in s.records) ≡ false
        → some (beating t g m.place m.timeout m.subscription (P.is_some said.current)) ≡ beat_in t g s.records
    unfolding beat_in entering
    beat_beating e = rw (has_member s m d, joins_in false e, current_given s)

  module _ (d : said.member ≡ P.None) where
    pub beat_moving : (p e : ℕ) → said.current ≡ P.Some (p, e)
        → some (beating t g p (member_at g p).timeout (member_at g p).subscription true) ≡ beat_in t g s.records
    unfolding beat_in moving
    beat_moving p e h = let k = has_current s p e h in rw (no_member s d, k.1, k.2)

    pub beat_none : said.current ≡ P.None → none ≡ beat_in t g s.records
    unfolding beat_in
    beat_none h = rw (no_member s d, no_current s h)

-- ---- whether a record 8 has the epoch of a record 3

join_no_current : (e : Option ℕ) → is_join e none ≡ false
unfolding is_join
join_no_current none = refl
join_no_current (some n) = refl

module _ (said : Gathered) (c : Option CurrentAssignment) where
  pub no_epoch : said.epoch ≡ P.None → false ≡ is_join (epoch_as said) c
  unfolding is_join
  no_epoch e = sym (ap (λ (x : P.Option ℕ). is_join (maybe (λ (k : ℕ). k) x) c) e)

  module _ (is : current_as said ≡ standing c) where
    pub not_current : said.current ≡ P.None → false ≡ is_join (epoch_as said) c
    not_current e =
        let n : c ≡ none = stands_not c (sym is ∙ ap (maybe (λ (x : ℕ × ℕ). x)) e) in
        sym (ap (is_join (epoch_as said)) n ∙ join_no_current (epoch_as said))

    pub same_epoch : (n p e : ℕ) → said.epoch ≡ P.Some n → said.current ≡ P.Some (p, e) → eqb n e ≡ is_join (epoch_as said) c
    unfolding is_join
    same_epoch n p e a b =
        let k = stands c p e (sym is ∙ ap (maybe (λ (x : ℕ × ℕ). x)) b) in
        sym ((λ i. is_join (maybe (λ (k : ℕ). k) (a i)) (k.1 i)) ∙ ap (eqb n) k.3)

-- ---- run, and the group put back

-- with the tick of reading the candidate was run
module _ (r : Bool) (before still after : Group) (t : ℕ) (batch : List ℕ) (rs : List Record) (is : view still ≡ retimed t (view before))
    (h : retimed t (view still) ≡ view still → good_as r (view after) ≡ judged t batch (candidate t (view still) rs)) where
  attempted : good_as r (view after) ≡ judged t batch (candidate t (retimed t (view before)) rs)
  attempted = h (ap (retimed t) is ∙ retimed_twice t t (view before) ∙ sym is) ∙ ap (λ (g : G.Group). judged t batch (candidate t g rs)) is

  pub was_good : r ≡ true → good_as true (view after) ≡ judged t batch (candidate t (retimed t (view before)) rs)
  was_good e = ap (λ (b : Bool). good_as b (view after)) (sym e) ∙ attempted

  -- if it was not good, no group is read
  pub was_bad : (back : Group) → r ≡ false → good_as false (view back) ≡ judged t batch (candidate t (retimed t (view before)) rs)
  unfolding good_as
  was_bad back e = ap (λ (b : Bool). good_as b (view after)) (sym e) ∙ attempted
