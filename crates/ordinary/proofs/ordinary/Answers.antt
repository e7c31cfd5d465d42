-- At each `return` the tests that led there say that no row before it applies and that this one does (`OrdinaryRows`); the quick path's step is `Staying`. Assumes nothing.
use Rattle.std.specs.Prelude.{if◌then◌else◌}
use Rattle.std.proofs.Common.{◌≡◌, ℕ, Bool, List, [], length, eqb, leb, sym, ap, ◌∙◌, arith, eq-eqb, ne_eqb}
use Rattle.std.proofs.Math.Option.{Option, some}
use Rattle.rules.specs.Basics.{default}
use Rattle.rules.specs.Constants.{heartbeat_interval, clock_limit}
use Rattle.rules.specs.Group.{elapsed}
use Rattle.rules.specs.Refusals.{goes_back, bad_list, new_subscription, new_timeout}
use Rattle.rules.specs.declared.Answer.TheVariants.{Assigned}
use Rattle.rules.specs.declared.Refusal.{Refusal}
use Rattle.rules.specs.declared.Refusal.TheVariants.{InvalidRequest, UnknownMemberId, FencedMemberEpoch}
use Rattle.rules.proofs.Lists.{or_false}
use Rattle.tables.specs.Advances.{listed, owned_of}
use Rattle.group.specs.View.{view}
use Rattle.group.specs.declared.Group.{Group}
use Rattle.group.proofs.Finding.{hit, miss}
use Rattle.events.specs.declared.Outcome.{Outcome}
use Rattle.events.specs.Outcomes.{took, request_of}
use Rattle.events.proofs.Carrying.{denied, refusal, acceptance}
use Rattle.events.proofs.Lent.{goes_back_is, known_in}
use Rattle.ordinary.specs.Plans.{asked, view_sender, sender_at, ordinary_step}
use Rattle.ordinary.proofs.Located.{seat_found, who, same_id, sends, heard_group}
use Rattle.ordinary.proofs.OrdinaryRows.{row_clock, row_form, row_list, row_unknown, row_fenced, rows_passed}
use Rattle.ordinary.proofs.SlotSets.{quiet_good}
use Rattle.ordinary.proofs.Staying.{stays_so}
use Rattle.ordinary.proofs.ordinary.Goals as goal

-- what the tests say: of the clock, and of the list that may be given
clock : (g : Group) (tick : ℕ) {r x : Bool} → r ≡ leb clock_limit (elapsed tick g.head.tick) → r ≡ x → goes_back (view g) tick ≡ x
clock g tick e h = sym (goes_back_is g tick) ∙ sym e ∙ h

module _ {l m : Option (List ℕ)} (e : l ≡ m) where
  badly : {r x : Bool} → r ≡ bad_list (default [] l) → r ≡ x → bad_list (default [] m) ≡ x
  badly h k = ap (λ (o : Option (List ℕ)). bad_list (default [] o)) (sym e) ∙ sym h ∙ k

  after_list : (why : Refusal) {r : Refusal} → r ≡ (if bad_list (default [] l) then InvalidRequest else why) → (if bad_list (default [] m) then InvalidRequest else why) ≡ r
  after_list why h = ap (λ (o : Option (List ℕ)). if bad_list (default [] o) then InvalidRequest else why) (sym e) ∙ sym h

pub returns-then-goes_back : goal.returns-then-goes_back
unfolding request_of
returns-then-goes_back c =
    let a = c.args in
    let g = a.group.now in
    refusal (row_clock (view g) (request_of a.b a.owned.now) a.e a.records.now a.list.now (clock g a.b.tick c.goes_back.ensures c.if-goes_back.true))

pub returns-then-is_malformed_beside_list : goal.returns-then-is_malformed_beside_list
unfolding request_of
returns-then-is_malformed_beside_list c =
    let a = c.args in
    let g = a.group.now in
    let t = clock g a.b.tick c.goes_back.ensures c.if-goes_back.false in
    refusal (row_form (view g) (request_of a.b a.owned.now) a.e a.records.now a.list.now t (sym c.is_malformed_beside_list.ensures ∙ c.if-is_malformed_beside_list.true))

pub returns-in_default : goal.returns-in_default
unfolding request_of
returns-in_default c =
    let a = c.args in
    let g = a.group.now in
    let t = clock g a.b.tick c.goes_back.ensures c.if-goes_back.false in
    let h = sym c.is_malformed_beside_list.ensures ∙ c.if-is_malformed_beside_list.false in
    refusal
    (row_unknown (view g) (request_of a.b a.owned.now) a.e a.records.now a.list.now t h (miss _ c.in_default.is (known_in g a.b.id _ c.find.ensures))
    ∙ ap (λ (why : Refusal). denied why (view g) a.records.now a.list.now) (after_list c.given_list-given.ensures UnknownMemberId c.after_list.ensures))

pub returns-then-e-epoch_at : goal.returns-then-e-epoch_at
unfolding request_of
returns-then-e-epoch_at c =
    let a = c.args in
    let g = a.group.now in
    let l = owned_of a.b.has_list a.owned.now in
    let p = c.in-Some.p in
    let t = clock g a.b.tick c.goes_back.ensures c.if-goes_back.false in
    let h = sym c.is_malformed_beside_list.ensures ∙ c.if-is_malformed_beside_list.false in
    let f = hit c.in-Some.is (known_in g a.b.id _ c.find.ensures) in
    refusal
    (row_fenced (view g) (asked a.b l) a.e a.records.now a.list.now t h f.found (who g a.b l p f) (ap (eqb a.e) (sym c.epoch_at.ensures) ∙ ne_eqb _ _ c.if-e-epoch_at.true)
    ∙ ap (λ (why : Refusal). denied why (view g) a.records.now a.list.now) (after_list c.given_list-given.ensures FencedMemberEpoch c.after_list-then-e-epoch_at.ensures))

pub returns-then-is_calm : goal.returns-then-is_calm
unfolding request_of view new_subscription new_timeout took
returns-then-is_calm c =
    let a = c.args in
    let g = a.group.now in
    let l = owned_of a.b.has_list a.owned.now in
    let p = c.in-Some.p in
    let t = clock g a.b.tick c.goes_back.ensures c.if-goes_back.false in
    let h = sym c.is_malformed_beside_list.ensures ∙ c.if-is_malformed_beside_list.false in
    let f = hit c.in-Some.is (known_in g a.b.id _ c.find.ensures) in
    let e = c.if-e-epoch_at.false ∙ c.epoch_at.ensures in
    let slots = c.in-Some-given.slots.now in
    let given : l ≡ some slots = sym c.given_list-given.ensures ∙ ap listed c.in-Some-given.is in
    let q = c.is_calm.ensures c.if-is_calm.true in
    let d = c.hear.ensures in
    let s = view_sender (sender_at g.members.cells p) in
    let good = ap (λ (o : Option (List ℕ)). bad_list (default [] o)) given ∙ quiet_good q.quiet q.whole in
    let says = d.says q.few ∙ (λ i. record { answer = Assigned (record { epoch = e i; interval = heartbeat_interval; count = length slots }); written = 0 }) in
    let gone = heard_group g c.hear.new.group p.0 a.b.tick a.e slots a.list.now c.hear.new.list c.hear.result s.member (seat_found g a.b l p f) d in
    acceptance c.hear.result g c.hear.new.group a.records.now c.hear.new.list (ap (λ (r : Outcome). r.answer) says) tt d.topics_stay
    ((λ i. took (says i) (gone i) a.records.now (d.told q.fits i))
    ∙ sym (stays_so (view g) s (asked a.b l) slots (same_id g a.b l p f) given q.same_subscription q.same_timeout (omega (arith, q.reached, e)) q.quiet a.records.now a.list.now q.fits)
    ∙ sym (rows_passed (view g) (asked a.b l) a.e a.records.now a.list.now t h f.found (who g a.b l p f) (eq-eqb _ _ e) good))

pub returns-then-lists_badly : goal.returns-then-lists_badly
unfolding request_of
returns-then-lists_badly c =
    let a = c.args in
    let g = a.group.now in
    let t = clock g a.b.tick c.goes_back.ensures c.if-goes_back.false in
    let h = sym c.is_malformed_beside_list.ensures ∙ c.if-is_malformed_beside_list.false in
    refusal (row_list (view g) (request_of a.b a.owned.now) a.e a.records.now a.list.now t h (badly c.given_list-given.ensures c.lists_badly.ensures c.if-lists_badly.true))

pub returns : goal.returns
unfolding request_of
returns c =
    let a = c.args in
    let g = a.group.now in
    let l = owned_of a.b.has_list a.owned.now in
    let p = c.in-Some.p in
    let t = clock g a.b.tick c.goes_back.ensures c.if-goes_back.false in
    let h = sym c.is_malformed_beside_list.ensures ∙ c.if-is_malformed_beside_list.false in
    let f = hit c.in-Some.is (known_in g a.b.id _ c.find.ensures) in
    let e = c.if-e-epoch_at.false ∙ c.epoch_at.ensures in
    let good = badly c.given_list-given.ensures c.lists_badly.ensures c.if-lists_badly.false in
    let s = view_sender (sender_at g.members.cells p) in
    let done = c.ordinary_at.ensures (sends g a.b l p f (or_false _ _ h).0) in (
      done.0,
      done.1,
      done.2
          ∙ ap (λ (o : Option (List ℕ)). ordinary_step (view g) s (asked a.b o) a.records.now a.list.now) c.given_list-given.ensures
          ∙ sym (rows_passed (view g) (asked a.b l) a.e a.records.now a.list.now t h f.found (who g a.b l p f) (eq-eqb _ _ e) good),
    )
