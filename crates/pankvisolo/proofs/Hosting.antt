-- A run of the library is one of the coordinator: the numbers of a step's answer stand for that answer, since an accepted event is answered by its kind and no two
-- refusals have the same number. So demand 3 of the coordinator is demand 3 of the library.
use Rattle.std.proofs.Common.{◌≡◌, refl, ap, ◌∙◌, subst, List, [], ◌∷◌, ◌++◌, map}
use Rattle.std.proofs.lemmas.List.{map-append}
use Rattle.std.proofs.Math.Option.{Option, none, some}
use Rattle.rules.specs.Group as G
use Rattle.rules.specs.Event.{Event, Request, heartbeat, sweep, topic, install}
use Rattle.rules.specs.Answers.{said}
use Rattle.rules.specs.Refusals.{Kind, joins, leaves, invalid, ordinary, kind_of}
use Rattle.rules.specs.Effects.{effect, heartbeat_effect, join_effect, join_at, leave_effect, leave_at, ordinary_at, sweep_effect, sweep_of, topic_effect, install_effect}
use Rattle.rules.specs.Step.{step, carry_out, verdict}
use Rattle.rules.specs.Course.{stepped}
use Rattle.rules.specs.declared.Refusal.{Refusal}
use Rattle.rules.specs.declared.Refusal.TheVariants.{Clock, InvalidRequest, UnknownMemberId, GroupMaxSizeReached, FencedMemberEpoch, BadTarget, Stale, Already, BadTopic, EpochEnd, Room}
use Rattle.rules.specs.declared.Answer.TheVariants.{Refused}
use Rattle.group.specs.declared.Group.{Group}
use Rattle.group.specs.View.{view}
use Rattle.events.specs.Outcomes.{took}
use Rattle.coordinator.specs.Runs as C
use Rattle.coordinator.specs.Runs.{RunsSettle, RunsSingleHolder}
use Rattle.pankvisolo.specs.Replies.{Report, replied, report_of}
use Rattle.pankvisolo.specs.Decoding.{Decodes, answer_to, refusal_with}
use Rattle.pankvisolo.specs.Runs.{Exchange, LibrarySettles, LibrarySingleHolder, Run, decoded}

-- ---- the numbers stand for the answer

refusal_told : (e : Event) (r : Refusal) → answer_to e (said (Refused r)) ≡ Refused r
unfolding answer_to refusal_with
refusal_told e Clock = refl
refusal_told e InvalidRequest = refl
refusal_told e UnknownMemberId = refl
refusal_told e GroupMaxSizeReached = refl
refusal_told e FencedMemberEpoch = refl
refusal_told e (BadTarget slot) = refl
refusal_told e Stale = refl
refusal_told e Already = refl
refusal_told e BadTopic = refl
refusal_told e EpochEnd = refl
refusal_told e Room = refl

heartbeat_told : (g : G.Group) (b : Request) (k : Kind) → answer_to (heartbeat b) (said (heartbeat_effect g b k).answer) ≡ (heartbeat_effect g b k).answer
unfolding answer_to heartbeat_effect join_effect join_at leave_effect leave_at ordinary_at
heartbeat_told g b joins = refl
heartbeat_told g b leaves = refl
heartbeat_told g b invalid = refl
heartbeat_told g b (ordinary e) = refl

accepted_told : (g : G.Group) (e : Event) → answer_to e (said (effect g e).answer) ≡ (effect g e).answer
unfolding answer_to effect sweep_effect sweep_of topic_effect install_effect
accepted_told g (heartbeat b) = heartbeat_told g b (kind_of b.epoch)
accepted_told g (sweep tick) = refl
accepted_told g (topic t id n) = refl
accepted_told g (install rule e entries) = refl

pub decodes : Decodes
unfolding Decodes step carry_out
decodes g e buffer list = go (verdict g e buffer list)
  where
    go : (v : Option Refusal) → let r = carry_out v g (effect g e) buffer list in answer_to e (said r.answer) ≡ r.answer
    go (some r) = refusal_told e r
    go none = accepted_told g e

-- ---- runs

decoded_run : (xs : List Exchange) (g : Group) → Run g xs → C.Run g (map decoded xs)
unfolding Decodes took replied report_of stepped
decoded_run [] g r = tt
decoded_run (x ∷ xs) g r =
    let q = r.0.steps in
    let t = x.call in
    let answer = ap (λ (s : Report). answer_to t.event s.said) q ∙ decodes (view g) t.event t.buffer t.list in
    ((λ i. record { answer = answer i; group = (q i).group; written = (q i).written; buffer = (q i).buffer; list = (q i).list }), decoded_run xs x.group r.1)

pub library_single_holder : (g : Group) → RunsSingleHolder g → LibrarySingleHolder g
unfolding RunsSingleHolder LibrarySingleHolder
library_single_holder g single xs r typed = single (map decoded xs) (decoded_run xs g r) typed

pub library_settles : (g : Group) → RunsSettle g → LibrarySettles g
unfolding RunsSettle LibrarySettles
library_settles g settle before first second third r =
    let rest = map-append decoded first (second ++ third) ∙ ap (λ (l : List C.Exchange). map decoded first ++ l) (map-append decoded second third) in
    let whole = map-append decoded before (first ++ (second ++ third)) ∙ ap (λ (l : List C.Exchange). map decoded before ++ l) rest in
    settle (map decoded before) (map decoded first) (map decoded second) (map decoded third)
    (subst (C.Run g) whole (decoded_run (before ++ (first ++ (second ++ third))) g r))
