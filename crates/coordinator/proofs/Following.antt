-- A run of the code is a run of the rules: the contracts say so of each exchange, so the course of the one stands for that of the other, and demand 3 of the
-- rules is demand 3 of the code.
use Rattle.std.proofs.Common.{◌≡◌, refl, sym, ap, ◌∙◌, subst, List, [], ◌∷◌, ◌++◌}
use Rattle.std.proofs.lemmas.List.{map-append}
use Rattle.rules.specs.Course as R
use Rattle.rules.specs.Course.{Call, HeldByOne, SingleHolder, observe, seen_of, stepped}
use Rattle.rules.specs.Rounds.{ThreeRounds}
use Rattle.group.specs.declared.Group.{Group}
use Rattle.group.specs.View.{view}
use Rattle.events.specs.Outcomes.{took}
use Rattle.coordinator.specs.Runs.{Course, Exchange, Run, RunsSettle, RunsSingleHolder, begun, calls_of, course_after, next, shown, view_course}

follows_one : (c : Course) (x : Exchange) → shown x ≡ stepped (view c.group) x.call → view_course (next c x) ≡ R.next (view_course c) x.call
unfolding view_course next R.next took
follows_one c x e = λ i. record { group = (e i).group; history = observe c.history (seen_of x.call.event (e i)) }

follows : (xs : List Exchange) (c : Course) → Run c.group xs → view_course (course_after c xs) ≡ R.course_after (view_course c) (calls_of xs)
unfolding course_after R.course_after next
follows [] c r = refl
follows (x ∷ xs) c r = follows xs (next c x) r.1 ∙ ap (λ (d : R.Course). R.course_after d (calls_of xs)) (follows_one c x r.0)

pub run_follows : (xs : List Exchange) (g : Group) → Run g xs → view_course (course_after (begun g) xs) ≡ R.course_after (R.begun (view g)) (calls_of xs)
unfolding begun R.begun view_course
run_follows xs g r = follows xs (begun g) r

run_front : (xs ys : List Exchange) (g : Group) → Run g (xs ++ ys) → Run g xs
run_front [] ys g r = tt
run_front (x ∷ xs) ys g r = (r.0, run_front xs ys x.group r.1)

pub runs_single_holder : (g : Group) → SingleHolder (view g) → RunsSingleHolder g
unfolding RunsSingleHolder SingleHolder view_course
runs_single_holder g single xs r typed = subst (λ (c : R.Course). HeldByOne c.history.ledger) (sym (run_follows xs g r)) (single (calls_of xs) typed)

pub runs_settle : (g : Group) → ThreeRounds (view g) → RunsSettle g
unfolding RunsSettle ThreeRounds view_course
runs_settle g rounds before first second third r typed typed' i force regular one two three p id named =
    let rest = first ++ (second ++ third) in
    let past : view_course (course_after (begun g) before) ≡ R.course_after (R.begun (view g)) (calls_of before) = run_follows before g (run_front before rest g r) in
    let rounds-calls : calls_of rest ≡ calls_of first ++ (calls_of second ++ calls_of third) =
    map-append _ first (second ++ third) ∙ ap (λ (l : List Call). calls_of first ++ l) (map-append _ second third) in
    let all-calls : calls_of (before ++ rest) ≡ calls_of before ++ (calls_of first ++ (calls_of second ++ calls_of third)) =
    map-append _ before rest ∙ ap (λ (l : List Call). calls_of before ++ l) rounds-calls in
    let known : (course_after (begun g) before).history ≡ (R.course_after (R.begun (view g)) (calls_of before)).history = ap (λ (c : R.Course). c.history) past in
    let settled = rounds (calls_of before) typed i (rw known at force) (calls_of first) (calls_of second) (calls_of third)
    (rw rounds-calls at typed') (rw (past, rounds-calls) at regular) (rw known at one) (rw known at two) (rw known at three) p id (rw known at named) in
    rw (run_follows (before ++ rest) g r, all-calls) settled
