-- A reply has the numbers of the outcome that it was made of: so what a function of the coordinator ensures is what the library's ensures.
use Rattle.std.proofs.Common.{ℕ, ◌≡◌, refl, sym, ap, ◌∙◌, subst, List}
use Rattle.rules.specs.Answers.{Said, said}
use Rattle.rules.specs.Event.{Event}
use Rattle.rules.specs.Step.{step}
use Rattle.rules.specs.declared.Answer.{Answer}
use Rattle.rules.specs.declared.Answer.TheVariants.{Assigned, Left, Swept, Done, Refused}
use Rattle.group.specs.declared.Group.{Group}
use Rattle.group.specs.View.{view}
use Rattle.events.specs.declared.Outcome.{Outcome}
use Rattle.events.specs.Outcomes.{took, SameIfRefused, Becomes}
use Rattle.pankvisolo.specs.declared.Reply.{Reply}
use Rattle.pankvisolo.specs.Replies.{Tells, replied, report_of, Serves}

-- a number that is not 0 is a refusal's
same : (a : Answer) {A : Type 0} (x y : A) → SameIfRefused a x y → ((said a).number ≡ 0 → ⊥) → y ≡ x
same (Assigned s) x y e h = absurd (h refl)
same Left x y e h = absurd (h refl)
same (Swept n) x y e h = absurd (h refl)
same Done x y e h = absurd (h refl)
same (Refused why) x y e h = e

pub serves : {Kept : Type 0} (kept : Group → Kept) (o : Outcome) {r : Reply} → Tells o r → (event : Event) (g g' : Group) (records records' list list' : List ℕ)
    → Becomes kept o g g' records' list' (λ h. step h event records list) → Serves event g g' r records records' list list'
unfolding replied report_of took
serves kept o says event g g' records records' list list' b = record {
  steps = (λ i. record { said = says.0 i; group = view g'; written = says.1 i; buffer = records'; list = list' }) ∙ ap report_of b.2;
  keeps = λ h. same o.answer g g' b.0 (λ z. h (ap (λ (s : Said). s.number) says.0 ∙ z));
}

-- the same of an event that is another's equal
pub same_event : {e e' : Event} {g g' : Group} {r : Reply} {records records' list list' : List ℕ}
    → e' ≡ e → Serves e' g g' r records records' list list' → Serves e g g' r records records' list list'
same_event {g = g} {g' = g'} {r = r} {records = b} {records' = b'} {list = l} {list' = l'} is s = subst (λ (x : Event). Serves x g g' r b b' l l') is s
