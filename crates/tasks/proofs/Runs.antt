-- Runs of the code's pictures: a new one, and one more event.
use Rattle.std.proofs.Common.{◌≡◌, ℕ, List, [], ◌∷◌, ◌++◌, map, length, get_or, set, ◌≤◌, ◌<◌, Ok, Err, Result, sym, ap, ◌∙◌, subst, inl, inr, arith}
use mathlib.Core.Path.{fun_ext}
use mathlib.Core.Logic.{∥∥₁_map, ∥∥₁_prop}
use Rattle.std.proofs.lemmas.List.{get_or_past}
use Rattle.std.proofs.lemmas.Bool.{cases_lt}
use Rattle.refusals.specs.declared.Refusal.{Refusal}
use Rattle.refusals.specs.Checks.{FirstRefusal}
use Rattle.rules.specs.declared.vocabulary.Status.TheVariants.{Running}
use Rattle.rules.specs.declared.vocabulary.Action.{Action}
use Rattle.rules.specs.declared.vocabulary.Event.{Event}
use Rattle.rules.specs.declared.vocabulary.Outcome.{Outcome}
use Rattle.rules.specs.Limits.{most_tasks}
use Rattle.rules.specs.Events.{◌does◌}
use Rattle.rules.specs.Picture.{Picture, Task, fresh, unborn, status}
use Rattle.rules.specs.Changes.{put, with_status}
use Rattle.rules.specs.Rules.{Acts, Step, Steps, none, more}
use Rattle.rules.specs.Refusals.{action_checks}
use Rattle.tasks.specs.declared.record.TaskRecord.{TaskRecord}
use Rattle.arrayvec.specs.ArrayVec.{ArrayVec}
use Rattle.tasks.specs.declared.ids.TaskId.{TaskId}
use Rattle.tasks.specs.declared.tables.Tables.{Tables}
use Rattle.tasks.specs.View.{view, task_of, line_of, blank}
use Rattle.tasks.specs.Promises.{IsReached, Answered, Did}
use Rattle.tasks.specs.declared.picture.Picture.{Picture as CodePicture}
use Rattle.tasks.specs.Telling.{Told}
use Rattle.tasks.proofs.Views.{view_put}

-- ---- the answer to an event, from the answer to its action

pub told : (p q : Tables) (v : Event) (a : ℕ) (x : Action) (r : Result Outcome Refusal) → a ≡ v.actor → v.action ≡ x → Acts (view p) a → Did p a x r q → Answered p v r q
told p q v a x (Ok o) i j acts d = subst (λ w. Step (view p) w o (view q)) (event i j) d
  where
    event : a ≡ v.actor → v.action ≡ x → (a does x) ≡ v
    event e f = ap (λ k. k does x) e ∙ ap (λ y. v.actor does y) (sym f)
told p q v a x (Err n) i j acts d =
    (inr ((λ h. omega (arith, acts.0, i)), inr ((λ h. h (subst (λ k. status (view p) k ≡ Running) i acts.1)), subst (λ k. FirstRefusal (action_checks (view p) k v.action) n) i (subst (λ y. FirstRefusal (action_checks (view p) a y) n) (sym j) d.0))), d.1)

-- ---- one more event

steps_on : {p q r : Picture} {vs : List Event} {v : Event} {o : Outcome} → Steps p vs q → Step q v o r → Steps p (vs ++ (v ∷ [])) r
steps_on none s = more s none
steps_on (more k t) s = more k (steps_on t s)

pub still_reached : (p q : Tables) (v : Event) (r : Result Outcome Refusal) → Answered p v r q → IsReached (view p) → IsReached (view q)
still_reached p q v (Ok o) s x = ∥∥₁_map x (λ y. (y.0 ++ (v ∷ []), steps_on y.1 s))
still_reached p q v (Err n) s x = subst (λ (t : Tables). IsReached (view t)) (sym s.1) x

-- a picture is its tables: that they are reached has one proof
same_picture : (p q : CodePicture) → q.tables ≡ p.tables → q ≡ p
same_picture p q e = subst (λ (t : Tables). (x : IsReached (view t)) → q ≡ record { tables = t; reached = x }) e (λ x. ap (λ y. record { tables = q.tables; reached = y }) (∥∥₁_prop q.reached x)) p.reached

pub told_by : (p q : CodePicture) (v : Event) (r : Result Outcome Refusal) → Answered p.tables v r q.tables → Told p v r q
told_by p q v (Ok o) s = s
told_by p q v (Err n) s = (s.0, same_picture p q s.1)

-- ---- a new picture

pub new_view : (xs : List TaskRecord) (r : TaskRecord) (s : ArrayVec TaskId) (f : 1 ≤ most_tasks) → length xs ≡ most_tasks → ((k : ℕ) → k < most_tasks → task_of (get_or xs k blank) ≡ unborn)
    → task_of r ≡ with_status unborn Running → s.items ≡ []
    → view (record { tasks = set xs 0 r; begun = 1; arrivals = s; few = f }) ≡ fresh
new_view xs r s f l eb er es =
    view_put (record { tasks = xs; begun = 1; arrivals = s; few = f }) 0 r (omega arith)
    ∙ ap (λ (g : ℕ → Task). put (record { begun = 1; task = g; arrivals = line_of s }) 0 (task_of r)) (fun_ext each)
    ∙ ap (λ (v : Task). put (record { begun = 1; task = λ k. unborn; arrivals = line_of s }) 0 v) er
    ∙ ap (λ (l : List TaskId). put (record { begun = 1; task = λ k. unborn; arrivals = map (λ t. t.number) l }) 0 (with_status unborn Running)) es
  where
    each : (k : ℕ) → task_of (get_or xs k blank) ≡ unborn
    each k = elim (cases_lt k most_tasks) [ inl h ↦ eb k h | inr h ↦ ap task_of (get_or_past xs k blank (omega arith)) ]
