-- How what the tables stand for follows their parts.
use Rattle.std.proofs.Common.{◌≡◌, ℕ, ◌+◌, ◌^◌, ◌<◌, ◌≤◌, Bool, true, false, cond, eqb, ◌≢◌, List, length, get_or, take, set, MatchBool, sym, refl, ap, ◌∙◌, subst, inl, inr, arith}
use mathlib.Core.Path.{fun_ext}
use Rattle.std.specs.List.{AllWithin, HoldsAt}
use Rattle.std.proofs.lemmas.List.{get_or-set_same, get_or-set_other, get_or_default, get_or_past, get_or-take}
use Rattle.std.proofs.lemmas.Bool.{eqb-true, eqb-false, cases_lt, cases_eq}
use Rattle.rules.specs.declared.vocabulary.Event.{Event}
use Rattle.rules.specs.declared.vocabulary.Outcome.{Outcome}
use Rattle.rules.specs.Picture.{Picture, Task}
use Rattle.rules.specs.Changes.{put}
use Rattle.rules.specs.Rules.{Step, IsOpenSet}
use Rattle.tasks.specs.declared.open_set.OpenSet.{OpenSet}
use Rattle.tasks.specs.declared.record.TaskRecord.{TaskRecord}
use Rattle.tasks.specs.declared.tables.Tables.{Tables}
use Rattle.rules.specs.declared.vocabulary.Status.TheVariants.{Terminated}
use Rattle.tasks.specs.Says.{Says}
use Rattle.tasks.specs.View.{task_of, view, blank}

-- ---- one record changed

pub view_put : (p : Tables) (i : ℕ) (r : TaskRecord) → i < length p.tasks
    → view (record { tasks = set p.tasks i r; begun = p.begun; arrivals = p.arrivals; few = p.few }) ≡ put (view p) i (task_of r)
view_put p i r h = ap (λ (f : ℕ → Task). record { begun = p.begun; task = f; arrivals = (view p).arrivals }) (fun_ext each)
  where
    each : (k : ℕ) → task_of (get_or (set p.tasks i r) k blank) ≡ cond (eqb i k) (task_of r) (task_of (get_or p.tasks k blank))
    each k = go (eqb i k) refl
      where
        go : (b : Bool) → eqb i k ≡ b → task_of (get_or (set p.tasks i r) k blank) ≡ cond b (task_of r) (task_of (get_or p.tasks k blank))
        go true e = let q = sym (eqb-true i k e) in ap (λ j. task_of (get_or (set p.tasks i r) j blank)) q ∙ ap task_of (get_or-set_same p.tasks i r blank h)
        go false e = ap task_of (get_or-set_other p.tasks i k r blank (λ q. eqb-false i k e (sym q)))

-- d is whatever a read of the array had for its default
pub changed : (p : Tables) (i : ℕ) (d r : TaskRecord) (F : Task → Task) → i < length p.tasks → task_of r ≡ F (task_of (get_or p.tasks i d))
    → view (record { tasks = set p.tasks i r; begun = p.begun; arrivals = p.arrivals; few = p.few }) ≡ put (view p) i (F ((view p).task i))
changed p i d r F h e = view_put p i r h ∙ ap (put (view p) i) (e ∙ ap (λ t. F (task_of t)) (get_or_default p.tasks i d blank h))

-- the step that the code made, where its picture is the one that the step makes
pub arrived : {P Q R : Picture} {v : Event} {o : Outcome} → R ≡ Q → Step P v o Q → Step P v o R
arrived {P} {Q} {R} {v} {o} q s = subst (λ X. Step P v o X) (sym q) s

-- ---- all records changed, one after another

-- the records below i are those of ys, changed by F, and the others are as in ys
pub record Changed (F : Task → Task) (ys xs : List TaskRecord) (i : ℕ) : Type 0 where
  pub done : (k : ℕ) → k < i → task_of (get_or xs k blank) ≡ F (task_of (get_or ys k blank))
  pub left : (k : ℕ) → i ≤ k → get_or xs k blank ≡ get_or ys k blank

-- one more; d is whatever a read had for its default
pub changed_more : (F : Task → Task) (ys xs : List TaskRecord) (i : ℕ) (d r : TaskRecord) → Changed F ys xs i → i < length xs
    → task_of r ≡ F (task_of (get_or xs i d)) → Changed F ys (set xs i r) (i + 1)
changed_more F ys xs i d r c h e = record {
  done = λ k b. elim (cases_eq k i) [
    | inl q ↦ ap (λ j. task_of (get_or (set xs i r) j blank)) q ∙ ap task_of (get_or-set_same xs i r blank h) ∙ e ∙ ap (λ t. F (task_of t)) (get_or_default xs i d blank h)
        ∙ ap (λ t. F (task_of t)) (c.left i (omega arith)) ∙ ap (λ j. F (task_of (get_or ys j blank))) (sym q)
    | inr n ↦ ap task_of (get_or-set_other xs i k r blank n) ∙ c.done k (omega arith)
  ];
  left = λ k b. get_or-set_other xs i k r blank (omega arith) ∙ c.left k (omega arith);
}

-- all of them
pub changed_all : (F : Task → Task) (ys xs : List TaskRecord) (i : ℕ) → Changed F ys xs i → length xs ≤ i → F (task_of blank) ≡ task_of blank
    → ◌≡◌ {A = ℕ → Task} (λ k. task_of (get_or xs k blank)) (λ k. F (task_of (get_or ys k blank)))
changed_all F ys xs i c h e = fun_ext (λ k. elim (cases_lt k i) [
  | inl b ↦ c.done k b
  | inr b ↦ (let past = get_or_past xs k blank (omega arith) in
      ap task_of past ∙ sym e ∙ ap (λ t. F (task_of t)) (sym past) ∙ ap (λ t. F (task_of t)) (c.left k b))
])

-- ---- what is asked of all tasks that have begun

-- yes and no, of the same thing in other words
pub says_so : {P Q : Type 0} (b : Bool) → (P → Q) → (Q → P) → Says b P → Says b Q
says_so true to from s = to s
says_so false to from s = λ q. s (from q)

-- the answer of a search through the records of the tasks that have begun
module _ (p : Tables) (P : TaskRecord → Type 0) where
  abbrev Searched : List TaskRecord → Bool → Type 0
  Searched xs b = MatchBool b (AllWithin (λ r. P r → r.status ≡ Terminated) xs 0 (length xs)) ((k : ℕ) × (k < length xs) × HoldsAt (λ r. P r × (r.status ≢ Terminated)) xs k)

  abbrev AllTerminated : Type 0
  AllTerminated = (d : ℕ) → d < p.begun → P (get_or p.tasks d blank) → (get_or p.tasks d blank).status ≡ Terminated

  says_all : (b : Bool) → length (take p.begun p.tasks) ≡ p.begun → Searched (take p.begun p.tasks) b → Says b AllTerminated
  says_all true l h = λ d k. subst (λ r. P r → r.status ≡ Terminated) (get_or-take p.begun p.tasks d blank k) (h d blank (omega arith) (omega arith))
  says_all false l h = λ all. let k : h.0 < p.begun = omega (arith, h.1) in let w = subst (λ r. P r × (r.status ≢ Terminated)) (get_or-take p.begun p.tasks h.0 blank k) (h.2 blank) in w.1 (all h.0 k w.0)

  pub tells_begun : (b : Bool) (xs : List TaskRecord) → xs ≡ take p.begun p.tasks → length xs ≡ p.begun → Searched xs b → Says b AllTerminated
  tells_begun b xs e = subst (λ ys. length ys ≡ p.begun → Searched ys b → Says b AllTerminated) (sym e) (says_all b)

-- a set that was made of these is open
pub proper : (o : OpenSet) {m n : ℕ} → o.mask ≡ m → o.entries ≡ n → IsOpenSet n m
proper o {m} {n} e f = (subst (λ k. 0 < k) e o.some, subst (λ k. k < 2 ^ n) e (subst (λ k. o.mask < 2 ^ k) f o.own))
