-- What the tasks of a picture are after one of them has been changed.
use Rattle.std.proofs.Common.{◌≡◌, ℕ, eqb, ◌≢◌, List, refl, ap, ◌∙◌, subst}
use Rattle.std.proofs.lemmas.Bool.{cond_both, cond-false, cond-true, eq-eqb, eqb-false, eqb-true, ne_eqb}
use Rattle.rules.specs.Changes.{mark, put, turn, with_frames, with_status}
use Rattle.rules.specs.Picture.{at, frames, Picture, status, Task}
use Rattle.rules.specs.declared.vocabulary.Frame.{Frame}
use Rattle.rules.specs.declared.vocabulary.Status.{Status}

-- a function changed at i
pub at_same : {A : Type 0} (f : ℕ → A) (i : ℕ) (v : A) → at f i v i ≡ v
at_same f i v = cond-true (eqb i i) v (f i) (eq-eqb i i refl)

pub at_other : {A : Type 0} (f : ℕ → A) (i : ℕ) (v : A) (j : ℕ) → i ≢ j → at f i v j ≡ f j
at_other f i v j n = cond-false (eqb i j) v (f j) (ne_eqb i j n)

-- to prove something of every task after a change at i, prove it of the new one and of the others
pub at_each : {A : Type 0} (P : ℕ → A → Type 0) (f : ℕ → A) (i : ℕ) (v : A) → P i v → ((t : ℕ) → i ≢ t → P t (f t)) → (t : ℕ) → P t (at f i v t)
at_each P f i v x y t = cond_both (eqb i t) v (f t) (P t) (λ e. subst (λ j. P j v) (eqb-true i t e) x) (λ e. y t (eqb-false i t e))

-- the picture with one task marked or turned
pub mark_status : (p : Picture) (t : ℕ) (s : Status) → status (mark p t s) t ≡ s
mark_status p t s = ap (λ (k : Task). k.status) (at_same p.task t (with_status (p.task t) s))

pub mark_other : (p : Picture) (t : ℕ) (s : Status) (x : ℕ) → (t ≡ x → ⊥) → (mark p t s).task x ≡ p.task x
mark_other p t s x n = at_other p.task t (with_status (p.task t) s) x n

pub mark_frames : (p : Picture) (t : ℕ) (s : Status) (x : ℕ) → frames (mark p t s) x ≡ frames p x
mark_frames p t s = at_each (λ x w. w.frames ≡ frames p x) p.task t (with_status (p.task t) s) refl (λ x _. refl)

-- the masters stay, where the new task has the master of the old
pub put_master : (p : Picture) (i : ℕ) (u : Task) → u.master ≡ (p.task i).master → (d : ℕ) → ((put p i u).task d).master ≡ (p.task d).master
put_master p i u e = at_each (λ j w. w.master ≡ (p.task j).master) p.task i u e (λ j _. refl)

pub mark_master : (p : Picture) (t : ℕ) (s : Status) (x : ℕ) → ((mark p t s).task x).master ≡ (p.task x).master
mark_master p t s = put_master p t (with_status (p.task t) s) refl

pub turn_same : (p : Picture) (t : ℕ) (s : Status) (fs : List Frame) → (turn p t s fs).task t ≡ with_frames (with_status (p.task t) s) fs
turn_same p t s fs = at_same p.task t (with_frames (with_status (p.task t) s) fs)

pub turn_other : (p : Picture) (t : ℕ) (s : Status) (fs : List Frame) (x : ℕ) → (t ≡ x → ⊥) → (turn p t s fs).task x ≡ p.task x
turn_other p t s fs x n = at_other p.task t (with_frames (with_status (p.task t) s) fs) x n

pub turn_master : (p : Picture) (t : ℕ) (s : Status) (fs : List Frame) (x : ℕ) → ((turn p t s fs).task x).master ≡ (p.task x).master
turn_master p t s fs = put_master p t (with_frames (with_status (p.task t) s) fs) refl

pub turn_status : (p : Picture) (t : ℕ) (s : Status) (fs : List Frame) → status (turn p t s fs) t ≡ s
turn_status p t s fs = ap (λ (k : Task). k.status) (turn_same p t s fs)

pub turn_frames : (p : Picture) (t : ℕ) (s : Status) (fs : List Frame) → frames (turn p t s fs) t ≡ fs
turn_frames p t s fs = ap (λ (k : Task). k.frames) (turn_same p t s fs)

pub status_same : (f : ℕ → Task) (i : ℕ) (u : Task) → (at f i u i).status ≡ u.status
status_same f i u = ap (λ (t : Task). t.status) (at_same f i u)

pub frames_same : (f : ℕ → Task) (i : ℕ) (u : Task) → (at f i u i).frames ≡ u.frames
frames_same f i u = ap (λ (t : Task). t.frames) (at_same f i u)

pub status_under : (f : ℕ → Task) (i j : ℕ) (u v : Task) → j ≢ i → (at (at f i u) j v i).status ≡ u.status
status_under f i j u v n = ap (λ (t : Task). t.status) (at_other (at f i u) j v i n ∙ at_same f i u)
