-- When a task has become Terminated, what follows for its masters always has a result, and little changes in it.
use Rattle.std.proofs.Common.{◌≡◌, ℕ, zero, suc, ◌<◌, not, T, eqb, ◌≢◌, ◌⊎◌, List, ◌∷◌, length, Some, None, Option, sym, refl, ap, ◌∙◌, subst, inl, inr, arith}
use native.Mathlib.Decide.{ℕ_discrete}
use Rattle.rules.specs.Changes.{close, dismiss, let_go, mark}
use Rattle.rules.specs.Picture.{AllOver, Depends, frames, Over, Picture, status, Task, under}
use Rattle.rules.specs.Rules.{Settles}
use Rattle.rules.specs.Rules.Settles.{block_closes, master_ends, master_stays, no_master}
use Rattle.rules.specs.declared.vocabulary.Frame.{Frame}
use Rattle.rules.specs.declared.vocabulary.Frame.TheVariants.{Block}
use Rattle.rules.specs.declared.vocabulary.Master.{Master}
use Rattle.rules.specs.declared.vocabulary.Status.{Status}
use Rattle.rules.specs.declared.vocabulary.Status.TheVariants.{Accepting, Completed, Engaged, Leaving, NotBegun, Queued, Running, Terminated}
use Rattle.rules.proofs.Basics.Dependents.{dec_all_over, dec_over}
use Rattle.rules.proofs.Basics.Masters.{freed_cases}
use Rattle.rules.proofs.Basics.Queues.{dismiss_master, Sent, sent}
use Rattle.rules.proofs.Basics.Statuses.{apart, kind}
use Rattle.rules.proofs.Basics.Tasks.{mark_frames, mark_master, mark_other, mark_status, turn_frames, turn_master, turn_other, turn_status}
use Rattle.rules.proofs.Invariant.Sound.{leaving, Sound}

-- a block closes: whoever changes its master is Terminated
pub closes_master : (p : Picture) (m : ℕ) (fs : List Frame) → Over p m (suc (length fs)) → status p m ≢ Terminated
    → (x : ℕ) → x < p.begun → (((close p m fs).task x).master ≡ (p.task x).master) ⊎ (status (close p m fs) x ≡ Terminated)
closes_master p m fs over n x b = elim (freed_cases m (suc (length fs)) (p.task x).master) [
  | inl e ↦ inl (turn_master (let_go p m (suc (length fs))) m Running fs x ∙ e)
  | inr e ↦ let h = over x (b, e) in
      inr (ap (λ (k : Task). k.status) (turn_other (let_go p m (suc (length fs))) m Running fs x (λ z. n (ap (status p) z ∙ h))) ∙ h)
]

-- the same status and frames
abbrev pub Same : Task → Task → Type 0
Same k j = (j.status ≡ k.status) × (j.frames ≡ k.frames)

-- what a change makes of the master of x: nothing, unless x is Terminated
abbrev pub Bound : Picture → Picture → ℕ → Type 0
Bound p q x = ((q.task x).master ≡ (p.task x).master) ⊎ (status q x ≡ Terminated)

-- what the cascade makes of a task
abbrev pub Settled : Task → Task → Type 0
Settled k j = Same k j
    ⊎ (((k.status ≡ Leaving) × (j.status ≡ Running) × (k.frames ≡ Block ∷ j.frames))
    ⊎ ((k.status ≡ Completed) × (j.status ≡ Terminated) × (j.frames ≡ k.frames)))

abbrev Elder : Picture → Type 0
Elder p = (d m l : ℕ) → Depends p d m l → m < d

abbrev Leaves : Picture → Type 0
Leaves p = (m : ℕ) → status p m ≡ Leaving → (fs : List Frame) × (frames p m ≡ Block ∷ fs)

pub record Cascade (p : Picture) (t : ℕ) : Type 0 where
  pub after : Picture
  pub settles : Settles p t after
  pub begun : after.begun ≡ p.begun
  pub bound : (x : ℕ) → x < p.begun → Bound p after x
  pub settled : (x : ℕ) → Settled (p.task x) (after.task x)

-- a task that is Terminated already stays as it is
pub settled_end : (k j : Task) → k.status ≡ Terminated → Settled k j → Same k j
settled_end k j e (inl h) = h
settled_end k j e (inr (inl h)) = absurd (apart (sym e ∙ h.0) tt)
settled_end k j e (inr (inr h)) = absurd (apart (sym e ∙ h.0) tt)

pub elder_mark : (p : Picture) (m : ℕ) (s : Status) → Elder p → Elder (mark p m s)
elder_mark p m s h d n l dep = h d n l (dep.0, sym (mark_master p m s d) ∙ dep.1)

pub leaves_mark : (p : Picture) (m : ℕ) → Leaves p → Leaves (mark p m Terminated)
leaves_mark p m h x e = go (ℕ_discrete m x)
  where
    out : (fs : List Frame) × (frames p x ≡ Block ∷ fs) → (fs : List Frame) × (frames (mark p m Terminated) x ≡ Block ∷ fs)
    out (fs, f) = (fs, mark_frames p m Terminated x ∙ f)

    go : Dec (m ≡ x) → (fs : List Frame) × (frames (mark p m Terminated) x ≡ Block ∷ fs)
    go (yes z) = absurd (apart (sym (mark_status p m Terminated) ∙ (ap (status (mark p m Terminated)) z ∙ e)) tt)
    go (no n) = out (h x (sym (ap (λ (k : Task). k.status) (mark_other p m Terminated x n)) ∙ e))

abbrev Cascades : ℕ → Type 0
Cascades n = (p : Picture) (t : ℕ) → t < n → t < p.begun → Elder p → Leaves p → Cascade p t

-- nothing follows
unfoldable pub stay : (p : Picture) (t : ℕ) → Settles p t p → Cascade p t
stay p t s = record { after = p; settles = s; begun = refl; bound = λ x _. inl refl; settled = λ x. inl (refl, refl) }

unfoldable pub settle_leaving : (p : Picture) (t m l : ℕ) → (p.task t).master ≡ under m l → status p m ≡ Leaving
    → (fs : List Frame) → frames p m ≡ Block ∷ fs → Dec (l ≡ suc (length fs)) → Dec (Over p m (suc (length fs))) → Cascade p t
unfolding stay
settle_leaving p t m l e s fs f (yes h) (yes o) = record {
  after = close p m fs;
  settles = block_closes (e ∙ ap (λ (k : ℕ). under m k) h) s f o;
  begun = refl;
  bound = closes_master p m fs o (λ z. apart (sym s ∙ z) tt);
  settled = λ x. settled x (ℕ_discrete m x);
}
  where
    p' : Picture
    p' = let_go p m (suc (length fs))

    settled : (x : ℕ) → Dec (m ≡ x) → Settled (p.task x) ((close p m fs).task x)
    settled x (yes z) = subst (λ (y : ℕ). Settled (p.task y) ((close p m fs).task y)) z
        (inr (inl (s, turn_status p' m Running fs, f ∙ ap (λ (gs : List Frame). Block ∷ gs) (sym (turn_frames p' m Running fs)))))
    settled x (no n) = let e = turn_other p' m Running fs x n in inl (ap (λ (k : Task). k.status) e, ap (λ (k : Task). k.frames) e)
settle_leaving p t m l e s fs f (yes h) (no o) = stay p t (master_stays e (λ _ _ over. o (subst (Over p m) h over)) (λ c. absurd (apart (sym s ∙ c) tt)))
settle_leaving p t m l e s fs f (no h) _ = stay p t (master_stays e (λ _ k _. h (k ∙ ap length f)) (λ c. absurd (apart (sym s ∙ c) tt)))

unfoldable pub settle_completed : (n : ℕ) → Cascades n → (p : Picture) (t m l : ℕ) → (p.task t).master ≡ under m l → status p m ≡ Completed
    → m < n → m < p.begun → Elder p → Leaves p → Dec (AllOver p m) → Cascade p t
unfolding stay
settle_completed n rec p t m l e s h b elder leaves (no o) = stay p t (master_stays e (λ c. absurd (apart (sym s ∙ c) tt)) (λ _ over. o over))
settle_completed n rec p t m l e s h b elder leaves (yes o) = go (rec (mark p m Terminated) m h b (elder_mark p m Terminated elder) (leaves_mark p m leaves))
  where
    go : Cascade (mark p m Terminated) m → Cascade p t
    go c = record { after = c.after; settles = master_ends e s o c.settles; begun = c.begun; bound = bound; settled = λ x. settled x (ℕ_discrete m x) }
      where
        bound : (x : ℕ) → x < p.begun → Bound p c.after x
        bound x b = elim (c.bound x b) [ inl h ↦ inl (h ∙ mark_master p m Terminated x) | inr h ↦ inr h ]

        own : Same ((mark p m Terminated).task m) (c.after.task m)
        own = settled_end ((mark p m Terminated).task m) (c.after.task m) (mark_status p m Terminated) (c.settled m)

        settled : (x : ℕ) → Dec (m ≡ x) → Settled (p.task x) (c.after.task x)
        settled x (yes z) = subst (λ (y : ℕ). Settled (p.task y) (c.after.task y)) z
            (inr (inr (s, own.0 ∙ mark_status p m Terminated, own.1 ∙ mark_frames p m Terminated m)))
        settled x (no z) = subst (λ (k : Task). Settled k (c.after.task x)) (mark_other p m Terminated x z) (c.settled x)

-- the master waits for no dependent
unfoldable pub settle_other : (p : Picture) (t m l : ℕ) → (p.task t).master ≡ under m l → (s : Status) → status p m ≡ s
    → T (not (eqb (kind s) (kind Leaving))) → T (not (eqb (kind s) (kind Completed))) → Cascade p t
unfolding stay
settle_other p t m l e s z n₁ n₂ = stay p t (master_stays e (λ c. absurd (apart (sym z ∙ c) n₁)) (λ c. absurd (apart (sym z ∙ c) n₂)))

unfoldable pub settle_some : (n : ℕ) → Cascades n → (p : Picture) (t m l : ℕ) → (p.task t).master ≡ under m l
    → m < n → m < p.begun → Elder p → Leaves p → (s : Status) → status p m ≡ s → Cascade p t
unfolding settle_leaving settle_completed settle_other ℕ_discrete dec_over dec_all_over
settle_some n rec p t m l e h b elder leaves Leaving s = go (leaves m s)
  where
    go : (fs : List Frame) × (frames p m ≡ Block ∷ fs) → Cascade p t
    go (fs, f) = settle_leaving p t m l e s fs f (ℕ_discrete l (suc (length fs))) (dec_over p m (suc (length fs)))
settle_some n rec p t m l e h b elder leaves Completed s = settle_completed n rec p t m l e s h b elder leaves (dec_all_over p m)
settle_some n rec p t m l e h b elder leaves NotBegun s = settle_other p t m l e NotBegun s tt tt
settle_some n rec p t m l e h b elder leaves Running s = settle_other p t m l e Running s tt tt
settle_some n rec p t m l e h b elder leaves (Queued _ _) s = settle_other p t m l e (Queued _ _) s tt tt
settle_some n rec p t m l e h b elder leaves (Engaged _) s = settle_other p t m l e (Engaged _) s tt tt
settle_some n rec p t m l e h b elder leaves (Accepting _) s = settle_other p t m l e (Accepting _) s tt tt
settle_some n rec p t m l e h b elder leaves Terminated s = settle_other p t m l e Terminated s tt tt

unfoldable pub settle_from : (n : ℕ) → Cascades n → (p : Picture) (t : ℕ) → t < suc n → t < p.begun → Elder p → Leaves p → (o : Option Master) → (p.task t).master ≡ o → Cascade p t
unfolding stay settle_some
settle_from n rec p t h b elder leaves None e = stay p t (no_master e)
settle_from n rec p t h b elder leaves (Some k) e =
    let less : k.creator < t = elder t k.creator k.level (b, e) in
    settle_some n rec p t k.creator k.level e (omega arith) (omega arith) elder leaves (status p k.creator) refl

unfoldable pub settle : (n : ℕ) → Cascades n
unfolding settle_from
settle zero p t h b elder leaves = absurd (omega arith)
settle (suc n) p t h b elder leaves = settle_from n (settle n) p t h b elder leaves (p.task t).master refl

-- d ends: what follows for the masters
unfoldable pub end_cascade : (p : Picture) → Sound p → (d : ℕ) → d < p.begun → Cascade (mark (dismiss p d) d Terminated) d
unfolding settle
end_cascade p snd d bd = settle (suc d) p₁ d (omega arith) bd elder leaves
  where
    p₁ : Picture
    p₁ = mark (dismiss p d) d Terminated

    elder : Elder p₁
    elder x m l dep = snd.elder x m l (dep.0, sym (mark_master (dismiss p d) d Terminated x ∙ dismiss_master p d x) ∙ dep.1)

    leaves : Leaves p₁
    leaves = leaves_mark (dismiss p d) d (λ x e. away x e (sent p d x))
      where
        out : (x : ℕ) → frames (dismiss p d) x ≡ frames p x → (fs : List Frame) × (frames p x ≡ Block ∷ fs) × (Over p x (suc (length fs)) → ⊥) → (fs : List Frame) × (frames (dismiss p d) x ≡ Block ∷ fs)
        out x e (fs, f, _) = (fs, e ∙ f)

        away : (x : ℕ) → status (dismiss p d) x ≡ Leaving → Sent p d x → (fs : List Frame) × (frames (dismiss p d) x ≡ Block ∷ fs)
        away x e (inl (h, k)) = out x (ap (λ (t : Task). t.frames) h) (leaving snd x (sym (ap (λ (t : Task). t.status) h) ∙ e))
        away x e (inr (h, k)) = absurd (apart (sym (ap (λ (t : Task). t.status) h) ∙ e) tt)
