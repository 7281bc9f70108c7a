-- A task that is not named has a way out: moves are made until it runs or has ended, and each lessens a measure.
use Rattle.std.proofs.Common.{◌≡◌, ℕ, zero, suc, ◌<◌, ◌≤◌, T, eqb, ◌≢◌, ◌⊎◌, List, [], ◌++◌, length, sym, ap, subst, inl, inr, arith, eqb→eq}
use lib.Dec.{not_T}
use Rattle.rules.specs.Book.{LargestShutPoints, Named, Points}
use Rattle.rules.specs.Dead.{Dead}
use Rattle.rules.specs.Picture.{frames, Picture, status}
use Rattle.rules.specs.Rules.{Steps}
use Rattle.rules.specs.Rules.Steps.{more, none}
use Rattle.rules.specs.declared.vocabulary.Event.{Event}
use Rattle.rules.specs.declared.vocabulary.Status.{Status}
use Rattle.rules.specs.declared.vocabulary.Status.TheVariants.{Accepting, Completed, Engaged, Leaving, NotBegun, Queued, Running, Terminated}
use Rattle.rules.proofs.Basics.Decide.{dec_T}
use Rattle.rules.proofs.Basics.Statuses.{dec_running, dec_terminated, kind, running, terminated}
use Rattle.rules.proofs.Basics.Totals.{total, total_less}
use Rattle.rules.proofs.Invariant.Reached.{sound_steps}
use Rattle.rules.proofs.Invariant.Sound.{Sound}
use Rattle.rules.proofs.WaysOut.Eased.{Alive, alive_eased, Eased, Popped, Turned}
use Rattle.rules.proofs.WaysOut.Moves.{load, Move, rank}
use Rattle.rules.proofs.WaysOut.Search.{move}
use Rattle.rules.proofs.WaysOut.Stuck.{still, still_shut, Stuck}

rank_less : (s r : Status) → Turned s r → rank r ≤ rank s
rank_less NotBegun r e = omega (arith, ap rank e)
rank_less Running r (inl e) = omega (arith, ap rank e)
rank_less Running r (inr (inl e)) = omega (arith, ap rank e)
rank_less Running r (inr (inr e)) = omega (arith, ap rank e)
rank_less (Queued _ _) r (inl e) = omega (arith, ap rank e)
rank_less (Queued _ _) r (inr e) = omega (arith, ap rank e)
rank_less (Engaged _) r (inl e) = omega (arith, ap rank e)
rank_less (Engaged _) r (inr e) = omega (arith, ap rank e)
rank_less (Accepting _) r (inl e) = omega (arith, ap rank e)
rank_less (Accepting _) r (inr e) = omega (arith, ap rank e)
rank_less Leaving r (inl e) = omega (arith, ap rank e)
rank_less Leaving r (inr e) = omega (arith, ap rank e)
rank_less Completed r (inl e) = omega (arith, ap rank e)
rank_less Completed r (inr e) = omega (arith, ap rank e)
rank_less Terminated r e = omega (arith, ap rank e)

frames_less : (p q : Picture) (x : ℕ) → Popped p q x → length (frames q x) ≤ length (frames p x)
frames_less p q x (inl e) = omega (arith, ap length e)
frames_less p q x (inr (_, inl e)) = omega (arith, ap length e)
frames_less p q x (inr (_, inr (_, _, e, _))) = omega (arith, ap length e)

load_less : (p q : Picture) → Eased p q → (x : ℕ) → load q x ≤ load p x
load_less p q h x = omega (arith, rank_less (status p x) (status q x) (h.turned x), frames_less p q x (h.popped x))

move_less : (p : Picture) (m : Move p) → total (load m.after) m.after.begun < total (load p) p.begun
move_less p m = subst (λ (n : ℕ). total (load m.after) n < total (load p) p.begun) (sym m.eased.begun)
    (total_less (load m.after) (load p) (load_less p m.after m.eased) m.actor m.lighter p.begun m.actor_begun)

pub steps_append : {p q r : Picture} {vs ws : List Event} → Steps p vs q → Steps q ws r → Steps p (vs ++ ws) r
steps_append none t = t
steps_append (more s u) t = more s (steps_append u t)

-- in some list of further events t runs, or ends
abbrev pub Out : Picture → ℕ → Type 0
Out p t = (vs : List Event) × (q : Picture) × Steps p vs q × ((status q t ≡ Running) ⊎ (status q t ≡ Terminated))

stuck_out : (p : Picture) (t : ℕ) → Sound p → Alive p t → status p t ≢ Running → status p t ≢ Terminated → Stuck p → ⊥
stuck_out p t snd alive nr nt stuck = alive (still p) (still_shut p snd stuck)
    (not_T (eqb (kind (status p t)) (kind Running)) (λ h. nr (running (status p t) (eqb→eq (kind (status p t)) (kind Running) h))))
    (not_T (eqb (kind (status p t)) (kind Terminated)) (λ h. nt (terminated (status p t) (eqb→eq (kind (status p t)) (kind Terminated) h))))

out_after : (p : Picture) (t : ℕ) (m : Move p) → Out m.after t → Out p t
out_after p t m (vs, q, s, e) = (m.events ++ vs, q, steps_append m.steps s, e)

drain : (n : ℕ) (p : Picture) → total (load p) p.begun < n → Sound p → (t : ℕ) → t < p.begun → Alive p t → Out p t
drain zero p h snd t b alive = absurd (omega arith)
drain (suc n) p h snd t b alive = go (dec_running (status p t)) (dec_terminated (status p t)) (λ m k. drain n m.after k)
  where
    onward : (m : Move p) → total (load m.after) m.after.begun < n
    onward m = omega (arith, move_less p m)

    turn_to : status p t ≢ Running → status p t ≢ Terminated → Move p ⊎ Stuck p
        → ((m : Move p) → total (load m.after) m.after.begun < n → Sound m.after → (t : ℕ) → t < m.after.begun → Alive m.after t → Out m.after t) → Out p t
    turn_to nr nt (inr stuck) rec = absurd (stuck_out p t snd alive nr nt stuck)
    turn_to nr nt (inl m) rec = out_after p t m (rec m (onward m) (sound_steps snd m.steps) t (subst (λ (k : ℕ). t < k) (sym m.eased.begun) b) (alive_eased p m.after snd m.eased t nr alive))

    go : Dec (status p t ≡ Running) → Dec (status p t ≡ Terminated)
        → ((m : Move p) → total (load m.after) m.after.begun < n → Sound m.after → (t : ℕ) → t < m.after.begun → Alive m.after t → Out m.after t) → Out p t
    go (yes r) _ rec = ([], p, none, inl r)
    go (no nr) (yes e) rec = ([], p, none, inr e)
    go (no nr) (no nt) rec = turn_to nr nt (move p snd) rec

pub way_out : {p : Picture} → Sound p → (t : ℕ) → t < p.begun → Alive p t → Out p t
way_out {p} snd t b alive = drain (suc (total (load p) p.begun)) p (omega arith) snd t b alive

pub dead_named : {p : Picture} → Sound p → (s : Points) → LargestShutPoints p s → (t : ℕ) → Dead p t → Named p s t
dead_named {p} snd s left t dead = go (dec_T (s.runs t)) (dec_T (s.ends t))
  where
    dead_end : Out p t → ⊥
    dead_end (vs, q, st, e) = dead.for_ever vs q st e

    no_way : Alive p t → ⊥
    no_way alive = dead_end (way_out snd t dead.begun alive)

    go : Dec (T (s.runs t)) → Dec (T (s.ends t)) → Named p s t
    go (yes r) (yes e) = (dead.begun, dead.not_terminated, r, e)
    go (no r) _ = absurd (no_way (λ u shut h k. r ((left.largest u shut).runs t h)))
    go (yes r) (no e) = absurd (no_way (λ u shut h k. e ((left.largest u shut).ends t k)))
