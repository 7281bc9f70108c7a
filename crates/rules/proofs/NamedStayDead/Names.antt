-- Whoever is named is dead, names stay, and an event with outcome 0, 2 or 3, or one that leaves its actor able, adds none.
use Rattle.std.proofs.Common.{◌≡◌, ℕ, ◌<◌, T, ◌≢◌, ◌⊎◌, List, sym, subst, inl, inr}
use lib.Dec.{not_T}
use Rattle.rules.specs.Book.{Able, CanEndWith, CanRunWith, LargestShutPoints, Named, outside, Points, Shut}
use Rattle.rules.specs.Dead.{Dead}
use Rattle.rules.specs.Picture.{Picture, status}
use Rattle.rules.specs.Rules.{more, none, Step, Steps}
use Rattle.rules.specs.declared.vocabulary.Action.TheVariants.{Finish}
use Rattle.rules.specs.declared.vocabulary.Event.{Event}
use Rattle.rules.specs.declared.vocabulary.Outcome.{Outcome}
use Rattle.rules.specs.declared.vocabulary.Status.TheVariants.{Running, Terminated}
use Rattle.rules.proofs.Invariant.Reached.{sound_step}
use Rattle.rules.proofs.Invariant.Sound.{Sound}
use Rattle.rules.proofs.NamedStayDead.Begin.{fewer}
use Rattle.rules.proofs.NamedStayDead.Steps.{GoesOnAfter, lasts, newest, shut_back, shut_back_going_on, shut_step}

shut_not_running : {p : Picture} {s : Points} → Shut p s → (t : ℕ) → t < p.begun → T (s.runs t) → status p t ≢ Running
shut_not_running {p} {s} h t b i e = h.runs t i (b, subst (CanRunWith p (outside s) t) (sym e) tt)

shut_not_terminated : {p : Picture} {s : Points} → Shut p s → (t : ℕ) → t < p.begun → T (s.ends t) → status p t ≢ Terminated
shut_not_terminated {p} {s} h t b i e = h.ends t i (b, subst (CanEndWith p (outside s) t) (sym e) tt)

for_ever : {p q : Picture} {vs : List Event} (t : ℕ) (s : Points) → Sound p → Shut p s → t < p.begun → T (s.runs t) → T (s.ends t)
    → Steps p vs q → (status q t ≡ Running) ⊎ (status q t ≡ Terminated) → ⊥
for_ever t s k h b i j none (inl e) = shut_not_running h t b i e
for_ever t s k h b i j none (inr e) = shut_not_terminated h t b j e
for_ever t s k h b i j (more {p} {q} {r} {v} {o} step rest) e =
    let l = lasts s t step b in
    for_ever t (fewer v s) (sound_step k step) (shut_step s k h step) l.begun (l.runs i) (l.ends j) rest e

pub named_dead : {p : Picture} (s : Points) → Sound p → Shut p s → (t : ℕ) → t < p.begun → T (s.runs t) → T (s.ends t) → Dead p t
named_dead s k h t b i j = record {
  begun = b;
  not_running = shut_not_running h t b i;
  not_terminated = shut_not_terminated h t b j;
  for_ever = λ vs q. for_ever t s k h b i j;
}

pub names_dead : {p : Picture} {s : Points} → Sound p → LargestShutPoints p s → (t : ℕ) → Named p s t → Dead p t
names_dead {p} {s} k h t n = named_dead s k h.shut t n.0 n.2 n.3

-- a name stays
pub names_stay : {p q : Picture} {v : Event} {n : Outcome} {s u : Points} → Sound p → Step p v n q → LargestShutPoints p s → LargestShutPoints q u
    → (t : ℕ) → Named p s t → Named q u t
names_stay {v = v} {s = s} {u = u} k step h g t n =
    let l = lasts s t step n.0 in
    let i = g.largest (fewer v s) (shut_step s k h.shut step) in
    let e = i.ends t (l.ends n.3) in
    (l.begun, shut_not_terminated g.shut t l.begun e, i.runs t (l.runs n.2), e)

-- a set that is shut afterwards was shut before: nobody is named anew
adds_none : {p q : Picture} {v : Event} {n : Outcome} {s u : Points} → Step p v n q → Shut p u → LargestShutPoints p s → LargestShutPoints q u
    → (t : ℕ) → Named q u t → Named p s t
adds_none {p} {u = u} step was h g t n =
    let i = h.largest u was in
    let e = i.ends t n.3 in
    let b : t < p.begun = elim (newest t step n.0) [ inl b ↦ b | inr r ↦ absurd (shut_not_running g.shut t n.0 n.2 r) ] in
    (b, shut_not_terminated h.shut t b e, i.runs t n.2, e)

-- an outcome of 0, 2 or 3
pub going_on_adds_none : {p q : Picture} {v : Event} {n : Outcome} {s u : Points} → Sound p → Sound q → Step p v n q → GoesOnAfter n
    → LargestShutPoints p s → LargestShutPoints q u → (t : ℕ) → Named q u t → Named p s t
going_on_adds_none {u = u} k l step on h g = adds_none step (shut_back_going_on u k l step on g.shut) h g

-- an actor that has not finished and is able
pub able_adds_none : {p q : Picture} {v : Event} {n : Outcome} {s u : Points} → Sound p → Sound q → Step p v n q → v.action ≢ Finish → Able q v.actor
    → LargestShutPoints p s → LargestShutPoints q u → (t : ℕ) → Named q u t → Named p s t
able_adds_none {v = v} {u = u} k l step on able h g =
    adds_none step (shut_back u k l step on (not_T (u.runs v.actor) (able u g.shut)) g.shut) h g
