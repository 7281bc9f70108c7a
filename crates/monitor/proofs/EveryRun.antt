-- After every run the names are exactly the dead tasks.
use Rattle.std.proofs.Common.{◌≡◌, ℕ, zero, suc, Bool, true, false, ◌↔◌, List, [], ◌∷◌, Ok, Err, sym, refl, ◌∙◌, subst, inl, inr, ⊎_elim, arith}
use Rattle.std.proofs.lemmas.Bool.{both_ways, or_cases, or_left, or_right, cases_Bool}
use Rattle.rules.specs.declared.vocabulary.Event.{Event}
use Rattle.rules.specs.declared.vocabulary.Outcome.{Outcome}
use Rattle.rules.specs.Dead.{Dead}
use Rattle.rules.specs.Picture.{Picture, fresh}
use Rattle.rules.specs.Rules.{Step, none, more, Reached}
use Rattle.rules.proofs.NamedStayDead.Steps.{lasts}
use Rattle.rules.proofs.WaysOut.Drain.{steps_append}
use Rattle.tape.specs.declared.tape.PlayRefusal.TheVariants.{LineRefused, TapeTooLong}
use Rattle.tape.specs.Tapes.{Accepts as LinesAccepted}
use Rattle.monitor.specs.State.{State, New, Accepts, LineTold}
use Rattle.monitor.specs.Runs.{Call, accepted, refused, played, Leads, Run, new, next, EveryRunIsExact}

-- a dead task stays dead
pub dead_stays : {p q : Picture} {v : Event} {o : Outcome} → Step p v o q → (t : ℕ) → Dead p t → Dead q t
dead_stays step t d = record {
  begun = (lasts (record { runs = λ _. false; ends = λ _. false }) t step d.begun).begun;
  not_running = λ e. d.for_ever _ _ (more step none) (inl e);
  not_terminated = λ e. d.for_ever _ _ (more step none) (inr e);
  for_ever = λ vs r rest. d.for_ever _ r (more step rest);
}

-- what is kept: the picture is reached, and a task stands named exactly when it is dead
record Kept (s : State) : Type 0 where
  reached : Reached s.picture
  names : (t : ℕ) → (s.named t ≡ true) ↔ Dead s.picture t

-- in a new picture nobody is dead
pub nobody_dead : (t : ℕ) → Dead fresh t → ⊥
nobody_dead zero d = d.not_running refl
nobody_dead (suc t) d = omega (arith, d.begun)

kept_new : {s : State} → New s → Kept s
kept_new {s} n = record {
  reached = subst Reached (sym n.picture) ([], none);
  names = λ t. (
    λ e. absurd (both_ways (s.named t) (n.named t) e),
    λ d. absurd (nobody_dead t (subst (λ p. Dead p t) n.picture d)),
  );
}

module _ {s u : State} {v : Event} {o : Outcome} {added : ℕ → Bool} (a : Accepts s v o added u) where
  names_stay : (t : ℕ) → s.named t ≡ true → u.named t ≡ true
  names_stay t e = a.names t ∙ or_left (s.named t) (added t) e

  kept_accepts : Kept s → Kept u
  kept_accepts k = record {
    reached = (_, steps_append k.reached.1 (more a.step none));
    names = λ t. (
      λ e. ⊎_elim
          (λ (old : s.named t ≡ true). dead_stays a.step t ((k.names t).0 old))
          (λ (fresh : added t ≡ true). ((a.adds t).0 fresh).0)
          (or_cases (s.named t) (added t) (sym (a.names t) ∙ e)),
      λ d. ⊎_elim
          (λ (old : s.named t ≡ true). names_stay t old)
          (λ (not_yet : s.named t ≡ false). a.names t ∙ or_right (s.named t) (added t) ((a.adds t).1 (d, λ was. both_ways (s.named t) not_yet ((k.names t).1 was))))
          (cases_Bool (s.named t)),
    );
  }

-- the lines of a tape that are told
kept_lines : (s : State) (ls : List (List ℕ)) (u : State) → LinesAccepted LineTold s ls u → Kept s → Kept u
kept_lines s [] u e k = subst Kept (sym e) k
kept_lines s (l ∷ ls) u (w, told, rest) k = kept_lines w ls u rest (kept_accepts told.2.2 k)

lines_stay : (s : State) (ls : List (List ℕ)) (u : State) → LinesAccepted LineTold s ls u → (t : ℕ) → s.named t ≡ true → u.named t ≡ true
lines_stay s [] u e t n = subst (λ w. w.named t ≡ true) (sym e) n
lines_stay s (l ∷ ls) u (w, told, rest) t n = lines_stay w ls u rest t (names_stay told.2.2 t n)

-- a call
kept_call : (s : State) (c : Call) (u : State) → Leads s c u → Kept s → Kept u
kept_call s (accepted v o added) u a k = kept_accepts a k
kept_call s (refused v e) u r k = subst Kept (sym r.1) k
kept_call s (played tape (Ok n)) u p k = kept_lines s _ u p.2 k
kept_call s (played tape (Err (LineRefused n))) u p k = kept_lines s _ u p.accepted k
kept_call s (played tape (Err TapeTooLong)) u p k = subst Kept (sym p.1) k

call_stays : (s : State) (c : Call) (u : State) → Leads s c u → (t : ℕ) → s.named t ≡ true → u.named t ≡ true
call_stays s (accepted v o added) u a t n = names_stay a t n
call_stays s (refused v e) u r t n = subst (λ w. w.named t ≡ true) (sym r.1) n
call_stays s (played tape (Ok n)) u p t e = lines_stay s _ u p.2 t e
call_stays s (played tape (Err (LineRefused n))) u p t e = lines_stay s _ u p.accepted t e
call_stays s (played tape (Err TapeTooLong)) u p t e = subst (λ w. w.named t ≡ true) (sym p.1) e

kept_run : {cs : List Call} {s : State} → Run cs s → Kept s
kept_run (new n) = kept_new n
kept_run (next {s} {u} {c} r l) = kept_call s c u l (kept_run r)

pub every_run_is_exact : EveryRunIsExact
every_run_is_exact cs s r = let k = kept_run r in record { reached = k.reached; names = k.names; stay = call_stays s }
