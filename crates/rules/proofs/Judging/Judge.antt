-- Judging: the points that follow, taken in one by one, leave out the largest shut set. So every picture has one.
use Rattle.std.proofs.Common.{◌≡◌, ℕ, zero, suc, ◌+◌, ◌<◌, ◌≤◌, Bool, true, false, T, refl, ap, ◌∙◌, inl, inr, arith, T_not}
use native.Mathlib.Decide.{dec_lt, ℕ_discrete}
use lib.Dec.{not_T}
use Rattle.rules.specs.Book.{Inside, LargestShutPoints, Named, outside, Points}
use Rattle.rules.specs.Picture.{at, Picture, status}
use Rattle.rules.specs.Theorems.{LargestShutSetsExist}
use Rattle.rules.proofs.Basics.Decide.{dec_not, dec_T, find, Found, not_not, sure}
use Rattle.rules.proofs.Basics.Statuses.{dec_terminated}
use Rattle.rules.proofs.Basics.Tasks.{at_each, at_same}
use Rattle.rules.proofs.Basics.Totals.{total, total_less}
use Rattle.rules.proofs.Judging.Decide.{dec_new_end, dec_new_run, NewEnd, NewRun}
use Rattle.rules.proofs.Judging.Law.{ends_law, runs_law}
use Rattle.rules.proofs.NamedStayDead.Closed.{Closed, closed_outside}

abbrev pub with_run : Points → ℕ → Points
with_run o t = record { runs = at o.runs t true; ends = o.ends }

abbrev pub with_end : Points → ℕ → Points
with_end o t = record { runs = o.runs; ends = at o.ends t true }

-- take in points that follow, at most n of them
unfoldable pub grow_by : (p : Picture) → (Points → Points) → (o : Points) → Found p.begun (NewRun p o) → Found p.begun (NewEnd p o) → Points
grow_by p next o (inl (t, _, _)) _ = next (with_run o t)
grow_by p next o (inr _) (inl (t, _, _)) = next (with_end o t)
grow_by p next o (inr _) (inr _) = o

unfoldable pub grow : Picture → ℕ → Points → Points
unfolding find dec_new_run dec_new_end grow_by
grow p zero o = o
grow p (suc n) o = grow_by p (grow p n) o (find (NewRun p o) (dec_new_run p o) p.begun) (find (NewEnd p o) (dec_new_end p o) p.begun)

-- how many points are not taken in
abbrev pub lacks : Bool → ℕ
lacks true = 0
lacks false = 1

abbrev pub missing : Points → ℕ → ℕ
missing o t = lacks (o.runs t) + lacks (o.ends t)

lacks_in : (b : Bool) → lacks b ≡ 0 → T b
lacks_in true e = tt
lacks_in false e = absurd (omega (arith, e))

lacks_out : (b : Bool) → (T b → ⊥) → lacks b ≡ 1
lacks_out true n = absurd (n tt)
lacks_out false n = refl

run_fewer : (o : Points) (t x : ℕ) → missing (with_run o t) x ≤ missing o x
run_fewer o t = at_each (λ x b. lacks b + lacks (o.ends x) ≤ missing o x) o.runs t true (omega arith) (λ x _. omega arith)

end_fewer : (o : Points) (t x : ℕ) → missing (with_end o t) x ≤ missing o x
end_fewer o t = at_each (λ x b. lacks (o.runs x) + lacks b ≤ missing o x) o.ends t true (omega arith) (λ x _. omega arith)

run_less : (o : Points) (t : ℕ) → (T (o.runs t) → ⊥) → missing (with_run o t) t < missing o t
run_less o t n = omega (arith, ap lacks (at_same o.runs t true), lacks_out (o.runs t) n)

end_less : (o : Points) (t : ℕ) → (T (o.ends t) → ⊥) → missing (with_end o t) t < missing o t
end_less o t n = omega (arith, ap lacks (at_same o.ends t true), lacks_out (o.ends t) n)

total_none : (f : ℕ → ℕ) (n : ℕ) → total f n ≤ 0 → (x : ℕ) → x < n → f x ≡ 0
total_none f zero h x b = absurd (omega arith)
total_none f (suc n) h x b = elim (ℕ_discrete x n) [ yes e ↦ ap f e ∙ omega arith | no e ↦ total_none f n (omega arith) x (omega arith) ]

-- so many points taken in leave nothing new
module _ (p : Picture) (n : ℕ) (next : Points → Points) (rec : (o : Points) → total (missing o) p.begun ≤ n → Closed p (next o)) (o : Points)
    (h : total (missing o) p.begun ≤ suc n) where
  grown_by_closed : (x : Found p.begun (NewRun p o)) (y : Found p.begun (NewEnd p o)) → Closed p (grow_by p next o x y)
  unfolding grow_by
  grown_by_closed (inl (t, b, f)) _ = rec (with_run o t)
      (let k = total_less (missing (with_run o t)) (missing o) (run_fewer o t) t (run_less o t f.1) p.begun b in omega arith)
  grown_by_closed (inr _) (inl (t, b, f)) = rec (with_end o t)
      (let k = total_less (missing (with_end o t)) (missing o) (end_fewer o t) t (end_less o t f.1) p.begun b in omega arith)
  grown_by_closed (inr f) (inr g) = record {
    runs = λ t r. sure (dec_T (o.runs t)) (λ k. f t r.0 (r.1, k));
    ends = λ t r. sure (dec_T (o.ends t)) (λ k. g t r.0 (r.1, k));
  }

pub grown_closed : (p : Picture) (n : ℕ) (o : Points) → total (missing o) p.begun ≤ n → Closed p (grow p n o)
unfolding grow
grown_closed p zero o h = record {
  runs = λ t r. lacks_in (o.runs t) (let k = total_none (missing o) p.begun h t r.0 in omega arith);
  ends = λ t r. lacks_in (o.ends t) (let k = total_none (missing o) p.begun h t r.0 in omega arith);
}
grown_closed p (suc n) o h = grown_by_closed p n (grow p n) (grown_closed p n) o h
    (find (NewRun p o) (dec_new_run p o) p.begun) (find (NewEnd p o) (dec_new_end p o) p.begun)

-- and they lie in every closed set
module _ (p : Picture) (c : Points) (closed : Closed p c) where
  run_inside : (o : Points) (t : ℕ) → Inside o c → t < p.begun → NewRun p o t → Inside (with_run o t) c
  run_inside o t i b f = record {
    runs = at_each (λ x k. T k → T (c.runs x)) o.runs t true (λ _. closed.runs t (runs_law p o c i t (b, f.0))) (λ x _. i.runs x);
    ends = i.ends;
  }

  end_inside : (o : Points) (t : ℕ) → Inside o c → t < p.begun → NewEnd p o t → Inside (with_end o t) c
  end_inside o t i b f = record {
    runs = i.runs;
    ends = at_each (λ x k. T k → T (c.ends x)) o.ends t true (λ _. closed.ends t (ends_law p o c i t (b, f.0))) (λ x _. i.ends x);
  }

  grown_by_inside : (next : Points → Points) → ((o : Points) → Inside o c → Inside (next o) c) → (o : Points) → Inside o c
      → (x : Found p.begun (NewRun p o)) (y : Found p.begun (NewEnd p o)) → Inside (grow_by p next o x y) c
  unfolding grow_by
  grown_by_inside next rec o i (inl (t, b, f)) _ = rec (with_run o t) (run_inside o t i b f)
  grown_by_inside next rec o i (inr _) (inl (t, b, f)) = rec (with_end o t) (end_inside o t i b f)
  grown_by_inside next rec o i (inr _) (inr _) = i

  pub grown_inside : (n : ℕ) (o : Points) → Inside o c → Inside (grow p n o) c
  unfolding grow
  grown_inside zero o i = i
  grown_inside (suc n) o i = grown_by_inside (grow p n) (grown_inside n) o i
      (find (NewRun p o) (dec_new_run p o) p.begun) (find (NewEnd p o) (dec_new_end p o) p.begun)

abbrev pub no_points : Points
no_points = record { runs = λ _. false; ends = λ _. false }

-- the points that are reached, and those left out
unfoldable pub reached : Picture → Points
unfolding grow
reached p = grow p (total (missing no_points) p.begun) no_points

inside_twice : (o : Points) → Inside (outside (outside o)) o
inside_twice o = record { runs = λ t h. not_not (o.runs t) h; ends = λ t h. not_not (o.ends t) h }

unfoldable pub judged : Picture → Points
unfolding reached
judged p = outside (reached p)

pub judged_largest : (p : Picture) → LargestShutPoints p (judged p)
unfolding judged reached
judged_largest p = record {
  shut = record {
    runs = λ t i h. T_not (o.runs t) i (closed.runs t (runs_law p (outside (outside o)) o (inside_twice o) t h));
    ends = λ t i h. T_not (o.ends t) i (closed.ends t (ends_law p (outside (outside o)) o (inside_twice o) t h));
  };
  largest = λ u k. let i = grown_inside p (outside u) (closed_outside k) (total (missing no_points) p.begun) no_points (record { runs = λ t h. absurd h; ends = λ t h. absurd h }) in record {
    runs = λ t h. not_T (o.runs t) (λ j. T_not (u.runs t) (i.runs t j) h);
    ends = λ t h. not_T (o.ends t) (λ j. T_not (u.ends t) (i.ends t j) h);
  };
}
  where
    o : Points
    o = reached p

    closed : Closed p (reached p)
    closed = grown_closed p (total (missing no_points) p.begun) no_points (omega arith)

-- so every picture has one
pub largest_shut_sets_exist : LargestShutSetsExist
largest_shut_sets_exist p = (judged p, judged_largest p)

unfoldable pub dec_named : (p : Picture) (t : ℕ) → Dec (Named p (judged p) t)
unfolding dec_lt dec_not dec_terminated dec_T judged
dec_named p t = elim (dec_lt t p.begun) [
  | no h ↦ no (λ k. h k.0)
  | yes b ↦ elim (dec_terminated (status p t)) [
    | yes e ↦ no (λ k. k.1 e)
    | no n ↦ elim (dec_T ((judged p).runs t)) [
      | no h ↦ no (λ k. h k.2)
      | yes r ↦ elim (dec_T ((judged p).ends t)) [
        | no h ↦ no (λ k. h k.3)
        | yes e ↦ yes (b, n, r, e)
      ]
    ]
  ]
]
